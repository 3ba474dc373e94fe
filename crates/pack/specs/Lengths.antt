-- The length of a row's least body, counted run by run from the left. No public contract cites it.
use Rattle.std.specs.Prelude.{ℕ, ◌+◌, Bool, true, false, cond, eqb}
use Rattle.pack.specs.Least.{size, Opening}
use Rattle.pack.specs.declared.Count.{Count}
use Rattle.pack.specs.Plan.{closed}

-- the bytes counted and whether a literal is under way, after a run of n bytes: a byte for each single byte of a
-- literal, and a control byte where it begins; a pair has two bytes in a literal or as a repeat; a longer run has two
abbrev pub count_run : ℕ → Count → Count
count_run n c =
    cond (eqb n 1)
    (record { len = c.len + cond c.literal 1 2; literal = true })
    (record { len = c.len + 2; literal = cond (eqb n 2) c.literal false })

-- the bytes still to come, where a literal is under way or not
abbrev pub bytes_left : Bool → Opening → ℕ
bytes_left t o = cond t (size o.rest) (size (closed o.more o.rest))
