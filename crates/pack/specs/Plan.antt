-- The least body of a row from its runs of equal bytes: three or more are a repeat; between such runs one literal goes
-- up to the last single byte, and each pair after it is a repeat. That it is the least body: proofs/Plan.antt,
-- `plan-is-least`.
--
use Rattle.std.specs.Prelude.{ℕ, zero, suc, ◌+◌, ◌-◌, cond, List, [], ◌∷◌, ◌++◌, replicate, leb, eqb}
use Rattle.pack.specs.Least.{Body, empty, Opening}

-- so many equal bytes
pub record EqualRun : Type 0 where
  pub byte : ℕ
  pub count : ℕ

abbrev pub run : ℕ → ℕ → EqualRun
run x n = record { byte = x; count = n }

-- one byte more before runs
abbrev pub byte_before : ℕ → List EqualRun → List EqualRun
byte_before x [] = run x 1 ∷ []
byte_before x (r ∷ rs) = cond (eqb x r.byte) (run x (suc r.count) ∷ rs) (run x 1 ∷ r ∷ rs)

unfoldable pub runs : List ℕ → List EqualRun
runs [] = []
runs (x ∷ xs) = byte_before x (runs xs)

-- Runs are packed from the right, as an `Opening` of specs/Least.antt: `more` is how many of their bytes a literal
-- takes that is under way before them, and `rest` is those bytes and the packed bytes after them.

abbrev pub taking : ℕ → Body → Opening
taking k b = record { more = k; rest = b }

-- as a body of its own: the literal's control byte is put in front, where there is a literal
abbrev pub closed : ℕ → Body → Body
closed zero b = b
closed (suc k) b = record { bytes = k ∷ b.bytes; records = suc b.records }

-- the longest run that is part of a literal which takes so many bytes after the run: a single byte, or a pair before
-- more bytes
abbrev pub longest : ℕ → ℕ
longest zero = 1
longest (suc k) = 2

-- a run in front: part of the literal, or a repeat
unfoldable pub run_before : EqualRun → Opening → Opening
run_before r o =
    cond (leb r.count (longest o.more))
    (record {
      more = r.count + o.more;
      rest = record { bytes = replicate r.count r.byte ++ o.rest.bytes; records = o.rest.records };
    })
    (record {
      more = 0;
      rest = record {
        bytes = (257 - r.count) ∷ r.byte ∷ (closed o.more o.rest).bytes;
        records = suc (closed o.more o.rest).records;
      };
    })

unfoldable pub planned : List EqualRun → Opening
planned [] = record { more = 0; rest = empty }
planned (r ∷ rs) = run_before r (planned rs)

-- the packed row and its number of records
abbrev pub plan : List ℕ → Body
plan row = closed (planned (runs row)).more (planned (runs row)).rest
