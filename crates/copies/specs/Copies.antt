-- Bytes copied, and one byte or some bytes repeated, over the front of an output.
use Rattle.std.specs.Prelude.{ℕ, ◌+◌, ◌*◌, cond, ◌&&◌, List, length, take, drop, replicate, leb}
use Rattle.lists.specs.Over.{over}
use Rattle.lists.specs.Repeated.{repeated}

-- n bytes from an offset of a source on; where the source or the output has not so many nothing changes
abbrev pub put_part : List ℕ → ℕ → ℕ → List ℕ → List ℕ
put_part source from n out =
    cond (leb (from + n) (length source) && leb n (length out)) (over (take n (drop from source)) out) out

-- one byte n times; where the output has not so many nothing changes
abbrev pub put_run : ℕ → ℕ → List ℕ → List ℕ
put_run byte n out = cond (leb n (length out)) (over (replicate n byte) out) out

-- a part so many times; where the output has not so many bytes nothing changes
abbrev pub put_times : List ℕ → ℕ → List ℕ → List ℕ
put_times part times out = cond (leb (times * length part) (length out)) (over (repeated times part) out) out
