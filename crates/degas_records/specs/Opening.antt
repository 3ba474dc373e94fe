-- A packed DEGAS file opened for its records (document 02, ticket 13: "Length and first word are judged at opening, in
-- 01's order for reading"; "2 for a file that is not packed, judged after 5").
use Rattle.std.specs.Prelude.{ℕ, not, List, length, ltb, Ok}
use Rattle.outcome.specs.Outcome.{Outcome, refuse_if, bind}
use Rattle.outcome.specs.Refusal.{unknown_kind, wrong_length}
use Rattle.resolution.specs.declared.Resolution.{Resolution}
use Rattle.degas.specs.declared.Header.{Header}
use Rattle.degas.specs.Layout.{packed_most}
use Rattle.degas.specs.Opening.{opening}

-- the header of a file of so many bytes: not packed, then longer than the longest packed file
abbrev pub judge_packed : ℕ → Header → Outcome Resolution
judge_packed size h =
    refuse_if (not h.packed) unknown_kind
    (refuse_if (ltb packed_most size) wrong_length
    (Ok h.resolution))

-- a file below 34 bytes, a resolution above 2, and then these
unfoldable pub packed_opening : List ℕ → Outcome Resolution
packed_opening file = bind (opening file) (judge_packed (length file))
