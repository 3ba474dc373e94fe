-- Reading a file of any kind (document 01, "Order of judging": read): the kind chooses the format, and nothing else
-- is said here.
use Rattle.std.specs.Prelude.{ℕ, cond, List, eqb, Ok}
use Rattle.outcome.specs.Outcome.{Outcome, refuse}
use Rattle.outcome.specs.Refusal.{unknown_kind}
use Rattle.picture.specs.Reading.{Reading, judge_area}
use Rattle.degas.specs.Reading.{read_degas}
use Rattle.neochrome.specs.Reading.{read_neochrome}
use Rattle.tiny.specs.Reading.{read_tiny}
use Rattle.reader.specs.declared.Kind.{Kind}
use Rattle.reader.specs.declared.Kind.TheVariants.{Degas, Neochrome, Tiny}

-- the kinds
abbrev pub kind_degas : ℕ
kind_degas = 1

abbrev pub kind_neochrome : ℕ
kind_neochrome = 2

abbrev pub kind_tiny : ℕ
kind_tiny = 3

-- the kind that a number names; any other number is refused
abbrev pub kind_of : ℕ → Outcome Kind
kind_of number =
    cond (eqb number kind_degas) (Ok Degas)
    (cond (eqb number kind_neochrome) (Ok Neochrome)
    (cond (eqb number kind_tiny) (Ok Tiny)
    (refuse unknown_kind)))

-- a file of a kind into an area of `area` bytes; an unknown kind is refused after a short area
unfoldable pub read_file : ℕ → List ℕ → ℕ → Outcome Reading
read_file kind file area =
    cond (eqb kind kind_degas) (read_degas file area)
    (cond (eqb kind kind_neochrome) (read_neochrome file area)
    (cond (eqb kind kind_tiny) (read_tiny file area)
    (judge_area area (refuse unknown_kind))))
