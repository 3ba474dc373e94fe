-- An outcome of reading, as the contracts say it.
use Rattle.outcome.specs.Outcome.{Outcome}
use mathlib.Core.Path.{◌≡◌, ap}
use mathlib.Core.List.{List}
use Prim.Native.Nat.{ℕ}
use lib.ListN.{length}
use Rattle.outcome.specs.declared.Refusal.{Refusal}
use Rattle.picture.specs.Reading.{Reading, read_answer, read_area}
use Rattle.reader.specs.Reading.{read_file}
use Rattle.demands.specs.Accepted.{Accepts, given}
use Rattle.demands.specs.Refusals.{Refuses}
use Rattle.demands.proofs.Acceptance.{file-complete}
use Rattle.demands.proofs.Refusals.{read-refused}
use Rattle.demands.proofs.Registers.{area-register, area-past}
use Rattle.statements.specs.Areas.{HoldsScreen}
use Rattle.statements.specs.Blank.{Blank}
use Rattle.statements.specs.Reading.{Reads, ReadsNothing}
use Rattle.statements.proofs.Blank.{blank-fits}

module _ (kind : ℕ) (file area : List ℕ) where
  abbrev outcome : Outcome Reading
  outcome = read_file kind file (length area)

  pub reads : HoldsScreen area → (fits : Accepts kind file)
      → Reads (given fits) (read_answer outcome) area (read_area outcome area)
  reads room fits =
      let e = file-complete kind file (length area) room fits in
      record {
        accepted = ap (λ (o : Outcome Reading). (read_answer o).refusal) e;
        picture = ap (λ (o : Outcome Reading). (read_answer o).picture) e;
        body = ap (λ (o : Outcome Reading). (read_answer o).body) e;
        records = ap (λ (o : Outcome Reading). (read_answer o).records) e;
        registers = area-register kind file area room fits;
        later = ap (λ (o : Outcome Reading). read_area o area) e;
        past = area-past kind file area room fits;
      }

  pub blank-read : HoldsScreen area → Blank kind file → (read_answer outcome).refusal.number ≡ 0
  blank-read room blank =
      ap (λ (why : Refusal). why.number) (reads room (blank-fits kind file blank)).accepted

  pub reads_nothing : Refuses (read_answer outcome).refusal
      → ReadsNothing (read_answer outcome) area (read_area outcome area)
  reads_nothing h =
      let r = read-refused kind file area h in
      record { later = r.0; picture = r.1; body = r.2; records = r.3 }
