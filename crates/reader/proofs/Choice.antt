-- Laws of the choice of a format by the kind.
use Rattle.std.specs.Prelude.{Ok, Err}
use mathlib.Core.Path.{◌≡◌, refl, ◌∙◌}
use mathlib.Core.Bool.{Bool, true, false, cond}
use mathlib.Core.List.{List}
use Prim.Native.Nat.{ℕ, ◌<◌}
use native.Mathlib.Omega.{arith}
use lib.Dec.{eqb}
use borrow.Author.Tests.{eq-eqb, ne_eqb}
use Rattle.lists.proofs.Cond.{cond-ltb, cond-eqb}
use Rattle.outcome.specs.Outcome.{Outcome, refuse, Judged}
use Rattle.outcome.specs.Refusal.{area_too_short, unknown_kind}
use Rattle.resolution.specs.Shapes.{screen_bytes}
use Rattle.picture.specs.Reading.{Reading, judge_area}
use Rattle.picture.proofs.Reading.{area-short}
use Rattle.degas.specs.Reading.{read_degas}
use Rattle.neochrome.specs.Reading.{read_neochrome}
use Rattle.tiny.specs.Reading.{read_tiny}
use Rattle.reader.specs.declared.Kind.{Kind}
use Rattle.reader.specs.declared.Kind.TheVariants.{Degas, Neochrome, Tiny}
use Rattle.reader.specs.Reading.{kind_degas, kind_neochrome, kind_tiny, kind_of, read_file}

module _ (kind : ℕ) (file : List ℕ) (area : ℕ) where
  pub file-degas : kind ≡ kind_degas → read_file kind file area ≡ read_degas file area
  unfolding read_file
  file-degas h = simp (eq-eqb kind kind_degas h)

  pub file-neochrome : kind ≡ kind_neochrome → read_file kind file area ≡ read_neochrome file area
  unfolding read_file
  file-neochrome h = simp (ne_eqb kind kind_degas (omega arith), eq-eqb kind kind_neochrome h)

  pub file-tiny : kind ≡ kind_tiny → read_file kind file area ≡ read_tiny file area
  unfolding read_file
  file-tiny h =
      simp (ne_eqb kind kind_degas (omega arith), ne_eqb kind kind_neochrome (omega arith), eq-eqb kind kind_tiny h)

  -- any other kind
  pub file-unknown : (kind ≡ kind_degas → ⊥) → (kind ≡ kind_neochrome → ⊥) → (kind ≡ kind_tiny → ⊥)
      → read_file kind file area ≡ judge_area area (refuse unknown_kind)
  unfolding read_file
  file-unknown h k l = simp (ne_eqb kind kind_degas h, ne_eqb kind kind_neochrome k, ne_eqb kind kind_tiny l)

  -- what a kind chooses, and of an unknown one the refusal after a short area
  abbrev by_kind : Outcome Kind → Outcome Reading
  by_kind (Ok Degas) = read_degas file area
  by_kind (Ok Neochrome) = read_neochrome file area
  by_kind (Ok Tiny) = read_tiny file area
  by_kind (Err why) = judge_area area (Err why)

  pub file-by-kind : read_file kind file area ≡ by_kind (kind_of kind)
  unfolding read_file
  file-by-kind = go (eqb kind kind_degas) (eqb kind kind_neochrome) (eqb kind kind_tiny)
    where
      go : (a b c : Bool)
          → cond a (read_degas file area)
          (cond b (read_neochrome file area) (cond c (read_tiny file area) (judge_area area (refuse unknown_kind))))
          ≡ by_kind (cond a (Ok Degas) (cond b (Ok Neochrome) (cond c (Ok Tiny) (refuse unknown_kind))))
      go true b c = refl
      go false true c = refl
      go false false true = refl
      go false false false = refl

  -- a short area comes first in each
  pub file-short : area < screen_bytes → read_file kind file area ≡ refuse area_too_short
  unfolding read_degas read_neochrome read_tiny
  file-short h = file-by-kind ∙ go (kind_of kind)
    where
      go : (o : Outcome Kind) → by_kind o ≡ refuse area_too_short
      go (Ok Degas) = area-short area _ h
      go (Ok Neochrome) = area-short area _ h
      go (Ok Tiny) = area-short area _ h
      go (Err why) = area-short area _ h

  -- what holds of every accepted reading of each format holds of every accepted reading
  pub read_file-judged : (P : Reading → Type 0) → (kind ≡ kind_degas → Judged P (read_degas file area))
      → (kind ≡ kind_neochrome → Judged P (read_neochrome file area)) → (kind ≡ kind_tiny → Judged P (read_tiny file area))
      → Judged P (read_file kind file area)
  unfolding read_file
  read_file-judged P degas neochrome tiny =
      cond-eqb (Judged P) kind kind_degas degas (λ _.
      cond-eqb (Judged P) kind kind_neochrome neochrome (λ _.
      cond-eqb (Judged P) kind kind_tiny tiny (λ _.
      cond-ltb (Judged P) area screen_bytes (λ _ n. omega arith) (λ _ n. omega arith))))
