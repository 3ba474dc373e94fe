-- Demand 2: a file is accepted exactly when it fits, and then gives what its parts are.
use Rattle.std.specs.Prelude.{Ok}
use mathlib.Core.Path.{◌≡◌, sym, ap, ◌∙◌}
use mathlib.Core.Logic.{◌↔◌}
use mathlib.Core.List.{List}
use Prim.Native.Nat.{ℕ, ◌≤◌}
use Rattle.lists.specs.Bytes.{Bytes}
use Rattle.outcome.specs.declared.Refusal.{Refusal}
use Rattle.outcome.specs.Outcome.{Outcome, Judged}
use Rattle.outcome.proofs.Outcome.{judged-accepted, judged-value, judged-map}
use Rattle.resolution.specs.Shapes.{screen_bytes}
use Rattle.picture.specs.Reading.{Reading, read_answer}
use Rattle.picture.specs.Whole.{WholeReading}
use Rattle.degas.specs.Reading.{read_degas}
use Rattle.degas.proofs.Acceptance as degas-laws
use Rattle.degas.proofs.Whole.{degas-whole}
use Rattle.neochrome.specs.Reading.{read_neochrome}
use Rattle.neochrome.proofs.Acceptance as neochrome-laws
use Rattle.reader.specs.Reading.{read_file}
use Rattle.tiny.specs.Reading.{read_tiny}
use Rattle.tiny.proofs.Acceptance as tiny-laws
use Rattle.reader.proofs.Choice.{file-degas, file-neochrome, file-tiny, read_file-judged}
use Rattle.demands.specs.Accepted.{Accepts, degas, neochrome, tiny, given}
use Rattle.demands.proofs.Answers.{read_answer_lem}

module _ (kind : ℕ) (file : List ℕ) (area : ℕ) where
  -- what is read of a file that fits
  abbrev Given : Reading → Type 0
  Given q = (a : Accepts kind file) × (q ≡ given a)

  file-judged : Bytes file → Judged Given (read_file kind file area)
  file-judged bytes =
      read_file-judged kind file area Given
      (λ k.
      judged-map (degas-laws.Given file area) Given (read_degas file area) (degas-laws.degas-judged file area bytes)
      (λ q g. (degas k g.0, g.1)))
      (λ k.
      judged-map (neochrome-laws.Given file area) Given (read_neochrome file area)
      (neochrome-laws.neochrome-judged file area)
      (λ q g. (neochrome k g.0, g.1)))
      (λ k.
      judged-map (tiny-laws.Given file area) Given (read_tiny file area) (tiny-laws.tiny-judged file area bytes)
      (λ q g. (tiny k g.0, g.1)))

  -- an accepted reading has a whole picture of a known resolution, and a whole screen
  pub file-whole : Judged WholeReading (read_file kind file area)
  file-whole =
      read_file-judged kind file area WholeReading (λ _. degas-whole file area)
      (λ _. neochrome-laws.neochrome-whole file area)
      (λ _. tiny-laws.tiny-whole file area)

  module _ (room : screen_bytes ≤ area) where
    -- a file that fits is accepted, with what its parts give
    pub file-complete : (a : Accepts kind file) → read_file kind file area ≡ Ok (given a)
    file-complete (degas k a) = file-degas kind file area k ∙ degas-laws.degas-complete file area room a
    file-complete (neochrome k a) = file-neochrome kind file area k ∙ neochrome-laws.neochrome-complete file area room a
    file-complete (tiny k a) = file-tiny kind file area k ∙ tiny-laws.tiny-complete file area room a

    -- "Given a lent area of the stated size, a file of a known kind is accepted exactly when its flag and resolution
    -- are allowed, its parts fit and its runs fill every plane row exactly."
    pub acceptance : Bytes file → ((read_answer (read_file kind file area)).refusal.number ≡ 0) ↔ Accepts kind file
    acceptance bytes = (
      λ e.
          (judged-accepted Given (read_file kind file area) (file-judged bytes)
          (sym (ap (λ (why : Refusal). why.number) (read_answer_lem (read_file kind file area))) ∙ e)
          ).2.0,
      λ a. ap (λ (o : Outcome Reading). (read_answer o).refusal.number) (file-complete a),
    )

    -- "Reading follows the ST Picture Formats list as document 01 fixes it: resolution, palette, every register of
    -- every pixel and every count." An accepted file gives what its parts are, and nothing else.
    pub reading : Bytes file → (q : Reading) → (read_file kind file area ≡ Ok q) ↔ Given q
    reading bytes q = (
      judged-value Given (read_file kind file area) q (file-judged bytes),
      λ g. file-complete g.0 ∙ ap Ok (sym g.1),
    )
