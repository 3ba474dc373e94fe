-- Demand 3: the packed writer refuses exactly when it must, and otherwise writes a screen's least body. How long that
-- can be: degas/proofs/LeastBody.antt, `least-bound` and `bound-attained`.
use Rattle.std.specs.Prelude.{Ok, Some}
use mathlib.Core.Path.{◌≡◌, refl, sym, ◌∙◌}
use mathlib.Core.Logic.{◌↔◌}
use mathlib.Core.List.{List}
use Prim.Native.Nat.{ℕ, ◌≤◌}
use lib.ListN.{length}
use Rattle.lists.specs.Bytes.{Bytes}
use Rattle.outcome.specs.Outcome.{refuse}
use Rattle.outcome.specs.Refusal.{no_packed_body}
use Rattle.resolution.specs.declared.Resolution.{Resolution}
use Rattle.resolution.specs.Shapes.{screen_bytes}
use Rattle.resolution.specs.Choice.{chosen}
use Rattle.picture.specs.declared.Picture.{Picture}
use Rattle.picture.specs.Whole.{WholePicture}
use Rattle.picture.specs.Writing.{Writing, file_bytes}
use Rattle.degas.specs.declared.Form.TheVariants.{Packed}
use Rattle.degas.specs.Writing.{write_degas}
use Rattle.degas.specs.LeastBody.{WritesPacked, NoBodyBelow}
use Rattle.degas.proofs.LeastBody.{packed-refused-exactly, packed-otherwise}
use Rattle.writer.specs.Writing.{form_packed, write_file}
use Rattle.writer.proofs.Choice.{form-packed}

module _ (r : Resolution) (p : Picture) (screen : List ℕ) (out : ℕ) (known : chosen p.resolution ≡ Some r)
    (full : screen_bytes ≤ length screen) (room : file_bytes ≤ out) where
  by_form : write_file form_packed p screen out ≡ write_degas Packed p screen out
  by_form = form-packed form_packed p screen out refl

  -- "the packed writer refuses, with 9, exactly when no byte string under 32,000 bytes unpacks to that screen at that
  -- resolution"
  pub refused-exactly : Bytes screen
      → (write_file form_packed p screen out ≡ refuse no_packed_body) ↔ NoBodyBelow r screen
  refused-exactly bytes =
      let exactly = packed-refused-exactly r p screen out known full room bytes in
      (λ e. exactly.0 (sym by_form ∙ e), λ none. by_form ∙ exactly.1 none)

  -- "Otherwise it writes the picture's form 3 as document 01 fixes it, row by row; the body unpacks to that screen, and
  -- every other byte string that does has at least as many bytes. It reports that body's length and number of records,
  -- and a file length 66 above the body's."
  pub written-otherwise : WholePicture p → (write_file form_packed p screen out ≡ refuse no_packed_body → ⊥)
      → (w : Writing) × (write_file form_packed p screen out ≡ Ok w) × WritesPacked r p screen w
  written-otherwise whole h =
      let w =
      packed-otherwise r p screen out known full room whole (λ e. h (by_form ∙ e)) in (w.0, by_form ∙ w.1, w.2)
