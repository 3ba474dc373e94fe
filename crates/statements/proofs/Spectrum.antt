-- Outcomes of reading a Spectrum 512 file, as the contract says them.
use Rattle.std.specs.Prelude.{Ok, Err}
use mathlib.Core.Path.{◌≡◌, refl, sym, ap, ◌∙◌}
use mathlib.Core.Logic.{◌↔◌}
use mathlib.Core.List.{List}
use Prim.Native.Nat.{ℕ, ◌+◌, ◌*◌, ◌/◌, ◌%◌, ◌^◌, ◌-◌, ◌≤◌, ◌<◌}
use native.Mathlib.Nat.{zero-div, zero-mul}
use native.Mathlib.Omega.{arith}
use lib.ListN.{length, get_or, take, drop, get_or-replicate}
use Rattle.lists.specs.Bytes.{Bytes}
use Rattle.lists.specs.Over.{over}
use Rattle.lists.specs.Sum.{sum}
use Rattle.lists.proofs.Over.{get_or-over-in}
use Rattle.lists.proofs.Sum.{sum-ext}
use Rattle.outcome.specs.declared.Refusal.{Refusal}
use Rattle.outcome.specs.Outcome.{Outcome, refusal_of}
use Rattle.words.specs.Word.{word_at}
use Rattle.raster.specs.PlaneRows.{plane_row}
use Rattle.resolution.specs.declared.Resolution.TheVariants.{Low}
use Rattle.resolution.specs.Shapes.{raster_of}
use Rattle.lines.specs.Registers.{pixel_bit, register, rows_register}
use Rattle.lines.proofs.PlaneRegisters.{register-of-rows, register-front}
use Rattle.spectrum.specs.Accepts.{AcceptsSpc, AcceptsSpectrum, spu, spc}
use Rattle.spectrum.specs.Refuses.{RefusesSpectrum}
use Rattle.spectrum.specs.Screen.{ScreenOf}
use Rattle.spectrum.specs.Reading.{Reading, read_spectrum, screen_area, palette_area}
use Rattle.spectrum.proofs.Acceptance.{spectrum-accepts, spectrum-accepted, spectrum-refuses, spectrum-refused}
use Rattle.spectrum.proofs.Acceptance.{refuses-number}
use Rattle.spectrum.proofs.Blank.{blank_reading, spu-blank, spc-blank}
use Rattle.spectrum.proofs.Sizes.{reading-sizes}
use Rattle.demands.specs.Refusals.{Refuses}
use Rattle.statements.specs.Areas.{HoldsScreen}
use Rattle.statements.specs.Blank.{zeros}
use Rattle.statements.specs.Spectrum as told
use Rattle.statements.specs.Spectrum.{HoldsPaletteWords, AcceptsReading, ReadsSpectrum, ShowsPlanes}
use Rattle.statements.specs.Spectrum.{ReadsNoSpectrum, BlankSpectrum}

-- ---- the registers of a screen, from its plane rows

no_word : (k : ℕ) → k < 39 → word_at (zeros 40) k ≡ 0
unfolding word_at
no_word k h =
    let first : get_or (zeros 40) k 0 ≡ 0 = get_or-replicate 40 k 0 0 (omega arith) in
    let second : get_or (zeros 40) (k + 1) 0 ≡ 0 = get_or-replicate 40 (k + 1) 0 0 (omega arith) in
    omega arith

no-pixel : (k p : ℕ) → pixel_bit 0 k * 2 ^ p ≡ 0
unfolding pixel_bit
no-pixel k p = ap (λ (n : ℕ). n % 2 * 2 ^ p) (zero-div (2 ^ (15 - k))) ∙ zero-mul (2 ^ p)

module _ (planes s : List ℕ) (of : ScreenOf planes s) (x : ℕ) (h : x < 320) where
  top-register : register s Low x 0 ≡ 0
  unfolding sum
  top-register =
      register-of-rows s Low x 0 h
      ∙ sum-ext 4 _ (λ p. 0)
      (λ p k.
      let first : 0 * 4 + p ≡ p = omega arith in
      ap (λ (row : List ℕ). pixel_bit (word_at row (x / 16 * 2)) (x % 16) * 2 ^ p)
      (ap (plane_row s (raster_of Low)) first ∙ of.top p k)
      ∙ ap (λ (w : ℕ). pixel_bit w (x % 16) * 2 ^ p) (no_word (x / 16 * 2) (omega arith))
      ∙ no-pixel (x % 16) p)

  below-register : (y : ℕ) → y < 199
      → register s Low x (y + 1) ≡ rows_register Low (λ p. take 40 (drop ((p * 199 + y) * 40) planes)) x
  below-register y l =
      register-of-rows s Low x (y + 1) h
      ∙ sum-ext 4 _ (λ p. pixel_bit (word_at (take 40 (drop ((p * 199 + y) * 40) planes)) (x / 16 * 2)) (x % 16) * 2 ^ p)
      (λ p k. ap (λ (row : List ℕ). pixel_bit (word_at row (x / 16 * 2)) (x % 16) * 2 ^ p) (of.below y p l k))

-- ---- the contract

blank-fits : {kind : ℕ} {file : List ℕ} {screen palettes : ℕ} → BlankSpectrum kind file → 32000 ≤ screen
    → 9552 ≤ palettes → AcceptsSpectrum file screen palettes blank_reading kind
blank-fits told.spu room enough = spu room enough spu-blank
blank-fits told.spc room enough = spc room enough spc-blank

module _ (kind : ℕ) (file screen palettes : List ℕ) where
  abbrev outcome : Outcome Reading
  outcome = read_spectrum kind file (length screen) (length palettes)

  abbrev answer : Refusal
  answer = refusal_of outcome

  pub reads-spectrum : (r : Reading) → AcceptsSpectrum file (length screen) (length palettes) r kind
      → ReadsSpectrum r answer screen (screen_area outcome screen) palettes (palette_area outcome palettes)
  reads-spectrum r fits =
      let e = spectrum-accepted kind file (length screen) (length palettes) r fits in
      let sizes = reading-sizes fits in
      record {
        accepted = ap refusal_of e;
        screen_size = sizes.0;
        palette_size = sizes.1;
        screen_later = ap (λ (o : Outcome Reading). screen_area o screen) e;
        palettes_later = ap (λ (o : Outcome Reading). palette_area o palettes) e;
      }

  pub reads-planes : HoldsScreen screen → HoldsPaletteWords palettes → kind ≡ 5 → (r : Reading)
      (fits : AcceptsSpc file r) → ShowsPlanes fits.planes (screen_area outcome screen)
  reads-planes room enough k r fits =
      let later : screen_area outcome screen ≡ over r.screen screen =
      (reads-spectrum r (rw k (spc room enough fits))).screen_later in
      let same : (x y : ℕ) → x < 320 → y < 200
      → register (over r.screen screen) Low x y ≡ register r.screen Low x y =
      λ x y h l.
      register-front (over r.screen screen) r.screen
      (λ o b. get_or-over-in r.screen screen o 0 (omega (arith, fits.screen.size))) Low x y h l in
      rw later (record {
        top = λ x h. same x 0 h (omega arith) ∙ top-register fits.planes r.screen fits.screen x h;
        below = λ x y h l.
            same x (y + 1) h (omega arith) ∙ below-register fits.planes r.screen fits.screen x h y l;
      })

  pub reads-no-spectrum : Bytes file → (why : Refusal) → RefusesSpectrum file (length screen) (length palettes) kind why
      → ReadsNoSpectrum why answer screen (screen_area outcome screen) palettes (palette_area outcome palettes)
  reads-no-spectrum bytes why r =
      let e = spectrum-refused kind file (length screen) (length palettes) why bytes r in
      record {
        answer = ap refusal_of e;
        screen_later = ap (λ (o : Outcome Reading). screen_area o screen) e;
        palettes_later = ap (λ (o : Outcome Reading). palette_area o palettes) e;
      }

  pub blank-spectrum-read : HoldsScreen screen → HoldsPaletteWords palettes → BlankSpectrum kind file
      → answer.number ≡ 0
  blank-spectrum-read room enough blank =
      ap (λ (why : Refusal). why.number) (reads-spectrum blank_reading (blank-fits blank room enough)).accepted

  module _ (bytes : Bytes file) where
    accepts-number : (o : Outcome Reading) → outcome ≡ o → (refusal_of o).number ≡ 0
        → AcceptsReading kind file screen palettes
    accepts-number (Ok r) e n =
        record { reading = r; fits = spectrum-accepts file bytes kind (length screen) (length palettes) r e }
    accepts-number (Err why) e n =
        absurd (refuses-number kind file (length screen) (length palettes) why
        (spectrum-refuses file bytes kind (length screen) (length palettes) why e) n)

    pub reads-exactly : (answer.number ≡ 0) ↔ AcceptsReading kind file screen palettes
    reads-exactly = (
      accepts-number outcome refl,
      λ some. ap (λ (why : Refusal). why.number) (reads-spectrum some.reading some.fits).accepted,
    )

    refuses-why : (o : Outcome Reading) → outcome ≡ o → Refuses (refusal_of o)
        → RefusesSpectrum file (length screen) (length palettes) kind (refusal_of o)
    refuses-why (Ok r) e h = absurd (h refl)
    refuses-why (Err why) e h = spectrum-refuses file bytes kind (length screen) (length palettes) why e

    pub reads-why : Refuses answer → RefusesSpectrum file (length screen) (length palettes) kind answer
        × ReadsNoSpectrum answer answer screen (screen_area outcome screen) palettes (palette_area outcome palettes)
    reads-why h =
        let r = refuses-why outcome refl h in
        (r, reads-no-spectrum bytes answer r)

    -- "accepted exactly when no listed refusal comes"
    pub accepted-unlisted : (answer.number ≡ 0)
        ↔ ((why : Refusal) → RefusesSpectrum file (length screen) (length palettes) kind why → ⊥)
    accepted-unlisted = (
      λ e why r.
          refuses-number kind file (length screen) (length palettes) why r
          (sym (ap (λ (w : Refusal). w.number) (reads-no-spectrum bytes why r).answer) ∙ e),
      unlisted outcome refl,
    )
      where
        unlisted : (o : Outcome Reading) → outcome ≡ o
            → ((why : Refusal) → RefusesSpectrum file (length screen) (length palettes) kind why → ⊥)
            → (refusal_of o).number ≡ 0
        unlisted (Ok r) e none = refl
        unlisted (Err why) e none =
            absurd (none why (spectrum-refuses file bytes kind (length screen) (length palettes) why e))
