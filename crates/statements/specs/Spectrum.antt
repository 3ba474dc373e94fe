-- What reading a Spectrum 512 file promises (document 02, ticket 5, with demands 1 and 2).
use Rattle.std.specs.Prelude.{ℕ, ◌+◌, ◌*◌, ◌≤◌, ◌<◌, ◌≡◌, length, take, drop, replicate}
use mathlib.Core.List.{List, [], ◌∷◌, ◌++◌, flatten}
use Rattle.lists.specs.Over.{over}
use Rattle.outcome.specs.declared.Refusal.{Refusal}
use Rattle.outcome.specs.Outcome.{none, refusal_of}
use Rattle.resolution.specs.declared.Resolution.TheVariants.{Low}
use Rattle.lines.specs.Registers.{register, rows_register}
use Rattle.spectrum.specs.Accepts.{AcceptsSpectrum}
use Rattle.spectrum.specs.Reading.{Reading, read_spectrum, screen_area, palette_area}
use Rattle.statements.specs.Blank.{zeros}

-- 9,552 words at least
abbrev pub HoldsPaletteWords : List ℕ → Type 0
HoldsPaletteWords palettes = 9552 ≤ length palettes

-- some reading fits a file of a kind, with areas of these sizes
pub record AcceptsReading (kind : ℕ) (file screen palettes : List ℕ) : Type 0 where
  pub reading : Reading
  pub fits : AcceptsSpectrum file (length screen) (length palettes) reading kind

-- an accepted reading: 32,000 bytes of screen over the front of one area and 9,552 palette words over that of the other
pub record ReadsSpectrum (r : Reading) (a : Refusal) (screen screen_after palettes palettes_after : List ℕ)
    : Type 0 where
  pub accepted : a ≡ none
  pub screen_size : length r.screen ≡ 32000
  pub palette_size : length r.palettes ≡ 9552
  pub screen_later : screen_after ≡ over r.screen screen
  pub palettes_later : palettes_after ≡ over r.palettes palettes

-- the registers of an SPC file: 0 all over line 0, and in line y + 1 plane p of the data map's bytes, which has 199
-- rows of 40 bytes, adds 2^p by its row y
pub record ShowsPlanes (planes screen : List ℕ) : Type 0 where
  pub top : (x : ℕ) → x < 320 → register screen Low x 0 ≡ 0
  pub below : (x y : ℕ) → x < 320 → y < 199
      → register screen Low x (y + 1) ≡ rows_register Low (λ p. take 40 (drop ((p * 199 + y) * 40) planes)) x

-- a refused one: both areas as they were
pub record ReadsNoSpectrum (why a : Refusal) (screen screen_after palettes palettes_after : List ℕ) : Type 0 where
  pub answer : a ≡ why
  pub screen_later : screen_after ≡ screen
  pub palettes_later : palettes_after ≡ palettes

-- the whole answer of `spectrum::read`
pub record AnswersSpectrumRead (kind : ℕ) (file : List ℕ) (a : Refusal)
    (screen screen_after palettes palettes_after : List ℕ) : Type 0 where
  pub answer : a ≡ refusal_of (read_spectrum kind file (length screen) (length palettes))
  pub screen_later : screen_after ≡ screen_area (read_spectrum kind file (length screen) (length palettes)) screen
  pub palettes_later : palettes_after ≡ palette_area (read_spectrum kind file (length screen) (length palettes)) palettes

-- blank files: of zeros; and 244 repeats of 130 zeros and one of 120, with 597 vectors that name no entry
pub data BlankSpectrum : ℕ → List ℕ → Type 0 where
  spu : BlankSpectrum 4 (zeros 51104)
  spc : BlankSpectrum 5
      (0x53 ∷ 0x50 ∷ 0 ∷ 0 ∷ 0 ∷ 0 ∷ 1 ∷ 0xEA ∷ 0 ∷ 0 ∷ 4 ∷ 0xAA
      ∷ ((flatten (replicate 244 (0x80 ∷ 0x00 ∷ [])) ++ (0x8A ∷ 0x00 ∷ [])) ++ zeros 1194))
