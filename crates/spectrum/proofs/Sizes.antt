-- The sizes of an accepted reading, and the areas it is read into.
use Rattle.std.specs.Prelude.{Ok}
use mathlib.Core.Path.{◌≡◌, sym, ap, ◌∙◌}
use mathlib.Core.List.{List}
use Prim.Native.Nat.{ℕ, ◌≤◌, ◌<◌}
use native.Mathlib.Omega.{arith}
use lib.ListN.{length, get_or}
use Rattle.lists.proofs.Over.{get_or-over-in, get_or-over-past}
use Rattle.resolution.specs.Shapes.{screen_bytes}
use Rattle.spectrum_colour_map.specs.ColourMap.{palette_words}
use Rattle.spectrum_colour_map.proofs.ColourMap.{length-map}
use Rattle.spectrum_colour_map.proofs.HoldsPalettes.{palettes-held}
use Rattle.spectrum.specs.Layout.{colour_start}
use Rattle.spectrum.specs.Reading.{Reading, read_spectrum, screen_area, palette_area}
use Rattle.spectrum.specs.Accepts.{AcceptsSpectrum, spu, spc}
use Rattle.spectrum.proofs.Maps.{maps-at}
use Rattle.spectrum.proofs.Acceptance.{spectrum-accepted}

-- 32,000 bytes of screen and 9,552 palette words
pub reading-sizes : {file : List ℕ} {screen palettes kind : ℕ} {r : Reading}
    → AcceptsSpectrum file screen palettes r kind
    → (length r.screen ≡ screen_bytes) × (length r.palettes ≡ palette_words)
reading-sizes (spu room enough a) = (a.screen_size, a.palette_size)
reading-sizes {file} (spc room enough a) =
    let m = maps-at file a.packed a.colours a.maps in
    let held = palettes-held file (colour_start file) m.colours_at a.palettes in
    (a.screen.size, ap length (sym held.makes) ∙ length-map file (colour_start file))

-- the areas then hold them at the front, and behind them what they held
module _ (kind : ℕ) (file screen palettes : List ℕ) (r : Reading)
    (a : AcceptsSpectrum file (length screen) (length palettes) r kind) (k : ℕ) where
  is : read_spectrum kind file (length screen) (length palettes) ≡ Ok r
  is = spectrum-accepted kind file (length screen) (length palettes) r a

  pub screen-front : k < screen_bytes
      → get_or (screen_area (read_spectrum kind file (length screen) (length palettes)) screen) k 0 ≡ get_or r.screen k 0
  screen-front h = rw is (get_or-over-in r.screen screen k 0 (omega (arith, (reading-sizes a).0)))

  pub screen-later : screen_bytes ≤ k
      → get_or (screen_area (read_spectrum kind file (length screen) (length palettes)) screen) k 0 ≡ get_or screen k 0
  screen-later h = rw is (get_or-over-past r.screen screen k 0 (omega (arith, (reading-sizes a).0)))

  pub palettes-front : k < palette_words
      → get_or (palette_area (read_spectrum kind file (length screen) (length palettes)) palettes) k 0
      ≡ get_or r.palettes k 0
  palettes-front h = rw is (get_or-over-in r.palettes palettes k 0 (omega (arith, (reading-sizes a).1)))

  pub palettes-later : palette_words ≤ k
      → get_or (palette_area (read_spectrum kind file (length screen) (length palettes)) palettes) k 0
      ≡ get_or palettes k 0
  palettes-later h = rw is (get_or-over-past r.palettes palettes k 0 (omega (arith, (reading-sizes a).1)))
