-- The size of an accepted image, and the area it is read into.
use Rattle.std.specs.Prelude.{Ok}
use mathlib.Core.Path.{◌≡◌, refl, sym, ap, ◌∙◌}
use mathlib.Core.List.{List}
use Prim.Native.Nat.{ℕ, ◌+◌, ◌*◌, ◌/◌, ◌≤◌, ◌<◌}
use lib.ListN.{length, get_or}
use Rattle.lists.proofs.Over.{get_or-over-in, get_or-over-past}
use Rattle.filling.specs.Filling.{Filling}
use Rattle.gem_img.specs.Header.{header_bytes, pattern, width, lines, bytes_per_line}
use Rattle.gem_img.specs.Reading.{Image, read_img, img_area}
use Rattle.gem_img.specs.Accepts.{AcceptsImg}
use Rattle.gem_img.proofs.Header.{line-bytes, line-least}
use Rattle.gem_img.proofs.Lines.{lines-all}
use Rattle.gem_img.proofs.MakesLines.{makes-lines}

module _ (file : List ℕ) (image : Image) (a : AcceptsImg file image) where
  -- as many lines as it shows, each of its pixels by 8, rounded up
  pub image-length : length image.bytes ≡ image.lines * ((image.width + 7) / 8)
  image-length =
      let p = a.profiled in
      let t = makes-lines (pattern file) (bytes_per_line (width file)) file (line-least file p) (header_bytes file)
      (record { bytes = refl; inside = a.header }) a.body in
      let size = lines-all (pattern file) (bytes_per_line (width file)) file (header_bytes file) (lines file) t.end
      (ap (λ (f : Filling). f.ends) t.fills) in
      ap length (sym (ap (λ (f : Filling). f.made) t.fills))
      ∙ size
      ∙ rw (a.shown_width, a.shown_lines, line-bytes (width file))

  -- the area then holds its bytes at the front, and what it held behind them
  pub area-front : (area : List ℕ) (k : ℕ) → read_img file (length area) ≡ Ok image → k < length image.bytes
      → get_or (img_area (read_img file (length area)) area) k 0 ≡ get_or image.bytes k 0
  area-front area k e h = rw e (get_or-over-in image.bytes area k 0 h)

  pub area-later : (area : List ℕ) (k : ℕ) → read_img file (length area) ≡ Ok image → length image.bytes ≤ k
      → get_or (img_area (read_img file (length area)) area) k 0 ≡ get_or area k 0
  area-later area k e h = rw e (get_or-over-past image.bytes area k 0 h)
