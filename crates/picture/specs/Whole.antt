-- What a picture's type says of it (document 01, "The base order": a picture), and what every accepted reading holds.
use Rattle.std.specs.Prelude.{ℕ, ◌<◌, ◌≡◌, [], length, get_or, Some}
use Rattle.resolution.specs.declared.Resolution.{Resolution}
use Rattle.resolution.specs.Choice.{chosen}
use Rattle.resolution.specs.Shapes.{screen_bytes}
use Rattle.picture.specs.declared.Picture.{Picture}
use Rattle.picture.specs.Reading.{Reading}

-- 16 palette words, and four tables of four words
pub record WholePicture (p : Picture) : Type 0 where
  pub sixteen : length p.palette ≡ 16
  pub four : length p.tail ≡ 4
  pub words : (i : ℕ) → i < 4 → length (get_or p.tail i (record { words = [] })).words ≡ 4

-- a whole picture of a known resolution, and a screen of 32,000 bytes
pub record WholeReading (q : Reading) : Type 0 where
  pub whole : WholePicture q.picture
  pub resolution : Resolution
  pub known : chosen q.picture.resolution ≡ Some resolution
  pub size : length q.screen ≡ screen_bytes
