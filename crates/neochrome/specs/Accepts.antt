-- The NEOchrome files that reading accepts, and what it gives (document 00, demand 2; document 01, "File layouts").
use Rattle.std.specs.Prelude.{ℕ, ◌≡◌, List, length, Some}
use Rattle.words.specs.Word.{word_at}
use Rattle.resolution.specs.declared.Resolution.{Resolution}
use Rattle.resolution.specs.Choice.{chosen}
use Rattle.picture.specs.Reading.{Reading}
use Rattle.neochrome.specs.Layout.{resolution_start, file_length}
use Rattle.neochrome.specs.Reading.{neochrome_reading}

-- its flag and resolution are allowed, and its parts fit
pub record AcceptsNeochrome (file : List ℕ) : Type 0 where
  pub resolution : Resolution
  pub flag : word_at file 0 ≡ 0
  pub allowed : chosen (word_at file resolution_start) ≡ Some resolution
  pub fits : length file ≡ file_length

abbrev pub neochrome_given : {file : List ℕ} → AcceptsNeochrome file → Reading
neochrome_given {file} a = neochrome_reading file a.resolution
