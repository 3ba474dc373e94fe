-- The Tiny files that reading accepts, and what it gives (document 02, ticket 1, with demand 2).
use Rattle.std.specs.Prelude.{ℕ, ◌+◌, ◌≤◌, ◌≡◌, List, length}
use Rattle.picture.specs.Reading.{Reading}
use Rattle.tiny.specs.Layout.{highest_byte, resolution_byte, control_start, body_length, control_section, data_section}
use Rattle.tiny_runs.specs.Expands.{Expands}
use Rattle.tiny.specs.ScreenWords.{screen_words}
use Rattle.tiny.specs.Reading.{tiny_reading}

-- its resolution byte is allowed, its parts fit, and its runs fill 16,000 words exactly from all the data
pub record AcceptsTiny (file : List ℕ) : Type 0 where
  pub words : List ℕ
  pub runs : ℕ
  pub allowed : resolution_byte file ≤ highest_byte
  pub fits : length file ≡ control_start file + body_length file
  pub full : length words ≡ screen_words
  pub expands : Expands (control_section file) (data_section file) words runs

abbrev pub tiny_given : {file : List ℕ} → AcceptsTiny file → Reading
tiny_given {file} a = tiny_reading file a.runs a.words
