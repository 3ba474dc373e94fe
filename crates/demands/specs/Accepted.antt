-- The files that reading accepts, and what it gives (document 00, demand 2): one case a kind, each in its format's
-- words.
use Rattle.std.specs.Prelude.{ℕ, ◌≡◌, List}
use Rattle.picture.specs.Reading.{Reading}
use Rattle.degas.specs.Accepts.{AcceptsDegas, degas_given}
use Rattle.neochrome.specs.Accepts.{AcceptsNeochrome, neochrome_given}
use Rattle.tiny.specs.Accepts.{AcceptsTiny, tiny_given}
use Rattle.reader.specs.Reading.{kind_degas, kind_neochrome, kind_tiny}

-- its kind is known, its flag and resolution are allowed, its parts fit and its runs fill every plane row, or for Tiny
-- the screen's 16,000 words, exactly
pub data Accepts (kind : ℕ) (file : List ℕ) : Type 0 where
  degas : kind ≡ kind_degas → AcceptsDegas file → Accepts kind file
  neochrome : kind ≡ kind_neochrome → AcceptsNeochrome file → Accepts kind file
  tiny : kind ≡ kind_tiny → AcceptsTiny file → Accepts kind file

-- what an accepted file gives
abbrev pub given : {kind : ℕ} {file : List ℕ} → Accepts kind file → Reading
given (degas k a) = degas_given a
given (neochrome k a) = neochrome_given a
given (tiny k a) = tiny_given a
