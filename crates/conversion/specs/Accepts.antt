-- The DEGAS files that a conversion accepts, and what it writes of them, said without the functions that read and pack
-- (document 02, ticket 7).
use Rattle.std.specs.Prelude.{ℕ, ◌≡◌, true, false, List, replicate, Ok}
use Rattle.words.specs.Word.{word_at}
use Rattle.resolution.specs.declared.Resolution.{Resolution}
use Rattle.picture.specs.declared.Picture.{Picture}
use Rattle.picture.specs.Tables.{tail_bytes}
use Rattle.picture.specs.Reading.{Reading}
use Rattle.picture.specs.Writing.{Writing, raw_writing}
use Rattle.degas.specs.Layout.{tail_length, elite_file}
use Rattle.degas.specs.Accepts.{AcceptsDegas, degas_given}
use Rattle.degas.specs.LeastBody.{WritesPacked, NoBodyBelow}
use Rattle.conversion.specs.Converting.{ignored_bits}

-- to Elite: a plain file, so one that reading accepts and that has no tail, with bits 2 to 14 of its first word 0
pub record AcceptsToElite (file : List ℕ) : Type 0 where
  pub accepts : AcceptsDegas file
  pub absent : (degas_given accepts).picture.tail_present ≡ false
  pub clear : ignored_bits (word_at file 0) ≡ 0

-- what reading gives of it
abbrev pub plain_given : {file : List ℕ} → AcceptsToElite file → Reading
plain_given f = degas_given f.accepts

-- what is written of its picture and screen: form 3 where a body below 32,000 bytes unpacks to the screen, form 2 where
-- none does
pub data WritesElite (r : Resolution) (p : Picture) (screen : List ℕ) (w : Writing) : Type 0 where
  packed : WritesPacked r p screen w → WritesElite r p screen w
  raw : NoBodyBelow r screen → Ok w ≡ raw_writing (elite_file p screen) → WritesElite r p screen w

-- to plain: an Elite file, raw or packed, so one that reading accepts and that has a tail, which is all zero
pub record AcceptsToPlain (file : List ℕ) : Type 0 where
  pub accepts : AcceptsDegas file
  pub present : (degas_given accepts).picture.tail_present ≡ true
  pub zero : tail_bytes (degas_given accepts).picture.tail ≡ replicate tail_length 0

-- what reading gives of it
abbrev pub elite_given : {file : List ℕ} → AcceptsToPlain file → Reading
elite_given f = degas_given f.accepts
