-- Where palettes stop at one at fault, and with which number (document 02, ticket 5: "palette by palette 6 vector cut
-- short, 15 bit 15 set, 6 words cut short").
use Rattle.std.specs.Prelude.{ℕ, suc, ◌*◌, ◌^◌, ◌≤◌, ◌<◌, ◌≡◌, List, ◌++◌, length}
use Rattle.words.specs.Word.{word_bytes, words_bytes}
use Rattle.spectrum_colour_map.specs.Vector.{named}

-- `StopsPalettes n input number rest`: of n palettes, whole ones at the front of the input come before one at fault
-- with this number, whose vector begins `rest`
pub data StopsPalettes : ℕ → List ℕ → ℕ → List ℕ → Type 0 where
  -- the vector is cut short
  vector_cut : {n : ℕ} {input : List ℕ} → length input < 2 → StopsPalettes (suc n) input 6 input
  -- its bit 15 is set
  bit15 : {n : ℕ} (vector : ℕ) (input : List ℕ) → 2 ^ 15 ≤ vector → vector < 2 ^ 16
      → StopsPalettes (suc n) (word_bytes vector ++ input) 15 (word_bytes vector ++ input)
  -- its words are cut short
  words_cut : {n : ℕ} (vector : ℕ) (input : List ℕ) → vector < 2 ^ 15 → length input < named vector * 2
      → StopsPalettes (suc n) (word_bytes vector ++ input) 6 (word_bytes vector ++ input)
  -- a later palette
  after_palette : {n number : ℕ} (vector : ℕ) (words : List ℕ) {input rest : List ℕ} → vector < 2 ^ 15
      → length words ≡ named vector → StopsPalettes n input number rest
      → StopsPalettes (suc n) (word_bytes vector ++ (words_bytes words ++ input)) number rest
