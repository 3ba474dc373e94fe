-- The relation "these bytes hold these palettes", from the words of sources 000 and 001 and of ticket 5.
use Rattle.std.specs.Prelude.{ℕ, suc, ◌^◌, ◌<◌, ◌≡◌, List, [], ◌∷◌, ◌++◌}
use Rattle.words.specs.Word.{word_bytes, words_bytes}
use Rattle.spectrum_colour_map.specs.Vector.{bit}

-- `Entries vector i words before after`: from entry i to 15, the words are those of the entries that the vector names,
-- in order, and `after` has them in the place of those of `before`; the others are as before
pub data Entries (vector : ℕ) : ℕ → List ℕ → List ℕ → List ℕ → Type 0 where
  no_entry : Entries vector 16 [] [] []
  included : {i word old : ℕ} {words before after : List ℕ} → bit vector i ≡ 1
      → Entries vector (suc i) words before after → Entries vector i (word ∷ words) (old ∷ before) (word ∷ after)
  kept : {i old : ℕ} {words before after : List ℕ} → bit vector i ≡ 0
      → Entries vector (suc i) words before after → Entries vector i words (old ∷ before) (old ∷ after)

-- `HoldsPalettes n before input rest made`: the front of the input holds n palettes, which after the palette before
-- them are the words `made`, and `rest` is the input behind them. Bit 15 of no vector is set.
pub data HoldsPalettes : ℕ → List ℕ → List ℕ → List ℕ → List ℕ → Type 0 where
  no_palettes : {before rest : List ℕ} → HoldsPalettes 0 before rest rest []
  and_palette : {n : ℕ} (vector : ℕ) (words palette : List ℕ) {before input rest made : List ℕ} → vector < 2 ^ 15
      → Entries vector 0 words before palette → HoldsPalettes n palette input rest made
      → HoldsPalettes (suc n) before (word_bytes vector ++ (words_bytes words ++ input)) rest (palette ++ made)
