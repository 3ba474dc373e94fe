-- The refusals of reading a Spectrum 512 file, each with its place, in the ticket's order and said without the
-- functions that judge and unpack (document 02, ticket 5).
use Rattle.std.specs.Prelude.{ℕ, ◌+◌, ◌-◌, ◌≤◌, ◌<◌, ◌≡◌, List, length, replicate}
use Rattle.outcome.specs.declared.Refusal.{Refusal}
use Rattle.outcome.specs.Outcome.{refusal}
use Rattle.filling.specs.Makes.{Makes, Stops}
use Rattle.spectrum_data_map.specs.WholeRecord.{WholeRecord}
use Rattle.spectrum_data_map.specs.FaultyRecord.{FaultyRecord}
use Rattle.spectrum_colour_map.specs.HoldsPalettes.{HoldsPalettes}
use Rattle.spectrum_colour_map.specs.StopsPalettes.{StopsPalettes}
use Rattle.spectrum.specs.Accepts.{Begins, spc_words, HoldsMaps, HoldsPlanes}

-- `RefusesSpc file why`: an SPC file is refused for this reason
pub data RefusesSpc (file : List ℕ) : Refusal → Type 0 where
  -- 3: under 12 bytes, or not 12 plus its two lengths
  file_short : length file < 12 → RefusesSpc file (refusal 3 0)
  length_wrong : {words rest : List ℕ} {n m : ℕ} → Begins file words n m rest → (length rest ≡ n + m → ⊥)
      → RefusesSpc file (refusal 3 0)
  -- 14: the flag word or the reserved word
  header_wrong : {words rest : List ℕ} {n m : ℕ} → Begins file words n m rest → length rest ≡ n + m
      → (words ≡ spc_words → ⊥) → RefusesSpc file (refusal 14 0)
  -- 6 and 7 at the first record at fault in the data map, whose end is the input's end
  in_data : {number : ℕ} {packed colours rest : List ℕ} → HoldsMaps file packed colours
      → Stops WholeRecord FaultyRecord 31840 packed number rest
      → RefusesSpc file (refusal number (12 + length packed - length rest))
  -- 13: more than one byte left of the data map
  data_left : {packed colours behind planes : List ℕ} → HoldsMaps file packed colours
      → Makes WholeRecord 31840 packed behind planes → 1 < length behind → RefusesSpc file (refusal 13 0)
  -- 15, without a place: bit 15 of a vector, in the first palette at fault
  vector_wrong : {packed colours planes rest : List ℕ} → HoldsMaps file packed colours → HoldsPlanes packed planes
      → StopsPalettes 597 colours 15 rest → RefusesSpc file (refusal 15 0)
  -- 6, at the vector of the first palette at fault
  palette_cut : {packed colours planes rest : List ℕ} → HoldsMaps file packed colours → HoldsPlanes packed planes
      → StopsPalettes 597 colours 6 rest → RefusesSpc file (refusal 6 (length file - length rest))
  -- 13: any byte left of the colour map
  colours_left : {packed colours planes rest words : List ℕ} → HoldsMaps file packed colours
      → HoldsPlanes packed planes → HoldsPalettes 597 (replicate 16 0) colours rest words → 0 < length rest
      → RefusesSpc file (refusal 13 0)

-- `RefusesSpectrum file screen palettes kind why`: a file of a kind, into areas of so many bytes and words, is refused
-- for this reason
pub data RefusesSpectrum (file : List ℕ) (screen palettes : ℕ) : ℕ → Refusal → Type 0 where
  -- 1: an area is too short
  screen_short : {kind : ℕ} → screen < 32000 → RefusesSpectrum file screen palettes kind (refusal 1 0)
  palettes_short : {kind : ℕ} → palettes < 9552 → RefusesSpectrum file screen palettes kind (refusal 1 0)
  -- 2: another kind
  other_kind : {kind : ℕ} → 32000 ≤ screen → 9552 ≤ palettes → (kind ≡ 4 → ⊥) → (kind ≡ 5 → ⊥)
      → RefusesSpectrum file screen palettes kind (refusal 2 0)
  -- SPU, 3: not 51,104 bytes
  spu_length : 32000 ≤ screen → 9552 ≤ palettes → (length file ≡ 51104 → ⊥)
      → RefusesSpectrum file screen palettes 4 (refusal 3 0)
  -- SPC
  spc_refused : {why : Refusal} → 32000 ≤ screen → 9552 ≤ palettes → RefusesSpc file why
      → RefusesSpectrum file screen palettes 5 why
