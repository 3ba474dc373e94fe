-- The Spectrum 512 files that reading accepts, and what it gives, said without the functions that judge and unpack
-- (document 02, ticket 5: "a file is accepted exactly when no listed refusal comes"). Words and their bytes, and the
-- bits of a vector, are those of the functions.
use Rattle.std.specs.Prelude.{ℕ, ◌+◌, ◌*◌, ◌≤◌, ◌≡◌, List, [], ◌∷◌, ◌++◌, length, replicate}
use Rattle.words.specs.Word.{words_bytes}
use Rattle.filling.specs.Makes.{Makes}
use Rattle.spectrum_data_map.specs.WholeRecord.{WholeRecord}
use Rattle.spectrum_colour_map.specs.HoldsPalettes.{HoldsPalettes}
use Rattle.spectrum.specs.Screen.{ScreenOf}
use Rattle.spectrum.specs.Reading.{Reading}

-- an SPU file: 32,000 bytes of screen and the bytes of 9,552 words
pub record AcceptsSpu (file : List ℕ) (r : Reading) : Type 0 where
  pub parts : file ≡ r.screen ++ words_bytes r.palettes
  pub screen_size : length r.screen ≡ 32000
  pub palette_size : length r.palettes ≡ 9552

-- the number of four bytes, the first one highest
abbrev pub number : ℕ → ℕ → ℕ → ℕ → ℕ
number a b c d = ((a * 256 + b) * 256 + c) * 256 + d

-- `Begins file words n m rest`: the file begins with these four bytes and the numbers n and m, and `rest` is behind
pub data Begins : List ℕ → List ℕ → ℕ → ℕ → List ℕ → Type 0 where
  begins : {s p r t a b c d e f g h : ℕ} {rest : List ℕ}
      → Begins (s ∷ p ∷ r ∷ t ∷ a ∷ b ∷ c ∷ d ∷ e ∷ f ∷ g ∷ h ∷ rest) (s ∷ p ∷ r ∷ t ∷ []) (number a b c d)
      (number e f g h) rest

-- "SP" and a zero word
abbrev pub spc_words : List ℕ
spc_words = 0x53 ∷ 0x50 ∷ 0 ∷ 0 ∷ []

-- `HoldsMaps file packed colours`: a header, and behind it the bytes of the data map and those of the colour map, as
-- many as it says
pub record HoldsMaps (file packed colours : List ℕ) : Type 0 where
  pub headed : Begins file spc_words (length packed) (length colours) (packed ++ colours)

-- `HoldsPlanes packed planes`: the data map makes 31,840 bytes, and one byte at most is left
pub record HoldsPlanes (packed planes : List ℕ) : Type 0 where
  pub behind : List ℕ
  pub unpacks : Makes WholeRecord 31840 packed behind planes
  pub few : length behind ≤ 1

-- an SPC file: a header, a data map, and a colour map of 597 palettes, the one before the first being zeros
pub record AcceptsSpc (file : List ℕ) (r : Reading) : Type 0 where
  pub packed : List ℕ
  pub colours : List ℕ
  pub planes : List ℕ
  pub maps : HoldsMaps file packed colours
  pub unpacks : HoldsPlanes packed planes
  pub screen : ScreenOf planes r.screen
  pub palettes : HoldsPalettes 597 (replicate 16 0) colours [] r.palettes

-- `AcceptsSpectrum file screen palettes r kind`: a file of a kind, into areas of so many bytes and words, is accepted
-- and gives r
pub data AcceptsSpectrum (file : List ℕ) (screen palettes : ℕ) (r : Reading) : ℕ → Type 0 where
  spu : 32000 ≤ screen → 9552 ≤ palettes → AcceptsSpu file r → AcceptsSpectrum file screen palettes r 4
  spc : 32000 ≤ screen → 9552 ≤ palettes → AcceptsSpc file r → AcceptsSpectrum file screen palettes r 5
