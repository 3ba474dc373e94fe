-- Laws of an SPC file's header: the words, the numbers and the maps that it begins.
use mathlib.Core.Path.{◌≡◌, refl, ap, ◌∙◌}
use mathlib.Core.List.{List, [], ◌∷◌, ◌++◌}
use Prim.Native.Nat.{ℕ, ◌+◌, ◌≤◌}
use native.Mathlib.Omega.{arith}
use lib.ListN.{length, get_or, drop, take-append-drop}
use Rattle.lists.specs.Bytes.{Bytes}
use Rattle.lists.specs.Tabulate.{tabulate}
use Rattle.lists.proofs.Tabulate.{tabulate-take}
use Rattle.words.specs.Word.{word_at}
use Rattle.spectrum.specs.Layout.{header_bytes, spc_flag, long_at, flag, reserved, data_length, colour_length}
use Rattle.spectrum.specs.Accepts.{number, Begins, begins, spc_words}

-- the four bytes of a file's first two words
abbrev pub first_bytes : List ℕ → List ℕ
first_bytes file = get_or file 0 0 ∷ get_or file 1 0 ∷ get_or file 2 0 ∷ get_or file 3 0 ∷ []

-- what begins a file, as the functions read it
pub record Headed (file words : List ℕ) (n m : ℕ) (rest : List ℕ) : Type 0 where
  pub size : length file ≡ header_bytes + length rest
  pub behind : drop header_bytes file ≡ rest
  pub first : first_bytes file ≡ words
  pub data_size : data_length file ≡ n
  pub colour_size : colour_length file ≡ m

pub headed : {file words rest : List ℕ} {n m : ℕ} → Begins file words n m rest → Headed file words n m rest
unfolding long_at word_at
headed begins =
    record { size = omega arith; behind = refl; first = refl; data_size = omega arith; colour_size = omega arith }

-- the same said of what is equal
pub begins-as : {file g words v rest t : List ℕ} {n m k l : ℕ} → file ≡ g → words ≡ v → n ≡ k → m ≡ l → rest ≡ t
    → Begins file words n m rest → Begins g v k l t
begins-as d e p q f b = rw (← d, ← e, ← p, ← q, ← f) b

-- a file of 12 bytes at least has a header
pub long-begins : (file : List ℕ) → header_bytes ≤ length file
    → Begins file (first_bytes file) (data_length file) (colour_length file) (drop header_bytes file)
unfolding long_at word_at tabulate
long-begins file h =
    let byte : ℕ → ℕ = λ k. get_or file k 0 in
    let n : number (byte 4) (byte 5) (byte 6) (byte 7) ≡ data_length file = omega arith in
    let m : number (byte 8) (byte 9) (byte 10) (byte 11) ≡ colour_length file = omega arith in
    let whole : tabulate header_bytes byte ++ drop header_bytes file ≡ file =
    ap (λ (l : List ℕ). l ++ drop header_bytes file) (tabulate-take header_bytes file 0 h)
    ∙ take-append-drop header_bytes file in
    begins-as whole refl n m refl begins

-- the flag word and the reserved word are right where their bytes are
pub words_right : (file : List ℕ) → first_bytes file ≡ spc_words → (flag file ≡ spc_flag) × (reserved file ≡ 0)
unfolding word_at
words_right file e =
    let a : get_or file 0 0 ≡ 0x53 = cc in
    let b : get_or file 1 0 ≡ 0x50 = cc in
    let c : get_or file 2 0 ≡ 0 = cc in
    let d : get_or file 3 0 ≡ 0 = cc in
    (omega arith, omega arith)

pub right-words : (file : List ℕ) → Bytes file → flag file ≡ spc_flag → reserved file ≡ 0 → first_bytes file ≡ spc_words
unfolding word_at
right-words file bytes f r =
    let a : get_or file 0 0 ≡ 0x53 = omega (arith, bytes 0, bytes 1) in
    let b : get_or file 1 0 ≡ 0x50 = omega (arith, bytes 0, bytes 1) in
    let c : get_or file 2 0 ≡ 0 = omega (arith, bytes 2, bytes 3) in
    let d : get_or file 3 0 ≡ 0 = omega (arith, bytes 2, bytes 3) in
    rw (a, b, c, d)
