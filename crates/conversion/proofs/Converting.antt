-- Laws of converting a DEGAS file: what each test that the code makes comes to.
use Rattle.std.specs.Prelude.{Ok, Err}
use mathlib.Core.Path.{◌≡◌, refl, sym, ap, ◌∙◌}
use mathlib.Core.Bool.{true, false}
use mathlib.Core.List.{List, ◌++◌}
use Prim.Native.Nat.{ℕ, ◌≤◌, ◌<◌}
use native.Mathlib.Omega.{arith}
use lib.ListN.{length, take, drop}
use lib.Seq.{length-take-le}
use borrow.Author.Tests.{lt-ltb, le-ltb, eq-eqb}
use Rattle.lists.proofs.Over.{over-whole}
use Rattle.lists.proofs.Parts.{over-cut, kept-cut}
use Rattle.outcome.specs.declared.Refusal.{Refusal}
use Rattle.outcome.specs.Outcome.{Outcome, refuse, map, bind, Judged}
use Rattle.outcome.specs.Refusal.{area_too_short}
use Rattle.words.specs.Word.{word_at}
use Rattle.resolution.specs.Shapes.{screen_bytes}
use Rattle.picture.specs.declared.Picture.{Picture}
use Rattle.picture.specs.declared.PictureRead.{PictureRead}
use Rattle.picture.specs.declared.FileWritten.{FileWritten}
use Rattle.picture.specs.Whole.{WholeReading}
use Rattle.picture.specs.Reading.{Reading, picture_read, read_area}
use Rattle.picture.specs.Writing.{Writing, file_bytes, judge_writing, file_written, write_output}
use Rattle.degas.specs.declared.Form.{Form}
use Rattle.degas.specs.declared.Form.TheVariants.{Plain, Elite, Packed}
use Rattle.degas.specs.Reading.{read_degas}
use Rattle.degas.specs.Writing.{write_degas}
use Rattle.degas.proofs.Whole.{degas-whole}
use Rattle.conversion.specs.declared.Conversion.{Conversion}
use Rattle.conversion.specs.declared.Conversion.TheVariants.{ToElite, ToPlain}
use Rattle.conversion.specs.Converting.{ignored_bits, zero_tail, write_elite, plain_to_elite}
use Rattle.conversion.specs.Converting.{elite_to_plain, converted, convert}

-- ---- what is judged after the reading

module _ (word : ℕ) (p : Picture) (screen : List ℕ) (out : ℕ) where
  module _ (t : p.tail_present ≡ false) where
    pub elite-clear : ignored_bits word ≡ 0 → plain_to_elite word p screen out ≡ write_elite p screen out
    unfolding plain_to_elite
    elite-clear h = rw (t, eq-eqb (ignored_bits word) 0 h)

module _ (p : Picture) (screen : List ℕ) (out : ℕ) where
  pub plain-zero : zero_tail p ≡ true → elite_to_plain p screen out ≡ write_degas Plain p screen out
  unfolding elite_to_plain
  plain-zero z = rw z

-- ---- the output and the reading

module _ (to : Conversion) (file : List ℕ) (out : ℕ) where
  -- what follows of an accepted reading
  abbrev further : Reading → Outcome Writing
  further q = converted to (word_at file 0) q.picture q.screen out

  pub convert-short : out < file_bytes → convert to file out ≡ refuse area_too_short
  unfolding convert
  convert-short h = simp (lt-ltb out file_bytes h)

  pub convert-read : file_bytes ≤ out → convert to file out ≡ bind (read_degas file screen_bytes) further
  unfolding convert
  convert-read h = simp (le-ltb out file_bytes h)

  -- by what is given of the reading, and the area that it was read into
  module _ (room : file_bytes ≤ out) {given : Outcome PictureRead}
      (is : given ≡ map picture_read (read_degas file screen_bytes)) where
    pub refused-so : {why : Refusal} → given ≡ Err why → convert to file out ≡ Err why
    refused-so e = convert-read room ∙ go (read_degas file screen_bytes) (sym e ∙ is)
      where
        go : {why : Refusal} (o : Outcome Reading) → Err why ≡ map picture_read o → bind o further ≡ Err why
        go (Ok q) e = let z : ◌≡◌ {A = ℕ} 0 1 = cc in absurd (omega arith)
        go (Err w) e = cc

    pub accepted-so : {r : PictureRead} → given ≡ Ok r → (area screen : List ℕ) → length area ≡ screen_bytes
        → screen ≡ read_area (read_degas file screen_bytes) area
        → convert to file out ≡ converted to (word_at file 0) r.picture screen out
    accepted-so e area screen size made =
        convert-read room
        ∙ go (read_degas file screen_bytes) (degas-whole file screen_bytes) (sym e ∙ is) made
      where
        go : {r : PictureRead} (o : Outcome Reading) → Judged WholeReading o → Ok r ≡ map picture_read o
            → screen ≡ read_area o area → bind o further ≡ converted to (word_at file 0) r.picture screen out
        go {r = r} (Ok q) whole e made =
            let same : r ≡ picture_read q = cc in
            rw (same, made ∙ over-whole q.screen area (omega (arith, size, whole.size)))
        go (Err why) whole e made = let z : ◌≡◌ {A = ℕ} 0 1 = cc in absurd (omega arith)

-- ---- the output's length: once a file fits, more makes no difference

module _ (n m : ℕ) (fits : file_bytes ≤ n) (room : file_bytes ≤ m) where
  degas-room : (form : Form) (p : Picture) (screen : List ℕ) → write_degas form p screen n ≡ write_degas form p screen m
  unfolding write_degas judge_writing
  degas-room form p screen = simp (le-ltb n file_bytes fits, le-ltb m file_bytes room)

  converted-room : (to : Conversion) (word : ℕ) (p : Picture) (screen : List ℕ)
      → converted to word p screen n ≡ converted to word p screen m
  unfolding plain_to_elite elite_to_plain write_elite
  converted-room ToElite word p screen = rw (degas-room Packed p screen, degas-room Elite p screen)
  converted-room ToPlain word p screen = rw (degas-room Plain p screen)

  pub convert-room : (to : Conversion) (file : List ℕ) → convert to file n ≡ convert to file m
  convert-room to file =
      convert-read to file n fits ∙ go (read_degas file screen_bytes) ∙ sym (convert-read to file m room)
    where
      go : (o : Outcome Reading) → bind o (further to file n) ≡ bind o (further to file m)
      go (Ok q) = converted-room to (word_at file 0) q.picture q.screen
      go (Err why) = refl

-- a writing into the first n bytes alone, with the later bytes behind them, is one into the whole output
output-cut : (o : Outcome Writing) (out part : List ℕ) (n : ℕ) → length part ≡ length (take n out)
    → part ≡ write_output o (take n out) → part ++ drop n out ≡ write_output o out
output-cut (Err why) out part n kept is = kept-cut out part n is
output-cut (Ok w) out part n kept is = over-cut w.file out part n kept is

-- and so is a conversion
module _ (to : Conversion) (file out part : List ℕ) (room : file_bytes ≤ length out) where
  abbrev short : Outcome Writing
  short = convert to file (length (take file_bytes out))

  same : short ≡ convert to file (length out)
  same =
      let long = length-take-le file_bytes out room in
      convert-room (length (take file_bytes out)) (length out) (omega (arith, long)) room to file

  pub cut-answer : {given : Outcome FileWritten} → given ≡ map file_written short
      → given ≡ map file_written (convert to file (length out))
  cut-answer is = is ∙ ap (map file_written) same

  pub cut-output : length part ≡ length (take file_bytes out) → part ≡ write_output short (take file_bytes out)
      → part ++ drop file_bytes out ≡ write_output (convert to file (length out)) out
  cut-output kept is =
      output-cut (convert to file (length out)) out part file_bytes kept
      (is ∙ ap (λ (o : Outcome Writing). write_output o (take file_bytes out)) same)
