-- A file converted and converted back (document 02, ticket 7).
use Rattle.std.specs.Prelude.{Ok}
use mathlib.Core.Path.{◌≡◌, refl, sym, ap, ap₂, ◌∙◌, subst}
use mathlib.Core.Bool.{Bool, false}
use mathlib.Core.List.{List, [], ◌++◌, append_assoc, flatten}
use Prim.Native.Nat.{ℕ, ◌+◌, ◌-◌, ◌/◌, ◌%◌, ◌^◌, ◌≤◌}
use native.Mathlib.Omega.{arith}
use lib.ListN.{length, take, drop, replicate, length-drop, length-append}
use lib.Seq.{take_all, drop_at}
use borrow.Author.Tests.{eqb-false}
use Rattle.lists.specs.Bytes.{Bytes}
use Rattle.lists.specs.Tabulate.{tabulate}
use Rattle.outcome.specs.Outcome.{Outcome, later}
use Rattle.outcome.proofs.Outcome.{judged-value}
use Rattle.words.specs.Word.{word_at, words_at, word_bytes, words_bytes}
use Rattle.words.proofs.Word.{word_at-lt, word-restored, words-restored}
use Rattle.resolution.specs.declared.Resolution.{Resolution}
use Rattle.resolution.specs.Choice.{number_of}
use Rattle.resolution.specs.Shapes.{screen_bytes}
use Rattle.resolution.proofs.Choice.{number-chosen, known-le}
use Rattle.picture.specs.declared.Picture.{Picture}
use Rattle.picture.specs.declared.Table.{Table}
use Rattle.picture.specs.Tables.{tables_at, zero_tables, held, tables_of, tables_bytes, tail_at, tail_bytes}
use Rattle.picture.specs.Whole.{WholePicture, WholeReading}
use Rattle.picture.specs.Reading.{Reading}
use Rattle.picture.specs.Writing.{Writing, file_bytes, raw_writing}
use Rattle.picture.proofs.Whole.{length-tail, tail-back}
use Rattle.degas.specs.declared.Form.TheVariants.{Plain, Elite}
use Rattle.degas.specs.Layout.{palette_start, header_length, tail_length, header, plain_file, elite_file}
use Rattle.degas.specs.Layout.{packed_bit, packed_file}
use Rattle.degas.specs.Opening.{resolution_number}
use Rattle.degas.specs.Reading.{plain_picture, read_degas}
use Rattle.degas.specs.Writing.{write_packed, write_degas, picture_back, degas_back}
use Rattle.degas.proofs.FileLayout.{header-word}
use Rattle.degas.proofs.RoundTrip.{ReadsBack, degas-back}
use Rattle.degas.proofs.WriteDegas.{write-passed}
use Rattle.conversion.specs.declared.Conversion.TheVariants.{ToElite, ToPlain}
use Rattle.conversion.specs.Converting.{ignored_bits, write_elite, convert}
use Rattle.conversion.specs.Accepts.{AcceptsToElite, plain_given, WritesElite, packed, raw, AcceptsToPlain}
use Rattle.conversion.specs.Accepts.{elite_given}
use Rattle.conversion.proofs.Elite.{elite-reads}
use Rattle.conversion.proofs.Acceptance.{zeros-exactly, whole-passed, whole-read, read-to-elite}
use Rattle.conversion.proofs.Acceptance.{read-to-plain, plain-parts, plain-read, to-elite-writes}
use Rattle.conversion.proofs.Acceptance.{to-elite-is, elite-read, to-plain-is}

-- ---- a plain file made again from its parts

module _ {file : List ℕ} (bytes : Bytes file) (f : AcceptsToElite file) where
  abbrev r : Resolution
  r = f.accepts.resolution

  -- the first word is the resolution
  first_word : number_of r ≡ word_at file 0
  first_word =
      let bit : word_at file 0 / 2 ^ 15 % 2 ≡ 1 → ⊥ =
      eqb-false (word_at file 0 / 2 ^ 15 % 2) 1 (plain-parts f).raw in
      let clear : word_at file 0 / 2 ^ 2 % 2 ^ 13 ≡ 0 = f.clear in
      number-chosen (resolution_number file) r f.accepts.allowed ∙ omega (arith, word_at-lt file bytes 0)

  header-restored : header (word_at file 0) (plain_picture file r) ++ drop header_length file ≡ file
  header-restored =
      append_assoc (word_bytes (word_at file 0)) (words_bytes (words_at 16 file palette_start)) (drop header_length file)
      ∙ ap (λ (l : List ℕ). word_bytes (word_at file 0) ++ l)
      (words-restored file bytes 16 palette_start (omega (arith, (plain-parts f).size)))
      ∙ word-restored file bytes 0 (omega (arith, (plain-parts f).size))

  -- form 1 of what was read is the file
  pub plain-restored : plain_file (plain_given f).picture (plain_given f).screen ≡ file
  unfolding plain_file
  plain-restored =
      let rest : List ℕ = drop header_length file in
      let long : length rest ≤ screen_bytes = omega (arith, length-drop header_length file, (plain-parts f).size) in
      let all : take screen_bytes rest ≡ rest = take_all screen_bytes rest long in
      ap (λ (q : Reading). plain_file q.picture q.screen) (plain-parts f).gives
      ∙ ap₂ (λ (word : ℕ) (l : List ℕ). header word (plain_picture file r) ++ l) first_word
      (ap (take screen_bytes) all ∙ all)
      ∙ header-restored

-- ---- to Elite and back

-- the tail of a picture without one is written as zeros
pub zero_held : tail_bytes (held zero_tables) ≡ replicate tail_length 0
unfolding held tabulate tables_of tables_bytes words_bytes word_bytes flatten
zero_held = refl

-- a file in form 2 or 3 ends in the tail
after-body : (p : Picture) → WholePicture p → (word : ℕ) (body : List ℕ)
    → drop (length (header word p ++ (body ++ tail_bytes p.tail)) - tail_length)
    (header word p ++ (body ++ tail_bytes p.tail))
    ≡ tail_bytes p.tail
after-body p whole word body =
    let front : List ℕ = header word p ++ body in
    let tail : List ℕ = tail_bytes p.tail in
    ap (λ (l : List ℕ). drop (length l - tail_length) l) (sym (append_assoc (header word p) body tail))
    ∙ drop_at front tail (length (front ++ tail) - tail_length)
    (omega (arith, length-append front tail, length-tail p whole))

form-last : (r : Resolution) (p : Picture) → WholePicture p → (screen : List ℕ) (w : Writing)
    → WritesElite r p screen w → drop (length w.file - tail_length) w.file ≡ tail_bytes p.tail
unfolding elite_file packed_file
form-last r p whole screen w (packed h) = rw h.form (after-body p whole (packed_bit + p.resolution) h.packed)
form-last r p whole screen w (raw none e) =
    let same : w.file ≡ elite_file p screen = ap (λ (o : Outcome Writing). later o (λ v. v.file) []) e in
    rw same (after-body p whole p.resolution (take screen_bytes screen))

-- form 1 has no word of the tail
plain_form : (p : Picture) (screen : List ℕ) → length screen ≡ screen_bytes
    → plain_file (picture_back Elite p) (take screen_bytes screen) ≡ plain_file p screen
unfolding plain_file
plain_form p screen size =
    ap (λ (l : List ℕ). header p.resolution p ++ take screen_bytes l)
    (take_all screen_bytes screen (omega (arith, size)))

module _ {file : List ℕ} (bytes : Bytes file) (f : AcceptsToElite file) (out : ℕ) (room : file_bytes ≤ out)
    (w : Writing) (is : convert ToElite file out ≡ Ok w) where
  abbrev elite : Reading
  elite = degas_back Elite (plain_given f).picture (plain_given f).screen w

  -- the written file is read as the plain one, with the counts of the writing and a tail
  pub to-elite-reads : read_degas w.file screen_bytes ≡ Ok elite
  to-elite-reads =
      elite-reads (plain_given f).picture (whole-read file (plain_given f) (plain-read f)).whole (plain_given f).screen
      out w (sym (to-elite-is f out room) ∙ is)

  -- "with a zero tail"
  pub to-elite-zero-tail : tail_bytes elite.picture.tail ≡ replicate tail_length 0
  to-elite-zero-tail = ap (λ (b : Reading). tail_bytes b.picture.tail) (plain-parts f).gives ∙ zero_held

  -- "The way back must restore each plain file byte for byte"
  pub to-elite-back : (into : ℕ) → file_bytes ≤ into → convert ToPlain w.file into ≡ raw_writing file
  to-elite-back into room-into =
      let read = whole-read w.file elite to-elite-reads in
      read-to-plain w.file elite to-elite-reads into room-into
      ((zeros-exactly tail_length (tail_bytes elite.picture.tail) (length-tail elite.picture read.whole)
      ).1 to-elite-zero-tail)
      ∙ ap raw_writing
      (plain_form (plain_given f).picture (plain_given f).screen (whole-read file (plain_given f) (plain-read f)).size
      ∙ plain-restored bytes f)

  pub to-elite-form : WritesElite f.accepts.resolution (plain_given f).picture (plain_given f).screen w
  to-elite-form =
      let g = to-elite-writes f out room bytes in
      subst (WritesElite f.accepts.resolution (plain_given f).picture (plain_given f).screen)
      (ap (λ (o : Outcome Writing). later o (λ v. v) w) (sym g.1 ∙ is)) g.2

  -- the file ends in it
  pub to-elite-last : drop (length w.file - tail_length) w.file ≡ replicate tail_length 0
  to-elite-last =
      form-last f.accepts.resolution (plain_given f).picture
      (whole-read file (plain_given f) (plain-read f)).whole (plain_given f).screen w to-elite-form
      ∙ to-elite-zero-tail

-- ---- to plain and back

-- whether a tail is marked present is not written
elite-unmarked : (p : Picture) (marked : Bool) (screen : List ℕ) (out : ℕ)
    → write_elite (record { resolution = p.resolution; palette = p.palette; tail_present = marked; tail = p.tail })
    screen out ≡ write_elite p screen out
unfolding write_elite write_degas plain_file elite_file packed_file write_packed
elite-unmarked p marked screen out = refl

-- a tail of zeros is the one that a picture without a tail has
zero-tail-held : (p : Picture) → WholePicture p → tail_bytes p.tail ≡ replicate tail_length 0
    → p.tail ≡ held zero_tables
unfolding held tables_at tabulate words_at word_at
zero-tail-held p whole e = sym (tail-back p whole [] 0 refl) ∙ ap (λ (s : List ℕ). tail_at s 0) e

-- the first word of a picture's file in form 1 is the resolution
plain-clear : (p : Picture) → WholePicture p → p.resolution ≤ 2 → (screen : List ℕ)
    → ignored_bits (word_at (plain_file p screen) 0) ≡ 0
unfolding plain_file
plain-clear p whole small screen = omega (arith, header-word p whole p.resolution (take screen_bytes screen), small)

module _ {file : List ℕ} (f : AcceptsToPlain file) (out : ℕ) (room : file_bytes ≤ out) (w : Writing)
    (is : convert ToPlain file out ≡ Ok w) where
  abbrev p : Picture
  p = (elite_given f).picture

  abbrev screen : List ℕ
  screen = (elite_given f).screen

  abbrev plain : Reading
  plain = degas_back Plain p screen w

  whole : WholeReading (elite_given f)
  whole = whole-read file (elite_given f) (elite-read f)

  written : raw_writing (plain_file p screen) ≡ Ok w
  written = sym (to-plain-is f out room) ∙ is

  -- the written file is read as the Elite one, without its tail
  pub to-plain-reads : read_degas w.file screen_bytes ≡ Ok plain
  to-plain-reads =
      judged-value (ReadsBack p whole.whole screen screen_bytes (omega arith) Plain) (write_degas Plain p screen out) w
      (degas-back p whole.whole screen screen_bytes (omega arith) Plain out)
      (write-passed Plain p screen out (whole-passed (elite_given f) whole out room) ∙ written)

  -- to Elite again: its own picture and screen, packed where a body below 32,000 bytes exists
  pub to-plain-back : (into : ℕ) → file_bytes ≤ into → convert ToElite w.file into ≡ write_elite p screen into
  to-plain-back into room-into =
      let file-is : plain_file p screen ≡ w.file = ap (λ (o : Outcome Writing). later o (λ v. v.file) []) written in
      let small : p.resolution ≤ 2 = known-le p.resolution whole.resolution whole.known in
      let clear : ignored_bits (word_at w.file 0) ≡ 0 =
      ap (λ (l : List ℕ). ignored_bits (word_at l 0)) (sym file-is) ∙ plain-clear p whole.whole small screen in
      read-to-elite w.file plain to-plain-reads into room-into refl clear
      ∙ ap₂
      (λ (tail : List Table) (l : List ℕ).
      write_elite
      (record { resolution = p.resolution; palette = p.palette; tail_present = false; tail = tail }) l into)
      (sym (zero-tail-held p whole.whole f.zero))
      (take_all screen_bytes screen (omega (arith, whole.size)))
      ∙ elite-unmarked p false screen into
