-- The files that each conversion accepts, and what it writes of them (document 02, ticket 7).
use Rattle.std.specs.Prelude.{Ok, Err}
use mathlib.Core.Path.{◌≡◌, refl, sym, ap, ◌∙◌, subst}
use mathlib.Core.Bool.{true, false, not, true≢false}
use mathlib.Core.List.{List}
use mathlib.Core.Logic.{◌↔◌}
use Prim.Native.Nat.{ℕ, ◌≤◌, ◌<◌}
use native.Mathlib.Omega.{arith}
use lib.Dec.{eqb}
use lib.ListN.{length, get_or, take, drop, replicate, length-append, length-replicate, get_or-replicate}
use lib.Seq.{ext_get_or, length-take-le}
use borrow.Author.Tests.{eqb-true, eq-eqb, not-false}
use Rattle.lists.specs.All.{all_first}
use Rattle.lists.specs.Bytes.{Bytes}
use Rattle.lists.proofs.All.{all_below-each, each-all_below}
use Rattle.lists.proofs.Bytes.{bytes_take, bytes_drop}
use Rattle.lists.proofs.Cond.{cond-elim, cond-ltb, and-true}
use Rattle.outcome.specs.declared.Refusal.{Refusal}
use Rattle.outcome.specs.Outcome.{Outcome, refuse, bind, refusal_of, Judged}
use Rattle.outcome.specs.Refusal.{no_packed_body}
use Rattle.outcome.proofs.Outcome.{judged-accepted, judged-value, judged-bind}
use Rattle.words.specs.Word.{word_at}
use Rattle.resolution.specs.declared.Resolution.{Resolution}
use Rattle.resolution.specs.Choice.{chosen}
use Rattle.resolution.specs.Shapes.{screen_bytes}
use Rattle.resolution.proofs.Choice.{chosen-number}
use Rattle.picture.specs.declared.Picture.{Picture}
use Rattle.picture.specs.Tables.{tail_bytes}
use Rattle.picture.specs.Whole.{WholePicture, WholeReading}
use Rattle.picture.specs.Reading.{Reading, raw_reading}
use Rattle.picture.specs.Writing.{Writing, file_bytes, raw_writing}
use Rattle.picture.proofs.Whole.{length-tail}
use Rattle.picture.proofs.Writing.{Passed}
use Rattle.degas.specs.declared.Form.TheVariants.{Plain, Packed}
use Rattle.degas.specs.Layout.{header_length, tail_length, plain_length, header, plain_file, elite_file}
use Rattle.degas.specs.Opening.{is_packed}
use Rattle.degas.specs.Reading.{plain_picture, read_degas}
use Rattle.degas.specs.Writing.{write_degas}
use Rattle.degas.specs.Accepts as fitting
use Rattle.degas.specs.Accepts.{Fits, AcceptsDegas, fits_given, degas_given}
use Rattle.degas.proofs.Acceptance.{Given, degas-judged, degas-complete}
use Rattle.degas.proofs.FileLayout.{length-header}
use Rattle.degas.proofs.Whole.{degas-whole}
use Rattle.degas.proofs.WriteDegas.{write-passed}
use Rattle.conversion.specs.declared.Conversion.{Conversion}
use Rattle.conversion.specs.declared.Conversion.TheVariants.{ToElite, ToPlain}
use Rattle.conversion.specs.Converting.{ignored_bits, zero_tail, write_elite, plain_to_elite, elite_to_plain, converted}
use Rattle.conversion.specs.Converting.{convert}
use Rattle.conversion.specs.Accepts.{AcceptsToElite, plain_given, WritesElite, AcceptsToPlain, elite_given}
use Rattle.conversion.proofs.Converting.{elite-clear, plain-zero, convert-read}
use Rattle.conversion.proofs.Elite.{elite-raw, elite-raw-only, elite-writes, form-judged, elite-judged}

-- ---- an all-zero list

pub zeros-exactly : (n : ℕ) (l : List ℕ) → length l ≡ n → (all_first n (λ b. eqb b 0) l ≡ true) ↔ (l ≡ replicate n 0)
zeros-exactly n l size = (
  λ e.
      ext_get_or 0 l (replicate n 0) (size ∙ sym (length-replicate n 0))
      (λ i h.
      let below : i < n = omega (arith, size) in
      eqb-true (get_or l i 0) 0 (all_below-each _ n e i below) ∙ sym (get_or-replicate n i 0 0 below)),
  λ e.
      each-all_below _ n
      (λ k h. eq-eqb (get_or l k 0) 0 (ap (λ (s : List ℕ). get_or s k 0) e ∙ get_or-replicate n k 0 0 h)),
)

-- ---- a file that reading refuses, and one that it accepts

-- what was read can be written
pub whole-passed : (q : Reading) (w : WholeReading q) (out : ℕ) → file_bytes ≤ out
    → Passed (length q.screen) out q.picture.resolution w.resolution
whole-passed q w out room =
    record { screen-fits = omega (arith, w.size); output-fits = room; known = w.known }

-- "then reading refusals apply": the same number, place, plane row and good bytes
pub refusal-passed : (to : Conversion) (file : List ℕ) (out : ℕ) → file_bytes ≤ out → (why : Refusal)
    → read_degas file screen_bytes ≡ Err why → convert to file out ≡ Err why
refusal-passed to file out room why reads =
    convert-read to file out room
    ∙ ap
    (λ (o : Outcome Reading). bind o (λ q. converted to (word_at file 0) q.picture q.screen out))
    reads

module _ (file : List ℕ) (q : Reading) (reads : read_degas file screen_bytes ≡ Ok q) where
  pub whole-read : WholeReading q
  whole-read = judged-value WholeReading (read_degas file screen_bytes) q (degas-whole file screen_bytes) reads

  module _ (out : ℕ) (room : file_bytes ≤ out) where
    read-converted : (to : Conversion)
        → convert to file out ≡ converted to (word_at file 0) q.picture q.screen out
    read-converted to =
        convert-read to file out room
        ∙ ap
        (λ (o : Outcome Reading). bind o (λ b. converted to (word_at file 0) b.picture b.screen out))
        reads

    -- to Elite, where it has no tail and bits 2 to 14 are 0
    pub read-to-elite : q.picture.tail_present ≡ false → ignored_bits (word_at file 0) ≡ 0
        → convert ToElite file out ≡ write_elite q.picture q.screen out
    read-to-elite absent clear =
        read-converted ToElite ∙ elite-clear (word_at file 0) q.picture q.screen out absent clear

    -- to plain, where the tail is zero
    pub read-to-plain : zero_tail q.picture ≡ true
        → convert ToPlain file out ≡ raw_writing (plain_file q.picture q.screen)
    read-to-plain zero =
        read-converted ToPlain
        ∙ plain-zero q.picture q.screen out zero
        ∙ write-passed Plain q.picture q.screen out (whole-passed q whole-read out room)

-- what an accepted reading comes of, and that its picture is whole
record Read (file : List ℕ) (q : Reading) : Type 0 where
  accepts : AcceptsDegas file
  gives : q ≡ degas_given accepts
  whole : WholePicture q.picture

read-judged : (file : List ℕ) → Bytes file → Judged (Read file) (read_degas file screen_bytes)
read-judged file bytes =
    go (read_degas file screen_bytes) (degas-judged file screen_bytes bytes) (degas-whole file screen_bytes)
  where
    go : (o : Outcome Reading) → Judged (Given file screen_bytes) o → Judged WholeReading o → Judged (Read file) o
    go (Ok q) g w = record { accepts = g.0; gives = g.1; whole = w.whole }
    go (Err why) number w = number

-- ---- to Elite

-- a plain file: raw, of 32,034 bytes, and what it gives
pub record PlainParts (file : List ℕ) (r : Resolution) (q : Reading) : Type 0 where
  pub raw : is_packed file ≡ false
  pub size : length file ≡ plain_length
  pub gives : q ≡ raw_reading (plain_picture file r) file header_length

plain_fits : {file : List ℕ} {r : Resolution} (fits : Fits file r) → (fits_given fits).picture.tail_present ≡ false
    → PlainParts file r (fits_given fits)
plain_fits (fitting.plain raw size) absent = record { raw = raw; size = size; gives = refl }
plain_fits (fitting.elite raw size) absent = absurd (true≢false absent)
plain_fits (fitting.packed is fits) absent = absurd (true≢false absent)

module _ {file : List ℕ} (f : AcceptsToElite file) where
  pub plain-parts : PlainParts file f.accepts.resolution (plain_given f)
  plain-parts = plain_fits f.accepts.fits f.absent

  pub plain-read : read_degas file screen_bytes ≡ Ok (plain_given f)
  plain-read = degas-complete file screen_bytes (omega arith) f.accepts

  module _ (out : ℕ) (room : file_bytes ≤ out) where
    pub to-elite-is : convert ToElite file out ≡ write_elite (plain_given f).picture (plain_given f).screen out
    to-elite-is = read-to-elite file (plain_given f) plain-read out room f.absent f.clear

    fits : Passed (length (plain_given f).screen) out (plain_given f).picture.resolution f.accepts.resolution
    fits = record {
      screen-fits = omega (arith, (whole-read file (plain_given f) plain-read).size);
      output-fits = room;
      known =
          ap (λ (b : Reading). chosen b.picture.resolution) plain-parts.gives
          ∙ chosen-number f.accepts.resolution;
    }

    -- "The plain DEGAS shelf becomes Elite packed where a packed body exists, Elite raw where number 9 would come"
    pub to-elite-writes : Bytes file → (w : Writing) × (convert ToElite file out ≡ Ok w)
        × WritesElite f.accepts.resolution (plain_given f).picture (plain_given f).screen w
    to-elite-writes bytes =
        let screen : Bytes (plain_given f).screen =
        subst Bytes (sym (ap (λ (b : Reading). b.screen) plain-parts.gives))
        (bytes_take screen_bytes (drop header_length file) (bytes_drop header_length file bytes)) in
        let g =
        elite-writes f.accepts.resolution (plain_given f).picture (plain_given f).screen out fits
        (whole-read file (plain_given f) plain-read).whole screen in
        (g.0, to-elite-is ∙ g.1, g.2)

    -- Elite raw nowhere else: it is longer than any packed file
    pub to-elite-raw-exactly :
        (convert ToElite file out ≡ raw_writing (elite_file (plain_given f).picture (plain_given f).screen))
        ↔ (write_degas Packed (plain_given f).picture (plain_given f).screen out ≡ refuse no_packed_body)
    to-elite-raw-exactly =
        let r = f.accepts.resolution in
        let whole = (whole-read file (plain_given f) plain-read).whole in (
          λ e. elite-raw-only r (plain_given f).picture (plain_given f).screen out fits whole (sym to-elite-is ∙ e),
          λ e. to-elite-is ∙ elite-raw r (plain_given f).picture (plain_given f).screen out fits e,
        )

module _ (file : List ℕ) (out : ℕ) (bytes : Bytes file) where
  pub to-elite-judged : Judged (λ w. AcceptsToElite file) (convert ToElite file out)
  unfolding convert plain_to_elite
  to-elite-judged =
      cond-ltb (Judged (λ w. AcceptsToElite file)) out file_bytes (λ _ n. omega arith) (λ _.
      judged-bind (Read file) (λ w. AcceptsToElite file) (read_degas file screen_bytes) _ (read-judged file bytes) (λ q g.
      cond-elim (Judged (λ w. AcceptsToElite file)) q.picture.tail_present (λ _ n. omega arith) (λ absent.
      cond-elim (Judged (λ w. AcceptsToElite file)) (not (eqb (ignored_bits (word_at file 0)) 0)) (λ _ n. omega arith)
      (λ clear.
      elite-judged (AcceptsToElite file)
      (record {
        accepts = g.accepts;
        absent = sym (ap (λ (b : Reading). b.picture.tail_present) g.gives) ∙ absent;
        clear = eqb-true (ignored_bits (word_at file 0)) 0 (not-false (eqb (ignored_bits (word_at file 0)) 0) clear);
      })
      q.picture g.whole q.screen out))))

  -- to Elite, exactly these are accepted
  pub to-elite-exactly : file_bytes ≤ out → ((refusal_of (convert ToElite file out)).number ≡ 0) ↔ AcceptsToElite file
  to-elite-exactly room = (
    λ e. (judged-accepted (λ w. AcceptsToElite file) (convert ToElite file out) to-elite-judged e).2,
    λ f. ap (λ (o : Outcome Writing). (refusal_of o).number) (to-elite-writes f out room bytes).1,
  )

-- ---- to plain

module _ {file : List ℕ} (f : AcceptsToPlain file) where
  pub elite-read : read_degas file screen_bytes ≡ Ok (elite_given f)
  elite-read = degas-complete file screen_bytes (omega arith) f.accepts

  pub plain-length : length (plain_file (elite_given f).picture (elite_given f).screen) ≡ plain_length
  unfolding plain_file
  plain-length =
      let p : Picture = (elite_given f).picture in
      let screen : List ℕ = (elite_given f).screen in
      let read = whole-read file (elite_given f) elite-read in
      omega (
        arith,
        length-append (header p.resolution p) (take screen_bytes screen),
        length-header p read.whole p.resolution,
        length-take-le screen_bytes screen (omega (arith, read.size)),
      )

  module _ (out : ℕ) (room : file_bytes ≤ out) where
    -- form 1 of its picture and screen
    pub to-plain-is : convert ToPlain file out ≡ raw_writing (plain_file (elite_given f).picture (elite_given f).screen)
    to-plain-is =
        read-to-plain file (elite_given f) elite-read out room
        (rw f.present
        ((zeros-exactly tail_length (tail_bytes (elite_given f).picture.tail)
        (length-tail (elite_given f).picture (whole-read file (elite_given f) elite-read).whole)).1 f.zero))

module _ (file : List ℕ) (out : ℕ) (bytes : Bytes file) where
  to-plain-judged : Judged (λ w. AcceptsToPlain file) (convert ToPlain file out)
  unfolding convert elite_to_plain
  to-plain-judged =
      cond-ltb (Judged (λ w. AcceptsToPlain file)) out file_bytes (λ _ n. omega arith) (λ _.
      judged-bind (Read file) (λ w. AcceptsToPlain file) (read_degas file screen_bytes) _ (read-judged file bytes) (λ q g.
      cond-elim (Judged (λ w. AcceptsToPlain file)) (not (zero_tail q.picture)) (λ _ n. omega arith) (λ zero.
      let tail = tail_bytes q.picture.tail in
      let judged =
      and-true q.picture.tail_present (all_first tail_length (λ b. eqb b 0) tail)
      (not-false (zero_tail q.picture) zero) in
      form-judged (AcceptsToPlain file)
      (record {
        accepts = g.accepts;
        present = sym (ap (λ (b : Reading). b.picture.tail_present) g.gives) ∙ judged.0;
        zero =
            sym (ap (λ (b : Reading). tail_bytes b.picture.tail) g.gives)
            ∙ (zeros-exactly tail_length tail (length-tail q.picture g.whole)).0 judged.1;
      })
      q.picture g.whole q.screen out Plain)))

  -- to plain, exactly these are accepted
  pub to-plain-exactly : file_bytes ≤ out → ((refusal_of (convert ToPlain file out)).number ≡ 0) ↔ AcceptsToPlain file
  to-plain-exactly room = (
    λ e. (judged-accepted (λ w. AcceptsToPlain file) (convert ToPlain file out) to-plain-judged e).2,
    λ f. ap (λ (o : Outcome Writing). (refusal_of o).number) (to-plain-is f out room),
  )
