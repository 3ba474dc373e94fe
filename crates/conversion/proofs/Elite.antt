-- Laws of `write_elite`: which form it writes, and what reading finds in it.
use Rattle.std.specs.Prelude.{Ok, Err}
use mathlib.Core.Path.{◌≡◌, refl, sym, ap, ◌∙◌}
use mathlib.Core.Bool.{Bool, true, false}
use mathlib.Core.List.{List}
use Prim.Native.Nat.{ℕ}
use native.Mathlib.Omega.{arith}
use lib.Dec.{leb, eqb}
use lib.ListN.{length, take}
use lib.Seq.{length-take-le}
use Rattle.lists.specs.Bytes.{Bytes}
use Rattle.lists.proofs.Cond.{cond-elim, cond-eqb}
use Rattle.outcome.specs.Outcome.{Outcome, refuse, map, later, Judged}
use Rattle.outcome.specs.Refusal.{no_packed_body}
use Rattle.outcome.proofs.Outcome.{judged-value, judged-map}
use Rattle.resolution.specs.declared.Resolution.{Resolution}
use Rattle.resolution.specs.Shapes.{screen_bytes, raster_of}
use Rattle.bodies.specs.Packing.{least_body}
use Rattle.bodies.proofs.Packing as packing
use Rattle.bodies.proofs.Packing.{limit-long, limit-below}
use Rattle.picture.specs.declared.Picture.{Picture}
use Rattle.picture.specs.Whole.{WholePicture}
use Rattle.picture.specs.Writing.{Writing, raw_writing, write_answer}
use Rattle.picture.proofs.Writing.{Passed}
use Rattle.degas.specs.declared.Form.{Form}
use Rattle.degas.specs.declared.Form.TheVariants.{Elite, Packed}
use Rattle.degas.specs.Layout.{body_limit, elite_file}
use Rattle.degas.specs.LeastBody.{WritesPacked}
use Rattle.degas.specs.Reading.{read_degas}
use Rattle.degas.specs.Writing.{packed_writing, write_packed, write_degas, degas_back}
use Rattle.degas.proofs.FileLayout.{length-elite}
use Rattle.degas.proofs.LeastBody.{packed-refused-exactly, packed-otherwise}
use Rattle.degas.proofs.RoundTrip.{ReadsBack, degas-back}
use Rattle.degas.proofs.WriteDegas.{write-passed}
use Rattle.conversion.specs.Converting.{recover, write_elite}
use Rattle.conversion.specs.Accepts.{WritesElite, packed, raw}

-- form 3 where it is not refused
pub elite-packed : (p : Picture) (screen : List ℕ) (out : ℕ) (w : Writing) → write_degas Packed p screen out ≡ Ok w
    → write_elite p screen out ≡ Ok w
unfolding write_elite
elite-packed p screen out w e = rw e

-- ---- a picture of a known resolution, given areas of the stated sizes

module _ (r : Resolution) (p : Picture) (screen : List ℕ) (out : ℕ)
    (fits : Passed (length screen) out p.resolution r) where
  abbrev form3 : Outcome Writing
  form3 = write_degas Packed p screen out

  -- it is refused with 9, or accepted
  form3-cases : {P : Type 0} → (form3 ≡ refuse no_packed_body → P) → ((w : Writing) → form3 ≡ Ok w → P) → P
  unfolding write_packed
  form3-cases {P} nine written = go (leb body_limit (length (least_body (raster_of r) screen))) refl
    where
      go : (long : Bool) → leb body_limit (length (least_body (raster_of r) screen)) ≡ long → P
      go true e =
          nine
          (write-passed Packed p screen out fits
          ∙ ap (map (packed_writing p)) (limit-long (raster_of r) screen body_limit e))
      go false e =
          written (packed_writing p (packing.packed (raster_of r) screen body_limit))
          (write-passed Packed p screen out fits
          ∙ ap (map (packed_writing p)) (limit-below (raster_of r) screen body_limit e))

  -- as what it is accepted
  form3-writes : WholePicture p → (w : Writing) → form3 ≡ Ok w
      → (v : Writing) × (form3 ≡ Ok v) × WritesPacked r p screen v
  form3-writes whole w is =
      packed-otherwise r p screen out fits.known fits.screen-fits fits.output-fits whole
      (λ nine. let z : ◌≡◌ {A = ℕ} 0 1 = cc in absurd (omega arith))

  -- form 2 where form 3 is refused with 9
  pub elite-raw : form3 ≡ refuse no_packed_body → write_elite p screen out ≡ raw_writing (elite_file p screen)
  unfolding write_elite
  elite-raw e = rw e (write-passed Elite p screen out fits)

  -- form 2 only there: it is longer than any file of form 3
  pub elite-raw-only : WholePicture p → write_elite p screen out ≡ raw_writing (elite_file p screen)
      → form3 ≡ refuse no_packed_body
  unfolding elite_file
  elite-raw-only whole e =
      form3-cases (λ nine. nine) (λ w is.
      let g = form3-writes whole w is in
      let same = sym (elite-packed p screen out g.0 g.1) ∙ e in
      let long = ap (λ (o : Outcome Writing). later o (λ v. length v.file) 0) same in
      absurd (
      omega (
        arith,
        long,
        g.2.all,
        g.2.size,
        g.2.least.below,
        length-elite p whole p.resolution (take screen_bytes screen),
        length-take-le screen_bytes screen fits.screen-fits,
      )
      ))

  abbrev number : Outcome Writing → ℕ
  number o = (write_answer o).refusal.number

  -- it is accepted
  pub elite-number : number (write_elite p screen out) ≡ 0
  elite-number =
      form3-cases (λ nine. ap number (elite-raw nine)) (λ w is. ap number (elite-packed p screen out w is))

  -- in one of the two forms
  pub elite-writes : WholePicture p → Bytes screen
      → (w : Writing) × (write_elite p screen out ≡ Ok w) × WritesElite r p screen w
  elite-writes whole bytes =
      form3-cases
      (λ nine.
      let none =
      (packed-refused-exactly r p screen out fits.known fits.screen-fits fits.output-fits bytes).0 nine in
      (record { file = elite_file p screen; body = 0; records = 0 }, elite-raw nine, raw none refl))
      (λ w is.
      let g = form3-writes whole w is in
      (g.0, elite-packed p screen out g.0 g.1, packed g.2))

-- ---- a refusal has a number

recover-judged : {A : Type 0} (P : A → Type 0) (number : ℕ) (o other : Outcome A) → Judged P o → Judged P other
    → Judged P (recover number o other)
recover-judged P number (Ok a) other p q = p
recover-judged P number (Err why) other p q =
    cond-elim (Judged P) (eqb why.number number) (λ _. q) (λ _. p)

module _ (P : Type 0) (holds : P) (p : Picture) (whole : WholePicture p) (screen : List ℕ) (out : ℕ) where
  abbrev Holds : Writing → Type 0
  Holds w = P

  pub form-judged : (form : Form) → Judged Holds (write_degas form p screen out)
  form-judged form =
      judged-map (ReadsBack p whole screen screen_bytes (omega arith) form) Holds (write_degas form p screen out)
      (degas-back p whole screen screen_bytes (omega arith) form out) (λ w _. holds)

  pub elite-judged : Judged Holds (write_elite p screen out)
  unfolding write_elite
  elite-judged =
      recover-judged Holds no_packed_body (write_degas Packed p screen out) (write_degas Elite p screen out)
      (form-judged Packed) (form-judged Elite)

-- ---- what reading finds in it: the picture with its tail present, the counts and the screen

pub elite-reads : (p : Picture) → WholePicture p → (screen : List ℕ) (out : ℕ) (w : Writing)
    → write_elite p screen out ≡ Ok w → read_degas w.file screen_bytes ≡ Ok (degas_back Elite p screen w)
unfolding write_elite
elite-reads p whole screen out w e = go (write_degas Packed p screen out) refl e
  where
    go : (o : Outcome Writing) → write_degas Packed p screen out ≡ o
        → recover no_packed_body o (write_degas Elite p screen out) ≡ Ok w
        → read_degas w.file screen_bytes ≡ Ok (degas_back Elite p screen w)
    go (Ok v) is e =
        judged-value (ReadsBack p whole screen screen_bytes (omega arith) Packed) (write_degas Packed p screen out) w
        (degas-back p whole screen screen_bytes (omega arith) Packed out) (is ∙ e)
    go (Err why) is e =
        cond-eqb
        (λ (o : Outcome Writing).
        o ≡ Ok w → read_degas w.file screen_bytes ≡ Ok (degas_back Elite p screen w))
        why.number no_packed_body
        (λ nine e.
        judged-value (ReadsBack p whole screen screen_bytes (omega arith) Elite) (write_degas Elite p screen out) w
        (degas-back p whole screen screen_bytes (omega arith) Elite out) e)
        (λ other e. let z : ◌≡◌ {A = ℕ} 0 1 = cc in absurd (omega arith))
        e
