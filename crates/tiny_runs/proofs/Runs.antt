-- Laws of one run: each case of its judgement, and what a run without a fault takes and makes.
use mathlib.Core.Path.{◌≡◌, refl, sym, ap, ◌∙◌}
use Prim.Native.Nat.{ℕ, zero, suc, ◌-◌, ◌≤◌, ◌<◌}
use native.Mathlib.Decide.{dec_lt}
use native.Mathlib.Omega.{arith}
use mathlib.Core.Bool.{Bool, true, false, cond, ◌||◌}
use mathlib.Core.List.{List, [], ◌∷◌}
use lib.ListN.{length, get_or, length-replicate}
use lib.Seq.{length-take-le}
use lib.Dec.{ltb, eqb}
use borrow.Author.Tests.{lt-ltb, le-ltb, ne_eqb, ltb-false}
use Rattle.outcome.specs.Refusal.{undefined_control, run_too_long}
use Rattle.words.specs.Word.{word_at}
use Rattle.tiny_runs.specs.Runs.{Standing, least_count, most_count, defined, faulty, long_run, run_of, fitted, run_at, words_made}

-- ---- a long run

module _ (repeats : Bool) (rest : List ℕ) where
  pub long-cut : length rest < 2 → long_run repeats rest ≡ faulty run_too_long
  unfolding long_run
  long-cut h = simp (lt-ltb (length rest) 2 h)

  pub long-low : 2 ≤ length rest → word_at rest 0 < least_count → long_run repeats rest ≡ faulty undefined_control
  unfolding long_run
  long-low h k = simp (le-ltb (length rest) 2 h, lt-ltb (word_at rest 0) least_count k)

  pub long-high : 2 ≤ length rest → most_count < word_at rest 0 → long_run repeats rest ≡ faulty undefined_control
  unfolding long_run
  long-high h k =
      simp (
        le-ltb (length rest) 2 h,
        le-ltb (word_at rest 0) least_count (omega arith),
        lt-ltb most_count (word_at rest 0) k,
      )

  pub long-defined : 2 ≤ length rest → least_count ≤ word_at rest 0 → word_at rest 0 ≤ most_count
      → long_run repeats rest ≡ defined repeats (word_at rest 0) 3
  unfolding long_run
  long-defined h k l =
      simp (le-ltb (length rest) 2 h, le-ltb (word_at rest 0) least_count k, le-ltb most_count (word_at rest 0) l)

-- ---- a control byte

module _ (x : ℕ) (rest : List ℕ) where
  pub run_long : x < 2 → run_of x rest ≡ long_run (eqb x 0) rest
  unfolding run_of
  run_long h = simp (lt-ltb x 2 h)

  pub run-repeat : 2 ≤ x → x < 128 → run_of x rest ≡ defined true x 1
  unfolding run_of
  run-repeat h k = simp (le-ltb x 2 h, lt-ltb x 128 k)

  pub run-undefined : x ≡ 128 → run_of x rest ≡ faulty undefined_control
  unfolding run_of
  run-undefined e = rw e

  pub run-literal : 128 < x → run_of x rest ≡ defined false (256 - x) 1
  unfolding run_of
  run-literal h = simp (le-ltb x 2 (omega arith), le-ltb x 128 (omega arith), ne_eqb x 128 (omega arith))

-- ---- a run judged against the room and the data

module _ (r : Standing) (left room : ℕ) where
  pub fitted-same : r.count ≤ room → r.datas ≤ left → fitted r left room ≡ r
  fitted-same h k = simp (le-ltb room r.count h, le-ltb left r.datas k)

  -- one that is not at fault fits
  unfitted : (fitted r left room).fault ≡ 0 → (fitted r left room ≡ r) × (r.count ≤ room) × (r.datas ≤ left)
  unfitted = go (ltb room r.count) (ltb left r.datas) refl refl
    where
      go : (a b : Bool) → ltb room r.count ≡ a → ltb left r.datas ≡ b
          → (cond (a || b) (faulty run_too_long) r).fault ≡ 0
          → (cond (a || b) (faulty run_too_long) r ≡ r) × (r.count ≤ room) × (r.datas ≤ left)
      go true b p q e = absurd (omega arith)
      go false true p q e = absurd (omega arith)
      go false false p q e = (refl, ltb-false _ _ p, ltb-false _ _ q)

-- ---- the run at the front of control bytes

module _ (x : ℕ) (rest : List ℕ) (left room : ℕ) where
  pub run-front : (run_of x rest).count ≤ room → (run_of x rest).datas ≤ left → run_at (x ∷ rest) left room ≡ run_of x rest
  unfolding run_at
  run-front h k = fitted-same (run_of x rest) left room h k

  pub run_fits : (run_at (x ∷ rest) left room).fault ≡ 0
      → (run_at (x ∷ rest) left room ≡ run_of x rest) × ((run_of x rest).count ≤ room) × ((run_of x rest).datas ≤ left)
  unfolding run_at
  run_fits e = unfitted (run_of x rest) left room e

-- ---- a control byte whose run is not at fault

-- control bytes 0 and 1
long-control : (x : ℕ) → x < 2 → x ≡ cond (eqb x 0) 0 1
long-control zero h = refl
long-control (suc zero) h = refl
long-control (suc (suc x)) h = absurd (omega arith)

-- it is a repeat, a literal, or one of the two with a long count
pub by-run : {X : Type 0} (x : ℕ) (rest : List ℕ) → (run_of x rest).fault ≡ 0
    → (2 ≤ x → x < 128 → run_of x rest ≡ defined true x 1 → X)
    → (128 < x → run_of x rest ≡ defined false (256 - x) 1 → X)
    → ((repeats : Bool) → x ≡ cond repeats 0 1 → 2 ≤ length rest → least_count ≤ word_at rest 0
    → word_at rest 0 ≤ most_count → run_of x rest ≡ defined repeats (word_at rest 0) 3 → X)
    → X
by-run {X} x rest ok repeat literal long = go (dec_lt x 2) (dec_lt x 128) (dec_lt 128 x)
  where
    count : ℕ
    count = word_at rest 0

    fault-is : (number : ℕ) → run_of x rest ≡ faulty number → number ≡ 0
    fault-is number e = sym (ap (λ (r : Standing). r.fault) e) ∙ ok

    by_count : x < 2 → Dec (length rest < 2) → Dec (count < least_count) → Dec (most_count < count) → X
    by_count h (yes a) b c =
        absurd (omega (arith, fault-is run_too_long (run_long x rest h ∙ long-cut (eqb x 0) rest a)))
    by_count h (no a) (yes b) c =
        absurd (omega (arith, fault-is undefined_control (run_long x rest h ∙ long-low (eqb x 0) rest (omega arith) b)))
    by_count h (no a) (no b) (yes c) =
        absurd (omega (arith, fault-is undefined_control (run_long x rest h ∙ long-high (eqb x 0) rest (omega arith) c)))
    by_count h (no a) (no b) (no c) =
        long (eqb x 0) (long-control x h) (omega arith) (omega arith) (omega arith)
        (run_long x rest h ∙ long-defined (eqb x 0) rest (omega arith) (omega arith) (omega arith))

    go : Dec (x < 2) → Dec (x < 128) → Dec (128 < x) → X
    go (yes h) b c = by_count h (dec_lt (length rest) 2) (dec_lt count least_count) (dec_lt most_count count)
    go (no h) (yes k) c = repeat (omega arith) k (run-repeat x rest (omega arith) k)
    go (no h) (no k) (yes l) = literal l (run-literal x rest l)
    go (no h) (no k) (no l) = absurd (omega (arith, fault-is undefined_control (run-undefined x rest (omega arith))))

-- ---- a run without a fault takes a control byte at least, and what there is at most; its words fit

pub record RunFits (r : Standing) (controls datas : List ℕ) (room : ℕ) : Type 0 where
  pub takes : 0 < r.controls
  pub has : r.controls ≤ length controls
  pub fits : r.count ≤ room
  pub given : r.datas ≤ length datas
  pub uses : r.datas ≡ cond r.repeats 1 r.count
  pub makes : length (words_made r datas) ≡ r.count

length-made : (repeats : Bool) (count controls : ℕ) (datas : List ℕ) → cond repeats 1 count ≤ length datas
    → length (words_made (defined repeats count controls) datas) ≡ count
unfolding words_made
length-made true count controls datas h = length-replicate count (get_or datas 0 0)
length-made false count controls datas h = length-take-le count datas h

defined-fits : {r : Standing} {controls datas : List ℕ} {room : ℕ} (repeats : Bool) (count k : ℕ)
    → r ≡ defined repeats count k → 0 < k → k ≤ length controls
    → r.count ≤ room → r.datas ≤ length datas → RunFits r controls datas room
defined-fits {datas = datas} repeats count k is h has fits given =
    record {
      takes = rw is h;
      has = rw is has;
      fits = fits;
      given = given;
      uses = rw is;
      makes = rw is (length-made repeats count k datas (rw is at given));
    }

no_run : (left room : ℕ) → (run_at [] left room).fault ≡ 0 → ⊥
unfolding run_at
no_run left room e = omega arith

pub sound-fits : (controls datas : List ℕ) (room : ℕ) → (run_at controls (length datas) room).fault ≡ 0
    → RunFits (run_at controls (length datas) room) controls datas room
sound-fits [] datas room e = absurd (no_run (length datas) room e)
sound-fits (x ∷ rest) datas room e =
    let w = run_fits x rest (length datas) room e in
    rw w.0
    (by-run x rest (rw w.0 at e)
    (λ h k is. defined-fits true x 1 is (omega arith) (omega arith) w.1 w.2)
    (λ h is. defined-fits false (256 - x) 1 is (omega arith) (omega arith) w.1 w.2)
    (λ repeats c l h k is. defined-fits repeats (word_at rest 0) 3 is (omega arith) (omega arith) w.1 w.2))
