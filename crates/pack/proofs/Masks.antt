-- Laws of masks: bytes that equal the byte after them, as binary digits, tell the short runs.
use Prim.Native.Nat.{ℕ, zero, suc, ◌+◌, ◌-◌, ◌*◌, ◌/◌, ◌%◌, ◌^◌, ◌≤◌, ◌<◌, min}
use native.Mathlib.Omega.{arith}
use native.Mathlib.Nat.{zero-div, div-one, zero-add, zero-mul, add_comm, add-mul, mul_assoc, mul-one, one-mul, pow-suc}
use native.Mathlib.Nat.{pow-succ', mod-lt, lt_of_lt_of_le}
use mathlib.Core.Path.{◌≡◌, refl, sym, ap, ap₂, ◌∙◌}
use mathlib.Core.Bool.{Bool, true, false, cond}
use mathlib.Core.List.{List, [], ◌∷◌}
use lib.Arith.{digits_div, digits_mod}
use lib.Bits.{bit_and, bit_or, and_step, or_block}
use lib.Count.{count_trailing_zeros, under, leading_unique, trailing_of_zero}
use lib.Dec.{eqb, leb}
use lib.ListN.{length, get_or, drop, length-drop, drop_of_length-le}
use lib.Pow.{pow-add, pow_mono, pow_pos, shl_exact, shr-shr, high, low, mod-pow-add}
use lib.Seq.{drop-cons, drop-drop}
use borrow.Author.Tests.{leb-true, leb-false, lt-leb}
use Rattle.lists.proofs.Cond.{cond-eqb}
use Rattle.pack.specs.Masks.{same_as, same_first, equal_next, singles, last_single}
use Rattle.pack.specs.Plan.{EqualRun, run, byte_before, runs, run_before, planned}
use Rattle.pack.specs.Runs.{leading}
use Rattle.pack.specs.ShortRuns.{short_bytes, long_count, ahead_at}
use Rattle.pack.specs.declared.Ahead.{Ahead}
use Rattle.pack.proofs.Plan.{before-none, before-single, before-repeated, longest-two}
use Rattle.pack.proofs.Runs.{runs-cons}
use Rattle.pack.proofs.Known.{long-bounds}
use Rattle.pack.proofs.ShortRuns.{literal_at, short_at, long_at, pair_more, pair-more, Ends, ahead-ends}
use Rattle.pack.proofs.Words.{trailing-past}

-- ---- the digits of bytes

same_first_lem : (x : ℕ) (s : List ℕ) → same_first x s ≤ 1
same_first_lem x [] = omega arith
same_first_lem x (y ∷ s) = cond-eqb (λ (n : ℕ). n ≤ 1) x y (λ e. omega arith) (λ e. omega arith)

equal-lt : (s : List ℕ) → equal_next s < 2 ^ length s
unfolding equal_next
equal-lt [] = omega arith
equal-lt (x ∷ s) = omega (arith, equal-lt s, same_first_lem x s, pow-suc 2 (length s))

equal-drop : (n : ℕ) (s : List ℕ) → equal_next s / 2 ^ n ≡ equal_next (drop n s)
unfolding equal_next
equal-drop zero s = div-one (equal_next s)
equal-drop (suc n) [] = zero-div (2 ^ suc n)
equal-drop (suc n) (x ∷ s) =
    let k : suc n ≡ 1 + n = omega arith in
    let f = same_first_lem x s in
    ap (λ (j : ℕ). (equal_next s * 2 + same_first x s) / 2 ^ j) k
    ∙ sym (shr-shr (equal_next s * 2 + same_first x s) 1 n)
    ∙ ap (λ (m : ℕ). m / 2 ^ n) (digits_div (equal_next s) {m = 2} {r = same_first x s} (omega arith))
    ∙ equal-drop n s

-- the digits at a later place
pub equal-later : (row : List ℕ) (i j : ℕ) → i ≤ j → equal_next (drop i row) / 2 ^ (j - i) ≡ equal_next (drop j row)
equal-later row i j h =
    let e : i + (j - i) ≡ j = omega arith in
    equal-drop (j - i) (drop i row)
    ∙ ap equal_next (drop-drop (j - i) i row ∙ ap (λ (k : ℕ). drop k row) e)

pub equal-none : (row : List ℕ) (i : ℕ) → length row ≤ i → equal_next (drop i row) ≡ 0
unfolding equal_next
equal-none row i h = ap equal_next (drop_of_length-le row h)

-- the digits of few bytes fit a word
pub equal-few : (row : List ℕ) (i : ℕ) → length row ≤ i + 63 → equal_next (drop i row) < 2 ^ 63
equal-few row i h =
    lt_of_lt_of_le (equal-lt (drop i row)) (pow_mono {j = 63} (omega (arith, length-drop i row)))

-- the last byte, and one byte more in front
pub equal-last : (row : List ℕ) (i : ℕ) → length row ≡ suc i → equal_next (drop i row) ≡ 0
unfolding equal_next
equal-last row i h =
    let d = drop_of_length-le row {i = suc i} (omega arith) in
    ap equal_next (drop-cons row i 0 (omega arith) ∙ ap (λ (s : List ℕ). get_or row i 0 ∷ s) d)

pub equal-before : (row : List ℕ) (i : ℕ) → suc i < length row
    → equal_next (drop i row) ≡ equal_next (drop (suc i) row) * 2 + same_as (get_or row i 0) (get_or row (suc i) 0)
unfolding equal_next
equal-before row i h =
    let x = get_or row i 0 in
    ap equal_next (drop-cons row i 0 (omega arith))
    ∙ ap (λ (s : List ℕ). equal_next (drop (suc i) row) * 2 + same_first x s) (drop-cons row (suc i) 0 h)

-- ---- the digits of runs: of n equal bytes all but the last one equal the next

-- the digits of a run of n bytes before digits m
abbrev run_digits : ℕ → ℕ → ℕ
run_digits zero m = m
run_digits (suc n) m = m * 2 ^ suc n + (2 ^ n - 1)

abbrev digits : List EqualRun → ℕ
digits [] = 0
digits (r ∷ rs) = run_digits r.count (digits rs)

run-longer : (n m : ℕ) → run_digits (suc n) m * 2 + 1 ≡ run_digits (suc (suc n)) m
run-longer n m =
    let p = ap (λ (k : ℕ). m * k) (pow-suc 2 (suc n)) ∙ sym (mul_assoc m (2 ^ suc n) 2) in
    omega (arith, p, pow-suc 2 n, pow_pos n)

byte-digits : (x y n : ℕ) (rs : List EqualRun) (t : Bool)
    → digits (run y (suc n) ∷ rs) * 2 + cond t 1 0
    ≡ digits (cond t (run x (suc (suc n)) ∷ rs) (run x 1 ∷ run y (suc n) ∷ rs))
byte-digits x y n rs true = run-longer n (digits rs)
byte-digits x y n rs false = omega arith

equal-runs : (s : List ℕ) → equal_next s ≡ digits (runs s)
unfolding equal_next runs
equal-runs [] = refl
equal-runs (x ∷ []) = refl
equal-runs (x ∷ y ∷ s) =
    ap (λ (m : ℕ). m * 2 + same_as x y) (equal-runs (y ∷ s) ∙ ap digits (runs-cons y s))
    ∙ byte-digits x y (leading y s) (runs (drop (leading y s) s)) (eqb x y)
    ∙ ap (λ (rs : List EqualRun). digits (byte_before x rs)) (sym (runs-cons y s))

-- ---- three equal bytes, and the first run of so many

abbrev pub triples : ℕ → ℕ
triples m = bit_and m (m / 2)

triples_step : (m d : ℕ) → d < 2 → triples (m * 2 + d) ≡ triples m * 2 + min d (m % 2)
triples_step m d h =
    let q : (m * 2 + d) / 2 ≡ m = digits_div m h in
    let r : (m * 2 + d) % 2 ≡ d = digits_mod m h in
    ap (bit_and (m * 2 + d)) q ∙ and_step (m * 2 + d) m ∙ ap₂ (λ (a b : ℕ). bit_and a (m / 2) * 2 + min b (m % 2)) q r

-- a short run has none
triples-short : (k m : ℕ) → k ≤ 2 → triples (run_digits k m) ≡ triples m * 2 ^ k
triples-short zero m h = sym (mul-one (triples m))
triples-short (suc zero) m h = triples_step m 0 (omega arith) ∙ omega arith
triples-short (suc (suc zero)) m h =
    let e : run_digits 2 m ≡ (m * 2 + 0) * 2 + 1 = omega arith in
    let z : (m * 2 + 0) % 2 ≡ 0 = omega arith in
    ap triples e
    ∙ triples_step (m * 2 + 0) 1 (omega arith)
    ∙ ap₂ (λ (a b : ℕ). a * 2 + min 1 b) (triples_step m 0 (omega arith)) z
    ∙ omega arith
triples-short (suc (suc (suc k))) m h = absurd (omega arith)

-- a longer one has one at its first byte
triples-long : (k m : ℕ) → triples (run_digits (suc (suc (suc k))) m) % 2 ≡ 1
triples-long k m =
    let q = run_digits (suc k) m in
    let e : run_digits (suc (suc (suc k))) m ≡ (q * 2 + 1) * 2 + 1 =
    sym (run-longer (suc k) m) ∙ ap (λ (n : ℕ). n * 2 + 1) (sym (run-longer k m)) in
    let z : (q * 2 + 1) % 2 ≡ 1 = omega arith in
    let t = ap triples e ∙ triples_step (q * 2 + 1) 1 (omega arith) in
    ap (λ (n : ℕ). n % 2) (t ∙ ap (λ (b : ℕ). triples (q * 2 + 1) * 2 + min 1 b) z) ∙ omega arith

-- the digits m have n short bytes first, and then a run of c bytes, or none and nothing
record Told (m n c : ℕ) : Type 0 where
  rest : ℕ
  shift : m / 2 ^ n ≡ rest
  found : triples m ≡ triples rest * 2 ^ n
  none : c ≡ 0 → rest ≡ 0
  some : (c ≡ 0 → ⊥) → (k : ℕ) × (h : ℕ) × (c ≡ suc (suc (suc k))) × (rest ≡ run_digits (suc (suc (suc k))) h)

run-shift : (k m : ℕ) → run_digits k m / 2 ^ k ≡ m
run-shift zero m = div-one m
run-shift (suc k) m = high m (suc k) (omega (arith, pow-suc 2 k, pow_pos k))

told-short : (k m n c : ℕ) → k ≤ 2 → Told m n c → Told (run_digits k m) (k + n) c
told-short k m n c h t =
    let p : 2 ^ n * 2 ^ k ≡ 2 ^ (k + n) = sym (pow-add 2 n k) ∙ ap (λ (j : ℕ). 2 ^ j) (add_comm n k) in
    record {
      rest = t.rest;
      shift = sym (shr-shr (run_digits k m) k n) ∙ ap (λ (j : ℕ). j / 2 ^ n) (run-shift k m) ∙ t.shift;
      found =
          triples-short k m h
          ∙ ap (λ (j : ℕ). j * 2 ^ k) t.found
          ∙ mul_assoc (triples t.rest) (2 ^ n) (2 ^ k)
          ∙ ap (λ (j : ℕ). triples t.rest * j) p;
      none = t.none;
      some = t.some;
    }

told-long : (k m : ℕ) → 2 < k → Told (run_digits k m) 0 k
told-long zero m h = absurd (omega arith)
told-long (suc zero) m h = absurd (omega arith)
told-long (suc (suc zero)) m h = absurd (omega arith)
told-long (suc (suc (suc k))) m h =
    let all = run_digits (suc (suc (suc k))) m in
    record {
      rest = all;
      shift = div-one all;
      found = sym (mul-one (triples all));
      none = λ e. absurd (omega arith);
      some = λ e. (k, m, refl, refl);
    }

told : (rs : List EqualRun) → Told (digits rs) (short_bytes rs) (long_count rs)
unfolding short_bytes long_count
told [] = record { rest = 0; shift = refl; found = refl; none = λ e. refl; some = λ e. absurd (e refl) }
told (r ∷ rs) = go (leb r.count 2) refl (told rs)
  where
    go : (t : Bool) → leb r.count 2 ≡ t → Told (digits rs) (short_bytes rs) (long_count rs)
        → Told (digits (r ∷ rs)) (cond t (r.count + short_bytes rs) 0) (cond t (long_count rs) r.count)
    go true e d = told-short r.count (digits rs) (short_bytes rs) (long_count rs) (leb-true r.count 2 e) d
    go false e d = told-long r.count (digits rs) (leb-false r.count 2 e)

-- the zeros below an odd number's digits
trailing_odd : (j h : ℕ) → j < 64 → h % 2 ≡ 1 → count_trailing_zeros 64 (h * 2 ^ j) ≡ j
unfolding count_trailing_zeros
trailing_odd j h l e =
    let k = 63 - j in
    let w : 64 ≡ j + suc k = omega arith in
    let z : h * 2 ^ j ≡ h * 2 ^ j + 0 = omega arith in
    ap₂ count_trailing_zeros w z
    ∙ trailing-past j (suc k) h
    ∙ ap (λ (d : ℕ). j + under d (count_trailing_zeros k (h / 2))) e
    ∙ omega arith

module _ {m n c : ℕ} (t : Told m n c) (h : n < 64) where
  found-odd : (c ≡ 0 → ⊥) → triples t.rest % 2 ≡ 1
  found-odd e =
      let s = t.some e in
      ap (λ (k : ℕ). triples k % 2) s.3 ∙ triples-long s.0 s.1

  found_at : (c ≡ 0 → ⊥) → count_trailing_zeros 64 (triples m) ≡ n
  found_at e = ap (count_trailing_zeros 64) t.found ∙ trailing_odd n (triples t.rest) h (found-odd e)

  told_none : triples m ≡ 0 → c ≡ 0
  told_none e = go c (λ (f : c ≡ 0 → ⊥). omega (arith, found_at f, ap (count_trailing_zeros 64) e, trailing_of_zero 64))
    where
      go : (k : ℕ) → ((k ≡ 0 → ⊥) → ⊥) → k ≡ 0
      go zero f = refl
      go (suc k) f = absurd (f (λ e. omega arith))

  told-rest : (c ≡ 0 → ⊥) → c ≤ 64 → count_trailing_zeros 64 (m / 2 ^ n + 1) + 1 ≡ c
  told-rest e l =
      let s = t.some e in
      let j = suc (suc s.0) in
      let i = s.1 in
      let p = ap (λ (k : ℕ). i * k) (pow-succ' 2 j) ∙ sym (mul_assoc i 2 (2 ^ j)) in
      let q = add-mul (i * 2) 1 (2 ^ j) in
      let r : m / 2 ^ n + 1 ≡ (i * 2 + 1) * 2 ^ j =
      omega (arith, t.shift, s.3, p, q, one-mul (2 ^ j), pow_pos j) in
      omega (arith, ap (count_trailing_zeros 64) r, trailing_odd j (i * 2 + 1) (omega (arith, s.2)) (omega arith), s.2)

  told-some : (triples m ≡ 0 → ⊥) → c ≤ 64
      → (count_trailing_zeros 64 (triples m) ≡ n) × (count_trailing_zeros 64 (m / 2 ^ n + 1) + 1 ≡ c)
  told-some f l =
      let e : c ≡ 0 → ⊥ =
      λ z. f (t.found ∙ ap (λ (k : ℕ). triples k * 2 ^ n) (t.none z) ∙ zero-mul (2 ^ n)) in
      (found_at e, told-rest e l)

-- ---- bytes without an equal neighbour, and the end of the last one

abbrev paired : ℕ → ℕ
paired m = bit_or m (m * 2)

-- the digits below the place k + n of digits p above k digits d
low-digits : (p k n d : ℕ) → d < 2 ^ k → (p * 2 ^ k + d) % 2 ^ (n + k) ≡ (p % 2 ^ n) * 2 ^ k + d
low-digits p k n d h =
    mod-pow-add (p * 2 ^ k + d) n k
    ∙ ap₂ (λ (a b : ℕ). (a % 2 ^ n) * 2 ^ k + b) (high p k h) (low p k h)

singles-single : (m n : ℕ) → singles (run_digits 1 m) (1 + n) ≡ singles m n * 2 + 1
singles-single m n =
    let o : paired (run_digits 1 m) ≡ paired m * 2 ^ 1 + 0 =
    ap (bit_or (m * 2 ^ 1 + 0)) (omega arith) ∙ or_block 1 m (m * 2) 0 0 (omega arith) (omega arith) in
    let w : paired (run_digits 1 m) % 2 ^ (1 + n) ≡ (paired m % 2 ^ n) * 2 ^ 1 + 0 =
    ap₂ (λ (a b : ℕ). a % 2 ^ b) o (add_comm 1 n) ∙ low-digits (paired m) 1 n 0 (omega arith) in
    omega (arith, w, pow-add 2 1 n, mod-lt (paired m) (pow_pos n))

singles-pair : (m n : ℕ) → singles (run_digits 2 m) (2 + n) ≡ singles m n * 4
singles-pair m n =
    let o : paired (run_digits 2 m) ≡ paired m * 2 ^ 2 + 3 =
    ap (bit_or (m * 2 ^ 2 + 1)) (omega arith) ∙ or_block 2 m (m * 2) 1 2 (omega arith) (omega arith) in
    let w : paired (run_digits 2 m) % 2 ^ (2 + n) ≡ (paired m % 2 ^ n) * 2 ^ 2 + 3 =
    ap₂ (λ (a b : ℕ). a % 2 ^ b) o (add_comm 2 n) ∙ low-digits (paired m) 2 n 3 (omega arith) in
    omega (arith, w, pow-add 2 2 n, mod-lt (paired m) (pow_pos n))

-- a digit at the place n of a word
pub one_shifted : (n : ℕ) → n ≤ 63 → 1 * 2 ^ n % 2 ^ 64 ≡ 2 ^ n
one_shifted n h = shl_exact {a = 1} 1 n 64 (omega arith) (omega arith) ∙ one-mul (2 ^ n)

-- a has k digits
abbrev Has : ℕ → ℕ → Type 0
Has a k = (a < 2 ^ k) × (2 ^ k ≤ 2 * a + 1)

has-single : (a k : ℕ) → Has a k → Has (a * 2 + 1) (suc k)
has-single a k h = omega (arith, h, pow-suc 2 k)

has-pair : (a k : ℕ) → Has a k → Has (a * 4) (pair_more k)
has-pair a zero h = omega (arith, h)
has-pair a (suc k) h = omega (arith, h, pow-suc 2 k, pow-suc 2 (suc k), pow-suc 2 (suc (suc k)))

singles-more : (rs : List EqualRun) → Has (singles (digits rs) (short_bytes rs)) (planned rs).more
unfolding planned short_bytes
singles-more [] = omega arith
singles-more (r ∷ rs) = go r.byte r.count (singles-more rs)
  where
    go : (x n : ℕ) → Has (singles (digits rs) (short_bytes rs)) (planned rs).more
        → Has (singles (run_digits n (digits rs)) (cond (leb n 2) (n + short_bytes rs) 0))
        (run_before (run x n) (planned rs)).more
    go x zero h = rw (before-none x (planned rs), zero-add (short_bytes rs)) h
    go x (suc zero) h =
        rw (before-single x (planned rs), singles-single (digits rs) (short_bytes rs))
        (has-single (singles (digits rs) (short_bytes rs)) (planned rs).more h)
    go x (suc (suc zero)) h =
        rw (pair-more x (planned rs).more (planned rs).rest, singles-pair (digits rs) (short_bytes rs))
        (has-pair (singles (digits rs) (short_bytes rs)) (planned rs).more h)
    go x (suc (suc (suc k))) h =
        let n = suc (suc (suc k)) in
        rw (lt-leb n 2 (omega arith), before-repeated x n (planned rs) (omega (arith, longest-two (planned rs).more)))
        (omega arith)

last_more : (rs : List EqualRun) → (planned rs).more ≤ 64
    → last_single (digits rs) (short_bytes rs) ≡ (planned rs).more
last_more rs l =
    let h = singles-more rs in
    let k = (planned rs).more in
    let u =
    leading_unique 64 (singles (digits rs) (short_bytes rs)) (64 - k) k (omega arith) h.0 h.1 in
    omega (arith, u)

-- ---- the short runs from a place on, by the mask there

module _ (row : List ℕ) (i m : ℕ) (h : i < length row) (few : length row ≤ i + 63) (e : m ≡ equal_next (drop i row))
  where
    pub mask-few : m < 2 ^ 63
    mask-few = omega (arith, e, equal-few row i few)

    digits-here : m ≡ digits (runs (drop i row))
    digits-here = e ∙ equal-runs (drop i row)

    told_here : Told m (short_at row i) (long_at row i)
    told_here = rw digits-here (told (runs (drop i row)))

    ends-here : Ends row i (ahead_at row i)
    ends-here = ahead-ends row i (omega arith)

    short-few : (literal_at row i ≤ short_at row i) × (short_at row i ≤ 63)
    short-few = let a = ends-here.0.1.0 in (omega (arith, a.1), omega (arith, a.2))

    long-few : (n : ℕ) → long_at row i ≡ n → n ≤ 63
    long-few zero q = omega arith
    long-few (suc n) q =
        let l = long-bounds (ends-here.0.1.1 (λ z. omega arith)) in
        omega (arith, l)

    last-here : last_single m (short_at row i) ≡ literal_at row i
    last-here = rw digits-here (last_more (runs (drop i row)) (omega (arith, short-few)))

    pub masked-end : triples m ≡ 0
        → ◌≡◌ {A = Ahead} (record { single = i + last_single m (length row - i); end = length row; count = 0 })
        (ahead_at row i)
    masked-end z =
        let none : long_at row i ≡ 0 = told_none told_here (omega (arith, short-few)) z in
        let all : length row ≡ i + short_at row i = sym (ends-here.1 none) in
        let left : length row - i ≡ short_at row i = omega arith in
        rw (left, last-here, all, none) refl

    module _ (f : triples m ≡ 0 → ⊥) where
      here : (count_trailing_zeros 64 (triples m) ≡ short_at row i)
          × (count_trailing_zeros 64 (m / 2 ^ short_at row i + 1) + 1 ≡ long_at row i)
      here =
          let c = long-few (long_at row i) refl in
          told-some told_here (omega (arith, short-few)) f (omega arith)

      pub masked-few : count_trailing_zeros 64 (triples m) ≤ 63
      masked-few = omega (arith, here.0, short-few)

      pub masked-long : let z = count_trailing_zeros 64 (triples m) in
          ◌≡◌ {A = Ahead}
          (record { single = i + last_single m z; end = i + z; count = count_trailing_zeros 64 (m / 2 ^ z + 1) + 1 })
          (ahead_at row i)
      masked-long = rw (here.0, here.1, last-here) refl
