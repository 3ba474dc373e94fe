-- A record is judged by its bytes alone, and exactly as the relations say.
use mathlib.Core.Path.{◌≡◌, refl, sym, ap, ◌∙◌, subst}
use mathlib.Core.Bool.{Bool, true, false}
use mathlib.Core.Logic.{◌⊎◌, inl, inr}
use mathlib.Core.List.{List, [], ◌∷◌, ◌++◌}
use Prim.Native.Nat.{ℕ, ◌+◌, ◌-◌, ◌*◌, ◌%◌, ◌≤◌, ◌<◌}
use native.Mathlib.Omega.{arith}
use native.Mathlib.Nat.{add-zero}
use lib.ListN.{length, get_or, take, drop, replicate, length-append, length-drop, length-replicate, take-append-drop}
use lib.Seq.{get_or-drop, drop-drop, take_at, drop_at, length-take-le}
use lib.Dec.{eqb}
use borrow.Author.Tests.{eqb-true, eqb-false, le-ltb, lt-ltb}
use Rattle.lists.specs.Bytes.{Bytes}
use Rattle.lists.specs.Repeated.{repeated}
use Rattle.lists.proofs.Repeated.{length-repeated}
use Rattle.lists.proofs.Cond.{cond-ltb}
use Rattle.gem_img_records.specs.declared.Record.{Record}
use Rattle.gem_img_records.specs.declared.Record.TheVariants.{ScanlineRun, PatternRun, Literal, SolidRun}
use Rattle.gem_img_records.specs.Records.{record_at, misplaced_fault, packed_len, line_len, line_bytes, fault}
use Rattle.gem_img_records.specs.Records.{fault_at, solid_byte, is_scanline_run}
use Rattle.gem_img_records.specs.WholeRecord.{WholeRecord, clear_run, set_run, literal, pattern_run}
use Rattle.gem_img_records.specs.StopsLine.{FaultyRecord, no_byte, lone, run_cut, run_misplaced, clear_crosses}
use Rattle.gem_img_records.specs.StopsLine.{set_crosses, literal_lone, literal_crosses, literal_cut, pattern_crosses}
use Rattle.gem_img_records.specs.StopsLine.{pattern_cut}
use Rattle.gem_img_records.proofs.Records.{control-scanline, control-pattern, control-literal, control-solid}
use Rattle.gem_img_records.proofs.Records.{solid-cleared, solid-set, misplaced-some, fault-scanline, fault-other}
use Rattle.gem_img_records.proofs.Records.{fit-crosses, fit-ends, fit-whole}

-- ---- the record at an offset of a file is the one at the front of the bytes from there on

module _ (file : List ℕ) (at : ℕ) where
  pub record-front : record_at file at ≡ record_at (drop at file) 0
  unfolding record_at
  record-front =
      let first : get_or (drop at file) 0 0 ≡ get_or file at 0 =
      get_or-drop at file 0 0 ∙ ap (λ (k : ℕ). get_or file k 0) (add-zero at) in
      rw (first, get_or-drop at file 1 0)

  pub fault-front : (pattern room : ℕ) → fault_at pattern file at room ≡ fault_at pattern (drop at file) 0 room
  unfolding fault_at
  fault-front pattern room =
      let size : length (drop at file) - 0 ≡ length file - at = omega (arith, length-drop at file) in
      rw (record-front, size)

  pub bytes-front : (pattern : ℕ) (r : Record) → line_bytes pattern r file at ≡ line_bytes pattern r (drop at file) 0
  bytes-front pattern ScanlineRun = refl
  bytes-front pattern (PatternRun n) =
      ap (λ (l : List ℕ). repeated n (take pattern l)) (sym (drop-drop 2 at file))
  bytes-front pattern (Literal n) = ap (take n) (sym (drop-drop 2 at file))
  bytes-front pattern (SolidRun x) = refl

-- ---- judged by what it is

-- what judging the record at the front of the input comes to
abbrev pub JudgedRecord : ℕ → ℕ → List ℕ → Type 0
JudgedRecord pattern room input =
    (fault_at pattern input 0 room ≡ 0
    → WholeRecord pattern input (drop (packed_len pattern (record_at input 0)) input)
    (line_bytes pattern (record_at input 0) input 0))
    × ((fault_at pattern input 0 room ≡ 0 → ⊥) → FaultyRecord pattern room input (fault_at pattern input 0 room))

module _ (pattern room : ℕ) (input : List ℕ) (r : Record) (is : record_at input 0 ≡ r) where
  fault-is : fault_at pattern input 0 room ≡ fault pattern r (length input) room
  unfolding fault_at
  fault-is = let all : length input - 0 ≡ length input = omega arith in rw (is, all)

  -- from the judgement of the record that it is
  judged-as : (fault pattern r (length input) room ≡ 0
      → WholeRecord pattern input (drop (packed_len pattern r) input) (line_bytes pattern r input 0))
      → ((fault pattern r (length input) room ≡ 0 → ⊥)
      → FaultyRecord pattern room input (fault pattern r (length input) room))
      → JudgedRecord pattern room input
  judged-as w f = rw (fault-is, is) (w, f)

  -- where it is a scanline run, or seems one past the end
  judged-run : r ≡ ScanlineRun → (length input < 4 → FaultyRecord pattern room input 6)
      → (4 ≤ length input → FaultyRecord pattern room input 22) → JudgedRecord pattern room input
  judged-run run cut misplaced =
      let n : fault pattern r (length input) room ≡ misplaced_fault (length input) = fault-scanline pattern r
      (length input) room run in
      judged-as (λ e. absurd (misplaced-some (length input) (sym n ∙ e)))
      (λ e. rw n (cond-ltb (λ k. FaultyRecord pattern room input k) (length input) 4 cut misplaced))

  -- where it is another
  judged-fit : is_scanline_run r ≡ false
      → (line_len pattern r ≤ room → packed_len pattern r ≤ length input
      → WholeRecord pattern input (drop (packed_len pattern r) input) (line_bytes pattern r input 0))
      → (room < line_len pattern r → FaultyRecord pattern room input 7)
      → (line_len pattern r ≤ room → length input < packed_len pattern r → FaultyRecord pattern room input 6)
      → JudgedRecord pattern room input
  judged-fit other whole crosses cut =
      let n = fault-other pattern r (length input) room other in
      let all =
      cond-ltb (λ k. (k ≡ 0 → WholeRecord pattern input (drop (packed_len pattern r) input)
      (line_bytes pattern r input 0))
      × ((k ≡ 0 → ⊥) → FaultyRecord pattern room input k)) room (line_len pattern r)
      (λ h. ((λ e. absurd (omega arith)), (λ e. crosses h)))
      (λ h. cond-ltb
      (λ k. (k ≡ 0 → WholeRecord pattern input (drop (packed_len pattern r) input) (line_bytes pattern r input 0))
      × ((k ≡ 0 → ⊥) → FaultyRecord pattern room input k)) (length input) (packed_len pattern r)
      (λ k. ((λ e. absurd (omega arith)), (λ e. cut h k)))
      (λ k. ((λ e. whole h k), (λ e. absurd (e refl))))) in
      judged-as (rw n all.0) (rw n all.1)

-- past the first two bytes
drop-pair : (x n k : ℕ) (rest : List ℕ) → drop (2 + k) (x ∷ n ∷ rest) ≡ drop k rest
drop-pair x n k rest = sym (drop-drop k 2 (x ∷ n ∷ rest))

-- ---- the relations from the judgement

module _ (pattern room : ℕ) where
  solid-exact : (x : ℕ) (rest : List ℕ) → x < 256 → (x ≡ 0 → ⊥) → (x ≡ 128 → ⊥)
      → record_at (x ∷ rest) 0 ≡ SolidRun x → JudgedRecord pattern room (x ∷ rest)
  solid-exact x rest b h k is =
      cond-ltb {A = ℕ} (λ u. JudgedRecord pattern room (x ∷ rest)) {a = 0} {b = 0} x 128
      (λ low.
      let n : x % 128 ≡ x = omega arith in
      let w : WholeRecord pattern (x ∷ rest) rest (replicate (x % 128) (solid_byte x)) =
      rw (n, solid-cleared x low) (clear_run {n = x} (omega arith) low) in
      judged-fit pattern room (x ∷ rest) (SolidRun x) is refl (λ f g. w)
      (λ f. clear_crosses {n = x} (omega arith) low (omega arith)) (λ f g. absurd (omega arith)))
      (λ high.
      let n : x % 128 ≡ x - 128 = omega arith in
      let up : 128 + (x - 128) ≡ x = omega arith in
      let w : WholeRecord pattern (x ∷ rest) rest (replicate (x % 128) (solid_byte x)) =
      rw (n, solid-set x high)
      (subst (λ (y : ℕ). WholeRecord pattern (y ∷ rest) rest (replicate (x - 128) 255)) up
      (set_run {n = x - 128} (omega arith) (omega arith))) in
      judged-fit pattern room (x ∷ rest) (SolidRun x) is refl (λ f g. w)
      (λ f.
      subst (λ (y : ℕ). FaultyRecord pattern room (y ∷ rest) 7) up
      (set_crosses {n = x - 128} (omega arith) (omega arith) (omega arith)))
      (λ f g. absurd (omega arith)))

  -- a literal or a pattern run, of whose bytes behind the first two none are missing
  literal-whole : (n : ℕ) (rest : List ℕ) → n < 256 → n ≤ length rest
      → WholeRecord pattern (128 ∷ n ∷ rest) (drop n rest) (take n rest)
  literal-whole n rest b h =
      let size : length (take n rest) ≡ n = length-take-le n rest h in
      subst (λ (l : List ℕ). WholeRecord pattern (128 ∷ n ∷ l) (drop n rest) (take n rest)) (take-append-drop n rest)
      (subst (λ (k : ℕ). WholeRecord pattern (128 ∷ k ∷ (take n rest ++ drop n rest)) (drop n rest) (take n rest)) size
      (literal (take n rest) {rest = drop n rest} (omega (arith, size))))

  pattern-whole : (n : ℕ) (rest : List ℕ) → 0 < n → n < 256 → pattern ≤ length rest
      → WholeRecord pattern (0 ∷ n ∷ rest) (drop pattern rest) (repeated n (take pattern rest))
  pattern-whole n rest some b h =
      subst (λ (l : List ℕ). WholeRecord pattern (0 ∷ n ∷ l) (drop pattern rest) (repeated n (take pattern rest)))
      (take-append-drop pattern rest)
      (pattern_run (take pattern rest) {rest = drop pattern rest} (length-take-le pattern rest h) some b)

  pair-exact : (x n : ℕ) (rest : List ℕ) → x < 256 → n < 256 → JudgedRecord pattern room (x ∷ n ∷ rest)
  unfolding record_at
  pair-exact x n rest b d = go (eqb x 0) (eqb n 0) (eqb x 128) refl refl refl
    where
      go : (zero nothing lit : Bool) → eqb x 0 ≡ zero → eqb n 0 ≡ nothing → eqb x 128 ≡ lit
          → JudgedRecord pattern room (x ∷ n ∷ rest)
      go true true lit e f g =
          let u : x ≡ 0 = eqb-true x 0 e in
          let v : n ≡ 0 = eqb-true n 0 f in
          rw (u, v)
          (judged-run pattern room (0 ∷ 0 ∷ rest) ScanlineRun (control-scanline 0 0 refl refl) refl
          (λ h. run_cut (omega arith)) (λ h. run_misplaced (omega arith)))
      go true false lit e f g =
          let u : x ≡ 0 = eqb-true x 0 e in
          let v : n ≡ 0 → ⊥ = eqb-false n 0 f in
          rw u
          (judged-fit pattern room (0 ∷ n ∷ rest) (PatternRun n) (control-pattern 0 n refl v) refl
          (λ h k. rw (drop-pair 0 n pattern rest) (pattern-whole n rest (omega arith) d (omega arith)))
          (λ h. pattern_crosses (omega arith) h)
          (λ h k. pattern_cut (omega arith) h (omega arith)))
      go false nothing true e f g =
          let u : x ≡ 128 = eqb-true x 128 g in
          rw u
          (judged-fit pattern room (128 ∷ n ∷ rest) (Literal n) (control-literal 128 n refl) refl
          (λ h k. rw (drop-pair 128 n n rest) (literal-whole n rest d (omega arith))) (λ h. literal_crosses h)
          (λ h k. literal_cut h (omega arith)))
      go false nothing false e f g =
          solid-exact x (n ∷ rest) b (eqb-false x 0 e) (eqb-false x 128 g)
          (control-solid x n (eqb-false x 0 e) (eqb-false x 128 g))

  single-exact : (x : ℕ) → x < 256 → JudgedRecord pattern room (x ∷ [])
  unfolding record_at
  single-exact x b = go (eqb x 0) (eqb x 128) refl refl
    where
      go : (zero lit : Bool) → eqb x 0 ≡ zero → eqb x 128 ≡ lit → JudgedRecord pattern room (x ∷ [])
      go true lit e g =
          let u : x ≡ 0 = eqb-true x 0 e in
          rw u
          (judged-run pattern room (0 ∷ []) ScanlineRun (control-scanline 0 0 refl refl) refl (λ h. lone)
          (λ h. absurd (omega arith)))
      go false true e g =
          let u : x ≡ 128 = eqb-true x 128 g in
          rw u
          (judged-fit pattern room (128 ∷ []) (Literal 0) (control-literal 128 0 refl) refl
          (λ h k. absurd (omega arith)) (λ h. absurd (omega arith)) (λ h k. literal_lone))
      go false false e g =
          solid-exact x [] b (eqb-false x 0 e) (eqb-false x 128 g)
          (control-solid x 0 (eqb-false x 0 e) (eqb-false x 128 g))

  pub record-exact : (input : List ℕ) → Bytes input → JudgedRecord pattern room input
  unfolding record_at
  record-exact [] b =
      judged-run pattern room [] ScanlineRun (control-scanline 0 0 refl refl) refl (λ h. no_byte)
      (λ h. absurd (omega arith))
  record-exact (x ∷ []) b = single-exact x (b 0)
  record-exact (x ∷ n ∷ rest) b = pair-exact x n rest (b 0) (b 1)

-- ---- and the judgement from the relations

-- what a whole record comes to, with room for it
pub record Counted (pattern room : ℕ) (input next bytes : List ℕ) : Type 0 where
  pub ok : fault_at pattern input 0 room ≡ 0
  pub makes : line_bytes pattern (record_at input 0) input 0 ≡ bytes
  pub long : line_len pattern (record_at input 0) ≡ length bytes
  pub behind : drop (packed_len pattern (record_at input 0)) input ≡ next

module _ (pattern room : ℕ) where
  counted : (input next bytes : List ℕ) (r : Record) → record_at input 0 ≡ r → is_scanline_run r ≡ false
      → line_bytes pattern r input 0 ≡ bytes → line_len pattern r ≡ length bytes → length bytes ≤ room
      → packed_len pattern r ≤ length input → drop (packed_len pattern r) input ≡ next
      → Counted pattern room input next bytes
  counted input next bytes r is other made size fits has rest =
      record {
        ok =
            fault-is pattern room input r is
            ∙ fault-other pattern r (length input) room other
            ∙ fit-whole pattern r (length input) room (omega (arith, size)) has;
        makes = rw is made;
        long = rw is size;
        behind = rw is rest;
      }

  pub whole-counted : {input next bytes : List ℕ} → WholeRecord pattern input next bytes → length bytes ≤ room
      → Counted pattern room input next bytes
  unfolding record_at
  whole-counted (clear_run {n} {rest} some low) h =
      let ne : n ≡ 0 → ⊥ = λ e. omega arith in
      let nl : n ≡ 128 → ⊥ = λ e. omega arith in
      let m : n % 128 ≡ n = omega arith in
      counted (n ∷ rest) rest (replicate n 0) (SolidRun n) (control-solid n (get_or rest 0 0) ne nl) refl
      (rw (m, solid-cleared n low)) (m ∙ sym (length-replicate n 0)) h (omega arith) refl
  whole-counted (set_run {n} {rest} some low) h =
      let ne : 128 + n ≡ 0 → ⊥ = λ e. omega arith in
      let nl : 128 + n ≡ 128 → ⊥ = λ e. omega arith in
      let m : (128 + n) % 128 ≡ n = omega arith in
      counted ((128 + n) ∷ rest) rest (replicate n 255) (SolidRun (128 + n))
      (control-solid (128 + n) (get_or rest 0 0) ne nl) refl (rw (m, solid-set (128 + n) (omega arith)))
      (m ∙ sym (length-replicate n 255)) h (omega arith) refl
  whole-counted (literal bytes {rest} few) h =
      counted (128 ∷ length bytes ∷ (bytes ++ rest)) rest bytes (Literal (length bytes))
      (control-literal 128 (length bytes) refl) refl (take_at bytes rest (length bytes) refl) refl h
      (omega (arith, length-append bytes rest))
      (drop-pair 128 (length bytes) (length bytes) (bytes ++ rest) ∙ drop_at bytes rest (length bytes) refl)
  whole-counted (pattern_run {n} bytes {rest} size some few) h =
      let ne : n ≡ 0 → ⊥ = λ e. omega arith in
      counted (0 ∷ n ∷ (bytes ++ rest)) rest (repeated n bytes) (PatternRun n) (control-pattern 0 n refl ne) refl
      (ap (repeated n) (take_at bytes rest pattern size))
      (ap (λ (k : ℕ). n * k) (sym size) ∙ sym (length-repeated n bytes)) h
      (omega (arith, length-append bytes rest, size))
      (drop-pair 0 n pattern (bytes ++ rest) ∙ drop_at bytes rest pattern size)

  pub faulty-judged : {input : List ℕ} {number : ℕ} → FaultyRecord pattern room input number
      → fault_at pattern input 0 room ≡ number
  unfolding record_at
  faulty-judged no_byte = fault-is pattern room [] ScanlineRun (control-scanline 0 0 refl refl)
  faulty-judged lone = fault-is pattern room (0 ∷ []) ScanlineRun (control-scanline 0 0 refl refl)
  faulty-judged (run_cut {rest} h) =
      fault-is pattern room (0 ∷ 0 ∷ rest) ScanlineRun (control-scanline 0 0 refl refl)
      ∙ rw (lt-ltb (length (0 ∷ 0 ∷ rest)) 4 (omega arith))
  faulty-judged (run_misplaced {rest} h) =
      fault-is pattern room (0 ∷ 0 ∷ rest) ScanlineRun (control-scanline 0 0 refl refl)
      ∙ rw (le-ltb (length (0 ∷ 0 ∷ rest)) 4 (omega arith))
  faulty-judged (clear_crosses {n} {rest} some low h) =
      let ne : n ≡ 0 → ⊥ = λ e. omega arith in
      let nl : n ≡ 128 → ⊥ = λ e. omega arith in
      fault-is pattern room (n ∷ rest) (SolidRun n) (control-solid n (get_or rest 0 0) ne nl)
      ∙ fit-crosses pattern (SolidRun n) (length (n ∷ rest)) room (omega arith)
  faulty-judged (set_crosses {n} {rest} some low h) =
      let ne : 128 + n ≡ 0 → ⊥ = λ e. omega arith in
      let nl : 128 + n ≡ 128 → ⊥ = λ e. omega arith in
      fault-is pattern room ((128 + n) ∷ rest) (SolidRun (128 + n)) (control-solid (128 + n) (get_or rest 0 0) ne nl)
      ∙ fit-crosses pattern (SolidRun (128 + n)) (length ((128 + n) ∷ rest)) room (omega arith)
  faulty-judged literal_lone =
      fault-is pattern room (128 ∷ []) (Literal 0) (control-literal 128 0 refl)
      ∙ fit-ends pattern (Literal 0) 1 room (omega arith) (omega arith)
  faulty-judged (literal_crosses {n} {rest} h) =
      fault-is pattern room (128 ∷ n ∷ rest) (Literal n) (control-literal 128 n refl)
      ∙ fit-crosses pattern (Literal n) (length (128 ∷ n ∷ rest)) room h
  faulty-judged (literal_cut {n} {rest} h k) =
      fault-is pattern room (128 ∷ n ∷ rest) (Literal n) (control-literal 128 n refl)
      ∙ fit-ends pattern (Literal n) (length (128 ∷ n ∷ rest)) room h (omega arith)
  faulty-judged (pattern_crosses {n} {rest} some h) =
      let ne : n ≡ 0 → ⊥ = λ e. omega arith in
      fault-is pattern room (0 ∷ n ∷ rest) (PatternRun n) (control-pattern 0 n refl ne)
      ∙ fit-crosses pattern (PatternRun n) (length (0 ∷ n ∷ rest)) room h
  faulty-judged (pattern_cut {n} {rest} some h k) =
      let ne : n ≡ 0 → ⊥ = λ e. omega arith in
      fault-is pattern room (0 ∷ n ∷ rest) (PatternRun n) (control-pattern 0 n refl ne)
      ∙ fit-ends pattern (PatternRun n) (length (0 ∷ n ∷ rest)) room h (omega arith)

  -- the numbers of a fault
  pub faulty-numbers : {input : List ℕ} {number : ℕ} → FaultyRecord pattern room input number
      → (number ≡ 22) ⊎ ((number ≡ 6) ⊎ (number ≡ 7))
  faulty-numbers no_byte = inr (inl refl)
  faulty-numbers lone = inr (inl refl)
  faulty-numbers (run_cut h) = inr (inl refl)
  faulty-numbers (run_misplaced h) = inl refl
  faulty-numbers (clear_crosses some low h) = inr (inr refl)
  faulty-numbers (set_crosses some low h) = inr (inr refl)
  faulty-numbers literal_lone = inr (inl refl)
  faulty-numbers (literal_crosses h) = inr (inr refl)
  faulty-numbers (literal_cut h k) = inr (inl refl)
  faulty-numbers (pattern_crosses some h) = inr (inr refl)
  faulty-numbers (pattern_cut some h k) = inr (inl refl)

  pub faulty-number : {input : List ℕ} {number : ℕ} → FaultyRecord pattern room input number → number ≡ 0 → ⊥
  faulty-number {number = number} f e = go (faulty-numbers f)
    where
      go : (number ≡ 22) ⊎ ((number ≡ 6) ⊎ (number ≡ 7)) → ⊥
      go (inl a) = omega arith
      go (inr (inl a)) = omega arith
      go (inr (inr a)) = omega arith
