-- Laws of `over` and `over_at`, and of the loops that write them, one element or one piece a turn.
use mathlib.Core.Path.{◌≡◌, refl, sym, ap, ◌∙◌}
use mathlib.Core.List.{List, ◌++◌, append_assoc, append-nil}
use Prim.Native.Nat.{ℕ, ◌+◌, ◌-◌, ◌≤◌, ◌<◌}
use native.Mathlib.Decide.{dec_lt}
use native.Mathlib.Numerals.{add-one}
use native.Mathlib.Omega.{arith}
use lib.ListN.{length, get_or, take, drop, set, length-append, length-drop, drop_of_length-le, get_or-append}
use lib.Seq.{drop-drop, take-add, take_all, take_at, drop_at, length-take-le, get_or-take, get_or-drop, get_or-append-add}
use lib.Seq.{ext_get_or, paste, paste-suc, drop-append-add}
use Rattle.lists.specs.Over.{over, over_at}
use Rattle.lists.specs.Tabulate.{tabulate}
use Rattle.lists.proofs.Tabulate.{length-tabulate, get_or-tabulate, tabulate-ext, tabulate-take}

module _ {A : Type 0} where
  -- ---- over the front

  pub length_over : (s d : List A) → length s ≤ length d → length (over s d) ≡ length d
  length_over s d h = omega (arith, length-append s (drop (length s) d), length-drop (length s) d)

  pub get_or-over-in : (s d : List A) (k : ℕ) (z : A) → k < length s → get_or (over s d) k z ≡ get_or s k z
  get_or-over-in s d k z h = get_or-append s (drop (length s) d) z k h

  pub get_or-over-past : (s d : List A) (k : ℕ) (z : A) → length s ≤ k → get_or (over s d) k z ≡ get_or d k z
  get_or-over-past s d k z h =
      let j : ℕ = k - length s in
      let e : k ≡ length s + j = omega arith in
      ap (λ (n : ℕ). get_or (over s d) n z) e
      ∙ get_or-append-add s (drop (length s) d) j z
      ∙ get_or-drop (length s) d j z
      ∙ ap (λ (n : ℕ). get_or d n z) (sym e)

  -- a list that is written over whole is gone
  pub over-whole : (s d : List A) → length d ≤ length s → over s d ≡ s
  over-whole s d h = ap (λ (t : List A). s ++ t) (drop_of_length-le d h) ∙ append-nil s

  -- what is written over by no less is gone
  pub over-over : (a b d : List A) → length a ≤ length b → over b (over a d) ≡ over b d
  over-over a b d h =
      let more : length b ≡ length a + (length b - length a) = omega arith in
      ap (λ (t : List A). b ++ t)
      (ap (λ (n : ℕ). drop n (over a d)) more
      ∙ drop-append-add a (drop (length a) d) (length b - length a)
      ∙ drop-drop (length b - length a) (length a) d
      ∙ ap (λ (n : ℕ). drop n d) (sym more))

  -- ---- from an offset on, and the loop that writes there

  over_at-paste : (at : ℕ) (s d : List A) (k : ℕ) → k ≤ length s → over_at at (take k s) d ≡ paste d at s k
  over_at-paste at s d k h =
      ap (λ (n : ℕ). take at d ++ (take k s ++ drop n (drop at d))) (length-take-le k s h)
      ∙ ap (λ (t : List A). take at d ++ (take k s ++ t)) (drop-drop k at d)
      ∙ sym (append_assoc (take at d) (take k s) (drop (at + k) d))

  pub over_at-turn : (at : ℕ) (s d out : List A) (k : ℕ) (v z : A) → k < length s → at + k < length d
      → out ≡ over_at at (take k s) d → v ≡ get_or s k z
      → set out (at + k) v ≡ over_at at (take (k + 1) s) d
  over_at-turn at s d out k v z hs hd is e =
      ap (λ (t : List A). set t (at + k) v) (is ∙ over_at-paste at s d k (omega arith))
      ∙ ap (λ (x : A). set (paste d at s k) (at + k) x) e
      ∙ paste-suc d at s k z hd hs
      ∙ ap (paste d at s) (sym (add-one k))
      ∙ sym (over_at-paste at s d (k + 1) (omega arith))

  pub over_at-done : (at : ℕ) (s d out : List A) (k : ℕ) → length s ≤ k → out ≡ over_at at (take k s) d
      → out ≡ over_at at s d
  over_at-done at s d out k h is = is ∙ ap (λ (t : List A). over_at at t d) (take_all k s h)

  -- the same loop where s is given by a rule
  pub over_at-tabulate-turn : (at n : ℕ) (f : ℕ → A) (d out : List A) (k : ℕ) (v : A) → k < n → at + k < length d
      → out ≡ over_at at (take k (tabulate n f)) d → v ≡ f k
      → set out (at + k) v ≡ over_at at (take (k + 1) (tabulate n f)) d
  over_at-tabulate-turn at n f d out k v hn hd is e =
      over_at-turn at (tabulate n f) d out k v v (omega (arith, length-tabulate n f)) hd is
      (e ∙ sym (get_or-tabulate n f k v hn))

  pub over_at-tabulate-done : (at n : ℕ) (f : ℕ → A) (d out : List A) (k : ℕ) → n ≤ k
      → out ≡ over_at at (take k (tabulate n f)) d → out ≡ over_at at (tabulate n f) d
  over_at-tabulate-done at n f d out k h = over_at-done at (tabulate n f) d out k (omega (arith, length-tabulate n f))

  module _ (at : ℕ) (s d : List A) (room : at + length s ≤ length d) where
    front : length (take at d) ≡ at
    front = length-take-le at d (omega arith)

    rest-room : length s ≤ length (drop at d)
    rest-room = omega (arith, length-drop at d)

    pub length-over_at : length (over_at at s d) ≡ length d
    length-over_at =
        omega (
          arith,
          length-append (take at d) (over s (drop at d)),
          front,
          length_over s (drop at d) rest-room,
          length-drop at d,
        )

    pub get_or-over_at-before : (o : ℕ) (z : A) → o < at → get_or (over_at at s d) o z ≡ get_or d o z
    get_or-over_at-before o z h =
        get_or-append (take at d) (over s (drop at d)) z o (omega (arith, front)) ∙ get_or-take at d o z h

    behind : (k : ℕ) (z : A) → get_or (over_at at s d) (at + k) z ≡ get_or (over s (drop at d)) k z
    behind k z =
        ap (λ (n : ℕ). get_or (over_at at s d) (n + k) z) (sym front)
        ∙ get_or-append-add (take at d) (over s (drop at d)) k z

    pub get_or-over_at-in : (k : ℕ) (z : A) → k < length s → get_or (over_at at s d) (at + k) z ≡ get_or s k z
    get_or-over_at-in k z h = behind k z ∙ get_or-over-in s (drop at d) k z h

    pub get_or-over_at-past : (o : ℕ) (z : A) → at + length s ≤ o → get_or (over_at at s d) o z ≡ get_or d o z
    get_or-over_at-past o z h =
        let j : ℕ = o - at in
        let e : o ≡ at + j = omega arith in
        ap (λ (n : ℕ). get_or (over_at at s d) n z) e
        ∙ behind j z
        ∙ get_or-over-past s (drop at d) j z (omega arith)
        ∙ get_or-drop at d j z
        ∙ ap (λ (n : ℕ). get_or d n z) (sym e)

  -- b from the end of a on, where a stands over the front of d
  pub over-more : (d a b : List A) (n : ℕ) → length a ≡ n → over_at n b (over a d) ≡ over (a ++ b) d
  over-more d a b n l =
      let rest : List A = drop (length a) d in
      ap (λ (u : List A). u ++ over b (drop n (a ++ rest))) (take_at a rest n l)
      ∙ ap (λ (u : List A). a ++ over b u) (drop_at a rest n l)
      ∙ ap (λ (u : List A). a ++ (b ++ u)) (drop-drop (length b) (length a) d)
      ∙ sym (append_assoc a b (drop (length a + length b) d))
      ∙ ap (λ (k : ℕ). (a ++ b) ++ drop k d) (sym (length-append a b))

  -- a over the front of d, where b stands from the end of a on
  pub over-before : (d a b : List A) (n : ℕ) → length a ≡ n → n ≤ length d → over a (over_at n b d) ≡ over (a ++ b) d
  over-before d a b n l h =
      let both : n + length b ≡ length (a ++ b) = omega (arith, length-append a b) in
      ap (λ (u : List A). a ++ u) (drop_at (take n d) (over b (drop n d)) (length a) (length-take-le n d h ∙ sym l))
      ∙ ap (λ (u : List A). a ++ (b ++ u)) (drop-drop (length b) n d)
      ∙ sym (append_assoc a b (drop (n + length b) d))
      ∙ ap (λ (k : ℕ). (a ++ b) ++ drop k d) both

  -- ---- the same loop over the front

  -- a turn of the loop that writes s: its store takes k elements to k + 1. Before the first turn `over (take 0 s) d` is
  -- d.
  pub over-turn : (s d out : List A) (k : ℕ) (v z : A) → k < length s → k < length d → out ≡ over (take k s) d
      → v ≡ get_or s k z
      → set out k v ≡ over (take (k + 1) s) d
  over-turn s d out k v z hs hd is e =
      let same : k ≡ 0 + k = omega arith in
      ap (λ (n : ℕ). set out n v) same ∙ over_at-turn 0 s d out k v z hs (omega arith) is e

  -- after the last turn
  pub over_done : (s d out : List A) (k : ℕ) → length s ≤ k → out ≡ over (take k s) d → out ≡ over s d
  over_done s d out k h is = is ∙ ap (λ (t : List A). over t d) (take_all k s h)

  -- a list of one element is written by one store
  pub over-one : (s d : List A) (v z : A) → length s ≡ 1 → 0 < length d → v ≡ get_or s 0 z → set d 0 v ≡ over s d
  over-one s d v z one h e = over_done s d (set d 0 v) 1 (omega arith) (over-turn s d d 0 v z (omega arith) h refl e)

  -- the same loop where s is given by a rule, and its end where s takes up the whole list
  pub tabulate-turn : (n : ℕ) (f : ℕ → A) (d out : List A) (k : ℕ) (v : A) → k < n → k < length d
      → out ≡ over (take k (tabulate n f)) d → v ≡ f k
      → set out k v ≡ over (take (k + 1) (tabulate n f)) d
  tabulate-turn n f d out k v hn hd is e =
      over-turn (tabulate n f) d out k v v (omega (arith, length-tabulate n f)) hd is
      (e ∙ sym (get_or-tabulate n f k v hn))

  pub tabulate-done : (n : ℕ) (f : ℕ → A) (d out : List A) (k : ℕ) → n ≤ k → length d ≤ n
      → out ≡ over (take k (tabulate n f)) d → out ≡ tabulate n f
  tabulate-done n f d out k hk hd is =
      over_done (tabulate n f) d out k (omega (arith, length-tabulate n f)) is
      ∙ over-whole (tabulate n f) d (omega (arith, length-tabulate n f))

  -- ---- a turn that writes a piece of s, where `over-turn` writes one element

  over-piece : (s d out t : List A) (k : ℕ) → k + length t ≤ length s → out ≡ over (take k s) d
      → t ≡ take (length t) (drop k s)
      → over_at k t out ≡ over (take (k + length t) s) d
  over-piece s d out t k h is e =
      ap (over_at k t) is
      ∙ over-more d (take k s) t k (length-take-le k s (omega arith))
      ∙ ap (λ (u : List A). over u d) (ap (λ (u : List A). take k s ++ u) e ∙ sym (take-add k (length t) s))

  -- the same of a list given by a rule
  pub tabulate-piece : (n m : ℕ) (f w : ℕ → A) (d out : List A) (k : ℕ) → k + m ≤ n
      → out ≡ over (take k (tabulate n f)) d
      → ((i : ℕ) → i < m → w i ≡ f (k + i)) → over_at k (tabulate m w) out ≡ over (take (k + m) (tabulate n f)) d
  tabulate-piece n m f w d out k h is e =
      let s : List A = tabulate n f in
      let l : length s ≡ n = length-tabulate n f in
      let p : length (tabulate m w) ≡ m = length-tabulate m w in
      let z : A = f 0 in
      let t : tabulate m w ≡ take m (drop k s) =
      tabulate-ext m w (λ i. get_or (drop k s) i z)
      (λ i b. e i b ∙ sym (get_or-tabulate n f (k + i) z (omega arith)) ∙ sym (get_or-drop k s i z))
      ∙ tabulate-take m (drop k s) z (omega (arith, length-drop k s))
      in
      over-piece s d out (tabulate m w) k (omega arith) is (t ∙ ap (λ (j : ℕ). take j (drop k s)) (sym p))
      ∙ ap (λ (j : ℕ). over (take (k + j) s) d) p

-- ---- a list that has f 0, f 1, .. from an offset on, and is d elsewhere

pub over_at-ext : (at n : ℕ) (f : ℕ → ℕ) (d e : List ℕ) → at + n ≤ length d → length e ≡ length d
    → ((o : ℕ) → o < at → get_or e o 0 ≡ get_or d o 0) → ((k : ℕ) → k < n → get_or e (at + k) 0 ≡ f k)
    → ((o : ℕ) → at + n ≤ o → get_or e o 0 ≡ get_or d o 0)
    → e ≡ over_at at (tabulate n f) d
over_at-ext at n f d e room len before mid past =
    ext_get_or 0 e (over_at at t d) (len ∙ sym (length-over_at at t d fit)) (λ o h. go o (dec_lt o at) (dec_lt o (at + n)))
  where
    t : List ℕ
    t = tabulate n f

    size : length t ≡ n
    size = length-tabulate n f

    fit : at + length t ≤ length d
    fit = omega (arith, size)

    go : (o : ℕ) → Dec (o < at) → Dec (o < at + n) → get_or e o 0 ≡ get_or (over_at at t d) o 0
    go o (yes h) b = before o h ∙ sym (get_or-over_at-before at t d fit o 0 h)
    go o (no h) (yes k) =
        let j : ℕ = o - at in
        let q : o ≡ at + j = omega arith in
        ap (λ (m : ℕ). get_or e m 0) q
        ∙ mid j (omega arith)
        ∙ sym (get_or-tabulate n f j 0 (omega arith))
        ∙ sym (get_or-over_at-in at t d fit j 0 (omega (arith, size)))
        ∙ ap (λ (m : ℕ). get_or (over_at at t d) m 0) (sym q)
    go o (no h) (no k) = past o (omega arith) ∙ sym (get_or-over_at-past at t d fit o 0 (omega (arith, size)))

pub over-ext : (n : ℕ) (f : ℕ → ℕ) (d e : List ℕ) → n ≤ length d → length e ≡ length d
    → ((k : ℕ) → k < n → get_or e k 0 ≡ f k) → ((o : ℕ) → n ≤ o → get_or e o 0 ≡ get_or d o 0) → e ≡ over (tabulate n f) d
over-ext n f d e room len mid past =
    over_at-ext 0 n f d e (omega arith) len (λ o h. absurd (omega arith))
    (λ k h. let z : 0 + k ≡ k = omega arith in ap (λ (m : ℕ). get_or e m 0) z ∙ mid k h)
    (λ o h. past o (omega arith))
