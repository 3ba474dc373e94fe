-- Laws of counts of registers.
use mathlib.Core.Path.{◌≡◌, refl, sym, ap, ap₂, ◌∙◌}
use mathlib.Core.Bool.{Bool, true, false, cond}
use mathlib.Core.List.{List}
use Prim.Native.Nat.{ℕ, zero, suc, ◌+◌, ◌-◌, ◌*◌, ◌≤◌, ◌<◌}
use native.Mathlib.Nat.{add-zero, zero-add, add_assoc, mul-one, mul_comm, le_trans}
use native.Mathlib.Numerals.{add-one}
use native.Mathlib.Omega.{arith}
use lib.Dec.{eqb}
use lib.ListN.{length, get_or, set, length-set, replicate, get_or-replicate}
use lib.Seq.{get_or-set_same, get_or-set_other}
use borrow.Author.Tests.{eq-eqb, ne_eqb}
use Rattle.lists.specs.Sum.{sum}
use Rattle.lists.specs.Tabulate.{tabulate}
use Rattle.lists.proofs.Sum.{sum-ext, sum-le, sum-split, sum-const, sum-add}
use Rattle.lists.proofs.Tabulate.{length-tabulate, get_or-tabulate, tabulate-ext, tabulate-get_or, tabulate-le}
use Rattle.resolution.specs.declared.Resolution.{Resolution}
use Rattle.lines.specs.Registers.{register}
use Rattle.tally.specs.declared.Rectangle.{Rectangle}
use Rattle.tally.specs.Rectangles.{line_sum, rectangle_sum}
use Rattle.tally.specs.Counts.{is_register, counts, most_pixels, counted, line_counts, counted_lines}

-- ---- registers counted into 16 counts

pub is_register-same : (v k : ℕ) → k ≡ v → is_register v k ≡ 1
unfolding is_register
is_register-same v k e = rw (eq-eqb k v e)

pub is_register-other : (v k : ℕ) → (k ≡ v → ⊥) → is_register v k ≡ 0
unfolding is_register
is_register-other v k h = rw (ne_eqb k v h)

is_register-le : (v k : ℕ) → is_register v k ≤ 1
unfolding is_register
is_register-le v k = go (eqb k v)
  where
    go : (b : Bool) → cond b 1 0 ≤ 1
    go true = omega arith
    go false = omega arith

pub is_register-zero : (d : ℕ) → d < 2 → 1 - d ≡ is_register 0 d
unfolding is_register
is_register-zero zero h = refl
is_register-zero (suc zero) h = refl
is_register-zero (suc (suc d)) h = absurd (omega arith)

pub is_register-one : (d : ℕ) → d < 2 → d ≡ is_register 1 d
unfolding is_register
is_register-one zero h = refl
is_register-one (suc zero) h = refl
is_register-one (suc (suc d)) h = absurd (omega arith)

-- no line is counted
pub counted_lines-none : (c : List ℕ) (g : ℕ → ℕ → ℕ) (m : ℕ) → length c ≡ 16 → c ≡ counted_lines c g m 0
unfolding counted_lines sum
counted_lines-none c g m e =
    sym (tabulate-get_or c 0)
    ∙ ap (λ (n : ℕ). tabulate n (λ v. get_or c v 0)) e
    ∙ tabulate-ext 16 _ _ (λ v h. sym (add-zero (get_or c v 0)))

-- one line more
pub counted_lines-turn : (c out after : List ℕ) (g : ℕ → ℕ → ℕ) (m n : ℕ) → out ≡ counted_lines c g m n
    → after ≡ counted out (g n) m → after ≡ counted_lines c g m (n + 1)
unfolding counted_lines counted sum
counted_lines-turn c out after g m n is e =
    e
    ∙ tabulate-ext 16 _ _
    (λ v l.
    ap (λ (d : List ℕ). get_or d v 0 + sum m (λ k. is_register v (g n k))) is
    ∙ ap (λ (i : ℕ). i + sum m (λ k. is_register v (g n k)))
    (get_or-tabulate 16 (λ v. get_or c v 0 + line_counts g m n v) v 0 l)
    ∙ add_assoc (get_or c v 0) (line_counts g m n v) (sum m (λ k. is_register v (g n k))))
    ∙ ap (λ (i : ℕ). counted_lines c g m i) (sym (add-one n))

-- no column is counted
pub counted_lines-empty : (c : List ℕ) (g : ℕ → ℕ → ℕ) (n : ℕ) → length c ≡ 16 → c ≡ counted_lines c g 0 n
unfolding counted_lines sum
counted_lines-empty c g n e =
    counted_lines-none c g 0 e
    ∙ tabulate-ext 16 _ _
    (λ v h. ap (λ (i : ℕ). get_or c v 0 + i) (omega (arith, sum-const n 0)))

-- m columns more
pub counted_lines-join : (c out after : List ℕ) (f g : ℕ → ℕ → ℕ) (i m n : ℕ) → out ≡ counted_lines c f i n
    → after ≡ counted_lines out g m n → ((j k : ℕ) → j < n → k < m → g j k ≡ f j (i + k))
    → after ≡ counted_lines c f (i + m) n
unfolding counted_lines
counted_lines-join c out after f g i m n is e same =
    e
    ∙ tabulate-ext 16 _ _
    (λ v l.
    let p : ℕ → ℕ → ℕ = λ j k. is_register v (f j k) in
    ap₂ (λ (a b : ℕ). a + b)
    (ap (λ (d : List ℕ). get_or d v 0) is ∙ get_or-tabulate 16 (λ v. get_or c v 0 + line_counts f i n v) v 0 l)
    (sum-ext n _ (λ j. sum m (λ k. p j (i + k)))
    (λ j a. sum-ext m _ _ (λ k b. ap (is_register v) (same j k a b))))
    ∙ add_assoc (get_or c v 0) (line_counts f i n v) (sum n (λ j. sum m (λ k. p j (i + k))))
    ∙ ap (λ (a : ℕ). get_or c v 0 + a)
    (sym (sum-add n (λ j. sum i (p j)) (λ j. sum m (λ k. p j (i + k))))
    ∙ sum-ext n _ _ (λ j a. sym (sum-split i m (p j)))))

pub length-counted_lines : (c : List ℕ) (g : ℕ → ℕ → ℕ) (m n : ℕ) → length (counted_lines c g m n) ≡ 16
unfolding counted_lines
length-counted_lines c g m n = length-tabulate 16 (λ v. get_or c v 0 + line_counts g m n v)

pub line_counts-le : (g : ℕ → ℕ → ℕ) (m n v : ℕ) → line_counts g m n v ≤ n * m
line_counts-le g m n v =
    sum-le n m (λ j. sum m (λ k. is_register v (g j k)))
    (λ j. omega (arith, sum-le m 1 (λ k. is_register v (g j k)) (λ k. is_register-le v (g j k))))

-- n lines of m registers add at most n * m to a count
pub counted_lines-le : (c : List ℕ) (g : ℕ → ℕ → ℕ) (m n b : ℕ) → ((v : ℕ) → get_or c v 0 ≤ b)
    → (v : ℕ) → get_or (counted_lines c g m n) v 0 ≤ b + n * m
unfolding counted_lines
counted_lines-le c g m n b h = tabulate-le 16 _ (b + n * m) (λ v. omega (arith, h v, line_counts-le g m n v))

-- ---- two registers

module _ (g : ℕ → ℕ → ℕ) (m n : ℕ) (below : (j k : ℕ) → g j k < 2) where
  -- each is 0 or 1
  line_counts-both : line_counts g m n 0 + line_counts g m n 1 ≡ n * m
  line_counts-both =
      sym (sum-add n (λ j. sum m (λ k. is_register 0 (g j k))) (λ j. sum m (λ k. is_register 1 (g j k))))
      ∙ sum-ext n _ (λ j. m)
      (λ j h.
      sym (sum-add m (λ k. is_register 0 (g j k)) (λ k. is_register 1 (g j k)))
      ∙ sum-ext m _ (λ k. 1)
      (λ k l. omega (arith, below j k, is_register-zero (g j k) (below j k), is_register-one (g j k) (below j k)))
      ∙ sum-const m 1
      ∙ mul-one m)
      ∙ sum-const n m

  line_counts-others : (v : ℕ) → 2 ≤ v → line_counts g m n v ≡ 0
  line_counts-others v h =
      sum-ext n _ (λ j. 0)
      (λ j l.
      sum-ext m _ (λ k. 0) (λ k i. is_register-other v (g j k) (λ e. omega (arith, below j k)))
      ∙ omega (arith, sum-const m 0))
      ∙ omega (arith, sum-const n 0)

  -- the two counts that change
  pub counted_lines-two : (c : List ℕ) (b x y : ℕ) → length c ≡ 16 → b ≡ line_counts g m n 1
      → x ≡ get_or c 0 0 + (m * n - b) → y ≡ get_or (set c 0 x) 1 0 + b → set (set c 0 x) 1 y ≡ counted_lines c g m n
  unfolding counted_lines
  counted_lines-two c b x y all is ex ey =
      sym (tabulate-get_or (set (set c 0 x) 1 y) 0)
      ∙ ap (λ (i : ℕ). tabulate i (λ v. get_or (set (set c 0 x) 1 y) v 0))
      (length-set (set c 0 x) 1 y ∙ length-set c 0 x ∙ all)
      ∙ tabulate-ext 16 _ _ (λ v h. at v)
    where
      at : (v : ℕ) → get_or (set (set c 0 x) 1 y) v 0 ≡ get_or c v 0 + line_counts g m n v
      at zero =
          get_or-set_other (set c 0 x) 1 0 y 0 (λ e. omega arith)
          ∙ get_or-set_same c 0 x 0 (omega arith)
          ∙ ex
          ∙ omega (arith, is, line_counts-both, mul_comm m n)
      at (suc zero) =
          get_or-set_same (set c 0 x) 1 y 0 (omega (arith, length-set c 0 x))
          ∙ ey
          ∙ ap₂ (λ (i j : ℕ). i + j) (get_or-set_other c 0 1 x 0 (λ e. omega arith)) is
      at (suc (suc v)) =
          get_or-set_other (set c 0 x) 1 (suc (suc v)) y 0 (λ e. omega arith)
          ∙ get_or-set_other c 0 (suc (suc v)) x 0 (λ e. omega arith)
          ∙ omega (arith, line_counts-others (suc (suc v)) (omega arith))

-- ---- rectangles counted

-- lines that are a rectangle's, counted from 0 on
pub counted_lines-counts : (s : List ℕ) (r : Resolution) (a : Rectangle) (g : ℕ → ℕ → ℕ) (m n : ℕ)
    → ((v : ℕ) → line_counts g m n v ≡ rectangle_sum s r a (is_register v))
    → counted_lines (replicate 16 0) g m n ≡ counts s r a
unfolding counted_lines counts
counted_lines-counts s r a g m n e =
    tabulate-ext 16 _ _
    (λ v h. ap (λ (i : ℕ). i + line_counts g m n v) (get_or-replicate 16 v 0 0 h) ∙ zero-add (line_counts g m n v) ∙ e v)

-- n pixels of a scan line
line-le : (s : List ℕ) (r : Resolution) (left n y v : ℕ) → line_sum s r left n y (is_register v) ≤ n
unfolding line_sum
line-le s r left n y v =
    let f : ℕ → ℕ = λ i. register s r (left + i) y in
    omega (arith, sum-le n 1 (λ i. is_register v (f i)) (λ i. is_register-le v (f i)))

pub counts-le : (s : List ℕ) (r : Resolution) (a : Rectangle) → a.columns ≤ 640 → a.lines ≤ 400
    → (v : ℕ) → get_or (counts s r a) v 0 ≤ most_pixels
unfolding counts rectangle_sum
counts-le s r a h k =
    tabulate-le 16 _ most_pixels
    (λ v.
    le_trans (sum-le a.lines 640 _ (λ j. le_trans (line-le s r a.left a.columns _ v) h)) (omega arith))
