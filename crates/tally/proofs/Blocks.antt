-- Laws of blocks: how many of a block's pixels have a register, and which pixels of the screen they are.
use mathlib.Core.Path.{◌≡◌, refl, sym, ap, ap₂, ◌∙◌}
use mathlib.Core.Bool.{Bool, true, false, cond}
use mathlib.Core.List.{List}
use Prim.Native.Nat.{ℕ, zero, suc, ◌+◌, ◌-◌, ◌*◌, ◌/◌, ◌%◌, ◌^◌, ◌≤◌, ◌<◌}
use native.Mathlib.Nat.{add-zero, add-mul, mul_assoc, mul-one, mul-zero, le_trans, zero-div}
use native.Mathlib.Omega.{arith}
use lib.Bits.{bit_and, and_le_l, and_le_r}
use lib.Count.{ones}
use lib.Dec.{eqb, ltb}
use lib.ListN.{length, get_or, take, replicate, get_or-eq_default}
use lib.Pow.{pow_mono, pow_pos}
use borrow.Author.Tests.{eqb-true, eqb-false, ltb-true, ltb-false}
use Rattle.lists.specs.Bytes.{Bytes}
use Rattle.lists.specs.Digits.{from_bytes}
use Rattle.lists.specs.Sum.{sum}
use Rattle.lists.specs.Tabulate.{tabulate}
use Rattle.lists.proofs.Digits.{cat-above, cat-below}
use Rattle.lists.proofs.Sum.{sum-ext, sum-const, sum_rows}
use Rattle.lists.proofs.Tabulate.{length-tabulate, get_or-tabulate, tabulate-ext}
use Rattle.words.specs.Word.{word_at}
use Rattle.words.proofs.Word.{word_at-lt}
use Rattle.raster.specs.Offsets.{group_offset, word_offset}
use Rattle.resolution.specs.declared.Resolution.{Resolution}
use Rattle.resolution.specs.declared.Resolution.TheVariants.{Low, Medium, High}
use Rattle.resolution.specs.Shapes.{width_of, planes_of, line_bytes_of, raster_of}
use Rattle.lines.specs.Registers.{pixel_bit, register}
use Rattle.lines.specs.Columns.{byte_of}
use Rattle.tally.specs.declared.Block.{Block}
use Rattle.tally.specs.declared.Rectangle.{Rectangle}
use Rattle.tally.specs.Blocks.{digit, reversed, plane_block, block_at, reversed_block, block_register}
use Rattle.tally.specs.Blocks.{part_register, blocks_register, alike, register_set}
use Rattle.tally.specs.Rectangles.{line_sum, rectangle_sum}
use Rattle.tally.specs.Counts.{is_register, counts, counted, counted_lines}
use Rattle.tally.proofs.Counts.{is_register-same, is_register-other, is_register-zero, is_register-one}
use Rattle.tally.proofs.Counts.{counted_lines-counts}
use Rattle.tally.proofs.Ones.{ones-zero, ones-digits, ones-part}
use Rattle.tally.proofs.Ones.{and-digit, not_digit, all-digit}
use Rattle.tally.proofs.Bytes.{swapped_digit, reversed-digit, reversed-lt, ones-swapped}

-- ---- the pixels that have register v

alike-digit : (b p j : ℕ) → b < 2 → p < 2 ^ 64 → j < 64 → digit (alike b p) j ≡ is_register b (digit p j)
alike-digit zero p j h l k = not_digit 64 p j l k ∙ is_register-zero (digit p j) (omega arith)
alike-digit (suc zero) p j h l k = is_register-one (digit p j) (omega arith)
alike-digit (suc (suc b)) p j h l k = absurd (omega arith)

-- a register is v where its lowest digit is v's and the rest is the rest of v
is_register-digit : (b c d r : ℕ) → b < 2 → d < 2
    → is_register b d * is_register c r ≡ is_register (b + c * 2) (d + r * 2)
is_register-digit b c d r hb hd = go (eqb d b) (eqb r c) refl refl
  where
    go : (x y : Bool) → eqb d b ≡ x → eqb r c ≡ y
        → is_register b d * is_register c r ≡ is_register (b + c * 2) (d + r * 2)
    go true true e f =
        let p : d ≡ b = eqb-true d b e in
        let q : r ≡ c = eqb-true r c f in
        rw (is_register-same b d p, is_register-same c r q, is_register-same (b + c * 2) (d + r * 2) (omega arith))
    go true false e f =
        let p : d ≡ b = eqb-true d b e in
        let q : r ≡ c → ⊥ = eqb-false r c f in
        let other = is_register-other (b + c * 2) (d + r * 2) (λ n. q (omega arith)) in
        rw (is_register-same b d p, is_register-other c r q, other)
    go false y e f =
        let p : d ≡ b → ⊥ = eqb-false d b e in
        let other = is_register-other (b + c * 2) (d + r * 2) (λ n. p (omega arith)) in
        rw (is_register-other b d p, other) (omega arith)

regroup : (a b c d e : ℕ) → a * b * (c * d * e) ≡ a * (b * (c * d)) * e
regroup a b c d e =
    sym (mul_assoc (a * b) (c * d) e) ∙ ap (λ (m : ℕ). m * e) (mul_assoc a b (c * d))

-- each plane has 64 digits
abbrev Digits64 : Block → Type 0
Digits64 b = (b.first < 2 ^ 64) × (b.second < 2 ^ 64) × (b.third < 2 ^ 64) × (b.fourth < 2 ^ 64)

module _ (b : Block) (wide : Digits64 b) (v : ℕ) (hv : v < 16) where
  -- a pixel is in the set of register v where it has register v and is among those asked for
  set-digit : (among j : ℕ) → j < 64
      → digit (register_set b among v) j ≡ is_register v (block_register b j) * digit among j
  unfolding register_set block_register
  set-digit among j hj =
      let v0 : ℕ = v % 2 in
      let v1 : ℕ = v / 2 % 2 in
      let v2 : ℕ = v / 2 / 2 % 2 in
      let v3 : ℕ = v / 2 / 2 / 2 in
      let x0 : ℕ = alike v0 b.first in
      let x1 : ℕ = alike v1 b.second in
      let x2 : ℕ = alike v2 b.third in
      let x3 : ℕ = alike v3 b.fourth in
      let d0 : ℕ = digit b.first j in
      let d1 : ℕ = digit b.second j in
      let d2 : ℕ = digit b.third j in
      let d3 : ℕ = digit b.fourth j in
      let e : v0 + (v1 + (v2 + v3 * 2) * 2) * 2 ≡ v = omega arith in
      and-digit (bit_and x0 x1) (bit_and (bit_and x2 x3) among) j
      ∙ ap₂ (λ (m n : ℕ). m * n) (and-digit x0 x1 j)
      (and-digit (bit_and x2 x3) among j ∙ ap (λ (m : ℕ). m * digit among j) (and-digit x2 x3 j))
      ∙ regroup (digit x0 j) (digit x1 j) (digit x2 j) (digit x3 j) (digit among j)
      ∙ ap (λ (m : ℕ). m * digit among j)
      (ap₂ (λ (m n : ℕ). m * n) (alike-digit v0 b.first j (omega arith) wide.0 hj)
      (ap₂ (λ (m n : ℕ). m * n) (alike-digit v1 b.second j (omega arith) wide.1 hj)
      (ap₂ (λ (m n : ℕ). m * n) (alike-digit v2 b.third j (omega arith) wide.2 hj)
      (alike-digit v3 b.fourth j (omega arith) wide.3 hj)
      ∙ is_register-digit v2 v3 d2 d3 (omega arith) (omega arith))
      ∙ is_register-digit v1 (v2 + v3 * 2) d1 (d2 + d3 * 2) (omega arith) (omega arith))
      ∙ is_register-digit v0 (v1 + (v2 + v3 * 2) * 2) d0 (d1 + (d2 + d3 * 2) * 2) (omega arith) (omega arith)
      ∙ ap (λ (m : ℕ). is_register m (d0 + (d1 + (d2 + d3 * 2) * 2) * 2)) e)

  set-le : (among : ℕ) → register_set b among v ≤ among
  unfolding register_set
  set-le among =
      let a : ℕ = bit_and (alike (v % 2) b.first) (alike (v / 2 % 2) b.second) in
      let c : ℕ = bit_and (alike (v / 2 / 2 % 2) b.third) (alike (v / 2 / 2 / 2) b.fourth) in
      le_trans (and_le_r a (bit_and c among)) (and_le_r c among)

  -- of all pixels
  all-set-digit : (j : ℕ) → j < 64 → digit (register_set b (2 ^ 64 - 1) v) j ≡ is_register v (block_register b j)
  all-set-digit j hj =
      let r : ℕ = is_register v (block_register b j) in
      set-digit (2 ^ 64 - 1) j hj ∙ ap (λ (i : ℕ). r * i) (all-digit 64 j hj) ∙ mul-one r

  -- it may be taken of all pixels first
  ones-set : (among : ℕ) → among < 2 ^ 64
      → ones (register_set b among v) ≡ ones (bit_and (register_set b (2 ^ 64 - 1) v) among)
  ones-set among h =
      let all : ℕ = register_set b (2 ^ 64 - 1) v in
      ones-digits 64 (register_set b among v) (omega (arith, set-le among))
      ∙ sum-ext 64 _ _
      (λ k l.
      let j : ℕ = 64 - 1 - k in
      set-digit among j (omega arith)
      ∙ ap (λ (i : ℕ). i * digit among j) (sym (all-set-digit j (omega arith)))
      ∙ sym (and-digit all among j))
      ∙ sym (ones-digits 64 (bit_and all among) (omega (arith, and_le_r all among)))

  -- its size is the number of pixels with register v, of m that have t to their right
  ones-block : (m t : ℕ) → m + t ≤ 64
      → ones (register_set b (2 ^ (m + t) - 2 ^ t) v) ≡ sum m (λ k. is_register v (part_register b m t k))
  ones-block m t h =
      ones-set (2 ^ (m + t) - 2 ^ t) (omega (arith, pow_mono h, pow_pos t))
      ∙ ones-part (register_set b (2 ^ 64 - 1) v) m t
      ∙ sum-ext m _ (λ k. is_register v (part_register b m t k)) (λ k hk. all-set-digit (t + (m - 1 - k)) (omega arith))

-- ---- bytes in reverse order

register-reversed : (b : Block) (j : ℕ) → j < 64 → block_register (reversed_block b) j ≡ block_register b (swapped_digit j)
unfolding block_register
register-reversed b j h =
    rw (
      reversed-digit b.first j h,
      reversed-digit b.second j h,
      reversed-digit b.third j h,
      reversed-digit b.fourth j h,
    )

-- a set of pixels is as large
ones-reversed : (b : Block) → Digits64 b → (v : ℕ) → v < 16 → (among : ℕ) → among < 2 ^ 64
    → ones (register_set (reversed_block b) (reversed among) v) ≡ ones (register_set b among v)
ones-reversed b wide v hv among h =
    let r : Block = reversed_block b in
    let back : Digits64 r =
    (reversed-lt b.first, reversed-lt b.second, reversed-lt b.third, reversed-lt b.fourth) in
    ones-swapped (register_set b among v) (register_set r (reversed among) v)
    (omega (arith, set-le b wide v hv among))
    (omega (arith, set-le r back v hv (reversed among), reversed-lt among))
    (λ j l.
    set-digit r back v hv (reversed among) j l
    ∙ ap₂ (λ (m n : ℕ). is_register v m * n) (register-reversed b j l) (reversed-digit among j l)
    ∙ sym (set-digit b wide v hv among (swapped_digit j) (omega arith)))

-- the pixels with register v, of m that have t to their right, by the bytes in reverse order
pub ones-pixels : (b : Block) → Digits64 b → (v m t : ℕ) → v < 16 → m + t ≤ 64
    → ones (register_set (reversed_block b) (reversed (2 ^ (m + t) - 2 ^ t)) v)
    ≡ sum m (λ k. is_register v (part_register b m t k))
ones-pixels b wide v m t hv h =
    ones-reversed b wide v hv (2 ^ (m + t) - 2 ^ t) (omega (arith, pow_mono h, pow_pos t))
    ∙ ones-block b wide v hv m t h

-- no pixel has a register from the limit on
none-past : (v limit m : ℕ) (f : ℕ → ℕ) → limit ≤ v → ((k : ℕ) → f k < limit) → sum m (λ k. is_register v (f k)) ≡ 0
none-past v limit m f h below =
    sum-ext m (λ k. is_register v (f k)) (λ k. 0) (λ k l. is_register-other v (f k) (λ e. omega (arith, below k)))
    ∙ omega (arith, sum-const m 0)

-- what is counted when each set's size is added, and each register is below a limit
pub counted-block : (b : Block) → Digits64 b → (limit : ℕ) → limit ≤ 16 → ((j : ℕ) → block_register b j < limit)
    → (c sets : List ℕ) (among m t : ℕ) → m + t ≤ 64 → among ≡ reversed (2 ^ (m + t) - 2 ^ t)
    → sets ≡ tabulate limit (λ v. register_set (reversed_block b) among v)
    → tabulate 16 (λ v. get_or c v 0 + ones (get_or sets v 0)) ≡ counted c (part_register b m t) m
unfolding counted
counted-block b wide limit hl below c sets among m t h e is =
    tabulate-ext 16 _ _ (λ v l. ap (λ (n : ℕ). get_or c v 0 + n) (at v l (ltb v limit) refl))
  where
    at : (v : ℕ) → v < 16 → (o : Bool) → ltb v limit ≡ o
        → ones (get_or sets v 0) ≡ sum m (λ k. is_register v (part_register b m t k))
    at v l true o =
        ap ones
        (ap (λ (s : List ℕ). get_or s v 0) is
        ∙ get_or-tabulate limit (λ v. register_set (reversed_block b) among v) v 0 (ltb-true v limit o)
        ∙ ap (λ (n : ℕ). register_set (reversed_block b) n v) e)
        ∙ ones-pixels b wide v m t l h
    at v l false o =
        let p : limit ≤ v = ltb-false v limit o in
        let n : length sets ≡ limit =
        ap length is ∙ length-tabulate limit (λ v. register_set (reversed_block b) among v) in
        let q : length sets ≤ v = omega arith in
        ap ones (get_or-eq_default sets 0 q)
        ∙ ones-zero
        ∙ sym (none-past v limit m (part_register b m t) p (λ k. below (t + (m - 1 - k))))

pub below-2 : (s : List ℕ) (at j : ℕ) → block_register (block_at s at 1) j < 2
unfolding block_register
below-2 s at j = omega (arith, zero-div (2 ^ j))

-- the planes can name each register
below-planes : (s : List ℕ) (at planes j : ℕ) → 0 < planes → planes ≤ 4
    → block_register (block_at s at planes) j < 2 ^ planes
unfolding block_register
below-planes s at zero j h l = absurd (omega arith)
below-planes s at (suc zero) j h l = omega (arith, zero-div (2 ^ j))
below-planes s at (suc (suc zero)) j h l = omega (arith, zero-div (2 ^ j))
below-planes s at (suc (suc (suc zero))) j h l = omega (arith, zero-div (2 ^ j))
below-planes s at (suc (suc (suc (suc zero)))) j h l = omega arith
below-planes s at (suc (suc (suc (suc (suc n))))) j h l = absurd (omega arith)

-- the sets of the registers that they name
first-sets : (planes : ℕ) → 0 < planes → planes ≤ 4 → (f : ℕ → ℕ)
    → (2 ^ planes ≤ 16) × (take (1 * 2 ^ planes % 2 ^ 64) (tabulate 16 f) ≡ tabulate (2 ^ planes) f)
unfolding tabulate
first-sets zero h l f = absurd (omega arith)
first-sets (suc zero) h l f = (omega arith, refl)
first-sets (suc (suc zero)) h l f = (omega arith, refl)
first-sets (suc (suc (suc zero))) h l f = (omega arith, refl)
first-sets (suc (suc (suc (suc zero)))) h l f = (omega arith, refl)
first-sets (suc (suc (suc (suc (suc n))))) h l f = absurd (omega arith)

reversed-zero : reversed 0 ≡ 0
unfolding reversed from_bytes byte_of
reversed-zero = refl

-- a plane that is not there is 0, in either order of its bytes
pub reversed-present : (present : Bool) (p : ℕ) → cond present (reversed p) 0 ≡ reversed (cond present p 0)
reversed-present true p = refl
reversed-present false p = sym reversed-zero

-- ---- the pixels of a scan line

-- pixel k of m in the block that holds pixel x, from that pixel on
pub block-pixel : (s : List ℕ) (start planes x m k : ℕ) → x % 64 + m ≤ 64 → k < m
    → part_register (block_at s (start + x / 64 * (planes * 8)) planes) m (64 - x % 64 - m) k
    ≡ blocks_register s start planes (x + k)
unfolding blocks_register
block-pixel s start planes x m k h l =
    let e : x / 64 ≡ (x + k) / 64 = omega arith in
    let f : 64 - x % 64 - m + (m - 1 - k) ≡ 63 - (x + k) % 64 = omega arith in
    ap₂ (λ (b j : ℕ). block_register (block_at s (start + b * (planes * 8)) planes) j) e f

-- pixel k of word g of a block
module _ (s : List ℕ) (bytes : Bytes s) (at stride : ℕ) where
  abbrev w : ℕ → ℕ
  w g = word_at s (at + stride * g)

  plane_block-words : plane_block s at stride ≡ ((w 0 * 65536 + w 1) * 65536 + w 2) * 65536 + w 3
  unfolding plane_block
  plane_block-words =
      let e : at ≡ at + stride * 0 = omega (arith, mul-zero stride) in
      let f : at + stride ≡ at + stride * 1 = omega (arith, mul-one stride) in
      ap₂ (λ (i j : ℕ). ((word_at s i * 65536 + word_at s j) * 65536 + w 2) * 65536 + w 3) e f

  w-lt : (g : ℕ) → w g < 65536
  w-lt g = word_at-lt s bytes (at + stride * g)

  plane_block-lt : plane_block s at stride < 2 ^ 64
  plane_block-lt = omega (arith, plane_block-words, w-lt 0, w-lt 1, w-lt 2, w-lt 3)

  block-word : (g k : ℕ) → g < 4 → k < 16 → digit (plane_block s at stride) (63 - (g * 16 + k)) ≡ pixel_bit (w g) k
  unfolding pixel_bit
  block-word g k hg hk = ap (λ (n : ℕ). digit n (63 - (g * 16 + k))) plane_block-words ∙ go g hg
    where
      a1 : ℕ
      a1 = w 0 * 65536 + w 1

      a2 : ℕ
      a2 = a1 * 65536 + w 2

      a3 : ℕ
      a3 = a2 * 65536 + w 3

      go : (g : ℕ) → g < 4 → digit a3 (63 - (g * 16 + k)) ≡ digit (w g) (15 - k)
      go zero h =
          let e : 63 - (0 * 16 + k) ≡ 16 + (16 + (16 + (15 - k))) = omega arith in
          ap (λ (j : ℕ). digit a3 j) e
          ∙ cat-above 16 a2 (w 3) (16 + (16 + (15 - k))) (w-lt 3)
          ∙ cat-above 16 a1 (w 2) (16 + (15 - k)) (w-lt 2)
          ∙ cat-above 16 (w 0) (w 1) (15 - k) (w-lt 1)
      go (suc zero) h =
          let e : 63 - (1 * 16 + k) ≡ 16 + (16 + (15 - k)) = omega arith in
          ap (λ (j : ℕ). digit a3 j) e
          ∙ cat-above 16 a2 (w 3) (16 + (15 - k)) (w-lt 3)
          ∙ cat-above 16 a1 (w 2) (15 - k) (w-lt 2)
          ∙ cat-below 16 (w 0) (w 1) (15 - k) (w-lt 1) (omega arith)
      go (suc (suc zero)) h =
          let e : 63 - (2 * 16 + k) ≡ 16 + (15 - k) = omega arith in
          ap (λ (j : ℕ). digit a3 j) e
          ∙ cat-above 16 a2 (w 3) (15 - k) (w-lt 3)
          ∙ cat-below 16 a1 (w 2) (15 - k) (w-lt 2) (omega arith)
      go (suc (suc (suc zero))) h =
          let e : 63 - (3 * 16 + k) ≡ 15 - k = omega arith in
          ap (λ (j : ℕ). digit a3 j) e ∙ cat-below 16 a2 (w 3) (15 - k) (w-lt 3) (omega arith)
      go (suc (suc (suc (suc g)))) h = absurd (omega arith)

-- plane p of the pixel in column x of scan line y
word-offset : (r : Resolution) (y x p : ℕ)
    → y * line_bytes_of r + x / 64 * (planes_of r * 8) + p * 2 + planes_of r * 2 * (x % 64 / 16)
    ≡ word_offset (raster_of r) y (x / 16) p
unfolding word_offset group_offset
word-offset Low y x p = omega arith
word-offset Medium y x p = omega arith
word-offset High y x p = omega arith

-- where its block begins
abbrev block_start : Resolution → ℕ → ℕ → ℕ
block_start r y x = y * line_bytes_of r + x / 64 * (planes_of r * 8)

-- its digit in plane p of the block
abbrev plane_digit : List ℕ → Resolution → ℕ → ℕ → ℕ → ℕ
plane_digit s r y x p = digit (plane_block s (block_start r y x + p * 2) (planes_of r * 2)) (63 - x % 64)

plane-pixel : (s : List ℕ) (r : Resolution) (y x p : ℕ) → Bytes s
    → plane_digit s r y x p ≡ pixel_bit (word_at s (word_offset (raster_of r) y (x / 16) p)) (x % 16)
plane-pixel s r y x p bytes =
    let at : ℕ = block_start r y x + p * 2 in
    let q : x % 64 ≡ x % 64 / 16 * 16 + x % 16 = omega arith in
    ap (λ (i : ℕ). digit (plane_block s at (planes_of r * 2)) (63 - i)) q
    ∙ block-word s bytes at (planes_of r * 2) (x % 64 / 16) (x % 16) (omega arith) (omega arith)
    ∙ ap (λ (o : ℕ). pixel_bit (word_at s o) (x % 16)) (word-offset r y x p)

-- its register, by the planes that are there
block_register-sum : (s : List ℕ) (r : Resolution) (y x : ℕ)
    → blocks_register s (y * line_bytes_of r) (planes_of r) x ≡ sum (planes_of r) (λ p. plane_digit s r y x p * 2 ^ p)
unfolding blocks_register block_register sum
block_register-sum s Low y x = rw (add-zero (y * 160 + x / 64 * 32)) (omega arith)
block_register-sum s Medium y x = rw (add-zero (y * 160 + x / 64 * 16)) (omega (arith, zero-div (2 ^ (63 - x % 64))))
block_register-sum s High y x = rw (add-zero (y * 80 + x / 64 * 8)) (omega (arith, zero-div (2 ^ (63 - x % 64))))

-- the register of the pixel in column x of scan line y
pub block-register : (s : List ℕ) (r : Resolution) (y x : ℕ) → Bytes s
    → blocks_register s (y * line_bytes_of r) (planes_of r) x ≡ register s r x y
unfolding register
block-register s r y x bytes =
    block_register-sum s r y x
    ∙ sum-ext (planes_of r) _ (λ p. pixel_bit (word_at s (word_offset (raster_of r) y (x / 16) p)) (x % 16) * 2 ^ p)
    (λ p h. ap (λ (d : ℕ). d * 2 ^ p) (plane-pixel s r y x p bytes))

-- each plane of a block of the screen has 64 digits
present-lt : (here : Bool) (p : ℕ) → p < 2 ^ 64 → cond here p 0 < 2 ^ 64
present-lt true p h = h
present-lt false p h = omega arith

pub block-digits : (s : List ℕ) → Bytes s → (at planes : ℕ) → Digits64 (block_at s at planes)
block-digits s bytes at planes = (
  plane_block-lt s bytes at (planes * 2),
  present-lt (ltb 1 planes) _ (plane_block-lt s bytes (at + 2) (planes * 2)),
  present-lt (ltb 2 planes) _ (plane_block-lt s bytes (at + 4) (planes * 2)),
  present-lt (ltb 3 planes) _ (plane_block-lt s bytes (at + 6) (planes * 2)),
)

-- what is counted in a part of a block of the screen
pub counted-part : (s : List ℕ) → Bytes s → (at planes : ℕ) → 0 < planes → planes ≤ 4
    → (c : List ℕ) (among m t : ℕ) → m + t ≤ 64 → among ≡ reversed (2 ^ (m + t) - 2 ^ t)
    → (sets : List ℕ) → sets ≡ tabulate 16 (λ v. register_set (reversed_block (block_at s at planes)) among v)
    → tabulate 16 (λ v. get_or c v 0 + ones (get_or (take (1 * 2 ^ planes % 2 ^ 64) sets) v 0))
    ≡ counted c (part_register (block_at s at planes) m t) m
counted-part s bytes at planes h l c among m t fits e sets is =
    let b : Block = block_at s at planes in
    let first = first-sets planes h l (λ v. register_set (reversed_block b) among v) in
    counted-block b (block-digits s bytes at planes) (2 ^ planes) first.0 (λ j. below-planes s at planes j h l)
    c (take (1 * 2 ^ planes % 2 ^ 64) sets) among m t fits e
    (ap (λ (i : List ℕ). take (1 * 2 ^ planes % 2 ^ 64) i) is ∙ first.1)

-- a digit of the one plane is the register
one-register : (s : List ℕ) (at j : ℕ) → digit (plane_block s at 2) j ≡ is_register 1 (block_register (block_at s at 1) j)
unfolding block_register
one-register s at j =
    let d : ℕ = digit (plane_block s at 2) j in
    let e : d ≡ block_register (block_at s at 1) j = omega (arith, zero-div (2 ^ j)) in
    is_register-one d (omega arith) ∙ ap (is_register 1) e

-- the set digits of the one plane are the pixels with register 1
pub ones-plane : (s : List ℕ) → Bytes s → (at m t p : ℕ) → m + t ≤ 64 → p ≡ reversed (plane_block s at 2)
    → ones (bit_and p (reversed (2 ^ (m + t) - 2 ^ t)))
    ≡ sum m (λ k. is_register 1 (part_register (block_at s at 1) m t k))
ones-plane s bytes at m t p h e =
    let q : ℕ = plane_block s at 2 in
    let among : ℕ = 2 ^ (m + t) - 2 ^ t in
    ap (λ (i : ℕ). ones (bit_and i (reversed among))) e
    ∙ ones-swapped (bit_and q among) (bit_and (reversed q) (reversed among))
    (omega (arith, and_le_l q among, plane_block-lt s bytes at 2))
    (omega (arith, and_le_l (reversed q) (reversed among), reversed-lt q))
    (λ j l.
    and-digit (reversed q) (reversed among) j
    ∙ ap₂ (λ (x y : ℕ). x * y) (reversed-digit q j l) (reversed-digit among j l)
    ∙ sym (and-digit q among (swapped_digit j)))
    ∙ ones-part q m t
    ∙ sum-ext m _ _ (λ k l. one-register s at (t + (m - 1 - k)))

-- ---- the pixels of a rectangle

-- lines that begin a scan line apart
pub lines-counted : (s : List ℕ) (r : Resolution) (a : Rectangle) → Bytes s
    → counted_lines (replicate 16 0)
    (λ j i. blocks_register s (a.top * line_bytes_of r + j * line_bytes_of r) (planes_of r) (a.left + i))
    a.columns a.lines
    ≡ counts s r a
unfolding rectangle_sum line_sum
lines-counted s r a bytes =
    counted_lines-counts s r a _ a.columns a.lines
    (λ v.
    sum-ext a.lines _ _
    (λ j h.
    sum-ext a.columns _ _
    (λ i l.
    ap (is_register v)
    (ap (λ (o : ℕ). blocks_register s o (planes_of r) (a.left + i)) (sym (add-mul a.top j (line_bytes_of r)))
    ∙ block-register s r (a.top + j) (a.left + i) bytes))))

-- pixel k of block q of a run of blocks
run-pixel : (s : List ℕ) (start planes q k : ℕ) → k < 64
    → blocks_register s (start + q * (planes * 8)) planes (0 + k) ≡ blocks_register s start planes (q * 64 + k)
unfolding blocks_register
run-pixel s start planes q k h =
    let z : (0 + k) / 64 ≡ 0 = omega arith in
    let e : (q * 64 + k) / 64 ≡ q = omega arith in
    let f : 63 - (0 + k) % 64 ≡ 63 - (q * 64 + k) % 64 = omega arith in
    let at : start + q * (planes * 8) + (0 + k) / 64 * (planes * 8) ≡ start + (q * 64 + k) / 64 * (planes * 8) =
    rw (z, e) (omega arith) in
    ap₂ (λ (o j : ℕ). block_register (block_at s o planes) j) at f

-- pixel x of scan line top + y, in the run of blocks from line top on
line-pixel : (s : List ℕ) (r : Resolution) (top y x : ℕ)
    → blocks_register s (top * line_bytes_of r) (planes_of r) (y * width_of r + x)
    ≡ blocks_register s ((top + y) * line_bytes_of r) (planes_of r) x
unfolding blocks_register
line-pixel s r top y x =
    ap₂ (λ (o j : ℕ). block_register (block_at s o (planes_of r)) j) (at r) (digits r)
  where
    at : (r : Resolution) → top * line_bytes_of r + (y * width_of r + x) / 64 * (planes_of r * 8)
        ≡ (top + y) * line_bytes_of r + x / 64 * (planes_of r * 8)
    at Low = omega arith
    at Medium = omega arith
    at High = omega arith

    digits : (r : Resolution) → 63 - (y * width_of r + x) % 64 ≡ 63 - x % 64
    digits Low = omega arith
    digits Medium = omega arith
    digits High = omega arith

-- a scan line is a number of blocks
width-blocks : (r : Resolution) → width_of r / 64 * 64 ≡ width_of r
width-blocks Low = refl
width-blocks Medium = refl
width-blocks High = refl

-- scan lines as wide as the screen, as a run of blocks
pub run-counted : (s : List ℕ) (r : Resolution) (a : Rectangle) → Bytes s → a.left ≡ 0 → a.columns ≡ width_of r
    → counted_lines (replicate 16 0)
    (λ j i. blocks_register s (a.top * line_bytes_of r + j * (planes_of r * 8)) (planes_of r) (0 + i))
    64 (a.lines * (width_of r / 64))
    ≡ counts s r a
unfolding rectangle_sum line_sum
run-counted s r a bytes left all =
    counted_lines-counts s r a _ 64 (a.lines * (width_of r / 64))
    (λ v.
    let start : ℕ = a.top * line_bytes_of r in
    let f : ℕ → ℕ = λ p. is_register v (blocks_register s start (planes_of r) p) in
    let n : ℕ = a.lines * (width_of r / 64) in
    let pixels : n * 64 ≡ a.lines * a.columns =
    mul_assoc a.lines (width_of r / 64) 64 ∙ ap (λ (w : ℕ). a.lines * w) (width-blocks r ∙ sym all) in
    sum-ext n _ _ (λ q h. sum-ext 64 _ _ (λ k l. ap (is_register v) (run-pixel s start (planes_of r) q k l)))
    ∙ sym (sum_rows n 64 f)
    ∙ ap (λ (i : ℕ). sum i f) pixels
    ∙ sum_rows a.lines a.columns f
    ∙ sum-ext a.lines _ _
    (λ y h.
    sum-ext a.columns _ _
    (λ x l.
    let e : a.left + x ≡ x = omega arith in
    ap (is_register v)
    (ap (λ (w : ℕ). blocks_register s start (planes_of r) (y * w + x)) all
    ∙ line-pixel s r a.top y x
    ∙ block-register s r (a.top + y) x bytes
    ∙ ap (λ (i : ℕ). register s r i (a.top + y)) (sym e)))))
