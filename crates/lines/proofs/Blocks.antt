-- Laws of blocks: the words of registers, turned over, have the bytes of the scan line.
use mathlib.Core.Path.{◌≡◌, refl, sym, ap, ap₂, subst, ◌∙◌}
use mathlib.Core.Bool.{cond}
use mathlib.Core.List.{List}
use mathlib.Core.Logic.{inl, inr}
use Prim.Native.Nat.{ℕ, zero, suc, ◌+◌, ◌-◌, ◌*◌, ◌/◌, ◌%◌, ◌^◌, ◌≤◌, ◌<◌}
use native.Mathlib.Nat.{add-zero, add_assoc, add_comm, add-mul, mul_assoc, mul_comm, suc-mul, zero-mul, mod-eq_of_lt}
use native.Mathlib.Omega.{arith}
use lib.Arith.{digits_lt, digits_div, digits_mod}
use lib.Bits.{bit_or, or_block, or_shifted}
use lib.Dec.{eqb}
use lib.ListN.{get_or}
use lib.Pow.{pow-add, pow_mono}
use native.Mathlib.Decide.{dec_lt}
use Rattle.lists.specs.Digits.{from_bytes}
use Rattle.lists.specs.Sum.{sum}
use Rattle.lists.proofs.Digits.{from_bits-ext, from_bytes-ext, from_bytes-lt, from_bytes-digit, cat-above, cat-below}
use Rattle.resolution.specs.declared.Resolution.{Resolution}
use Rattle.resolution.specs.declared.Resolution.TheVariants.{Low, Medium, High}
use Rattle.resolution.specs.Shapes.{planes_of}
use Rattle.lines.specs.Blocks.{four_registers, eight_registers, joined_word, groups_word}
use Rattle.lines.specs.Blocks.{is_block_width, block_word, line_word, turn, block_byte, words_byte, groups_byte}
use Rattle.lines.specs.Columns.{byte_of, plane_byte}
use Rattle.lines.specs.Registers.{line_byte}
use Rattle.lines.proofs.Columns.{plane_byte-word}
use Rattle.lines.proofs.Pieces.{piece-within}
use Rattle.lines.proofs.Turn.{bit, byte-turn}

-- ---- numbers of bytes

bytes-times : (n : ℕ) (c : ℕ → ℕ) (m : ℕ) → from_bytes n c * m ≡ from_bytes n (λ k. c k * m)
unfolding from_bytes
bytes-times zero c m = omega arith
bytes-times (suc n) c m =
    let up : ℕ = from_bytes n (λ k. c (suc k)) in
    let swap : up * 256 * m ≡ up * m * 256 =
    mul_assoc up 256 m ∙ ap (λ (i : ℕ). up * i) (mul_comm 256 m) ∙ sym (mul_assoc up m 256) in
    add-mul (up * 256) (c 0) m
    ∙ ap (λ (i : ℕ). i + c 0 * m) swap
    ∙ ap (λ (i : ℕ). i * 256 + c 0 * m) (bytes-times n (λ k. c (suc k)) m)

bytes-or : (n : ℕ) (c d : ℕ → ℕ) → ((k : ℕ) → k < n → c k < 256) → ((k : ℕ) → k < n → d k < 256)
    → bit_or (from_bytes n c) (from_bytes n d) ≡ from_bytes n (λ k. bit_or (c k) (d k))
unfolding from_bytes
bytes-or zero c d a b = refl
bytes-or (suc n) c d a b =
    or_block 8 (from_bytes n (λ k. c (suc k))) (from_bytes n (λ k. d (suc k))) (c 0) (d 0)
    (a 0 (omega arith)) (b 0 (omega arith))
    ∙ ap (λ (i : ℕ). i * 256 + bit_or (c 0) (d 0))
    (bytes-or n (λ k. c (suc k)) (λ k. d (suc k)) (λ k h. a (suc k) (omega arith)) (λ k h. b (suc k) (omega arith)))

-- ---- words of registers

-- bytes whose bits do not meet are joined one by one
joined_bytes : (c d : ℕ → ℕ) (n : ℕ) → ((k : ℕ) → k < 8 → c k * 2 ^ n < 256) → ((k : ℕ) → k < 8 → d k < 2 ^ n)
    → ((k : ℕ) → k < 8 → d k < 256)
    → joined_word (from_bytes 8 c) n (from_bytes 8 d) ≡ from_bytes 8 (λ k. c k * 2 ^ n + d k)
unfolding joined_word
joined_bytes c d n a b l =
    let up : ℕ → ℕ = λ k. c k * 2 ^ n in
    ap (λ (i : ℕ). bit_or (i % 2 ^ 64) (from_bytes 8 d)) (bytes-times 8 c (2 ^ n))
    ∙ ap (λ (i : ℕ). bit_or i (from_bytes 8 d)) (mod-eq_of_lt (from_bytes-lt 8 up a))
    ∙ bytes-or 8 up d a l
    ∙ from_bytes-ext 8 (λ k. bit_or (up k) (d k)) (λ k. c k * 2 ^ n + d k) (λ k h. or_shifted (c k) n (d k) (b k h))

eight-bytes : (line : List ℕ) (at : ℕ) → eight_registers line at ≡ from_bytes 8 (λ k. get_or line (at + k) 0)
unfolding eight_registers four_registers from_bytes
eight-bytes line at = rw (add_assoc at 4 1, add_assoc at 4 2, add_assoc at 4 3, add-zero at) (omega arith)

-- register k of the eight in group g, from an offset on
abbrev nth : List ℕ → ℕ → ℕ → ℕ → ℕ
nth line at g k = get_or line (at + (g * 16 + k)) 0

-- those of the first groups, so many, are below a bound
abbrev Below : List ℕ → ℕ → ℕ → ℕ → Type 0
Below line at groups limit = (g k : ℕ) → g < groups → k < 8 → nth line at g k < limit

eight-nth : (line : List ℕ) (at o g : ℕ) → o ≡ at + g * 16 → eight_registers line o ≡ from_bytes 8 (nth line at g)
eight-nth line at o g e =
    eight-bytes line o
    ∙ from_bytes-ext 8 (λ k. get_or line (o + k) 0) (nth line at g)
    (λ k h. ap (λ (i : ℕ). get_or line i 0) (omega (arith, e)))

-- numbers below 2 ^ p, the first lowest
abbrev packed : ℕ → (ℕ → ℕ) → ℕ → ℕ
packed p r n = sum n (λ g. r g * 2 ^ (g * p))

module _ (p : ℕ) (r : ℕ → ℕ) where
  packed-more : (n : ℕ) → packed p r (suc n) ≡ r n * 2 ^ (n * p) + packed p r n
  unfolding sum
  packed-more n = omega arith

  packed-lt : (n : ℕ) → ((g : ℕ) → g < n → r g < 2 ^ p) → packed p r n < 2 ^ (n * p)
  unfolding sum
  packed-lt zero b = rw (zero-mul p) (omega arith)
  packed-lt (suc n) b =
      rw (suc-mul n p, add_comm (n * p) p, pow-add 2 p (n * p), packed-more n)
      (digits_lt (b n (omega arith)) (packed-lt n (λ g h. b g (omega arith))))

  -- each of their bits
  packed-bit : (n q : ℕ) → ((g : ℕ) → g < n → r g < 2 ^ p) → q < n * p → bit (packed p r n) q ≡ bit (r (q / p)) (q % p)
  packed-bit zero q b h = absurd (omega (arith, zero-mul p))
  packed-bit (suc n) q b h = go (packed-bit n q first) (dec_lt q (n * p))
    where
      first : (g : ℕ) → g < n → r g < 2 ^ p
      first g l = b g (omega arith)

      go : (q < n * p → bit (packed p r n) q ≡ bit (r (q / p)) (q % p)) → Dec (q < n * p)
          → bit (packed p r (suc n)) q ≡ bit (r (q / p)) (q % p)
      go below (yes l) =
          ap (λ (x : ℕ). bit x q) (packed-more n)
          ∙ cat-below (n * p) (r n) (packed p r n) q (packed-lt n first) l
          ∙ below l
      go below (no l) =
          let j : ℕ = q - n * p in
          let e : q ≡ n * p + j = omega arith in
          let k : j < p = omega (arith, suc-mul n p) in
          ap₂ (λ (x i : ℕ). bit x i) (packed-more n) e
          ∙ cat-above (n * p) (r n) (packed p r n) j (packed-lt n first)
          ∙ ap₂ (λ (g i : ℕ). bit (r g) i)
          (sym (digits_div n k) ∙ ap (λ (i : ℕ). i / p) (sym e))
          (sym (digits_mod n k) ∙ ap (λ (i : ℕ). i % p) (sym e))

-- the bytes of the first groups
groups-bytes : (line : List ℕ) (p at n : ℕ) → Below line at n (2 ^ p) → n * p ≤ 8
    → groups_word line p at n ≡ from_bytes 8 (λ k. packed p (λ g. nth line at g k) n)
unfolding groups_word from_bytes sum
groups-bytes line p at zero b h = refl
groups-bytes line p at (suc n) b h =
    let c : ℕ → ℕ = nth line at n in
    let d : ℕ → ℕ = λ k. packed p (λ g. nth line at g k) n in
    let m : ℕ = n * p in
    let few : m ≤ 8 = omega (arith, suc-mul n p) in
    let first : Below line at n (2 ^ p) = λ g k l i. b g k (omega arith) i in
    let low : (k : ℕ) → k < 8 → d k < 2 ^ m = λ k i. packed-lt p (λ g. nth line at g k) n (λ g l. first g k l i) in
    let all : (k : ℕ) → k < 8 → packed p (λ g. nth line at g k) (suc n) < 2 ^ (suc n * p) =
    λ k i. packed-lt p (λ g. nth line at g k) (suc n) (λ g l. b g k l i) in
    let most : 2 ^ (suc n * p) ≤ 2 ^ 8 = pow_mono h in
    ap₂ (λ (i j : ℕ). joined_word i m j) (eight-nth line at (at + n * 16) n refl) (groups-bytes line p at n first few)
    ∙ joined_bytes c d m
    (λ k i. omega (arith, packed-more p (λ g. nth line at g k) n, all k i, most))
    low
    (λ k i. omega (arith, packed-more p (λ g. nth line at g k) n, all k i, most))
    ∙ from_bytes-ext 8 (λ k. c k * 2 ^ m + d k) (λ k. packed p (λ g. nth line at g k) (suc n))
    (λ k i. sym (packed-more p (λ g. nth line at g k) n))

-- ---- planes of a word

-- bit q of byte k is that of register k in group q / planes, in plane q % planes
abbrev HasPlanes : List ℕ → ℕ → ℕ → ℕ → Type 0
HasPlanes line planes at w =
    (k q : ℕ) → k < 8 → q < 8 → bit w (k * 8 + q) ≡ bit (nth line at (q / planes) k) (q % planes)

groups-planes : (line : List ℕ) (p at n : ℕ) → n * p ≡ 8 → Below line at n (2 ^ p)
    → HasPlanes line p at (groups_word line p at n)
groups-planes line p at n all b k q h l =
    let whole : ℕ → ℕ = λ k. packed p (λ g. nth line at g k) n in
    let below : (k : ℕ) → k < 8 → whole k < 256 =
    λ k i. rw all at (packed-lt p (λ g. nth line at g k) n (λ g m. b g k m i)) in
    ap (λ (w : ℕ). bit w (k * 8 + q)) (groups-bytes line p at n b (omega arith))
    ∙ from_bytes-digit 8 whole below k q h l
    ∙ packed-bit p (λ g. nth line at g k) n q (λ g m. b g k m h) (omega arith)

-- the groups of a block hold eight planes
pub block-groups : (width : ℕ) → is_block_width width → width / 16 * (128 / width) ≡ 8
block-groups width (inl e) = rw e refl
block-groups width (inr (inl e)) = rw e refl
block-groups width (inr (inr e)) = rw e refl

block-planes : (line : List ℕ) (at width : ℕ) → is_block_width width → Below line at (width / 16) (2 ^ (128 / width))
    → HasPlanes line (128 / width) at (block_word line width at)
block-planes line at width is = groups-planes line (128 / width) at (width / 16) (block-groups width is)

turn-planes : (line : List ℕ) (planes at w : ℕ) → HasPlanes line planes at w → (q : ℕ) → q < 8
    → byte_of (turn w) (7 - q) ≡ plane_byte line (at + q / planes * 16) (q % planes)
unfolding plane_byte
turn-planes line planes at w has q h =
    let g : ℕ = q / planes * 16 in
    byte-turn w q h
    ∙ from_bits-ext 8 (λ k. bit w (k * 8 + q)) (λ k. bit (get_or line (at + g + k) 0) (q % planes))
    (λ k l. has k q l h ∙ ap (λ (o : ℕ). bit (get_or line o 0) (q % planes)) (sym (add_assoc at g k)))

-- ---- bytes of blocks

-- byte i of block b is byte b * 16 + i of the groups
abbrev Placed : ℕ → ℕ → ℕ → Type 0
Placed b i width =
    (b * width + i % 2 * 8 + i / 2 / (128 / width) * 16
    ≡ (b * 16 + i) / (256 / width) * 16 + (b * 16 + i) % (256 / width) % 2 * 8)
    × (i / 2 % (128 / width) ≡ (b * 16 + i) % (256 / width) / 2)

placed : (b i width : ℕ) → i < 16 → is_block_width width → Placed b i width
placed b i width h (inl e) = subst (Placed b i) (sym e) (omega arith, omega arith)
placed b i width h (inr (inl e)) = subst (Placed b i) (sym e) (omega arith, omega arith)
placed b i width h (inr (inr e)) = subst (Placed b i) (sym e) (omega arith, omega arith)

module _ (line : List ℕ) (width : ℕ) where
  pub line_word-left : (b : ℕ) → block_word line width (b * width) ≡ line_word line width (b * 2)
  line_word-left b =
      let q : b ≡ b * 2 / 2 = omega arith in
      let r : 0 ≡ b * 2 % 2 = omega arith in
      ap (block_word line width) (sym (add-zero (b * width)))
      ∙ ap₂ (λ (i j : ℕ). block_word line width (i * width + j * 8)) q r

  pub line_word-right : (b : ℕ) → block_word line width (b * width + 8) ≡ line_word line width (b * 2 + 1)
  line_word-right b =
      let q : b ≡ (b * 2 + 1) / 2 = omega arith in
      let r : 1 ≡ (b * 2 + 1) % 2 = omega arith in
      ap₂ (λ (i j : ℕ). block_word line width (i * width + j * 8)) q r

  half-word : (b h : ℕ) → h < 2
      → cond (eqb h 0) (turn (line_word line width (b * 2))) (turn (line_word line width (b * 2 + 1)))
      ≡ turn (block_word line width (b * width + h * 8))
  half-word b zero l =
      ap turn (sym (line_word-left b) ∙ ap (block_word line width) (sym (add-zero (b * width))))
  half-word b (suc zero) l = ap turn (sym (line_word-right b))
  half-word b (suc (suc h)) l = absurd (omega arith)

module _ (line : List ℕ) (width : ℕ) (is : is_block_width width) where
  line_word-groups : (b i : ℕ) → i < 16 → ((x : ℕ) → x < b * width + width → get_or line x 0 < 2 ^ (128 / width))
      → block_byte (turn (line_word line width (b * 2))) (turn (line_word line width (b * 2 + 1))) i
      ≡ groups_byte line (256 / width) (b * 16 + i)
  line_word-groups b i h fit =
      let at : ℕ = b * width + i % 2 * 8 in
      let place = placed b i width h is in
      let below : Below line at (width / 16) (2 ^ (128 / width)) =
      λ g k m n. fit (at + (g * 16 + k)) (omega arith) in
      ap (λ (w : ℕ). byte_of w (7 - i / 2)) (half-word line width b (i % 2) (omega arith))
      ∙ turn-planes line (128 / width) at (block_word line width at) (block-planes line at width is below) (i / 2)
      (omega arith)
      ∙ ap₂ (plane_byte line) place.0 place.1

  pub words-groups : (blocks : ℕ) (words : List ℕ)
      → ((i : ℕ) → i < blocks * 2 → get_or words i 0 ≡ turn (line_word line width i))
      → ((x : ℕ) → x < blocks * width → get_or line x 0 < 2 ^ (128 / width)) → (j : ℕ) → j < blocks * 16
      → words_byte words j ≡ groups_byte line (256 / width) j
  words-groups blocks words made fit j h =
      let e : j / 16 * 16 + j % 16 ≡ j = omega arith in
      ap₂ (λ (l r : ℕ). block_byte l r (j % 16)) (made (j / 16 * 2) (omega arith)) (made (j / 16 * 2 + 1) (omega arith))
      ∙ line_word-groups (j / 16) (j % 16) (omega arith)
      (λ x l. fit x (omega (arith, piece-within (j / 16) blocks width (omega arith))))
      ∙ ap (groups_byte line (256 / width)) e

-- ---- scan lines

pub groups_byte-line : (r : Resolution) (line : List ℕ) (i : ℕ) → groups_byte line (planes_of r * 2) i ≡ line_byte r line i
groups_byte-line r line i =
    let p : ℕ = planes_of r in
    ap₂ (λ (g j : ℕ). plane_byte line (g * 16 + j % 2 * 8) (j / 2)) (group r) (place r)
    ∙ ap₂ (λ (h q : ℕ). plane_byte line (i / 2 / p * 16 + h * 8) q)
    (digits_mod (i / 2 % p) (omega arith))
    (digits_div (i / 2 % p) (omega arith))
    ∙ plane_byte-word line (i / 2 / p) (i / 2 % p) (i % 2) (omega arith)
  where
    group : (r : Resolution) → i / (planes_of r * 2) ≡ i / 2 / planes_of r
    group Low = omega arith
    group Medium = omega arith
    group High = omega arith

    place : (r : Resolution) → i % (planes_of r * 2) ≡ i / 2 % planes_of r * 2 + i % 2
    place Low = omega arith
    place Medium = omega arith
    place High = omega arith
