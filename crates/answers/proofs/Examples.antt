-- The examples of document 01 that are marked P hold: one test, which antt computes over the table, and one law at each
-- entry.
use Rattle.std.specs.Prelude.{Ok, Err}
use mathlib.Core.Path.{◌≡◌, refl, ap₂, subst}
use mathlib.Core.Bool.{Bool, true, false, ◌&&◌}
use mathlib.Core.List.{List, [], ◌∷◌, flatten}
use Prim.Native.Nat.{ℕ, zero, suc, ◌<◌}
use native.Mathlib.Nat.{le_of_suc-le-suc, not-suc-le-zero}
use lib.ListN.{length, get_or}
use lib.Dec.{T, leb, eqb, leb→le, eqb→eq}
use Rattle.lists.specs.Sum.{sum}
use Rattle.outcome.specs.declared.Refusal.{Refusal}
use Rattle.outcome.specs.Outcome.{Outcome, row_refusal}
use Rattle.words.specs.Word.{word_at, word_bytes, words_bytes}
use Rattle.packbits.specs.Records.{control, record_at}
use Rattle.packbits.specs.Row.{Row, done}
use Rattle.packbits.specs.Unpack.{progress_within, progress, outcome_of, unpack_row}
use Rattle.packbits.specs.Unpack as unpacking
use Rattle.pack.specs.IsLeast.{IsLeast}
use Rattle.pack.specs.Least.{least, least_records, scan}
use Rattle.pack.specs.Least as packing
use Rattle.pack.proofs.Valid.{least-is-least}
use Rattle.resolution.specs.declared.Resolution.TheVariants.{Low}
use Rattle.raster.specs.Offsets.{group_offset, word_offset}
use Rattle.lines.specs.Registers.{pixel_bit, register}
use Rattle.colour.specs.declared.Machine.TheVariants.{St}
use Rattle.colour.specs.Machines.{stretch, nibble_shown}
use Rattle.colour.specs.declared.Rgb.{Rgb}
use Rattle.colour.specs.Palette.{nibble, word_colour}
use Rattle.answers.specs.Examples.{Example, row_packed, row_unpacked, coloured, first_register, Holds, table}

-- ---- tests of equality

both : (a b : Bool) → T (a && b) → T a × T b
both true b t = (tt, t)
both false b t = absurd t

abbrev same : List ℕ → List ℕ → Bool
same [] [] = true
same [] (y ∷ ys) = false
same (x ∷ xs) [] = false
same (x ∷ xs) (y ∷ ys) = eqb x y && same xs ys

same-list : (xs ys : List ℕ) → T (same xs ys) → xs ≡ ys
same-list [] [] t = refl
same-list [] (y ∷ ys) t = absurd t
same-list (x ∷ xs) [] t = absurd t
same-list (x ∷ xs) (y ∷ ys) t =
    let h = both (eqb x y) (same xs ys) t in
    ap₂ (λ (a : ℕ) (l : List ℕ). a ∷ l) (eqb→eq x y h.0) (same-list xs ys h.1)

abbrev numbers : Refusal → List ℕ
numbers why = why.number ∷ why.place ∷ why.plane_row ∷ why.good_bytes ∷ []

abbrev same_outcome : Outcome Row → Outcome Row → Bool
same_outcome (Ok r) (Ok s) = same (r.bytes ∷ r.records ∷ r.made) (s.bytes ∷ s.records ∷ s.made)
same_outcome (Ok r) (Err w) = false
same_outcome (Err v) (Ok s) = false
same_outcome (Err v) (Err w) = same (numbers v) (numbers w)

same_outcome_lem : (a b : Outcome Row) → T (same_outcome a b) → a ≡ b
same_outcome_lem (Ok r) (Ok s) t =
    row r.bytes s.bytes r.records s.records r.made s.made
    (same-list (r.bytes ∷ r.records ∷ r.made) (s.bytes ∷ s.records ∷ s.made) t)
  where
    row : (u v n m : ℕ) (l k : List ℕ) → (u ∷ n ∷ l) ≡ (v ∷ m ∷ k) → done u n l ≡ done v m k
    row u v n m l k e = cc
same_outcome_lem (Ok r) (Err w) t = absurd t
same_outcome_lem (Err v) (Ok s) t = absurd t
same_outcome_lem (Err v) (Err w) t =
    why v.number v.place v.plane_row v.good_bytes w.number w.place w.plane_row
    w.good_bytes
    (same-list (numbers v) (numbers w) t)
  where
    why : (n o r g m p s h : ℕ) → numbers (row_refusal n o r g) ≡ numbers (row_refusal m p s h)
        → ◌≡◌ {A = Outcome Row} (Err (row_refusal n o r g)) (Err (row_refusal m p s h))
    why n o r g m p s h e = cc

-- ---- the test of an example, and what it tells

abbrev parts : Rgb → List ℕ
parts c = c.red ∷ c.green ∷ c.blue ∷ []

same-colour : (c : Rgb) (red green blue : ℕ) → parts c ≡ (red ∷ green ∷ blue ∷ [])
    → c ≡ record { red = red; green = green; blue = blue }
same-colour c red green blue e = go c.red c.green c.blue e
  where
    go : (r g b : ℕ) → (r ∷ g ∷ b ∷ []) ≡ (red ∷ green ∷ blue ∷ [])
        → ◌≡◌ {A = Rgb} (record { red = r; green = g; blue = b }) (record { red = red; green = green; blue = blue })
    go r g b f = cc

unfoldable test : Example → Bool
test (row_packed row body) = leb (length row) 128 && same (least row) body
test (row_unpacked packed width outcome) = same_outcome (unpack_row packed width width) outcome
test (coloured word red green blue) = same (parts (word_colour St word)) (red ∷ green ∷ blue ∷ [])
test (first_register words v) = eqb (register (words_bytes words) Low 0 0) v

test-holds : (e : Example) → T (test e) → Holds e
unfolding test
test-holds (row_packed row body) t =
    let h = both (leb (length row) 128) (same (least row) body) t in (
      least_records row,
      subst (λ (b : List ℕ). IsLeast row b (least_records row)) (same-list (least row) body h.1)
          (least-is-least row (leb→le (length row) 128 h.0)),
    )
test-holds (row_unpacked packed width outcome) t = same_outcome_lem (unpack_row packed width width) outcome t
test-holds (coloured word red green blue) t =
    same-colour (word_colour St word) red green blue (same-list (parts (word_colour St word)) (red ∷ green ∷ blue ∷ []) t)
test-holds (first_register words v) t = eqb→eq (register (words_bytes words) Low 0 0) v t

-- ---- the table

unfoldable every : List Example → Bool
every [] = true
every (e ∷ es) = test e && every es

at : (es : List Example) → T (every es) → (k : ℕ) → k < length es → (d : Example) → Holds (get_or es k d)
unfolding every
at [] t k h d = absurd (not-suc-le-zero h)
at (e ∷ es) t zero h d = test-holds e (both (test e) (every es) t).0
at (e ∷ es) t (suc k) h d = at es (both (test e) (every es) t).1 k (le_of_suc-le-suc h) d

all : T (every table)
unfolding every test scan packing.prepend unpack_row outcome_of progress progress_within unpacking.step record_at control
    word_colour nibble nibble_shown stretch register words_bytes word_bytes word_at group_offset word_offset pixel_bit sum
    flatten
all = tt

-- "The twelve marked P (bytes in hex) form a single table, proved once as a whole against the definitions."
pub examples : (k : ℕ) → k < 12 → (d : Example) → Holds (get_or table k d)
examples = at table all
