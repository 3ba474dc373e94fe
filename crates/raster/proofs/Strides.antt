-- The words of a plane row, which lie a stride apart, and the loops that copy and store them.
use mathlib.Core.Path.{◌≡◌, refl, sym, ap, ap₂, ◌∙◌}
use mathlib.Core.List.{List}
use Prim.Native.Nat.{ℕ, ◌+◌, ◌*◌, ◌/◌, ◌%◌, ◌≤◌, ◌<◌}
use native.Mathlib.Nat.{add-mul, add-zero}
use native.Mathlib.Omega.{arith}
use lib.Arith.{digits_div, digits_mod}
use lib.ListN.{length, get_or, take, set, length-set}
use lib.Seq.{take_all}
use Rattle.lists.specs.Over.{over}
use Rattle.lists.specs.Stores.{stores}
use Rattle.lists.proofs.Over.{tabulate-turn}
use Rattle.lists.proofs.Stores.{stores-turn}
use Rattle.lists.proofs.Tabulate.{length-tabulate}
use Rattle.raster.specs.declared.Raster.{Raster}
use Rattle.raster.specs.Offsets.{group_offset, word_offset}
use Rattle.raster.specs.Shape.{row_bytes, rows, bytes}
use Rattle.raster.specs.PlaneRows.{row_offset, plane_row, with_row}
use Rattle.raster.proofs.Places.{row_within}

-- where word g of plane row n begins
abbrev pub word_start : Raster → ℕ → ℕ → ℕ
word_start r n g = row_offset r n 0 + g * (r.planes * 2)

-- the area with the first g words of a row stored to plane row n
unfoldable pub stored : Raster → ℕ → ℕ → List ℕ → List ℕ → List ℕ
stored r n g row area = stores (g * 2) (row_offset r n) (λ c. get_or row c 0) area

pub stored_none : (r : Raster) (n : ℕ) (row area : List ℕ) → stored r n 0 row area ≡ area
unfolding stored stores
stored_none r n row area = refl

pub stored_all : (r : Raster) (n g : ℕ) (row area : List ℕ) → g ≡ r.groups
    → stored r n g row area ≡ with_row area r n row
unfolding stored with_row
stored_all r n g row area e = ap (λ (k : ℕ). stores (k * 2) (row_offset r n) (λ c. get_or row c 0) area) e

module _ (r : Raster) (n g : ℕ) where
  -- its byte h
  byte-at : (h : ℕ) → h < 2 → row_offset r n (g * 2 + h) ≡ word_start r n g + h
  unfolding row_offset word_offset group_offset
  byte-at h l =
      ap₂ (λ (a b : ℕ). (n / r.planes * r.groups + a) * (r.planes * 2) + n % r.planes * 2 + b) (digits_div g l)
      (digits_mod g l)
      ∙ omega (arith, add-mul (n / r.planes * r.groups) g (r.planes * 2))

  first-byte : row_offset r n (g * 2) ≡ word_start r n g
  first-byte =
      ap (row_offset r n) (sym (add-zero (g * 2))) ∙ byte-at 0 (omega arith) ∙ add-zero (word_start r n g)

  pub word_within : n < rows r → g < r.groups → word_start r n g + 1 < bytes r
  word_within h l = omega (arith, byte-at 1 (omega arith), row_within r n (g * 2 + 1) h (omega arith))

  -- a turn of the loop that copies them
  pub copy_turn : (s row₀ : List ℕ) (high low : ℕ) → g < r.groups → row_bytes r ≤ length row₀
      → high ≡ get_or s (word_start r n g) 0 → low ≡ get_or s (word_start r n g + 1) 0
      → set (set (over (take (g * 2) (plane_row s r n)) row₀) (g * 2) high) (g * 2 + 1) low
      ≡ over (take ((g + 1) * 2) (plane_row s r n)) row₀
  unfolding plane_row
  copy_turn s row₀ high low h room eh el =
      let f : ℕ → ℕ = λ c. get_or s (row_offset r n c) 0 in
      let next : g * 2 + 1 + 1 ≡ (g + 1) * 2 = omega arith in
      tabulate-turn (row_bytes r) f row₀ _ (g * 2 + 1) low (omega arith) (omega arith)
      (tabulate-turn (row_bytes r) f row₀ _ (g * 2) high (omega arith) (omega arith) refl
      (eh ∙ ap (λ (i : ℕ). get_or s i 0) (sym first-byte)))
      (el ∙ ap (λ (i : ℕ). get_or s i 0) (sym (byte-at 1 (omega arith))))
      ∙ ap (λ (k : ℕ). over (take k (plane_row s r n)) row₀) next

  -- a turn of the loop that stores them
  pub store_turn : (row area₀ : List ℕ) (i high low : ℕ) → i ≡ word_start r n g → high ≡ get_or row (g * 2) 0
      → low ≡ get_or row (g * 2 + 1) 0
      → set (set (stored r n g row area₀) i high) (i + 1) low ≡ stored r n (g + 1) row area₀
  unfolding stored
  store_turn row area₀ i high low e eh el =
      let v : ℕ → ℕ = λ c. get_or row c 0 in
      let next : g * 2 + 1 + 1 ≡ (g + 1) * 2 = omega arith in
      stores-turn (g * 2 + 1) (row_offset r n) v area₀ _ (i + 1) low
      (stores-turn (g * 2) (row_offset r n) v area₀ _ i high refl (e ∙ sym first-byte) eh)
      (ap (λ (k : ℕ). k + 1) e ∙ sym (byte-at 1 (omega arith)))
      el
      ∙ ap (λ (k : ℕ). stores k (row_offset r n) v area₀) next

-- after the last turn
pub copy_last : (s row₀ : List ℕ) (r : Raster) (n g : ℕ) → r.groups ≤ g
    → over (take (g * 2) (plane_row s r n)) row₀ ≡ over (plane_row s r n) row₀
unfolding plane_row
copy_last s row₀ r n g h =
    ap (λ (l : List ℕ). over l row₀)
    (take_all (g * 2) (plane_row s r n)
    (omega (arith, length-tabulate (row_bytes r) (λ c. get_or s (row_offset r n c) 0))))

pub ruleset copies = (word_within, copy_turn, copy_last, length-set)

pub ruleset puts = (word_within, stored_none, store_turn, stored_all, length-set)
