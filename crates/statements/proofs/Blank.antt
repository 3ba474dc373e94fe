-- Blank files fit.
use mathlib.Core.Path.{◌≡◌, refl, sym, ap, ◌∙◌, subst}
use mathlib.Core.List.{List, [], ◌∷◌, ◌++◌, flatten}
use Prim.Native.Nat.{ℕ, zero, suc, ◌<◌}
use native.Mathlib.Omega.{arith}
use lib.ListN.{length, get_or, replicate, length-replicate, length-append}
use Rattle.lists.specs.Bytes.{Bytes}
use Rattle.lists.proofs.Bytes.{no_bytes, bytes-cons, bytes-append}
use Rattle.lists.specs.Tabulate.{tabulate}
use Rattle.words.specs.Word.{word_at, words_at}
use Rattle.packbits.specs.Unpacks.{Unpacks, full, repeat}
use Rattle.packbits.specs.UnpacksRows.{UnpacksRows, none, more}
use Rattle.raster.specs.declared.Raster.{Raster}
use Rattle.raster.specs.Shape.{row_bytes, rows}
use Rattle.raster.specs.PlaneRows.{row_offset, plane_row, plane_rows}
use Rattle.resolution.specs.declared.Resolution.{Resolution}
use Rattle.resolution.specs.declared.Resolution.TheVariants.{Low, Medium, High}
use Rattle.resolution.specs.Shapes.{screen_bytes, plane_rows_of, raster_of}
use Rattle.bodies.specs.Unpacks.{UnpacksImage}
use Rattle.degas.specs.Layout.{body_limit, plain_length, elite_length}
use Rattle.degas.specs.Accepts.{PackedFits, plain, elite, packed}
use Rattle.neochrome.specs.Layout.{file_length}
use Rattle.tiny_runs.specs.Expands.{empty, long_repeat}
use Rattle.tiny.specs.Layout.{palette_start}
use Rattle.demands.specs.Accepted.{Accepts, degas, neochrome, tiny}
use Rattle.statements.specs.Blank as blank
use Rattle.statements.specs.Blank.{Blank, zeros, blank_screen, blank_body, blank_packed}

-- ---- a rule with one value

module _ {A : Type 0} where
  tabulate-constant : (n : ℕ) (f : ℕ → A) (a : A) → ((k : ℕ) → f k ≡ a) → tabulate n f ≡ replicate n a
  unfolding tabulate
  tabulate-constant zero f a e = refl
  tabulate-constant (suc n) f a e =
      ap (λ (x : A). x ∷ tabulate n (λ k. f (suc k))) (e 0)
      ∙ ap (λ (l : List A). a ∷ l) (tabulate-constant n (λ k. f (suc k)) a (λ k. e (suc k)))

get_or-zeros : (n i : ℕ) → get_or (zeros n) i 0 ≡ 0
get_or-zeros zero i = refl
get_or-zeros (suc n) zero = refl
get_or-zeros (suc n) (suc i) = get_or-zeros n i

length-zeros : (n : ℕ) → length (zeros n) ≡ n
length-zeros n = length-replicate {A = ℕ} n 0

-- ---- the plane rows of a blank screen, and a body of them

pub zero-rows : (n : ℕ) (r : Raster) → plane_rows (zeros n) r ≡ replicate (rows r) (zeros (row_bytes r))
unfolding plane_row plane_rows
zero-rows n r =
    tabulate-constant (rows r) (λ k. plane_row (zeros n) r k) (zeros (row_bytes r))
    (λ k. tabulate-constant (row_bytes r) (λ c. get_or (zeros n) (row_offset r k c) 0) 0
    (λ c. get_or-zeros n (row_offset r k c)))

pub unpacks-equal : (n : ℕ) (body row : List ℕ) → Unpacks body row 1
    → UnpacksRows (flatten (replicate n body)) (replicate n row) n
unfolding flatten
unpacks-equal zero body row u = none
unpacks-equal (suc n) body row u =
    subst (UnpacksRows (flatten (replicate (suc n) body)) (replicate (suc n) row)) (omega arith)
    (more u (unpacks-equal n body row u))

blank-rows : (r : Resolution) → UnpacksRows (blank_body r)
    (replicate (rows (raster_of r)) (zeros (row_bytes (raster_of r)))) (plane_rows_of r)
blank-rows Low = unpacks-equal 800 _ (zeros 40) (repeat {x = 0xD9} {byte = 0} (omega arith) (omega arith) full)
blank-rows Medium = unpacks-equal 400 _ (zeros 80) (repeat {x = 0xB1} {byte = 0} (omega arith) (omega arith) full)
blank-rows High = unpacks-equal 400 _ (zeros 80) (repeat {x = 0xB1} {byte = 0} (omega arith) (omega arith) full)

pub blank-unpacks : (r : Resolution) → UnpacksImage (raster_of r) (blank_body r) blank_screen (plane_rows_of r)
blank-unpacks r =
    subst (λ (list : List (List ℕ)). UnpacksRows (blank_body r) list (plane_rows_of r))
    (sym (zero-rows screen_bytes (raster_of r)))
    (blank-rows r)

pub blank-below : (r : Resolution) → length (blank_body r) < body_limit
unfolding flatten
blank-below Low = let n : length (blank_body Low) ≡ 1600 = refl in omega arith
blank-below Medium = let n : length (blank_body Medium) ≡ 800 = refl in omega arith
blank-below High = let n : length (blank_body High) ≡ 800 = refl in omega arith

pub bytes-equal : (n : ℕ) (body : List ℕ) → Bytes body → Bytes (flatten (replicate n body))
unfolding flatten
bytes-equal zero body b = no_bytes
bytes-equal (suc n) body b = bytes-append body (flatten (replicate n body)) b (bytes-equal n body b)

pub pair-bytes : (x : ℕ) → x < 256 → Bytes (x ∷ 0x00 ∷ [])
pair-bytes x h = bytes-cons x (0x00 ∷ []) h (bytes-cons 0 [] (omega arith) no_bytes)

pub blank-bytes : (r : Resolution) → Bytes (blank_body r)
blank-bytes Low = bytes-equal 800 _ (pair-bytes 0xD9 (omega arith))
blank-bytes Medium = bytes-equal 400 _ (pair-bytes 0xB1 (omega arith))
blank-bytes High = bytes-equal 400 _ (pair-bytes 0xB1 (omega arith))

packed-fits : PackedFits blank_packed Low
packed-fits = record {
  header = 0x80 ∷ 0x00 ∷ zeros 32;
  body = blank_body Low;
  tail = zeros 32;
  image = blank_screen;
  records = 800;
  parts = refl;
  before = refl;
  below = blank-below Low;
  behind = refl;
  size = length-zeros screen_bytes;
  runs = blank-unpacks Low;
}

pub blank-fits : (kind : ℕ) (file : List ℕ) → Blank kind file → Accepts kind file
unfolding word_at words_at tabulate palette_start
blank-fits kind file blank.plain =
    degas refl (record { resolution = Low; allowed = refl; fits = plain refl (length-zeros plain_length) })
blank-fits kind file blank.elite =
    degas refl (record { resolution = Low; allowed = refl; fits = elite refl (length-zeros elite_length) })
blank-fits kind file blank.packed =
    degas refl (record { resolution = Low; allowed = refl; fits = packed refl packed-fits })
blank-fits kind file blank.neochrome =
    neochrome refl (record { resolution = Low; flag = refl; allowed = refl; fits = length-zeros file_length })
blank-fits kind file blank.tiny =
    tiny refl (record {
      words = zeros 16000 ++ [];
      runs = 1;
      allowed = omega arith;
      fits = refl;
      full = omega (arith, length-append (zeros 16000) [], length-zeros 16000);
      expands = long_repeat {high = 0x3E} {low = 0x80} {count = 16000} {w = 0} (refl, omega arith, omega arith) empty;
    })
