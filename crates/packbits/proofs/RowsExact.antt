-- `unpack_rows` accepts with exactly the bodies of the relation `UnpacksRows`.
use Rattle.std.specs.Prelude.{Ok, Err}
use mathlib.Core.Path.{◌≡◌, refl, sym, ap, ◌∙◌, subst}
use mathlib.Core.Logic.{◌↔◌}
use Prim.Native.Nat.{ℕ, zero, suc, ◌≤◌}
use native.Mathlib.Omega.{arith}
use mathlib.Core.List.{List, ◌++◌, append_assoc}
use lib.ListN.{length, take, drop, length-append, length-drop, take-append-drop}
use lib.Seq.{take-add, drop-append_seam, length-take-le}
use Rattle.lists.specs.Bytes.{Bytes}
use Rattle.lists.specs.Wide.{Wide}
use Rattle.lists.proofs.Bytes.{bytes_drop}
use Rattle.outcome.specs.Outcome.{Outcome, map, bind, placed}
use Rattle.packbits.specs.Row.{Row, done}
use Rattle.packbits.specs.Unpack.{unpack}
use Rattle.packbits.proofs.Exact.{sound, complete}
use Rattle.packbits.specs.Rows.{Rows, done_rows, rows_from, rows_outcome, unpack_rows}
use Rattle.packbits.specs.UnpacksRows.{UnpacksRows, none, more}
use Rattle.packbits.proofs.RowsSteps.{with_row, after_row, unpack_rows-suc}

-- ---- complete: a body of the relation, with anything after it, is accepted, and used whole

pub complete-rows : (width : ℕ) {body : List ℕ} {rows : List (List ℕ)} {n : ℕ} → Wide width rows
    → UnpacksRows body rows n → (rest : List ℕ)
    → unpack_rows (length rows) width (body ++ rest) ≡ done_rows (length body) n rows
unfolding rows_from rows_outcome
complete-rows width w none rest = refl
complete-rows width w (more {body} {bodies} {row} {rows} {n} {m} u us) rest =
    let first : unpack (body ++ (bodies ++ rest)) width ≡ done (length body) n row =
    ap (unpack (body ++ (bodies ++ rest))) (sym w.0) ∙ complete u (bodies ++ rest) in
    unpack_rows-suc (length rows) width ((body ++ bodies) ++ rest)
    ∙ rw (
      append_assoc body bodies rest,
      first,
      drop-append_seam body (bodies ++ rest),
      complete-rows width w.1 us rest,
      length-append body bodies,
    )

-- ---- sound: what is accepted is a body of the relation

abbrev Sound : ℕ → ℕ → List ℕ → Outcome Rows → Type 0
Sound n width input (Ok q) =
    Bytes input → (length q.rows ≡ n) × Wide width q.rows × (q.bytes ≤ length input) × UnpacksRows
    (take q.bytes input) q.rows q.records
Sound n width input (Err why) = Unit {0}

sound-row : (n width : ℕ) (input : List ℕ) (r : Row) → unpack input width ≡ Ok r → (o : Outcome Rows)
    → Sound n width (drop r.bytes input) o
    → Sound (suc n) width input (map (with_row r) (after_row (placed r.bytes o)))
sound-row n width input r is (Err why) s = tt
sound-row n width input r is (Ok q) s = λ bytes.
    let first = sound input width r.bytes r.records r.made bytes is in
    let left = s (bytes_drop r.bytes input bytes) in (
      ap suc left.0,
      (first.0, left.1),
      omega (arith, length-drop r.bytes input, first.1, left.2),
      rw (take-add r.bytes q.bytes input) (more first.2 left.3),
    )

sound-bind : (n width : ℕ) (input : List ℕ) (o : Outcome Row) → unpack input width ≡ o → (next : Row → Outcome Rows)
    → ((r : Row) → Sound n width (drop r.bytes input) (next r))
    → Sound (suc n) width input (bind o (λ r. map (with_row r) (after_row (placed r.bytes (next r)))))
sound-bind n width input (Err why) is next ih = tt
sound-bind n width input (Ok r) is next ih = sound-row n width input r is (next r) (ih r)

sound-rows : (n width : ℕ) (input : List ℕ) → Sound n width input (unpack_rows n width input)
unfolding rows_from rows_outcome
sound-rows zero width input = λ bytes. (refl, tt, omega arith, none)
sound-rows (suc n) width input =
    rw (unpack_rows-suc n width input)
    (sound-bind n width input (unpack input width) refl (λ r. unpack_rows n width (drop r.bytes input))
    (λ r. sound-rows n width (drop r.bytes input)))

-- ---- exact: accepted with these bytes used, these records and these rows, just where the relation has them

pub exact-rows : (n width : ℕ) (input : List ℕ) (bytes records : ℕ) (rows : List (List ℕ)) → Bytes input
    → (unpack_rows n width input ≡ done_rows bytes records rows)
    ↔ ((length rows ≡ n) × Wide width rows × (bytes ≤ length input) × UnpacksRows (take bytes input) rows records)
exact-rows n width input bytes records rows all =
    ((λ e. subst (Sound n width input) e (sound-rows n width input) all), back)
  where
    back : (length rows ≡ n) × Wide width rows × (bytes ≤ length input) × UnpacksRows (take bytes input) rows records
        → unpack_rows n width input ≡ done_rows bytes records rows
    back s =
        ap (λ (k : ℕ). unpack_rows k width input) (sym s.0)
        ∙ ap (unpack_rows (length rows) width) (sym (take-append-drop bytes input))
        ∙ complete-rows width s.1 s.3 (drop bytes input)
        ∙ ap (λ (j : ℕ). done_rows j records rows) (length-take-le bytes input s.2)
