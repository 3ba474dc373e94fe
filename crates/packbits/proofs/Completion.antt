-- What is good before a record at fault: the whole rows and the bytes of the row under way are the ones that every
-- input with the same bytes up to that record has (document 02, ticket 3).
use Rattle.std.specs.Prelude.{Ok}
use mathlib.Core.Path.{◌≡◌, refl, sym, ap, ap₂, ◌∙◌}
use Prim.Native.Nat.{ℕ, suc, ◌+◌, ◌-◌, ◌*◌}
use native.Mathlib.Nat.{suc-mul}
use native.Mathlib.Omega.{arith}
use mathlib.Core.List.{List, [], ◌∷◌, ◌++◌, flatten, append_assoc}
use lib.ListN.{length, get_or, take, drop, length-append, take-append-drop}
use lib.Seq.{take_at, take-append_seam, get_or-append_seam}
use Rattle.lists.specs.Wide.{Wide}
use Rattle.lists.proofs.Cond.{cond-eqb}
use Rattle.outcome.specs.declared.Refusal.{Refusal}
use Rattle.outcome.specs.Outcome.{Outcome, later}
use Rattle.packbits.specs.Unpack.{Progress, progress}
use Rattle.packbits.specs.Rows.{RowsProgress, row_step, rows_from, Rows, rows_outcome, unpack_rows}
use Rattle.packbits.specs.Stops.{Stops, BeginsWith}
use Rattle.packbits.proofs.RowsAppend.{rows_before}
use Rattle.packbits.proofs.Stops.{stops-cut}

-- ---- the row under way, where it is full in the end

abbrev FirstBegins : List ℕ → RowsProgress → Type 0
FirstBegins begun q = q.fault ≡ 0 → (row : List ℕ) × (left : List (List ℕ)) × (q.rows ≡ (begun ++ row) ∷ left)

first-begins : (m width : ℕ) (begun input : List ℕ) → FirstBegins begun (rows_from (suc m) width begun input)
unfolding rows_from row_step
first-begins m width begun input =
    let p : Progress = progress input (width - length begun) in
    cond-eqb (FirstBegins begun) p.fault 0 (λ _ _. (p.made, _, refl)) (λ e f. absurd (e f))

-- ---- what is accepted has no fault

pub rows-accepted : (p : RowsProgress) (q : Rows) → rows_outcome p ≡ Ok q → (p.fault ≡ 0) × (p.rows ≡ q.rows)
unfolding rows_outcome
rows-accepted p q =
    cond-eqb (λ (o : Outcome Rows). o ≡ Ok q → (p.fault ≡ 0) × (p.rows ≡ q.rows)) p.fault 0
    (λ f is. (f, ap (λ (o : Outcome Rows). later o (λ r. r.rows) []) is))
    (λ f is. let z : ◌≡◌ {A = ℕ} 0 1 = cc in absurd (omega arith))

-- ---- another input with the same bytes up to the record at fault

begins-with : (rows : List (List ℕ)) (begun row : List ℕ) (left list : List (List ℕ))
    → list ≡ rows ++ ((begun ++ row) ∷ left) → BeginsWith rows begun list
begins-with rows begun row left list e = record {
  whole = ap (take (length rows)) e ∙ take-append_seam rows ((begun ++ row) ∷ left);
  next =
      ap (λ (l : List (List ℕ)). take (length begun) (get_or l (length rows) [])) e
      ∙ ap (take (length begun)) (get_or-append_seam rows (begun ++ row) left [])
      ∙ take-append_seam begun row;
}

accepted-begins : (rows : List (List ℕ)) (begun : List ℕ) (bytes records : ℕ) (p : RowsProgress) (q : Rows)
    → FirstBegins begun p → rows_outcome (rows_before rows bytes records p) ≡ Ok q → BeginsWith rows begun q.rows
accepted-begins rows begun bytes records p q first is =
    let a = rows-accepted (rows_before rows bytes records p) q is in
    let f = first a.0 in
    begins-with rows begun f.0 f.1 q.rows (sym a.1 ∙ ap (λ (l : List (List ℕ)). rows ++ l) f.2)

length-wide : (width : ℕ) (rows : List (List ℕ)) → Wide width rows → length (flatten rows) ≡ length rows * width
unfolding flatten
length-wide width [] w = omega arith
length-wide width (row ∷ rows) w =
    omega (arith, length-append row (flatten rows), w.0, length-wide width rows w.1, suc-mul (length rows) width)

module _ (n width : ℕ) {input : List ℕ} {why : Refusal} (s : Stops n width input why) where
  -- accepted, it begins with the whole rows, and its next row with the bytes of the row under way
  pub completion : (other : List ℕ) → take why.place other ≡ take why.place input → (q : Rows)
      → unpack_rows n width other ≡ Ok q → BeginsWith s.rows s.begun q.rows
  completion other same q is =
      let rest : List ℕ = drop why.place other in
      let before : take why.place other ≡ s.whole ++ s.part =
      same ∙ ap (take why.place) (s.parts ∙ sym (append_assoc s.whole s.part s.rest))
      ∙ take_at (s.whole ++ s.part) s.rest why.place (length-append s.whole s.part ∙ sym s.place) in
      let split : other ≡ s.whole ++ (s.part ++ rest) =
      sym (take-append-drop why.place other) ∙ ap (λ (l : List ℕ). l ++ rest) before
      ∙ append_assoc s.whole s.part rest in
      let m : ℕ = n - length s.rows - 1 in
      accepted-begins s.rows s.begun (length s.whole + length s.part) (s.whole_records + s.part_records)
      (rows_from (suc m) width s.begun rest) q (first-begins m width s.begun rest)
      (sym (ap rows_outcome (stops-cut n width s rest)) ∙ sym (ap (unpack_rows n width) split) ∙ is)

  -- so many bytes the whole rows and the row under way have together
  pub good-bytes : why.plane_row * width + why.good_bytes ≡ length (flatten s.rows ++ s.begun)
  good-bytes =
      ap₂ (λ (k good : ℕ). k * width + good) s.plane_row s.good_bytes
      ∙ omega (arith, length-append (flatten s.rows) s.begun, length-wide width s.rows s.wide)
