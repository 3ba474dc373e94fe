-- The loop of `fill_rows`: its invariant and its laws.
use Rattle.std.specs.Prelude.{Ok, Err}
use mathlib.Core.Path.{◌≡◌, refl, sym, ap, ap₂, ◌∙◌, subst}
use Prim.Native.Nat.{ℕ, ◌+◌, ◌*◌, ◌-◌, ◌/◌, ◌≤◌, ◌<◌}
use native.Mathlib.Omega.{arith}
use mathlib.Core.List.{List, ◌++◌, flatten}
use lib.Arith.{digits_div}
use lib.ListN.{length, take, drop, length-drop, length-append}
use lib.Seq.{take_at, length-take-le}
use borrow.Author.Tests.{eq-eqb, ne_eqb}
use borrow.Rule.Slice.PartMut.{put_mid, same_len_mid, take_put}
use Rattle.lists.specs.Over.{over}
use Rattle.lists.proofs.Cond.{cond-eqb}
use Rattle.outcome.specs.declared.Refusal.{Refusal}
use Rattle.outcome.specs.Outcome.{Outcome, row_refusal, map, placed}
use Rattle.packbits.specs.declared.Packed.{Packed}
use Rattle.packbits.specs.Row.{row_packed}
use Rattle.packbits.specs.Rows.{Rows, RowsProgress, done_rows, rows_fault, rows_outcome, rows_packed, rows_progress}
use Rattle.packbits.specs.Rows.{unpack_rows_at}
use Rattle.packbits.specs.Unpack.{Progress, progress, outcome_of, unpack_at}
use Rattle.packbits.proofs.Unpack.{bounded}
use Rattle.unpack.specs.Rows.{RowsFit, RowsRead, whole_rows, Begins}
use Rattle.unpack.proofs.Front.{front-more}
use Rattle.unpack.proofs.RowsRead.{read_none, row_within, begins, row-turn, row-stop, read_all}

-- ---- what one row and all rows come to, by the fault

row-full : (at : ℕ) (p : Progress) (q : Packed) → map row_packed (placed at (outcome_of p)) ≡ Ok q
    → (p.fault ≡ 0) × (q ≡ record { bytes = p.bytes; records = p.records })
unfolding outcome_of
row-full at p q =
    cond-eqb (λ o. map row_packed (placed at o) ≡ Ok q
    → (p.fault ≡ 0) × (q ≡ record { bytes = p.bytes; records = p.records }))
    p.fault 0 (λ e is. (e, cc)) (λ e is. let z : ◌≡◌ {A = ℕ} 0 1 = cc in absurd (omega arith))

row-stopped : (at : ℕ) (p : Progress) (why : Refusal) → map row_packed (placed at (outcome_of p)) ≡ Err why
    → (p.fault ≡ 0 → ⊥) × (why ≡ row_refusal p.fault (at + p.bytes) 0 (length p.made))
unfolding outcome_of
row-stopped at p why =
    cond-eqb (λ o. map row_packed (placed at o) ≡ Err why
    → (p.fault ≡ 0 → ⊥) × (why ≡ row_refusal p.fault (at + p.bytes) 0 (length p.made)))
    p.fault 0 (λ e is. let z : ◌≡◌ {A = ℕ} 0 1 = cc in absurd (omega arith)) (λ e is. (e, cc))

rows-done : (p : RowsProgress) → p.fault ≡ 0 → rows_outcome p ≡ done_rows p.bytes p.records p.rows
unfolding rows_outcome
rows-done p e = simp (eq-eqb p.fault 0 e)

rows-stopped : (p : RowsProgress) → (p.fault ≡ 0 → ⊥) → rows_outcome p ≡ Err (rows_fault p)
unfolding rows_outcome
rows-stopped p e = simp (ne_eqb p.fault 0 e)

-- ---- the loop

pub record Filling (file : List ℕ) (at rows width : ℕ) (out₀ : List ℕ) (end : ℕ) (out : List ℕ)
    (from to room records : ℕ) : Type 0 where
  pub fit : RowsFit rows width (length out₀)
  pub size : end ≡ rows * width
  pub kept : length out ≡ length out₀
  pub read : RowsRead file at rows width out from to room records
  pub under : 0 < room

pub filling-start : (file : List ℕ) (at rows width : ℕ) (out : List ℕ) → RowsFit rows width (length out)
    → Filling file at rows width out (rows * width) out at 0 width 0
filling-start file at rows width out fit =
    record { fit = fit; size = refl; kept = refl; read = read_none file at rows width out; under = fit.some }

module _ {file : List ℕ} {at rows width : ℕ} {out₀ : List ℕ} {end : ℕ} {out : List ℕ} {from to room records : ℕ}
    (f : Filling file at rows width out₀ end out from to room records) where
  -- the same once more is read
  pub filling-ahead : {next : List ℕ} {from' to' room' records' : ℕ} → length next ≡ length out
      → RowsRead file at rows width next from' to' room' records' → 0 < room'
      → Filling file at rows width out₀ end next from' to' room' records'
  filling-ahead kept read under =
      record { fit = f.fit; size = f.size; kept = kept ∙ f.kept; read = read; under = under }

  abbrev whole : RowsProgress
  whole = rows_progress rows width (drop at file)

  -- the answer that ends the loop, and the output then
  abbrev Answered : List ℕ → Outcome Packed → Type 0
  Answered next o =
      (o ≡ map rows_packed (unpack_rows_at file at width rows)) × Begins (flatten (whole_rows file at rows width)) next

  pub fill_end : end ≤ to → Answered out (Ok (record { bytes = from - at; records = records }))
  fill_end h =
      let e = read_all f.read f.under (omega (arith, f.size)) in
      let bytes : whole.bytes ≡ from - at = omega (arith, e.2) in (
        sym (ap (λ (o : Outcome Rows). map rows_packed (placed at o)) (rows-done whole e.1)
            ∙ ap₂ (λ (b n : ℕ). map rows_packed (done_rows b n whole.rows)) bytes e.3),
        subst (λ (l : List (List ℕ)). Begins (flatten l) out) (sym e.0) (begins f.read out refl),
      )

  module _ (more : to < end) where
    before-end : to < rows * width
    before-end = omega (arith, f.size)

    pub part-within : to + room ≤ length out
    part-within = omega (arith, row_within f.read before-end, f.fit.size, f.kept)

    -- the part that is lent
    abbrev part : List ℕ
    part = take (to + room - to) (drop to out)

    part-long : length part ≡ room
    part-long =
        length-take-le (to + room - to) (drop to out) (omega (arith, length-drop to out, part-within)) ∙ omega arith

    abbrev p : Progress
    p = progress (drop from file) room

    -- what unpacking the row under way gives
    abbrev given : Outcome Packed
    given = map row_packed (unpack_at file from (length part))

    given-is : given ≡ map row_packed (placed from (outcome_of p))
    given-is = ap (λ (k : ℕ). map row_packed (unpack_at file from k)) part-long

    -- the row is full
    module _ (q : Packed) (is : given ≡ Ok q) where
      full : (p.fault ≡ 0) × (q ≡ record { bytes = p.bytes; records = p.records })
      full = row-full from p q (sym given-is ∙ is)

      pub turn-bounds : (q.bytes ≤ length file - from) × (q.records ≤ q.bytes)
      turn-bounds =
          let b = bounded (drop from file) room in
          let bytes : q.bytes ≡ p.bytes = ap (λ (x : Packed). x.bytes) full.1 in
          let records : q.records ≡ p.records = ap (λ (x : Packed). x.records) full.1 in
          (omega (arith, b.used, length-drop from file), omega (arith, b.counted))

      pub fill-turn : (last : List ℕ) → last ≡ over (progress (drop from file) (length part)).made part
          → length last ≡ length part
          → Filling file at rows width out₀ end (put_mid to (to + room - to) out last) (from + q.bytes) (to + room)
          width (records + q.records)
      fill-turn last e long =
          let made : last ≡ over p.made part =
          e ∙ ap (λ (k : ℕ). over (progress (drop from file) k).made part) part-long in
          let front : take room last ≡ p.made =
          ap (take room) made ∙ take_at p.made _ room ((bounded (drop from file) room).full full.0) in
          let next : List ℕ = put_mid to (to + room - to) out last in
          let written =
          front-more out last to (to + room - to) room (omega (arith, part-within)) (omega (arith, long, part-long))
          ∙ ap (λ (l : List ℕ). take to out ++ l) front in
          record {
            fit = f.fit;
            size = f.size;
            kept = same_len_mid to (to + room - to) out last long ∙ f.kept;
            read =
                subst (λ (b : Packed). RowsRead file at rows width next (from + b.bytes) (to + room) width
                (records + b.records))
                (sym full.1) (row-turn f.read before-end full.0 next written);
            under = f.fit.some;
          }

    -- it stopped
    module _ (why : Refusal) (is : given ≡ Err why) where
      stopped : (p.fault ≡ 0 → ⊥) × (why ≡ row_refusal p.fault (from + p.bytes) 0 (length p.made))
      stopped = row-stopped from p why (sym given-is ∙ is)

      good-is : why.good_bytes ≡ length p.made
      good-is = ap (λ (x : Refusal). x.good_bytes) stopped.1

      pub good-fits : (0 < width) × (room ≤ width) × (why.good_bytes ≤ room)
      good-fits =
          (f.fit.some, omega (arith, f.read.row), omega (arith, good-is, (bounded (drop from file) room).fits))

      pub fill_stop : (last : List ℕ) → length last ≡ length part
          → Answered (put_mid to (to + room - to) out last)
          (Err (row_refusal why.number why.place (to / width) (width - room + why.good_bytes)))
      fill_stop last long =
          let e = row-stop f.read before-end stopped.0 in
          let number : why.number ≡ whole.fault = ap (λ (x : Refusal). x.number) stopped.1 ∙ sym e.2 in
          let place : why.place ≡ at + whole.bytes = ap (λ (x : Refusal). x.place) stopped.1 ∙ sym e.3 in
          let row : to / width ≡ length whole.rows =
          ap (λ (k : ℕ). k / width) f.read.place
          ∙ digits_div (length f.read.full) (omega (arith, f.read.row, f.under))
          ∙ sym (ap length e.0) in
          let good : width - room + why.good_bytes ≡ length whole.begun =
          omega (arith, f.read.row, good-is, ap length e.1, length-append f.read.begun p.made) in (
            rw (number, place, row, good)
                (sym (ap (λ (o : Outcome Rows). map rows_packed (placed at o))
                (rows-stopped whole (λ z. stopped.0 (sym e.2 ∙ z))))),
            subst (λ (l : List (List ℕ)). Begins (flatten l) (put_mid to (to + room - to) out last)) (sym e.0)
                (begins f.read _ (take_put to (to + room - to) out last (omega (arith, part-within)))),
          )
