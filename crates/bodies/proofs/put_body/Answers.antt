-- `bodies::put_body`: row after row.
use mathlib.Core.Path.{◌≡◌, refl, sym, ap, ◌∙◌}
use Prim.Native.Nat.{◌≤◌, ◌<◌}
use native.Mathlib.Omega.{arith}
use borrow.Author.Rules.{rules}
use lib.ListN.{length}
use Rattle.outcome.specs.Outcome.{Outcome, later}
use Rattle.packbits.specs.declared.Packed.{Packed}
use Rattle.packbits.proofs.Row.{in-range}
use Rattle.pack.specs.Least.{least, least_records}
use Rattle.raster.specs.Shape.{row_bytes, rows}
use Rattle.raster.specs.PlaneRows.{plane_row}
use Rattle.bodies.proofs.LeastRows.{row_room, row-bounds, row_written, rows_end}
use Rattle.bodies.proofs.PlaneRow.{plane-rows}
use Rattle.bodies.proofs.put_body.Goals as goal
use Rattle.bodies.proofs.put_body.Goals.{In-loop-n, After-unwrap-packed}

-- a row is at most 128 bytes wide, and row n is to come
module _ (c : In-loop-n) where
  narrow : row_bytes c.args.r ≤ 128
  narrow = (in-range _ c.requires.row_room.range).1

  more : c.loop-n.n < rows c.args.r
  more = rw c.rows-n-end.ensures.value at c.loop-n-test.true

-- what its body gives
given : (c : After-unwrap-packed) → let row = plane_row c.args.area.now c.args.r c.loop-n.n in
    c.unwrap-packed.result ≡ record { bytes = length (least row); records = least_records row }
given c =
    let row = plane_row c.args.area.now c.args.r c.loop-n.n in
    let value : Packed = record { bytes = length (least row); records = least_records row } in
    ap (λ (o : Outcome Packed). later o (λ p. p) value) (sym c.unwrap-packed.ensures ∙ c.pack_plane_row.ensures.answer)

pub pack_plane_row-requires : goal.pack_plane_row-requires
pack_plane_row-requires c =
    let i = (goal.at.pack_plane_row-requires c).In-loop-n in
    let list = plane-rows c.args.area.now c.args.r in
    record {
      row_room = (c.loop-n.invariant.0, more i);
      n_in_bounds = row_room list (narrow i) c.requires.area_in_bounds c.loop-n.invariant.1 (more i);
    }

pub overflow_add-records : goal.overflow_add-records
overflow_add-records c =
    let i = (goal.at.overflow_add-records c).In-loop-n in
    let g = given (goal.at.overflow_add-records c).After-unwrap-packed in
    let list = plane-rows c.args.area.now c.args.r in
    let b = row-bounds list (narrow i) c.requires.area_in_bounds c.loop-n.invariant.1 (more i) in
    let w = c.loop-n.invariant.1 in
    omega (arith, w.bound, w.few, b.0, b.1, more i, c.rows-n-end.ensures, ap (λ (p : Packed). p.records) g)

pub loop-n-preserved : goal.loop-n-preserved
loop-n-preserved c =
    let i = (goal.at.loop-n-preserved c).In-loop-n in
    let g = given (goal.at.loop-n-preserved c).After-unwrap-packed in
    let room = c.loop-n.invariant.0 in
    let list = plane-rows c.args.area.now c.args.r in (
      record { range = room.range; full = room.full; width = search rules },
      rw g (row_written list (narrow i) c.requires.area_in_bounds c.loop-n.invariant.1 (more i) _
          c.pack_plane_row.ensures.out),
    )

pub returns : goal.returns
returns c =
    let past = rw c.rows-n-end.ensures.value at c.loop-n-test.false in
    let w = rows_end (plane-rows c.args.area.now c.args.r) c.loop-n.invariant.1 past in
    record { answer = rw (w.0.0, w.0.1) refl; out = w.1 }
