-- `bodies::body_too_long`: each row's saving taken off the most that the body can have.
use mathlib.Core.Path.{sym, ap}
use Prim.Native.Nat.{◌+◌, ◌-◌, ◌≤◌}
use native.Mathlib.Omega.{arith}
use borrow.Author.Rules.{rules}
use borrow.Author.Tests.{lt-leb}
use lib.ListN.{length}
use lib.Dec.{leb}
use Rattle.raster.specs.Shape.{row_bytes}
use Rattle.raster.specs.PlaneRows.{plane_rows}
use Rattle.bodies.specs.Packing.{least_body}
use Rattle.bodies.proofs.LeastRows.{Most, row-longest, most-start, most-bound, most-row, most-turn, most-end}
use Rattle.bodies.proofs.PlaneRow.{plane-rows}
use Rattle.bodies.proofs.body_too_long.Goals as goal
use Rattle.bodies.proofs.body_too_long.Goals.{After-least_row_len}

module _ (c : After-least_row_len) where
  -- the row's length, at most one byte more than the row
  longest : c.least_row_len.result ≤ c.row_bytes-longest.result + 1
  longest =
      let more = rw c.rows-rows.ensures.value at c.loop-n-test.true in
      rw (c.least_row_len.ensures, c.row_bytes-longest.ensures.value)
      (row-longest (plane-rows c.args.area.now c.args.r) more)

  -- it is measured
  measured : let saved = c.row_bytes-longest.result + 1 - c.least_row_len.result in
      Most (plane_rows c.args.area.now c.args.r) (row_bytes c.args.r) (c.loop-n.n + 1) (c.loop-n.most - saved)
  measured =
      let more = rw c.rows-rows.ensures.value at c.loop-n-test.true in
      rw (c.row_bytes-longest.ensures.value, c.least_row_len.ensures)
      (most-turn (plane-rows c.args.area.now c.args.r) c.loop-n.invariant.1 more)

pub loop-n-init : goal.loop-n-init
loop-n-init c =
    let room = c.requires in (
      record { range = room.range; full = room.full; width = room.width },
      rw (c.rows-rows.ensures.value, c.row_bytes-longest.ensures.value)
          (most-start (plane-rows c.args.area.now c.args.r)),
    )

pub overflow_sub-most : goal.overflow_sub-most
overflow_sub-most c = longest (goal.at.overflow_sub-most c).After-least_row_len

pub overflow_sub-most-in-loop-n : goal.overflow_sub-most-in-loop-n
overflow_sub-most-in-loop-n c =
    let more = rw c.rows-rows.ensures.value at c.loop-n-test.true in
    let counted : c.row_bytes-longest.result + 1 ≤ c.loop-n.most =
    rw c.row_bytes-longest.ensures.value (most-row (plane-rows c.args.area.now c.args.r) c.loop-n.invariant.1 more) in
    omega (arith, counted)

pub returns-then-most-limit : goal.returns-then-most-limit
returns-then-most-limit c =
    let m = measured (goal.at.returns-then-most-limit c).After-least_row_len in
    let bound = most-bound (plane-rows c.args.area.now c.args.r) m in
    sym (lt-leb c.args.limit (length (least_body c.args.r c.args.area.now)) (omega (arith, bound, c.if-most-limit.true)))

pub loop-n-preserved : goal.loop-n-preserved
loop-n-preserved c =
    let room = c.loop-n.invariant.0 in (
      record { range = room.range; full = room.full; width = search rules },
      measured (goal.at.loop-n-preserved c).After-least_row_len,
    )

pub returns : goal.returns
returns c =
    let e = most-end (plane-rows c.args.area.now c.args.r) c.loop-n.invariant.1
    (rw c.rows-rows.ensures.value at c.loop-n-test.false) in
    ap (leb c.args.limit) e
