-- `unpack::unpack_ahead`: a turn keeps `Ahead`, and where the row is full the next one may end too near the end.
use mathlib.Core.Path.{sym, ◌∙◌}
use native.Mathlib.Omega.{arith}
use Rattle.unpack.proofs.Ahead.{here, tail-long, narrow-here, ahead_more, ahead-row, outcome-row}
use Rattle.unpack.proofs.unpack_ahead.Goals as goal
use Rattle.unpack.proofs.unpack_ahead.Goals.{After-is_long}

pub put_short-requires-clause-r_bound : goal.put_short-requires-clause-r_bound
put_short-requires-clause-r_bound c =
    let small = sym c.is_long.ensures ∙ c.if-is_long.false in
    let i = c.loop-next.invariant in
    (narrow-here i c.record_ahead-r.result c.record_ahead-r.ensures small, tail-long i)

pub overflow_sub-next : goal.overflow_sub-next
overflow_sub-next c =
    let small = sym c.is_long.ensures ∙ c.if-is_long.false in
    let w = here c.loop-next.invariant c.record_ahead-r.result c.record_ahead-r.ensures small in
    omega (arith, w.fits, c.row_len-in-loop-next.ensures)

pub returns-then-last_row-next : goal.returns-then-last_row-next
returns-then-last_row-next c =
    let small = sym c.is_long.ensures ∙ c.if-is_long.false in
    let e = outcome-row c.loop-next.invariant c.record_ahead-r.result c.record_ahead-r.ensures small _ c.put_short.ensures
    c.put_short.auto.out c.packed_len.ensures c.row_len.ensures c.row_len-in-loop-next.ensures c.if-next-eq0.true in
    record { rows_read_2 = e.0; room_nonzero_2 = e.1 }

pub loop-next-preserved-else-last_row-next : goal.loop-next-preserved-else-last_row-next
loop-next-preserved-else-last_row-next c =
    let small = sym c.is_long.ensures ∙ c.if-is_long.false in
    ahead-row c.loop-next.invariant c.record_ahead-r.result c.record_ahead-r.ensures small _ c.put_short.ensures
    c.put_short.auto.out c.packed_len.ensures c.row_len.ensures c.row_len-in-loop-next.ensures c.if-next-eq0.true
    c.if-last_row-next.false

pub loop-next-preserved : goal.loop-next-preserved
loop-next-preserved c =
    let small = sym c.is_long.ensures ∙ c.if-is_long.false in
    ahead_more c.loop-next.invariant c.record_ahead-r.result c.record_ahead-r.ensures small _ c.put_short.ensures
    c.put_short.auto.out c.packed_len.ensures c.row_len.ensures c.row_len-in-loop-next.ensures c.if-next-eq0.false
