-- `unpack::fill_rows`: rows ahead, and then the row under way, in turn.
use mathlib.Core.Path.{sym, ◌∙◌}
use Prim.Native.Nat.{◌*◌, ◌<◌}
use native.Mathlib.Omega.{arith}
use Rattle.unpack.proofs.Filling.{Filling, filling-start, filling-ahead, part-within, turn-bounds, fill-turn}
use Rattle.unpack.proofs.Filling.{good-fits, fill_stop, fill_end}
use Rattle.unpack.proofs.fill_rows.Goals as goal
use Rattle.unpack.proofs.fill_rows.Goals.{After-unpack_ahead-ahead, In-Ok, In-Err}

-- once unpacking went ahead
module _ (c : After-unpack_ahead-ahead) where
  here : let s = c.unpack_ahead-ahead.result in
      Filling c.args.file.now c.args.at c.args.rows c.args.width c.args.out.now (c.args.rows * c.args.width)
      c.unpack_ahead-ahead.new.out s.from s.to s.room s.records
  here =
      let e = c.unpack_ahead-ahead in
      filling-ahead c.loop-reached.invariant e.auto.out e.ensures.rows_read_2 e.ensures.room_nonzero_2.0

  more : c.unpack_ahead-ahead.result.to < c.args.rows * c.args.width
  more = c.unpack_ahead-ahead.ensures.room_nonzero_2.1

pub loop-reached-init : goal.loop-reached-init
loop-reached-init c =
    filling-start c.args.file.now c.args.at c.args.rows c.args.width c.args.out.now
    record { some = c.requires.some; narrow = c.requires.narrow; size = c.requires.size }

pub slice_bounds-unpack_into-end : goal.slice_bounds-unpack_into-end
slice_bounds-unpack_into-end c =
    let u = (goal.at.slice_bounds-unpack_into-end c).After-unpack_ahead-ahead in
    part-within (here u) (more u)

pub refused_in_rows-requires : goal.refused_in_rows-requires
refused_in_rows-requires c =
    let u = (goal.at.refused_in_rows-requires c).After-unpack_ahead-ahead in
    good-fits (here u) (more u) c.in-Err.why (sym c.unpack_into.ensures.answer ∙ c.in-Err.is)

pub returns-in-Err : goal.returns-in-Err
returns-in-Err c =
    let u = (goal.at.returns-in-Err c).After-unpack_ahead-ahead in
    let e = fill_stop (here u) (more u) c.in-Err.why (sym c.unpack_into.ensures.answer ∙ c.in-Err.is)
    c.unpack_into.new.out c.unpack_into.auto.out in
    record { value = rw c.refused_in_rows.ensures e.0; begins = e.1 }

pub overflow_add-reached : goal.overflow_add-reached
overflow_add-reached c =
    let u = (goal.at.overflow_add-reached c).After-unpack_ahead-ahead in
    let b = turn-bounds (here u) (more u) c.in-Ok.row (sym c.unpack_into.ensures.answer ∙ c.in-Ok.is) in
    omega (arith, b.0, (here u).read.inside)

pub overflow_add-reached-in-loop-reached : goal.overflow_add-reached-in-loop-reached
overflow_add-reached-in-loop-reached c =
    let u = (goal.at.overflow_add-reached-in-loop-reached c).After-unpack_ahead-ahead in
    let b = turn-bounds (here u) (more u) c.in-Ok.row (sym c.unpack_into.ensures.answer ∙ c.in-Ok.is) in
    omega (arith, b.0, b.1, (here u).read.inside, (here u).read.counted)

pub loop-reached-preserved : goal.loop-reached-preserved
loop-reached-preserved c =
    let u = (goal.at.loop-reached-preserved c).After-unpack_ahead-ahead in
    fill-turn (here u) (more u) c.in-Ok.row (sym c.unpack_into.ensures.answer ∙ c.in-Ok.is) _
    c.unpack_into.ensures.row c.unpack_into.auto.out

pub returns : goal.returns
returns c =
    let e = fill_end c.loop-reached.invariant (omega arith) in
    record { value = e.0; begins = e.1 }
