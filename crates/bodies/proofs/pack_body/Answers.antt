-- `bodies::pack_body`: each test picks a case of `pack_body`.
use mathlib.Core.Path.{◌≡◌, refl, sym, ◌∙◌}
use mathlib.Core.Bool.{false}
use Prim.Native.Nat.{◌+◌, ◌-◌, ◌≤◌}
use native.Mathlib.Omega.{arith}
use lib.ListN.{length}
use borrow.Author.Rules.{rules}
use borrow.Author.Tests.{ltb-true, ltb-false}
use Rattle.packbits.specs.Row.{width_out_of_range}
use Rattle.raster.specs.Shape.{row_bytes, bytes}
use Rattle.bodies.specs.Packing.{below_limit}
use Rattle.bodies.proofs.JudgeRaster.{judge-fits}
use Rattle.bodies.proofs.Packing.{pack-refused, pack-no-room, pack-room, part-packed}
use Rattle.bodies.proofs.pack_body.Goals as goal
use Rattle.bodies.proofs.pack_body.Goals.{In_ok-judge_raster}

-- past the first test the raster's rows are in range, and the area holds it
fits : (c : In_ok-judge_raster)
    → (width_out_of_range (row_bytes c.args.r) ≡ false) × (bytes c.args.r ≤ length c.args.area.now)
fits c = judge-fits c.args.r (length c.args.area.now) _ (sym c.judge_raster.ensures ∙ c.in_ok-judge_raster.was)

pub returns-in_err-judge_raster : goal.returns-in_err-judge_raster
returns-in_err-judge_raster c =
    let a = c.args in
    let is = pack-refused a.r a.area.now a.limit a.at (length a.out.now) _
    (sym c.judge_raster.ensures ∙ c.in_err-judge_raster.was) in
    record { answer = rw is (search rules); out = rw is refl }

pub returns-then-out_too_short : goal.returns-then-out_too_short
returns-then-out_too_short c =
    let a = c.args in
    let f = fits (goal.at.returns-then-out_too_short c).In_ok-judge_raster in
    let h = ltb-true (length a.out.now) (a.at + (a.limit - 1)) (sym c.out_too_short.ensures ∙ c.if-out_too_short.true) in
    let is = pack-no-room a.r a.area.now a.limit a.at (length a.out.now) f.0 f.1 h in
    rw (is, c.refuse.ensures) (record { answer = refl; out = refl })

pub returns : goal.returns
returns c =
    let a = c.args in
    let out = a.out.now in
    let f = fits (goal.at.returns c).In_ok-judge_raster in
    let h = ltb-false (length out) (a.at + (a.limit - 1)) (sym c.out_too_short.ensures ∙ c.if-out_too_short.false) in
    let put =
    part-packed (below_limit a.r a.area.now a.limit) a.at out _ (omega (arith, h)) c.pack_below.ensures.out in
    rw (pack-room a.r a.area.now a.limit a.at (length out) f.0 f.1 h)
    (record { answer = c.pack_below.ensures.answer; out = put })
