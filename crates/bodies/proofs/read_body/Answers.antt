-- `bodies::read_body`: each test picks a case of `read_into`.
use mathlib.Core.Path.{◌≡◌, refl, sym, ◌∙◌}
use mathlib.Core.Bool.{false}
use Prim.Native.Nat.{◌≤◌}
use native.Mathlib.Omega.{arith}
use lib.ListN.{length}
use borrow.Author.Rules.{rules}
use borrow.Author.Tests.{eqb-true, eqb-false}
use Rattle.packbits.specs.Row.{width_out_of_range}
use Rattle.raster.specs.Shape.{row_bytes, bytes}
use Rattle.bodies.proofs.JudgeRaster.{judge-fits}
use Rattle.bodies.proofs.Reading.{into-fits, body-refused, body-there, body-wrong, body-done}
use Rattle.bodies.proofs.Unpacking.{rows_fit}
use Rattle.bodies.proofs.read_body.Goals as goal
use Rattle.bodies.proofs.read_body.Goals.{In_ok-judge_raster}

-- past the first test the raster's rows are in range, and the buffer holds it
fits : (c : In_ok-judge_raster) → (width_out_of_range (row_bytes c.args.r) ≡ false) × (bytes c.args.r ≤ length c.args.buffer.now)
fits c = judge-fits c.args.r (length c.args.buffer.now) _ (sym c.judge_raster.ensures ∙ c.in_ok-judge_raster.was)

pub unpack_body-requires : goal.unpack_body-requires
unpack_body-requires c =
    let f = fits (goal.at.unpack_body-requires c).In_ok-judge_raster in
    rows_fit c.args.r (length c.args.buffer.now) f.0 f.1

pub returns-in_err-unpacked : goal.returns-in_err-unpacked
returns-in_err-unpacked c =
    let a = c.args in
    let f = fits (goal.at.returns-in_err-unpacked c).In_ok-judge_raster in
    let room = rw c.bytes.ensures.value at c.if-area-bytes.false in
    let is =
    into-fits a.file.now a.at a.after a.r (length a.buffer.now) (length a.area.now) f.0 f.1 room
    ∙ body-refused a.file.now a.at a.after a.r _ (sym c.unpack_body.ensures.answer ∙ c.in_err-unpacked.was) in
    record { answer = rw is (search rules); area = rw is refl }

pub overflow_add-end : goal.overflow_add-end
overflow_add-end c =
    let a = c.args in
    let there = body-there a.file.now a.at a.after a.r _ (sym c.unpack_body.ensures.answer ∙ c.in_ok-unpacked.was) in
    omega (arith, there)

pub returns-then-not-ends_after : goal.returns-then-not-ends_after
returns-then-not-ends_after c =
    let a = c.args in
    let f = fits (goal.at.returns-then-not-ends_after c).In_ok-judge_raster in
    let room = rw c.bytes.ensures.value at c.if-area-bytes.false in
    let wrong = sym c.ends_after.ensures ∙ c.if-not-ends_after.true in
    let is =
    into-fits a.file.now a.at a.after a.r (length a.buffer.now) (length a.area.now) f.0 f.1 room
    ∙ body-wrong a.file.now a.at a.after a.r _ (sym c.unpack_body.ensures.answer ∙ c.in_ok-unpacked.was)
    (eqb-false (length a.file.now) _ wrong) in
    rw (is, c.refuse_at.ensures) (record { answer = refl; area = refl })

pub returns : goal.returns
returns c =
    let a = c.args in
    let f = fits (goal.at.returns c).In_ok-judge_raster in
    let room = rw c.bytes.ensures.value at c.if-area-bytes.false in
    let right = sym c.ends_after.ensures ∙ c.if-not-ends_after.false in
    let d =
    body-done a.file.now a.at a.after a.r _ (sym c.unpack_body.ensures.answer ∙ c.in_ok-unpacked.was)
    (eqb-true (length a.file.now) _ right) c.unpack_body.new.buffer a.area.now c.unpack_body.ensures.buffer
    (omega (arith, f.1, c.unpack_body.auto.buffer)) room in
    rw (into-fits a.file.now a.at a.after a.r (length a.buffer.now) (length a.area.now) f.0 f.1 room)
    (record { answer = d.0; area = c.put_rows.ensures ∙ d.1 })
