use Rattle.std.proofs.Common.{◌∙◌, ℕ, ◌+◌, ◌-◌, ◌*◌, arith}
use borrow.Rule.Slice.PartMut.{same_len_mid}
use Rattle.lists.proofs.Over.{over_done}
use Rattle.raster.proofs.Interleave.{length-interleaved, interleave-turn}
use Rattle.raster.proofs.putting.interleave_two.Goals as goal

pub loop-k-preserved : goal.loop-k-preserved
loop-k-preserved c =
    let l = c.loop-k in
    let a = c.args in
    let put = c.copy_from_slice in
    let room : ℕ = l.k * 16 + 16 - l.k * 16 in (
      same_len_mid (l.k * 16) room l.out put.new.self put.auto.self ∙ l.invariant.0,
      interleave-turn a.source.now a.at a.gap a.eights a.out.now l.out put.new.self l.k room (omega arith) l.invariant.1
          (put.ensures.after ∙ c.interleaved_eight-interleaved.ensures) (omega arith),
    )

pub returns : goal.returns
returns c =
    let l = c.loop-k in
    let a = c.args in
    over_done _ _ l.out (l.k * 16)
    (omega (arith, length-interleaved a.source.now a.at 2 a.gap (a.eights * 16))) l.invariant.1
