use Rattle.std.proofs.Common.{sym, ◌∙◌, ap, arith, ◌≡◌}
use Rattle.lists.specs.All.{all_below}
use Rattle.lists.proofs.All.{all_below-start, all_below-fails, all_below-passes}
use Rattle.legend.specs.Entries.{entries, legend_fits}
use Rattle.legend.proofs.legend_fits.Invariants.{fits}
use Rattle.legend.proofs.legend_fits.Goals.{then-not-entry_fits, else-not-entry_fits}
use Rattle.legend.proofs.legend_fits.Goals as goal

pub loop-v-init : goal.loop-v-init
loop-v-init c = all_below-start _

pub loop-v-preserved : goal.loop-v-preserved
loop-v-preserved c =
    let l = c.loop-v in
    let e = c.entry_fits.ensures in
    elim c.if-not-entry_fits.branch [
      | then-not-entry_fits w ↦ w.fit-is ∙ all_below-fails _ l.v (sym e ∙ w.if-not-entry_fits.true)
      | else-not-entry_fits w ↦ w.fit-is
          ∙ all_below-passes _ l.v l.fit (sym e ∙ w.if-not-entry_fits.false) l.invariant
    ]

pub returns : goal.returns
unfolding legend_fits
returns c =
    let l = c.loop-v in
    let e : l.v ≡ entries = omega arith in
    l.invariant ∙ ap (λ n. all_below n (fits c.args.legend)) e
