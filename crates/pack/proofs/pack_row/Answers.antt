-- `pack::pack_row`: a room for the longest body holds the row's.
use mathlib.Core.Path.{sym, ◌∙◌}
use native.Mathlib.Omega.{arith}
use lib.ListN.{length}
use Rattle.pack.proofs.Pack.{pack-into-row}
use Rattle.pack.proofs.pack_row.Goals as goal

pub returns : goal.returns
returns c =
    let w = sym c.width_out_of_range.ensures ∙ c.if-width_out_of_range.false in
    rw (← pack-into-row c.args.row.now (length c.args.out.now) w (omega arith)) c.pack_into.ensures
