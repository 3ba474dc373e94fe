use Rattle.std.proofs.Common.{◌∙◌}
use Rattle.tally.proofs.Blocks.{reversed-present}
use Rattle.tally.proofs.block_at.Goals as goal

pub returns : goal.returns
returns g c =
    rw (
      c.plane_block.ensures,
      c.present_plane.ensures ∙ reversed-present _ _,
      c.present_plane-2.ensures ∙ reversed-present _ _,
      c.present_plane-3.ensures ∙ reversed-present _ _,
    )
