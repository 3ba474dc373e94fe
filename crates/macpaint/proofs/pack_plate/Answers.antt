-- `macpaint::pack_plate` meets its contract: an accepted body is below the limit, and the output has room.
use Rattle.std.proofs.Common.{rules}
use Rattle.macpaint.proofs.WritePlate.{packed-below}
use Rattle.macpaint.proofs.pack_plate.Goals as goal

pub returns : goal.returns
returns c =
    let a = c.args in
    record {
      answer = search rules;
      out = search rules;
      bytes = packed-below a.plate.now a.out.now (search rules);
    }
