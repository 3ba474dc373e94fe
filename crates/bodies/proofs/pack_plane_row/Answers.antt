-- `bodies::pack_plane_row`: the buffer is the plane row.
use lib.ListN.{length}
use Rattle.bodies.proofs.PlaneRow.{taken-pack_into}
use Rattle.bodies.proofs.pack_plane_row.Goals as goal

pub returns : goal.returns
returns c =
    let room = c.requires.row_room in
    let packed = taken-pack_into room.0 c.args.n room.1 (length c.args.out.now) c.requires.n_in_bounds in
    let e = rw (c.take_row.ensures, packed) at c.pack_into.ensures in
    record { answer = e.value; out = e.out_after }
