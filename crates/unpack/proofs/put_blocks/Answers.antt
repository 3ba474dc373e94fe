-- `unpack::put_blocks`: each run is long enough.
use native.Mathlib.Omega.{arith}
use Rattle.unpack.proofs.Front.{front-run}
use Rattle.unpack.proofs.put_blocks.Goals as goal

pub returns-then-n-le16 : goal.returns-then-n-le16
returns-then-n-le16 c = front-run c.args.byte c.args.out.now _ c.args.n 16 (omega arith) c.put_block.ensures

pub returns-then-n-le32 : goal.returns-then-n-le32
returns-then-n-le32 c = front-run c.args.byte c.args.out.now _ c.args.n 32 (omega arith) c.put_block-then-n-le32.ensures

pub returns-else-n-le32 : goal.returns-else-n-le32
returns-else-n-le32 c = front-run c.args.byte c.args.out.now _ c.args.n 128 (omega arith) c.put_block-else-n-le32.ensures
