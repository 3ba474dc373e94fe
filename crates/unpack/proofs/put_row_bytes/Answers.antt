-- `unpack::put_row_bytes`: what a literal makes is what was copied.
use mathlib.Core.Path.{◌∙◌, subst}
use Prim.Native.Nat.{◌+◌, ◌≤◌}
use native.Mathlib.Omega.{arith}
use lib.ListN.{length}
use Rattle.packbits.specs.declared.Record.{Record}
use Rattle.packbits.specs.Records.{packed_len, row_len}
use Rattle.unpack.proofs.Records.{put-literal}
use Rattle.unpack.proofs.put_row_bytes.Goals as goal

pub returns-in-Literal : goal.returns-in-Literal
returns-in-Literal c =
    let a = c.args in
    let there = subst (λ (r : Record). a.at + packed_len r ≤ length a.file.now) c.in-Literal.is c.requires.r_in_bounds in
    let room = subst (λ (r : Record). row_len r ≤ length a.out.now) c.in-Literal.is c.requires.r_in_bounds_2 in
    c.put_part.ensures.fits (omega (arith, there)) (omega (arith, room))
    ∙ put-literal a.file.now a.out.now a.at a.r c.in-Literal.n c.in-Literal.is
