-- `unpack::put_short`: the eight bytes copied begin with those of the literal.
use native.Mathlib.Omega.{arith}
use Rattle.unpack.proofs.Records.{front-literal}
use Rattle.unpack.proofs.put_short.Goals as goal

pub returns-in-Literal : goal.returns-in-Literal
returns-in-Literal c =
    let a = c.args in
    front-literal a.file.now a.out.now _ a.at a.r c.in-Literal.field-0 c.in-Literal.is c.requires.r_value.0
    (omega arith) c.put_eight.ensures
