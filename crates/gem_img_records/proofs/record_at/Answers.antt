use native.Mathlib.Omega.{arith}
use Rattle.gem_img_records.proofs.Records.{record-read}
use Rattle.gem_img_records.proofs.record_at.Goals as goal

pub returns : goal.returns
returns c =
    let a = c.args in
    record-read a.file.now a.at _ _ _ _ (omega arith) c.byte_at.ensures c.saturating_add.ensures c.byte_at-2.ensures
    c.control.ensures
