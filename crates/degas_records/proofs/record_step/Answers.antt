-- `degas_records::record_step` meets its contract: a whole record ends in the file, and fits the row.
use Rattle.std.proofs.Common.{◌∙◌, sym, arith}
use Rattle.packbits.proofs.Records.{whole-none, whole-at}
use Rattle.degas_records.proofs.record_step.Goals as goal

pub moved_over-requires : goal.moved_over-requires
moved_over-requires c =
    let a = c.args in
    let r = c.record_at-r.result in
    let whole = whole-none r (sym c.fault_of.ensures ∙ c.in-None.is) in
    let w = whole-at a.file.now a.cursor.offset _ r c.record_at-r.ensures whole in
    record {
      r_bound = omega (arith, w.has);
      plane_row_bound = omega arith;
      r_bound_2 = omega (arith, w.fits);
    }
