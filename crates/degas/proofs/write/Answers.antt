-- `degas::write` meets its contract: a writing that is judged has its lengths and its resolution.
use Rattle.std.proofs.Common.{◌∙◌, sym, length}
use Rattle.picture.proofs.Writing.{judge_writing-passed}
use Rattle.degas.proofs.write.Goals as goal

pub write_form-requires : goal.write_form-requires
write_form-requires c =
    let a = c.args in
    let p =
    judge_writing-passed (length a.screen.now) (length a.out.now) a.picture.resolution _
    (sym c.judge_writing.ensures ∙ c.in_ok-r.was) in
    record {
      resolution_value = p.known;
      screen_bytes_in_bounds = p.screen-fits;
      file_bytes_in_bounds = p.output-fits;
    }
