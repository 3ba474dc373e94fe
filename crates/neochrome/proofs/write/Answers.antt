use Rattle.std.proofs.Common.{length, ◌∙◌, sym}
use Rattle.picture.proofs.Writing.{judge_writing-passed}
use Rattle.neochrome.proofs.write.Goals as goal

pub put_file-requires-clause-screen_bytes_in_bounds : goal.put_file-requires-clause-screen_bytes_in_bounds
put_file-requires-clause-screen_bytes_in_bounds c =
    (judge_writing-passed (length c.args.screen.now) (length c.args.out.now) c.args.picture.resolution _
    (sym c.judge_writing.ensures ∙ c.in_ok-judge_writing.was)).screen-fits

pub put_file-requires-clause-file_bytes_in_bounds : goal.put_file-requires-clause-file_bytes_in_bounds
put_file-requires-clause-file_bytes_in_bounds c =
    (judge_writing-passed (length c.args.screen.now) (length c.args.out.now) c.args.picture.resolution _
    (sym c.judge_writing.ensures ∙ c.in_ok-judge_writing.was)).output-fits
