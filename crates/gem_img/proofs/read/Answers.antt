use Rattle.std.proofs.Common.{length, sym, arith}
use Rattle.std.proofs.lemmas.Grind.{common_steps}
use Rattle.gem_img.proofs.Header.{profiled}
use Rattle.gem_img.proofs.Reading.{area-short, headed, header_refused, header-right}
use Rattle.gem_img.proofs.read.Goals as goal

pub returns-then-area-lt-AREA_BYTES : goal.returns-then-area-lt-AREA_BYTES
returns-then-area-lt-AREA_BYTES c =
    let short = area-short c.args.file.now (length c.args.area.now) c.if-area-lt-AREA_BYTES.true in
    record { answer = rw (short, c.refuse.ensures); area = rw short }

pub returns-in_err-judge_header : goal.returns-in_err-judge_header
returns-in_err-judge_header c =
    let refused = header_refused c.args.file.now (length c.args.area.now) c.if-area-lt-AREA_BYTES.false _
    (sym c.in_err-judge_header.ensures) in
    record { answer = rw refused (grind (arith, common_steps)); area = rw refused }

pub read_by_buffer-requires-clause-header : goal.read_by_buffer-requires-clause-header
read_by_buffer-requires-clause-header c = (headed c.args.file.now (sym c.in_ok-judge_header.ensures)).has

pub read_by_buffer-requires-clause-profiled : goal.read_by_buffer-requires-clause-profiled
read_by_buffer-requires-clause-profiled c =
    profiled c.args.file.now (headed c.args.file.now (sym c.in_ok-judge_header.ensures)).profile

pub returns : goal.returns
returns c =
    let right = header-right c.args.file.now (length c.args.area.now) c.if-area-lt-AREA_BYTES.false
    (sym c.in_ok-judge_header.ensures) in
    rw right c.read_by_buffer.ensures
