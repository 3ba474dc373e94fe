-- `summary::summarise_input` meets its contract: what it reads decides the summary of the whole input.
use Rattle.std.proofs.Common.{refl, replicate, rules}
use Rattle.report.specs.Summary.{summary_bytes}
use Rattle.summary.proofs.Whole.{summary-read, summary-made, text-written, appended}
use Rattle.summary.proofs.summarise_input.Goals as goal

pub unwrap-length-requires : goal.unwrap-length-requires
unwrap-length-requires g c =
    rw (summary-made _ (replicate summary_bytes 0) _ refl c.summarise.ensures.answer) (search rules)

pub returns : goal.returns
returns g c =
    let q = c.in_ok-count.ensures in
    let made = summary-made _ (replicate summary_bytes 0) _ refl c.summarise.ensures.answer in
    appended c.write_all.result (g.R.Read.remaining c.args.input.now) _ _ _ _
    (text-written _ (replicate summary_bytes 0) _ _ refl (cc) c.summarise.ensures.text)
    (summary-read _ _ _ c.in_ok-count.count (search rules) q.within.0 q.front q.end)
    c.write_all.ensures.bytes
