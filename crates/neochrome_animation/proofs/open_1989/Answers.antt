use Rattle.std.specs.Prelude.{Ok, Err}
use Rattle.std.specs.Result.{MatchResult, IsErrAnd}
use Rattle.std.proofs.Common.{◌≡◌, List, ℕ, ap, sym, ◌∙◌}
use Rattle.outcome.specs.Outcome.{Outcome}
use Rattle.resolution.specs.declared.Resolution.{Resolution}
use Rattle.neochrome.specs.Opening.{opening}
use Rattle.neochrome_animation.specs.Lists.{opening1989, flag_as_resolution}
use Rattle.neochrome_animation.proofs.Lists.{opened-as-1989, refused-as-1989}
use Rattle.neochrome_animation.proofs.open_1989.Goals as goal

-- an opening whose refusal has been mapped is that of 1989
mapped : (file : List ℕ) (opened given : Outcome Resolution) → opened ≡ opening file
    → MatchResult opened (λ r. given ≡ Ok r) (λ why. IsErrAnd given (λ said. said ≡ flag_as_resolution why))
    → given ≡ opening1989 file
mapped file (Ok r) given e m = m ∙ sym (opened-as-1989 file r (sym e))
mapped file (Err why) (Ok r) e m = absurd m
mapped file (Err why) (Err said) e m = ap Err m ∙ sym (refused-as-1989 file why (sym e))

pub returns : goal.returns
returns c = mapped c.args.file.now c.open_file.result c.map_err.result c.open_file.ensures c.map_err.ensures.cases
