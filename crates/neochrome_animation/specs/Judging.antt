-- The colour animation of a NEOchrome file, by the list that the caller names (document 02, ticket 10).
use Rattle.std.specs.Prelude.{ℕ, Bool, true, false, cond, List, eqb, Ok, Err, Option, Some, None}
use Rattle.outcome.specs.Outcome.{Outcome, none, refuse, map}
use Rattle.outcome.specs.Refusal.{unknown_kind}
use Rattle.neochrome_animation.specs.declared.AnimationAnswer.{AnimationAnswer}
use Rattle.neochrome_animation.specs.declared.ColourAnimation.{ColourAnimation}
use Rattle.neochrome_animation.specs.declared.FormatList.{FormatList}
use Rattle.neochrome_animation.specs.declared.FormatList.TheVariants.{Of1989, Of2008}
use Rattle.neochrome_animation.specs.declared.Limits.{Limits}
use Rattle.neochrome_animation.specs.Lists.{opening1989, opening2008, shown1989, shown2008}
use Rattle.neochrome_animation.specs.Speed.{direction_number}

-- 1 is the list of 1989, 2 that of 2008; another is refused
abbrev pub listed : ℕ → Outcome FormatList
listed list = cond (eqb list 1) (Ok Of1989) (cond (eqb list 2) (Ok Of2008) (refuse unknown_kind))

unfoldable pub animation1989 : List ℕ → Outcome ColourAnimation
animation1989 file = map (λ _. shown1989 file) (opening1989 file)

unfoldable pub animation2008 : List ℕ → Outcome ColourAnimation
animation2008 file = map (λ _. shown2008 file) (opening2008 file)

-- 1 is the list of 1989, 2 that of 2008; another is refused before the file is judged
unfoldable pub animation : ℕ → List ℕ → Outcome ColourAnimation
animation list file =
    cond (eqb list 1) (animation1989 file) (cond (eqb list 2) (animation2008 file) (refuse unknown_kind))

-- limits that are not valid are answered as 0 and 0
abbrev pub limits_or_none : Option Limits → Limits
limits_or_none (Some limits) = limits
limits_or_none None = record { left = 0; right = 0 }

abbrev pub are_valid : Option Limits → Bool
are_valid (Some limits) = true
are_valid None = false

-- a refusal gives 0 in all else
abbrev pub animation_answer : Outcome ColourAnimation → AnimationAnswer
animation_answer (Ok a) = record {
  refusal = none;
  limits_valid = are_valid a.limits;
  left_limit = (limits_or_none a.limits).left;
  right_limit = (limits_or_none a.limits).right;
  on = a.on;
  direction = direction_number a.direction;
  vblanks = a.vblanks;
  step_count = a.step_count;
}
animation_answer (Err why) = record {
  refusal = why;
  limits_valid = false;
  left_limit = 0;
  right_limit = 0;
  on = false;
  direction = 0;
  vblanks = 0;
  step_count = 0;
}
