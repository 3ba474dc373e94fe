-- What is stated of the colour animation that two lists show of a file (document 02, ticket 10).
use Rattle.std.specs.Prelude.{ℕ, ◌≤◌, ◌≡◌, ◌↔◌, List, get_or}
use Rattle.outcome.specs.Outcome.{refusal_of}
use Rattle.resolution.specs.Shapes.{screen_bytes}
use Rattle.neochrome.specs.Accepts.{AcceptsNeochrome}
use Rattle.neochrome.specs.Reading.{read_neochrome}
use Rattle.neochrome_animation.specs.Fields.{Shows1989, Shows2008}
use Rattle.neochrome_animation.specs.Lists.{flag_as_resolution}
use Rattle.neochrome_animation.specs.Judging.{animation, animation_answer}
use Rattle.statements.specs.declared.AnswersByList.{AnswersByList}

-- the complete answers
abbrev pub answers_by_list : List ℕ → AnswersByList
answers_by_list file = record {
  list_1989 = animation_answer (animation 1 file);
  list_2008 = animation_answer (animation 2 file);
}

-- the limits are marked valid, and word 52 is 0
abbrev pub MarkedWithoutSteps : List ℕ → Type 0
MarkedWithoutSteps file = (128 ≤ get_or file 48 0) × (get_or file 52 0 ≡ 0) × (get_or file 53 0 ≡ 0)

-- both accept exactly the files that fit
pub record AcceptsBoth (file : List ℕ) (b : AnswersByList) : Type 0 where
  pub by-1989 : (b.list_1989.refusal.number ≡ 0) ↔ AcceptsNeochrome file
  pub by-2008 : (b.list_2008.refusal.number ≡ 0) ↔ AcceptsNeochrome file

-- what each shows of a file that fits, and when both show the same
pub record ShowsBoth (file : List ℕ) (b : AnswersByList) : Type 0 where
  pub by-1989 : Shows1989 file b.list_1989
  pub by-2008 : Shows2008 file b.list_2008
  pub same-exactly : (b.list_1989 ≡ b.list_2008) ↔ MarkedWithoutSteps file

-- the refusal of reading into an area of a screen; the list of 1989 gives 5 in place of 4
pub record RefusesAsRead (file : List ℕ) (b : AnswersByList) : Type 0 where
  pub by-1989 : b.list_1989.refusal ≡ flag_as_resolution (refusal_of (read_neochrome file screen_bytes))
  pub by-2008 : b.list_2008.refusal ≡ refusal_of (read_neochrome file screen_bytes)
