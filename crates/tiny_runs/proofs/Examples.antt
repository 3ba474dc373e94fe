-- Small sections worked out (document 02, ticket 1).
use mathlib.Core.Path.{◌≡◌, refl}
use mathlib.Core.List.{[], ◌∷◌}
use Rattle.words.specs.Word.{word_at}
use Rattle.tiny_runs.specs.Runs.{long_run, run_of, run_at, words_made}
use Rattle.tiny_runs.specs.Expansion.{run_step, expand_within, expand}

-- where no room is left a control byte is judged as any other
pub no_room : ((expand (2 ∷ 2 ∷ []) (7 ∷ 8 ∷ []) 2).fault ≡ 12) × ((expand (2 ∷ 128 ∷ []) (7 ∷ 8 ∷ []) 2).fault ≡ 11)
unfolding expand expand_within run_step run_at run_of long_run words_made word_at
no_room = (refl, refl)

-- repeat, literal
pub runs : (expand (3 ∷ 254 ∷ []) (7 ∷ 8 ∷ 9 ∷ []) 10).made ≡ 7 ∷ 7 ∷ 7 ∷ 8 ∷ 9 ∷ []
unfolding expand expand_within run_step run_at run_of long_run words_made word_at
runs = refl
