-- A pond reading by its question.
use Rattle.std.specs.Prelude.{ℕ, List}
use Rattle.legend.specs.declared.Legend.{Legend}
use Rattle.pond.specs.declared.PondAnswer.{PondAnswer}
use Rattle.pond.specs.Reading.{pond_reading, pond_answer}
use Rattle.isolation.specs.declared.Question.{Question}

abbrev pub answer_to : List ℕ → Question → Legend → PondAnswer
answer_to s q l = pond_answer (pond_reading s q.resolution q.rectangle q.party q.class q.floor l)
