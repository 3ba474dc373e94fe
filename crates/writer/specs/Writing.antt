-- Writing a file of any form (document 01, "Order of judging": write): the form chooses the format, and nothing else
-- is said here.
use Rattle.std.specs.Prelude.{ℕ, cond, List, length, eqb, Ok}
use Rattle.outcome.specs.Outcome.{Outcome, refuse}
use Rattle.outcome.specs.Refusal.{unknown_kind}
use Rattle.picture.specs.declared.Picture.{Picture}
use Rattle.picture.specs.Writing.{Writing, judge_areas}
use Rattle.degas.specs.declared.Form.TheVariants.{Plain, Elite, Packed}
use Rattle.degas.specs.Writing.{write_degas}
use Rattle.neochrome.specs.Writing.{write_neochrome}
use Rattle.writer.specs.declared.Form.{Form}
use Rattle.writer.specs.declared.Form.TheVariants.{Degas, Neochrome}

-- the forms
abbrev pub form_plain : ℕ
form_plain = 1

abbrev pub form_elite : ℕ
form_elite = 2

abbrev pub form_packed : ℕ
form_packed = 3

abbrev pub form_neochrome : ℕ
form_neochrome = 4

-- the number of a form
abbrev pub number_of_form : Form → ℕ
number_of_form (Degas Plain) = form_plain
number_of_form (Degas Elite) = form_elite
number_of_form (Degas Packed) = form_packed
number_of_form Neochrome = form_neochrome

-- the form that a number names; any other number is refused
abbrev pub form_of : ℕ → Outcome Form
form_of number =
    cond (eqb number form_plain) (Ok (Degas Plain))
    (cond (eqb number form_elite) (Ok (Degas Elite))
    (cond (eqb number form_packed) (Ok (Degas Packed))
    (cond (eqb number form_neochrome) (Ok Neochrome)
    (refuse unknown_kind))))

-- a picture and its screen in a form, into an output of `out` bytes; an unknown form is refused after a short area
unfoldable pub write_file : ℕ → Picture → List ℕ → ℕ → Outcome Writing
write_file form p screen out =
    cond (eqb form form_plain) (write_degas Plain p screen out)
    (cond (eqb form form_elite) (write_degas Elite p screen out)
    (cond (eqb form form_packed) (write_degas Packed p screen out)
    (cond (eqb form form_neochrome) (write_neochrome p screen out)
    (judge_areas (length screen) out (refuse unknown_kind)))))
