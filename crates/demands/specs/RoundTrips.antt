-- What reading finds in a file that was written (document 01, "Order of judging": write).
use Rattle.std.specs.Prelude.{ℕ, Bool, true, cond, List, take, eqb}
use Rattle.resolution.specs.Shapes.{screen_bytes}
use Rattle.picture.specs.declared.Picture.{Picture}
use Rattle.picture.specs.Tables.{without_tail, with_tail}
use Rattle.picture.specs.Reading.{Reading}
use Rattle.reader.specs.Reading.{kind_degas, kind_neochrome}
use Rattle.writer.specs.Writing.{form_elite, form_packed, form_neochrome}

-- form 4 is NEOchrome; the others are DEGAS
abbrev pub kind_of : ℕ → ℕ
kind_of form = cond (eqb form form_neochrome) kind_neochrome kind_degas

-- "Forms 1 and 4 drop the tail, so reading back finds it absent, its words zero. Forms 2 and 3 write its words as
-- given, marked present or not, so reading back finds those words and a tail present."
abbrev pub keeps_tail : ℕ → Bool
keeps_tail form = cond (eqb form form_elite) true (eqb form form_packed)

abbrev pub picture_back : ℕ → Picture → Picture
picture_back form p =
    cond (keeps_tail form) (with_tail p.resolution p.palette p.tail) (without_tail p.resolution p.palette)

-- the picture, the body's length and records as reported, and the screen
abbrev pub read_back : ℕ → Picture → List ℕ → ℕ → ℕ → Reading
read_back form p screen body records =
    record { picture = picture_back form p; body = body; records = records; screen = take screen_bytes screen }
