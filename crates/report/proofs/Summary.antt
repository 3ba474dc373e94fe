-- Laws of the summary's text.
use Rattle.std.specs.Prelude.{Ok, Err}
use mathlib.Core.Path.{◌≡◌, refl, sym, ap, ◌∙◌}
use mathlib.Core.Bool.{false, cond}
use mathlib.Core.List.{List, ◌++◌}
use Prim.Native.Nat.{ℕ, ◌≤◌}
use lib.Dec.{ltb}
use lib.ListN.{length}
use native.Mathlib.Omega.{arith}
use borrow.Author.Tests.{le-ltb}
use Rattle.lists.proofs.Over.{over-whole}
use Rattle.outcome.specs.declared.Refusal.{Refusal}
use Rattle.outcome.specs.Outcome.{Outcome, Judged, map}
use Rattle.outcome.proofs.Outcome.{map-refused}
use Rattle.resolution.specs.declared.Resolution.{Resolution}
use Rattle.resolution.specs.declared.Resolution.TheVariants.{Low, Medium, High}
use Rattle.resolution.specs.Shapes.{screen_bytes, width_of, height_of}
use Rattle.resolution.specs.Choice.{chosen, number_of}
use Rattle.tally.specs.Counts.{counts, tallied}
use Rattle.picture.specs.declared.PictureRead.{PictureRead}
use Rattle.picture.specs.Reading.{Reading, picture_read, read_area}
use Rattle.picture.specs.Whole.{WholeReading}
use Rattle.degas.proofs.Whole.{degas-whole}
use Rattle.reader.specs.Reading.{kind_degas, read_file}
use Rattle.reader.proofs.Choice.{file-degas}
use Rattle.report.specs.Lines.{number_lines, tally_line, refusal_line}
use Rattle.report.specs.Summary.{whole_screen, screen_counts, reading_text, summary_text}
use Rattle.report.specs.Summary.{summarised, summary_output}

-- ---- the tally of the whole screen

-- it is accepted, with the counts
tallied-whole : (s : List ℕ) (r : Resolution) → screen_bytes ≤ length s
    → tallied s (number_of r) (whole_screen r) ≡ Ok (counts s r (whole_screen r))
unfolding tallied
tallied-whole s r h = go r
  where
    full : ltb (length s) screen_bytes ≡ false
    full = le-ltb (length s) screen_bytes h

    go : (r : Resolution) → tallied s (number_of r) (whole_screen r) ≡ Ok (counts s r (whole_screen r))
    go Low = rw full
    go Medium = rw full
    go High = rw full

-- the same, where the number, the width and the height are known
pub tallied-here : (s : List ℕ) (r : Resolution) (number width height : ℕ) (o : Outcome (List ℕ))
    → screen_bytes ≤ length s → number ≡ number_of r → width ≡ width_of r → height ≡ height_of r
    → o ≡ tallied s number (record { left = 0; top = 0; columns = width; lines = height })
    → o ≡ Ok (counts s r (whole_screen r))
tallied-here s r number width height o h n w l is = is ∙ rw (n, w, l) (tallied-whole s r h)

-- ---- the text of a reading, by what is given of it and the area that it was read into

-- every accepted reading has a whole screen
pub read_whole : (file : List ℕ) → Judged WholeReading (read_file kind_degas file screen_bytes)
read_whole file = rw (file-degas kind_degas file screen_bytes refl) (degas-whole file screen_bytes)

pub text-refused : (o : Outcome Reading) (why : Refusal) → map picture_read o ≡ Err why
    → refusal_line why ≡ summary_text o
text-refused (Ok q) why is = cc
text-refused (Err it) why is = ap refusal_line (cc)

pub text-accepted : (o : Outcome Reading) → Judged WholeReading o → (q : PictureRead) (area screen : List ℕ)
    → length area ≡ screen_bytes → map picture_read o ≡ Ok q → screen ≡ read_area o area
    → number_lines q.picture.resolution q.records q.body (cond q.picture.tail_present 1 0)
    ++ tally_line (screen_counts screen (chosen q.picture.resolution))
    ≡ summary_text o
unfolding reading_text
text-accepted (Ok p) sound q area screen size is e =
    let same : picture_read p ≡ q = cc in
    rw (sym same, e ∙ over-whole p.screen area (omega (arith, sound.size)))
text-accepted (Err why) sound q area screen size is e = cc

-- ---- a refused summary

-- demand 1: where `report::summarise` answers a refusal, the output is as it was
pub summary-refused : (file out : List ℕ) (why : Refusal) → map length (summarised file (length out)) ≡ Err why
    → summary_output (summarised file (length out)) out ≡ out
summary-refused file out why e = rw (map-refused length (summarised file (length out)) why e)
