-- The words of the summary, in ASCII (document 01, "Examples to hold to").
use Rattle.std.specs.Prelude.{ℕ, List, codes}

abbrev pub resolution_label : List ℕ
resolution_label = codes "resolution "

abbrev pub records_label : List ℕ
records_label = codes "records "

abbrev pub body_label : List ℕ
body_label = codes "body "

abbrev pub tail_label : List ℕ
tail_label = codes "tail "

abbrev pub tally_label : List ℕ
tally_label = codes "tally"

abbrev pub refused_label : List ℕ
refused_label = codes "refused "

abbrev pub at_label : List ℕ
at_label = codes " at "

abbrev pub blank : List ℕ
blank = codes " "

-- the end of a line
abbrev pub newline : List ℕ
newline = codes "\n"
