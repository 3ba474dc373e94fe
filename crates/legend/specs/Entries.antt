-- A legend's entries, one for each of 16 registers: an owner, a class and a confidence (document 01, "pond reading";
-- document 02, ticket 8).
use Rattle.std.specs.Prelude.{ℕ, ◌≡◌, Bool, true, not, cond, ◌&&◌, length, get_or, set, replicate, ltb, leb, eqb}
use Rattle.lists.specs.All.{all_below}
use Rattle.legend.specs.declared.Legend.{Legend}

-- the entries of a legend, one a register
abbrev pub entries : ℕ
entries = 16

-- the owner, the class and the confidence of register v
abbrev pub owner_of : Legend → ℕ → ℕ
owner_of l v = get_or l.owners v 0

abbrev pub class_of : Legend → ℕ → ℕ
class_of l v = get_or l.classes v 0

abbrev pub confidence_of : Legend → ℕ → ℕ
confidence_of l v = get_or l.confidences v 0

-- ---- owners

-- the owner of a free entry
abbrev pub free : ℕ
free = 0

-- the highest number of a party, and so of an owner
abbrev pub max_party : ℕ
max_party = 2

-- the parties that share a legend: 1, "us", and 2, "them"
unfoldable pub is_party : ℕ → Bool
is_party party = ltb free party && leb party max_party

abbrev pub owns : Legend → ℕ → ℕ → Bool
owns l party v = eqb (owner_of l v) party

-- an entry that is neither free nor the party's
abbrev pub is_anothers : Legend → ℕ → ℕ → Bool
is_anothers l party v = not (eqb (owner_of l v) free) && not (owns l party v)

-- ---- what an entry can hold

-- the highest class and the highest confidence
abbrev pub max_class : ℕ
max_class = 255

abbrev pub max_confidence : ℕ
max_confidence = 100

abbrev pub register_fits : ℕ → Bool
register_fits register = ltb register entries

abbrev pub class_fits : ℕ → Bool
class_fits class = leb class max_class

abbrev pub confidence_fits : ℕ → Bool
confidence_fits confidence = leb confidence max_confidence

-- an owner of 0 to 2, a confidence of 0 to 100, and class and confidence 0 where the entry is free; any byte is a class
unfoldable pub entry_fits : ℕ → ℕ → ℕ → Bool
entry_fits owner class confidence =
    leb owner max_party && (confidence_fits confidence && cond (eqb owner free) (eqb class 0 && eqb confidence 0) true)

-- each entry of a legend fits
unfoldable pub legend_fits : Legend → Bool
legend_fits l = all_below entries (λ v. entry_fits (owner_of l v) (class_of l v) (confidence_of l v))

-- ---- legends

-- a new legend is all free
abbrev pub new_legend : Legend
new_legend = record { owners = replicate entries free; classes = replicate entries 0; confidences = replicate entries 0 }

-- a legend with the entry of register v written anew
unfoldable pub with_entry : Legend → ℕ → ℕ → ℕ → ℕ → Legend
with_entry l v owner class confidence = record {
  owners = set l.owners v owner;
  classes = set l.classes v class;
  confidences = set l.confidences v confidence;
}

-- three lists of 16 elements: what the type `Legend` says
pub record WholeLegend (l : Legend) : Type 0 where
  pub owners : length l.owners ≡ entries
  pub classes : length l.classes ≡ entries
  pub confidences : length l.confidences ≡ entries
