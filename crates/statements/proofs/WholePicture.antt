-- A picture passed by value is whole: its type gives the lengths of its arrays.
use mathlib.Core.Path.{◌≡◌}
use mathlib.Core.List.{List, [], ◌∷◌}
use Prim.Native.Nat.{ℕ, zero, suc, ◌<◌}
use native.Mathlib.Omega.{arith}
use lib.ListN.{length, get_or}
use base.Fml.{Fml}
use mir.Val.{Val}
use denote.Array.{each}
use denote.Laws.{Is}
use denote.Shadow.{shadow}
use denote.Struct.Declared.{row}
use Rattle.picture.specs.declared.Picture.{Picture}
use Rattle.picture.specs.declared.Table.{Table}
use Rattle.picture.specs.Whole.{WholePicture}
use Rattle.picture.specs.contracts.Picture as declared-picture
use Rattle.picture.specs.contracts.Table as declared-table

-- what holds of each element's type holds of each element
each_at : {X : Type 0} (own : X → List Val → Fml) (P : X → Type 0)
    → ((x : X) (v : Val) → shadow (own x (v ∷ [])) → P x)
    → (xs : List X) (vs : List Val) → shadow (each X own xs vs)
    → (i : ℕ) (none : X) → i < length xs → P (get_or xs i none)
each_at own P holds [] vs s i none h = absurd (omega arith)
each_at own P holds (x ∷ xs) [] s i none h = absurd s
each_at own P holds (x ∷ xs) (v ∷ vs) s zero none h = holds x v s.0
each_at own P holds (x ∷ xs) (v ∷ vs) s (suc i) none h = each_at own P holds xs vs s.1 i none (omega arith)

four-words : (t : Table) (v : Val) → shadow ((declared-table.the_row).own_val t (v ∷ [])) → length t.words ≡ 4
four-words t v s = s.1.1.0.1.0.1

-- from the relation that a parameter of the type has to its machine value
pub whole : (p : Picture) (vs : List Val) → Is (row declared-picture.the_type) p vs → WholePicture p
whole p vs s =
    let tail = s.1.1.1.1.1.0.1 in
    let four : length p.tail ≡ 4 = tail.0.1 in
    record {
      sixteen = s.1.1.1.0.1.0.1;
      four = four;
      words =
          λ i h.
          each_at (declared-table.the_row).own_val (λ t. length t.words ≡ 4)
          four-words
          p.tail
          _
          tail.1
          i
          (record { words = [] })
          (omega arith);
    }
