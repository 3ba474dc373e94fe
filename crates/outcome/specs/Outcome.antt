-- What judging an input comes to, and what follows from it (document 01, "Numbers given back").
use Rattle.std.specs.Prelude.{ℕ, ◌+◌, ◌≡◌, Bool, cond, Result, Ok, Err, ⊤}
use Rattle.outcome.specs.declared.Refusal.{Refusal}

-- accepted, with a value; or refused, and why
abbrev pub Outcome : Type 0 → Type 0
Outcome A = Result A Refusal

-- a refusal with a number at a place, in plane row `plane_row`, counted from 0, of which the records before that place
-- make `good_bytes` bytes; a row by itself is plane row 0
abbrev pub row_refusal : ℕ → ℕ → ℕ → ℕ → Refusal
row_refusal number place plane_row good_bytes =
    record { number = number; place = place; plane_row = plane_row; good_bytes = good_bytes }

-- a refusal with a number at a place, in no plane row
abbrev pub refusal : ℕ → ℕ → Refusal
refusal number place = row_refusal number place 0 0

-- what an acceptance gives in place of a refusal
abbrev pub none : Refusal
none = refusal 0 0

-- refused with a number that has no place
abbrev pub refuse : {A : Type 0} → ℕ → Outcome A
refuse number = Err (refusal number 0)

-- refused with this number where the test holds; otherwise judged further
abbrev pub refuse_if : {A : Type 0} → Bool → ℕ → Outcome A → Outcome A
refuse_if test number further = cond test (refuse number) further

-- the same, at a place
abbrev pub refuse_at_if : {A : Type 0} → Bool → ℕ → ℕ → Outcome A → Outcome A
refuse_at_if test number place further = cond test (Err (refusal number place)) further

-- a function of what is accepted
abbrev pub map : {A B : Type 0} → (A → B) → Outcome A → Outcome B
map f (Ok a) = Ok (f a)
map f (Err why) = Err why

-- the same outcome without what is accepted
abbrev pub void : {A : Type 0} → Outcome A → Outcome ⊤
void o = map (λ _. tt) o

-- what is accepted, judged further
abbrev pub bind : {A B : Type 0} → Outcome A → (A → Outcome B) → Outcome B
bind (Ok a) further = further a
bind (Err why) further = Err why

-- a refusal of what starts at an offset of a file, with its place counted from the file's start; all else as it is
abbrev pub placed_at : ℕ → Refusal → Refusal
placed_at at why = row_refusal why.number (at + why.place) why.plane_row why.good_bytes

-- an outcome of what starts at an offset of a file, with its refusal so placed
abbrev pub placed : {A : Type 0} → ℕ → Outcome A → Outcome A
placed at (Ok a) = Ok a
placed at (Err why) = Err (placed_at at why)

-- the later content of a lent area: what an accepted value gives it, and after a refusal as it was
abbrev pub later : {A B : Type 0} → Outcome A → (A → B) → B → B
later (Ok a) gives was = gives a
later (Err why) gives was = was

-- why an outcome is refused, or none
abbrev pub refusal_of : {A : Type 0} → Outcome A → Refusal
refusal_of (Ok a) = none
refusal_of (Err why) = why

-- P of what is accepted; a refusal has a number
abbrev pub Judged : {A : Type 0} → (A → Type 0) → Outcome A → Type 0
Judged P (Ok a) = P a
Judged P (Err why) = why.number ≡ 0 → ⊥
