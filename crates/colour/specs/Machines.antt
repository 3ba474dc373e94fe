-- The machines, and what a nibble, four bits of a palette word, shows on each (document 02, ticket 4; the ST keeps the
-- rule of document 01, "Three resolutions").
use Rattle.std.specs.Prelude.{ℕ, ◌+◌, ◌*◌, ◌/◌, ◌%◌, cond, List, [], ◌∷◌, get_or, eqb, None, Option, Some}
use Rattle.outcome.specs.Outcome.{Outcome, refuse}
use Rattle.outcome.specs.Refusal.{out_of_range}
use Rattle.colour.specs.declared.Machine.{Machine}
use Rattle.colour.specs.declared.Machine.TheVariants.{St, Ste}

-- 1 ST, 2 STE
abbrev pub chosen_machine : ℕ → Option Machine
chosen_machine number = cond (eqb number 1) (Some St) (cond (eqb number 2) (Some Ste) None)

-- `chosen_machine` undone (proofs/Machines.antt, `machine-number`)
abbrev pub machine_number : Machine → ℕ
machine_number St = 1
machine_number Ste = 2

-- judged further with the machine, or refused with 10 where there is none
abbrev pub judge_machine : {A : Type 0} → Option Machine → (Machine → Outcome A) → Outcome A
judge_machine (Some m) further = further m
judge_machine None further = refuse out_of_range

-- the same from the machine's number
abbrev pub with_machine : {A : Type 0} → ℕ → (Machine → Outcome A) → Outcome A
with_machine number further = judge_machine (chosen_machine number) further

-- the ST's levels 0 to 7 as they are shown, 255v/7 rounded down (document 02, ticket 2; proofs/Machines.antt,
-- `levels-rule`)
abbrev pub levels : List ℕ
levels = 0 ∷ 36 ∷ 72 ∷ 109 ∷ 145 ∷ 182 ∷ 218 ∷ 255 ∷ []

-- level v of an ST, below 8, stretched to 0 to 255
unfoldable pub stretch : ℕ → ℕ
stretch v = get_or levels v 0

-- the level, 0 to 15, that nibble n means on an STE: the nibble's bit 3 is the level's bit 0
unfoldable pub ste_level : ℕ → ℕ
ste_level n = 2 * (n % 8) + n / 8

-- what nibble n, below 16, shows, 0 to 255: an ST ignores its bit 3
unfoldable pub nibble_shown : Machine → ℕ → ℕ
nibble_shown St n = stretch (n % 8)
nibble_shown Ste n = 17 * ste_level n
