-- Laws of what a nibble shows on each machine.
use Rattle.std.specs.Prelude.{Some}
use mathlib.Core.Path.{◌≡◌, refl, sym, ap, ◌∙◌}
use mathlib.Core.List.{List}
use native.Mathlib.Omega.{arith}
use Prim.Native.Nat.{ℕ, ◌*◌, ◌/◌, ◌%◌, ◌≤◌, ◌<◌}
use lib.ListN.{get_or}
use Rattle.lists.specs.Tabulate.{tabulate}
use Rattle.lists.proofs.Tabulate.{get_or-tabulate}
use Rattle.colour.specs.declared.Machine.{Machine}
use Rattle.colour.specs.declared.Machine.TheVariants.{St, Ste}
use Rattle.colour.specs.Machines.{chosen_machine, machine_number, levels, stretch, ste_level, nibble_shown}

-- ---- a machine and its number

pub machine-number : (m : Machine) → chosen_machine (machine_number m) ≡ Some m
machine-number St = refl
machine-number Ste = refl

-- ---- the ST

-- the list of levels is document 01's rule, 255v/7 rounded down: computed at all eight
pub levels-rule : levels ≡ tabulate 8 (λ v. 255 * v / 7)
unfolding tabulate
levels-rule = refl

-- and cited at one of them
pub stretch-rule : (v : ℕ) → v < 8 → stretch v ≡ 255 * v / 7
unfolding stretch
stretch-rule v h = ap (λ (l : List ℕ). get_or l v 0) levels-rule ∙ get_or-tabulate 8 (λ v. 255 * v / 7) v 0 h

-- what a nibble shows on an ST, without the list
pub st-rule : (n : ℕ) → nibble_shown St n ≡ 255 * (n % 8) / 7
unfolding nibble_shown
st-rule n = stretch-rule (n % 8) (omega arith)

-- eight levels, no two of them shown alike
pub st-injective : (n k : ℕ) → nibble_shown St n ≡ nibble_shown St k → n % 8 ≡ k % 8
st-injective n k e = let e' : 255 * (n % 8) / 7 ≡ 255 * (k % 8) / 7 = sym (st-rule n) ∙ e ∙ st-rule k in omega arith

-- ---- the STE

-- sixteen nibbles, no two of them shown alike
pub ste-injective : (n k : ℕ) → n < 16 → k < 16 → nibble_shown Ste n ≡ nibble_shown Ste k → n ≡ k
unfolding nibble_shown ste_level
ste-injective n k hn hk e = omega arith

-- ---- both

-- what is shown is a byte
pub shown-le : (m : Machine) (n : ℕ) → n < 16 → nibble_shown m n ≤ 255
unfolding nibble_shown ste_level
shown-le St n h = let e = stretch-rule (n % 8) (omega arith) in omega arith
shown-le Ste n h = omega arith
