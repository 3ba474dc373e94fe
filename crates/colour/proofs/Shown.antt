-- Laws of the colour that a register shows.
use Rattle.std.specs.Prelude.{Ok}
use mathlib.Core.Path.{◌≡◌}
use mathlib.Core.List.{List}
use Prim.Native.Nat.{ℕ, ◌<◌}
use native.Mathlib.Omega.{arith}
use lib.ListN.{get_or}
use borrow.Author.Tests.{lt-leb}
use Rattle.resolution.specs.declared.Resolution.{Resolution}
use Rattle.resolution.specs.declared.Resolution.TheVariants.{Low, Medium, High}
use Rattle.resolution.specs.Choice.{number_of}
use Rattle.resolution.specs.Shapes.{registers_of}
use Rattle.resolution.proofs.Choice.{chosen-number}
use Rattle.colour.specs.declared.Machine.{Machine}
use Rattle.colour.specs.Machines.{machine_number}
use Rattle.colour.specs.Palette.{word_colour}
use Rattle.colour.specs.Shown.{white, black, register_colour, judge_register, shown}
use Rattle.colour.proofs.Machines.{machine-number}

-- what is shown where nothing is refused: one law over the resolution and the machine
pub shown-known : (r : Resolution) (m : Machine) (palette : List ℕ) (register : ℕ) → register < registers_of r
    → shown (number_of r) (machine_number m) palette register
    ≡ Ok (register_colour r m (get_or palette register 0) register)
unfolding shown judge_register
shown-known r m palette register h = rw (chosen-number r, machine-number m, lt-leb (registers_of r) register h)

-- at low and medium resolution it is the colour of the register's palette word
pub low_word : (m : Machine) (palette : List ℕ) (register : ℕ) → register < 16
    → shown 0 (machine_number m) palette register ≡ Ok (word_colour m (get_or palette register 0))
unfolding register_colour
low_word m palette register h = shown-known Low m palette register h

pub medium-word : (m : Machine) (palette : List ℕ) (register : ℕ) → register < 4
    → shown 1 (machine_number m) palette register ≡ Ok (word_colour m (get_or palette register 0))
unfolding register_colour
medium-word m palette register h = shown-known Medium m palette register h

-- at high resolution both machines show white and black, whatever the palette holds
pub high-white : (m : Machine) (palette : List ℕ) → shown 2 (machine_number m) palette 0 ≡ Ok white
unfolding register_colour
high-white m palette = shown-known High m palette 0 (omega arith)

pub high-black : (m : Machine) (palette : List ℕ) → shown 2 (machine_number m) palette 1 ≡ Ok black
unfolding register_colour
high-black m palette = shown-known High m palette 1 (omega arith)
