-- Screen out and screen in: line out and line in for every scan line of a screen, judged as those are.
use Rattle.std.specs.Prelude.{ℕ, zero, suc, ◌*◌, Bool, not, ltb, length, drop, Ok}
use mathlib.Core.List.{List, map, flatten}
use Rattle.lists.specs.All.{all_first}
use Rattle.lists.specs.Tabulate.{tabulate}
use Rattle.outcome.specs.Outcome.{Outcome, refuse_if}
use Rattle.outcome.specs.Refusal.{area_too_short, out_of_range}
use Rattle.resolution.specs.declared.Resolution.{Resolution}
use Rattle.resolution.specs.Shapes.{width_of, height_of, registers_of}
use Rattle.resolution.specs.Choice.{judge_screen}
use Rattle.lines.specs.Registers.{scan_line, with_line}

-- pixels of a screen
abbrev pub pixels_of : Resolution → ℕ
pixels_of r = height_of r * width_of r

-- the numbers of the scan lines, from the top
abbrev pub line_numbers : Resolution → List ℕ
line_numbers r = tabulate (height_of r) (λ y. y)

-- the registers of all pixels: the scan lines joined
unfoldable pub screen_registers : List ℕ → Resolution → List ℕ
screen_registers s r = flatten (map (scan_line s r) (line_numbers r))

-- the screen with its first scan lines, so many, made from registers
unfoldable pub with_lines : List ℕ → Resolution → List ℕ → ℕ → List ℕ
with_lines s r registers zero = s
with_lines s r registers (suc y) = with_line (with_lines s r registers y) r y (drop (y * width_of r) registers)

-- each of the first registers, as many as there are pixels, is one that the planes can name
abbrev pub all_fit : Resolution → List ℕ → Bool
all_fit r registers = all_first (pixels_of r) (λ v. ltb v (registers_of r)) registers

-- screen out at a resolution, into an output of `room` bytes
abbrev pub screen_out_at : List ℕ → Resolution → ℕ → Outcome (List ℕ)
screen_out_at s r room = refuse_if (ltb room (pixels_of r)) area_too_short (Ok (screen_registers s r))

-- screen in at a resolution: the screen's later content
abbrev pub screen_in_at : List ℕ → Resolution → List ℕ → Outcome (List ℕ)
screen_in_at s r registers =
    refuse_if (ltb (length registers) (pixels_of r)) area_too_short
    (refuse_if (not (all_fit r registers)) out_of_range
    (Ok (with_lines s r registers (height_of r))))

-- screen out, judged whole
unfoldable pub screen_out : List ℕ → ℕ → ℕ → Outcome (List ℕ)
screen_out s number room = judge_screen (length s) number (λ r. screen_out_at s r room)

-- screen in, judged whole
unfoldable pub screen_in : List ℕ → ℕ → List ℕ → Outcome (List ℕ)
screen_in s number registers = judge_screen (length s) number (λ r. screen_in_at s r registers)
