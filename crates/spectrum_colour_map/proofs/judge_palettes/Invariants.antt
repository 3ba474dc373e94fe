-- What is left decides the whole.
use Rattle.std.proofs.Common.{◌≡◌, ◌-◌}
use Rattle.spectrum_colour_map.specs.Palettes.{judge_palettes}
use Rattle.spectrum_colour_map.proofs.judge_palettes.Given as goal

abbrev pub invariant-loop : goal.invariant-loop
invariant-loop l = judge_palettes l.n l.file l.at ≡ judge_palettes (l.n - l.counter) l.file l.from
