-- Each test picks a case of `read_maps`.
use Rattle.std.proofs.Common.{ℕ, ◌+◌, ◌≤◌, List, length, sym, ap, ◌∙◌, arith}
use Rattle.std.proofs.lemmas.Result.{err_from_is_err_and}
use Rattle.lists.specs.Over.{over}
use Rattle.outcome.proofs.Outcome.{map-refused}
use Rattle.spectrum_colour_map.specs.ColourMap.{read_map}
use Rattle.spectrum.specs.Layout.{colour_start}
use Rattle.spectrum.specs.Screen.{spc_screen}
use Rattle.spectrum.specs.Reading.{read_maps}
use Rattle.spectrum.proofs.Reading.{data-left, colours-refused, maps-read, colours-called, void-accepted}
use Rattle.spectrum.proofs.Reading.{reads-refused, reads-accepted}
use Rattle.spectrum.proofs.put_maps.Goals as goal

pub returns-then-saturating_sub-gt-MOST_LEFT : goal.returns-then-saturating_sub-gt-MOST_LEFT
returns-then-saturating_sub-gt-MOST_LEFT c =
    let a = c.args in
    let p = c.requires.end_value in
    let left = data-left a.file.now a.last p.1 (omega (arith, p.0, c.saturating_sub.ensures)) in
    rw c.refuse.ensures (reads-refused (read_maps a.file.now) a.screen.now a.palettes.now _ left)

pub returns-in_err-read_map : goal.returns-in_err-read_map
returns-in_err-read_map c =
    let a = c.args in
    let e = c.requires.end_value in
    let q = err_from_is_err_and c.from_residual.result c.from_residual.ensures.1 in
    let o = read_map a.file.now a.end (length a.palettes.now) in
    let is = map-refused _ o _ (sym c.read_map.ensures.answer ∙ c.in_err-read_map.was) in
    let called = colours-called a.file.now a.end (length a.palettes.now) e.0 (omega arith) in
    let few : colour_start a.file.now ≤ a.last + 1 = omega (arith, e.0, c.saturating_sub.ensures) in
    let refused = colours-refused a.file.now a.last e.1 few _ (sym called ∙ is) in
    rw (q.1, q.2, c.read_map.ensures.area, is)
    (reads-refused (read_maps a.file.now) a.screen.now a.palettes.now _ refused)

pub returns : goal.returns
returns c =
    let a = c.args in
    let e = c.requires.end_value in
    let o = read_map a.file.now a.end (length a.palettes.now) in
    let read = void-accepted o _ (sym c.read_map.ensures.answer ∙ c.in_ok-read_map.was) in
    let called = colours-called a.file.now a.end (length a.palettes.now) e.0 (omega arith) in
    let few : colour_start a.file.now ≤ a.last + 1 = omega (arith, e.0, c.saturating_sub.ensures) in
    let is = maps-read a.file.now a.last e.1 few read.0 (sym called ∙ read.1) in
    reads-accepted (read_maps a.file.now) a.screen.now a.palettes.now _ _ _ is
    (c.put_screen.ensures ∙ ap (λ (l : List ℕ). over (spc_screen l) a.screen.now) c.requires.planes_value.0)
    (rw read.1 at c.read_map.ensures.area)
