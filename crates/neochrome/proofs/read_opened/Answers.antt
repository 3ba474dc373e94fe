use Rattle.std.proofs.Common.{◌≡◌, ℕ, ◌-◌, ap, take, drop, length, arith}
use Rattle.lists.proofs.Parts.{copied-part}
use Rattle.resolution.specs.Shapes.{screen_bytes}
use Rattle.neochrome.specs.Layout.{screen_start}
use Rattle.neochrome.proofs.read_opened.Goals as goal

pub returns-clause-area : goal.returns-clause-area
returns-clause-area c =
    let file = c.args.file.now in
    let n : length file - screen_start ≡ screen_bytes = omega arith in
    copied-part file c.args.area.now _ screen_start screen_bytes _
    (ap (λ (k : ℕ). take k (drop screen_start file)) n) c.copy.ensures.content
