-- `unpack::unpack_through`: the row copied once it is whole.
use mathlib.Core.Path.{sym, ap, ◌∙◌}
use mathlib.Core.List.{List}
use Prim.Native.Nat.{ℕ}
use Rattle.lists.specs.Over.{over}
use Rattle.lists.proofs.Parts.{copied-over}
use Rattle.unpack.proofs.RowUnpack.{placed-none, copied-output}
use Rattle.packbits.specs.Unpack.{unpack}
use lib.ListN.{length}
use Rattle.unpack.proofs.unpack_through.Goals as goal

pub returns-clause-out_after : goal.returns-clause-out_after
returns-clause-out_after c =
    let a = c.args in
    let is = sym (placed-none (unpack a.packed.now (length a.row.now))) ∙ sym c.unpack_into.ensures.answer in
    c.copy.ensures.content
    ∙ copied-over c.unpack_into.new.out a.out.now
    ∙ ap (λ (l : List ℕ). over l a.out.now) c.unpack_into.ensures.row
    ∙ copied-output a.packed.now a.row.now a.out.now c.in_ok-unpacked.unpacked (is ∙ c.in_ok-unpacked.was)
