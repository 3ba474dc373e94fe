use Rattle.std.proofs.Common.{◌≡◌, ℕ, ◌*◌, ◌<◌, Bool, true, List, get_or, sym, ap, ◌∙◌, refl, inl, inr, arith}
use lib.Dec.{ltb}
use borrow.Author.Tests.{ltb-true}
use Rattle.lists.specs.Over.{over_at}
use Rattle.lists.specs.Tabulate.{tabulate}
use Rattle.lists.proofs.All.{all_below-each}
use Rattle.lists.proofs.Tabulate.{tabulate-ext}
use Rattle.resolution.specs.declared.Resolution.{Resolution}
use Rattle.resolution.specs.declared.Resolution.TheVariants.{Low, Medium, High}
use Rattle.resolution.specs.Shapes.{width_of, planes_of, line_bytes_of, registers_of}
use Rattle.lines.specs.Blocks.{groups_byte}
use Rattle.lines.specs.Lines.{registers_fit}
use Rattle.lines.specs.Registers.{line_byte, scan_line_bytes, with_line}
use Rattle.lines.proofs.Blocks.{words-groups, groups_byte-line}
use Rattle.lines.proofs.put_line.Goals as goal

-- at the resolution that was matched
module _ {r q : Resolution} (e : r ≡ q) where
  below : (line : List ℕ) → registers_fit r line ≡ true → (x : ℕ) → x < width_of q → get_or line x 0 < registers_of q
  below line fit x h =
      let test : ℕ → Bool = λ v. ltb v (registers_of r) in
      let passed = all_below-each _ (width_of r) fit x (omega (arith, ap width_of e)) in
      omega (arith, ltb-true (get_or line x 0) (registers_of r) passed, ap registers_of e)

  made : (y : ℕ) (line s : List ℕ) {f : ℕ → ℕ}
      → ((i : ℕ) → i < line_bytes_of q → f i ≡ groups_byte line (planes_of q * 2) i)
      → over_at (y * line_bytes_of q) (tabulate (line_bytes_of q) f) s ≡ with_line s r y line
  unfolding with_line scan_line_bytes
  made y line s {f} is =
      ap (λ (t : List ℕ). over_at (y * line_bytes_of q) t s)
      (tabulate-ext (line_bytes_of q) f (line_byte q line) (λ i h. is i h ∙ groups_byte-line q line i))
      ∙ ap (λ (p : Resolution). with_line s p y line) (sym e)

pub returns-in-Low : goal.returns-in-Low
returns-in-Low c =
    let e = c.in-Low.is in
    c.put_words.ensures
    ∙ made {q = Low} e _ _ _
    (words-groups _ 32 (inl refl) 10 c.line_words.result c.line_words.ensures
    (below {q = Low} e c.args.registers.now c.requires.registers_value))

pub returns-in-Medium : goal.returns-in-Medium
returns-in-Medium c =
    let e = c.in-Medium.is in
    c.put_words-in-Medium.ensures
    ∙ made {q = Medium} e _ _ _
    (words-groups _ 64 (inr (inl refl)) 10 c.line_words-in-Medium.result c.line_words-in-Medium.ensures
    (below {q = Medium} e c.args.registers.now c.requires.registers_value))

pub returns-in-High : goal.returns-in-High
returns-in-High c =
    let e = c.in-High.is in
    c.put_words-in-High.ensures
    ∙ made {q = High} e _ _ _
    (words-groups _ 128 (inr (inr refl)) 5 c.line_words-in-High.result c.line_words-in-High.ensures
    (below {q = High} e c.args.registers.now c.requires.registers_value))
