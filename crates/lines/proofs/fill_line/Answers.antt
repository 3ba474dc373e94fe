use Rattle.std.proofs.Common.{◌≡◌, ℕ, ◌*◌, List, sym, ap, ◌∙◌}
use Rattle.lists.specs.Bytes.{Bytes}
use Rattle.lists.specs.Over.{over}
use Rattle.resolution.specs.declared.Resolution.{Resolution}
use Rattle.resolution.specs.declared.Resolution.TheVariants.{Low, Medium, High}
use Rattle.resolution.specs.Shapes.{planes_of, groups_of, line_bytes_of}
use Rattle.lines.specs.Registers.{scan_line}
use Rattle.lines.specs.Columns.{groups_line}
use Rattle.lines.proofs.Columns.{groups_line-scan_line}
use Rattle.lines.proofs.fill_line.Goals as goal

-- at the resolution that was matched
module _ {r q : Resolution} (e : r ≡ q) where
  -- its groups are the scan line
  copied : (s out : List ℕ) (y : ℕ) → Bytes s
      → over (groups_line s (y * line_bytes_of q) (planes_of q) (groups_of q)) out ≡ over (scan_line s r y) out
  copied s out y bytes =
      ap (λ (l : List ℕ). over l out)
      (groups_line-scan_line s q y bytes ∙ ap (λ (r : Resolution). scan_line s r y) (sym e))

pub returns-in-Low : goal.returns-in-Low
returns-in-Low c = c.copy_groups.ensures ∙ copied {q = Low} c.in-Low.is _ _ _ (λ i. (c.type_inv.screen i).fits)

pub returns-in-Medium : goal.returns-in-Medium
returns-in-Medium c = c.copy_groups-in-Medium.ensures ∙ copied {q = Medium} c.in-Medium.is _ _ _ (λ i. (c.type_inv.screen i).fits)

pub returns-in-High : goal.returns-in-High
returns-in-High c = c.copy_groups-in-High.ensures ∙ copied {q = High} c.in-High.is _ _ _ (λ i. (c.type_inv.screen i).fits)
