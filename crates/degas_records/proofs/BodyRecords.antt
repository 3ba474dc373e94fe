-- The records of a body are determined by the file's bytes from one offset up to another.
use mathlib.Core.Path.{◌≡◌, refl, sym, ap₂, ◌∙◌}
use Prim.Native.Nat.{ℕ, ◌+◌, ◌≤◌, ◌<◌}
use native.Mathlib.Omega.{arith}
use mathlib.Core.List.{List, [], ◌∷◌}
use lib.ListN.{get_or}
use Rattle.packbits.specs.Records.{packed_len, row_len}
use Rattle.packbits.proofs.Records.{control-takes}
use Rattle.degas_records.specs.declared.ListedRecord.{ListedRecord}
use Rattle.degas_records.specs.BodyRecords.{control_at, BodyRecords}

module _ (file : List ℕ) (width : ℕ) where
  -- the next record stands further on
  further : (at : ℕ) → at < at + packed_len (control_at file at)
  further at = let some = control-takes (get_or file at 0) in omega arith

  from-to : (at made end : ℕ) (es : List ListedRecord) → BodyRecords file width at made es end → at ≤ end
  from-to at made end [] e = omega (arith, e)
  from-to at made end (e ∷ es) h =
      let more = from-to (at + packed_len (control_at file at)) (made + row_len (control_at file at)) end es h.1 in
      let on = further at in
      omega arith

  -- two lists of the records from one offset up to another are the same
  pub records-determined : (at made end : ℕ) (es fs : List ListedRecord) → BodyRecords file width at made es end
      → BodyRecords file width at made fs end → es ≡ fs
  records-determined at made end [] [] g h = refl
  records-determined at made end [] (f ∷ fs) g h =
      let past = from-to (at + packed_len (control_at file at)) (made + row_len (control_at file at)) end fs h.1 in
      let on = further at in
      absurd (omega (arith, g))
  records-determined at made end (e ∷ es) [] g h =
      let past = from-to (at + packed_len (control_at file at)) (made + row_len (control_at file at)) end es g.1 in
      let on = further at in
      absurd (omega (arith, h))
  records-determined at made end (e ∷ es) (f ∷ fs) g h =
      ap₂ (λ (x : ListedRecord) (xs : List ListedRecord). x ∷ xs) (g.0 ∙ sym h.0)
      (records-determined (at + packed_len (control_at file at)) (made + row_len (control_at file at)) end es fs g.1 h.1)
