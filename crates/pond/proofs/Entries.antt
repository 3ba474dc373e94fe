-- Laws of what an entry says of its register's pixels: they are sure, unsure or other.
use mathlib.Core.Path.{◌≡◌, refl}
use mathlib.Core.Bool.{Bool, true, false, cond}
use mathlib.Core.List.{List}
use Prim.Native.Nat.{ℕ, ◌+◌, ◌*◌, ◌≤◌}
use native.Mathlib.Omega.{arith}
use lib.Dec.{leb, eqb}
use lib.ListN.{get_or}
use borrow.Author.Tests.{ne_eqb}
use Rattle.lists.specs.Sum.{sum}
use Rattle.lists.proofs.Sum.{sum-le}
use Rattle.legend.specs.declared.Legend.{Legend}
use Rattle.legend.specs.Entries.{free, is_party, owns, owner_of, class_of, confidence_of}
use Rattle.legend.proofs.Entries.{party-some}
use Rattle.pond.specs.declared.PondCounts.{PondCounts}
use Rattle.pond.specs.Entries.{is_of_class, is_sure, is_unsure, is_other}
use Rattle.pond.specs.Reading.{pixels, entry_counts}

-- the three add up to the register's pixels
pub entry-total : (l : Legend) (party class floor v n : ℕ)
    → pixels (entry_counts l party class floor v n) ≡ n
unfolding entry_counts is_sure is_unsure is_other
entry-total l party class floor v n = go (is_of_class l party class v) (leb floor (confidence_of l v))
  where
    go : (b c : Bool) → cond b (cond c 1 0) 0 * n + cond b (cond c 0 1) 0 * n + cond b 0 1 * n ≡ n
    go true true = omega arith
    go true false = omega arith
    go false c = omega arith

-- v registers of at most b pixels each make at most v * b
pub entries-le : (l : Legend) (party class floor : ℕ) (counts : List ℕ) (b n : ℕ) → ((v : ℕ) → get_or counts v 0 ≤ b)
    → (sum n (λ v. (entry_counts l party class floor v (get_or counts v 0)).sure) ≤ n * b)
    × (sum n (λ v. (entry_counts l party class floor v (get_or counts v 0)).unsure) ≤ n * b)
    × (sum n (λ v. (entry_counts l party class floor v (get_or counts v 0)).other) ≤ n * b)
entries-le l party class floor counts b n h =
    let t : (v : ℕ) → pixels (entry v) ≡ get_or counts v 0 = λ v. entry-total l party class floor v (get_or counts v 0) in (
      sum-le n b (λ v. (entry v).sure) (λ v. omega (arith, t v, h v)),
      sum-le n b (λ v. (entry v).unsure) (λ v. omega (arith, t v, h v)),
      sum-le n b (λ v. (entry v).other) (λ v. omega (arith, t v, h v)),
    )
  where
    entry : ℕ → PondCounts
    entry v = entry_counts l party class floor v (get_or counts v 0)

-- ---- owners

-- neither sure nor unsure
abbrev pub IsOther : Legend → ℕ → ℕ → ℕ → ℕ → Type 0
IsOther l party class floor v =
    (is_sure l party class floor v ≡ 0) × (is_unsure l party class floor v ≡ 0) × (is_other l party class v ≡ 1)

module _ (l : Legend) (party class floor v : ℕ) where
  -- an entry that a party does not own is other to it, whatever class and floor are
  pub unowned-other : owns l party v ≡ false → IsOther l party class floor v
  unfolding is_sure is_unsure is_other
  unowned-other e = rw e (refl, refl, refl)

  -- a free one too, also for class 0 and floor 0
  pub free_other : is_party party ≡ true → owner_of l v ≡ free → IsOther l party class floor v
  free_other known e = unowned-other (rw e (ne_eqb free party (party-some party known)))

  -- in an entry of the party only the class counts: where it owns all 16, a reading is document 01's, without owners
  pub owned-class : owns l party v ≡ true → is_of_class l party class v ≡ eqb (class_of l v) class
  owned-class e = rw e
