-- The loop that adds the sizes of sets to counts.
use mathlib.Core.Path.{◌≡◌, sym, ap, ◌∙◌}
use mathlib.Core.List.{List}
use native.Mathlib.Decide.{dec_lt}
use native.Mathlib.Nat.{add-zero}
use native.Mathlib.Omega.{arith}
use Prim.Native.Nat.{ℕ, ◌<◌, ◌≤◌, ◌+◌}
use lib.Count.{ones}
use lib.ListN.{length, get_or, take, set, get_or-eq_default}
use lib.Seq.{length-take-le}
use Rattle.lists.specs.Over.{over}
use Rattle.lists.specs.Tabulate.{tabulate}
use Rattle.lists.proofs.Over.{get_or-over-past, tabulate-turn, over_done, over-ext}
use Rattle.lists.proofs.Tabulate.{length-tabulate, get_or-tabulate}
use Rattle.tally.proofs.Ones.{ones-zero}

-- a count with the size of its set added
abbrev pub grown : List ℕ → List ℕ → ℕ → ℕ
grown c s v = get_or c v 0 + ones (get_or s v 0)

module _ (c s : List ℕ) (all : length c ≡ 16) (few : length s ≤ 16) where
  -- past the sets nothing is added
  past : (o : ℕ) → length s ≤ o → get_or (tabulate 16 (grown c s)) o 0 ≡ get_or c o 0
  past o h = go (dec_lt o 16)
    where
      go : Dec (o < 16) → get_or (tabulate 16 (grown c s)) o 0 ≡ get_or c o 0
      go (yes l) =
          get_or-tabulate 16 (grown c s) o 0 l
          ∙ ap (λ (n : ℕ). get_or c o 0 + n) (ap ones (get_or-eq_default s 0 h) ∙ ones-zero)
          ∙ add-zero (get_or c o 0)
      go (no l) =
          let outside : length (tabulate 16 (grown c s)) ≤ o = omega (arith, length-tabulate 16 (grown c s)) in
          get_or-eq_default (tabulate 16 (grown c s)) 0 outside ∙ sym (get_or-eq_default c 0 (omega arith))

  -- after the last turn
  pub done : (out : List ℕ) → out ≡ over (take (length s) (tabulate (length s) (grown c s))) c
      → out ≡ tabulate 16 (grown c s)
  done out is =
      let n : ℕ = length s in
      over_done (tabulate n (grown c s)) c out n (omega (arith, length-tabulate n (grown c s))) is
      ∙ sym
      (over-ext n (grown c s) c (tabulate 16 (grown c s)) (omega arith) (length-tabulate 16 (grown c s) ∙ sym all)
      (λ k l. get_or-tabulate 16 (grown c s) k 0 (omega arith)) past)

  module _ (out : List ℕ) (v : ℕ) (h : v < length s)
      (is : out ≡ over (take v (tabulate (length s) (grown c s))) c) where
    -- a count that is not added to yet
    pub as_before : get_or out v 0 ≡ get_or c v 0
    as_before =
        let t : List ℕ = tabulate (length s) (grown c s) in
        let l : length t ≡ length s = length-tabulate (length s) (grown c s) in
        ap (λ (l : List ℕ). get_or l v 0) is
        ∙ get_or-over-past (take v t) c v 0 (omega (arith, length-take-le v t (omega arith)))

    pub turn : (x : ℕ) → x ≡ get_or out v 0 + ones (get_or s v 0)
        → set out v x ≡ over (take (v + 1) (tabulate (length s) (grown c s))) c
    turn x e =
        tabulate-turn (length s) (grown c s) c out v x h (omega arith) is
        (e ∙ ap (λ (y : ℕ). y + ones (get_or s v 0)) as_before)
