-- A refusal of a colour map has a number.
use Rattle.std.specs.Prelude.{Ok, Err, ⊤}
use mathlib.Core.Path.{◌≡◌, refl}
use mathlib.Core.Logic.{inl, inr}
use mathlib.Core.Bool.{Bool, true, false}
use mathlib.Core.List.{List}
use Prim.Native.Nat.{ℕ}
use native.Mathlib.Omega.{arith}
use lib.ListN.{length}
use lib.Dec.{ltb}
use Rattle.outcome.specs.declared.Refusal.{Refusal}
use Rattle.outcome.specs.Outcome.{Outcome, refuse_if, map, bind, Judged}
use Rattle.outcome.specs.Refusal.{area_too_short, size_mismatch}
use Rattle.spectrum_colour_map.specs.Palettes.{judge_palettes, palettes}
use Rattle.spectrum_colour_map.specs.ColourMap.{palette_count, palette_words, no_palette, judge_map, read_map}
use Rattle.spectrum_colour_map.proofs.StopsPalettes.{PaletteNumber, palettes-number}

abbrev Any : {A : Type 0} → A → Type 0
Any a = ⊤

numbered : (number : ℕ) → PaletteNumber number → number ≡ 0 → ⊥
numbered number (inl six) e = omega arith
numbered number (inr fifteen) e = omega arith

pub read-numbered : (file : List ℕ) (at area : ℕ) → Judged Any (read_map file at area)
unfolding read_map judge_map
read-numbered file at area =
    go (ltb area palette_words) (judge_palettes palette_count file at) (palettes-number file palette_count at)
    (λ end. ltb end (length file))
  where
    go : (short : Bool) (o : Outcome ℕ) → ((why : Refusal) → o ≡ Err why → PaletteNumber why.number)
        → (more : ℕ → Bool)
        → Judged Any (refuse_if short area_too_short (map (λ _. palettes palette_count file at no_palette)
        (bind o (λ end. refuse_if (more end) size_mismatch (Ok end)))))
    go true o f more = λ e. omega arith
    go false (Err why) f more = numbered why.number (f why refl)
    go false (Ok end) f more = last (more end)
      where
        last : (longer : Bool) → Judged Any (map (λ _. palettes palette_count file at no_palette)
            (refuse_if longer size_mismatch (Ok end)))
        last true = λ e. omega arith
        last false = tt
