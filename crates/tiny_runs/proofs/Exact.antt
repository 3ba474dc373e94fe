-- `expand` uses up both sections without a fault exactly where the relation `Expands` has them.
use mathlib.Core.Path.{◌≡◌, refl, sym, ap, ◌∙◌, subst}
use mathlib.Core.Logic.{◌↔◌}
use Prim.Native.Nat.{ℕ, suc, ◌+◌, ◌-◌, ◌*◌, ◌≤◌, ◌<◌}
use native.Mathlib.Numerals.{one-add}
use native.Mathlib.Omega.{arith}
use mathlib.Core.Bool.{Bool, true, false, cond}
use mathlib.Core.List.{List, [], ◌∷◌, ◌++◌}
use lib.ListN.{length, take, drop, replicate, length-append, length-replicate}
use lib.Dec.{eqb}
use lib.Seq.{length-take-le, take_at, drop_at, take-add, take-length}
use Rattle.lists.specs.Bytes.{Bytes}
use Rattle.lists.proofs.Bytes.{bytes_drop}
use Rattle.words.specs.Word.{word_at}
use Rattle.tiny_runs.specs.Runs.{Standing, least_count, most_count, defined, run_of, run_at, words_made}
use Rattle.tiny_runs.specs.Expansion.{Expansion, run_before, expand}
use Rattle.tiny_runs.specs.Expands.{LongCount, Expands, empty, repeat, literal, long_repeat, long_literal}
use Rattle.tiny_runs.proofs.Runs.{run_long, run-repeat, run-literal, long-defined, run-front, run_fits, by-run}
use Rattle.tiny_runs.proofs.Expansion.{expand-none, expand-whole, by_runs, bounded}

-- no fault: `controls` control bytes and `datas` data words used by `runs` runs, which make these words
abbrev pub filled : ℕ → ℕ → ℕ → List ℕ → Expansion
filled controls datas runs made = record { controls = controls; datas = datas; runs = runs; made = made; fault = 0 }

-- ---- complete: sections of the relation are used up

-- one run r of control byte x, the bytes of its count and its data words, before sections that are used up
filled-step : (r : Standing) (x : ℕ) (count controls taken datas made words : List ℕ) (n room : ℕ)
    → r ≡ run_of x (count ++ controls) → r.fault ≡ 0 → r.controls ≡ suc (length count) → r.datas ≡ length taken
    → r.count ≡ length made → words_made r (taken ++ datas) ≡ made → length (made ++ words) ≤ room
    → expand controls datas (room - r.count) ≡ filled (length controls) (length datas) n words
    → expand (x ∷ count ++ controls) (taken ++ datas) room
    ≡ filled (length (x ∷ count ++ controls)) (length (taken ++ datas)) (suc n) (made ++ words)
filled-step r x count controls taken datas made words n room is ok takes uses makes are fits ih =
    let lm : length (made ++ words) ≡ length made + length words = length-append made words in
    let ld : length (taken ++ datas) ≡ length taken + length datas = length-append taken datas in
    let lc : length (count ++ controls) ≡ length count + length controls = length-append count controls in
    let roomy : (run_of x (count ++ controls)).count ≤ room = rw (← is) (omega arith) in
    let there : (run_of x (count ++ controls)).datas ≤ length (taken ++ datas) = rw (← is) (omega arith) in
    let front : r ≡ run_at (x ∷ count ++ controls) (length (taken ++ datas)) room =
    is ∙ sym (run-front x (count ++ controls) (length (taken ++ datas)) room roomy there) in
    let dc : drop r.controls (x ∷ count ++ controls) ≡ controls =
    rw takes (drop_at count controls (length count) refl) in
    let dd : drop r.datas (taken ++ datas) ≡ datas = drop_at taken datas r.datas (sym uses) in
    let c1 : r.controls + length controls ≡ length (x ∷ count ++ controls) = omega arith in
    let d1 : r.datas + length datas ≡ length (taken ++ datas) = omega arith in
    expand-whole (x ∷ count ++ controls) (taken ++ datas) room r front (omega arith) ok
    ∙ rw (are, dc, dd, ih)
    (ap (λ (k : ℕ). filled k (r.datas + length datas) (suc n) (made ++ words)) c1
    ∙ ap (λ (k : ℕ). filled (length (x ∷ count ++ controls)) k (suc n) (made ++ words)) d1)

made-repeat : (count controls w : ℕ) (datas : List ℕ)
    → words_made (defined true count controls) (w ∷ datas) ≡ replicate count w
unfolding words_made
made-repeat count controls w datas = refl

made-literal : (count controls : ℕ) (datas : List ℕ) → words_made (defined false count controls) datas ≡ take count datas
unfolding words_made
made-literal count controls datas = refl

word-front : (high low : ℕ) (rest : List ℕ) → word_at (high ∷ low ∷ rest) 0 ≡ high * 256 + low
unfolding word_at
word-front high low rest = refl

-- a long run by its count; x is 0 or 1
long-is : (x : ℕ) (high low count : ℕ) (controls : List ℕ) → x < 2 → LongCount high low count
    → run_of x (high ∷ low ∷ controls) ≡ defined (eqb x 0) count 3
long-is x high low count controls h l =
    let e : word_at (high ∷ low ∷ controls) 0 ≡ count = word-front high low controls ∙ sym l.0 in
    run_long x (high ∷ low ∷ controls) h
    ∙ long-defined (eqb x 0) (high ∷ low ∷ controls) (omega arith) (omega (arith, l.1)) (omega (arith, l.2))
    ∙ ap (λ (k : ℕ). defined (eqb x 0) k 3) e

length-repeat : (count w : ℕ) (words : List ℕ) → length (replicate count w ++ words) ≡ count + length words
length-repeat count w words = omega (arith, length-append (replicate count w) words, length-replicate count w)

pub complete : {controls datas words : List ℕ} {n : ℕ} → Expands controls datas words n → (room : ℕ)
    → length words ≤ room → expand controls datas room ≡ filled (length controls) (length datas) n words
complete empty room h = expand-none [] room
complete (repeat {x} {w} {controls} {datas} {words} {n} a b u) room h =
    filled-step (defined true x 1) x [] controls (w ∷ []) datas (replicate x w) words n room
    (sym (run-repeat x controls a b)) refl refl refl (sym (length-replicate x w)) (made-repeat x 1 w datas) h
    (complete u (room - x) (omega (arith, length-repeat x w words)))
complete (literal {x} taken {controls} {datas} {words} {n} a b e u) room h =
    filled-step (defined false (256 - x) 1) x [] controls taken datas taken words n room
    (sym (run-literal x controls a)) refl refl (sym e) (sym e)
    (made-literal (256 - x) 1 (taken ++ datas) ∙ take_at taken datas (256 - x) e) h
    (complete u (room - (256 - x)) (omega (arith, length-append taken words)))
complete (long_repeat {high} {low} {count} {w} {controls} {datas} {words} {n} c u) room h =
    filled-step (defined true count 3) 0 (high ∷ low ∷ []) controls (w ∷ []) datas (replicate count w) words n room
    (sym (long-is 0 high low count controls (omega arith) c)) refl refl refl (sym (length-replicate count w))
    (made-repeat count 3 w datas) h
    (complete u (room - count) (omega (arith, length-repeat count w words)))
complete (long_literal {high} {low} taken {controls} {datas} {words} {n} c u) room h =
    filled-step (defined false (length taken) 3) 1 (high ∷ low ∷ []) controls taken datas taken words n room
    (sym (long-is 1 high low (length taken) controls (omega arith) c)) refl refl refl refl
    (made-literal (length taken) 3 (taken ++ datas) ∙ take_at taken datas (length taken) refl) h
    (complete u (room - length taken) (omega (arith, length-append taken words)))

-- ---- sound: what is used without a fault is of the relation

-- a run before u data words of which the relation has the rest
abbrev Before : ℕ → List ℕ → List ℕ → List ℕ → ℕ → ℕ → Standing → Type 0
Before x rest datas words u n r =
    r.datas ≤ length datas → Expands (drop r.controls (x ∷ rest)) (take u (drop r.datas datas)) words n
    → Expands (x ∷ rest) (take (r.datas + u) datas) (words_made r datas ++ words) (suc n)

before-literal : (x : ℕ) (rest datas words : List ℕ) (u n : ℕ) → 128 < x → x < 256
    → Before x rest datas words u n (defined false (256 - x) 1)
before-literal x rest datas words u n h g has b =
    rw (take-add (256 - x) u datas, made-literal (256 - x) 1 datas)
    (literal (take (256 - x) datas) h g (length-take-le (256 - x) datas has) b)

before-repeat : (x : ℕ) (rest datas words : List ℕ) (u n : ℕ) → 2 ≤ x → x < 128
    → Before x rest datas words u n (defined true x 1)
before-repeat x rest [] words u n h g has b = absurd (omega arith)
before-repeat x rest (w ∷ datas) words u n h g has b = rw (one-add u, made-repeat x 1 w datas) (repeat h g b)

before-long : (repeats : Bool) (rest datas words : List ℕ) (u n : ℕ) → 2 ≤ length rest
    → least_count ≤ word_at rest 0 → word_at rest 0 ≤ most_count
    → Before (cond repeats 0 1) rest datas words u n (defined repeats (word_at rest 0) 3)
before-long repeats [] datas words u n l h k has b = absurd (omega arith)
before-long repeats (high ∷ []) datas words u n l h k has b = absurd (omega arith)
before-long true (high ∷ low ∷ rest) [] words u n l h k has b = absurd (omega arith)
before-long true (high ∷ low ∷ rest) (w ∷ datas) words u n l h k has b =
    rw (one-add u, made-repeat (word_at (high ∷ low ∷ rest) 0) 3 w datas) (long_repeat (word-front high low rest, h, k) b)
before-long false (high ∷ low ∷ rest) datas words u n l h k has b =
    let e = length-take-le (word_at (high ∷ low ∷ rest) 0) datas has in
    rw (take-add (word_at (high ∷ low ∷ rest) 0) u datas, made-literal (word_at (high ∷ low ∷ rest) 0) 3 datas)
    (long_literal (take (word_at (high ∷ low ∷ rest) 0) datas)
    (e ∙ word-front high low rest, omega (arith, e), omega (arith, e)) b)

abbrev Sound : List ℕ → List ℕ → ℕ → Expansion → Type 0
Sound controls datas room p =
    p.fault ≡ 0 → Bytes controls → Expands controls (take p.datas datas) p.made p.runs

sound-run : (x : ℕ) (rest datas : List ℕ) (room : ℕ) (r : Standing) → r ≡ run_of x rest → r.fault ≡ 0
    → r.datas ≤ length datas → (p : Expansion)
    → Sound (drop r.controls (x ∷ rest)) (drop r.datas datas) (room - r.count) p
    → Sound (x ∷ rest) datas room (run_before r (words_made r datas) p)
sound-run x rest datas room r is ok given p s = λ e bytes.
    let left = s e (bytes_drop r.controls (x ∷ rest) bytes) in
    let B = Before x rest datas p.made p.datas p.runs in
    let all : B (run_of x rest) =
    by-run x rest (rw is at ok)
    (λ h g q. subst B (sym q) (before-repeat x rest datas p.made p.datas p.runs h g))
    (λ h q. subst B (sym q) (before-literal x rest datas p.made p.datas p.runs h (bytes 0)))
    (λ repeats c l h k q. subst B (sym q)
    (subst (λ (y : ℕ). Before y rest datas p.made p.datas p.runs (defined repeats (word_at rest 0) 3)) (sym c)
    (before-long repeats rest datas p.made p.datas p.runs l h k)))
    in
    subst B (sym is) all given left

all_sound : (controls datas : List ℕ) (room : ℕ) → Sound controls datas room (expand controls datas room)
all_sound =
    by_runs Sound (λ datas room e bytes. empty) (λ x rest datas room e f. absurd (e f))
    (λ x rest datas room e p s.
    let w = run_fits x rest (length datas) room e in
    sound-run x rest datas room (run_at (x ∷ rest) (length datas) room) w.0 e (rw w.0 w.2) p s)

-- ---- exact: both sections are used up by n runs, which make these words, just where the relation has them

module _ (controls datas : List ℕ) (room : ℕ) (bytes : Bytes controls) where
  -- where no run is at fault and no data word is left
  pub used-up : (expand controls datas room).fault ≡ 0 → (expand controls datas room).datas ≡ length datas
      → Expands controls datas (expand controls datas room).made (expand controls datas room).runs
  used-up ok all =
      let s = all_sound controls datas room ok bytes in
      let e : take (expand controls datas room).datas datas ≡ datas =
      ap (λ (k : ℕ). take k datas) all ∙ take-length datas in
      rw e at s

  pub exact : (n : ℕ) (words : List ℕ)
      → (expand controls datas room ≡ filled (length controls) (length datas) n words)
      ↔ ((length words ≤ room) × Expands controls datas words n)
  exact n words = (forth, λ s. complete s.1 room s.0)
    where
      forth : expand controls datas room ≡ filled (length controls) (length datas) n words
          → (length words ≤ room) × Expands controls datas words n
      forth e =
          let fits = ap (λ (p : Expansion). length p.made) e in
          let s = subst (Sound controls datas room) e (all_sound controls datas room) refl bytes in
          (omega (arith, fits, (bounded controls datas room).fits), rw (take-length datas) at s)
