-- Sections expanded run by run: the loop's invariant and its laws.
use Rattle.std.specs.Prelude.{Option}
use mathlib.Core.Path.{◌≡◌, refl, sym, ap, ◌∙◌}
use Prim.Native.Nat.{ℕ, ◌+◌, ◌-◌, ◌*◌, ◌≤◌, ◌<◌}
use native.Mathlib.Nat.{add-zero}
use native.Mathlib.Omega.{arith}
use mathlib.Core.Bool.{Bool, true, false, cond}
use mathlib.Core.List.{List, ◌++◌, flatten}
use borrow.Rule.Slice.PartMut.{put_mid}
use lib.ListN.{length, get_or, take, drop, replicate, length-append, length-drop, get_or-replicate}
use lib.ListN.{drop_of_length-le, get_or-append}
use lib.Seq.{drop-drop, drop_at, get_or-take, get_or-drop}
use Rattle.lists.specs.Over.{over}
use Rattle.lists.specs.Tabulate.{tabulate}
use Rattle.lists.proofs.Parts.{tail-part}
use Rattle.lists.proofs.Tabulate.{length-tabulate, get_or-tabulate}
use Rattle.outcome.specs.declared.Reason.{Reason}
use Rattle.words.specs.Word.{word_at, words_at, words_bytes}
use Rattle.tiny_runs.specs.Runs.{Standing, run_at, words_made, source_of}
use Rattle.outcome.specs.Refusal.{number_if}
use Rattle.tiny_runs.specs.Expansion.{Expansion, no_run, run_before, expand, Counted}
use Rattle.tiny_runs.proofs.Runs.{RunFits, sound-fits}
use Rattle.tiny_runs.proofs.Expansion.{expand-none, expand-whole, expand-fault}
use Rattle.tiny_runs.proofs.WordBytes.{words-piece, words-all}

-- ---- the words of a run, from the data section

pub length-words_at : (n : ℕ) (section : List ℕ) (at : ℕ) → length (words_at n section at) ≡ n
unfolding words_at
length-words_at n section at = length-tabulate n _

module _ (n : ℕ) (section : List ℕ) (taken : ℕ) where
  -- word k of the data words that are left
  data-at : (k : ℕ) → taken + k < n → get_or (drop taken (words_at n section 0)) k 0 ≡ word_at section ((taken + k) * 2)
  unfolding words_at
  data-at k h =
      get_or-drop taken (tabulate n (λ i. word_at section (0 + i * 2))) k 0
      ∙ get_or-tabulate n (λ i. word_at section (0 + i * 2)) (taken + k) 0 h
      ∙ ap (word_at section) (omega arith)

  made_at : (count i : ℕ) (repeats : Bool) → i < count → taken + cond repeats 1 count ≤ n
      → get_or (cond repeats (replicate count (get_or (drop taken (words_at n section 0)) 0 0))
      (take count (drop taken (words_at n section 0)))) i 0
      ≡ word_at section (source_of repeats taken i * 2)
  made_at count i true h k =
      get_or-replicate count i _ 0 h
      ∙ data-at 0 (omega arith)
      ∙ ap (λ (j : ℕ). word_at section (j * 2)) (add-zero taken)
  made_at count i false h k =
      get_or-take count (drop taken (words_at n section 0)) i 0 h ∙ data-at i (omega arith)

-- ---- the invariant

-- what expanding n data words of a section comes to, with room for `most` words
abbrev all : List ℕ → List ℕ → ℕ → ℕ → Expansion
all controls section n most = expand controls (words_at n section 0) most

-- what it comes to once `used` control bytes and `taken` data words are used and `to` words are made
abbrev left : List ℕ → List ℕ → ℕ → ℕ → ℕ → ℕ → ℕ → Expansion
left controls section n most used taken to =
    expand (drop used controls) (drop taken (words_at n section 0)) (most - to)

-- `used` and `taken` of the sections are used by `runs` runs, the bytes of the `to` words that they make are put, and
-- what is left gives the rest of the whole
pub record Expanding (controls section : List ℕ) (n most : ℕ) (out₀ out : List ℕ) (used taken runs to : ℕ) :
    Type 0 where
  pub inside : to ≤ most
  pub within : used ≤ length controls
  pub given : taken ≤ n
  pub few : runs ≤ used
  pub bytes : used + (left controls section n most used taken to).controls ≡ (all controls section n most).controls
  pub words : taken + (left controls section n most used taken to).datas ≡ (all controls section n most).datas
  pub total : runs + (left controls section n most used taken to).runs ≡ (all controls section n most).runs
  pub fault : (left controls section n most used taken to).fault ≡ (all controls section n most).fault
  pub rest : drop to (all controls section n most).made ≡ (left controls section n most used taken to).made
  pub long : to + length (left controls section n most used taken to).made ≡ length (all controls section n most).made
  pub put : out ≡ over (words_bytes (take to (all controls section n most).made)) out₀

pub expanding-start : (controls section : List ℕ) (n most : ℕ) (out : List ℕ)
    → Expanding controls section n most out out 0 0 0 0
unfolding words_bytes flatten
expanding-start controls section n most out =
    let is : left controls section n most 0 0 0 ≡ all controls section n most =
    ap (expand controls (words_at n section 0)) (omega arith) in
    record {
      inside = omega arith;
      within = omega arith;
      given = omega arith;
      few = omega arith;
      bytes = omega (arith, ap (λ (q : Expansion). q.controls) is);
      words = omega (arith, ap (λ (q : Expansion). q.datas) is);
      total = omega (arith, ap (λ (q : Expansion). q.runs) is);
      fault = ap (λ (q : Expansion). q.fault) is;
      rest = sym (ap (λ (q : Expansion). q.made) is);
      long = omega (arith, ap (λ (q : Expansion). length q.made) is);
      put = refl;
    }

module _ {controls section : List ℕ} {n most : ℕ} {out₀ out : List ℕ} {used taken runs to : ℕ}
    (p : Expanding controls section n most out₀ out used taken runs to) where
  abbrev datas : List ℕ
  datas = words_at n section 0

  abbrev whole : List ℕ
  whole = (all controls section n most).made

  to-within : to ≤ length whole
  to-within = omega (arith, p.long)

  -- the next run, at the front of the control bytes that are left, which were lent, judged against the data words that
  -- are left
  module _ {r : Standing}
      (is : r ≡ run_at (take (length controls - used) (drop used controls)) (n - taken) (most - to))
      (h : used < length controls) where
    is-left : r ≡ run_at (drop used controls) (length (drop taken datas)) (most - to)
    is-left =
        is
        ∙ ap (λ (s : List ℕ). run_at s (n - taken) (most - to)) (tail-part controls used)
        ∙ ap (λ (k : ℕ). run_at (drop used controls) k (most - to))
        (omega (arith, length-drop taken datas, length-words_at n section 0))

    some : 0 < length (drop used controls)
    some = omega (arith, length-drop used controls)

    pub left-fault : (r.fault ≡ 0 → ⊥) → left controls section n most used taken to ≡ no_run r.fault
    left-fault e = expand-fault (drop used controls) (drop taken datas) (most - to) r is-left some e

    module _ (ok : r.fault ≡ 0) where
      next-whole : RunFits r (drop used controls) (drop taken datas) (most - to)
      next-whole =
          rw is-left (sound-fits (drop used controls) (drop taken datas) (most - to) (rw is-left at ok))

      -- the run ends within both sections and the room
      pub next_fits : (0 < r.controls) × (used + r.controls ≤ length controls) × (taken + r.datas ≤ n)
          × (to + r.count ≤ most)
      next_fits =
          let w = next-whole in
          let lc : length (drop used controls) ≡ length controls - used = length-drop used controls in
          let ld : length (drop taken datas) ≡ length datas - taken = length-drop taken datas in
          let ln : length datas ≡ n = length-words_at n section 0 in (
            w.takes,
            omega (arith, w.has, p.within),
            omega (arith, w.given, p.given),
            omega (arith, w.fits, p.inside),
          )

      pub next-uses : r.datas ≡ cond r.repeats 1 r.count
      next-uses = next-whole.uses

      abbrev made : List ℕ
      made = words_made r (drop taken datas)

      abbrev then : Expansion
      then = left controls section n most (used + r.controls) (taken + r.datas) (to + r.count)

      left-whole : left controls section n most used taken to ≡ run_before r made then
      left-whole =
          let room : most - to - r.count ≡ most - (to + r.count) = omega arith in
          expand-whole (drop used controls) (drop taken datas) (most - to) r is-left some ok
          ∙ rw (drop-drop r.controls used controls, drop-drop r.datas taken datas, room)

      rest-is : drop to (all controls section n most).made ≡ made ++ then.made
      rest-is = p.rest ∙ ap (λ (q : Expansion). q.made) left-whole

      abbrev value : ℕ → ℕ
      value i = word_at section (source_of r.repeats taken i * 2)

      -- word i of the run
      value-is : (i : ℕ) → i < r.count → value i ≡ get_or whole (to + i) 0
      unfolding words_made
      value-is i l =
          sym (made_at n section taken r.count i r.repeats l
          (omega (arith, next_fits.2, next-uses)))
          ∙ sym (get_or-append made then.made 0 i (omega (arith, next-whole.makes)))
          ∙ sym (ap (λ (l : List ℕ). get_or l i 0) rest-is)
          ∙ get_or-drop to whole i 0

      -- the part of the output behind the words before the run was lent, and given back with the run's words
      pub expanding-turn : (part : List ℕ)
          → part ≡ over (words_bytes (tabulate r.count value)) (take (length out - to * 2) (drop (to * 2) out))
          → Expanding controls section n most out₀ (put_mid (to * 2) (length out - to * 2) out part)
          (used + r.controls) (taken + r.datas) (runs + 1) (to + r.count)
      expanding-turn part e =
          let w = next-whole in
          let lm : length (made ++ then.made) ≡ length made + length then.made = length-append made then.made in
          record {
            inside = next_fits.3;
            within = next_fits.1;
            given = next_fits.2;
            few = omega (arith, w.takes, p.few);
            bytes = omega (arith, ap (λ (q : Expansion). q.controls) left-whole, p.bytes);
            words = omega (arith, ap (λ (q : Expansion). q.datas) left-whole, p.words);
            total = omega (arith, ap (λ (q : Expansion). q.runs) left-whole, p.total);
            fault = sym (ap (λ (q : Expansion). q.fault) left-whole) ∙ p.fault;
            rest =
                sym (drop-drop r.count to (all controls section n most).made)
                ∙ ap (drop r.count) rest-is
                ∙ drop_at made then.made r.count w.makes;
            long = omega (arith, ap (λ (q : Expansion). length q.made) left-whole, lm, w.makes, p.long);
            put =
                words-piece whole out₀ out to to-within p.put r.count value part
                (omega (arith, ap (λ (q : Expansion). length q.made) left-whole, lm, w.makes, p.long)) value-is e;
          }

  -- no control byte is left
  pub left-none : length controls ≤ used → left controls section n most used taken to ≡ no_run 0
  left-none h = rw (drop_of_length-le controls h) (expand-none (drop taken datas) (most - to))

  -- the answer, where no control byte is left or the next run is at fault
  module _ (number : ℕ) (stop : left controls section n most used taken to ≡ no_run number) where
    words-is : length (all controls section n most).made ≡ to
    words-is = omega (arith, ap (λ (q : Expansion). length q.made) stop, p.long)

    pub counts-done : (fault : Option Reason) → number_if fault ≡ number → Counted (record {
      controls = record { 0 = used };
      datas = record { 0 = taken };
      runs = runs;
      words = to;
      fault = fault;
    }) (all controls section n most)
    counts-done fault is = record {
      fault = is ∙ sym (ap (λ (q : Expansion). q.fault) stop) ∙ p.fault;
      controls = omega (arith, ap (λ (q : Expansion). q.controls) stop, p.bytes);
      datas = omega (arith, ap (λ (q : Expansion). q.datas) stop, p.words);
      runs = omega (arith, ap (λ (q : Expansion). q.runs) stop, p.total);
      words = sym words-is;
    }

    pub put-done : out ≡ over (words_bytes whole) out₀
    put-done = words-all whole out₀ out to to-within p.put (omega (arith, words-is))
