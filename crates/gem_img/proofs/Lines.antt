-- Laws of lines with scanline runs, as steps that fill the picture.
use Rattle.std.specs.Prelude.{Ok, Err}
use mathlib.Core.Path.{◌≡◌, refl, sym, ap, ◌∙◌}
use mathlib.Core.Bool.{Bool, true, false, not, ◌&&◌}
use mathlib.Core.List.{List}
use Prim.Native.Nat.{ℕ, ◌+◌, ◌-◌, ◌*◌, ◌≤◌, ◌<◌}
use native.Mathlib.Omega.{arith}
use lib.ListN.{length}
use lib.Dec.{leb, eqb}
use borrow.Author.Tests.{eq-eqb, ne_eqb, eqb-true, eqb-false, lt-ltb, le-ltb, leb-true, leb-false}
use Rattle.lists.specs.Repeated.{repeated}
use Rattle.lists.proofs.Cond.{cond-elim, cond-ltb}
use Rattle.lists.proofs.Repeated.{length-repeated}
use Rattle.outcome.specs.declared.Refusal.{Refusal}
use Rattle.outcome.specs.Outcome.{Outcome, map}
use Rattle.outcome.specs.Refusal.{input_ends, wrong_scanline_run}
use Rattle.filling.specs.Filling.{Step, Filling, stopped, after}
use Rattle.filling.proofs.Filling.{fill-full, fill_step, fill-fault, made-most, made_all}
use Rattle.gem_img_records.specs.Records.{record_at, scanline_run_len, fault_at}
use Rattle.gem_img_records.specs.Line.{refusal_at, fill_line}
use Rattle.gem_img_records.proofs.Records.{scanline-known}
use Rattle.gem_img_records.proofs.Line.{without-fault, with-fault, accepted-fault, line-all, line-inside}
use Rattle.gem_img.specs.Lines.{scanline_flag, run_allowed, has_run, run_flag, run_count, run_fault, records_from}
use Rattle.gem_img.specs.Lines.{times_used, line_start, start_line, line_step, lines_left, fill_lines}
use Rattle.gem_img.specs.declared.LineStart.{LineStart}

-- ---- a scanline run

module _ (flag count left : ℕ) where
  pub flag-wrong : (flag ≡ scanline_flag → ⊥) → run_allowed flag count left ≡ false
  flag-wrong h = rw (ne_eqb flag scanline_flag h)

  module _ (right : flag ≡ scanline_flag) where
    pub count_none_lem : count ≡ 0 → run_allowed flag count left ≡ false
    count_none_lem h = rw (eq-eqb flag scanline_flag right, eq-eqb count 0 h)

    pub count_left : (count ≡ 0 → ⊥) → run_allowed flag count left ≡ leb count left
    count_left h = rw (eq-eqb flag scanline_flag right, ne_eqb count 0 h)

-- by its flag and its count
pub allowed_elim : (flag count left : ℕ) (P : Bool → Type 0) → ((flag ≡ scanline_flag → ⊥) → P false)
    → (flag ≡ scanline_flag → count ≡ 0 → P false)
    → (flag ≡ scanline_flag → (count ≡ 0 → ⊥) → left < count → P false)
    → (flag ≡ scanline_flag → (count ≡ 0 → ⊥) → count ≤ left → P true) → P (run_allowed flag count left)
allowed_elim flag count left P wrong none past right =
    go (eqb flag scanline_flag) (eqb count 0) (leb count left) refl refl refl
  where
    go : (a b d : Bool) → eqb flag scanline_flag ≡ a → eqb count 0 ≡ b → leb count left ≡ d → P (a && (not b && d))
    go false b d e f g = wrong (eqb-false flag scanline_flag e)
    go true true d e f g = none (eqb-true flag scanline_flag e) (eqb-true count 0 f)
    go true false false e f g =
        past (eqb-true flag scanline_flag e) (eqb-false count 0 f) (leb-false count left g)
    go true false true e f g =
        right (eqb-true flag scanline_flag e) (eqb-false count 0 f) (leb-true count left g)

pub allowed-known : (flag count left : ℕ) → run_allowed flag count left ≡ true
    → (flag ≡ scanline_flag) × (0 < count) × (count ≤ left)
allowed-known flag count left =
    allowed_elim flag count left (λ b. b ≡ true → (flag ≡ scanline_flag) × (0 < count) × (count ≤ left))
    (λ f e. let z : ◌≡◌ {A = ℕ} 0 1 = cc in absurd (omega arith))
    (λ f c e. let z : ◌≡◌ {A = ℕ} 0 1 = cc in absurd (omega arith))
    (λ f c m e. let z : ◌≡◌ {A = ℕ} 0 1 = cc in absurd (omega arith))
    (λ f c m e. (f, omega arith, m))

module _ (file : List ℕ) (at : ℕ) where
  module _ (plain : has_run file at ≡ false) where
    pub no-run-fault : (left : ℕ) → run_fault file at left ≡ 0
    unfolding run_fault
    no-run-fault left = rw plain

    pub no-run-from : records_from file at ≡ at
    unfolding records_from
    no-run-from = rw plain

    pub no-run-times : times_used file at ≡ 1
    unfolding times_used
    no-run-times = rw plain

  module _ (run : has_run file at ≡ true) where
    pub run-cut : (left : ℕ) → length file - at < scanline_run_len → run_fault file at left ≡ input_ends
    unfolding run_fault
    run-cut left h = rw (run, lt-ltb (length file - at) scanline_run_len h)

    module _ (left : ℕ) (has : scanline_run_len ≤ length file - at) where
      pub run-right : run_allowed (run_flag file at) (run_count file at) left ≡ true → run_fault file at left ≡ 0
      unfolding run_fault
      run-right e = rw (run, le-ltb (length file - at) scanline_run_len has, e)

      pub run-wrong : run_allowed (run_flag file at) (run_count file at) left ≡ false
          → run_fault file at left ≡ wrong_scanline_run
      unfolding run_fault
      run-wrong e = rw (run, le-ltb (length file - at) scanline_run_len has, e)

    -- as a record of its line it is cut too
    pub run-cut-fault : (pattern room : ℕ) → length file - at < scanline_run_len
        → fault_at pattern file at room ≡ input_ends
    unfolding fault_at
    run-cut-fault pattern room h =
        rw (scanline-known (record_at file at) run, lt-ltb (length file - at) scanline_run_len h)

    pub run-from : records_from file at ≡ at + scanline_run_len
    unfolding records_from
    run-from = rw run

    pub run-times : times_used file at ≡ run_count file at
    unfolding times_used
    run-times = rw run

    pub run-known : (left : ℕ) → run_fault file at left ≡ 0
        → (scanline_run_len ≤ length file - at) × (run_allowed (run_flag file at) (run_count file at) left ≡ true)
    unfolding run_fault
    run-known left e =
        cond-ltb
        (λ n. n ≡ 0
        → (scanline_run_len ≤ length file - at) × (run_allowed (run_flag file at) (run_count file at) left ≡ true))
        (length file - at) scanline_run_len
        (λ h z. absurd (omega arith))
        (λ h. cond-elim
        (λ n. n ≡ 0
        → (scanline_run_len ≤ length file - at) × (run_allowed (run_flag file at) (run_count file at) left ≡ true))
        (run_allowed (run_flag file at) (run_count file at) left) (λ ok z. (h, ok)) (λ bad z. absurd (omega arith)))
        (rw run at e)

  -- a line that is begun is used once at least, and not past the last line
  pub times-bounds : (left : ℕ) → 0 < left → run_fault file at left ≡ 0
      → (0 < times_used file at) × (times_used file at ≤ left)
  times-bounds left h e = go (has_run file at) refl
    where
      go : (b : Bool) → has_run file at ≡ b → (0 < times_used file at) × (times_used file at ≤ left)
      go false plain = let t = no-run-times plain in (omega (arith, t), omega (arith, t))
      go true run =
          let k = allowed-known (run_flag file at) (run_count file at) left (run-known run left e).1 in
          rw (run-times run) (k.1, k.2)

  -- and its records begin in the file
  pub from-inside : (left : ℕ) → at ≤ length file → run_fault file at left ≡ 0 → records_from file at ≤ length file
  from-inside left h e = go (has_run file at) refl
    where
      go : (b : Bool) → has_run file at ≡ b → records_from file at ≤ length file
      go false plain = rw (no-run-from plain) h
      go true run = omega (arith, (run-known run left e).0, run-from run)

-- ---- a line as a step

pub used-once : (line : List ℕ) → repeated 1 line ≡ line
unfolding repeated
used-once line = refl

module _ (pattern bytes : ℕ) (file : List ℕ) where
  -- the line at an offset, used once
  abbrev pub line_at : ℕ → Filling
  line_at at = fill_line pattern file (records_from file at) bytes

  -- its step, where it ends at an offset
  abbrev pub step_to : ℕ → ℕ → Step
  step_to at next =
      record { next = next; filled = times_used file at; made = repeated (times_used file at) (line_at at).made }

  module _ (at left : ℕ) where
    pub run-refused : (run_fault file at left ≡ 0 → ⊥)
        → line_step pattern bytes file at left ≡ Err (refusal_at (run_fault file at left) at)
    unfolding line_step
    run-refused e = with-fault (run_fault file at left) at _ e

    module _ (ok : run_fault file at left ≡ 0) where
      pub line_refused : (why : Refusal) → (line_at at).ends ≡ Err why
          → line_step pattern bytes file at left ≡ Err why
      unfolding line_step
      line_refused why e = without-fault (run_fault file at left) at _ ok ∙ rw e

      pub line-accepted : (next : ℕ) → (line_at at).ends ≡ Ok next
          → line_step pattern bytes file at left ≡ Ok (step_to at next)
      unfolding line_step
      line-accepted next e = without-fault (run_fault file at left) at _ ok ∙ rw e

    -- an accepted step
    pub record Begun (s : Step) : Type 0 where
      pub ok : run_fault file at left ≡ 0
      pub ends : (line_at at).ends ≡ Ok s.next
      pub is : s ≡ step_to at s.next

    mapped : (o : Outcome ℕ) (s : Step) → map (step_to at) o ≡ Ok s
        → (o ≡ Ok s.next) × (s ≡ step_to at s.next)
    mapped (Ok next) s e =
        let same : step_to at next ≡ s = cc in
        (ap (λ (t : Step). Ok t.next) same, sym same ∙ ap (λ (t : Step). step_to at t.next) same)
    mapped (Err why) s e = let z : ◌≡◌ {A = ℕ} 0 1 = cc in absurd (omega arith)

    pub begun : (s : Step) → line_step pattern bytes file at left ≡ Ok s → Begun s
    unfolding line_step
    begun s e =
        let f = accepted-fault (run_fault file at left) at (map (step_to at) (line_at at).ends) s e in
        let m = mapped (line_at at).ends s f.1 in
        record { ok = f.0; ends = m.0; is = m.1 }

  pub step_less : (at left : ℕ) (s : Step) → 0 < left → line_step pattern bytes file at left ≡ Ok s
      → lines_left pattern bytes file s.next (left - s.filled) < lines_left pattern bytes file at left
  step_less at left s h e =
      let b = begun at left s e in
      let t = times-bounds file at left h b.ok in
      omega (arith, t.0, ap (λ (u : Step). u.filled) b.is)

  -- the bytes of a line used as often as its run says
  pub length-made : (at next : ℕ) → (line_at at).ends ≡ Ok next
      → length (repeated (times_used file at) (line_at at).made) ≡ times_used file at * bytes
  length-made at next e =
      length-repeated (times_used file at) (line_at at).made
      ∙ ap (λ (k : ℕ). times_used file at * k) (line-all pattern file (records_from file at) bytes next e)

  sized : (at left : ℕ) (s : Step) → 0 < left → line_step pattern bytes file at left ≡ Ok s
      → (s.filled ≤ left) × (length s.made ≡ s.filled * bytes)
  sized at left s h e =
      let b = begun at left s e in
      let t = times-bounds file at left h b.ok in
      rw b.is (t.1, length-made at s.next b.ends)

  -- ---- the lines

  pub lines-full : (at left : ℕ) → left ≡ 0 → fill_lines pattern bytes file at left ≡ stopped (Ok at)
  unfolding fill_lines
  lines-full = fill-full (line_step pattern bytes file) (lines_left pattern bytes file) step_less

  module _ (at left : ℕ) (h : 0 < left) where
    pub lines-run-fault : (run_fault file at left ≡ 0 → ⊥)
        → fill_lines pattern bytes file at left ≡ stopped (Err (refusal_at (run_fault file at left) at))
    unfolding fill_lines
    lines-run-fault e =
        fill-fault (line_step pattern bytes file) (lines_left pattern bytes file) step_less at left _ h
        (run-refused at left e)

    module _ (ok : run_fault file at left ≡ 0) where
      pub lines-record-fault : (why : Refusal) → (line_at at).ends ≡ Err why
          → fill_lines pattern bytes file at left ≡ stopped (Err why)
      unfolding fill_lines
      lines-record-fault why e =
          fill-fault (line_step pattern bytes file) (lines_left pattern bytes file) step_less at left why h
          (line_refused at left ok why e)

      pub lines_step : (next : ℕ) → (line_at at).ends ≡ Ok next
          → fill_lines pattern bytes file at left
          ≡ after (repeated (times_used file at) (line_at at).made)
          (fill_lines pattern bytes file next (left - times_used file at))
      unfolding fill_lines
      lines_step next e =
          fill_step (line_step pattern bytes file) (lines_left pattern bytes file) step_less at left (step_to at next) h
          (line-accepted at left ok next e)

  -- their bytes are no more than all lines have, and as many where all are made
  pub lines-most : (at left : ℕ) → length (fill_lines pattern bytes file at left).made ≤ left * bytes
  unfolding fill_lines
  lines-most = made-most (line_step pattern bytes file) (lines_left pattern bytes file) step_less bytes sized

  pub lines-all : (at left end : ℕ) → (fill_lines pattern bytes file at left).ends ≡ Ok end
      → length (fill_lines pattern bytes file at left).made ≡ left * bytes
  unfolding fill_lines
  lines-all = made_all (line_step pattern bytes file) (lines_left pattern bytes file) step_less bytes sized

  -- ---- a turn of the loop: the line that starts at an offset, and its records

  -- it starts
  pub record Started (at left : ℕ) (s : LineStart) : Type 0 where
    pub ok : run_fault file at left ≡ 0
    pub is : line_start file at ≡ s
    pub some : 0 < s.times
    pub few : s.times ≤ left

  module _ (at left : ℕ) (h : 0 < left) where
    -- it does not
    pub lines-unstarted : (why : Refusal) → start_line file at left ≡ Err why
        → fill_lines pattern bytes file at left ≡ stopped (Err why)
    lines-unstarted why e =
        let s : Outcome LineStart = Ok (line_start file at) in
        let bad : run_fault file at left ≡ 0 → ⊥ =
        λ z. (let both : s ≡ Err why = sym (without-fault (run_fault file at left) at s z) ∙ e in cc) in
        let same : refusal_at (run_fault file at left) at ≡ why =
        (let both : Err (refusal_at (run_fault file at left) at) ≡ Err why =
        sym (with-fault (run_fault file at left) at s bad) ∙ e in cc) in
        lines-run-fault at left h bad ∙ ap (λ (w : Refusal). stopped (Err w)) same

    pub started : (s : LineStart) → start_line file at left ≡ Ok s → Started at left s
    started s e =
        let f = accepted-fault (run_fault file at left) at (Ok (line_start file at)) s e in
        let same : Ok (line_start file at) ≡ Ok s = f.1 in
        let is : line_start file at ≡ s = cc in
        let t = times-bounds file at left h f.0 in
        record { ok = f.0; is = is; some = rw (← is) t.0; few = rw (← is) t.1 }

    module _ (s : LineStart) (b : Started at left s) where
      abbrev pub records : Filling
      records = fill_line pattern file s.first bytes

      pub lines-broken : (why : Refusal) → records.ends ≡ Err why
          → fill_lines pattern bytes file at left ≡ stopped (Err why)
      lines-broken why e = lines-record-fault at left h b.ok why (rw (← b.is) at e)

      module _ (next : ℕ) (e : records.ends ≡ Ok next) where
        pub lines-turn : fill_lines pattern bytes file at left
            ≡ after (repeated s.times records.made) (fill_lines pattern bytes file next (left - s.times))
        lines-turn = rw (← b.is) (lines_step at left h b.ok next (rw (← b.is) at e))

        pub turn-length : length (repeated s.times records.made) ≡ s.times * bytes
        turn-length = rw (← b.is) (length-made at next (rw (← b.is) at e))

        pub turn-inside : at ≤ length file → next ≤ length file
        turn-inside i = line-inside pattern file _ bytes next (from-inside file at left i b.ok) (rw (← b.is) at e)
