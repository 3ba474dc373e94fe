-- Lines are unpacked exactly as the relations say: all made where `MakesLines` holds, and stopped where `StopsLines`
-- does.
use Rattle.std.specs.Prelude.{Ok, Err}
use Rattle.outcome.specs.Outcome.{Outcome}
use mathlib.Core.Path.{◌≡◌, refl, sym, ap, ap₂, ◌∙◌, subst}
use mathlib.Core.Bool.{Bool, true, false}
use mathlib.Core.Logic.{◌⊎◌, inl}
use mathlib.Core.List.{List, [], ◌∷◌, ◌++◌}
use Prim.Native.Nat.{ℕ, suc, ◌+◌, ◌-◌, ◌≤◌, ◌<◌}
use native.Mathlib.Omega.{arith}
use native.Mathlib.Nat.{add-zero}
use lib.ListN.{length, get_or, drop, length-drop}
use lib.Seq.{get_or-drop, drop-drop}
use lib.Dec.{eqb}
use borrow.Author.Tests.{eqb-true, eqb-false, le-leb, lt-leb}
use Rattle.lists.specs.Bytes.{Bytes}
use Rattle.lists.specs.Repeated.{repeated}
use Rattle.lists.proofs.Cond.{cond-ltb}
use Rattle.outcome.specs.declared.Refusal.{Refusal}
use Rattle.outcome.specs.Refusal.{input_ends, wrong_scanline_run}
use Rattle.filling.specs.Filling.{Step, Filling, stopped, after}
use Rattle.filling.proofs.Filling.{by-steps}
use Rattle.gem_img_records.specs.Records.{record_at, scanline_run_len, fault_at}
use Rattle.gem_img_records.specs.Line.{refusal_at, fill_line}
use Rattle.gem_img_records.specs.MakesLine.{MakesLine, full, and_record}
use Rattle.gem_img_records.specs.WholeRecord.{WholeRecord}
use Rattle.gem_img_records.specs.StopsLine.{FaultyRecord, StopsLine, here}
use Rattle.gem_img_records.specs.StopsLine as stops
use Rattle.gem_img_records.proofs.Records.{scanline-known, scanline-zeros, control-scanline, not-run}
use Rattle.gem_img_records.proofs.WholeRecord.{record-front, fault-front, whole-counted, faulty-judged}
use Rattle.gem_img_records.proofs.WholeRecord.{faulty-numbers}
use Rattle.gem_img_records.proofs.MakesLine.{Stands, faulty-at, StoppedAt, line-makes, line-stops, makes-line}
use Rattle.gem_img_records.proofs.MakesLine.{stops-line}
use Rattle.gem_img_records.proofs.Line.{line-inside}
use Rattle.gem_img.specs.Lines.{run_allowed, has_run, run_flag, run_count, run_fault, records_from}
use Rattle.gem_img.specs.Lines.{times_used, line_step, lines_left, fill_lines}
use Rattle.gem_img.specs.MakesLines.{MakesLines, no_line, once, times}
use Rattle.gem_img.specs.StopsLines.{NoWholeRun, StopsLines, flag_wrong, count_none, past_last, in_line, after_run}
use Rattle.gem_img.specs.StopsLines.{after_line, after_times}
use Rattle.gem_img.proofs.Lines.{allowed_elim, allowed-known, flag-wrong, count_none_lem, count_left}
use Rattle.gem_img.proofs.Lines.{no-run-fault, no-run-from, no-run-times, run-cut}
use Rattle.gem_img.proofs.Lines.{run-right, run-wrong, run-from, run-times, run-known, run-cut-fault}
use Rattle.gem_img.proofs.Lines.{from-inside, line_at, step_to, run-refused, line_refused, line-accepted, begun}
use Rattle.gem_img.proofs.Lines.{used-once, step_less, lines-full, lines-run-fault, lines-record-fault}
use Rattle.gem_img.proofs.Lines.{lines_step}

-- ---- a scanline run by its bytes

module _ (file : List ℕ) (at : ℕ) where
  -- two bytes 00 begin one
  run-front : (flag count : ℕ) (rest : List ℕ) → drop at file ≡ 0 ∷ 0 ∷ flag ∷ count ∷ rest → has_run file at ≡ true
  unfolding record_at
  run-front flag count rest e = rw (record-front file at, e, control-scanline 0 0 refl refl)

  -- its four bytes, and what stands behind them
  pub record RunBytes (flag count : ℕ) (rest : List ℕ) : Type 0 where
    pub run : has_run file at ≡ true
    pub has : scanline_run_len ≤ length file - at
    pub flag_is : run_flag file at ≡ flag
    pub count-is : run_count file at ≡ count
    pub behind : drop (at + scanline_run_len) file ≡ rest
    pub inside : at + scanline_run_len ≤ length file

  run-bytes : (flag count : ℕ) (rest : List ℕ) → drop at file ≡ 0 ∷ 0 ∷ flag ∷ count ∷ rest
      → RunBytes flag count rest
  run-bytes flag count rest e =
      let size = ap length e in
      record {
        run = run-front flag count rest e;
        has = omega (arith, size, length-drop at file);
        flag_is = sym (get_or-drop at file 2 0) ∙ ap (λ (l : List ℕ). get_or l 2 0) e;
        count-is = sym (get_or-drop at file 3 0) ∙ ap (λ (l : List ℕ). get_or l 3 0) e;
        behind = sym (drop-drop 4 at file) ∙ ap (drop 4) e;
        inside = omega (arith, size, length-drop at file);
      }

  -- and the bytes from the run
  run-split : has_run file at ≡ true → scanline_run_len ≤ length file - at
      → drop at file ≡ 0 ∷ 0 ∷ run_flag file at ∷ run_count file at ∷ drop (at + scanline_run_len) file
  run-split run has =
      let z = scanline-zeros file at (scanline-known (record_at file at) run) in
      let first : get_or (drop at file) 0 0 ≡ 0 =
      get_or-drop at file 0 0 ∙ ap (λ (k : ℕ). get_or file k 0) (add-zero at) ∙ z.0 in
      four-split (drop at file) 0 0 (run_flag file at) (run_count file at) (omega (arith, length-drop at file)) first
      (get_or-drop at file 1 0 ∙ z.1) (get_or-drop at file 2 0) (get_or-drop at file 3 0)
      ∙ ap (λ (l : List ℕ). 0 ∷ 0 ∷ run_flag file at ∷ run_count file at ∷ l) (drop-drop 4 at file)
    where
      four-split : (l : List ℕ) (a b c d : ℕ) → 4 ≤ length l → get_or l 0 0 ≡ a → get_or l 1 0 ≡ b → get_or l 2 0 ≡ c
          → get_or l 3 0 ≡ d → l ≡ a ∷ b ∷ c ∷ d ∷ drop 4 l
      four-split [] a b c d h e f g k = absurd (omega arith)
      four-split (x ∷ []) a b c d h e f g k = absurd (omega arith)
      four-split (x ∷ y ∷ []) a b c d h e f g k = absurd (omega arith)
      four-split (x ∷ y ∷ z ∷ []) a b c d h e f g k = absurd (omega arith)
      four-split (x ∷ y ∷ z ∷ w ∷ l) a b c d h e f g k = rw (← e, ← f, ← g, ← k)

  -- where none is there, none of four bytes is at the front
  no-whole-run : has_run file at ≡ false → NoWholeRun (drop at file)
  no-whole-run plain flag count rest e =
      let z : true ≡ false = sym (run-front flag count rest e) ∙ plain in
      let y : ◌≡◌ {A = ℕ} 0 1 = cc in
      omega arith

  -- nor where the file ends before
  run_short : length file - at < scanline_run_len → NoWholeRun (drop at file)
  run_short h flag count rest e = omega (arith, ap length e, length-drop at file)

-- ---- the relations from the function

module _ (pattern bytes : ℕ) (file : List ℕ) (all : Bytes file) (wide : 0 < bytes) where
  -- where unpacking lines stopped
  pub record HaltedAt (at n : ℕ) (why : Refusal) : Type 0 where
    pub number : ℕ
    pub place : ℕ
    pub inside : place ≤ length file
    pub is : why ≡ refusal_at number place
    pub stops : StopsLines pattern bytes n (drop at file) number (drop place file)

  -- at the run of a line
  run-halted : (at n : ℕ) → 0 < n → at ≤ length file → (run_fault file at n ≡ 0 → ⊥)
      → StopsLines pattern bytes n (drop at file) (run_fault file at n) (drop at file)
  run-halted at n h inside bad = go (has_run file at) refl
    where
      whole : has_run file at ≡ true → scanline_run_len ≤ length file - at
          → StopsLines pattern bytes n (drop at file) (run_fault file at n) (drop at file)
      whole run has =
          let split = run-split file at run has in
          allowed_elim (run_flag file at) (run_count file at) n
          (λ b. run_allowed (run_flag file at) (run_count file at) n ≡ b → StopsLines pattern bytes n (drop at file)
          (run_fault file at n) (drop at file))
          (λ f e. rw (run-wrong file at run n has e, split) (flag_wrong h f))
          (λ f c e. rw (run-wrong file at run n has e, split, f, c) (count_none h))
          (λ f c m e. rw (run-wrong file at run n has e, split, f) (past_last h m))
          (λ f c m e. absurd (bad (run-right file at run n has e)))
          refl

      go : (b : Bool) → has_run file at ≡ b
          → StopsLines pattern bytes n (drop at file) (run_fault file at n) (drop at file)
      go false plain = absurd (bad (no-run-fault file at plain n))
      go true run =
          cond-ltb {A = ℕ} (λ u. StopsLines pattern bytes n (drop at file) (run_fault file at n) (drop at file)) {a = 0}
          {b = 0} (length file - at) scanline_run_len
          (λ short.
          let cut : fault_at pattern file at bytes ≡ input_ends = run-cut-fault file at run pattern bytes short in
          let f : FaultyRecord pattern bytes (drop at file) input_ends =
          subst (λ (k : ℕ). FaultyRecord pattern bytes (drop at file) k) cut
          (faulty-at pattern file all at bytes (λ z. let y : input_ends ≡ 0 = sym cut ∙ z in omega arith)) in
          rw (run-cut file at run n short) (in_line h (run_short file at short) (here wide f)))
          (λ has. whole run has)

  -- of its other records
  record-halted : (at n : ℕ) (why : Refusal) → 0 < n → at ≤ length file → run_fault file at n ≡ 0
      → (line_at pattern bytes file at).ends ≡ Err why → HaltedAt at n why
  record-halted at n why h inside ok e = go (has_run file at) refl
    where
      t : StoppedAt pattern file all (records_from file at) bytes why
      t = line-stops pattern file all (records_from file at) bytes why (from-inside file at n inside ok) e

      go : (b : Bool) → has_run file at ≡ b → HaltedAt at n why
      go false plain =
          record {
            number = t.number;
            place = t.place;
            inside = t.inside;
            is = t.is;
            stops =
                in_line h (no-whole-run file at plain)
                (subst (λ (k : ℕ). StopsLine pattern bytes (drop k file) t.number (drop t.place file))
                (no-run-from file at plain) t.stops);
          }
      go true run =
          let k = run-known file at run n ok in
          let b = allowed-known (run_flag file at) (run_count file at) n k.1 in
          record {
            number = t.number;
            place = t.place;
            inside = t.inside;
            is = t.is;
            stops =
                rw (run-split file at run k.0, b.0)
                (after_run b.1 b.2
                (subst (λ (j : ℕ). StopsLine pattern bytes (drop j file) t.number (drop t.place file))
                (run-from file at run) t.stops));
          }

  -- a line that is made, before others
  line_made : (at n next : ℕ) → 0 < n → at ≤ length file → run_fault file at n ≡ 0
      → (line_at pattern bytes file at).ends ≡ Ok next
      → MakesLine pattern bytes (drop (records_from file at) file) (drop next file) (line_at pattern bytes file at).made
  line_made at n next h inside ok e =
      line-makes pattern file all (records_from file at) bytes next (from-inside file at n inside ok) e

  made-before : (at n next end : ℕ) (made : List ℕ) → 0 < n → at ≤ length file → run_fault file at n ≡ 0
      → (line_at pattern bytes file at).ends ≡ Ok next
      → MakesLines pattern bytes (n - times_used file at) (drop next file) (drop end file) made
      → MakesLines pattern bytes n (drop at file) (drop end file)
      (repeated (times_used file at) (line_at pattern bytes file at).made ++ made)
  made-before at n next end made h inside ok e rest = go (has_run file at) refl
    where
      go : (b : Bool) → has_run file at ≡ b → MakesLines pattern bytes n (drop at file) (drop end file)
          (repeated (times_used file at) (line_at pattern bytes file at).made ++ made)
      go false plain =
          let m : MakesLine pattern bytes (drop at file) (drop next file) (line_at pattern bytes file at).made =
          subst (λ (k : ℕ). MakesLine pattern bytes (drop k file) (drop next file) (line_at pattern bytes file at).made)
          (no-run-from file at plain) (line_made at n next h inside ok e) in
          let r : MakesLines pattern bytes (n - 1) (drop next file) (drop end file) made =
          subst (λ (k : ℕ). MakesLines pattern bytes (n - k) (drop next file) (drop end file) made)
          (no-run-times file at plain) rest in
          let up : suc (n - 1) ≡ n = omega arith in
          rw (no-run-times file at plain, used-once (line_at pattern bytes file at).made)
          (subst (λ (k : ℕ). MakesLines pattern bytes k (drop at file) (drop end file)
          ((line_at pattern bytes file at).made ++ made)) up (once (line_at pattern bytes file at).made m r))
      go true run =
          let k = run-known file at run n ok in
          let b = allowed-known (run_flag file at) (run_count file at) n k.1 in
          let m : MakesLine pattern bytes (drop (at + scanline_run_len) file) (drop next file)
          (line_at pattern bytes file at).made =
          subst (λ (j : ℕ). MakesLine pattern bytes (drop j file) (drop next file) (line_at pattern bytes file at).made)
          (run-from file at run) (line_made at n next h inside ok e) in
          let r : MakesLines pattern bytes (n - run_count file at) (drop next file) (drop end file) made =
          subst (λ (j : ℕ). MakesLines pattern bytes (n - j) (drop next file) (drop end file) made)
          (run-times file at run) rest in
          rw (run-times file at run, run-split file at run k.0, b.0)
          (times (line_at pattern bytes file at).made b.1 (all (at + 3)) b.2 m r)

  halted-before : (at n next : ℕ) (why : Refusal) → 0 < n → at ≤ length file → run_fault file at n ≡ 0
      → (line_at pattern bytes file at).ends ≡ Ok next → HaltedAt next (n - times_used file at) why
      → HaltedAt at n why
  halted-before at n next why h inside ok e t = go (has_run file at) refl
    where
      go : (b : Bool) → has_run file at ≡ b → HaltedAt at n why
      go false plain =
          let m : MakesLine pattern bytes (drop at file) (drop next file) (line_at pattern bytes file at).made =
          subst (λ (k : ℕ). MakesLine pattern bytes (drop k file) (drop next file) (line_at pattern bytes file at).made)
          (no-run-from file at plain) (line_made at n next h inside ok e) in
          let r : StopsLines pattern bytes (n - 1) (drop next file) t.number (drop t.place file) =
          subst (λ (k : ℕ). StopsLines pattern bytes (n - k) (drop next file) t.number (drop t.place file))
          (no-run-times file at plain) t.stops in
          let up : suc (n - 1) ≡ n = omega arith in
          record {
            number = t.number;
            place = t.place;
            inside = t.inside;
            is = t.is;
            stops =
                subst (λ (k : ℕ). StopsLines pattern bytes k (drop at file) t.number (drop t.place file)) up
                (after_line (line_at pattern bytes file at).made m r);
          }
      go true run =
          let k = run-known file at run n ok in
          let b = allowed-known (run_flag file at) (run_count file at) n k.1 in
          let m : MakesLine pattern bytes (drop (at + scanline_run_len) file) (drop next file)
          (line_at pattern bytes file at).made =
          subst (λ (j : ℕ). MakesLine pattern bytes (drop j file) (drop next file) (line_at pattern bytes file at).made)
          (run-from file at run) (line_made at n next h inside ok e) in
          let r : StopsLines pattern bytes (n - run_count file at) (drop next file) t.number (drop t.place file) =
          subst (λ (j : ℕ). StopsLines pattern bytes (n - j) (drop next file) t.number (drop t.place file))
          (run-times file at run) t.stops in
          record {
            number = t.number;
            place = t.place;
            inside = t.inside;
            is = t.is;
            stops =
                rw (run-split file at run k.0, b.0)
                (after_times (line_at pattern bytes file at).made b.1 b.2 m r);
          }

  abbrev LinesExact : ℕ → ℕ → Filling → Type 0
  LinesExact at n f =
      at ≤ length file
      → ((end : ℕ) → f.ends ≡ Ok end → MakesLines pattern bytes n (drop at file) (drop end file) f.made)
      × ((why : Refusal) → f.ends ≡ Err why → HaltedAt at n why)

  exact-full : (at : ℕ) → LinesExact at 0 (stopped (Ok at))
  exact-full at h = (
    (λ end e.
        let same : at ≡ end = cc in
        subst (λ (k : ℕ). MakesLines pattern bytes 0 (drop at file) (drop k file) []) same no_line),
    (λ why e. let z : ◌≡◌ {A = ℕ} 0 1 = cc in absurd (omega arith)),
  )

  -- a step that is refused, at its run or at another record
  step-halted : (at n : ℕ) (why : Refusal) → 0 < n → at ≤ length file
      → line_step pattern bytes file at n ≡ Err why → HaltedAt at n why
  step-halted at n why h inside e = go (eqb (run_fault file at n) 0) refl (line_at pattern bytes file at).ends refl
    where
      same : (v w : Refusal) → ◌≡◌ {A = Outcome Step} (Err v) (Err w) → v ≡ w
      same v w p = cc

      go : (b : Bool) → eqb (run_fault file at n) 0 ≡ b → (o : Outcome ℕ) → (line_at pattern bytes file at).ends ≡ o
          → HaltedAt at n why
      go false f o g =
          let bad : run_fault file at n ≡ 0 → ⊥ = eqb-false (run_fault file at n) 0 f in
          record {
            number = run_fault file at n;
            place = at;
            inside = inside;
            is = sym (same _ why (sym (run-refused pattern bytes file at n bad) ∙ e));
            stops = run-halted at n h inside bad;
          }
      go true f (Ok next) g =
          let ok : run_fault file at n ≡ 0 = eqb-true (run_fault file at n) 0 f in
          let y : Ok (step_to pattern bytes file at next) ≡ Err why =
          sym (line-accepted pattern bytes file at n ok next g) ∙ e in
          let z : ◌≡◌ {A = ℕ} 0 1 = cc in
          absurd (omega arith)
      go true f (Err w) g =
          let ok : run_fault file at n ≡ 0 = eqb-true (run_fault file at n) 0 f in
          let is : w ≡ why = same w why (sym (line_refused pattern bytes file at n ok w g) ∙ e) in
          subst (λ (v : Refusal). HaltedAt at n v) is (record-halted at n w h inside ok g)

  exact-fault : (at n : ℕ) (why : Refusal) → 0 < n → line_step pattern bytes file at n ≡ Err why
      → LinesExact at n (stopped (Err why))
  exact-fault at n why h e inside = (
    (λ end f. let z : ◌≡◌ {A = ℕ} 0 1 = cc in absurd (omega arith)),
    (λ w f. let same : why ≡ w = cc in subst (λ (v : Refusal). HaltedAt at n v) same (step-halted at n why h inside e)),
  )

  exact-step : (at n : ℕ) (s : Step) (f : Filling) → 0 < n → line_step pattern bytes file at n ≡ Ok s
      → LinesExact s.next (n - s.filled) f → LinesExact at n (after s.made f)
  exact-step at n s f h ok rest inside =
      let g = begun pattern bytes file at n s ok in
      let next : s.next ≤ length file =
      line-inside pattern file (records_from file at) bytes s.next (from-inside file at n inside g.ok) g.ends in
      let used : s.filled ≡ times_used file at = ap (λ (t : Step). t.filled) g.is in
      let made : s.made ≡ repeated (times_used file at) (line_at pattern bytes file at).made =
      ap (λ (t : Step). t.made) g.is in
      let r = rest next in (
        (λ end e.
            let further : MakesLines pattern bytes (n - times_used file at) (drop s.next file) (drop end file)
            f.made =
            subst (λ (k : ℕ). MakesLines pattern bytes (n - k) (drop s.next file) (drop end file) f.made) used
            (r.0 end e) in
            rw made (made-before at n s.next end f.made h inside g.ok g.ends further)),
        (λ why e.
            halted-before at n s.next why h inside g.ok g.ends
            (subst (λ (k : ℕ). HaltedAt s.next (n - k) why) used (r.1 why e))),
      )

  lines-exact : (at n : ℕ) → LinesExact at n (fill_lines pattern bytes file at n)
  unfolding fill_lines
  lines-exact =
      by-steps (line_step pattern bytes file) (lines_left pattern bytes file) (step_less pattern bytes file) LinesExact
      exact-full exact-fault exact-step

  pub lines-made : (at n end : ℕ) → at ≤ length file → (fill_lines pattern bytes file at n).ends ≡ Ok end
      → MakesLines pattern bytes n (drop at file) (drop end file) (fill_lines pattern bytes file at n).made
  lines-made at n end h = (lines-exact at n h).0 end

  pub lines-halted : (at n : ℕ) (why : Refusal) → at ≤ length file
      → (fill_lines pattern bytes file at n).ends ≡ Err why → HaltedAt at n why
  lines-halted at n why h = (lines-exact at n h).1 why

-- ---- the function from the relations

-- where a whole record stands no scanline run does
record-plain : (pattern : ℕ) (file : List ℕ) (room at : ℕ) {input next made : List ℕ} → Stands file at input
    → WholeRecord pattern input next made → length made ≤ room → has_run file at ≡ false
record-plain pattern file room at a w fits =
    not-run pattern file at room
    (fault-front file at pattern room
    ∙ ap (λ (l : List ℕ). fault_at pattern l 0 room) a.bytes
    ∙ (whole-counted pattern room w fits).ok)

line_plain : (pattern : ℕ) (file : List ℕ) (room at : ℕ) {input next line : List ℕ} → 0 < room → Stands file at input
    → MakesLine pattern room input next line → has_run file at ≡ false
line_plain pattern file room at h a full = absurd (omega arith)
line_plain pattern file room at h a (and_record made k w fits further) = record-plain pattern file room at a w fits

-- a scanline run that is cut short stops its line
stops-cut : (pattern : ℕ) (file : List ℕ) (room at : ℕ) {number : ℕ} {input rest : List ℕ} → Stands file at input
    → has_run file at ≡ true → length file - at < scanline_run_len → StopsLine pattern room input number rest
    → (number ≡ input_ends) × Stands file at rest
stops-cut pattern file room at a run short (here h f) = (
  sym (faulty-judged pattern room f)
      ∙ ap (λ (l : List ℕ). fault_at pattern l 0 room) (sym a.bytes)
      ∙ sym (fault-front file at pattern room)
      ∙ run-cut-fault file at run pattern room short,
  a,
)
stops-cut pattern file room at a run short (stops.and_record made h w fits further) =
    let z : true ≡ false = sym run ∙ record-plain pattern file room at a w fits in
    let y : ◌≡◌ {A = ℕ} 0 1 = cc in
    absurd (omega arith)

module _ (pattern bytes : ℕ) (file : List ℕ) (wide : 0 < bytes) where
  -- a scanline run of the relation, at an offset
  record RunAt (at n count : ℕ) (input : List ℕ) : Type 0 where
    ok : run_fault file at n ≡ 0
    from : records_from file at ≡ at + scanline_run_len
    used : times_used file at ≡ count
    stands : Stands file (at + scanline_run_len) input

  run_at : (at n count : ℕ) {input : List ℕ} → Stands file at (0 ∷ 0 ∷ 255 ∷ count ∷ input) → 0 < count → count ≤ n
      → RunAt at n count input
  run_at at n count {input} a some few =
      let r = run-bytes file at 255 count input a.bytes in
      let c : run_count file at ≡ count = r.count-is in
      let ne : run_count file at ≡ 0 → ⊥ = λ z. omega (arith, c) in
      let allowed : run_allowed (run_flag file at) (run_count file at) n ≡ true =
      count_left (run_flag file at) (run_count file at) n r.flag_is ne
      ∙ le-leb (run_count file at) n (omega (arith, c)) in
      record {
        ok = run-right file at r.run n r.has allowed;
        from = run-from file at r.run;
        used = run-times file at r.run ∙ c;
        stands = record { bytes = r.behind; inside = r.inside };
      }

  -- a scanline run that is a bad one
  run-bad : (at n flag count : ℕ) {rest : List ℕ} → Stands file at (0 ∷ 0 ∷ flag ∷ count ∷ rest) → 0 < n
      → run_allowed flag count n ≡ false
      → (fill_lines pattern bytes file at n).ends ≡ Err (refusal_at wrong_scanline_run at)
  run-bad at n flag count {rest} a h bad =
      let r = run-bytes file at flag count rest a.bytes in
      let not-allowed : run_allowed (run_flag file at) (run_count file at) n ≡ false = rw (r.flag_is, r.count-is) bad in
      let e : run_fault file at n ≡ wrong_scanline_run = run-wrong file at r.run n r.has not-allowed in
      let some : run_fault file at n ≡ 0 → ⊥ = λ z. let y : wrong_scanline_run ≡ 0 = sym e ∙ z in omega arith in
      ap (λ (f : Filling). f.ends) (lines-run-fault pattern bytes file at n h some)
      ∙ ap (λ (k : ℕ). Err (refusal_at k at)) e

  -- a line of the relation, used so many times
  record LineAt (at n count : ℕ) (next line : List ℕ) : Type 0 where
    to : ℕ
    stands : Stands file to next
    fills : fill_lines pattern bytes file at n
        ≡ after (repeated count line) (fill_lines pattern bytes file to (n - count))

  line-at : (at n count from : ℕ) {input next line : List ℕ} → 0 < n → run_fault file at n ≡ 0
      → records_from file at ≡ from → times_used file at ≡ count → Stands file from input
      → MakesLine pattern bytes input next line → LineAt at n count next line
  line-at at n count from {input} {next} {line} h ok start used a m =
      let f = makes-line pattern file from a m in
      let same : line_at pattern bytes file at ≡ record { made = line; ends = Ok f.end } =
      ap (λ (k : ℕ). fill_line pattern file k bytes) start ∙ f.fills in
      record {
        to = f.end;
        stands = f.stands;
        fills =
            lines_step pattern bytes file at n h ok f.end (ap (λ (g : Filling). g.ends) same)
            ∙ ap₂ (λ (k : ℕ) (g : Filling).
            after (repeated k g.made) (fill_lines pattern bytes file f.end (n - k))) used same;
      }

  once-at : (at n : ℕ) {input next line : List ℕ} → Stands file at input → MakesLine pattern bytes input next line
      → LineAt at (suc n) 1 next line
  once-at at n a m =
      let plain = line_plain pattern file bytes at wide a m in
      line-at at (suc n) 1 at (omega arith) (no-run-fault file at plain (suc n)) (no-run-from file at plain)
      (no-run-times file at plain) a m

  times-at : (at n count : ℕ) {input next line : List ℕ} → Stands file at (0 ∷ 0 ∷ 255 ∷ count ∷ input) → 0 < count
      → count ≤ n → MakesLine pattern bytes input next line → LineAt at n count next line
  times-at at n count a some few m =
      let r = run_at at n count a some few in
      line-at at n count (at + scanline_run_len) (omega arith) r.ok r.from r.used r.stands m

  pub record MadeAt (at n : ℕ) (rest made : List ℕ) : Type 0 where
    pub end : ℕ
    pub stands : Stands file end rest
    pub fills : fill_lines pattern bytes file at n ≡ record { made = made; ends = Ok end }

  pub makes-lines : (at : ℕ) {n : ℕ} {input rest made : List ℕ} → Stands file at input
      → MakesLines pattern bytes n input rest made → MadeAt at n rest made
  makes-lines at a no_line = record { end = at; stands = a; fills = lines-full pattern bytes file at 0 refl }
  makes-lines at a (once {n} line m further) =
      let s = once-at at n a m in
      let less : suc n - 1 ≡ n = omega arith in
      let t = makes-lines s.to s.stands further in
      record {
        end = t.end;
        stands = t.stands;
        fills =
            s.fills
            ∙ ap₂ (λ (l : List ℕ) (k : ℕ). after l (fill_lines pattern bytes file s.to k)) (used-once line) less
            ∙ ap (after line) t.fills;
      }
  makes-lines at {n} a (times {count} line some b few m further) =
      let s = times-at at n count a some few m in
      let t = makes-lines s.to s.stands further in
      record { end = t.end; stands = t.stands; fills = s.fills ∙ ap (after (repeated count line)) t.fills }

  pub record StopsAt (at n number : ℕ) (rest : List ℕ) : Type 0 where
    pub place : ℕ
    pub stands : Stands file place rest
    pub ends : (fill_lines pattern bytes file at n).ends ≡ Err (refusal_at number place)

  -- a line that stops, from where its records begin
  stops-from : (at n number from : ℕ) {input rest : List ℕ} → 0 < n → run_fault file at n ≡ 0
      → records_from file at ≡ from → Stands file from input → StopsLine pattern bytes input number rest
      → StopsAt at n number rest
  stops-from at n number from h ok start a s =
      let t = stops-line pattern file from a s in
      let e : (line_at pattern bytes file at).ends ≡ Err (refusal_at number t.place) =
      ap (λ (k : ℕ). (fill_line pattern file k bytes).ends) start ∙ t.ends in
      record {
        place = t.place;
        stands = t.stands;
        ends = ap (λ (f : Filling). f.ends) (lines-record-fault pattern bytes file at n h ok _ e);
      }

  stops-in : (at n number : ℕ) {input rest : List ℕ} → 0 < n → Stands file at input → NoWholeRun input
      → StopsLine pattern bytes input number rest → StopsAt at n number rest
  stops-in at n number {input} {rest} h a none s = go (has_run file at) refl
    where
      cut : has_run file at ≡ true → length file - at < scanline_run_len → StopsAt at n number rest
      cut run short =
          let t = stops-cut pattern file bytes at a run short s in
          let e : run_fault file at n ≡ input_ends = run-cut file at run n short in
          let some : run_fault file at n ≡ 0 → ⊥ = λ z. let y : input_ends ≡ 0 = sym e ∙ z in omega arith in
          record {
            place = at;
            stands = t.1;
            ends =
                ap (λ (f : Filling). f.ends) (lines-run-fault pattern bytes file at n h some)
                ∙ ap (λ (k : ℕ). Err (refusal_at k at)) (e ∙ sym t.0);
          }

      go : (b : Bool) → has_run file at ≡ b → StopsAt at n number rest
      go false plain = stops-from at n number at h (no-run-fault file at plain n) (no-run-from file at plain) a s
      go true run =
          cond-ltb {A = ℕ} (λ u. StopsAt at n number rest) {a = 0} {b = 0} (length file - at) scanline_run_len (cut run)
          (λ has. absurd (none _ _ _ (sym a.bytes ∙ run-split file at run has)))

  pub stops-lines : (at : ℕ) {n number : ℕ} {input rest : List ℕ} → Stands file at input
      → StopsLines pattern bytes n input number rest → StopsAt at n number rest
  stops-lines at {n} a (flag_wrong {flag = flag} {count = count} h f) =
      record { place = at; stands = a; ends = run-bad at n flag count a h (flag-wrong flag count n f) }
  stops-lines at a (count_none {n} h) =
      record { place = at; stands = a; ends = run-bad at n 255 0 a h (count_none_lem 255 0 n refl refl) }
  stops-lines at a (past_last {n} {count} h m) =
      let ne : count ≡ 0 → ⊥ = λ z. omega arith in
      let bad : run_allowed 255 count n ≡ false = count_left 255 count n refl ne ∙ lt-leb count n m in
      record { place = at; stands = a; ends = run-bad at n 255 count a h bad }
  stops-lines at {n} {number} a (in_line h none s) = stops-in at n number h a none s
  stops-lines at {n} {number} a (after_run {count = count} some few s) =
      let r = run_at at n count a some few in
      stops-from at n number (at + scanline_run_len) (omega arith) r.ok r.from r.stands s
  stops-lines at a (after_line {n} line m further) =
      let s = once-at at n a m in
      let less : suc n - 1 ≡ n = omega arith in
      let t = stops-lines s.to s.stands further in
      record {
        place = t.place;
        stands = t.stands;
        ends =
            ap (λ (f : Filling). f.ends) s.fills
            ∙ ap (λ (k : ℕ). (fill_lines pattern bytes file s.to k).ends) less
            ∙ t.ends;
      }
  stops-lines at {n} a (after_times {count} line some few m further) =
      let s = times-at at n count a some few m in
      let t = stops-lines s.to s.stands further in
      record { place = t.place; stands = t.stands; ends = ap (λ (f : Filling). f.ends) s.fills ∙ t.ends }

-- ---- the numbers at which lines stop

pub line-number : (pattern room : ℕ) {number : ℕ} {input rest : List ℕ} → StopsLine pattern room input number rest
    → (number ≡ 22) ⊎ ((number ≡ 6) ⊎ (number ≡ 7))
line-number pattern room (here h f) = faulty-numbers pattern room f
line-number pattern room (stops.and_record made h w fits further) = line-number pattern (room - length made) further

pub stops-number : (pattern bytes n : ℕ) {number : ℕ} {input rest : List ℕ}
    → StopsLines pattern bytes n input number rest → (number ≡ 22) ⊎ ((number ≡ 6) ⊎ (number ≡ 7))
stops-number pattern bytes n (flag_wrong h f) = inl refl
stops-number pattern bytes n (count_none h) = inl refl
stops-number pattern bytes n (past_last h m) = inl refl
stops-number pattern bytes n (in_line h none s) = line-number pattern bytes s
stops-number pattern bytes n (after_run some few s) = line-number pattern bytes s
stops-number pattern bytes n (after_line {n = m} line made s) = stops-number pattern bytes m s
stops-number pattern bytes n (after_times {count} line some few made s) = stops-number pattern bytes (n - count) s
