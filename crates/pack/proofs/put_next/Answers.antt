-- `pack::put_next`: each branch is one case of `control_at`.
use mathlib.Core.Path.{◌≡◌, refl, ap, ◌∙◌}
use Prim.Native.Nat.{ℕ, ◌-◌, ◌≤◌, ◌<◌}
use native.Mathlib.Omega.{arith}
use borrow.Author.Tests.{lt-ltb, le-ltb}
use Rattle.pack.specs.declared.Ahead.{Ahead}
use Rattle.pack.specs.Controls.{shown_by}
use Rattle.pack.specs.ShortRuns.{control_at}
use Rattle.pack.proofs.Records.{literal-shown, repeat-shown, puts-literal, puts-repeat}
use Rattle.pack.proofs.put_next.Goals as goal

-- the control byte of the literal, and the bytes after it
literal-here : (i : ℕ) (s : Ahead) → i < s.single → s.single ≤ 128
    → (control_at i s ≡ s.single - i - 1) × (shown_by (control_at i s) ≡ s.single - i)
literal-here i s h l =
    let e : control_at i s ≡ s.single - i - 1 = rw (lt-ltb i s.single h) refl in
    (e, ap shown_by e ∙ (literal-shown (s.single - i) (omega arith) (omega arith)).0)

-- those of a pair
pair-here : (i : ℕ) (s : Ahead) → s.single ≤ i → (control_at i s ≡ 255) × (shown_by (control_at i s) ≡ 1)
pair-here i s h =
    let e : control_at i s ≡ 255 = rw (le-ltb i s.single h) refl in
    (e, ap shown_by e ∙ (repeat-shown 2 (omega arith) (omega arith)).0)

pub put_bytes-made-requires : goal.put_bytes-made-requires
put_bytes-made-requires c =
    let k = literal-here c.args.i c.args.s c.if-i-s.true c.requires.single_bound.0 in
    let r = c.requires.s_in_bounds in
    (omega arith, omega (arith, c.requires.single_bound.0), omega (arith, k, r.0), omega (arith, k, r.1))

pub returns-then-i-s : goal.returns-then-i-s
returns-then-i-s c =
    let a = c.args in
    let q = c.put_bytes-made in
    let k = literal-here a.i a.s c.if-i-s.true c.requires.single_bound.0 in
    let p =
    puts-literal (control_at a.i a.s) (a.s.single - a.i) a.row.now a.out.now q.new.out q.result k.0 (omega arith)
    (omega (arith, c.requires.single_bound.0)) (omega (arith, k, c.requires.s_in_bounds.0)) q.ensures.made
    q.ensures.out_after in
    record { taken_value = p.0; out_after = p.1 }

pub put_repeat-made-requires : goal.put_repeat-made-requires
put_repeat-made-requires c =
    let k = pair-here c.args.i c.args.s c.if-i-s.false in
    (omega arith, omega arith, c.requires.single_bound.1, omega (arith, k, c.requires.s_in_bounds.1))

pub returns : goal.returns
returns c =
    let a = c.args in
    let q = c.put_repeat-made in
    let k = pair-here a.i a.s c.if-i-s.false in
    let p =
    puts-repeat (control_at a.i a.s) 2 a.row.now a.out.now q.new.out q.result k.0 (omega arith) (omega arith)
    c.requires.single_bound.1 q.ensures.made q.ensures.out_after in
    record { taken_value = p.0; out_after = p.1 }
