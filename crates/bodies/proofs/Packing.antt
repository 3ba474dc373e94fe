-- A body packed below a limit: its cases, in the order of judging, and what is accepted.
use Rattle.std.specs.Prelude.{Ok, Err, ⊤}
use mathlib.Core.Path.{◌≡◌, refl, sym, ap, ◌∙◌, subst}
use mathlib.Core.Bool.{true, false}
use mathlib.Core.List.{List, ◌++◌}
use Prim.Native.Nat.{ℕ, ◌+◌, ◌-◌, ◌≤◌, ◌<◌}
use native.Mathlib.Omega.{arith}
use lib.ListN.{length, take, drop}
use lib.Dec.{ltb, leb}
use borrow.Rule.Slice.PartMut.{put_mid}
use borrow.Author.Tests.{lt-ltb, le-ltb, ltb-false}
use Rattle.lists.specs.Over.{over, over_at}
use Rattle.lists.specs.Written.{Written}
use Rattle.lists.proofs.Cond.{cond-elim, cond-leb}
use Rattle.lists.proofs.Parts.{over-put, kept_put}
use Rattle.lists.proofs.Pieces.{written-before}
use Rattle.outcome.specs.declared.Refusal.{Refusal}
use Rattle.outcome.specs.Outcome.{Outcome, refuse, refuse_if, map, later, Judged}
use Rattle.outcome.specs.Refusal.{area_too_short, no_packed_body}
use Rattle.outcome.proofs.Outcome.{passed}
use Rattle.packbits.specs.declared.Packed.{Packed}
use Rattle.packbits.specs.Row.{width_out_of_range}
use Rattle.raster.specs.declared.Raster.{Raster}
use Rattle.raster.specs.Shape.{row_bytes, bytes}
use Rattle.bodies.specs.Body.{judge_raster}
use Rattle.bodies.specs.Packing.{least_body, least_body_records, PackedBody, below_limit, pack_body, body_packed}
use Rattle.bodies.specs.Packing.{packed_output}
use Rattle.bodies.proofs.Answers.{given-known}
use Rattle.bodies.proofs.JudgeRaster.{judge-room, judge-refused, judge-accepted}

module _ (r : Raster) (area : List ℕ) (limit : ℕ) where
  -- the least body, accepted
  abbrev pub packed : PackedBody
  packed = record { body = length (least_body r area); records = least_body_records r area; bytes = least_body r area }

  -- ---- against the limit

  pub limit-long : leb limit (length (least_body r area)) ≡ true → below_limit r area limit ≡ refuse no_packed_body
  limit-long h = rw h

  pub limit-below : leb limit (length (least_body r area)) ≡ false → below_limit r area limit ≡ Ok packed
  limit-below h = rw h

  -- what is accepted is a body as long as it says, below the limit; a refusal has a number
  abbrev pub Below : PackedBody → Type 0
  Below b = (b.body ≡ length b.bytes) × (b.body < limit)

  pub below-judged : Judged Below (below_limit r area limit)
  below-judged = cond-leb (Judged Below) limit (length (least_body r area)) (λ h n. omega arith) (λ h. (refl, h))

  -- ---- all cases

  module _ (at room : ℕ) where
    abbrev judged : Outcome PackedBody
    judged = refuse_if (ltb room (at + (limit - 1))) area_too_short (below_limit r area limit)

    pub pack-refused : (why : Refusal) → judge_raster {A = ⊤} r (length area) (Ok tt) ≡ Err why
        → pack_body r area limit at room ≡ Err why
    unfolding pack_body
    pack-refused why e = judge-refused r (length area) judged why e

    module _ (w : width_out_of_range (row_bytes r) ≡ false) (full : bytes r ≤ length area) where
      pub pack-no-room : room < at + (limit - 1) → pack_body r area limit at room ≡ refuse area_too_short
      unfolding pack_body
      pack-no-room h = judge-room r (length area) judged w full ∙ rw (lt-ltb room (at + (limit - 1)) h)

      pub pack-room : at + (limit - 1) ≤ room → pack_body r area limit at room ≡ below_limit r area limit
      unfolding pack_body
      pack-room h = judge-room r (length area) judged w full ∙ rw (le-ltb room (at + (limit - 1)) h)

    -- what is accepted has room
    pub packed-room : (b : PackedBody) → pack_body r area limit at room ≡ Ok b → at + (limit - 1) ≤ room
    unfolding pack_body
    packed-room b e =
        let j = judge-accepted r (length area) judged b e in
        let p = passed (ltb room (at + (limit - 1))) area_too_short (below_limit r area limit) b j.2 in
        ltb-false room (at + (limit - 1)) p.0

    -- a refusal has a number
    pub pack-judged : Judged Below (pack_body r area limit at room)
    unfolding pack_body
    pack-judged =
        cond-elim (Judged Below) (width_out_of_range (row_bytes r)) (λ _ n. omega arith) (λ _.
        cond-elim (Judged Below) (ltb (length area) (bytes r)) (λ _ n. omega arith) (λ _.
        cond-elim (Judged Below) (ltb room (at + (limit - 1))) (λ _ n. omega arith) (λ _. below-judged)))

-- the output, once its part from an offset on is given back with the body over its front, or as it was
pub part-packed : (o : Outcome PackedBody) (at : ℕ) (out last : List ℕ) → at ≤ length out
    → let part = take (length out - at) (drop at out) in
    last ≡ later o (λ b. over b.bytes part) part → put_mid at (length out - at) out last ≡ packed_output o at out
part-packed (Ok b) at out last h e = over-put out last b.bytes at h e
part-packed (Err why) at out last h e = kept_put out last at h e

-- ---- from what `pack_body` gave, and left of the output

-- these bytes stand there, as many as it says
pub record PackedAt (at limit : ℕ) (out after : List ℕ) (p : Packed) (o : Outcome PackedBody) : Type 0 where
  pub bytes : List ℕ
  pub size : p.bytes ≡ length bytes
  pub below : p.bytes < limit
  pub there : after ≡ over_at at bytes out
  pub is : o ≡ Ok (record { body = p.bytes; records = p.records; bytes = bytes })

-- a header put before them, of as many bytes as are kept free
pub packed-behind : {at limit : ℕ} {out after : List ℕ} {p : Packed} {o : Outcome PackedBody}
    (k : PackedAt at limit out after p o) (head then : List ℕ) (n : ℕ) → n ≡ at → at ≤ length out
    → Written head after then n → Written (head ++ k.bytes) out then (n + p.bytes)
packed-behind {out = out} k head then n size room h =
    let place = k.there ∙ ap (λ (at : ℕ). over_at at k.bytes out) (sym size) in
    subst (λ (l : ℕ). Written (head ++ k.bytes) out then (n + l)) (sym k.size)
    (written-before k.bytes out (omega arith) (subst (λ (l : List ℕ). Written head l then n) place h))

module _ (r : Raster) (area : List ℕ) (limit at : ℕ) (out after : List ℕ) (p : Packed) where
  pub packed-at : (o : Outcome PackedBody) → Judged (Below r area limit) o → map body_packed o ≡ Ok p
      → after ≡ packed_output o at out → PackedAt at limit out after p o
  packed-at o judged given left =
      let k = given-known body_packed (Below r area limit) o p judged given in
      let size : p.bytes ≡ length k.value.bytes = sym (ap (λ (x : Packed). x.bytes) k.same) ∙ k.holds.0 in
      record {
        bytes = k.value.bytes;
        size = size;
        below = omega (arith, size, k.holds);
        there = left ∙ ap (λ (o : Outcome PackedBody). packed_output o at out) k.is;
        is =
            k.is
            ∙ ap (λ (x : Packed).
            Ok (record { body = x.bytes; records = x.records; bytes = k.value.bytes })) k.same;
      }
