-- Laws of reading a body that stands in a file between a header and what follows it: what each test that the code makes
-- comes to.
use Rattle.std.specs.Prelude.{Ok, Err}
use mathlib.Core.Path.{◌≡◌, refl, sym, ap, ◌∙◌}
use mathlib.Core.Bool.{false}
use mathlib.Core.List.{List, ◌++◌}
use Prim.Native.Nat.{ℕ, ◌+◌, ◌-◌, ◌≤◌}
use native.Mathlib.Omega.{arith}
use lib.ListN.{length, take, drop}
use borrow.Author.Tests.{le-ltb, le-leb, eq-eqb, ne_eqb}
use Rattle.lists.specs.Over.{over}
use Rattle.lists.proofs.Cond.{cond-eqb}
use Rattle.outcome.specs.declared.Refusal.{Refusal}
use Rattle.outcome.specs.Outcome.{Outcome, refusal, map, bind, Judged}
use Rattle.outcome.specs.Refusal.{wrong_tail}
use Rattle.outcome.proofs.Areas.{area-cut as any-area-cut}
use Rattle.outcome.proofs.Outcome.{map-refused, judged-bind}
use Rattle.packbits.specs.declared.Packed.{Packed}
use Rattle.packbits.specs.Row.{width_out_of_range}
use Rattle.raster.specs.declared.Raster.{Raster}
use Rattle.raster.specs.Shape.{row_bytes, bytes}
use Rattle.raster.specs.Joined.{put_joined}
use Rattle.bodies.specs.Unpacking.{UnpackedBody, unpack_body, body_unpacked, RowsUnpacked}
use Rattle.bodies.specs.Reading.{judge_end, read_body, read_into, body_area}
use Rattle.bodies.proofs.Answers.{Given, given-known}
use Rattle.bodies.proofs.JudgeRaster.{judge-room}
use Rattle.bodies.proofs.Unpacking.{BodyBounded, body-bounded}

-- ---- the raster, the buffer and the area

module _ (file : List ℕ) (at after : ℕ) (r : Raster) (room area : ℕ) where
  module _ (range : width_out_of_range (row_bytes r) ≡ false) (full : bytes r ≤ room) where
    pub into-fits : bytes r ≤ area → read_into file at after r room area ≡ read_body file at after r
    into-fits h = judge-room r room _ range full ∙ rw (le-ltb area (bytes r) h) refl

-- ---- the body, and the end after it

module _ (file : List ℕ) (at after : ℕ) (r : Raster) (u : UnpackedBody) (is : unpack_body file at r ≡ Ok u) where
  body-judged : read_body file at after r ≡ judge_end file at after u
  unfolding read_body
  body-judged = ap (λ (o : Outcome UnpackedBody). bind o (judge_end file at after)) is

  pub read-wrong : (length file ≡ at + u.body + after → ⊥)
      → read_body file at after r ≡ Err (refusal wrong_tail (at + u.body))
  read-wrong h = body-judged ∙ simp (ne_eqb (length file) (at + u.body + after) h)

  pub read-ends : length file ≡ at + u.body + after → read_body file at after r ≡ Ok u
  read-ends h = body-judged ∙ simp (eq-eqb (length file) (at + u.body + after) h)

module _ (file : List ℕ) (at after : ℕ) (r : Raster) where
  -- after the body the file has exactly so many bytes, and the body has its bounds
  abbrev pub ReadBounded : UnpackedBody → Type 0
  ReadBounded u = (length file ≡ at + u.body + after) × BodyBounded file at r u

  -- and a refusal has a number
  pub read-bounded : Judged ReadBounded (read_body file at after r)
  unfolding read_body
  read-bounded =
      judged-bind (BodyBounded file at r) ReadBounded (unpack_body file at r) (judge_end file at after)
      (body-bounded file at r)
      (λ u b.
      cond-eqb (Judged ReadBounded) (length file) (at + u.body + after) (λ ends. (ends, b)) (λ _ n. omega arith))

-- ---- from what unpacking gave

module _ (file : List ℕ) (at after : ℕ) (r : Raster) where
  pub body-refused : (why : Refusal) → map body_unpacked (unpack_body file at r) ≡ Err why
      → read_body file at after r ≡ Err why
  unfolding read_body
  body-refused why e =
      ap (λ (o : Outcome UnpackedBody). bind o (judge_end file at after))
      (map-refused body_unpacked (unpack_body file at r) why e)

  module _ (p : Packed) (given : map body_unpacked (unpack_body file at r) ≡ Ok p) where
    -- what is known of the body
    known : Given body_unpacked (BodyBounded file at r) (unpack_body file at r) p
    known = given-known body_unpacked (BodyBounded file at r) (unpack_body file at r) p (body-bounded file at r) given

    body : p.bytes ≡ known.value.body
    body = sym (ap (λ (x : Packed). x.bytes) known.same)

    -- its bytes are there
    pub body-there : p.bytes ≤ length file - at
    body-there = omega (arith, body, known.holds.1)

    pub body-wrong : (length file ≡ at + p.bytes + after → ⊥)
        → read_body file at after r ≡ Err (refusal wrong_tail (at + p.bytes))
    body-wrong h =
        read-wrong file at after r known.value known.is
        (λ e. h (e ∙ ap (λ (n : ℕ). at + n + after) (sym body)))
        ∙ ap (λ (n : ℕ). Err (refusal wrong_tail (at + n))) (sym body)

    pub body-done : length file ≡ at + p.bytes + after → (buffer area : List ℕ) → RowsUnpacked file at r buffer
        → bytes r ≤ length buffer → bytes r ≤ length area
        → (Ok p ≡ map body_unpacked (read_body file at after r))
        × (put_joined r buffer area ≡ body_area (read_body file at after r) area)
    body-done h buffer area made full room =
        let u : UnpackedBody = known.value in
        let ends = read-ends file at after r u known.is (h ∙ ap (λ (n : ℕ). at + n + after) body) in
        let put : put_joined r buffer area ≡ over u.image area =
        rw (le-leb (bytes r) (length area) room, le-leb (bytes r) (length buffer) full, made u known.is) refl in (
          ap Ok (sym known.same) ∙ sym (ap (map body_unpacked) ends),
          put ∙ sym (ap (λ (o : Outcome UnpackedBody). body_area o area) ends),
        )

-- ---- a reading into the first n bytes alone, with the later bytes behind them, is one into the whole area

pub area-cut : (o : Outcome UnpackedBody) (area part : List ℕ) (n : ℕ) → length part ≡ length (take n area)
    → part ≡ body_area o (take n area) → part ++ drop n area ≡ body_area o area
area-cut o = any-area-cut o (λ (u : UnpackedBody). u.image)
