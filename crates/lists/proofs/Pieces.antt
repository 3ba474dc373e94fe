-- A string that is written piece by piece to the front of an output, each piece to the part from its present end on.
use Prim.Native.Nat.{ℕ, ◌+◌, ◌-◌, ◌≤◌}
use native.Mathlib.Omega.{arith}
use mathlib.Core.Path.{◌≡◌, refl, sym, ap, ap₂, ◌∙◌, subst}
use mathlib.Core.List.{List, [], ◌++◌, append_assoc, append-nil}
use lib.ListN.{length, take, drop, length-append, length-drop, take-append-drop}
use lib.Seq.{length-take-le, take_at, drop_at, drop-drop}
use borrow.Rule.Slice.PartMut.{put_mid}
use Rattle.lists.specs.Over.{over, over_at}
use Rattle.lists.specs.Written.{Written}
use Rattle.lists.proofs.Over.{length_over, over-before}
use Rattle.lists.proofs.Parts.{tail-part, tail-put, over-append, copied-over}

-- o bytes of out are written, the string `rest` of the string `whole` is still to come, and out₀ is what out was
pub record PartlyWritten (whole rest out₀ out : List ℕ) (o : ℕ) : Type 0 where
  pub room : o ≤ length out
  pub kept : length out ≡ length out₀
  pub bytes : take o out ++ rest ≡ whole
  pub untouched : drop o out ≡ drop o out₀

pub writing_start : (whole out : List ℕ) → PartlyWritten whole whole out out 0
writing_start whole out = record { room = omega arith; kept = refl; bytes = refl; untouched = refl }

pub writing-end : {whole out₀ out : List ℕ} {o : ℕ} → PartlyWritten whole [] out₀ out o → Written whole out₀ out o
writing-end {whole} {out₀} {out} {o} w =
    let b : take o out ≡ whole = sym (append-nil (take o out)) ∙ w.bytes in
    let l : o ≡ length whole = sym (length-take-le o out w.room) ∙ ap length b in
    record {
      bytes = l;
      all = sym (take-append-drop o out) ∙ ap₂ ◌++◌ b (w.untouched ∙ ap (λ (k : ℕ). drop k out₀) l);
    }

-- ---- one piece more

module _ {whole out₀ out : List ℕ} {o : ℕ} (piece rest : List ℕ) (fits : length whole ≤ length out₀)
    (w : PartlyWritten whole (piece ++ rest) out₀ out o) where
  piece-room : o + length piece ≤ length out
  piece-room =
      omega (
        arith,
        ap length w.bytes,
        length-append (take o out) (piece ++ rest),
        length-append piece rest,
        length-take-le o out w.room,
        w.kept,
      )

  -- it fits the part of out that is lent
  pub piece-fits : length piece ≤ length (take (length out - o) (drop o out))
  piece-fits = rw (tail-part out o) (omega (arith, length-drop o out, piece-room))

  written-length : length (take o out ++ piece) ≡ o + length piece
  written-length = omega (arith, length-append (take o out) piece, length-take-le o out w.room)

  after-piece : PartlyWritten whole rest out₀ ((take o out ++ piece) ++ drop (length piece) (drop o out))
      (o + length piece)
  after-piece =
      let left : List ℕ = drop (length piece) (drop o out) in
      let l : length ((take o out ++ piece) ++ left) ≡ length out =
      length-append (take o out ++ piece) left
      ∙ omega (arith, written-length, piece-room, length-drop (length piece) (drop o out), length-drop o out) in
      record {
        room = omega (arith, piece-room);
        kept = l ∙ w.kept;
        bytes =
            ap (λ (a : List ℕ). a ++ rest) (take_at (take o out ++ piece) left (o + length piece) written-length)
            ∙ append_assoc (take o out) piece rest
            ∙ w.bytes;
        untouched =
            drop_at (take o out ++ piece) left (o + length piece) written-length
            ∙ ap (drop (length piece)) w.untouched
            ∙ drop-drop (length piece) o out₀;
      }

  -- out with the part back to whose front a callee wrote the piece
  pub writing_more : (last : List ℕ) → last ≡ over piece (take (length out - o) (drop o out))
      → PartlyWritten whole rest out₀ (put_mid o (length out - o) out last) (o + length piece)
  writing_more last e =
      let p : put_mid o (length out - o) out last ≡ (take o out ++ piece) ++ drop (length piece) (drop o out) =
      tail-put out last o w.room
      ∙ ap (λ (l : List ℕ). take o out ++ l) (e ∙ ap (over piece) (tail-part out o))
      ∙ sym (append_assoc (take o out) piece (drop (length piece) (drop o out))) in
      subst (λ (l : List ℕ). PartlyWritten whole rest out₀ l (o + length piece)) (sym p) after-piece

-- ---- a string written whole, and a further one after it

-- what the kit's `bytes::copy` wrote
pub written-copied : (s d out : List ℕ) (n : ℕ) → n ≡ length s → out ≡ take (length s) s ++ drop (length s) d
    → Written s d out n
written-copied s d out n h is = record { bytes = h; all = is ∙ copied-over s d }

-- the same string under another name
pub written_as : {a d out : List ℕ} {o : ℕ} (b : List ℕ) → a ≡ b → Written a d out o → Written b d out o
written_as {d = d} {out = out} {o = o} b e w = subst (λ (t : List ℕ). Written t d out o) e w

-- a before b, which was written first, from an offset on
pub written-before : {a out : List ℕ} {o : ℕ} (b d : List ℕ) → o ≤ length d → Written a (over_at o b d) out o
    → Written (a ++ b) d out (o + length b)
written-before {a} {out} {o} b d h w =
    record { bytes = omega (arith, w.bytes, length-append a b); all = w.all ∙ over-before d a b o (sym w.bytes) h }

module _ {a d out : List ℕ} {o : ℕ} (w : Written a d out o) where
  pub length-written : length a ≤ length d → length out ≡ length d
  length-written h = ap length w.all ∙ length_over a d h

  -- b after a, written to the part from the end of a on
  pub written-more : (b last : List ℕ) (n : ℕ) → n ≡ length b → last ≡ over b (take (length out - o) (drop o out))
      → Written (a ++ b) d (put_mid o (length out - o) out last) (o + n)
  written-more b last n h e =
      record {
        bytes = omega (arith, w.bytes, length-append a b);
        all =
            over-append d a b out last o w.all (sym w.bytes) e;
      }

  pub written_then : {b last : List ℕ} {n : ℕ} → Written b (take (length out - o) (drop o out)) last n
      → Written (a ++ b) d (put_mid o (length out - o) out last) (o + n)
  written_then {b} {last} {n} v = written-more b last n v.bytes v.all
