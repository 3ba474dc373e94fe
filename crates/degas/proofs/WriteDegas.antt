-- Laws of writing a DEGAS file: what each test that the code makes comes to, and what its parts make.
use Rattle.std.specs.Prelude.{Ok, Err, IfOk}
use mathlib.Core.Path.{◌≡◌, sym, ap, ◌∙◌}
use mathlib.Core.List.{List, append_assoc}
use Prim.Native.Nat.{ℕ, ◌+◌, ◌-◌, ◌≤◌, ◌<◌}
use native.Mathlib.Omega.{arith}
use borrow.Rule.Slice.PartMut.{put_mid}
use lib.ListN.{length, take, drop}
use Rattle.lists.specs.Written.{Written}
use Rattle.lists.proofs.Pieces.{written_as, written-more}
use Rattle.outcome.specs.declared.Refusal.{Refusal}
use Rattle.outcome.specs.Outcome.{Outcome, map, Judged}
use Rattle.packbits.specs.declared.Packed.{Packed}
use Rattle.resolution.specs.declared.Resolution.{Resolution}
use Rattle.resolution.specs.Shapes.{raster_of}
use Rattle.bodies.specs.Packing.{PackedBody, body_packed, packed_output}
use Rattle.bodies.proofs.Packing.{Below, packed-behind, below-judged, packed-at}
use Rattle.picture.specs.declared.Picture.{Picture}
use Rattle.picture.specs.Tables.{tail_bytes}
use Rattle.picture.specs.Writing.{file_bytes, judge_writing, file_written, write_output}
use Rattle.picture.proofs.Writing.{Passed, judge-passed, written-done}
use Rattle.degas.specs.declared.Form.{Form}
use Rattle.degas.specs.Layout.{header_length, body_limit, packed_bit, header, packed_file}
use Rattle.degas.specs.Writing.{packed_writing, packed_screen, write_packed, write_form, write_degas}

-- ---- form 3: the body, packed into the output after the header

module _ (r : Resolution) (screen : List ℕ) {given : Outcome Packed} (is : given ≡ map body_packed (packed_screen r screen))
  where
    -- it is below the limit
    pub packed-below : IfOk given (λ p. p.bytes < body_limit)
    packed-below = rw is (go (packed_screen r screen) (below-judged (raster_of r) screen body_limit))
      where
        go : (o : Outcome PackedBody) → Judged (Below (raster_of r) screen body_limit) o
            → IfOk (map body_packed o) (λ p. p.bytes < body_limit)
        go (Ok b) holds = holds.1
        go (Err why) holds = tt

    module _ (out after : List ℕ) (p : Picture) (made : after ≡ packed_output (packed_screen r screen) header_length out) where
      -- none below the limit: refused, and the output as it was
      pub packed-refused : {why : Refusal} → given ≡ Err why
          → (Err why ≡ map file_written (write_packed r p screen)) × (after ≡ write_output (write_packed r p screen) out)
      unfolding write_packed
      packed-refused e = go (packed_screen r screen) (sym e ∙ is) made
        where
          go : {why : Refusal} (o : Outcome PackedBody) → Err why ≡ map body_packed o
              → after ≡ packed_output o header_length out
              → (Err why ≡ map file_written (map (packed_writing p) o))
              × (after ≡ write_output (map (packed_writing p) o) out)
          go (Ok b) e left = let z : ◌≡◌ {A = ℕ} 0 1 = cc in absurd (omega arith)
          go (Err w) e left = (cc, left)

      -- the header before the body, and the tail after it
      pub packed-written : {k : Packed} → given ≡ Ok k → file_bytes ≤ length out → (then last : List ℕ) (n m : ℕ)
          → Written (header (packed_bit + p.resolution) p) after then n → n ≡ header_length
          → Written (tail_bytes p.tail) (take (length then - (n + k.bytes)) (drop (n + k.bytes) then)) last m
          → (Ok (record { length = n + k.bytes + m; body = k.bytes; records = k.records })
          ≡ map file_written (write_packed r p screen))
          × (put_mid (n + k.bytes) (length then - (n + k.bytes)) then last ≡ write_output (write_packed r p screen) out)
      unfolding packed_file write_packed
      packed-written {k} ok room then last n m h size t =
          let a =
          packed-at (raster_of r) screen body_limit header_length out after k (packed_screen r screen)
          (below-judged (raster_of r) screen body_limit) (sym is ∙ ok) made in
          let head : List ℕ = header (packed_bit + p.resolution) p in
          let tail : List ℕ = tail_bytes p.tail in
          let to = packed-behind a head then n size (omega (arith, room)) h in
          let all =
          written_as (packed_file p a.bytes) (append_assoc head a.bytes tail)
          (written-more to tail last m t.bytes t.all) in
          let body : PackedBody = record { body = k.bytes; records = k.records; bytes = a.bytes } in
          let done = written-done (packed_writing p body) all in
          rw a.is (ap Ok done.0, done.1)

-- ---- the lent areas and the resolution

module _ (form : Form) (p : Picture) (screen : List ℕ) (out : ℕ) where
  pub write-passed : {r : Resolution} → Passed (length screen) out p.resolution r
      → write_degas form p screen out ≡ write_form form r p screen
  unfolding write_degas
  write-passed {r} h = rw (judge-passed (length screen) out p.resolution r h)
