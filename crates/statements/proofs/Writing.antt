-- An outcome of writing, as the contracts say it.
use Rattle.std.specs.Prelude.{Ok, Err}
use mathlib.Core.Path.{◌≡◌, sym, ap, ◌∙◌, subst}
use mathlib.Core.Logic.{◌↔◌}
use mathlib.Core.List.{List, ◌++◌, append_assoc}
use Prim.Native.Nat.{ℕ, ◌+◌, ◌≤◌}
use native.Mathlib.Omega.{arith}
use lib.ListN.{length, take, drop, length-append}
use lib.Seq.{take-append_seam}
use Rattle.lists.specs.Bytes.{Bytes}
use Rattle.lists.specs.Over.{over}
use Rattle.outcome.specs.declared.Refusal.{Refusal}
use Rattle.outcome.specs.Outcome.{Outcome, refuse, map, Judged}
use Rattle.outcome.specs.Refusal.{no_packed_body}
use Rattle.resolution.specs.declared.Resolution.{Resolution}
use Rattle.resolution.specs.declared.Resolution.TheVariants.{Low, Medium, High}
use Rattle.resolution.specs.Shapes.{plane_rows_of, raster_of}
use Rattle.bodies.specs.Packing.{least_body, least_body_records}
use Rattle.bodies.proofs.Least.{least-shortest}
use Rattle.bodies.specs.Unpacks.{LeastBelow}
use Rattle.picture.specs.declared.Picture.{Picture}
use Rattle.picture.specs.Tables.{tail_bytes}
use Rattle.picture.specs.Whole.{WholePicture}
use Rattle.picture.specs.declared.FileWritten.{FileWritten}
use Rattle.picture.specs.Writing.{Writing, file_written, write_answer, write_output}
use Rattle.degas.specs.Layout.{header_length, body_limit, packed_bit, header, packed_file}
use Rattle.degas.proofs.LeastBody.{bound-attained}
use Rattle.degas.proofs.ScreenRaster.{in-range}
use Rattle.degas.proofs.FileLayout.{header-rest}
use Rattle.degas.specs.LeastBody.{WritesPacked, most_bytes, NoBodyBelow}
use Rattle.writer.specs.Writing.{form_packed, write_file}
use Rattle.demands.specs.Refusals.{Refuses}
use Rattle.demands.proofs.LeastBodies.{refused-exactly, written-otherwise}
use Rattle.demands.proofs.Refusals.{write-refused}
use Rattle.statements.specs.Areas.{Stated}
use Rattle.statements.specs.Blank.{blank_screen, blank_body}
use Rattle.statements.proofs.Blank.{blank-bytes, blank-unpacks, blank-below}
use Rattle.statements.specs.Writing.{WritesLeast, WritesNothing, Attained, BothOccur}

module _ (form : ℕ) (p : Picture) (screen out : List ℕ) where
  abbrev outcome : Outcome Writing
  outcome = write_file form p screen (length out)

  pub writes_nothing : Refuses (write_answer outcome).refusal
      → WritesNothing (write_answer outcome) out (write_output outcome out)
  writes_nothing h =
      let r = write-refused form p screen out h in
      record { later = r.0; total = r.1; body = r.2; records = r.3 }

-- the body of a packed file stands from the header's end on
body-place : (p : Picture) → WholePicture p → (body rest : List ℕ)
    → take (length body) (drop header_length (packed_file p body ++ rest)) ≡ body
unfolding packed_file
body-place p whole body rest =
    let tail = tail_bytes p.tail in
    let word = packed_bit + p.resolution in
    ap (λ (s : List ℕ). take (length body) (drop header_length s)) (append_assoc (header word p) (body ++ tail) rest)
    ∙ ap (take (length body)) (header-rest p whole word ((body ++ tail) ++ rest) ∙ append_assoc body tail rest)
    ∙ take-append_seam body (tail ++ rest)

module _ (r : Resolution) (p : Picture) (screen out : List ℕ) (stated : Stated r p screen out) (whole : WholePicture p)
    (bytes : Bytes screen) where
  abbrev packed : Outcome Writing
  packed = write_file form_packed p screen (length out)

  exactly : (packed ≡ refuse no_packed_body) ↔ NoBodyBelow r screen
  exactly = refused-exactly r p screen (length out) stated.known stated.screen-fits stated.output-fits bytes

  otherwise : (NoBodyBelow r screen → ⊥) → (w : Writing) × (packed ≡ Ok w) × WritesPacked r p screen w
  otherwise some =
      written-otherwise r p screen (length out) stated.known stated.screen-fits stated.output-fits whole
      (λ e. some (exactly.0 e))

  abbrev number : Outcome Writing → ℕ
  number o = (write_answer o).refusal.number

  pub refuses-exactly : (number packed ≡ no_packed_body) ↔ NoBodyBelow r screen
  refuses-exactly = (
    λ nine body n b u below.
        let w = otherwise (λ none. none body n b u below) in
        omega (arith, ap number w.1, nine),
    λ none. ap number (exactly.1 none),
  )

  pub writes-least : (NoBodyBelow r screen → ⊥)
      → WritesLeast r p screen (write_answer packed) out (write_output packed out)
  writes-least some =
      let w = otherwise some in
      let e = w.1 in
      let q = w.2 in
      let later = ap (λ (o : Outcome Writing). write_output o out) e ∙ ap (λ (file : List ℕ). over file out) q.form in
      let records = sym (ap (λ (o : Outcome Writing). (write_answer o).records) e) in
      let body = ap (λ (o : Outcome Writing). (write_answer o).body) e in
      record {
        packed = q.packed;
        accepted = ap (λ (o : Outcome Writing). (write_answer o).refusal) e;
        later = later;
        place =
            ap (λ (s : List ℕ). take (length q.packed) (drop header_length s)) later
            ∙ body-place p whole q.packed _;
        total = omega (arith, ap (λ (o : Outcome Writing). (write_answer o).length) e, q.all, body);
        least = subst (LeastBelow (raster_of r) screen body_limit q.packed) records q.least;
        body = body ∙ q.size;
      }

-- the file that is answered is within the output
pub written-within : (o : Outcome Writing) (given : FileWritten) (out : List ℕ) → map file_written o ≡ Ok given
    → given.length ≤ length (write_output o out)
written-within (Ok w) given out is =
    let same : file_written w ≡ given = cc in
    let total : given.length ≡ length w.file = sym (ap (λ (g : FileWritten). g.length) same) in
    omega (arith, length-append w.file (drop (length w.file) out))
written-within (Err why) given out is = cc

-- a refusal of what is judged has a number
pub refused-number : (P : Writing → Type 0) (o : Outcome Writing) → Judged P o → (why : Refusal)
    → map file_written o ≡ Err why → why.number ≡ 0 → ⊥
refused-number P (Ok w) judged why is n = cc
refused-number P (Err it) judged why is n =
    let same : it ≡ why = cc in
    judged (ap (λ (r : Refusal). r.number) same ∙ n)

-- ---- how long a least body can be

pub attained : (r : Resolution) → Attained r
attained r =
    let b = bound-attained r in
    let least = least-shortest (raster_of r) b.0 (in-range r) in
    record {
      screen = b.0;
      whole = b.1;
      bytes = b.2;
      packed = least_body (raster_of r) b.0;
      records = least_body_records (raster_of r) b.0;
      least = least;
      most = b.3 _ _ least;
    }

-- a screen with the longest least body has none below the limit
most-limit : (r : Resolution) → body_limit ≤ most_bytes r
most-limit Low = omega arith
most-limit Medium = omega arith
most-limit High = omega arith

none_below : (r : Resolution) (most : Attained r) → NoBodyBelow r most.screen
none_below r most body n b u below = omega (arith, most-limit r, most.most, most.least.shortest u)

-- the blank screen has one
some_below : (r : Resolution) → NoBodyBelow r blank_screen → ⊥
some_below r none = none (blank_body r) (plane_rows_of r) (blank-bytes r) (blank-unpacks r) (blank-below r)

pub both-occur : (r : Resolution) (p : Picture) (screen out : List ℕ) → Stated r p screen out → WholePicture p
    → Bytes screen → BothOccur r screen (write_answer (write_file form_packed p screen (length out)))
both-occur r p screen out stated whole bytes =
    record {
      blank =
          λ e.
          ap (λ (why : Refusal). why.number)
          (writes-least r p screen out stated whole bytes (λ none. some_below r (rw e at none))).accepted;
      longest = λ most e. (refuses-exactly r p screen out stated whole bytes).1 (rw e (none_below r most));
    }
