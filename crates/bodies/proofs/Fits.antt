-- A file with a body between a header and what follows it is accepted exactly when its parts fit, and then with what
-- they give (document 00, demand 2).
use Rattle.std.specs.Prelude.{Ok}
use mathlib.Core.Path.{◌≡◌, refl, sym, ap, ap₂, ◌∙◌}
use mathlib.Core.Logic.{◌↔◌}
use mathlib.Core.List.{List, [], ◌++◌, append_assoc}
use Prim.Native.Nat.{ℕ, ◌+◌, ◌≤◌, ◌<◌}
use native.Mathlib.Omega.{arith}
use lib.ListN.{length, take, drop, length-append, length-drop, take-append-drop}
use lib.Seq.{take_at, drop_at, length-take-le, take_all}
use Rattle.lists.specs.Bytes.{Bytes}
use Rattle.lists.proofs.Cond.{cond-eqb}
use Rattle.outcome.specs.Outcome.{Outcome, later, Judged}
use Rattle.outcome.proofs.Outcome.{judged-known, judged-value, judged-bind}
use Rattle.raster.specs.declared.Raster.{Raster}
use Rattle.raster.specs.Shape.{bytes}
use Rattle.bodies.specs.Unpacking.{UnpackedBody, unpack_body}
use Rattle.bodies.specs.Unpacks.{UnpacksImage}
use Rattle.bodies.specs.Reading.{judge_end, read_body, BodyFits, body_given}
use Rattle.bodies.proofs.Exact.{body-complete, body-exact}
use Rattle.bodies.proofs.Reading.{read-ends}
use Rattle.bodies.proofs.Unpacking.{BodyBounded, body-bounded}

module _ (file : List ℕ) (at after limit : ℕ) (r : Raster) where
  -- ---- a file that fits

  module _ (b : BodyFits file at after limit r) where
    pub fits-length : length file ≡ at + length b.body + after
    fits-length =
        omega (
          arith,
          ap length b.parts,
          length-append (b.header ++ b.body) b.tail,
          length-append b.header b.body,
          b.before,
          b.behind,
        )

    in_order : file ≡ b.header ++ (b.body ++ b.tail)
    in_order = b.parts ∙ append_assoc b.header b.body b.tail

    pub fits-behind : drop at file ≡ b.body ++ b.tail
    fits-behind = ap (drop at) in_order ∙ drop_at b.header (b.body ++ b.tail) at b.before

    pub fits-body : take (length b.body) (drop at file) ≡ b.body
    fits-body =
        ap (take (length b.body)) fits-behind ∙ take_at b.body b.tail (length b.body) refl

    -- is accepted, with what its parts give
    pub fits-complete : read_body file at after r ≡ Ok (body_given b)
    fits-complete =
        let runs = body-complete r b.image (omega (arith, b.size)) b.runs b.header b.tail in
        let whole : take (bytes r) b.image ≡ b.image = take_all (bytes r) b.image (omega (arith, b.size)) in
        read-ends file at after r (body_given b)
        (ap₂ (λ (s : List ℕ) (n : ℕ). unpack_body s n r) in_order (sym b.before)
        ∙ runs
        ∙ ap (λ (s : List ℕ). Ok (record { body = length b.body; records = b.records; image = s })) whole)
        fits-length

  -- it fits in one way only
  pub fits-unique : (b o : BodyFits file at after limit r)
      → (b.body ≡ o.body) × (b.image ≡ o.image) × (b.records ≡ o.records)
  fits-unique b o =
      let same : Ok (body_given b) ≡ Ok (body_given o) = sym (fits-complete b) ∙ fits-complete o in
      let long : length b.body ≡ length o.body =
      ap (λ (a : Outcome UnpackedBody). later a (λ u. u.body) 0) same in (
        sym (fits-body b) ∙ ap (λ (n : ℕ). take n (drop at file)) long ∙ fits-body o,
        ap (λ (a : Outcome UnpackedBody). later a (λ u. u.image) []) same,
        ap (λ (a : Outcome UnpackedBody). later a (λ u. u.records) 0) same,
      )

  -- ---- a file that is accepted, below the length that the limit allows

  abbrev pub FitsGiven : UnpackedBody → Type 0
  FitsGiven u = (b : BodyFits file at after limit r) × (u ≡ body_given b)

  module _ (all : Bytes file) (short : length file < at + limit + after) where
    end-judged : (u : UnpackedBody) → unpack_body file at r ≡ Ok u → Judged FitsGiven (judge_end file at after u)
    end-judged u is =
        cond-eqb (Judged FitsGiven) (length file) (at + u.body + after)
        (λ e.
        let input : List ℕ = drop at file in
        let s = (body-exact r file at u all).0 is in
        let there : u.body ≤ length input = omega (arith, s.1, length-drop at file) in
        let size : length (take u.body input) ≡ u.body = length-take-le u.body input there in (
          record {
            header = take at file;
            body = take u.body input;
            tail = drop u.body input;
            image = u.image;
            records = u.records;
            parts = sym
                (append_assoc (take at file) (take u.body input) (drop u.body input)
                ∙ ap (λ (l : List ℕ). take at file ++ l) (take-append-drop u.body input)
                ∙ take-append-drop at file);
            before = length-take-le at file (omega arith);
            below = omega arith;
            behind = omega (arith, length-drop u.body input, length-drop at file);
            size = s.0;
            runs = s.2;
          },
          rw size,
        ))
        (λ _ n. omega arith)

    pub fits-judged : Judged FitsGiven (read_body file at after r)
    unfolding read_body
    fits-judged =
        judged-bind _ FitsGiven (unpack_body file at r) (judge_end file at after)
        (judged-known (BodyBounded file at r) (unpack_body file at r) (body-bounded file at r))
        (λ u known. end-judged u known.0)

    -- accepted exactly when it fits, and then with this
    pub fits-exactly : (u : UnpackedBody) → (read_body file at after r ≡ Ok u) ↔ FitsGiven u
    fits-exactly u = (
      judged-value FitsGiven (read_body file at after r) u fits-judged,
      λ g. fits-complete g.0 ∙ ap Ok (sym g.1),
    )

    -- the counts of an accepted file are those of the body that unpacks to its image
    pub fits-counts : (u : UnpackedBody) → read_body file at after r ≡ Ok u
        → (length file ≡ at + u.body + after) × UnpacksImage r (take u.body (drop at file)) u.image u.records
    fits-counts u e =
        let g = judged-value FitsGiven (read_body file at after r) u fits-judged e in
        rw (g.1, fits-body g.0) (fits-length g.0, g.0.runs)
