-- A row packed and a row unpacked, as the contracts say them.
use Rattle.std.specs.Prelude.{Ok, Err}
use mathlib.Core.Path.{◌≡◌, refl, sym, ap, ◌∙◌, subst}
use mathlib.Core.Logic.{◌↔◌}
use mathlib.Core.List.{List}
use Prim.Native.Nat.{ℕ}
use native.Mathlib.Omega.{arith}
use lib.ListN.{length}
use Rattle.lists.specs.Bytes.{Bytes}
use Rattle.lists.proofs.Cond.{cond-elim, cond-ltb, cond-eqb}
use Rattle.outcome.specs.Outcome.{Outcome, refusal_of, Judged}
use Rattle.outcome.proofs.Outcome.{judged-accepted}
use Rattle.packbits.specs.Row.{Row, done, row_answer, row_output, width_out_of_range}
use Rattle.packbits.specs.Unpack.{progress, outcome_of, unpack_row}
use Rattle.packbits.proofs.Row.{in-range, of_range}
use Rattle.pack.specs.IsLeast.{IsLeast}
use Rattle.pack.specs.Least.{least, least_records}
use Rattle.pack.specs.Pack.{max_body, pack_within, pack_row}
use Rattle.pack.proofs.Pack.{pack-done}
use Rattle.pack.proofs.Valid.{least-is-least}
use Rattle.unpack.specs.AcceptsRow.{AcceptsRow}
use Rattle.unpack.proofs.RowUnpack.{row-exact}
use Rattle.demands.specs.Refusals.{Refuses, RowRefusal}
use Rattle.statements.specs.Rows.{Packable, PacksLeast, UnpacksToRow, Unpacked, RowRefused}

-- ---- any outcome

abbrev number : Outcome Row → ℕ
number o = (row_answer o).refusal.number

refusal-number : (o : Outcome Row) → (refusal_of o).number ≡ number o
refusal-number (Ok r) = refl
refusal-number (Err why) = refl

-- where the number is 0, the row that was accepted
accepted-row : (P : Row → Type 0) (o : Outcome Row) → Judged P o → number o ≡ 0 → (r : Row) × (o ≡ Ok r) × P r
accepted-row P o judged e = judged-accepted P o judged (refusal-number o ∙ e)

pub row-refused : (o : Outcome Row) (out : List ℕ) → RowRefusal o out → Refuses (row_answer o).refusal
    → RowRefused (row_answer o) out (row_output o out)
row-refused o out law h = let r = law h in record { later = r.0; bytes = r.1; records = r.2 }

-- ---- a row packed

module _ (row out : List ℕ) where
  abbrev packed : Outcome Row
  packed = pack_row row (length out)

  pack-judged : Judged (λ _. Packable row out) packed
  unfolding pack_within
  pack-judged =
      cond-elim (Judged (λ (r : Row). Packable row out)) (width_out_of_range (length row)) (λ w e. omega arith)
      (λ w. cond-ltb (Judged (λ (r : Row). Packable row out)) (length out) max_body (λ s e. omega arith)
      (λ room.
      record { one = (in-range (length row) w).0; most = (in-range (length row) w).1; room = room }))

  module _ (fits : Packable row out) where
    pack-accepted : packed ≡ done (length (least row)) (least_records row) (least row)
    pack-accepted = pack-done max_body row (length out) (of_range (length row) fits.one fits.most) fits.room

    pub packs-least : PacksLeast row (row_answer packed) out (row_output packed out)
    packs-least =
        record {
          packed = least row;
          accepted = ap (λ (o : Outcome Row). (row_answer o).refusal) pack-accepted;
          later = ap (λ (o : Outcome Row). row_output o out) pack-accepted;
          least =
              subst (IsLeast row (least row)) (sym (ap (λ (o : Outcome Row). (row_answer o).records) pack-accepted))
              (least-is-least row fits.most);
          bytes = ap (λ (o : Outcome Row). (row_answer o).bytes) pack-accepted;
        }

  pub packs-exactly : (number packed ≡ 0) ↔ Packable row out
  packs-exactly = (
    λ e. (accepted-row (λ _. Packable row out) packed pack-judged e).2,
    λ fits. ap number (pack-accepted fits),
  )

-- ---- a row unpacked

module _ (input : List ℕ) (width : ℕ) (out : List ℕ) (bytes : Bytes input) where
  abbrev unpacked : Outcome Row
  unpacked = unpack_row input width (length out)

  unpack-judged : Judged (λ _. Unit {0}) unpacked
  unfolding unpack_row outcome_of
  unpack-judged =
      cond-elim (Judged (λ (r : Row). Unit {0})) (width_out_of_range width) (λ w e. omega arith)
      (λ w. cond-ltb (Judged (λ (r : Row). Unit {0})) (length out) width (λ s e. omega arith)
      (λ room. cond-eqb (Judged (λ (r : Row). Unit {0})) (progress input width).fault 0 (λ e. tt) (λ fault. fault)))

  unpack-accepted : (used records : ℕ) (row : List ℕ) → AcceptsRow input width (length out) used records row
      → unpacked ≡ done used records row
  unpack-accepted used records row fits = (row-exact input width (length out) used records row bytes).1 fits

  pub unpacks : (used records : ℕ) (row : List ℕ) → AcceptsRow input width (length out) used records row
      → Unpacked used records row (row_answer unpacked) out (row_output unpacked out)
  unpacks used records row fits =
      let e = unpack-accepted used records row fits in
      record {
        accepted = ap (λ (o : Outcome Row). (row_answer o).refusal) e;
        bytes = ap (λ (o : Outcome Row). (row_answer o).bytes) e;
        count = ap (λ (o : Outcome Row). (row_answer o).records) e;
        later = ap (λ (o : Outcome Row). row_output o out) e;
      }

  pub unpacks-exactly : (number unpacked ≡ 0) ↔ UnpacksToRow input width out
  unpacks-exactly = (
    λ e.
        let a = accepted-row (λ _. Unit {0}) unpacked unpack-judged e in
        let r = a.0 in (
          r.bytes,
          r.records,
          r.made,
          (row-exact input width (length out) r.bytes r.records r.made bytes).0 a.1,
        ),
    λ fits. ap number (unpack-accepted fits.0 fits.1 fits.2 fits.3),
  )
