-- A writing and its reading back, as the contract says them.
use Rattle.std.specs.Prelude.{Ok, Err}
use Rattle.outcome.specs.Outcome.{Outcome, map}
use mathlib.Core.Path.{◌≡◌, refl, sym, ap, ◌∙◌}
use mathlib.Core.Logic.{inl, inr}
use mathlib.Core.List.{List}
use Prim.Native.Nat.{ℕ}
use native.Mathlib.Omega.{arith}
use lib.ListN.{length, take}
use Rattle.lists.specs.Bytes.{Bytes}
use Rattle.lists.proofs.Cond.{cond-elim}
use Rattle.outcome.specs.declared.Refusal.{Refusal}
use Rattle.resolution.specs.declared.Resolution.{Resolution}
use Rattle.resolution.specs.Shapes.{screen_bytes}
use Rattle.lines.specs.Registers.{register}
use Rattle.picture.specs.declared.Picture.{Picture}
use Rattle.picture.specs.declared.ReadAnswer.{ReadAnswer}
use Rattle.picture.specs.declared.WriteAnswer.{WriteAnswer}
use Rattle.picture.specs.Reading.{Reading, read_answer, read_area}
use Rattle.picture.specs.Whole.{WholePicture}
use Rattle.picture.specs.Writing.{Writing, file_written, write_answer, write_output}
use Rattle.reader.specs.Reading.{read_file}
use Rattle.writer.specs.Writing.{write_file}
use Rattle.demands.specs.RoundTrips.{kind_of, keeps_tail, picture_back, read_back}
use Rattle.demands.proofs.RoundTrips.{file-back, round_trip, register-back, unpacked-written}
use Rattle.statements.specs.declared.RoundTrip.{RoundTrip}
use Rattle.statements.specs.Areas.{HoldsScreen, Stated}
use Rattle.statements.specs.RoundTrips.{IsWritten, ReadsBack, AnswersRoundTrip}
use Rattle.statements.proofs.Writing.{writes-least, refused-number}

-- with a tail or without, the resolution and the palette are the picture's
back-same : (form : ℕ) (p : Picture)
    → ((picture_back form p).resolution ≡ p.resolution) × ((picture_back form p).palette ≡ p.palette)
back-same form p =
    cond-elim (λ (q : Picture). (q.resolution ≡ p.resolution) × (q.palette ≡ p.palette)) (keeps_tail form)
    (λ _. (refl, refl))
    (λ _. (refl, refl))

module _ (form : ℕ) (p : Picture) (screen out file area after : List ℕ) (b : RoundTrip)
    (answers : AnswersRoundTrip form p screen b out file area after) (whole : WholePicture p)
    (bytes : Bytes screen) where
  abbrev written : Outcome Writing
  written = write_file form p screen (length out)

  answered : b.written ≡ write_answer written
  answered = answers.write.answer

  pub is-written : (r : Resolution) → Stated r p screen out → IsWritten form r screen
      → b.written.refusal.number ≡ 0
  is-written r stated (inl raw) =
      ap (λ (a : WriteAnswer). a.refusal.number) answered
      ∙ unpacked-written form p screen (length out) r
      (record { screen-fits = stated.screen-fits; output-fits = stated.output-fits; known = stated.known })
      raw
  is-written r stated (inr (e, some)) =
      ap (λ (a : WriteAnswer). a.refusal.number) answered
      ∙ ap (λ (n : ℕ). (write_answer (write_file n p screen (length out))).refusal.number) e
      ∙ ap (λ (why : Refusal). why.number) (writes-least r p screen out stated whole bytes some).accepted

  module _ (room : HoldsScreen area) (ok : b.written.refusal.number ≡ 0) where
    passed : (write_answer written).refusal.number ≡ 0
    passed = sym (ap (λ (a : WriteAnswer). a.refusal.number) answered) ∙ ok

    -- the file that is read back is the one that was written
    front : take b.written.length file ≡ take (write_answer written).length (write_output written out)
    front =
        ap (λ (a : WriteAnswer). take a.length file) answered
        ∙ ap (take (write_answer written).length) answers.write.later

    abbrev reading : List ℕ → Outcome Reading
    reading f = read_file (kind_of form) f (length area)

    back : b.read ≡ read_answer (Ok (read_back form p screen b.written.body b.written.records))
    back =
        (answers.read ok).answer
        ∙ ap (λ (f : List ℕ). read_answer (reading f)) front
        ∙ ap read_answer (round_trip form p screen out area whole room passed)
        ∙ ap (λ (a : WriteAnswer). read_answer (Ok (read_back form p screen a.body a.records))) (sym answered)

    later : after ≡ read_area (reading (take (write_answer written).length (write_output written out))) area
    later = (answers.read ok).later ∙ ap (λ (f : List ℕ). read_area (reading f) area) front

    pub reads-back : ReadsBack form p screen b after
    reads-back =
        record {
          accepted = ap (λ (a : ReadAnswer). a.refusal) back;
          resolution = ap (λ (a : ReadAnswer). a.picture.resolution) back ∙ (back-same form p).0;
          palette = ap (λ (a : ReadAnswer). a.picture.palette) back ∙ (back-same form p).1;
          tail = ap (λ (a : ReadAnswer). a.picture) back;
          body = ap (λ (a : ReadAnswer). a.body) back;
          records = ap (λ (a : ReadAnswer). a.records) back;
          registers =
              λ r x y hx hy.
              ap (λ (s : List ℕ). register s r x y) later
              ∙ register-back form p screen out area whole room passed r x y hx hy;
        }

-- a refused writing has a number
pub written-numbered : (form : ℕ) (p : Picture) (screen : List ℕ) (out : ℕ) → WholePicture p → (why : Refusal)
    → map file_written (write_file form p screen out) ≡ Err why → why.number ≡ 0 → ⊥
written-numbered form p screen out whole why =
    refused-number _ (write_file form p screen out) (file-back p whole screen screen_bytes (omega arith) form out) why
