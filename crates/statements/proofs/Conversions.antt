-- Outcomes of conversions, as the contracts say them.
use Rattle.std.specs.Prelude.{Err}
use mathlib.Core.Path.{◌≡◌, refl, sym, ap, ap₂, ◌∙◌, subst}
use mathlib.Core.Logic.{◌↔◌}
use mathlib.Core.List.{List, ◌++◌, append_assoc}
use Prim.Native.Nat.{ℕ, zero, suc, ◌+◌, ◌-◌, ◌*◌}
use native.Mathlib.Omega.{arith}
use lib.ListN.{length, get_or, take, drop, replicate, length-replicate, take-append-drop}
use lib.Seq.{take-append_seam, take_at, drop_at, length-take-le}
use Rattle.lists.specs.Bytes.{Bytes}
use Rattle.lists.specs.Over.{over}
use Rattle.lists.specs.Tabulate.{tabulate}
use Rattle.lists.proofs.Tabulate.{tabulate-ext}
use Rattle.outcome.specs.declared.Refusal.{Refusal}
use Rattle.outcome.specs.Outcome.{Outcome, none, map, refusal_of}
use Rattle.words.specs.Word.{word_at, words_at}
use Rattle.resolution.specs.declared.Resolution.TheVariants.{Low}
use Rattle.picture.specs.declared.WriteAnswer.{WriteAnswer}
use Rattle.picture.specs.Tables.{tables_at, zero_tables, held, tail_bytes}
use Rattle.picture.specs.Writing.{Writing, raw_writing, file_written, write_answer, write_output}
use Rattle.degas.specs.Layout.{tail_length, plain_length, elite_length}
use Rattle.degas.specs.Accepts as fitting
use Rattle.conversion.specs.declared.Conversion.{Conversion}
use Rattle.conversion.specs.declared.Conversion.TheVariants.{ToElite, ToPlain}
use Rattle.conversion.specs.Converting.{convert}
use Rattle.conversion.specs.Accepts.{AcceptsToElite, AcceptsToPlain}
use Rattle.conversion.proofs.Acceptance.{to-elite-judged, to-elite-writes, to-elite-exactly, plain-length, to-plain-is, to-plain-exactly}
use Rattle.conversion.proofs.RoundTrip.{zero_held, to-elite-last, to-elite-back}
use Rattle.demands.specs.Refusals.{Refuses}
use Rattle.demands.proofs.Answers.{write-answer}
use Rattle.demands.proofs.Refusals.{convert-refused}
use Rattle.statements.specs.declared.ConversionRoundTrip.{ConversionRoundTrip}
use Rattle.statements.specs.Areas.{HoldsFile}
use Rattle.statements.specs.Blank.{zeros}
use Rattle.statements.specs.Conversions.{WritesEliteFile, WritesPlainFile, AnswersConversion, Restores}
use Rattle.statements.specs.Writing.{WritesNothing}
use Rattle.statements.proofs.Writing.{refused-number}

-- the number of an answer is its outcome's
number_of : (o : Outcome Writing) → (write_answer o).refusal.number ≡ (refusal_of o).number
number_of o = ap (λ (w : Refusal). w.number) (write-answer o)

-- the file that an accepted writing leaves at the output's front
left : (w : Writing) (out : List ℕ) → take (length w.file) (over w.file out) ≡ w.file
left w out = take-append_seam w.file (drop (length w.file) out)

-- a file's last n bytes, where it stands over an output
last-over : (n : ℕ) (file out : List ℕ) → length (drop (length file - n) file) ≡ n
    → take n (drop (length file - n) (over file out)) ≡ drop (length file - n) file
last-over n file out size =
    let k : ℕ = length file - n in
    let rest : List ℕ = drop (length file) out in
    let front : length (take k file) ≡ k = length-take-le k file (omega arith) in
    ap (λ (l : List ℕ). take n (drop k (l ++ rest))) (sym (take-append-drop k file))
    ∙ ap (λ (l : List ℕ). take n (drop k l)) (append_assoc (take k file) (drop k file) rest)
    ∙ ap (take n) (drop_at (take k file) (drop k file ++ rest) k front)
    ∙ take_at (drop k file) rest n size

module _ (to : Conversion) (file out : List ℕ) where
  pub converts-nothing : Refuses (write_answer (convert to file (length out))).refusal
      → WritesNothing (write_answer (convert to file (length out))) out (write_output (convert to file (length out)) out)
  converts-nothing h =
      let r = convert-refused to file out h in
      record { later = r.0; total = r.1; body = r.2; records = r.3 }

module _ (file out : List ℕ) (room : HoldsFile out) (bytes : Bytes file) where
  abbrev elite : Outcome Writing
  elite = convert ToElite file (length out)

  pub elite-exactly : ((write_answer elite).refusal.number ≡ 0) ↔ AcceptsToElite file
  elite-exactly =
      let e = to-elite-exactly file (length out) bytes room in
      (λ n. e.0 (sym (number_of elite) ∙ n), λ f. number_of elite ∙ e.1 f)

  pub elite-written : (f : AcceptsToElite file) → WritesEliteFile f (write_answer elite) out (write_output elite out)
  elite-written f =
      let g = to-elite-writes f (length out) room bytes in
      let w : Writing = g.0 in
      let last = to-elite-last bytes f (length out) room w g.1 in
      record {
        written = w;
        form = g.2;
        accepted = ap (λ (o : Outcome Writing). (write_answer o).refusal) g.1;
        later = ap (λ (o : Outcome Writing). write_output o out) g.1;
        total = ap (λ (o : Outcome Writing). (write_answer o).length) g.1;
        body = ap (λ (o : Outcome Writing). (write_answer o).body) g.1;
        records = ap (λ (o : Outcome Writing). (write_answer o).records) g.1;
        tail =
            ap
            (λ (o : Outcome Writing). take tail_length (drop ((write_answer o).length - tail_length) (write_output o out)))
            g.1
            ∙ last-over tail_length w.file out (ap length last ∙ length-replicate {A = ℕ} tail_length 0)
            ∙ last;
      }

  abbrev plain : Outcome Writing
  plain = convert ToPlain file (length out)

  pub plain-exactly : ((write_answer plain).refusal.number ≡ 0) ↔ AcceptsToPlain file
  plain-exactly =
      let e = to-plain-exactly file (length out) bytes room in
      (λ n. e.0 (sym (number_of plain) ∙ n), λ f. number_of plain ∙ e.1 f)

  pub plain-written : (f : AcceptsToPlain file) → WritesPlainFile f (write_answer plain) out (write_output plain out)
  plain-written f =
      let e = to-plain-is f (length out) room in
      record {
        accepted = ap (λ (o : Outcome Writing). (write_answer o).refusal) e;
        later = ap (λ (o : Outcome Writing). write_output o out) e;
        total = ap (λ (o : Outcome Writing). (write_answer o).length) e ∙ plain-length f;
        body = ap (λ (o : Outcome Writing). (write_answer o).body) e;
        records = ap (λ (o : Outcome Writing). (write_answer o).records) e;
      }

-- the blank files: plain, and raw with a tail
blank-plain : AcceptsToElite (zeros plain_length)
unfolding word_at
blank-plain = record {
  accepts =
      record { resolution = Low; allowed = refl; fits = fitting.plain refl (length-replicate {A = ℕ} plain_length 0) };
  absent = refl;
  clear = refl;
}

zeros-get_or : (n k : ℕ) → get_or (zeros n) k 0 ≡ 0
zeros-get_or zero k = refl
zeros-get_or (suc n) zero = refl
zeros-get_or (suc n) (suc k) = zeros-get_or n k

zero_word : (n at : ℕ) → word_at (zeros n) at ≡ 0
unfolding word_at
zero_word n at = rw (zeros-get_or n at, zeros-get_or n (at + 1))

zero-tables : (n at : ℕ) → tables_at (zeros n) at ≡ zero_tables
unfolding tables_at words_at tabulate
zero-tables n at =
    tabulate-ext 4 _ (λ i. replicate 4 0) (λ i h. tabulate-ext 4 _ (λ k. 0) (λ k l. zero_word n (at + i * 8 + k * 2)))

blank-elite : AcceptsToPlain (zeros elite_length)
unfolding word_at
blank-elite = record {
  accepts =
      record { resolution = Low; allowed = refl; fits = fitting.elite refl (length-replicate {A = ℕ} elite_length 0) };
  present = refl;
  zero = ap (λ (t : List (List ℕ)). tail_bytes (held t)) (zero-tables elite_length plain_length) ∙ zero_held;
}

module _ (file out : List ℕ) (room : HoldsFile out) (bytes : Bytes file) where
  pub blank-to-elite : file ≡ zeros plain_length → (write_answer (convert ToElite file (length out))).refusal.number ≡ 0
  blank-to-elite e = (elite-exactly file out room bytes).1 (subst AcceptsToElite (sym e) blank-plain)

  pub blank-to-plain : file ≡ zeros elite_length → (write_answer (convert ToPlain file (length out))).refusal.number ≡ 0
  blank-to-plain e = (plain-exactly file out room bytes).1 (subst AcceptsToPlain (sym e) blank-elite)

-- a refused conversion to Elite has a number
pub elite-numbered : (file : List ℕ) (out : ℕ) → Bytes file → (why : Refusal)
    → map file_written (convert ToElite file out) ≡ Err why → why.number ≡ 0 → ⊥
elite-numbered file out bytes why =
    refused-number _ (convert ToElite file out) (to-elite-judged file out bytes) why

-- ---- there and back

module _ (file out : List ℕ) (room : HoldsFile out) (bytes : Bytes file) (f : AcceptsToElite file)
    (b : ConversionRoundTrip) (elite : List ℕ) (first : AnswersConversion ToElite file b.to_elite out elite) where
  pub first-accepted : b.to_elite.refusal ≡ none
  first-accepted =
      ap (λ (a : WriteAnswer). a.refusal) first.answer
      ∙ ap (λ (o : Outcome Writing). (write_answer o).refusal) (to-elite-writes f (length out) room bytes).1

  pub restores : (into after : List ℕ) → HoldsFile into
      → AnswersConversion ToPlain (take b.to_elite.length elite) b.to_plain into after
      → Restores file b into after
  restores into after room-into then =
      let g = to-elite-writes f (length out) room bytes in
      let w : Writing = g.0 in
      let front : take b.to_elite.length elite ≡ w.file =
      ap₂ (λ (a : WriteAnswer) (l : List ℕ). take a.length l) first.answer first.later
      ∙ ap (λ (o : Outcome Writing). take (write_answer o).length (write_output o out)) g.1
      ∙ left w out in
      let is : convert ToPlain (take b.to_elite.length elite) (length into) ≡ raw_writing file =
      ap (λ (l : List ℕ). convert ToPlain l (length into)) front
      ∙ to-elite-back bytes f (length out) room w g.1 (length into) room-into in
      record {
        to-elite = first-accepted;
        to-plain =
            ap (λ (a : WriteAnswer). a.refusal) then.answer
            ∙ ap (λ (o : Outcome Writing). (write_answer o).refusal) is;
        total =
            ap (λ (a : WriteAnswer). a.length) then.answer
            ∙ ap (λ (o : Outcome Writing). (write_answer o).length) is;
        later = then.later ∙ ap (λ (o : Outcome Writing). write_output o into) is;
      }
