-- Demand 2: what is written is read back, in every form.
use Rattle.std.specs.Prelude.{Ok, Err}
use mathlib.Core.Path.{◌≡◌, refl, sym, ap, ◌∙◌, subst}
use mathlib.Core.Logic.{◌⊎◌, inl, inr}
use mathlib.Core.List.{List}
use Prim.Native.Nat.{ℕ, ◌≤◌, ◌<◌}
use native.Mathlib.Omega.{arith}
use lib.ListN.{length, take, drop}
use lib.Seq.{take-append_seam, get_or-take}
use Rattle.lists.specs.Over.{over}
use Rattle.lists.proofs.Over.{get_or-over-in}
use Rattle.outcome.specs.Outcome.{Outcome, Judged}
use Rattle.outcome.proofs.Outcome.{judged-value, judged-map}
use Rattle.resolution.specs.declared.Resolution.{Resolution}
use Rattle.resolution.specs.Shapes.{screen_bytes, width_of, height_of}
use Rattle.lines.specs.Registers.{register}
use Rattle.lines.proofs.PlaneRegisters.{register-front}
use Rattle.picture.specs.declared.Picture.{Picture}
use Rattle.picture.specs.Whole.{WholePicture, WholeReading}
use Rattle.picture.specs.Reading.{Reading, read_area}
use Rattle.picture.specs.Writing.{Writing, write_answer, write_output}
use Rattle.picture.proofs.Writing.{Passed}
use Rattle.degas.specs.declared.Form.{Form}
use Rattle.degas.specs.declared.Form.TheVariants.{Plain, Elite, Packed}
use Rattle.degas.specs.Writing.{write_degas, degas_back}
use Rattle.degas.proofs.RoundTrip as degas-laws
use Rattle.degas.proofs.WriteDegas as degas-writing
use Rattle.neochrome.specs.Writing.{write_neochrome}
use Rattle.neochrome.proofs.RoundTrip as neochrome-laws
use Rattle.neochrome.proofs.Writing as neochrome-writing
use Rattle.reader.specs.Reading.{kind_degas, kind_neochrome, read_file}
use Rattle.reader.proofs.Choice.{file-degas, file-neochrome}
use Rattle.writer.specs.Writing.{form_plain, form_elite, form_packed, form_neochrome, write_file}
use Rattle.writer.proofs.Choice.{form-plain, form-elite, form-neochrome, write_file-judged}
use Rattle.demands.specs.RoundTrips.{kind_of, read_back}
use Rattle.demands.proofs.Acceptance.{file-whole}

module _ (p : Picture) (whole : WholePicture p) (screen : List ℕ) (area : ℕ) (room : screen_bytes ≤ area) where
  -- a writing's file in a form, read back
  abbrev ReadsBack : ℕ → Writing → Type 0
  ReadsBack form w = read_file (kind_of form) w.file area ≡ Ok (read_back form p screen w.body w.records)

  degas-back : (form : ℕ) (f : Form) (out : ℕ) → kind_of form ≡ kind_degas
      → ((w : Writing) → degas_back f p screen w ≡ read_back form p screen w.body w.records)
      → Judged (ReadsBack form) (write_degas f p screen out)
  degas-back form f out k same =
      judged-map (degas-laws.ReadsBack p whole screen area room f) (ReadsBack form) (write_degas f p screen out)
      (degas-laws.degas-back p whole screen area room f out)
      (λ w b. file-degas (kind_of form) w.file area k ∙ b ∙ ap Ok (same w))

  neochrome-back : (out : ℕ) → Judged (ReadsBack form_neochrome) (write_neochrome p screen out)
  neochrome-back out =
      judged-map (neochrome-laws.ReadsBack p screen out whole area room) (ReadsBack form_neochrome)
      (write_neochrome p screen out)
      (neochrome-laws.neochrome-back p screen out whole area room)
      (λ w b. file-neochrome kind_neochrome w.file area refl ∙ b)

  pub file-back : (form out : ℕ) → Judged (ReadsBack form) (write_file form p screen out)
  file-back form out =
      write_file-judged form p screen out (ReadsBack form)
      (λ e. in-form Plain e (degas-back form_plain Plain out refl (λ w. refl)))
      (λ e. in-form Elite e (degas-back form_elite Elite out refl (λ w. refl)))
      (λ e. in-form Packed e (degas-back form_packed Packed out refl (λ w. refl)))
      (λ e. subst (λ (n : ℕ). Judged (ReadsBack n) (write_neochrome p screen out)) (sym e) (neochrome-back out))
    where
      in-form : {n : ℕ} (f : Form) → form ≡ n → Judged (ReadsBack n) (write_degas f p screen out)
          → Judged (ReadsBack form) (write_degas f p screen out)
      in-form f e b = subst (λ (n : ℕ). Judged (ReadsBack n) (write_degas f p screen out)) (sym e) b

  -- a file that was written, read alone
  pub written_read : (form out : ℕ) (w : Writing) → write_file form p screen out ≡ Ok w
      → read_file (kind_of form) w.file area ≡ Ok (read_back form p screen w.body w.records)
  written_read form out w e = judged-value (ReadsBack form) (write_file form p screen out) w (file-back form out) e

-- ---- forms 1, 2 and 4 are written whatever the screen; when form 3 is, LeastBodies says

module _ (form : ℕ) (p : Picture) (screen : List ℕ) (out : ℕ) (r : Resolution)
    (passed : Passed (length screen) out p.resolution r) where
  abbrev number : Outcome Writing → ℕ
  number o = (write_answer o).refusal.number

  pub unpacked-written : (form ≡ form_plain) ⊎ ((form ≡ form_elite) ⊎ (form ≡ form_neochrome))
      → number (write_file form p screen out) ≡ 0
  unpacked-written (inl e) =
      ap number (form-plain form p screen out e ∙ degas-writing.write-passed Plain p screen out passed)
  unpacked-written (inr (inl e)) =
      ap number (form-elite form p screen out e ∙ degas-writing.write-passed Elite p screen out passed)
  unpacked-written (inr (inr e)) =
      ap number (form-neochrome form p screen out e ∙ neochrome-writing.write-passed p screen out r passed)

-- ---- "Writing a picture and reading it back gives the same resolution, palette and registers, with the tail that
-- document 01 names for the form."

module _ (form : ℕ) (p : Picture) (screen out area : List ℕ) where
  abbrev written : Outcome Writing
  written = write_file form p screen (length out)

  -- the file is the output's front, as long as the writing reports
  abbrev file_of : Outcome Writing → List ℕ
  file_of o = take (write_answer o).length (write_output o out)

  abbrev reading : Outcome Reading
  reading = read_file (kind_of form) (file_of written) (length area)

  module _ (whole : WholePicture p) (room : screen_bytes ≤ length area)
      (ok : (write_answer written).refusal.number ≡ 0) where
    -- resolution, palette, tail and counts
    pub round_trip : reading
        ≡ Ok (read_back form p screen (write_answer written).body (write_answer written).records)
    round_trip = go written (file-back p whole screen (length area) room form (length out)) ok
      where
        go : (o : Outcome Writing) → Judged (ReadsBack p whole screen (length area) room form) o
            → (write_answer o).refusal.number ≡ 0
            → read_file (kind_of form) (file_of o) (length area)
            ≡ Ok (read_back form p screen (write_answer o).body (write_answer o).records)
        go (Ok w) b n =
            ap (λ (file : List ℕ). read_file (kind_of form) file (length area))
            (take-append_seam w.file (drop (length w.file) out)) ∙ b
        go (Err why) b n = absurd (b n)

    -- the screen that was read is whole, so the one that was written was
    full : length (take screen_bytes screen) ≡ screen_bytes
    full =
        (judged-value WholeReading reading
        (read_back form p screen (write_answer written).body (write_answer written).records)
        (file-whole (kind_of form) (file_of written) (length area))
        round_trip
        ).size

    -- and registers, in the area that the reading was lent
    pub register-back : (r : Resolution) (x y : ℕ) → x < width_of r → y < height_of r
        → register (read_area reading area) r x y ≡ register screen r x y
    register-back r x y hx hy =
        ap (λ (o : Outcome Reading). register (read_area o area) r x y) round_trip
        ∙ register-front (over (take screen_bytes screen) area) screen
        (λ o h. get_or-over-in (take screen_bytes screen) area o 0 (omega (arith, full))
        ∙ get_or-take screen_bytes screen o 0 h)
        r
        x
        y
        hx
        hy
