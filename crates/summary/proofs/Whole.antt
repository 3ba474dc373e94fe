-- What is written is the summary of the whole input.
use Rattle.std.proofs.Common.{◌≡◌, ℕ, ◌≤◌, ◌<◌, List, ◌++◌, length, take, refl, sym, ap, ◌∙◌, arith, append-nil}
use Rattle.std.proofs.Common.{None, Some, Ok, Err, IfSome, OnOk, subst}
use Rattle.std.proofs.Math.Seq.{take-append_seam}
use Rattle.std.specs.Io.KnownBytes.{Consumes, IsAtEnd, Appends}
use Rattle.std.specs.declared.option.Option.{Option}
use Rattle.std.specs.declared.result.Result.{Result}
use native.Mathlib.Decide.{dec_lt}
use lib.Seq.{length-take-le}
use Rattle.outcome.specs.Outcome.{Outcome, map}
use Rattle.report.specs.Summary.{summary_bytes, deciding_bytes, summary, summarised, summary_output}
use Rattle.report.proofs.Long.{summary-first}

-- the front that was read decides the summary of all that there was to read
pub summary-read : (before after : Option (List ℕ)) (buffer : List ℕ) (n : ℕ) → deciding_bytes ≤ length buffer
    → n ≤ length buffer → Consumes before after (take n buffer) → (n < length buffer → IsAtEnd after)
    → IfSome before (λ (file : List ℕ). summary (take n buffer) ≡ summary file)
summary-read None after buffer n enough within front end = tt
summary-read (Some file) None buffer n enough within front end = absurd front
summary-read (Some file) (Some rest) buffer n enough within front end = go (dec_lt n (length buffer))
  where
    go : Dec (n < length buffer) → summary (take n buffer) ≡ summary file
    go (yes l) =
        ap summary (sym (front ∙ ap (λ (l : List ℕ). take n buffer ++ l) (end l) ∙ append-nil (take n buffer)))
    go (no l) =
        let read : length (take n buffer) ≡ n = length-take-le n buffer within in
        let same : take n buffer ≡ take n file =
        sym (ap (take n) front ∙ ap (λ (m : ℕ). take m (take n buffer ++ rest)) (sym read)
        ∙ take-append_seam (take n buffer) rest) in
        ap summary same ∙ summary-first file n (omega arith)

-- an output of 512 bytes holds a file's summary
pub summary-made : (file out : List ℕ) (made : Outcome ℕ) → length out ≡ summary_bytes
    → made ≡ map length (summarised file (length out)) → made ≡ Ok (length (summary file))
unfolding summarised
summary-made file out made size is = is ∙ rw size refl

-- the text that is written is a file's summary
pub text-written : (file out new : List ℕ) (n : ℕ) → length out ≡ summary_bytes → n ≡ length (summary file)
    → new ≡ summary_output (summarised file (length out)) out → take n new ≡ summary file
unfolding summarised
text-written file out new n size is written = rw (is, written, size) (take-append_seam (summary file) _)

-- what a successful write appends, where the front decides the summary
pub appended : {T E : Type 0} (r : Result T E) (known before after : Option (List ℕ)) (front text : List ℕ)
    → text ≡ summary front → IfSome known (λ (file : List ℕ). summary front ≡ summary file)
    → OnOk r (Appends before after text)
    → OnOk r (IfSome known (λ (file : List ℕ). Appends before after (summary file)))
appended (Ok x) None before after front text is decides wrote = tt
appended (Ok x) (Some file) before after front text is decides wrote =
    subst (Appends before after) (is ∙ decides) wrote
appended (Err e) known before after front text is decides wrote = tt
