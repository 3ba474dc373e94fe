-- `read_spectrum` meets its contract: `spectrum::read` accepts exactly the files that fit and refuses exactly as the
-- relation says.
use Rattle.std.proofs.Common.{length, ap, refl, ◌∙◌, rules}
use Rattle.lists.specs.Bytes.{Bytes}
use Rattle.outcome.specs.Outcome.{refusal_of}
use Rattle.outcome.proofs.Outcome.{refusal_of-map}
use Rattle.spectrum.specs.Reading.{read_spectrum}
use Rattle.statements.proofs.Spectrum.{reads-exactly, reads-spectrum, reads-planes, reads-no-spectrum}
use Rattle.statements.proofs.Spectrum.{reads-why, accepted-unlisted, blank-spectrum-read}
use Rattle.statements.proofs.read_spectrum.Goals as goal

pub returns : goal.returns
returns c =
    let a = c.args in
    let file = a.file.now in
    let screen = a.screen.now in
    let palettes = a.palettes.now in
    let bytes : Bytes file = search rules in
    let answer =
    c.into.ensures ∙ ap refusal_of c.read.ensures.answer
    ∙ refusal_of-map (λ _. tt) (read_spectrum a.kind file (length screen) (length palettes)) in
    rw (answer, c.read.ensures.screen, c.read.ensures.palettes)
    (record {
      exactly = reads-exactly a.kind file screen palettes bytes;
      accepted = reads-spectrum a.kind file screen palettes;
      registers = reads-planes a.kind file screen palettes;
      listed = reads-no-spectrum a.kind file screen palettes bytes;
      refused = reads-why a.kind file screen palettes bytes;
      unlisted = accepted-unlisted a.kind file screen palettes bytes;
      blank = blank-spectrum-read a.kind file screen palettes;
      whole = record { answer = refl; screen_later = refl; palettes_later = refl };
    })
