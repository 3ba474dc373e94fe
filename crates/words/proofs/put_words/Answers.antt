use Rattle.std.proofs.Common.{◌≡◌, refl, ap, ◌∙◌, ℕ, List, ◌+◌, ◌-◌, ◌*◌, length, get_or, take, arith}
use Rattle.std.proofs.lemmas.Grind.{common_steps}
use lib.Seq.{length-take-le}
use mathlib.Core.List.{flatten}
use Rattle.lists.proofs.Flatten.{flatten-part}
use Rattle.words.specs.Word.{word_bytes, words_bytes}
use Rattle.words.proofs.Word.{length-words_bytes}
use Rattle.words.proofs.put_words.Goals as goal

pub loop-i-init : goal.loop-i-init
unfolding words_bytes flatten
loop-i-init c = (refl, refl)

pub loop-i-preserved : goal.loop-i-preserved
unfolding words_bytes word_bytes
loop-i-preserved c =
    let l = c.loop-i in
    let ws : List ℕ = c.args.words.now in
    let put : c.copy_from_slice.new.self ≡ word_bytes (get_or ws l.i 0) =
    c.copy_from_slice.ensures.after ∙ c.word_bytes.ensures in
    let n : length (words_bytes (take l.i ws)) ≡ l.i * 2 =
    length-words_bytes (take l.i ws) ∙ ap (λ (k : ℕ). k * 2) (length-take-le l.i ws (omega arith)) in (
      grind (arith, common_steps),
      flatten-part word_bytes ws 0 l.i (omega arith) c.args.out.now l.out c.copy_from_slice.new.self (l.i * 2)
          (l.i * 2 + 2 - l.i * 2) l.invariant.1 n put
          (omega (arith, ap length put)),
    )
