-- A DEGAS file converted, plain to Elite or Elite to plain: the whole judgement, and what is written (document 02,
-- ticket 7).
use Rattle.std.specs.Prelude.{ℕ, ◌/◌, ◌%◌, ◌^◌, Bool, cond, not, ◌&&◌, List, ltb, eqb, Ok, Err}
use Rattle.lists.specs.All.{all_first}
use Rattle.outcome.specs.Outcome.{Outcome, refuse_if, bind}
use Rattle.outcome.specs.Refusal.{area_too_short, unknown_kind, no_packed_body, ignored_bits_set, no_zero_tail}
use Rattle.words.specs.Word.{word_at}
use Rattle.resolution.specs.Shapes.{screen_bytes}
use Rattle.picture.specs.declared.Picture.{Picture}
use Rattle.picture.specs.Tables.{tail_bytes}
use Rattle.picture.specs.Writing.{Writing, file_bytes}
use Rattle.degas.specs.declared.Form.TheVariants.{Plain, Elite, Packed}
use Rattle.degas.specs.Layout.{tail_length}
use Rattle.degas.specs.Reading.{read_degas}
use Rattle.degas.specs.Writing.{write_degas}
use Rattle.conversion.specs.declared.Conversion.{Conversion}
use Rattle.conversion.specs.declared.Conversion.TheVariants.{ToElite, ToPlain}

-- of a first word, bits 2 to 14, which reading ignores
abbrev pub ignored_bits : ℕ → ℕ
ignored_bits word = word / 2 ^ 2 % 2 ^ 13

-- a tail is present, and its 32 bytes are all zero
abbrev pub zero_tail : Picture → Bool
zero_tail p = p.tail_present && all_first tail_length (λ b. eqb b 0) (tail_bytes p.tail)

-- an outcome, or another in its place where it is refused with this number
abbrev pub recover : {A : Type 0} → ℕ → Outcome A → Outcome A → Outcome A
recover number (Ok a) other = Ok a
recover number (Err why) other = cond (eqb why.number number) other (Err why)

-- Elite packed where a packed body below 32,000 bytes exists, and raw where the packed writing is refused with 9
unfoldable pub write_elite : Picture → List ℕ → ℕ → Outcome Writing
write_elite p screen out =
    recover no_packed_body (write_degas Packed p screen out) (write_degas Elite p screen out)

-- what a file with this first word gave, written as Elite: "2 for a packed file or one with a tail", where a packed one
-- has a tail, "then 17 for a plain one with those bits set"
unfoldable pub plain_to_elite : ℕ → Picture → List ℕ → ℕ → Outcome Writing
plain_to_elite word p screen out =
    refuse_if p.tail_present unknown_kind
    (refuse_if (not (eqb (ignored_bits word) 0)) ignored_bits_set (write_elite p screen out))

-- what a file gave, written plain: "18 for a tail absent or not all zero"
unfoldable pub elite_to_plain : Picture → List ℕ → ℕ → Outcome Writing
elite_to_plain p screen out =
    refuse_if (not (zero_tail p)) no_zero_tail (write_degas Plain p screen out)

-- what a file with this first word gave, judged and written
abbrev pub converted : Conversion → ℕ → Picture → List ℕ → ℕ → Outcome Writing
converted ToElite word p screen out = plain_to_elite word p screen out
converted ToPlain word p screen out = elite_to_plain p screen out

-- a file into an output of `out` bytes: 1 for fewer than 32,128, then the reading's refusals, then the conversion's own
unfoldable pub convert : Conversion → List ℕ → ℕ → Outcome Writing
convert to file out =
    refuse_if (ltb out file_bytes) area_too_short
    (bind (read_degas file screen_bytes) (λ q. converted to (word_at file 0) q.picture q.screen out))
