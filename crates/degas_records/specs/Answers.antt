-- The answers of the record list as numbers, for callers that take no enum.
use Rattle.std.specs.Prelude.{ℕ, Ok, Err, None, Some}
use Rattle.outcome.specs.declared.Refusal.{Refusal}
use Rattle.outcome.specs.Outcome.{Outcome, none, map}
use Rattle.resolution.specs.declared.Resolution.{Resolution}
use Rattle.degas_records.specs.declared.CursorAnswer.{CursorAnswer}
use Rattle.degas_records.specs.declared.RecordAnswer.{RecordAnswer}
use Rattle.degas_records.specs.declared.RecordCursor.{RecordCursor}
use Rattle.degas_records.specs.declared.RecordKind.{RecordKind}
use Rattle.degas_records.specs.declared.RecordKind.TheVariants.{Literal, Repeat, Nothing}
use Rattle.degas_records.specs.declared.Stepped.{Stepped}
use Rattle.degas_records.specs.Listing.{Found, cursor_at, first_cursor}

-- C's answer of the cursor that is given; a refused opening gives zero in all else
abbrev pub given_cursor_answer : Outcome RecordCursor → CursorAnswer
given_cursor_answer (Ok c) = record { refusal = none; cursor = c }
given_cursor_answer (Err why) = record { refusal = why; cursor = cursor_at 0 0 0 }

-- the cursor before the first record
abbrev pub cursor_answer : Outcome Resolution → CursorAnswer
cursor_answer o = given_cursor_answer (map (λ _. first_cursor) o)

-- 0 is no record
abbrev pub kind_number : RecordKind → ℕ
kind_number Literal = 1
kind_number Repeat = 2
kind_number Nothing = 3

-- a step's answer that has no record: all zero but for the refusal and the next cursor
abbrev pub no_record : Refusal → RecordCursor → RecordAnswer
no_record why next =
    record { refusal = why; kind = 0; offset = 0; plane_row = 0; length = 0; next = next }

-- a step's answer: a record; after the last one, all zero; or the refusal, and zero in all else; the next cursor is
-- given with each
abbrev pub found_answer : Found → RecordCursor → RecordAnswer
found_answer (Ok (Some e)) next =
    record {
      refusal = none;
      kind = kind_number e.kind;
      offset = e.offset;
      plane_row = e.plane_row;
      length = e.length;
      next = next;
    }
found_answer (Ok None) next = no_record none next
found_answer (Err why) next = no_record why next

abbrev pub record_answer : Stepped → RecordAnswer
record_answer s = found_answer s.found s.next
