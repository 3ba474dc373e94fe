-- What reading and writing a MacPaint plate promises (document 02, ticket 9: demands 1 to 3 of plates).
use Rattle.std.specs.Prelude.{ℕ, ◌+◌, ◌*◌, ◌≤◌, ◌<◌, ◌≡◌, length, take, drop, replicate}
use mathlib.Core.List.{List, [], ◌∷◌, ◌++◌, flatten}
use Rattle.lists.specs.Bytes.{Bytes}
use Rattle.lists.specs.Over.{over}
use Rattle.lists.specs.Tabulate.{tabulate}
use Rattle.outcome.specs.Outcome.{none}
use Rattle.outcome.specs.Refusal.{no_packed_body}
use Rattle.packbits.specs.UnpacksRows.{UnpacksRows}
use Rattle.pack.specs.LeastRows.{LeastRowsOf}
use Rattle.bodies.specs.declared.BodyAnswer.{BodyAnswer}
use Rattle.bodies.specs.Body.{body_refused}
use Rattle.bodies.specs.Reading.{body_area}
use Rattle.bodies.specs.Unpacking.{UnpackedBody, unpacked_answer}
use Rattle.picture.specs.declared.WriteAnswer.{WriteAnswer}
use Rattle.picture.specs.Writing.{write_answer, write_output}
use Rattle.macpaint.specs.Layout.{header_length, body_limit, longest_file, plate_file}
use Rattle.macpaint.specs.Plate.{plate_bytes}
use Rattle.macpaint.specs.Reading.{read_plate}
use Rattle.macpaint.specs.Writing.{write_plate, most_bytes}
use Rattle.demands.specs.Refusals.{Refuses}
use Rattle.statements.specs.declared.PlateRoundTrip.{PlateRoundTrip}
use Rattle.statements.specs.Blank.{zeros}

-- "51,840 lent bytes"; "output under 51,711 or plate under 51,840"
abbrev pub HoldsPlate : List ℕ → Type 0
HoldsPlate area = plate_bytes ≤ length area

pub record StatedPlate (plate out : List ℕ) : Type 0 where
  pub plate-fits : HoldsPlate plate
  pub output-fits : longest_file ≤ length out

-- ---- reading

-- an accepted reading: both counts, and the plate over the area's first 51,840 bytes
pub record ReadsPlate (u : UnpackedBody) (a : BodyAnswer) (area after : List ℕ) : Type 0 where
  pub accepted : a.refusal ≡ none
  pub body : a.body ≡ u.body
  pub records : a.records ≡ u.records
  pub later : after ≡ over u.image area
  pub past : drop plate_bytes after ≡ drop plate_bytes area

-- a refused one: the area as it was, and zero in all but the refusal
pub record ReadsNoPlate (a : BodyAnswer) (area after : List ℕ) : Type 0 where
  pub later : after ≡ area
  pub body : a.body ≡ 0
  pub records : a.records ≡ 0

-- the whole answer of `macpaint::read`, the refusal's number, place, row and bytes included
pub record AnswersPlateRead (file : List ℕ) (a : BodyAnswer) (area after : List ℕ) : Type 0 where
  pub answer : a ≡ unpacked_answer (read_plate file (length area))
  pub later : after ≡ body_area (read_plate file (length area)) area

-- the blank plate, its body, 720 times B9 00, and a file of it
abbrev pub blank_plate : List ℕ
blank_plate = zeros plate_bytes

abbrev pub blank_plate_body : List ℕ
blank_plate_body = flatten (replicate 720 (0xB9 ∷ 0x00 ∷ []))

abbrev pub blank_plate_file : List ℕ
blank_plate_file = zeros header_length ++ blank_plate_body

-- ---- writing

-- "720 rows of 72 bytes"
abbrev pub plate_rows : List ℕ → List (List ℕ)
plate_rows plate = tabulate 720 (λ n. take 72 (drop (n * 72) plate))

-- "a plate's 720 rows standing for the plane rows": a byte string unpacks to the plate
abbrev pub UnpacksPlate : List ℕ → List ℕ → ℕ → Type 0
UnpacksPlate body plate n = UnpacksRows body (plate_rows plate) n

-- no byte string under 51,200 bytes unpacks to the plate
abbrev pub NoPlateBodyBelow : List ℕ → Type 0
NoPlateBodyBelow plate =
    (body : List ℕ) (n : ℕ) → Bytes body → UnpacksPlate body plate n → length body < body_limit → ⊥

-- body unpacks to the plate, with n records, and every other byte string that does has at least as many bytes
pub record ShortestPlateBody (plate body : List ℕ) (n : ℕ) : Type 0 where
  pub unpacks : UnpacksPlate body plate n
  pub shortest : {other : List ℕ} {m : ℕ} → UnpacksPlate other plate m → length body ≤ length other

-- a header of 512 zero bytes and the least body, row by row; reported are its length and number of records, and a file
-- length 512 above
pub record WritesLeastPlate (plate : List ℕ) (a : WriteAnswer) (out after : List ℕ) : Type 0 where
  pub packed : List ℕ
  pub accepted : a.refusal ≡ none
  pub later : after ≡ over (plate_file packed) out
  pub total : a.length ≡ a.body + header_length
  pub rows : LeastRowsOf packed (plate_rows plate) a.records
  pub least : ShortestPlateBody plate packed a.records
  pub body : a.body ≡ length packed
  pub below : a.body < body_limit

-- "a plate's worst least body is 52,560"
abbrev pub PlateNeverAbove : List ℕ → Type 0
PlateNeverAbove plate = (body : List ℕ) (n : ℕ) → ShortestPlateBody plate body n → length body ≤ most_bytes

pub record PlateAttained : Type 0 where
  pub plate : List ℕ
  pub whole : length plate ≡ plate_bytes
  pub bytes : Bytes plate
  pub packed : List ℕ
  pub records : ℕ
  pub least : ShortestPlateBody plate packed records
  pub most : length packed ≡ most_bytes

-- the blank plate is written; one with the longest least body is refused
pub record PlateBothOccur (plate : List ℕ) (a : WriteAnswer) : Type 0 where
  pub blank : plate ≡ blank_plate → a.refusal.number ≡ 0
  pub longest : (most : PlateAttained) → plate ≡ most.plate → a.refusal.number ≡ no_packed_body

-- the whole answer of `macpaint::write`
pub record AnswersPlateWrite (plate : List ℕ) (a : WriteAnswer) (out after : List ℕ) : Type 0 where
  pub answer : a ≡ write_answer (write_plate plate (length out))
  pub later : after ≡ write_output (write_plate plate (length out)) out

-- ---- written and read back

-- the counts that the writing reported, and the plate
pub record PlateBack (plate : List ℕ) (b : PlateRoundTrip) (area after : List ℕ) : Type 0 where
  pub accepted : b.read.refusal ≡ none
  pub body : b.read.body ≡ b.written.body
  pub records : b.read.records ≡ b.written.records
  pub later : after ≡ over (take plate_bytes plate) area

-- the whole answer: that of the writing, and of reading the output's front as a file; where the writing is refused,
-- that refusal, and the area as it was
pub record AnswersPlateRoundTrip (plate : List ℕ) (b : PlateRoundTrip) (out file area after : List ℕ) : Type 0 where
  pub write : AnswersPlateWrite plate b.written out file
  pub read : b.written.refusal.number ≡ 0
      → AnswersPlateRead (take b.written.length file) b.read area after
  pub unread : Refuses b.written.refusal → (b.read ≡ body_refused b.written.refusal) × (after ≡ area)
