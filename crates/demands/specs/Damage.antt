-- How far a damaged packed DEGAS file, or a MacPaint file, is good (document 02, ticket 3: "Say which row broke";
-- ticket 9: "row numbers are given as for DEGAS").
use Rattle.std.specs.Prelude.{ℕ, ◌≤◌, ◌<◌, ◌≡◌, true, ◌⊎◌, List, length, take, Ok, Some}
use Rattle.lists.specs.Bytes.{Bytes}
use Rattle.outcome.specs.declared.Refusal.{Refusal}
use Rattle.resolution.specs.declared.Resolution.{Resolution}
use Rattle.resolution.specs.Choice.{chosen, number_of}
use Rattle.resolution.specs.Shapes.{screen_bytes, raster_of}
use Rattle.bodies.specs.Damage.{BodyStops, good_rows, good_row, good_part, good_count}
use Rattle.bodies.specs.Unpacking.{UnpackedBody}
use Rattle.picture.specs.Reading.{Reading}
use Rattle.degas.specs.Layout.{header_length, packed_most}
use Rattle.degas.specs.Opening.{resolution_number, is_packed}
use Rattle.macpaint.specs.Layout as macpaint
use Rattle.macpaint.specs.Layout.{longest_file, version, header_ignored, header_valid}
use Rattle.macpaint.specs.Plate.{plate_raster, plate_bytes}
use Rattle.macpaint.specs.Reading.{read_plate}
use Rattle.reader.specs.Reading.{kind_degas, read_file}

-- `Damaged file why`: a packed file of an allowed length and resolution, whose body, from offset 34 on, stops at a
-- record at fault with this refusal, whose place is counted from the file's start
pub record Damaged (file : List ℕ) (why : Refusal) : Type 0 where
  pub resolution : Resolution
  pub allowed : chosen (resolution_number file) ≡ Some resolution
  pub packed : is_packed file ≡ true
  pub least : header_length ≤ length file
  pub most : length file ≤ packed_most
  pub stops : BodyStops file header_length (raster_of resolution) why

-- `Completion file why other q`: another file that begins with the same bytes up to the record at fault, and that is
-- accepted with the reading q
pub record Completion (file : List ℕ) (why : Refusal) (other : List ℕ) (q : Reading) : Type 0 where
  pub bytes : Bytes other
  pub same : take why.place other ≡ take why.place file
  pub area : ℕ
  pub accepts : read_file kind_degas other area ≡ Ok q

-- `GoodBefore file why`: how far the map is good. All completions have the file's resolution, and the same first plane
-- rows, as many as the refusal's plane row says, and of the plane row after them the same first bytes, as many as its
-- good bytes; together these are `good_count` bytes of the screen, less than the whole. It says how much is good at
-- least: numbers that are too small would satisfy it too, and where no completion exists it says nothing. How far
-- exactly is `Damaged`.
pub record GoodBefore (file : List ℕ) (why : Refusal) : Type 0 where
  pub resolution : Resolution
  pub allowed : chosen (resolution_number file) ≡ Some resolution
  pub same : {other : List ℕ} {q : Reading} → Completion file why other q
      → q.picture.resolution ≡ number_of resolution
  pub rows : {other another : List ℕ} {p q : Reading} → Completion file why other p → Completion file why another q
      → good_rows (raster_of resolution) why p.screen ≡ good_rows (raster_of resolution) why q.screen
  pub row : {other another : List ℕ} {p q : Reading} → Completion file why other p → Completion file why another q
      → good_row (raster_of resolution) why p.screen ≡ good_row (raster_of resolution) why q.screen
  pub count : {other : List ℕ} {q : Reading} → Completion file why other q
      → length (good_part (raster_of resolution) why q.screen) ≡ good_count (raster_of resolution) why
  pub below : good_count (raster_of resolution) why < screen_bytes

-- ---- MacPaint plates

-- `DamagedPlate file why`: a file of an allowed length and version, whose body, from offset 512 on, stops at a record
-- at fault with this refusal, whose place is counted from the file's start
pub record DamagedPlate (file : List ℕ) (why : Refusal) : Type 0 where
  pub allowed : (version file ≡ header_ignored) ⊎ (version file ≡ header_valid)
  pub least : macpaint.header_length ≤ length file
  pub most : length file ≤ longest_file
  pub stops : BodyStops file macpaint.header_length plate_raster why

-- `PlateCompletion file why other u`: another file that begins with the same bytes up to the record at fault, and that
-- is accepted with u
pub record PlateCompletion (file : List ℕ) (why : Refusal) (other : List ℕ) (u : UnpackedBody) : Type 0 where
  pub bytes : Bytes other
  pub same : take why.place file ≡ take why.place other
  pub area : ℕ
  pub accepts : read_plate other area ≡ Ok u

-- `PlateGoodBefore file why`: how far the plate is good, as `GoodBefore` says it of a screen. Where exactly the body
-- stops is said by `DamagedPlate`.
pub record PlateGoodBefore (file : List ℕ) (why : Refusal) : Type 0 where
  pub rows : {other another : List ℕ} {u v : UnpackedBody} → PlateCompletion file why other u
      → PlateCompletion file why another v
      → good_rows plate_raster why u.image ≡ good_rows plate_raster why v.image
  pub row : {other another : List ℕ} {u v : UnpackedBody} → PlateCompletion file why other u
      → PlateCompletion file why another v
      → good_row plate_raster why u.image ≡ good_row plate_raster why v.image
  pub count : {other : List ℕ} {u : UnpackedBody} → PlateCompletion file why other u
      → length (good_part plate_raster why u.image) ≡ good_count plate_raster why
  pub below : good_count plate_raster why < plate_bytes
