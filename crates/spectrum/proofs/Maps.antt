-- Laws of the maps of an SPC file: where they stand, and what the data map makes.
use Rattle.std.specs.Prelude.{Ok, Err}
use mathlib.Core.Path.{◌≡◌, refl, sym, ap, ◌∙◌}
use mathlib.Core.List.{List, [], ◌++◌}
use Prim.Native.Nat.{ℕ, ◌+◌, ◌-◌, ◌≤◌, ◌<◌}
use native.Mathlib.Omega.{arith}
use lib.ListN.{length, take, drop, length-append, length-drop, take-append-drop}
use lib.Seq.{take_at, drop_at, drop-drop, length-take-le, take-add}
use Rattle.lists.specs.Bytes.{Bytes}
use Rattle.outcome.specs.Outcome.{refusal, refuse}
use Rattle.outcome.specs.Refusal.{size_mismatch}
use Rattle.filling.specs.Filling.{Filling}
use Rattle.filling.specs.Makes.{Makes, Stops}
use Rattle.filling.proofs.Makes.{Stands, length-stands}
use Rattle.spectrum_data_map.specs.WholeRecord.{WholeRecord}
use Rattle.spectrum_data_map.specs.FaultyRecord.{FaultyRecord}
use Rattle.spectrum_data_map.proofs.MakesMap.{makes-map, stops-map}
use Rattle.spectrum_colour_map.specs.ColourMap.{palette_count, palette_words, no_palette, read_map}
use Rattle.spectrum_colour_map.specs.HoldsPalettes.{HoldsPalettes}
use Rattle.spectrum_colour_map.specs.StopsPalettes.{StopsPalettes}
use Rattle.spectrum_colour_map.proofs.ColourMap.{map-accepted, map-refused, bytes_left, read-accepted, read-refused}
use Rattle.spectrum_colour_map.proofs.HoldsPalettes.{palettes-held}
use Rattle.spectrum_colour_map.proofs.StopsPalettes.{refusal_at, palettes-halt}
use Rattle.spectrum.specs.Layout.{header_bytes, spc_flag, flag, reserved, data_length, colour_length, colour_start}
use Rattle.spectrum.specs.Layout.{spc_length, before_colours}
use Rattle.spectrum.specs.Screen.{plane_bytes}
use Rattle.spectrum.specs.Reading.{unpacked_data, read_maps, read_spc}
use Rattle.spectrum.specs.Accepts.{HoldsMaps}
use Rattle.spectrum.proofs.Header.{headed, begins-as, long-begins, words_right, right-words}
use Rattle.spectrum.proofs.Reading.{header-right}

-- the data map, up to its end
data-part : (file : List ℕ) (n : ℕ) → header_bytes ≤ length file
    → drop header_bytes (take (header_bytes + n) file) ≡ take n (drop header_bytes file)
data-part file n h =
    ap (drop header_bytes) (take-add header_bytes n file)
    ∙ drop_at (take header_bytes file) (take n (drop header_bytes file)) header_bytes (length-take-le header_bytes file h)

-- the header of a file with two maps is right, and they stand where it says
pub record MapsAt (file packed colours : List ℕ) : Type 0 where
  pub long : header_bytes ≤ length file
  pub fits : length file ≡ spc_length file
  pub flagged : flag file ≡ spc_flag
  pub zero : reserved file ≡ 0
  pub start : colour_start file ≡ header_bytes + length packed
  pub data_at : Stands (before_colours file) header_bytes packed
  pub colours_at : Stands file (colour_start file) colours

pub maps-at : (file packed colours : List ℕ) → HoldsMaps file packed colours → MapsAt file packed colours
maps-at file packed colours h =
    let t = headed h.headed in
    let w = words_right file t.first in
    let size : length file ≡ 12 + (length packed + length colours) =
    omega (arith, t.size, length-append packed colours) in
    let start : colour_start file ≡ 12 + length packed = omega (arith, t.data_size) in
    record {
      long = omega arith;
      fits = omega (arith, t.data_size, t.colour_size);
      flagged = w.0;
      zero = w.1;
      start = start;
      data_at =
          record {
            bytes =
                data-part file (data_length file) (omega arith)
                ∙ ap (take (data_length file)) t.behind
                ∙ take_at packed colours (data_length file) (sym t.data_size);
            inside = omega (arith, length-take-le (colour_start file) file (omega arith));
          };
      colours_at =
          record {
            bytes =
                sym (drop-drop (data_length file) header_bytes file)
                ∙ ap (drop (data_length file)) t.behind
                ∙ drop_at packed colours (data_length file) (sym t.data_size);
            inside = omega arith;
          };
    }

-- the maps of a file whose header is right
pub holds-maps : (file : List ℕ) → Bytes file → header_bytes ≤ length file → length file ≡ spc_length file
    → flag file ≡ spc_flag → reserved file ≡ 0
    → HoldsMaps file (drop header_bytes (before_colours file)) (drop (colour_start file) file)
holds-maps file bytes long fits f r =
    let n : ℕ = data_length file in
    let packed : List ℕ = drop header_bytes (before_colours file) in
    let colours : List ℕ = drop (colour_start file) file in
    let many : length packed ≡ n =
    length-drop header_bytes (before_colours file)
    ∙ omega (arith, length-take-le (colour_start file) file (omega arith)) in
    let others : length colours ≡ colour_length file = omega (arith, length-drop (colour_start file) file) in
    let behind : packed ++ colours ≡ drop header_bytes file =
    ap (λ (l : List ℕ). l ++ colours) (data-part file n long)
    ∙ ap (λ (l : List ℕ). take n (drop header_bytes file) ++ l) (sym (drop-drop n header_bytes file))
    ∙ take-append-drop n (drop header_bytes file) in
    record {
      headed = begins-as refl (right-words file bytes f r) (sym many) (sym others) (sym behind) (long-begins file long);
    }

-- ---- what the maps come to

module _ (file packed colours : List ℕ) (m : MapsAt file packed colours) where
  pub before-length : length (before_colours file) ≡ colour_start file
  before-length = length-take-le (colour_start file) file m.colours_at.inside

  pub to-maps : read_spc file ≡ read_maps file
  to-maps = header-right file m.long m.fits m.flagged m.zero

  -- the data map makes all its bytes, and these are left of it
  pub record Unpacked (behind planes : List ℕ) : Type 0 where
    pub end : ℕ
    pub is : (unpacked_data file).ends ≡ Ok end
    pub made : (unpacked_data file).made ≡ planes
    pub left : end + length behind ≡ colour_start file

  pub unpacked : (behind planes : List ℕ) → Makes WholeRecord plane_bytes packed behind planes → Unpacked behind planes
  unpacked behind planes u =
      let t = makes-map (before_colours file) header_bytes m.data_at u in
      record {
        end = t.end;
        is = ap (λ (f : Filling). f.ends) t.fills;
        made = ap (λ (f : Filling). f.made) t.fills;
        left = length-stands (before_colours file) t.end t.stands ∙ before-length;
      }

  -- or stops at a record at fault
  pub data-stops : (number : ℕ) (rest : List ℕ) → Stops WholeRecord FaultyRecord plane_bytes packed number rest
      → (unpacked_data file).ends ≡ Err (refusal number (header_bytes + length packed - length rest))
  data-stops number rest s =
      let t = stops-map (before_colours file) header_bytes m.data_at s in
      let place : t.place ≡ header_bytes + length packed - length rest =
      omega (arith, length-stands (before_colours file) t.place t.stands, before-length, m.start) in
      t.ends ∙ ap (λ (k : ℕ). Err (refusal number k)) place

  -- the colour map holds its palettes, and nothing is left of it or something is
  pub colours-read : (words : List ℕ) → HoldsPalettes palette_count no_palette colours [] words
      → read_map file (colour_start file) palette_words ≡ Ok words
  colours-read words h =
      let t = palettes-held file (colour_start file) m.colours_at h in
      let all : length file ≤ t.end = omega (arith, length-stands file t.end t.stands) in
      read-accepted file (colour_start file) palette_words (omega arith) t.end
      (map-accepted file (colour_start file) t.end t.judged all)
      ∙ ap Ok t.makes

  pub colours-left : (rest words : List ℕ) → HoldsPalettes palette_count no_palette colours rest words
      → 0 < length rest → read_map file (colour_start file) palette_words ≡ refuse size_mismatch
  colours-left rest words h some =
      let t = palettes-held file (colour_start file) m.colours_at h in
      let more : t.end < length file = omega (arith, length-stands file t.end t.stands) in
      read-refused file (colour_start file) palette_words (omega arith) _
      (bytes_left file (colour_start file) t.end t.judged more)

  -- or stops at a palette at fault
  pub colours-stop : (number : ℕ) (rest : List ℕ) → StopsPalettes palette_count colours number rest
      → read_map file (colour_start file) palette_words ≡ Err (refusal_at number (length file - length rest))
  colours-stop number rest s =
      let t = palettes-halt file (colour_start file) m.colours_at s in
      let place : t.place ≡ length file - length rest = omega (arith, length-stands file t.place t.stands) in
      read-refused file (colour_start file) palette_words (omega arith) _
      (map-refused file (colour_start file) _ t.judged)
      ∙ ap (λ (k : ℕ). Err (refusal_at number k)) place
