-- The files of a blank picture are accepted.
use mathlib.Core.Path.{◌≡◌, refl, sym, ap, ◌∙◌, subst}
use mathlib.Core.List.{List, [], ◌∷◌, ◌++◌, flatten}
use Prim.Native.Nat.{ℕ, zero, suc, ◌+◌, ◌-◌, ◌*◌, ◌≤◌, ◌<◌}
use native.Mathlib.Omega.{arith}
use lib.ListN.{length, take, drop, replicate, length-replicate, length-drop, get_or-replicate}
use lib.ListN.{replicate-append-replicate}
use lib.Seq.{ext_get_or, get_or-take, get_or-drop, length-take-le}
use Rattle.words.specs.Word.{word_bytes, words_bytes}
use Rattle.raster.specs.PlaneRows.{row_offset, plane_row}
use Rattle.raster.proofs.Places.{row_within}
use Rattle.raster.proofs.PlaneRows.{length-plane_row, get_or-plane_row}
use Rattle.resolution.specs.declared.Resolution.TheVariants.{Low}
use Rattle.resolution.specs.Shapes.{raster_of}
use Rattle.filling.specs.Makes.{Makes}
use Rattle.spectrum_data_map.specs.WholeRecord.{WholeRecord, repeat}
use Rattle.spectrum_colour_map.specs.Vector.{bit}
use Rattle.spectrum_colour_map.specs.HoldsPalettes.{Entries, no_entry, kept, HoldsPalettes, no_palettes, and_palette}
use Rattle.spectrum.specs.Screen.{ScreenOf}
use Rattle.spectrum.specs.Reading.{Reading}
use Rattle.spectrum.specs.Accepts.{begins, AcceptsSpu, AcceptsSpc}

abbrev zeros : ℕ → List ℕ
zeros n = replicate n 0

-- ---- the maps

-- 130 zeros of each record, and 120 of the last one
abbrev zeros_data : ℕ → List ℕ
zeros_data k = flatten (replicate k (128 ∷ 0 ∷ [])) ++ (138 ∷ 0 ∷ [])

makes-zeros : (k : ℕ) → Makes WholeRecord (k * 130 + 120) (zeros_data k) [] (zeros (k * 130 + 120))
unfolding flatten
makes-zeros zero =
    Makes.and_record {room = 120} (zeros 120) (omega arith) (repeat {n = 118} (omega arith) (omega arith)) (omega arith)
    Makes.full
makes-zeros (suc k) =
    let room : suc k * 130 + 120 - 130 ≡ k * 130 + 120 = omega arith in
    let all : 130 + (k * 130 + 120) ≡ suc k * 130 + 120 = omega arith in
    subst (λ (l : List ℕ). Makes WholeRecord (suc k * 130 + 120) (zeros_data (suc k)) [] l)
    (replicate-append-replicate {A = ℕ} 130 (k * 130 + 120) 0 ∙ ap zeros all)
    (Makes.and_record {room = suc k * 130 + 120} (zeros 130) (omega arith)
    (repeat {n = 128} (omega arith) (omega arith)) (omega arith) (rw room (makes-zeros k)))

-- no entry of a palette is named
no-entries : Entries 0 0 [] (zeros 16) (zeros 16)
unfolding bit
no-entries =
    kept refl (kept refl (kept refl (kept refl (kept refl (kept refl (kept refl (kept refl
    (kept refl (kept refl (kept refl (kept refl (kept refl (kept refl (kept refl (kept refl no_entry)))))))))))))))

palettes-zeros : (n : ℕ) → HoldsPalettes n (zeros 16) (zeros (n * 2)) [] (zeros (n * 16))
unfolding word_bytes words_bytes flatten
palettes-zeros zero = no_palettes
palettes-zeros (suc n) =
    let more : suc n * 2 ≡ suc (suc (n * 2)) = omega arith in
    let all : suc n * 16 ≡ 16 + n * 16 = omega arith in
    rw (more, all, ← replicate-append-replicate {A = ℕ} 16 (n * 16) 0)
    (and_palette 0 [] (zeros 16) (omega arith) no-entries (palettes-zeros n))

-- ---- the screen

module _ (n : ℕ) where
  row-zeros : n < 800 → plane_row (zeros 32000) (raster_of Low) n ≡ zeros 40
  row-zeros h =
      let s : List ℕ = zeros 32000 in
      let size : length (plane_row s (raster_of Low) n) ≡ 40 = length-plane_row s (raster_of Low) n in
      ext_get_or 0 (plane_row s (raster_of Low) n) (zeros 40) size
      (λ c l.
      let k : c < 40 = omega arith in
      get_or-plane_row s (raster_of Low) n c k
      ∙ get_or-replicate 32000 (row_offset (raster_of Low) n c) 0 0 (row_within (raster_of Low) n c h k)
      ∙ sym (get_or-replicate 40 c 0 0 k))

  plane-zeros : n + 40 ≤ 31840 → take 40 (drop n (zeros 31840)) ≡ zeros 40
  plane-zeros h =
      let s : List ℕ = zeros 31840 in
      let size : length (take 40 (drop n s)) ≡ 40 =
      length-take-le 40 (drop n s) (omega (arith, length-drop n s, length-replicate {A = ℕ} 31840 0)) in
      ext_get_or 0 (take 40 (drop n s)) (zeros 40) size
      (λ c l.
      let k : c < 40 = omega arith in
      get_or-take 40 (drop n s) c 0 k
      ∙ get_or-drop n s c 0
      ∙ get_or-replicate 31840 (n + c) 0 0 (omega arith)
      ∙ sym (get_or-replicate 40 c 0 0 k))

screen-zeros : ScreenOf (zeros 31840) (zeros 32000)
screen-zeros =
    record {
      size = length-replicate {A = ℕ} 32000 0;
      top = λ p h. row-zeros p (omega arith);
      below = λ y p k h.
          row-zeros ((y + 1) * 4 + p) (omega arith) ∙ sym (plane-zeros ((p * 199 + y) * 40) (omega arith));
    }

-- ---- the files

abbrev pub blank_reading : Reading
blank_reading = record { screen = zeros 32000; palettes = zeros 9552 }

-- a data map of 245 records, and a colour map of 597 vectors without a word
abbrev pub blank_spc : List ℕ
blank_spc = 0x53 ∷ 0x50 ∷ 0 ∷ 0 ∷ 0 ∷ 0 ∷ 1 ∷ 0xEA ∷ 0 ∷ 0 ∷ 4 ∷ 0xAA ∷ (zeros_data 244 ++ zeros 1194)

pub spc-blank : AcceptsSpc blank_spc blank_reading
unfolding flatten
spc-blank =
    record {
      packed = zeros_data 244;
      colours = zeros 1194;
      planes = zeros 31840;
      maps = record { headed = begins };
      unpacks = record { behind = []; unpacks = makes-zeros 244; few = omega arith };
      screen = screen-zeros;
      palettes = palettes-zeros 597;
    }

words-zeros : (n : ℕ) → words_bytes (zeros n) ≡ zeros (n * 2)
unfolding words_bytes word_bytes flatten
words-zeros zero = refl
words-zeros (suc n) =
    let more : suc n * 2 ≡ suc (suc (n * 2)) = omega arith in
    rw more (ap (λ (l : List ℕ). 0 ∷ 0 ∷ l) (words-zeros n))

pub spu-blank : AcceptsSpu (zeros 51104) blank_reading
spu-blank =
    record {
      parts = sym (replicate-append-replicate {A = ℕ} 32000 19104 0)
          ∙ ap (λ (l : List ℕ). zeros 32000 ++ l) (sym (words-zeros 9552));
      screen_size = length-replicate {A = ℕ} 32000 0;
      palette_size = length-replicate {A = ℕ} 9552 0;
    }
