-- A GEM IMG file is accepted exactly where `AcceptsImg` holds, and refused, and why, exactly where `RefusesImg` does.
use Rattle.std.specs.Prelude.{Ok, Err, ⊤}
use mathlib.Core.Path.{◌≡◌, refl, sym, ap, ◌∙◌, subst}
use mathlib.Core.Bool.{Bool, true, false}
use mathlib.Core.Logic.{◌⊎◌, inl, inr}
use mathlib.Core.List.{List, []}
use Prim.Native.Nat.{ℕ, ◌-◌, ◌≤◌, ◌<◌}
use native.Mathlib.Omega.{arith}
use lib.ListN.{length, drop, length-drop, drop_of_length-le}
use lib.Dec.{ltb}
use borrow.Author.Tests.{ltb-true, ltb-false}
use Rattle.lists.specs.Bytes.{Bytes}
use Rattle.lists.proofs.Cond.{cond-ltb}
use Rattle.outcome.specs.declared.Refusal.{Refusal}
use Rattle.outcome.specs.Outcome.{Outcome, refusal}
use Rattle.filling.specs.Filling.{Filling}
use Rattle.gem_img_records.specs.Line.{refusal_at}
use Rattle.gem_img_records.proofs.MakesLine.{Stands}
use Rattle.gem_img.specs.Header.{least_header_bytes, header_bytes, pattern, width, lines, in_profile, bytes_per_line}
use Rattle.gem_img.specs.MakesLines.{MakesLines}
use Rattle.gem_img.specs.StopsLines.{StopsLines}
use Rattle.gem_img.specs.Reading.{area_bytes, Image, fill_image, read_lines, header_judged, read_img}
use Rattle.gem_img.specs.Accepts.{Profiled, AcceptsImg}
use Rattle.gem_img.specs.Refuses.{RefusesImg, area_short, file_short, header_cut, not_profiled, bad_run, at_record}
use Rattle.gem_img.specs.Refuses.{bytes_behind}
use Rattle.gem_img.proofs.Header.{profiled, in-profile, line-least}
use Rattle.gem_img.proofs.Reading.{Headed, headed, below-least, below-header, profile-wrong, profile-right}
use Rattle.gem_img.proofs.Reading.{area-short, header_refused, header-right, lines-refused, bytes_left}
use Rattle.gem_img.proofs.Reading.{lines-read}
use Rattle.gem_img.proofs.MakesLines.{lines-made, lines-halted, makes-lines}
use Rattle.gem_img.proofs.MakesLines.{stops-lines, stops-number}

accepted-same : {A : Type 0} (a b : A) → ◌≡◌ {A = Outcome A} (Ok a) (Ok b) → a ≡ b
accepted-same a b e = cc

refused-same : {A : Type 0} (v w : Refusal) → ◌≡◌ {A = Outcome A} (Err v) (Err w) → v ≡ w
refused-same v w e = cc

not-both : {A : Type 0} (a : A) (why : Refusal) → ◌≡◌ {A = Outcome A} (Ok a) (Err why) → ⊥
not-both a why e = let z : ◌≡◌ {A = ℕ} 0 1 = cc in omega arith

image-is : (w l : ℕ) (bytes : List ℕ) (i : Image) → i.width ≡ w → i.lines ≡ l → bytes ≡ i.bytes
    → record { width = w; lines = l; bytes = bytes } ≡ i
image-is w l bytes i e f g = rw (← e, ← f, g)

-- only 22 has no place
placed_at : (number place : ℕ) → (number ≡ 6) ⊎ (number ≡ 7) → refusal_at number place ≡ refusal number place
placed_at number place (inl e) = rw e
placed_at number place (inr e) = rw e

-- the length of the bytes from an offset of a file on gives the offset
offset : (file rest : List ℕ) (at : ℕ) → Stands file at rest → length file - length rest ≡ at
offset file rest at s = omega (arith, ap length s.bytes, length-drop at file, s.inside)

module _ (file : List ℕ) where
  abbrev body : List ℕ
  body = drop (header_bytes file) file

  abbrev per_line : ℕ
  per_line = bytes_per_line (width file)

  headed-from : header_bytes file ≤ length file → Profiled file → Headed file
  headed-from has p =
      record { long = omega (arith, p.words); has = has; profile = in-profile file p }

  from-header : header_bytes file ≤ length file → Profiled file → header_judged file ≡ Ok tt
  from-header has p = let h = headed-from has p in profile-right file h.long h.has h.profile

  body-stands : header_bytes file ≤ length file → Stands file (header_bytes file) body
  body-stands has = record { bytes = refl; inside = has }

  -- ---- the function from the relations

  pub img-accepted : (area : ℕ) (image : Image) → area_bytes ≤ area → AcceptsImg file image
      → read_img file area ≡ Ok image
  img-accepted area image room a =
      let p = a.profiled in
      let t = makes-lines (pattern file) per_line file (line-least file p) (header_bytes file)
      (body-stands a.header) a.body in
      let left : length file ≤ t.end = omega (arith, ap length t.stands.bytes, length-drop t.end file) in
      header-right file area room (from-header a.header p)
      ∙ lines-read file t.end (ap (λ (f : Filling). f.ends) t.fills) left
      ∙ ap Ok
      (image-is (width file) (lines file) (fill_image file).made image a.shown_width a.shown_lines
      (ap (λ (f : Filling). f.made) t.fills))

  -- a line that stops, as the whole reading's refusal
  stops-read : (area number : ℕ) (rest : List ℕ) → area_bytes ≤ area → header_bytes file ≤ length file
      → Profiled file → StopsLines (pattern file) per_line (lines file) body number rest
      → read_img file area ≡ Err (refusal_at number (length file - length rest))
  stops-read area number rest room has p s =
      let t = stops-lines (pattern file) per_line file (line-least file p) (header_bytes file) (body-stands has) s in
      header-right file area room (from-header has p)
      ∙ lines-refused file (refusal_at number t.place) t.ends
      ∙ ap (λ (k : ℕ). Err (refusal_at number k)) (sym (offset file rest t.place t.stands))

  pub img-refused : (area : ℕ) (why : Refusal) → RefusesImg file area why → read_img file area ≡ Err why
  img-refused area why (area_short h) = area-short file area h
  img-refused area why (file_short room h) =
      header_refused file area room _ (below-least file h)
  img-refused area why (header_cut room long h) =
      header_refused file area room _ (below-header file long h)
  img-refused area why (not_profiled room long has bad) =
      header_refused file area room _ (profile-wrong file long has (outside bad))
    where
      outside : (Profiled file → ⊥) → in_profile file ≡ false
      outside bad = go (in_profile file) refl
        where
          go : (b : Bool) → in_profile file ≡ b → in_profile file ≡ false
          go true e = absurd (bad (profiled file e))
          go false e = e
  img-refused area why (bad_run {rest} room has p s) = stops-read area 22 rest room has p s
  img-refused area why (at_record {number} {rest} room has p k s) =
      stops-read area number rest room has p s ∙ ap Err (placed_at number (length file - length rest) k)
  img-refused area why (bytes_behind {rest} {made} room has p m some) =
      let t = makes-lines (pattern file) per_line file (line-least file p) (header_bytes file) (body-stands has) m in
      let more : t.end < length file =
      omega (arith, ap length t.stands.bytes, length-drop t.end file, t.stands.inside) in
      header-right file area room (from-header has p)
      ∙ bytes_left file t.end (ap (λ (f : Filling). f.ends) t.fills) more
      ∙ ap (λ (k : ℕ). Err (refusal 8 k)) (sym (offset file rest t.end t.stands))

  -- ---- the relations from the function

  module _ (all : Bytes file) where
    -- a reading that comes to its lines
    record Begun (area : ℕ) : Type 0 where
      room : area_bytes ≤ area
      has : header_bytes file ≤ length file
      fits : Profiled file

    from-headed : (area : ℕ) → area_bytes ≤ area → header_judged file ≡ Ok tt → Begun area
    from-headed area room e = let h = headed file e in record
        { room = room; has = h.has; fits = profiled file h.profile }

    -- what the lines of a file come to
    lines-accept : (area : ℕ) (image : Image) → Begun area → read_lines file ≡ Ok image → AcceptsImg file image
    lines-accept area image b e = go (fill_image file).ends refl
      where
        done : (end : ℕ) → (fill_image file).ends ≡ Ok end → length file ≤ end → AcceptsImg file image
        done end f g =
            let is = accepted-same _ image (sym (lines-read file end f g) ∙ e) in
            let m = lines-made (pattern file) per_line file all (line-least file b.fits) (header_bytes file)
            (lines file)
            end b.has f in
            record {
              header = b.has;
              profiled = b.fits;
              shown_width = ap (λ (i : Image). i.width) (sym is);
              shown_lines = ap (λ (i : Image). i.lines) (sym is);
              body =
                  subst (λ (i : Image). MakesLines (pattern file) per_line (lines file) body [] i.bytes) is
                  (subst (λ (l : List ℕ).
                  MakesLines (pattern file) per_line (lines file) body l (fill_image file).made)
                  (drop_of_length-le file g) m);
            }

        go : (o : Outcome ℕ) → (fill_image file).ends ≡ o → AcceptsImg file image
        go (Err why) f = absurd (not-both image why (sym e ∙ lines-refused file why f))
        go (Ok end) f =
            cond-ltb {A = ℕ} (λ u. AcceptsImg file image) {a = 0} {b = 0} end (length file)
            (λ h. absurd (not-both image _ (sym e ∙ bytes_left file end f h))) (done end f)

    lines-refuse : (area : ℕ) (why : Refusal) → Begun area → read_lines file ≡ Err why → RefusesImg file area why
    lines-refuse area why b e = go (fill_image file).ends refl
      where
        halted : (w : Refusal) → (fill_image file).ends ≡ Err w → RefusesImg file area w
        halted w f =
            let t = lines-halted (pattern file) per_line file all (line-least file b.fits) (header_bytes file)
            (lines file) w b.has f in
            let at : length file - length (drop t.place file) ≡ t.place =
            offset file (drop t.place file) t.place (record { bytes = refl; inside = t.inside }) in
            subst (λ (v : Refusal). RefusesImg file area v) (sym t.is)
            (by_number t.number t.place at t.stops
            (stops-number (pattern file) per_line (lines file) t.stops))
          where
            by_number : (number place : ℕ) → length file - length (drop place file) ≡ place
                → StopsLines (pattern file) per_line (lines file) body number (drop place file)
                → (number ≡ 22) ⊎ ((number ≡ 6) ⊎ (number ≡ 7)) → RefusesImg file area (refusal_at number place)
            by_number number place at s (inl k) = rw k (bad_run b.room b.has b.fits (rw k at s))
            by_number number place at s (inr (inl k)) =
                rw (k, ← at) (at_record b.room b.has b.fits (inl refl) (rw k at s))
            by_number number place at s (inr (inr k)) =
                rw (k, ← at) (at_record b.room b.has b.fits (inr refl) (rw k at s))

        go : (o : Outcome ℕ) → (fill_image file).ends ≡ o → RefusesImg file area why
        go (Err w) f =
            subst (λ (v : Refusal). RefusesImg file area v)
            (refused-same {A = Image} w why (sym (lines-refused file w f) ∙ e)) (halted w f)
        go (Ok end) f =
            cond-ltb {A = ℕ} (λ u. RefusesImg file area why) {a = 0} {b = 0} end (length file)
            (λ h.
            let m = lines-made (pattern file) per_line file all (line-least file b.fits) (header_bytes file)
            (lines file)
            end b.has f in
            let at : length file - length (drop end file) ≡ end =
            offset file (drop end file) end (record { bytes = refl; inside = omega arith }) in
            let is = refused-same {A = Image} _ why (sym (bytes_left file end f h) ∙ e) in
            let left : RefusesImg file area (refusal 8 (length file - length (drop end file))) =
            bytes_behind b.room b.has b.fits m (omega (arith, length-drop end file)) in
            subst (λ (v : Refusal). RefusesImg file area v) is
            (subst (λ (k : ℕ). RefusesImg file area (refusal 8 k)) at left))
            (λ h. absurd (not-both _ why (sym (lines-read file end f h) ∙ e)))

    -- a header that is refused
    header-refuses : (area : ℕ) (why : Refusal) → area_bytes ≤ area → header_judged file ≡ Err why
        → RefusesImg file area why
    header-refuses area why room is =
        go (ltb (length file) least_header_bytes) (ltb (length file) (header_bytes file)) (in_profile file) refl refl refl
      where
        same : (v : Refusal) → header_judged file ≡ Err v → RefusesImg file area v → RefusesImg file area why
        same v e r = subst (λ (w : Refusal). RefusesImg file area w) (refused-same {A = ⊤} v why (sym e ∙ is)) r

        go : (a b d : Bool) → ltb (length file) least_header_bytes ≡ a → ltb (length file) (header_bytes file) ≡ b
            → in_profile file ≡ d → RefusesImg file area why
        go true b d e f g =
            let h : length file < least_header_bytes = ltb-true (length file) least_header_bytes e in
            same _ (below-least file h) (file_short room h)
        go false true d e f g =
            let long : least_header_bytes ≤ length file = ltb-false (length file) least_header_bytes e in
            let h : length file < header_bytes file = ltb-true (length file) (header_bytes file) f in
            same _ (below-header file long h) (header_cut room long h)
        go false false false e f g =
            let long : least_header_bytes ≤ length file = ltb-false (length file) least_header_bytes e in
            let has : header_bytes file ≤ length file = ltb-false (length file) (header_bytes file) f in
            same _ (profile-wrong file long has g)
            (not_profiled room long has
            (λ p. let z : true ≡ false = sym (in-profile file p) ∙ g in let y : ◌≡◌ {A = ℕ} 0 1 = cc in omega arith))
        go false false true e f g =
            let long : least_header_bytes ≤ length file = ltb-false (length file) least_header_bytes e in
            let has : header_bytes file ≤ length file = ltb-false (length file) (header_bytes file) f in
            absurd (not-both tt why (sym (profile-right file long has g) ∙ is))

    -- accepted, and what it gives
    pub img-accepts : (area : ℕ) (image : Image) → read_img file area ≡ Ok image
        → (area_bytes ≤ area) × AcceptsImg file image
    img-accepts area image e = go (ltb area area_bytes) refl
      where
        inside : area_bytes ≤ area → (o : Outcome ⊤) → header_judged file ≡ o
            → (area_bytes ≤ area) × AcceptsImg file image
        inside room (Ok t) f =
            (room, lines-accept area image (from-headed area room f) (sym (header-right file area room f) ∙ e))
        inside room (Err why) f = absurd (not-both image why (sym e ∙ header_refused file area room why f))

        go : (b : Bool) → ltb area area_bytes ≡ b → (area_bytes ≤ area) × AcceptsImg file image
        go true f = absurd (not-both image _ (sym e ∙ area-short file area (ltb-true area area_bytes f)))
        go false f = inside (ltb-false area area_bytes f) (header_judged file) refl

    -- refused, and why
    pub img-refuses : (area : ℕ) (why : Refusal) → read_img file area ≡ Err why → RefusesImg file area why
    img-refuses area why e = go (ltb area area_bytes) refl
      where
        inside : area_bytes ≤ area → (o : Outcome ⊤) → header_judged file ≡ o → RefusesImg file area why
        inside room (Ok t) f =
            lines-refuse area why (from-headed area room f) (sym (header-right file area room f) ∙ e)
        inside room (Err w) f =
            subst (λ (v : Refusal). RefusesImg file area v)
            (refused-same {A = Image} w why (sym (header_refused file area room w f) ∙ e))
            (header-refuses area w room f)

        go : (b : Bool) → ltb area area_bytes ≡ b → RefusesImg file area why
        go true f =
            let h : area < area_bytes = ltb-true area area_bytes f in
            subst (λ (v : Refusal). RefusesImg file area v)
            (refused-same {A = Image} _ why (sym (area-short file area h) ∙ e)) (area_short h)
        go false f = inside (ltb-false area area_bytes f) (header_judged file) refl

  -- a refusal has a number
  pub refuses-number : (area : ℕ) (why : Refusal) → RefusesImg file area why → why.number ≡ 0 → ⊥
  refuses-number area why (area_short h) e = omega arith
  refuses-number area why (file_short room h) e = omega arith
  refuses-number area why (header_cut room long h) e = omega arith
  refuses-number area why (not_profiled room long has bad) e = omega arith
  refuses-number area why (bad_run room has p s) e = omega arith
  refuses-number area why (at_record room has p (inl k) s) e = omega arith
  refuses-number area why (at_record room has p (inr k) s) e = omega arith
  refuses-number area why (bytes_behind room has p m some) e = omega arith

  -- a file fits in one way only
  pub img-unique : (i j : Image) → AcceptsImg file i → AcceptsImg file j → i ≡ j
  img-unique i j a b =
      accepted-same i j
      (sym (img-accepted area_bytes i (omega arith) a) ∙ img-accepted area_bytes j (omega arith) b)
