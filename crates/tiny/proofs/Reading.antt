-- Laws of reading a Tiny file: each case of its judgement.
use Rattle.std.specs.Prelude.{Ok, Err}
use mathlib.Core.Path.{◌≡◌, ap, ◌∙◌}
use Prim.Native.Nat.{ℕ, ◌+◌, ◌-◌, ◌*◌, ◌/◌, ◌≤◌, ◌<◌}
use native.Mathlib.Omega.{arith}
use mathlib.Core.List.{List}
use lib.ListN.{length, take, drop, replicate, length-drop, length-replicate}
use lib.Seq.{length-take-le}
use borrow.Author.Tests.{lt-ltb, le-ltb, eq-eqb, ne_eqb}
use Rattle.lists.specs.Over.{over}
use Rattle.lists.specs.Tabulate.{tabulate}
use Rattle.lists.proofs.Over.{over-whole}
use Rattle.lists.proofs.Parts.{tail-part}
use Rattle.outcome.specs.Outcome.{refusal, refuse}
use Rattle.outcome.specs.Refusal.{area_too_short, wrong_length, unknown_resolution, size_mismatch}
use Rattle.words.specs.Word.{word_at, words_bytes}
use Rattle.words.proofs.Word.{length-words_bytes}
use Rattle.resolution.specs.Shapes.{screen_bytes}
use Rattle.picture.proofs.Reading.{area-short, area-fits}
use Rattle.tiny.specs.Layout.{shortest_length, highest_byte, resolution_byte, control_start, control_count, data_count}
use Rattle.tiny.specs.Layout.{body_length, control_section, data_section}
use Rattle.tiny_runs.specs.Expansion.{Expansion, expand_section}
use Rattle.tiny.specs.ScreenWords.{screen_words, expanded_word, screen_bytes_of}
use Rattle.tiny.specs.Reading.{expanded, tiny_reading, read_runs, read_sections, read_tiny}
use Rattle.tiny_runs.proofs.Expansion.{bounded}
use Rattle.tiny.proofs.Screens.{ordered_words}

-- ---- the whole file

module _ (file : List ℕ) (area : ℕ) where
  pub tiny-area : area < screen_bytes → read_tiny file area ≡ refuse area_too_short
  unfolding read_tiny
  tiny-area h = area-short area _ h

  module _ (room : screen_bytes ≤ area) where
    pub tiny-short : length file < shortest_length → read_tiny file area ≡ refuse wrong_length
    unfolding read_tiny
    tiny-short k = area-fits area _ room ∙ simp (lt-ltb (length file) shortest_length k)

    module _ (long : shortest_length ≤ length file) where
      pub tiny-resolution : highest_byte < resolution_byte file → read_tiny file area ≡ refuse unknown_resolution
      unfolding read_tiny
      tiny-resolution l =
          area-fits area _ room
          ∙ simp (le-ltb (length file) shortest_length long, lt-ltb highest_byte (resolution_byte file) l)

      pub tiny-sections : resolution_byte file ≤ highest_byte → read_tiny file area ≡ read_sections file
      unfolding read_tiny
      tiny-sections l =
          area-fits area _ room
          ∙ simp (le-ltb (length file) shortest_length long, le-ltb highest_byte (resolution_byte file) l)

-- ---- the sections' lengths

module _ (file : List ℕ) where
  pub sections-short : length file < control_start file → read_sections file ≡ refuse wrong_length
  unfolding read_sections
  sections-short h = simp (lt-ltb (length file) (control_start file) h)

  pub sections-wrong : control_start file ≤ length file → (length file ≡ control_start file + body_length file → ⊥)
      → read_sections file ≡ refuse wrong_length
  unfolding read_sections
  sections-wrong h e =
      simp (le-ltb (length file) (control_start file) h, ne_eqb (length file) (control_start file + body_length file) e)

  pub sections-fit : length file ≡ control_start file + body_length file
      → read_sections file ≡ read_runs file (expanded file)
  unfolding read_sections
  sections-fit e =
      simp (
        le-ltb (length file) (control_start file) (omega arith),
        eq-eqb (length file) (control_start file + body_length file) e,
      )

-- ---- after the runs

module _ (file : List ℕ) (p : Expansion) where
  pub runs-fault : (p.fault ≡ 0 → ⊥) → read_runs file p ≡ Err (refusal p.fault (control_start file + p.controls))
  unfolding read_runs
  runs-fault e = simp (ne_eqb p.fault 0 e)

  module _ (ok : p.fault ≡ 0) where
    pub runs-data : p.datas < data_count file → read_runs file p ≡ refuse size_mismatch
    unfolding read_runs
    runs-data h = simp (eq-eqb p.fault 0 ok, lt-ltb p.datas (data_count file) h)

    module _ (all : data_count file ≤ p.datas) where
      pub runs-words : length p.made < screen_words → read_runs file p ≡ refuse size_mismatch
      unfolding read_runs
      runs-words k =
          simp (
            eq-eqb p.fault 0 ok,
            le-ltb p.datas (data_count file) all,
            lt-ltb (length p.made) screen_words k,
          )

      pub runs_done : screen_words ≤ length p.made → read_runs file p ≡ Ok (tiny_reading file p.runs p.made)
      unfolding read_runs
      runs_done k =
          simp (
            eq-eqb p.fault 0 ok,
            le-ltb p.datas (data_count file) all,
            le-ltb (length p.made) screen_words k,
          )

-- ---- the sections of a file

module _ (file : List ℕ) where
  -- the bytes of 16,000 words, each put at its place
  pub area-is : (made area last : List ℕ)
      → made ≡ over (words_bytes (expanded file).made) (replicate screen_bytes 0)
      → screen_words ≤ length (expanded file).made
      → last ≡ over (words_bytes (tabulate screen_words (λ p. word_at made (expanded_word p * 2)))) area
      → last ≡ over (screen_bytes_of (expanded file).made) area
  unfolding screen_bytes_of
  area-is made area last e h is =
      let words : List ℕ = (expanded file).made in
      let full : length (expanded file).made ≡ screen_words =
      omega (arith, (bounded (control_section file) (data_section file) screen_words).fits) in
      let all : made ≡ words_bytes words =
      e
      ∙ over-whole (words_bytes words) (replicate screen_bytes 0)
      (omega (arith, length-replicate {A = ℕ} screen_bytes 0, length-words_bytes words))
      in
      is
      ∙ ap (λ (m : List ℕ). over (words_bytes (tabulate screen_words (λ p. word_at m (expanded_word p * 2)))) area) all
      ∙ ap (λ (ws : List ℕ). over (words_bytes ws) area) (ordered_words words full)

  module _ (fits : length file ≡ control_start file + body_length file) where
    pub length-controls : length (control_section file) ≡ control_count file
    length-controls =
        length-take-le (control_count file) (drop (control_start file) file)
        (omega (arith, length-drop (control_start file) file))

    -- the sections as they are lent
    pub sections-lent : (start controls room : ℕ) → start ≡ control_start file → controls ≡ control_count file
        → room ≡ screen_bytes
        → expand_section (take (start + controls - start) (drop start file))
        (take (length file - (start + controls)) (drop (start + controls) file)) (room / 2)
        ≡ expanded file
    sections-lent start controls room es ec er =
        let n : start + controls - start ≡ controls = omega arith in
        let datas : length (drop (control_start file + control_count file) file) / 2 ≡ data_count file =
        omega (arith, length-drop (control_start file + control_count file) file) in
        rw (n, tail-part file (start + controls), es, ec, er, datas)

    -- no more control bytes are used than there are
    pub controls-used : (expanded file).controls ≤ control_count file
    controls-used = omega (arith, (bounded (control_section file) (data_section file) screen_words).used, length-controls)
