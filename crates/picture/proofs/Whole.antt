-- Laws of whole pictures: one that was read is whole, and a whole one's palette and tail are read again from where
-- their bytes stand.
use mathlib.Core.Path.{◌≡◌, sym, ap, ◌∙◌}
use mathlib.Core.List.{List, [], ◌++◌, append-nil}
use Prim.Native.Nat.{ℕ, ◌+◌, ◌*◌, ◌<◌}
use native.Mathlib.Omega.{arith}
use lib.ListN.{length, get_or, replicate, get_or-replicate}
use Rattle.lists.specs.Tabulate.{tabulate}
use Rattle.lists.proofs.Tabulate.{length-tabulate, get_or-tabulate, tabulate-ext, tabulate-get_or}
use Rattle.words.specs.Word.{words_at, words_bytes}
use Rattle.words.proofs.Word.{length-words_bytes, words_back}
use Rattle.picture.specs.declared.Picture.{Picture}
use Rattle.picture.specs.declared.Table.{Table}
use Rattle.picture.specs.Tables.{tables_at, held, tables_of, tail_at, tail_bytes, zero_tables, without_tail, with_tail}
use Rattle.picture.specs.Whole.{WholePicture}
use Rattle.picture.proofs.Tables.{length-tables_bytes, table-back}

-- ---- a picture that was read

module _ (file : List ℕ) (number palette : ℕ) where
  sixteen-read : length (words_at 16 file palette) ≡ 16
  unfolding words_at
  sixteen-read = length-tabulate 16 _

  pub whole-with-tail : (at : ℕ) → WholePicture (with_tail number (words_at 16 file palette) (tail_at file at))
  unfolding words_at tables_at held
  whole-with-tail at = record { sixteen = sixteen-read; four = length-tabulate 4 _; words = table }
    where
      table : (i : ℕ) → i < 4 → length (get_or (tail_at file at) i (record { words = [] })).words ≡ 4
      table i h =
          ap (λ (t : Table). length t.words)
          (get_or-tabulate 4 (λ i. record { words = get_or (tables_at file at) i [] }) i (record { words = [] }) h)
          ∙ ap length (get_or-tabulate 4 (λ i. words_at 4 file (at + i * 8)) i [] h)
          ∙ length-tabulate 4 _

  pub whole-without-tail : WholePicture (without_tail number (words_at 16 file palette))
  unfolding held
  whole-without-tail = record { sixteen = sixteen-read; four = length-tabulate 4 _; words = table }
    where
      table : (i : ℕ) → i < 4 → length (get_or (held zero_tables) i (record { words = [] })).words ≡ 4
      table i h =
          ap (λ (t : Table). length t.words)
          (get_or-tabulate 4 (λ i. record { words = get_or zero_tables i [] }) i (record { words = [] }) h)
          ∙ ap length (get_or-replicate 4 i (replicate 4 0) [] h)

-- ---- the bytes of a whole one

module _ (p : Picture) (whole : WholePicture p) where
  pub length-palette : length (words_bytes p.palette) ≡ 32
  length-palette = omega (arith, length-words_bytes p.palette, whole.sixteen)

  pub palette-back : (before rest : List ℕ) (at : ℕ) → length before ≡ at
      → words_at 16 (before ++ (words_bytes p.palette ++ rest)) at ≡ p.palette
  palette-back before rest at l = words_back 16 before p.palette rest at whole.sixteen l

  abbrev table : ℕ → Table
  table i = get_or p.tail i (record { words = [] })

  length-tables : length (tables_of p.tail) ≡ 4
  unfolding tables_of
  length-tables = length-tabulate 4 (λ i. (table i).words)

  four-words : (i : ℕ) → i < length (tables_of p.tail) → length (get_or (tables_of p.tail) i []) ≡ 4
  unfolding tables_of
  four-words i h =
      let l : i < 4 = omega (arith, length-tables) in
      ap length (get_or-tabulate 4 (λ i. (table i).words) i [] l) ∙ whole.words i l

  pub length-tail : length (tail_bytes p.tail) ≡ 32
  length-tail = omega (arith, length-tables_bytes (tables_of p.tail) four-words, length-tables)

  table_at : (before : List ℕ) (at i : ℕ) → length before ≡ at → i < 4
      → words_at 4 (before ++ tail_bytes p.tail) (at + i * 8) ≡ (table i).words
  unfolding tables_of
  table_at before at i l h =
      ap (λ (s : List ℕ). words_at 4 (before ++ s) (at + i * 8)) (sym (append-nil (tail_bytes p.tail)))
      ∙ table-back before (tables_of p.tail) [] at i four-words l (omega (arith, length-tables))
      ∙ get_or-tabulate 4 (λ i. (table i).words) i [] h

  -- the tail, where it is a file's end
  pub tail-back : (before : List ℕ) (at : ℕ) → length before ≡ at → tail_at (before ++ tail_bytes p.tail) at ≡ p.tail
  unfolding held tables_at
  tail-back before at l =
      tabulate-ext 4 _ table
      (λ i h.
      ap {B = Table} (λ (ws : List ℕ). record { words = ws })
      (get_or-tabulate 4 (λ i. words_at 4 (before ++ tail_bytes p.tail) (at + i * 8)) i [] h ∙ table_at before at i l h))
      ∙ ap (λ (m : ℕ). tabulate m table) (sym whole.four)
      ∙ tabulate-get_or p.tail (record { words = [] })
