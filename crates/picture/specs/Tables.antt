-- A picture, and its animation tail's four tables of four words (document 01, "The base order").
use Rattle.std.specs.Prelude.{ℕ, ◌+◌, ◌*◌, true, false, get_or, replicate}
use mathlib.Core.List.{List, [], map, flatten}
use Rattle.lists.specs.Tabulate.{tabulate}
use Rattle.words.specs.Word.{words_at, words_bytes}
use Rattle.picture.specs.declared.Table.{Table}
use Rattle.picture.specs.declared.Picture.{Picture}

-- the four tables of a file, from an offset on
unfoldable pub tables_at : List ℕ → ℕ → List (List ℕ)
tables_at s at = tabulate 4 (λ i. words_at 4 s (at + i * 8))

-- four tables of zeros
abbrev pub zero_tables : List (List ℕ)
zero_tables = replicate 4 (replicate 4 0)

-- four tables as a picture holds them, and back
unfoldable pub held : List (List ℕ) → List Table
held tables = tabulate 4 (λ i. record { words = get_or tables i [] })

unfoldable pub tables_of : List Table → List (List ℕ)
tables_of tables = tabulate 4 (λ i. (get_or tables i (record { words = [] })).words)

-- their bytes, one table after the other
unfoldable pub tables_bytes : List (List ℕ) → List ℕ
tables_bytes tables = flatten (map words_bytes tables)

-- a tail from an offset of a file on
abbrev pub tail_at : List ℕ → ℕ → List Table
tail_at file at = held (tables_at file at)

-- the bytes of a tail
abbrev pub tail_bytes : List Table → List ℕ
tail_bytes tail = tables_bytes (tables_of tail)

-- a picture without a tail: its words are all zero
abbrev pub without_tail : ℕ → List ℕ → Picture
without_tail resolution palette =
    record { resolution = resolution; palette = palette; tail_present = false; tail = held zero_tables }

-- a picture with a tail
abbrev pub with_tail : ℕ → List ℕ → List Table → Picture
with_tail resolution palette tail =
    record { resolution = resolution; palette = palette; tail_present = true; tail = tail }

-- the picture of a refusal: zero in all
abbrev pub no_picture : Picture
no_picture = without_tail 0 (replicate 16 0)
