-- Laws of the bytes of tables of four words: how many they are, and that a table is read again from where it stands.
use mathlib.Core.Path.{◌≡◌}
use mathlib.Core.List.{List, [], ◌++◌}
use Prim.Native.Nat.{ℕ, ◌+◌, ◌*◌, ◌<◌}
use native.Mathlib.Omega.{arith}
use lib.ListN.{length, get_or}
use Rattle.lists.proofs.Flatten.{length-flatten, piece_back}
use Rattle.words.specs.Word.{words_at, words_bytes}
use Rattle.words.proofs.Word.{length-words_bytes, words_back}
use Rattle.picture.specs.Tables.{tables_bytes}

pub length-tables_bytes : (tables : List (List ℕ)) → ((j : ℕ) → j < length tables → length (get_or tables j []) ≡ 4)
    → length (tables_bytes tables) ≡ length tables * 8
unfolding tables_bytes
length-tables_bytes tables four =
    length-flatten words_bytes 8 tables [] (λ j h. omega (arith, length-words_bytes (get_or tables j []), four j h))

pub table-back : (before : List ℕ) (tables : List (List ℕ)) (rest : List ℕ) (at i : ℕ)
    → ((j : ℕ) → j < length tables → length (get_or tables j []) ≡ 4)
    → length before ≡ at → i < length tables
    → words_at 4 (before ++ (tables_bytes tables ++ rest)) (at + i * 8) ≡ get_or tables i []
unfolding tables_bytes
table-back before tables rest at i four l h =
    piece_back (λ t. length t ≡ 4) words_bytes 8 (words_at 4) (λ t e. omega (arith, length-words_bytes t))
    (λ before t rest at e m. words_back 4 before t rest at e m) before tables rest at i [] four l h
