-- Laws of a written NEOchrome file: its parts' lengths, and what is read where they stand.
use mathlib.Core.Path.{◌≡◌, refl, ap, ◌∙◌}
use mathlib.Core.List.{List, [], ◌++◌, append_assoc}
use Prim.Native.Nat.{ℕ, ◌≤◌}
use native.Mathlib.Omega.{arith}
use lib.ListN.{length, take, drop, length-append}
use lib.Seq.{drop_at, length-take-le}
use Rattle.words.specs.Word.{word_at, words_at, word_bytes, words_bytes}
use Rattle.words.proofs.Word.{word_back}
use Rattle.resolution.specs.Shapes.{screen_bytes}
use Rattle.picture.specs.declared.Picture.{Picture}
use Rattle.picture.specs.Whole.{WholePicture}
use Rattle.picture.proofs.Whole.{length-palette, palette-back}
use Rattle.neochrome.specs.Layout.{resolution_start, palette_start, screen_start, file_length}
use Rattle.neochrome.specs.Layout.{middle, header, neochrome_file}

module _ (p : Picture) (whole : WholePicture p) where
  pub length-header : length (header p) ≡ screen_start
  unfolding word_bytes
  length-header = omega (arith, length-append (words_bytes p.palette) middle, length-palette p whole)

  module _ (screen : List ℕ) where
    -- what follows the resolution's word
    abbrev rest : List ℕ
    rest = words_bytes p.palette ++ (middle ++ take screen_bytes screen)

    file-parts : neochrome_file p screen ≡ word_bytes 0 ++ (word_bytes p.resolution ++ rest)
    unfolding neochrome_file word_bytes
    file-parts = simp append_assoc

    pub length-file : screen_bytes ≤ length screen → length (neochrome_file p screen) ≡ file_length
    unfolding neochrome_file
    length-file full =
        omega (
          arith,
          length-append (header p) (take screen_bytes screen),
          length-header,
          length-take-le screen_bytes screen full,
        )

    pub file-flag : word_at (neochrome_file p screen) 0 ≡ 0
    file-flag = ap (λ (s : List ℕ). word_at s 0) file-parts ∙ word_back [] 0 (word_bytes p.resolution ++ rest) 0 refl

    pub file-resolution : word_at (neochrome_file p screen) resolution_start ≡ p.resolution
    unfolding word_bytes
    file-resolution =
        ap (λ (s : List ℕ). word_at s resolution_start) file-parts
        ∙ word_back (word_bytes 0) p.resolution rest resolution_start refl

    pub file-palette : words_at 16 (neochrome_file p screen) palette_start ≡ p.palette
    unfolding word_bytes
    file-palette =
        ap (λ (s : List ℕ). words_at 16 s palette_start) file-parts
        ∙ palette-back p whole (word_bytes 0 ++ word_bytes p.resolution) (middle ++ take screen_bytes screen)
        palette_start refl

    pub file-screen : drop screen_start (neochrome_file p screen) ≡ take screen_bytes screen
    unfolding neochrome_file
    file-screen = drop_at (header p) (take screen_bytes screen) screen_start length-header
