-- Laws of the layout of a DEGAS file: the lengths of its parts, and what is read where they stand.
use mathlib.Core.Path.{◌≡◌, refl, sym, ap, ◌∙◌}
use mathlib.Core.List.{List, [], ◌++◌, append_assoc}
use Prim.Native.Nat.{ℕ, ◌+◌}
use native.Mathlib.Omega.{arith}
use lib.ListN.{length, drop, length-append}
use lib.Seq.{drop_at}
use Rattle.words.specs.Word.{word_at, words_at, word_bytes, words_bytes}
use Rattle.words.proofs.Word.{word_back}
use Rattle.picture.specs.declared.Picture.{Picture}
use Rattle.picture.specs.Tables.{tail_at, tail_bytes}
use Rattle.picture.specs.Whole.{WholePicture}
use Rattle.picture.proofs.Whole.{length-palette, palette-back, length-tail, tail-back}
use Rattle.degas.specs.Layout.{palette_start, header_length, packed_length, packed_bit, header, packed_file}

module _ (p : Picture) (whole : WholePicture p) where
  -- ---- the header, and what follows it

  module _ (word : ℕ) where
    pub length-header : length (header word p) ≡ header_length
    unfolding word_bytes
    length-header = omega (arith, length-append (word_bytes word) (words_bytes p.palette), length-palette p whole)

    module _ (rest : List ℕ) where
      parts : header word p ++ rest ≡ word_bytes word ++ (words_bytes p.palette ++ rest)
      parts = append_assoc (word_bytes word) (words_bytes p.palette) rest

      pub header-word : word_at (header word p ++ rest) 0 ≡ word
      header-word = ap (λ (s : List ℕ). word_at s 0) parts ∙ word_back [] word (words_bytes p.palette ++ rest) 0 refl

      pub header-palette : words_at 16 (header word p ++ rest) palette_start ≡ p.palette
      unfolding word_bytes
      header-palette =
          ap (λ (s : List ℕ). words_at 16 s palette_start) parts
          ∙ palette-back p whole (word_bytes word) rest palette_start refl

      pub header-rest : drop header_length (header word p ++ rest) ≡ rest
      header-rest = drop_at (header word p) rest header_length length-header

    -- ---- Elite: header, body and tail

    module _ (body : List ℕ) where
      abbrev tail : List ℕ
      tail = tail_bytes p.tail

      pub length-elite : length (header word p ++ (body ++ tail)) ≡ packed_length (length body)
      length-elite =
          omega (
            arith,
            length-append (header word p) (body ++ tail),
            length-append body tail,
            length-header,
            length-tail p whole,
          )

      pub elite-tail : (at : ℕ) → header_length + length body ≡ at
          → tail_at (header word p ++ (body ++ tail)) at ≡ p.tail
      elite-tail at e =
          let front : length (header word p ++ body) ≡ at =
          omega (arith, length-append (header word p) body, length-header) in
          ap (λ (s : List ℕ). tail_at s at) (sym (append_assoc (header word p) body tail))
          ∙ tail-back p whole (header word p ++ body) at front

  pub length-packed_file : (body : List ℕ) → length (packed_file p body) ≡ packed_length (length body)
  unfolding packed_file
  length-packed_file body = length-elite (packed_bit + p.resolution) body
