-- The screen of 16,000 expanded words: each stands at its place.
use mathlib.Core.Path.{◌≡◌, refl, sym, ap, ◌∙◌}
use Prim.Native.Nat.{ℕ, ◌+◌, ◌*◌, ◌<◌}
use native.Mathlib.Omega.{arith}
use mathlib.Core.List.{List, [], append-nil}
use lib.ListN.{length, get_or, replicate, length-replicate}
use Rattle.lists.specs.Tabulate.{tabulate}
use Rattle.lists.proofs.Stores.{length-stores, get_or-stores-at}
use Rattle.lists.proofs.Tabulate.{get_or-tabulate, tabulate-ext, tabulate-get_or}
use Rattle.words.specs.Word.{word_at, words_at, words_bytes}
use Rattle.words.proofs.Word.{length-words_bytes, words_back}
use Rattle.resolution.specs.Shapes.{screen_bytes}
use Rattle.tiny.specs.ScreenWords.{screen_words, screen_word, expanded_word, screen_words_of, screen_bytes_of}
use Rattle.tiny.proofs.ScreenWords.{screen_word-lt, expanded_word-screen_word}
use Rattle.tiny.proofs.ScreenWords.{expanded_word-lt, screen_word-expanded_word}

-- the words of bytes are read again from where they stand
word-of-bytes : (ws : List ℕ) (p : ℕ) → p < length ws → word_at (words_bytes ws) (p * 2) ≡ get_or ws p 0
unfolding words_at
word-of-bytes ws p h =
    let back : words_at (length ws) (words_bytes ws) 0 ≡ ws =
    ap (λ (s : List ℕ). words_at (length ws) s 0) (sym (append-nil (words_bytes ws)))
    ∙ words_back (length ws) [] ws [] 0 refl refl in
    let e : 0 + p * 2 ≡ p * 2 = omega arith in
    ap (word_at (words_bytes ws)) (sym e)
    ∙ sym (get_or-tabulate (length ws) (λ i. word_at (words_bytes ws) (0 + i * 2)) p 0 h)
    ∙ ap (λ (l : List ℕ). get_or l p 0) back

module _ (words : List ℕ) where
  length-words : length (screen_words_of words) ≡ screen_words
  unfolding screen_words_of
  length-words =
      length-stores screen_words screen_word (λ k. get_or words k 0) (replicate screen_words 0)
      ∙ length-replicate {A = ℕ} screen_words 0

  -- the screen has 32,000 bytes
  pub length-screen_bytes_of : length (screen_bytes_of words) ≡ screen_bytes
  unfolding screen_bytes_of
  length-screen_bytes_of = omega (arith, length-words_bytes (screen_words_of words), length-words)

  stored_at : (k : ℕ) → k < screen_words → get_or (screen_words_of words) (screen_word k) 0 ≡ get_or words k 0
  unfolding screen_words_of
  stored_at k h =
      get_or-stores-at screen_words screen_word (λ j. get_or words j 0) expanded_word (replicate screen_words 0)
      (λ j l. omega (arith, screen_word-lt j l, length-replicate {A = ℕ} screen_words 0)) expanded_word-screen_word k h

  -- the screen's word at `screen_word k` is expanded word k
  pub screen-word : (k : ℕ) → k < screen_words → word_at (screen_bytes_of words) (screen_word k * 2) ≡ get_or words k 0
  unfolding screen_bytes_of
  screen-word k h =
      word-of-bytes (screen_words_of words) (screen_word k) (omega (arith, screen_word-lt k h, length-words))
      ∙ stored_at k h

  -- and so each word p of the screen is expanded word `expanded_word p`
  pub screen-word-back : (p : ℕ) → p < screen_words
      → word_at (screen_bytes_of words) (p * 2) ≡ get_or words (expanded_word p) 0
  screen-word-back p h =
      ap (λ (q : ℕ). word_at (screen_bytes_of words) (q * 2)) (sym (screen_word-expanded_word p h))
      ∙ screen-word (expanded_word p) (expanded_word-lt p h)

  -- the words of the bytes, each put at its place
  pub ordered_words : length words ≡ screen_words
      → tabulate screen_words (λ p. word_at (words_bytes words) (expanded_word p * 2)) ≡ screen_words_of words
  ordered_words full =
      tabulate-ext screen_words (λ p. word_at (words_bytes words) (expanded_word p * 2))
      (λ p. get_or (screen_words_of words) p 0) (λ p h. ordered p h)
      ∙ ap (λ (n : ℕ). tabulate n (λ p. get_or (screen_words_of words) p 0)) (sym length-words)
      ∙ tabulate-get_or (screen_words_of words) 0
    where
      ordered : (p : ℕ) → p < screen_words
          → word_at (words_bytes words) (expanded_word p * 2) ≡ get_or (screen_words_of words) p 0
      ordered p h =
          word-of-bytes words (expanded_word p) (omega (arith, expanded_word-lt p h, full))
          ∙ sym (stored_at (expanded_word p) (expanded_word-lt p h))
          ∙ ap (λ (q : ℕ). get_or (screen_words_of words) q 0) (screen_word-expanded_word p h)
