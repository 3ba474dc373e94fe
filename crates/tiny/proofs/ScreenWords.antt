-- The screen word of an expanded word: one-to-one onto 0 .. 15,999.
use mathlib.Core.Path.{◌≡◌, sym, ap, ◌∙◌}
use Prim.Native.Nat.{ℕ, ◌+◌, ◌*◌, ◌/◌, ◌%◌, ◌<◌}
use native.Mathlib.Omega.{arith}
use lib.Arith.{digits_div, digits_mod}
use Rattle.tiny.specs.ScreenWords.{screen_words, line_words, column_words, sets, set_words, groups}
use Rattle.tiny.specs.ScreenWords.{screen_word, expanded_word}

-- set s, group g and line y: expanded word 4000 s + 200 g + y is screen word 80 y + 4 g + s
abbrev expanded_at : ℕ → ℕ → ℕ → ℕ
expanded_at s g y = s * set_words + (g * column_words + y)

abbrev screen_at : ℕ → ℕ → ℕ → ℕ
screen_at s g y = y * line_words + (g * sets + s)

module _ (s g y : ℕ) (hg : g < groups) (hy : y < column_words) where
  screen-at : screen_word (expanded_at s g y) ≡ screen_at s g y
  unfolding screen_word
  screen-at =
      let set : expanded_at s g y / set_words ≡ s = digits_div s (omega arith) in
      let r : expanded_at s g y % set_words ≡ g * column_words + y = digits_mod s (omega arith) in
      rw (set, r, digits_div g hy, digits_mod g hy) (omega arith)

  expanded-at : s < sets → expanded_word (screen_at s g y) ≡ expanded_at s g y
  unfolding expanded_word
  expanded-at hs =
      let line : screen_at s g y / line_words ≡ y = digits_div y (omega arith) in
      let column : screen_at s g y % line_words ≡ g * sets + s = digits_mod y (omega arith) in
      rw (line, column, digits_div g hs, digits_mod g hs) (omega arith)

-- what holds of every set, group and line holds of every expanded word, and of every screen word
by-expanded : (P : ℕ → Type 0)
    → ((s g y : ℕ) → s < sets → g < groups → y < column_words → P (expanded_at s g y))
    → (k : ℕ) → k < screen_words → P k
by-expanded P h k l =
    let e : k / 4000 * 4000 + (k % 4000 / 200 * 200 + k % 4000 % 200) ≡ k = omega arith in
    rw e at (h (k / 4000) (k % 4000 / 200) (k % 4000 % 200) (omega arith) (omega arith) (omega arith))

by-screen : (P : ℕ → Type 0)
    → ((s g y : ℕ) → s < sets → g < groups → y < column_words → P (screen_at s g y))
    → (p : ℕ) → p < screen_words → P p
by-screen P h p l =
    let e : p / 80 * 80 + (p % 80 / 4 * 4 + p % 80 % 4) ≡ p = omega arith in
    rw e at (h (p % 80 % 4) (p % 80 / 4) (p / 80) (omega arith) (omega arith) (omega arith))

pub screen_word-lt : (k : ℕ) → k < screen_words → screen_word k < screen_words
screen_word-lt =
    by-expanded (λ k. screen_word k < screen_words) (λ s g y hs hg hy. rw (screen-at s g y hg hy) (omega arith))

pub expanded_word-lt : (p : ℕ) → p < screen_words → expanded_word p < screen_words
expanded_word-lt =
    by-screen (λ p. expanded_word p < screen_words) (λ s g y hs hg hy. rw (expanded-at s g y hg hy hs) (omega arith))

pub expanded_word-screen_word : (k : ℕ) → k < screen_words → expanded_word (screen_word k) ≡ k
expanded_word-screen_word =
    by-expanded (λ k. expanded_word (screen_word k) ≡ k)
    (λ s g y hs hg hy. ap expanded_word (screen-at s g y hg hy) ∙ expanded-at s g y hg hy hs)

pub screen_word-expanded_word : (p : ℕ) → p < screen_words → screen_word (expanded_word p) ≡ p
screen_word-expanded_word =
    by-screen (λ p. screen_word (expanded_word p) ≡ p)
    (λ s g y hs hg hy. ap screen_word (expanded-at s g y hg hy hs) ∙ screen-at s g y hg hy)

-- two expanded words never share a place
pub screen_word-injective : (j k : ℕ) → j < screen_words → k < screen_words → screen_word j ≡ screen_word k → j ≡ k
screen_word-injective j k hj hk e =
    sym (expanded_word-screen_word j hj) ∙ ap expanded_word e ∙ expanded_word-screen_word k hk

-- the word of set s in group g of line y, in bytes
pub group-word : (s g y : ℕ) → s < sets → g < groups → y < column_words
    → expanded_word (y * line_words + (g * sets + s)) * 2 ≡ g * 400 + y * 2 + s * 8000
group-word s g y hs hg hy = omega (arith, expanded-at s g y hg hy hs)
