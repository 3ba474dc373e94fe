-- A test of the first numbers, and of a list's first elements.
use Rattle.std.specs.Prelude.{ℕ, zero, suc, Bool, true, ◌&&◌, List, get_or}

-- each number below n passes the test
unfoldable pub all_below : ℕ → (ℕ → Bool) → Bool
all_below zero test = true
all_below (suc n) test = test n && all_below n test

-- each of the first n elements passes the test
abbrev pub all_first : ℕ → (ℕ → Bool) → List ℕ → Bool
all_first n test l = all_below n (λ k. test (get_or l k 0))
