-- What a function that writes a part of a file promises of the output that it is lent, and of the length that it
-- answers.
use Rattle.std.specs.Prelude.{ℕ, ◌≡◌, List, length}
use Rattle.lists.specs.Over.{over}

-- `Written part out after n`: after is out with the part over its front, and n is the part's length
pub record Written (part out after : List ℕ) (n : ℕ) : Type 0 where
  pub bytes : n ≡ length part
  pub all : after ≡ over part out
