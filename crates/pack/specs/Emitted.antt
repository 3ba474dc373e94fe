-- A part of a row's least body, as it is written. No public contract cites it.
use Rattle.std.specs.Prelude.{ℕ, ◌+◌, ◌≤◌, ◌≡◌, List, ◌++◌, length, drop}
use Rattle.lists.specs.Written.{Written}
use Rattle.pack.specs.Least.{least, least_records}

-- n records stand for the bytes of the row from the place from to the place i: the least body from the one place on is
-- they, and then the least body from the other on. They are o bytes, over the front of out₀.
pub record Emitted (row : List ℕ) (from i : ℕ) (out₀ out : List ℕ) (o n : ℕ) : Type 0 where
  pub within : i ≤ length row
  pub few : from + n ≤ i
  pub body : List ℕ
  pub bytes : body ++ least (drop i row) ≡ least (drop from row)
  pub records : n + least_records (drop i row) ≡ least_records (drop from row)
  pub written : Written body out₀ out o
