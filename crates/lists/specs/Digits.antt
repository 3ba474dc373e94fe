-- Numbers by their binary digits, and by their bytes.
use Rattle.std.specs.Prelude.{ℕ, zero, suc, ◌+◌, ◌*◌}

-- the number whose n binary digits are f 0, .., f (n - 1), the first one highest
unfoldable pub from_bits : ℕ → (ℕ → ℕ) → ℕ
from_bits zero f = 0
from_bits (suc n) f = from_bits n f * 2 + f n

-- the number whose n bytes are r 0, .., r (n - 1), the first one lowest
unfoldable pub from_bytes : ℕ → (ℕ → ℕ) → ℕ
from_bytes zero r = 0
from_bytes (suc n) r = from_bytes n (λ k. r (suc k)) * 256 + r 0
