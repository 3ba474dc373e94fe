-- Laws of lists of bytes.
use mathlib.Core.List.{List, [], ◌∷◌, ◌++◌}
use Prim.Native.Nat.{ℕ, zero, suc, ◌+◌, ◌<◌}
use native.Mathlib.Omega.{arith}
use lib.ListN.{take, drop, replicate, take-append-drop}
use lib.Seq.{get_or-drop}
use Rattle.lists.specs.Bytes.{Bytes}

pub no_bytes : Bytes []
no_bytes i = omega arith

pub bytes-cons : (x : ℕ) (s : List ℕ) → x < 256 → Bytes s → Bytes (x ∷ s)
bytes-cons x s h b zero = h
bytes-cons x s h b (suc i) = b i

pub bytes-append : (s t : List ℕ) → Bytes s → Bytes t → Bytes (s ++ t)
bytes-append [] t a b = b
bytes-append (x ∷ s) t a b = bytes-cons x (s ++ t) (a 0) (bytes-append s t (λ i. a (suc i)) b)

pub bytes-front : (s t : List ℕ) → Bytes (s ++ t) → Bytes s
bytes-front [] t b = no_bytes
bytes-front (x ∷ s) t b = bytes-cons x s (b 0) (bytes-front s t (λ i. b (suc i)))

pub bytes-behind : (s t : List ℕ) → Bytes (s ++ t) → Bytes t
bytes-behind [] t b = b
bytes-behind (x ∷ s) t b = bytes-behind s t (λ i. b (suc i))

pub bytes-repeated : (n x : ℕ) (t : List ℕ) → 0 < n → Bytes (replicate n x ++ t) → x < 256
bytes-repeated (suc n) x t h b = b 0
bytes-repeated zero x t h b = absurd (omega arith)

pub bytes_take : (n : ℕ) (s : List ℕ) → Bytes s → Bytes (take n s)
bytes_take n s b = bytes-front (take n s) (drop n s) (λ i. rw (take-append-drop n s) (b i))

pub bytes_drop : (n : ℕ) (s : List ℕ) → Bytes s → Bytes (drop n s)
bytes_drop n s b i = rw (get_or-drop n s i 0) (b (n + i))
