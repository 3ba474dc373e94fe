-- `pack::differing` meets its contract: `first-other`.
use native.Mathlib.Omega.{arith}
use Prim.Native.Nat.{ℕ}
use mathlib.Core.List.{List, [], ◌∷◌}
use lib.ListN.{drop}
use Rattle.lists.specs.Bytes.{Bytes}
use Rattle.lists.proofs.Bytes.{no_bytes, bytes-cons}
use Rattle.pack.proofs.Words.{first-other}
use borrow.Author.Rules.{rules}
use Rattle.pack.proofs.differing.Statement.{statement}
use Rattle.pack.proofs.differing.Tie as tie

returns : tie.Need-returns
returns c =
    let a = c.args in
    let s : List ℕ = a.a ∷ a.b ∷ a.c ∷ a.d ∷ a.e ∷ a.f ∷ a.g ∷ a.h ∷ [] in
    let b : Bytes s =
    bytes-cons a.a (drop 1 s) (omega arith)
    (bytes-cons a.b (drop 2 s) (omega arith)
    (bytes-cons a.c (drop 3 s) (omega arith)
    (bytes-cons a.d (drop 4 s) (omega arith)
    (bytes-cons a.e (drop 5 s) (omega arith)
    (bytes-cons a.f (drop 6 s) (omega arith)
    (bytes-cons a.g (drop 7 s) (omega arith) (bytes-cons a.h [] (omega arith) no_bytes))))))) in
    rw (c.word.ensures, c.word-2.ensures) (first-other a.x s (omega arith) b)

pub differing_spec : {M : Type 1} → statement M
differing_spec = tie.close (tie.spec
    (λ c κs. search rules)
    (λ c κs. search rules)
    returns)
