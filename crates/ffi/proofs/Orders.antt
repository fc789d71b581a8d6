-- A chain of tests in another order: tests of one kind together, so that a compiler may join them.
use Prim.Native.Nat.{ℕ}
use mathlib.Core.Bool.{Bool, true, false, cond, ◌&&◌}
use mathlib.Core.List.{List, [], ◌∷◌, ◌++◌}
use mathlib.Core.Path.{◌≡◌, refl, sym, ◌∙◌, ap}
use lib.Dec.{eqb}

-- tests with their kinds
abbrev pub Tests : Type 0
Tests = List (ℕ × Bool)

-- all of them hold
abbrev pub every : Tests → Bool
every [] = true
every (t ∷ ts) = t.1 && every ts

-- as they are written one after another
abbrev pub chain : Bool → Tests → Bool
chain b [] = b
chain b (t ∷ ts) = chain (b && t.1) ts

-- those of kind 0, those of kind 1, and the others
abbrev pub zeros : Tests → Tests
zeros [] = []
zeros (t ∷ ts) = cond (eqb t.0 0) (t ∷ zeros ts) (zeros ts)

abbrev pub ones : Tests → Tests
ones [] = []
ones (t ∷ ts) = cond (eqb t.0 0) (ones ts) (cond (eqb t.0 1) (t ∷ ones ts) (ones ts))

abbrev pub others : Tests → Tests
others [] = []
others (t ∷ ts) = cond (eqb t.0 0) (others ts) (cond (eqb t.0 1) (others ts) (t ∷ others ts))

assoc : (a b c : Bool) → (a && b) && c ≡ a && (b && c)
assoc true b c = refl
assoc false b c = refl

pub chain_every : (b : Bool) (ts : Tests) → chain b ts ≡ b && every ts
chain_every true [] = refl
chain_every false [] = refl
chain_every b (t ∷ ts) = chain_every (b && t.1) ts ∙ assoc b t.1 (every ts)

pub every_append : (ts us : Tests) → every (ts ++ us) ≡ every ts && every us
every_append [] us = refl
every_append (t ∷ ts) us = ap (λ (b : Bool). t.1 && b) (every_append ts us) ∙ sym (assoc t.1 (every ts) (every us))

-- past a test of each kind
into_first : (x a b c : Bool) → x && (a && b && c) ≡ (x && a) && b && c
into_first true a b c = refl
into_first false a b c = refl

into_second : (x a b c : Bool) → x && (a && b && c) ≡ a && (x && b) && c
into_second true a b c = refl
into_second false true b c = refl
into_second false false b c = refl

into_third : (x a b c : Bool) → x && (a && b && c) ≡ a && b && (x && c)
into_third true a b c = refl
into_third false true true c = refl
into_third false true false c = refl
into_third false false b c = refl

pub every_sorted : (ts : Tests) → every ts ≡ every (zeros ts) && every (ones ts) && every (others ts)
every_sorted [] = refl
every_sorted (t ∷ ts) = ap (λ (b : Bool). t.1 && b) (every_sorted ts) ∙ go (eqb t.0 0) (eqb t.0 1)
  where
    go : (p q : Bool) → t.1 && (every (zeros ts) && every (ones ts) && every (others ts)) ≡ every (cond p (t ∷ zeros ts) (zeros ts)) && every (cond p (ones ts) (cond q (t ∷ ones ts) (ones ts))) && every (cond p (others ts) (cond q (others ts) (t ∷ others ts)))
    go true q = into_first t.1 (every (zeros ts)) (every (ones ts)) (every (others ts))
    go false true = into_second t.1 (every (zeros ts)) (every (ones ts)) (every (others ts))
    go false false = into_third t.1 (every (zeros ts)) (every (ones ts)) (every (others ts))
