-- Laws of tests: two that say the same are equal, and what a test of several conditions says of each.
use Prim.Native.Nat.{ℕ, ◌≤◌, ◌<◌}
use mathlib.Core.Bool.{Bool, true, false, not, ◌&&◌, ◌||◌, false≢true}
use mathlib.Core.Logic.{◌⊎◌, inl, inr}
use mathlib.Core.Path.{◌≡◌, refl, sym, ◌∙◌}
use lib.Dec.{leb, ltb, eqb}
use borrow.Author.Tests.{lt-ltb, le-ltb, le-leb, lt-leb, eq-eqb, ne_eqb, ltb-true, ltb-false, leb-true, leb-false, eqb-true, eqb-false, not-true, not-false}

pub same : (a b : Bool) → (a ≡ true → b ≡ true) → (b ≡ true → a ≡ true) → a ≡ b
same true b f g = sym (f refl)
same false true f g = g refl
same false false f g = refl

-- a test that another one needs, and that fails
pub refutes : {a b : Bool} → (b ≡ true → a ≡ true) → a ≡ false → false ≡ b
refutes {a} {b} f h = same false b (λ e. absurd (false≢true e)) (λ e. sym h ∙ f e)

pub ltb_same : (a b m n : ℕ) → (a < b → m < n) → (b ≤ a → n ≤ m) → ltb a b ≡ ltb m n
ltb_same a b m n f g = go (ltb a b) refl
  where
    go : (t : Bool) → ltb a b ≡ t → t ≡ ltb m n
    go true h = sym (lt-ltb m n (f (ltb-true a b h)))
    go false h = sym (le-ltb m n (g (ltb-false a b h)))

pub leb_same : (a b m n : ℕ) → (a ≤ b → m ≤ n) → (b < a → n < m) → leb a b ≡ leb m n
leb_same a b m n f g = go (leb a b) refl
  where
    go : (t : Bool) → leb a b ≡ t → t ≡ leb m n
    go true h = sym (le-leb m n (f (leb-true a b h)))
    go false h = sym (lt-leb m n (g (leb-false a b h)))

pub eqb_same : (a b m n : ℕ) → (a ≡ b → m ≡ n) → (m ≡ n → a ≡ b) → eqb a b ≡ eqb m n
eqb_same a b m n f g = go (eqb a b) refl
  where
    go : (t : Bool) → eqb a b ≡ t → t ≡ eqb m n
    go true h = sym (eq-eqb m n (f (eqb-true a b h)))
    go false h = sym (ne_eqb m n (λ e. eqb-false a b h (g e)))

pub both : (a b : Bool) → a && b ≡ true → (a ≡ true) × (b ≡ true)
both true b h = (refl, h)
both false b h = absurd (false≢true h)

pub fails : (a b : Bool) → a && b ≡ false → (a ≡ false) ⊎ (b ≡ false)
fails true b h = inr h
fails false b h = inl refl

pub either : (a b : Bool) → a || b ≡ true → (a ≡ true) ⊎ (b ≡ true)
either true b h = inl refl
either false b h = inr h

pub neither : (a b : Bool) → a || b ≡ false → (a ≡ false) × (b ≡ false)
neither true b h = absurd (false≢true (sym h))
neither false b h = (refl, h)

-- what a guard `if !check` says of the check's definition, where it was taken and where it was not
pub failed : {r d : Bool} → r ≡ d → not r ≡ true → d ≡ false
failed e h = sym e ∙ not-true _ h

pub passed : {r d : Bool} → r ≡ d → not r ≡ false → d ≡ true
passed e h = sym e ∙ not-false _ h

-- a chain of tests, past one that holds and past one that does not
pub holds : {a b r : Bool} → a ≡ true → r ≡ b → r ≡ (a && b)
holds h e = rw h e

pub other : {a b r : Bool} → a ≡ false → r ≡ b → r ≡ (a || b)
other h e = rw h e

-- what a branch on a check says of the check's definition
pub test_false : {r d : Bool} → r ≡ d → r ≡ false → d ≡ false
test_false e h = sym e ∙ h

pub test_true : {r d : Bool} → r ≡ d → r ≡ true → d ≡ true
test_true e h = sym e ∙ h
