-- A chain of checks taken apart: what holds where it passes, and what a call then answers.
use Prim.Native.Nat.{ℕ}
use mathlib.Core.Bool.{Bool, true, false}
use mathlib.Core.Path.{◌≡◌, refl}
use native.Mathlib.Omega.{arith}
use Rattle.std.specs.Prelude.{Option, Some, None}
use Rattle.checks.specs.Checks.{row, first_of}

-- a refusal is no pass
pub never : {n : ℕ} → Some n ≡ None → ⊥
never h = let z : ◌≡◌ {A = ℕ} 0 1 = cc in omega arith

-- a chain passes where both of its parts do
pub first_passed : (a b : Option ℕ) → first_of a b ≡ None → (a ≡ None) × (b ≡ None)
first_passed None b h = (refl, h)
first_passed (Some n) b h = absurd (never h)

-- a row passes where what it asks for holds
pub row_passed : (n : ℕ) (ok : Bool) → row n ok ≡ None → ok ≡ true
row_passed n true h = refl
row_passed n false h = absurd (never h)
