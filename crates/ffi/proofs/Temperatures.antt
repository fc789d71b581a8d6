-- A temperature as its number counted from the lowest, and back.
use Prim.Native.Nat.{ℕ, suc, ◌-◌, ◌%◌, ◌<◌, ◌^◌}
use mathlib.Core.Path.{◌≡◌, refl, ap, ◌∙◌}
use mathlib.Core.Bool.{Bool, true, false, cond}
use native.Mathlib.Omega.{arith}
use lib.IntN.{ℤ, pos, negsuc, ◌+ℤ◌, ◌-ℤ◌}
use lib.Dec.{ltb}
use lib.Signed.{mag}
use mir.Val.{SFits, to_z, of_z}
use mir.Syntax.{w32, w64}
use mir.Facts.{to_z-of_z, to_z_pos, sfits_widen}
use borrow.Author.Tests.{ltb-true, le-ltb}
use Rattle.ffi.specs.StateWords.{temperature_of, temperature_word}

-- a number of 32 bits less 2^31 fits an i32
pub lowered : (n : ℕ) → n < 2 ^ 32 → SFits w32 (pos n -ℤ pos 2147483648)
lowered n h = go (ltb n 2147483648) refl
  where
    go : (t : Bool) → ltb n 2147483648 ≡ t → SFits w32 (cond t (negsuc (2147483648 - suc n)) (pos (n - 2147483648)))
    go true k =
        let below : n < 2147483648 = ltb-true n 2147483648 k in
        record { sfits = omega arith }
    go false k = record { sfits = omega (arith, h) }

pub temperature_fits : (n : ℕ) → SFits w32 (temperature_of n)
temperature_fits n = lowered (n % 2 ^ 32) (omega arith)

-- the sum is no less than 0
pub positive : (z : ℤ) → mag z < 2 ^ 31 → (z +ℤ pos 2147483648 ≡ pos (temperature_word z)) × (temperature_word z < 2 ^ 32)
positive (pos n) h = (refl, omega arith)
positive (negsuc n) h = rw (le-ltb 2147483648 (suc n) (omega arith)) (refl, omega arith)

-- the code holds the number as bits, and each time the number of the bits is the number again, since it fits
module _ (z : ℤ) (fits : SFits w32 z) where
  pub back : to_z w64 (of_z w64 (to_z w32 (of_z w32 z))) ≡ z
  back = ap (λ (x : ℤ). to_z w64 (of_z w64 x)) (to_z-of_z {w = w32} {z = z} fits) ∙ to_z-of_z {w = w64} {z = z} (sfits_widen {w = w32} {w' = w64} {z = z} (tt {0}) fits)

  pub raised_is : z +ℤ pos 2147483648 ≡ pos (temperature_word z)
  raised_is = (positive z fits.sfits).0

  pub raised_below : temperature_word z < 2 ^ 32
  raised_below = (positive z fits.sfits).1

  pub raised_back : to_z w64 (of_z w64 (z +ℤ pos 2147483648)) ≡ pos (temperature_word z)
  raised_back = ap (λ (x : ℤ). to_z w64 (of_z w64 x)) raised_is ∙ to_z_pos w64 (omega (arith, raised_below))
