-- A number at a place.
use Prim.Native.Nat.{ℕ, ◌+◌, ◌^◌, ◌<◌}
use mathlib.Core.List.{List}
use mathlib.Core.Path.{◌≡◌}
use native.Mathlib.Omega.{arith}
use lib.ListN.{get_or, drop}
use borrow.Author.Tests.{lt-ltb}
use Rattle.decimal.specs.Decimal.{digits, spelt, number_of, number_at}

module _ (s : List ℕ) (at : ℕ) where
  pub found :
      (first count value next : ℕ) → first ≡ get_or s at 0 → count ≡ digits (drop at s) → value ≡ spelt (drop at s) 0 → value < 2 ^ 64 → next ≡ at + count
      → number_of first count value next ≡ number_at s at
  unfolding number_at
  found first count value next f k v fits e = rw (f, e, k, v, lt-ltb (spelt (drop at s) 0) (2 ^ 64) (omega arith))
