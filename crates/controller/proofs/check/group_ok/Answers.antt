use Prim.Native.Nat.{ℕ, ◌≤◌, ◌*◌, ◌%◌, ◌^◌}
use mathlib.Core.Path.{◌≡◌}
use native.Mathlib.Nat.{pow-le-pow_right}
use native.Mathlib.Omega.{arith}
use borrow.Author.Tests.{le-leb, lt-leb}
use Rattle.controller.specs.Check.{group_ok}
use Rattle.controller.proofs.check.group_ok.Goals as goal

shifted : (k : ℕ) → k ≤ 8 → 1 * 2 ^ k % 65536 ≡ 2 ^ k
shifted k h = omega (arith, pow-le-pow_right {n = 2} (omega arith) h)

pub returns-then-count-gt8 : goal.returns-then-count-gt8
unfolding group_ok
returns-then-count-gt8 c = simp (lt-leb _ 8 c.if-count-gt8.true)

pub returns : goal.returns
unfolding group_ok
returns c = let small = c.if-count-gt8.false in simp (c.from.ensures, le-leb _ 8 small, shifted _ small)
