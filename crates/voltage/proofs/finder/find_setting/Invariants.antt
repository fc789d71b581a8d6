use Prim.Native.Nat.{ℕ, ◌<◌}
use mathlib.Core.Bool.{false}
use mathlib.Core.Path.{◌≡◌}
use Rattle.voltage.specs.Finder.{in_band}
use Rattle.voltage.proofs.Numbers.{computed}
use Rattle.voltage.proofs.finder.find_setting.Given as goal

-- none of the regulators that were passed fits with any contrast
abbrev pub invariant-loop-regulator : goal.invariant-loop-regulator
invariant-loop-regulator l =
    (r : ℕ) → r < l.regulator → (k : ℕ) → k < 64 → in_band l.low l.high (computed l.factor l.base r k) ≡ false

-- and none of the contrasts with this one
abbrev pub invariant-loop-contrast : goal.invariant-loop-contrast
invariant-loop-contrast l =
    (k : ℕ) → k < l.contrast → in_band l.low l.high (computed l.factor l.base l.regulator k) ≡ false
