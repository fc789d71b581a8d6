use Prim.Native.Nat.{◌^◌}
use native.Mathlib.Nat.{pow-le-pow_right, mul-le-mul}
use native.Mathlib.Omega.{arith}
use Rattle.controller.proofs.Groups.{group_count}
use Rattle.controller.proofs.bits.joined.Goals as goal

pub overflow_add-result : goal.overflow_add-result
overflow_add-result c =
    let power = pow-le-pow_right {n = 2} (omega arith) (group_count _ _ c.args.group.fits) in
    omega (arith, mul-le-mul {n₁ = c.from.result} {m₁ = 2 ^ c.args.group.count} {n₂ = 255} {m₂ = 256} (omega (arith, c.from.ensures, c.ranges.shift.fits)) (omega (arith, power)))
