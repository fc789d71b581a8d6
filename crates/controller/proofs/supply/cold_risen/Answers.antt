use mathlib.Core.Path.{◌≡◌}
use lib.IntN.{ℤ}
use mir.Syntax.{w32}
use mir.Val.{to_z, of_z}
use Rattle.std.proofs.Common.{rules}
use Rattle.controller.specs.State.{with_power}
use Rattle.controller.specs.Supply.{cold_risen}
use Rattle.controller.proofs.supply.cold_risen.Goals as goal

pub returns : goal.returns
unfolding cold_risen with_power
returns c =
    let kept : ◌≡◌ {A = ℤ} (to_z w32 (of_z w32 c.args.state.power.temperature_millicelsius)) c.args.state.power.temperature_millicelsius = search rules in
    simp (c.wait_end.ensures, c.new-first.ensures, kept)
