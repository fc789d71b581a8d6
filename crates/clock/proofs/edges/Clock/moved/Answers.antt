use Prim.Native.Nat.{◌*◌, ◌^◌}
use mathlib.Core.Path.{sym}
use native.Mathlib.Omega.{arith}
use borrow.Author.Tests.{le-ltb}
use Rattle.clock.specs.Time.{raw}
use Rattle.clock.specs.Position.{position, position_after}
use Rattle.clock.specs.Edges.{edge, moved_by, move_clock}
use Rattle.clock.proofs.Positions.{out_of_range}
use Rattle.clock.proofs.Laws.{moved_at}
use Rattle.clock.proofs.Checks.{rated_bounds}
use Rattle.clock.proofs.edges.Clock.moved.Goals as goal

pub returns-then-edges-gt1125899906842624 : goal.returns-then-edges-gt1125899906842624
unfolding move_clock edge position_after
returns-then-edges-gt1125899906842624 c =
    let a = c.args in
    let b = rated_bounds a.self a.rate (sym c.in_ok-check.ensures) in
    let far = out_of_range (position a.self a.rate) a.edges a.rate.denominator a.rate.numerator c.if-edges-gt1125899906842624.true b.denominator_low (omega (arith, b.low)) b.high in
    simp (sym c.in_ok-check.ensures, le-ltb (raw (moved_by a.self a.rate a.edges).at) (2 ^ 32 * 2 ^ 64) (rw (moved_at a.self a.rate a.edges) far))
