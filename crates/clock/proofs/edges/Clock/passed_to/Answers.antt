use mathlib.Core.Path.{sym}
use native.Mathlib.Nat.{le_trans, min-le_left}
use Rattle.clock.proofs.Checks.{rated_bounds, time_passed}
use Rattle.clock.proofs.Laws.{edges_le}
use Rattle.clock.proofs.edges.Clock.passed_to.Goals as goal

pub move_by-requires : goal.move_by-requires
move_by-requires c =
    let a = c.args in
    let b = rated_bounds a.self a.rate (sym c.in_ok-check.ensures) in
    let le = edges_le a.self a.rate b c.in_ok-now.now.value (time_passed _ c.in_ok-now.now.passes) in
    rw (c.min-count.ensures, c.count_to.ensures) (le_trans (min-le_left _ _) le)
