use Prim.Native.Nat.{◌+◌, ◌≤◌}
use mathlib.Core.Path.{◌≡◌}
use lib.ListN.{length}
use Rattle.controller.specs.State.{power_on}
use Rattle.session.specs.Text.{lines_of}
use Rattle.session.specs.Session.{run_from}
use Rattle.session.specs.Closed.{machine_of, laid_from}
use Rattle.session.proofs.session.lines.Given as goal

abbrev pub invariant-loop-rest : goal.invariant-loop-rest
invariant-loop-rest l =
    (l.w.out.ghost_name ≡ l.initial.w.out.ghost_name)
    × ((l.line + length l.rest ≤ 2 + length l.text)
    × (laid_from (l.w.out.now, l.w.at) (run_from l.line (lines_of l.rest) (machine_of l.state l.ram l.icons)) ≡ laid_from (l.initial.w.out.now, l.initial.w.at) (run_from 2 (lines_of l.text) (machine_of power_on l.initial.ram l.initial.icons))))

abbrev pub decreases-loop-rest : goal.decreases-loop-rest
decreases-loop-rest l = length l.rest
