use Rattle.checks.proofs.Chains.{row_passed}
use Rattle.checks.proofs.Tests.{test_true, test_false}
use Rattle.scan.specs.Run.{clocked}
use Rattle.scan.proofs.Checks.{row_holds}
use Rattle.scan.proofs.Runs.{rows_lcd, started_some, started_none}
use Rattle.scan.proofs.run.clocked.Goals as goal

pub returns-then-not-keeps_clock : goal.returns-then-not-keeps_clock
unfolding clocked
returns-then-not-keeps_clock c = simp (test_false c.keeps_clock.ensures c.if-not-keeps_clock.true, c.stopped.ensures)

pub returns-then-is_some : goal.returns-then-is_some
unfolding clocked
returns-then-is_some c =
    let a = c.args in
    simp (test_true c.keeps_clock.ensures c.if-not-keeps_clock.false, started_some a.scan.value.ticking.clock a.scan.value a.settings.value a.moment.value (test_true c.is_some.ensures c.if-is_some.true))

pub invariant_of-rate : goal.invariant_of-rate
invariant_of-rate c =
    let a = c.args in
    record { passes = row_holds 4 (rw c.rate_of.ensures (rows_lcd a.scan.value a.settings.value (row_passed 3 _ a.settings.passes) a.scan.passes)) }

pub returns : goal.returns
unfolding clocked
returns c =
    let a = c.args in
    simp (test_true c.keeps_clock.ensures c.if-not-keeps_clock.false, started_none a.scan.value.ticking.clock a.scan.value a.settings.value a.moment.value (test_false c.is_some.ensures c.if-is_some.false), c.with_ticking.ensures, c.start_clock.ensures, c.rate_of.ensures)
