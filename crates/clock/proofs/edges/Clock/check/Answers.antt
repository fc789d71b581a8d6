use Rattle.checks.proofs.Tests.{test_false}
use Rattle.clock.specs.Check.{check_clock}
use Rattle.clock.proofs.edges.Clock.check.Goals as goal

-- written out, so that at a wrong number a fact fails, and not a limit of the search
pub returns-then-not-valid : goal.returns-then-not-valid
unfolding check_clock
returns-then-not-valid c = rw (← c.in_ok-rate.ensures.refuses, ← c.in_ok-rate.ensures.keeps, test_false c.valid.ensures c.if-not-valid.true)
