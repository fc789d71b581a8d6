use Rattle.checks.proofs.Tests.{test_false}
use Rattle.clock.proofs.check.RateCheck.check.Goals as goal

-- written out, so that at a wrong number a fact fails, and not a limit of the search
pub returns-then-not-is_lcd : goal.returns-then-not-is_lcd
returns-then-not-is_lcd c = rw (test_false c.is_lcd.ensures c.if-not-is_lcd.true)
