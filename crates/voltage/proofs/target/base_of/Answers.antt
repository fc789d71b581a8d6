use borrow.Author.Tests.{le-ltb}
use Rattle.voltage.specs.Voltage.{trim}
use Rattle.voltage.proofs.Checks.{trim_passed}
use Rattle.voltage.proofs.Numbers.{negative_trim}
use Rattle.voltage.proofs.target.base_of.Goals as goal

-- written out, so that at a wrong trim a fact fails, and not a limit of the search
pub returns-clause-exact : goal.returns-clause-exact
unfolding trim
returns-clause-exact c =
    let low = rw c.from-offset.ensures at c.if-offset-lt8.false in
    rw (c.from-offset.ensures, ← c.has_bit.ensures, c.if-not-has_bit.false, le-ltb _ _ low)
    (negative_trim _ low (trim_passed _ c.args.settings.passes))
