use Rattle.std.proofs.Common.{sym, ◌∙◌}
use Rattle.scan.specs.Stretch.{stretch_limit}
use Rattle.scan.proofs.stretch.stretch_limit.Goals as goal

pub returns-then-rate_stays : goal.returns-then-rate_stays
unfolding stretch_limit
returns-then-rate_stays c = simp (sym c.rate_stays.ensures ∙ c.if-rate_stays.true)

pub returns : goal.returns
unfolding stretch_limit
returns c =
    simp (sym c.rate_stays.ensures ∙ c.if-rate_stays.false, c.limit_in.ensures)
