use Rattle.std.proofs.Common.{◌∙◌}
use Rattle.clock.proofs.Order.{rate_eq}
use Rattle.scan.specs.Count.{rate_same}
use Rattle.scan.proofs.count.rate_same.Goals as goal

pub returns : goal.returns
unfolding rate_same
returns c = c.eq.ensures ∙ simp (rate_eq, c.rate_of.ensures)
