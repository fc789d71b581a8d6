use Rattle.clock.proofs.Order.{rate_eq}
use Rattle.scan.specs.Stretch.{rate_stays}
use Rattle.scan.proofs.stretch.rate_stays.Goals as goal

pub returns : goal.returns
unfolding rate_stays
returns c =
    simp (c.eq.ensures, rate_eq, c.rate_of.ensures, c.frame_of.ensures, c.rate_same.ensures)
