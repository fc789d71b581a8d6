use Rattle.scan.specs.State.{with_ticking}
use Rattle.scan.proofs.fast.with_counters.Goals as goal

pub returns : goal.returns
unfolding with_ticking
returns c = simp c.with_ticking-next.ensures
