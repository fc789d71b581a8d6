use Rattle.controller.proofs.Checks.{timed, passes}
use Rattle.controller.proofs.state.Nt7508.set_supply.Goals as goal

pub invariant_of-railed : goal.invariant_of-railed
invariant_of-railed c =
    record { passes = (timed _ _ (passes c.check_moment.ensures c.in_ok-check_moment.was)).state }

pub invariant_of-railed-2 : goal.invariant_of-railed-2
invariant_of-railed-2 c =
    record { passes = rw (timed _ _ (passes c.check_moment.ensures c.in_ok-check_moment.was)).in_range_lem }
