use Rattle.clock.proofs.Answers.{new_passed}
use Rattle.checks.proofs.Chains.{row_passed}
use Rattle.scan.proofs.state.start_clock.Goals as goal

pub returns : goal.returns
returns c = simp (c.ok.ensures.value, new_passed _ _ _ c.new.ensures (row_passed 1 _ c.args.at.passes) (row_passed 4 _ c.args.rate.passes))
