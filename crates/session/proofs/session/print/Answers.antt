use Rattle.decimal.specs.Print.{put}
use Rattle.session.proofs.session.print.Goals as goal

pub returns-in_default-clause-puts : goal.returns-in_default-clause-puts
unfolding put
returns-in_default-clause-puts c = rw c.in_default.is
