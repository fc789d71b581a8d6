use native.Mathlib.Omega.{arith}
use Rattle.clock.proofs.Words.{long_division}
use Rattle.clock.proofs.wide.div.Goals as goal

pub returns : goal.returns
returns c =
    let a = c.args in
    long_division a.w.high a.w.low a.d c.requires.d_nonzero (omega arith)
