use Rattle.clock.proofs.Words.{by_columns}
use Rattle.clock.proofs.wide.product_is.Goals as goal

pub returns : goal.returns
returns c =
    let a = c.args in
    by_columns a.low a.m a.c a.high
