use Rattle.std.proofs.Common.{arith}
use Rattle.scan.proofs.Rows.{up_to_filled}
use Rattle.scan.proofs.paint.paint_bits.Goals as goal

pub returns : goal.returns
returns c = up_to_filled _ 96 _ (omega arith) (λ k h. c.loop-x.invariant k (omega arith))
