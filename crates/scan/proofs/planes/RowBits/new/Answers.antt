use Rattle.std.proofs.Common.{arith}
use Rattle.scan.specs.Planes.{row_bits}
use Rattle.scan.proofs.Rows.{up_to_filled}
use Rattle.scan.proofs.planes.RowBits.new.Goals as goal

pub returns : goal.returns
unfolding row_bits
returns c = up_to_filled _ 256 c.loop-at.bit-items c.loop-at-test.array_long (λ k h. c.loop-at.invariant k (omega arith))
