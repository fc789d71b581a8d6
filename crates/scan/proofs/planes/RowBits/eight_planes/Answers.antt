use Rattle.std.proofs.Common.{◌+◌, ◌*◌}
use Rattle.scan.proofs.Packing.{planes_ahead, planes_back}
use Rattle.scan.proofs.planes.RowBits.eight_planes.Goals as goal

pub returns-then-reversed : goal.returns-then-reversed
returns-then-reversed c =
    let row = c.args.self.now in
    rw c.if-reversed.true (planes_back row.bits row.are_bits c.args.segment c.requires _ (λ i. c.eight.ensures.exact i + c.eight-then-reversed.ensures.exact i * 16))

pub returns-else-reversed : goal.returns-else-reversed
returns-else-reversed c =
    let row = c.args.self.now in
    rw c.if-reversed.false (planes_ahead row.bits row.are_bits c.args.segment _ (λ i. c.eight-else-reversed.ensures.exact i + c.eight-else-reversed-2.ensures.exact i * 16))
