use Rattle.std.proofs.Common.{◌≡◌, ◌+◌, arith}
use Rattle.std.proofs.lemmas.Grind.{common_steps}
use Rattle.scan.specs.Planes.{eight_from}
use Rattle.scan.proofs.planes.RowBits.eight.Goals as goal

pub returns-clause-small : goal.returns-clause-small
returns-clause-small c =
    let row = c.args.self.now in
    let at = c.args.from in
    let exact : c.from_le_bytes.result ≡ eight_from row.bits at = grind (arith, common_steps) in
    omega (arith, exact, row.are_bits at, row.are_bits (at + 1), row.are_bits (at + 2), row.are_bits (at + 3), row.are_bits (at + 4), row.are_bits (at + 5), row.are_bits (at + 6), row.are_bits (at + 7))
