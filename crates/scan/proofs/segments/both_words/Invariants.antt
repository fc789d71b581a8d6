use Rattle.std.proofs.Common.{◌≡◌, ◌+◌, ◌-◌, ◌*◌}
use Rattle.scan.specs.Planes.{in_high, in_low}
use Rattle.scan.specs.Latch.{word}
use Rattle.scan.proofs.segments.both_words.Given as goal

abbrev pub invariant-loop-left : goal.invariant-loop-left
invariant-loop-left l =
    let in_h = in_high l.bits.bits l.reversed in
    let in_l = in_low l.bits.bits l.reversed in
    record {
      high : l.high ≡ word in_h (8 * l.left) (64 - 8 * l.left);
      low : l.low ≡ word in_l (8 * l.left) (64 - 8 * l.left);
      high2 : l.high2 ≡ word in_h (8 * l.left + 64) (64 - 8 * l.left);
      low2 : l.low2 ≡ word in_l (8 * l.left + 64) (64 - 8 * l.left);
    }
