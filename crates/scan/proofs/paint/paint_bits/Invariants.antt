use Rattle.std.proofs.Common.{◌≡◌, ℕ, ◌<◌, get_or}
use Rattle.scan.specs.Paint.{row_level}
use Rattle.scan.proofs.paint.paint_bits.Given as goal

abbrev pub invariant-loop-x : goal.invariant-loop-x
invariant-loop-x l = (k : ℕ) → k < l.x → get_or l.row k 0 ≡ row_level l.levels l.bits.bits l.reversed k
