use Rattle.std.proofs.Common.{◌≡◌, ℕ, ◌<◌, get_or}
use Rattle.scan.specs.Shade.{bit_of}
use Rattle.scan.proofs.planes.RowBits.new.Given as goal

abbrev pub invariant-loop-at : goal.invariant-loop-at
invariant-loop-at l = (k : ℕ) → k < l.at → get_or l.bit-items k 0 ≡ bit_of (get_or l.part k 0) l.place
