-- The bytes are still those that were lent, and what is left to put makes of them what all makes of those at the start.
use mathlib.Core.Path.{◌≡◌}
use lib.ListN.{drop}
use Rattle.decimal.specs.Print.{put}
use Rattle.decimal.proofs.print.Writer.put_bytes.Given as goal

abbrev pub invariant-loop-byte : goal.invariant-loop-byte
invariant-loop-byte l =
    (l.self.out.ghost_name ≡ l.initial.self.out.ghost_name)
    × (put (l.self.out.now, l.self.at) (drop l.byte-index l.bytes) ≡ put (l.initial.self.out.now, l.initial.self.at) l.bytes)
