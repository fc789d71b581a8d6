use Prim.Native.Nat.{◌+◌, ◌-◌, ◌≤◌}
use mathlib.Core.Path.{◌≡◌}
use lib.ListN.{length}
use Rattle.decimal.specs.Decimal.{line_at}
use Rattle.decimal.specs.Rest.{line_rest, line_in}
use Rattle.decimal.proofs.read_line.Given as goal

abbrev pub invariant-loop-i : goal.invariant-loop-i
invariant-loop-i l =
    (length l.out ≡ l.count)
    × ((length l.rest + l.i ≤ length l.text)
    × (line_rest l.rest (line_at (l.count - l.i) l.rest 0 l.i l.out) ≡ line_in l.text l.initial.out))
