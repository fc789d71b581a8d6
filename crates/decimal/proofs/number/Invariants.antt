use Prim.Native.Nat.{◌+◌, ◌-◌, ◌^◌, ◌≤◌, ◌<◌}
use mathlib.Core.Path.{◌≡◌}
use lib.ListN.{length, drop}
use Rattle.decimal.specs.Decimal.{digits, spelt}
use Rattle.decimal.proofs.number.Given as goal

abbrev pub invariant-loop-next : goal.invariant-loop-next
invariant-loop-next l =
    (length l.rest ≤ length l.text)
    × ((drop (length l.text - length l.rest) l.text ≡ l.rest)
    × ((spelt l.rest l.value ≡ spelt l.text 0)
    × ((digits l.text ≡ (length l.text - length l.rest) + digits l.rest)
    × (l.value < 2 ^ 64))))

abbrev pub decreases-loop-next : goal.decreases-loop-next
decreases-loop-next l = length l.rest
