use Rattle.std.proofs.Common.{◌≡◌}
use Rattle.replay.specs.Rules.{byte_at, filled_to}
use Rattle.replay.proofs.rules.fill.Given as goal

abbrev pub invariant-loop-byte : goal.invariant-loop-byte
invariant-loop-byte l =
    (l.memory ≡ filled_to l.byte-index l.step l.first l.initial.memory) × (l.value ≡ byte_at l.step l.first l.byte-index)
