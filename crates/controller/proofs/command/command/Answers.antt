use Rattle.controller.specs.Command.{parameter_taken, command_step}
use Rattle.controller.specs.State.{with_serial}
use Rattle.controller.proofs.command.command.Goals as goal

pub returns-then-awaits : goal.returns-then-awaits
unfolding command_step
returns-then-awaits c =
    simp (
      c.unstored.ensures,
      c.with_pending.ensures,
      c.in_default.is,
      ← c.awaits.ensures,
      c.if-awaits.true,
    )

pub returns-in_default : goal.returns-in_default
unfolding command_step
returns-in_default c =
    simp (
      c.acted.ensures,
      c.in_default.is,
      ← c.awaits.ensures,
      c.if-awaits.false,
    )

pub returns : goal.returns
unfolding command_step parameter_taken with_serial
returns c =
    simp (
      c.with_pending-2.ensures,
      c.analog_with-next.ensures,
      c.display_with-next.ensures,
      c.in-Some.is,
    )
