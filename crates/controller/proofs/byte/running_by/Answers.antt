use Rattle.controller.proofs.byte.running_by.Goals as goal

pub returns : goal.returns
returns c =
    simp (
      c.after.ensures,
      c.runs-2.ensures,
      c.runs.ensures,
      c.conditions_of-after.ensures,
      c.power_then.ensures,
      c.conditions_of-before.ensures,
    )
