use Rattle.std.proofs.Common.{ap, ◌∙◌}
use Rattle.checks.specs.Checks.{row}
use Rattle.clock.specs.Rate.{is_lcd}
use Rattle.scan.proofs.Stretches.{checked, counted_lcd, stretch_run}
use Rattle.scan.proofs.stretch.stretch.Goals as goal

pub invariant_of-new : goal.invariant_of-new
invariant_of-new c =
    record { passes = ap (row 4) (ap is_lcd c.rate_of.ensures ∙ counted_lcd _ _ _ (checked _ _ c.args.scan.passes c.args.settings.passes c.args.due.quanta.few) _ c.by_pieces-run.ensures.counters) }

pub returns : goal.returns
returns c =
    stretch_run _ _ _ _ c.by_pieces-run.ensures c.rate_of.ensures c.next_clock-clock.ensures c.with_ticking.ensures
