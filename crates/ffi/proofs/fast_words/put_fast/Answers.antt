use mathlib.Core.Path.{ap, ◌∙◌}
use Rattle.ffi.specs.FastWords.{latch_put, counters_put, line_put, fast_put}
use Rattle.ffi.proofs.fast_words.put_fast.Goals as goal

pub returns-clause-leaves : goal.returns-clause-leaves
unfolding fast_put
returns-clause-leaves c =
    let step = c.args.step in
    c.put_line.ensures
    ∙ ap (line_put step.address) (c.put_counters.ensures
    ∙ ap (counters_put step.scan) (c.put_latch.ensures
    ∙ ap (latch_put step.scan) c.put_clock.ensures))
