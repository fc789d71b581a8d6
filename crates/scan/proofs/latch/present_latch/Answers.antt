use Rattle.std.proofs.Common.{◌∙◌}
use Rattle.scan.proofs.Latches.{latch_by, row_le}
use Rattle.scan.proofs.latch.present_latch.Goals as goal

pub row_words-requires : goal.row_words-requires
row_words-requires c = rw c.latched_row.ensures (row_le c.args.scan)

pub returns : goal.returns
returns c =
    let a = c.args in
    c.row_words.ensures ∙ latch_by a.scan a.settings a.lent.ram.now a.lent.icons.now c.latched_row.ensures c.active_shades-active.ensures
