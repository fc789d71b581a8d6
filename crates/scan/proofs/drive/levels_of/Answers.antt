use Rattle.std.proofs.Common.{refl, sym, ◌∙◌}
use Rattle.checks.proofs.Chains.{row_passed}
use Rattle.voltage.proofs.Laws.{answer_valid}
use Rattle.scan.proofs.drive.levels_of.Goals as goal

pub unwrap-requires : goal.unwrap-requires
unwrap-requires c = rw (answer_valid _ _ _ c.voltages.ensures (row_passed 3 _ c.args.analog.passes)) refl

pub returns : goal.returns
returns c =
    let e = sym c.unwrap.ensures ∙ answer_valid _ _ _ c.voltages.ensures (row_passed 3 _ c.args.analog.passes) in
    cc
