use Rattle.std.proofs.Common.{refl, sym, ◌∙◌}
use Rattle.scan.proofs.Answers.{count_checked}
use Rattle.scan.proofs.count.counted_to.Goals as goal

pub unwrap-counted-requires : goal.unwrap-counted-requires
unwrap-counted-requires c =
    let a = c.args in rw (count_checked _ _ _ a.scan.passes a.settings.passes a.now.passes c.count_to.ensures) refl

pub returns : goal.returns
returns c =
    let a = c.args in
    let e = sym c.unwrap-counted.ensures ∙ count_checked _ _ _ a.scan.passes a.settings.passes a.now.passes c.count_to.ensures in
    cc
