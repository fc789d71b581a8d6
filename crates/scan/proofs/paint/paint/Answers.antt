use Rattle.std.proofs.Common.{refl, ◌∙◌, arith}
use Rattle.scan.specs.Image.{rows_up_to}
use Rattle.scan.proofs.Images.{length_row}
use Rattle.scan.proofs.Rows.{rows_more, rows_all}
use Rattle.scan.proofs.paint.paint.Goals as goal

pub loop-y-init : goal.loop-y-init
unfolding rows_up_to
loop-y-init c = refl

pub loop-y-preserved : goal.loop-y-preserved
loop-y-preserved c =
    let a = c.args in
    rows_more _ (length_row a.settings a.lit a.ram.now) c.loop-y.y a.image.now c.loop-y.invariant c.paint_row.ensures

pub returns : goal.returns
returns c =
    let a = c.args in
    c.loop-y.invariant ∙ rows_all _ (length_row a.settings a.lit a.ram.now) a.image.now (omega arith) (omega arith)
