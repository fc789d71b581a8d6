use Rattle.std.proofs.Common.{◌≡◌, sym, ◌∙◌, None, length}
use Rattle.scan.specs.Check.{check_image}
use Rattle.scan.specs.Image.{image, rendered}
use Rattle.scan.proofs.Checks.{painted_checks}
use Rattle.scan.proofs.image.render.Goals as goal
use Rattle.scan.proofs.image.render.Goals.{In_ok-lent}

pub returns-in_err-lent-clause-image_after : goal.returns-in_err-lent-clause-image_after
unfolding rendered
returns-in_err-lent-clause-image_after c = rw (← c.in_err-lent.ensures.refuses)

-- what the check found
passed : (c : In_ok-lent) → check_image c.args.settings c.args.memory.ram.now c.args.memory.icons.now (length c.args.image.now) ≡ None
passed c = sym c.in_ok-lent.ensures.refuses

pub paint-requires : goal.paint-requires
paint-requires c = (painted_checks _ _ _ _ (passed (goal.at.paint-requires c).In_ok-lent)).image_length

pub returns-clause-image_after : goal.returns-clause-image_after
unfolding rendered image
returns-clause-image_after c =
    c.paint.ensures ∙ rw (passed (goal.at.returns-clause-image_after c).In_ok-lent, c.lit_by.ensures, c.in_ok-lent.ensures.keeps.0)
