use mathlib.Core.Path.{◌∙◌}
use Rattle.checks.proofs.Chains.{never}
use Rattle.scan.proofs.Answers.{render_passed}
use Rattle.controller.specs.Look.{render_of}
use Rattle.controller.proofs.Checks.{handed_on, image_called, passes, passed_answer, refused_answer}
use Rattle.controller.proofs.state.Nt7508.render.Goals as goal

pub returns-in_err-check_image : goal.returns-in_err-check_image
unfolding render_of
returns-in_err-check_image c =
    rw (handed_on c.from_residual.ensures.1) (refused_answer c.check_image.ensures _ _ c.in_err-check_image.was)

pub returns-in_err-render : goal.returns-in_err-render
returns-in_err-render c =
    let checked = passes c.check_image.ensures c.in_ok-check_image.was in
    absurd (never (c.in_err-render.ensures.result_value ∙ image_called _ _ _ _ checked))

pub returns : goal.returns
unfolding render_of
returns c =
    let was = c.in_ok-check_image.was in
    let called = image_called _ _ _ _ (passes c.check_image.ensures was) in
    rw (c.in_ok-render.ensures.image_after, render_passed _ _ _ _ _ called, c.driven-driven.ensures, c.conditions_of.ensures) (passed_answer c.check_image.ensures _ _ was)
