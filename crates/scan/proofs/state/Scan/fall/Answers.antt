use Rattle.std.proofs.lemmas.Result.{err_from_is_err_and}
use Rattle.scan.proofs.Answers.{fall_refused, fall_stopped}
use Rattle.scan.proofs.state.Scan.fall.Goals as goal

pub returns-in_err-counted : goal.returns-in_err-counted
returns-in_err-counted c =
    let p = err_from_is_err_and c.from_residual.result c.from_residual.ensures.1 in
    rw (p.1, p.2) (fall_refused _ _ _ c.count_to.result c.count_to.ensures c.in_err-counted.was)

pub returns : goal.returns
returns c = fall_stopped _ _ _ c.count_to.result c.count_to.ensures c.in_ok-counted.was c.stopped.ensures
