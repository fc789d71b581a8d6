use Rattle.std.proofs.Common.{sym, ap, ◌∙◌}
use Rattle.std.specs.Prelude.{Some}
use Rattle.std.proofs.lemmas.Result.{err_from_is_err_and}
use Rattle.checks.proofs.Results.{refused_at_ok, refused_at_err}
use Rattle.clock.specs.Check.{number as number_of}
use Rattle.scan.proofs.Checks.{check_stopped, check_running, by_clock_number, scan_by_clock}
use Rattle.scan.proofs.state.Scan.check_clock.Goals as goal

pub returns-in_err-check : goal.returns-in_err-check
returns-in_err-check c =
    let p = err_from_is_err_and c.from_residual.result c.from_residual.ensures.1 in
    rw (p.1, p.2)
    (scan_by_clock _
    (λ v.
    ap Some (by_clock_number _)
    ∙ sym (refused_at_err number_of _ c.check.ensures c.in_err-check.was)
    ∙ check_running c.args.self _ v c.in-Some.is))

pub returns-in_ok-check : goal.returns-in_ok-check
returns-in_ok-check c =
    scan_by_clock _ (λ v. sym (refused_at_ok number_of _ c.check.ensures c.in_ok-check.was) ∙ check_running c.args.self _ v c.in-Some.is)

pub returns-in_default : goal.returns-in_default
returns-in_default c = scan_by_clock _ (λ v. sym (check_stopped _ v c.in_default.is))
