use Rattle.std.proofs.Common.{◌≡◌, ap, ◌∙◌, true}
use Rattle.std.proofs.lemmas.Result.{err_from_is_err_and}
use Rattle.checks.specs.Checks.{row}
use Rattle.clock.specs.Time.{in_range}
use Rattle.scan.specs.Check.{valid_settings, valid_scan}
use Rattle.scan.proofs.Answers.{clock_last, count_refused}
use Rattle.scan.proofs.Checks.{passes, but_clock_rows}
use Rattle.scan.proofs.state.Scan.count_to.Goals as goal
use Rattle.scan.proofs.state.Scan.count_to.Goals.{In_ok-check_but_clock}

pub returns-in_err-check_but_clock : goal.returns-in_err-check_but_clock
returns-in_err-check_but_clock c =
    let p = err_from_is_err_and c.from_residual.result c.from_residual.ensures.1 in
    rw (p.1, p.2) (count_refused _ _ _ (simp c.valid.ensures at c.check_but_clock.ensures) c.in_err-check_but_clock.was)

-- what the check found
rows : (c : In_ok-check_but_clock) → (in_range c.args.now ≡ true) × ((valid_settings c.args.settings ≡ true) × (valid_scan c.args.self ≡ true))
rows c =
    but_clock_rows _ _ _ (passes (simp c.valid.ensures at c.check_but_clock.ensures) c.in_ok-check_but_clock.was)

pub invariant_of-in_pieces : goal.invariant_of-in_pieces
invariant_of-in_pieces c = record { passes = ap (row 3) (rows (goal.at.invariant_of-in_pieces c).In_ok-check_but_clock).1.0 }

pub invariant_of-in_pieces-2 : goal.invariant_of-in_pieces-2
invariant_of-in_pieces-2 c = record { passes = ap (row 1) (rows (goal.at.invariant_of-in_pieces-2 c).In_ok-check_but_clock).0 }

pub in_pieces-requires : goal.in_pieces-requires
in_pieces-requires c = (rows (goal.at.in_pieces-requires c).In_ok-check_but_clock).1.1

pub returns : goal.returns
returns c =
    c.in_pieces.ensures
    ∙ clock_last _ _ _ (passes (simp c.valid.ensures at c.check_but_clock.ensures) c.in_ok-check_but_clock.was)
