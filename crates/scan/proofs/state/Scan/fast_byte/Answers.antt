use Rattle.std.proofs.Common.{◌≡◌, true, sym, ◌∙◌}
use Rattle.checks.proofs.Tests.{test_false, test_true}
use Rattle.scan.specs.Fast.{checks_pass}
use Rattle.scan.proofs.FastPath.{unlent, others_pass, fast_unchecked, fast_uncounted, fast_unsettled, fast_done, shown_stays, not_shown}
use Rattle.scan.proofs.state.Scan.fast_byte.Goals as goal
use Rattle.scan.proofs.state.Scan.fast_byte.Goals.{Else-not-checks_pass}

pub returns-in_default : goal.returns-in_default
returns-in_default c = fast_unchecked _ _ _ _ _ _ _ (unlent _ _ _ _ _ c.lent.ensures.refuses c.in_default.is)

pub returns-then-not-checks_pass : goal.returns-then-not-checks_pass
returns-then-not-checks_pass c =
    fast_unchecked _ _ _ _ _ _ _ (test_false (others_pass _ _ _ _ _ c.lent.ensures.refuses c.in-Ok.is c.checks_pass.ensures) c.if-not-checks_pass.true)

-- what the checks found
passed : (c : Else-not-checks_pass) → checks_pass c.args.self c.args.settings c.args.moment c.args.memory.ram.now c.args.memory.icons.now ≡ true
passed c = test_true (others_pass _ _ _ _ _ c.lent.ensures.refuses c.in-Ok.is c.checks_pass.ensures) c.if-not-checks_pass.false

pub returns-in_default-counted_fast : goal.returns-in_default-counted_fast
returns-in_default-counted_fast c =
    fast_uncounted _ _ _ _ _ _ (passed (goal.at.returns-in_default-counted_fast c).Else-not-checks_pass) c.counted_fast.ensures _ c.in_default-counted_fast.is

pub returns-then-not-settled : goal.returns-then-not-settled
returns-then-not-settled c =
    fast_unsettled _ _ _ _ _ _ (passed (goal.at.returns-then-not-settled c).Else-not-checks_pass) c.counted_fast.ensures _ c.in-Some.is (test_false c.settled.ensures c.if-not-settled.true)

pub returns-then-stays_shown : goal.returns-then-stays_shown
returns-then-stays_shown c =
    fast_done _ _ _ _ _ _ (passed (goal.at.returns-then-stays_shown c).Else-not-checks_pass) c.counted_fast.ensures c.in-Some.is (test_true c.settled.ensures c.if-not-settled.false) _ (shown_stays _ _ _ _ _ (sym c.stays_shown.ensures ∙ c.if-stays_shown.true))

pub returns : goal.returns
returns c =
    let same = c.in-Ok.ensures.keeps in
    fast_done _ _ _ _ _ _ (passed (goal.at.returns c).Else-not-checks_pass) c.counted_fast.ensures c.in-Some.is (test_true c.settled.ensures c.if-not-settled.false) _
    (rw (← c.copied.ensures, ← same.0, ← same.1) (c.latch_retained.ensures ∙ not_shown _ _ _ _ _ (test_false c.stays_shown.ensures c.if-stays_shown.false)))
