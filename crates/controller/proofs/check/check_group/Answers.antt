use borrow.Author.Rules.{rules}
use Rattle.checks.proofs.Tests.{test_false}
use Rattle.controller.proofs.Checks.{group_refuses}
use Rattle.controller.proofs.check.check_group.Goals as goal

pub returns-then-not-group_ok : goal.returns-then-not-group_ok
returns-then-not-group_ok c =
    record { refuses = group_refuses _ _ _ _ _ _ (search rules) (test_false c.group_ok.ensures c.if-not-group_ok.true); keeps = tt }
