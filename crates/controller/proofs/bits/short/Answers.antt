use native.Mathlib.Omega.{arith}
use borrow.Author.Rules.{rules}
use Rattle.checks.proofs.Tests.{test_false, test_true}
use Rattle.controller.proofs.Groups.{group_bounds, edges_idle, edges_short}
use Rattle.controller.proofs.Whole.{not_completed}
use Rattle.controller.proofs.bits.short.Goals as goal

pub returns-then-not-taking : goal.returns-then-not-taking
returns-then-not-taking c = λ now ram icons. edges_idle _ now _ (test_false c.taking.ensures c.if-not-taking.true)

pub grown-requires : goal.grown-requires
grown-requires c =
    omega (arith, not_completed _ _ c.requires (test_true c.taking.ensures c.if-not-taking.false))

pub returns : goal.returns
returns c =
    let t = test_true c.taking.ensures c.if-not-taking.false in
    λ now ram icons. simp c.grown.ensures
    (edges_short _ _ now _ t (not_completed _ _ c.requires t) (search rules) (group_bounds _ _ c.args.group.fits).1)
