use borrow.Author.Rules.{rules}
use Rattle.session.proofs.Read.{too_many, opened_by}
use Rattle.session.proofs.text.lines_behind.Goals as goal

pub returns-then-text-gt-LONGEST-clause-lines : goal.returns-then-text-gt-LONGEST-clause-lines
returns-then-text-gt-LONGEST-clause-lines c = too_many c.args.text.now c.if-text-gt-LONGEST.true

pub returns-clause-lines : goal.returns-clause-lines
returns-clause-lines c = opened_by c.args.text.now (search rules) c.strip_prefix.result c.strip_prefix.ensures.cases
