use Rattle.scan.proofs.fast.checks_pass.Goals as goal

pub returns : goal.returns
returns c = simp (c.in_range.ensures, c.valid.ensures, c.valid-2.ensures)
