use Rattle.std.proofs.Common.{ne_eqb}
use Rattle.scan.specs.Latch.{affects}
use Rattle.scan.proofs.latch.affected.Goals as goal

pub returns-in-None : goal.returns-in-None
unfolding affects
returns-in-None c = rw c.in-None.is

pub returns-in-Some-eq16 : goal.returns-in-Some-eq16
unfolding affects
returns-in-Some-eq16 c = let h = rw c.in-Some-eq16.is at c.in-Some-eq16.field-0-test in rw (c.in-Some-eq16.is, h)

pub returns-in-Some : goal.returns-in-Some
unfolding affects
returns-in-Some c = let h = rw c.in-Some.is at c.in-Some.number-test.1 in rw c.in-Some.is (simp (ne_eqb _ _ h))
