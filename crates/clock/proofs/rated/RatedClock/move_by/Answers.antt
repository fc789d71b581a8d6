use borrow.Author.Rules.{rules}
use Prim.Native.Nat.{◌^◌, ◌<◌}
use mathlib.Core.Path.{sym, ◌∙◌, ap}
use Rattle.clock.proofs.Laws.{moved_none}
use Rattle.clock.proofs.Checks.{rated_fraction}
use Rattle.clock.specs.Edges.{moved_by}
use Rattle.clock.proofs.rated.RatedClock.move_by.Goals as goal

pub returns-then-edges-eq0 : goal.returns-then-edges-eq0
returns-then-edges-eq0 c =
    let a = c.args in
    let fits : a.self.clock.at.fraction < 2 ^ 64 = search rules in
    sym (ap (moved_by a.self.clock a.self.rate) c.if-edges-eq0.true ∙ moved_none a.self.clock a.self.rate (rated_fraction a.self.clock a.self.rate a.self.passes) fits)
