use Rattle.std.proofs.Common.{sym, ◌∙◌}
use Rattle.clock.proofs.Order.{rate_eq}
use Rattle.scan.proofs.stretch.next_clock.Goals as goal

pub returns-then-eq : goal.returns-then-eq
returns-then-eq c = simp (sym (rate_eq c.args.rate c.args.new.value) ∙ sym c.eq.ensures ∙ c.if-eq.true)

pub returns : goal.returns
returns c = c.start_clock.ensures ∙ simp (sym (rate_eq c.args.rate c.args.new.value) ∙ sym c.eq.ensures ∙ c.if-eq.false)
