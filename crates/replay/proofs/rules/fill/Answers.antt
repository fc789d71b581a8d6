use Rattle.std.proofs.Common.{ℕ, ◌+◌, ◌%◌, sym, refl, ap, ◌∙◌, arith}
use Rattle.replay.specs.Rules.{filled_to, filled}
use Rattle.replay.proofs.Laws.{byte_next, filled_next}
use Rattle.replay.proofs.rules.fill.Goals as goal

pub loop-byte-init : goal.loop-byte-init
unfolding filled_to
loop-byte-init c = (refl, omega arith)

pub loop-byte-preserved : goal.loop-byte-preserved
loop-byte-preserved c =
    let a = c.args in
    let l = c.loop-byte in (
      simp (filled_next, sym l.invariant.1, sym l.invariant.0),
      ap (λ (v : ℕ). (v + a.step % 251) % 251) l.invariant.1 ∙ byte_next a.step a.first l.byte-index,
    )

pub returns : goal.returns
unfolding filled
returns c =
    let a = c.args in
    c.loop-byte.invariant.0 ∙ ap (λ (n : ℕ). filled_to n a.step a.first a.memory.now) (omega arith)
