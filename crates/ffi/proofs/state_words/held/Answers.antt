use Prim.Native.Nat.{ℕ}
use mathlib.Core.List.{List}
use Rattle.std.specs.Borrow.{Bor}
use Rattle.ffi.proofs.OnBlock.{other_length, held_or_none}
use Rattle.ffi.proofs.state_words.held.Goals as goal

pub returns-in_err-block : goal.returns-in_err-block
returns-in_err-block c = rw c.from_residual.ensures (other_length _ c.in_err-block.ensures.cases)

pub returns : goal.returns
returns c =
    rw c.then_some.ensures (held_or_none (λ (b : Bor (List ℕ)). b.now) c.args.words.now c.in_ok-block.block _ c.in_ok-block.ensures.cases.same c.fits.ensures)
