use Rattle.std.proofs.Common.{refl}
use Rattle.std.proofs.Common.{arith}
use Rattle.std.proofs.lemmas.Grind.{common_steps}
use Rattle.ffi.proofs.OnBlock.{block_length}
use Rattle.ffi.proofs.state_words.held_mut.Goals as goal

pub returns : goal.returns
returns c =
    (refl, record { is = let h = c.in_ok-held.ensures in let l = block_length _ h.0 in grind (arith, common_steps, l, h.0); writes_back = tt })
