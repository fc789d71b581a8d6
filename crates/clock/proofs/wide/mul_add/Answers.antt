use Prim.Native.Nat.{◌+◌, ◌*◌}
use native.Mathlib.Omega.{arith}
use Rattle.clock.proofs.Words.{words, columns}
use Rattle.clock.proofs.wide.mul_add.Goals as goal

pub returns : goal.returns
returns c =
    let a = c.args in
    words (a.w.high * a.m + _) (omega arith) (columns a.w.high a.w.low a.m a.c)
