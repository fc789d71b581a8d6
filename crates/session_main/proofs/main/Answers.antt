use Prim.Native.Nat.{ℕ}
use mathlib.Core.Path.{sym}
use lib.ListN.{length-replicate}
use lib.Seq.{length-take-le}
use Rattle.session.proofs.Lengths.{written_fits}
use Rattle.session_main.proofs.main.Goals as goal

-- with its level written out: the two lengths are then compared as they stand, and not counted
pub slice_bounds-run-end-3 : goal.slice_bounds-run-end-3
slice_bounds-run-end-3 c = sym (length-replicate {0} {A = ℕ} 589824 0)

pub slice_bounds-out-end : goal.slice_bounds-out-end
slice_bounds-out-end c = written_fits c.run-ended.result _ _ _ _ c.run-ended.ensures

pub slice_bounds-write_all-end : goal.slice_bounds-write_all-end
slice_bounds-write_all-end c =
    sym (length-take-le c.run-ended.result.written c.run-ended.new.out (written_fits c.run-ended.result _ _ _ _ c.run-ended.ensures))
