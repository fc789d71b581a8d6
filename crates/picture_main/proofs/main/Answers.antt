use mathlib.Core.Path.{sym}
use lib.Seq.{length-take-le}
use Rattle.picture.proofs.Drawing.{written_fits}
use Rattle.picture_main.proofs.main.Goals as goal

pub slice_bounds-out-end : goal.slice_bounds-out-end
slice_bounds-out-end c = written_fits _ _ c.draw-written.ensures

pub slice_bounds-write_all-end : goal.slice_bounds-write_all-end
slice_bounds-write_all-end c =
    sym (length-take-le c.draw-written.result c.draw-written.new.out (written_fits _ _ c.draw-written.ensures))
