use Rattle.scan.specs.Paint.{levels_of}
use Rattle.scan.proofs.paint.levels_of.Goals as goal

pub returns : goal.returns
unfolding levels_of
returns c =
    simp (c.level_of.ensures, c.level_of-2.ensures, c.level_of-3.ensures, c.level_of-4.ensures, c.shown_shade.ensures, c.shown_shade-2.ensures, c.shown_shade-3.ensures, c.shown_shade-4.ensures)
