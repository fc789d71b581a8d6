use Rattle.std.proofs.Common.{◌∙◌}
use Rattle.scan.specs.Count.{frame_same}
use Rattle.scan.proofs.Pieces.{frame_eq}
use Rattle.scan.proofs.count.frame_same.Goals as goal

pub returns : goal.returns
unfolding frame_same
returns c = c.eq.ensures ∙ frame_eq c.frame_of.result c.args.scan.frame ∙ simp c.frame_of.ensures
