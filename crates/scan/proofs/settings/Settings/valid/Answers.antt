use Rattle.scan.proofs.ValidQuanta.{frame_tests}
use Rattle.scan.proofs.settings.Settings.valid.Goals as goal

pub returns : goal.returns
returns c =
    simp (c.valid_frame.ensures, c.frame_of.ensures, c.lines_ok.ensures, frame_tests c.args.self)
