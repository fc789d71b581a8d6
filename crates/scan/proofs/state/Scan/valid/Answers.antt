use Rattle.scan.specs.Check.{valid_scan, pwm_ok}
use Rattle.scan.proofs.state.Scan.valid.Goals as goal

pub returns : goal.returns
unfolding valid_scan pwm_ok
returns c =
    simp (c.is_lcd.ensures, c.valid_frame.ensures, c.from.ensures, c.rows_in.ensures, c.valid_inversion.ensures)
