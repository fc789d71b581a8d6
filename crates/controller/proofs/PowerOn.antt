-- The controller at power-on passes numbers 3 to 5: every condition computes.
use Rattle.std.specs.Prelude.{None}
use mathlib.Core.Path.{◌≡◌, refl}
use Rattle.clock.specs.Rate.{is_lcd}
use Rattle.scan.specs.State as scans
use Rattle.scan.specs.Settings.{rows_in}
use Rattle.scan.specs.Check.{lines_ok, frc_count_ok, valid_frame, pwm_ok, valid_inversion, valid_scan, valid_running, check_scan}
use Rattle.scan.specs.Check as display
use Rattle.voltage.specs.Check as analog
use Rattle.controller.specs.State.{power_on}
use Rattle.controller.specs.Check.{valid_pending, valid_serial, valid_saved, valid_address, valid_power, valid_state, check_state}
use Rattle.controller.proofs.Checks.{Valid, valid}

pub power_on_passes : check_state power_on ≡ None
unfolding power_on check_state valid_state valid_serial valid_pending valid_address valid_saved valid_power display.valid_settings analog.valid_settings scans.power_on check_scan valid_scan is_lcd valid_frame frc_count_ok pwm_ok rows_in valid_inversion lines_ok valid_running
power_on_passes = refl

-- and so does each of its groups
pub power_on_valid : Valid power_on
power_on_valid = valid power_on power_on_passes
