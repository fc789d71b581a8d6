use lib.ListN.{get_or}
use mir.Facts.{to_z-of_z}
use mir.Syntax.{w32}
use Rattle.ffi.specs.StateWords.{power_in}
use Rattle.ffi.proofs.Temperatures.{temperature_fits}
use Rattle.ffi.proofs.state_words.power_in.Goals as goal

pub returns : goal.returns
unfolding power_in
returns c =
    let back = to_z-of_z {w = w32} (temperature_fits (get_or c.args.w.now 60 0)) in
    simp (c.ready_in.ensures, c.temperature_of.ensures, back)
