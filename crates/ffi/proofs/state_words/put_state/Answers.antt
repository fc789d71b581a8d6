use mathlib.Core.Path.{◌∙◌}
use Rattle.ffi.proofs.Blocks.{put_parts}
use Rattle.ffi.proofs.state_words.put_state.Goals as goal

pub returns : goal.returns
returns c =
    put_parts _ c.args.state c.told-out (c.copy_from_slice.ensures.after ∙ c.scan_part.ensures) (c.copy_from_slice-2.ensures.after ∙ c.display_part.ensures)
    (c.copy_from_slice-3.ensures.after ∙ c.analog_part.ensures) (c.copy_from_slice-4.ensures.after ∙ c.power_part.ensures)
    (c.copy_from_slice-5.ensures.after ∙ c.address_part.ensures) (c.copy_from_slice-6.ensures.after ∙ c.serial_part.ensures)
