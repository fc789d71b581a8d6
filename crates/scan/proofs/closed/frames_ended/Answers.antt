use Rattle.scan.proofs.ValidQuanta.{frc_count_taken, frc_count_pos, frc_count_of_ok, frc_count_small}
use Rattle.scan.proofs.Numbers.{mod_fits}
use Rattle.scan.proofs.closed.frames_ended.Goals as goal

pub nonzero_rem-next : goal.nonzero_rem-next
nonzero_rem-next c =
    simp (c.from-2.ensures, c.frame_of-next.ensures, frc_count_taken) (frc_count_pos _ (frc_count_of_ok _))

pub overflow_cast-next : goal.overflow_cast-next
overflow_cast-next c =
    simp (c.from-2.ensures, c.frame_of-next.ensures, frc_count_taken) (record { fits = mod_fits _ _ (frc_count_pos _ (frc_count_of_ok _)) (frc_count_small _) })

pub returns : goal.returns
returns c =
    simp (c.from.ensures, c.from-2.ensures, c.frame_of-next.ensures, frc_count_taken)
