use Rattle.voltage.proofs.finder.in_band.Goals as goal

pub returns : goal.returns
returns c = rw (c.microvolts_of-v.ensures, c.from.ensures)
