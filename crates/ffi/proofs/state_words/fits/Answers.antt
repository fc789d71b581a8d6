use Rattle.std.proofs.Common.{eq-eqb}
use Rattle.ffi.proofs.Fits.{fits_hold}
use Rattle.ffi.proofs.state_words.fits.Goals as goal

pub returns : goal.returns
returns c =
    fits_hold _ (eq-eqb _ _ c.told-w) c.flags_fit.ensures c.bytes_fit.ensures c.wider_fit.ensures
