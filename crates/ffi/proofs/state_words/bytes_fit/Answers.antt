use mathlib.Core.Path.{refl}
use Rattle.ffi.proofs.state_words.bytes_fit.Goals as goal

pub returns : goal.returns
returns c = refl
