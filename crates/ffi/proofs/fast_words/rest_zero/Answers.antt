use mathlib.Core.Path.{refl}
use Rattle.ffi.proofs.fast_words.rest_zero.Goals as goal

pub returns : goal.returns
returns c = refl
