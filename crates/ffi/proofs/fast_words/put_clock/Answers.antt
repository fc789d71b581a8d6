use Rattle.ffi.specs.FastWords.{clock_put}
use Rattle.ffi.proofs.fast_words.put_clock.Goals as goal

pub returns-in_default : goal.returns-in_default
unfolding clock_put
returns-in_default c = simp c.in_default.is

pub returns : goal.returns
unfolding clock_put
returns c = simp c.in-Some.is
