use Rattle.ffi.specs.FastWords.{line_put}
use Rattle.ffi.proofs.fast_words.put_line.Goals as goal

pub returns : goal.returns
unfolding line_put
returns c = simp (c.from.ensures, c.from-2.ensures)
