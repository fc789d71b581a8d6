use mir.Facts.{to_z-of_z}
use mir.Syntax.{w32}
use borrow.Author.Rules.{rules}
use Rattle.ffi.specs.StateWords.{power_part}
use Rattle.ffi.proofs.state_words.power_part.Goals as goal

pub returns : goal.returns
unfolding power_part
returns c =
    let back = to_z-of_z {w = w32} {z = c.args.power.temperature_millicelsius} (search rules) in
    simp (c.words-r.ensures, c.temperature_word.ensures, back, c.from.ensures, c.from-2.ensures, c.from-3.ensures, c.from-4.ensures, c.from-5.ensures, c.from-6.ensures)
