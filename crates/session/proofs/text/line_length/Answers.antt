use mathlib.Core.Path.{sym}
use Rattle.session.proofs.Texts.{line_newline, line_last}
use Rattle.session.proofs.text.line_length.Goals as goal

pub returns-in-Some : goal.returns-in-Some
returns-in-Some c = sym (line_newline c.args.text.now c.in-Some.newline (sym c.in-Some.ensures))

pub returns-in-None : goal.returns-in-None
returns-in-None c = sym (line_last c.args.text.now (sym c.in-None.ensures))
