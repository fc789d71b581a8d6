use mathlib.Core.Path.{ap}
use Rattle.std.proofs.Common.{eq-eqb, ne_eqb}
use Rattle.ffi.specs.SessionWords.{answer_words, session_on}
use Rattle.ffi.proofs.session_words.nt7508_session.Goals as goal

pub returns-in_default : goal.returns-in_default
unfolding session_on
returns-in_default c = rw (ne_eqb _ _ c.in_default.ensures.cases)

pub returns : goal.returns
unfolding session_on
returns c =
    let is = eq-eqb _ _ c.in-Some.ensures.cases.long in
    rw (is, c.put_end.ensures.answers, c.put_state.ensures, c.put_end.ensures.leaves) (ap answer_words c.run-answer.ensures)
