-- The session program over words: its status, the block of the state that it left, lent memory and listing, and two words, how
-- many bytes it wrote and the line of its refusal.
use Rattle.std.specs.Prelude.{ℕ, cond, List, [], ◌∷◌, eqb, length, Option, Some, None}
use Rattle.session.specs.Session.{Answer, session}
use Rattle.ffi.specs.StateWords.{state_words}

-- the number of a refusal and its line; 0 where there is none
abbrev pub refusal_number : Option (ℕ × ℕ) → ℕ
refusal_number None = 0
refusal_number (Some at) = at.0

abbrev pub refusal_line : Option (ℕ × ℕ) → ℕ
refusal_line None = 0
refusal_line (Some at) = at.1

-- the status of a call, and everything that is lent as it stands after it
pub record Answered : Type 0 where
  pub status : ℕ
  pub state : List ℕ
  pub ram : List ℕ
  pub icons : List ℕ
  pub listing : List ℕ
  pub ended : List ℕ

abbrev pub answered : (status : ℕ) → (state ram icons listing ended : List ℕ) → Answered
answered status state ram icons listing ended = record { status = status; state = state; ram = ram; icons = icons; listing = listing; ended = ended }

abbrev pub answer_words : Answer → Answered
answer_words a =
    answered (refusal_number a.refusal) (state_words a.machine.state) a.machine.ram a.machine.icons a.out
    (a.written ∷ refusal_line a.refusal ∷ [])

-- a block of another length is refused with 20, and nothing that is lent changes
unfoldable pub session_on : (text state ram icons listing ended : List ℕ) → Answered
session_on text state ram icons listing ended =
    cond (eqb (length state) 75) (answer_words (session text ram icons listing)) (answered 20 state ram icons listing ended)
