-- Document 01, 'Where a call is turned down': checks run in the table's order, and the answer is the number of the first that
-- turns the call down, or what the call gives.
use Rattle.std.specs.Prelude.{ℕ, Bool, cond, ◌⊎◌, Option, Some, None, Result, Ok, Err}
use Rattle.std.proofs.Common.{inl, inr}

-- a row of the table: its number, unless what it asks for holds
abbrev pub row : ℕ → Bool → Option ℕ
row n ok = cond ok None (Some n)

-- the first refusal of two
abbrev pub first_of : Option ℕ → Option ℕ → Option ℕ
first_of None b = b
first_of (Some n) b = Some n

-- the answer of a call: the number of its refusal, or the value
abbrev pub answer : {A : Type 0} → Option ℕ → A → ℕ ⊎ A
answer None a = inr a
answer (Some n) a = inl n

-- the value after a call: the new one, or, where it is turned down, the one given
abbrev pub unless_refused : {A : Type 0} → Option ℕ → (new given : A) → A
unless_refused None new given = new
unless_refused (Some n) new given = given

-- both: the number of the refusal, if any, and what the call leaves
abbrev pub changed : {A : Type 0} → Option ℕ → (new given : A) → Option ℕ × A
changed check new given = (check, unless_refused check new given)

-- what a Result answers, by the numbers of its errors. Of a check: the number, if it turns the call down
abbrev pub refused_by : {A E : Type 0} → (E → ℕ) → Result A E → Option ℕ
refused_by number (Ok a) = None
refused_by number (Err e) = Some (number e)

-- of a call that gives a value
abbrev pub numbered : {A E : Type 0} → (E → ℕ) → Result A E → ℕ ⊎ A
numbered number (Ok a) = inr a
numbered number (Err e) = inl (number e)

-- of a call that gives what it leaves: where it is turned down, that is the one given
abbrev pub left_by : {A E : Type 0} → (E → ℕ) → (given : A) → Result A E → Option ℕ × A
left_by number given (Ok a) = (None, a)
left_by number given (Err e) = (Some (number e), given)
