-- A line of a list is a case: its kind, then its numbers, as many as the kind has.
use Rattle.std.specs.Prelude.{ℕ, cond, List, [], ◌∷◌, ◌++◌, length, take, drop, ◌==◌, nat_lt, slice_index, Option, Some, None}
use Rattle.decimal.specs.Decimal.{Read}
use Rattle.decimal.specs.Decimal.{field_at, line_at}
use Rattle.replay.specs.declared.cases.Case as lent
use Rattle.replay.specs.declared.cases.Kind.{Kind}
use Rattle.replay.specs.declared.cases.Kind.TheVariants.{Micros, NewClock, Edges, MovedClock, Voltages, Scan, Start, Call}

-- the kind of a case, and the place of the next line
pub record Case : Type 0 where
  pub kind : ℕ
  pub next : ℕ

-- the number of a kind in the lists
abbrev pub number_of : Kind → ℕ
number_of Micros = 1
number_of NewClock = 2
number_of Edges = 3
number_of MovedClock = 4
number_of Voltages = 5
number_of Scan = 6
number_of Start = 7
number_of Call = 8

-- what is read of a text's start: the kind, and what follows
abbrev pub case_view : Option lent.Case → Option (ℕ × List ℕ)
case_view None = None
case_view (Some case) = Some (number_of case.kind, case.rest.now)

-- how many numbers a case has, by its kind from 1 on; 0 for no kind
unfoldable pub length_of : ℕ → ℕ
length_of kind = slice_index (0 ∷ 3 ∷ 10 ∷ 9 ∷ 11 ∷ 19 ∷ 108 ∷ 77 ∷ 10 ∷ []) kind

-- the case of a line whose numbers are read, and end at a place
abbrev pub case_of : ℕ → Option ℕ → Option Case
case_of kind None = None
case_of kind (Some next) = Some (record { kind = kind; next = next })

-- a case of a kind and of n numbers from a place on, and what w holds after it: its numbers first
abbrev pub numbers_in : (kind n : ℕ) → List ℕ → ℕ → List ℕ → Option Case × List ℕ
numbers_in kind n text at w =
    cond (n == 0)
    (None, w)
    (cond (nat_lt (length w) n)
    (None, w)
    (case_of kind (line_at n text at 0 (take n w)).0, (line_at n text at 0 (take n w)).1 ++ drop n w))

-- the case of a line whose kind is read, a space behind it
abbrev pub kind_in : Option Read → List ℕ → List ℕ → Option Case × List ℕ
kind_in None text w = (None, w)
kind_in (Some kind) text w = numbers_in kind.value (length_of kind.value) text kind.next w

-- the case of the line at a place, and what w holds after it
unfoldable pub case_at : List ℕ → ℕ → List ℕ → Option Case × List ℕ
case_at text at w = kind_in (field_at text at 32) text w

-- the case that a text starts with, what follows it, and what w holds after it
abbrev pub behind : List ℕ → Option Case → Option (ℕ × List ℕ)
behind text None = None
behind text (Some case) = Some (case.kind, drop case.next text)

unfoldable pub case_in : List ℕ → List ℕ → Option (ℕ × List ℕ) × List ℕ
case_in text w = let r = case_at text 0 w in (behind text r.0, r.1)

-- how many numbers a kind's cases have; no case has 0
abbrev pub count_of : ℕ → Option ℕ
count_of kind = cond (length_of kind == 0) None (Some (length_of kind))
