-- Document 01, 'Session program': a line is microseconds (unsigned 64-bit), a word and a value, one space between, a newline
-- after. Decimals are those of the crate `decimal`.
use Rattle.std.specs.Prelude.{ℕ, cond, List, [], ◌∷◌, leb, eqb, nat_eq, pos, neg_ℤ, drop, get_or, Option, Some, None, option_map, option_and_then}
use Rattle.std.specs.List.{starts_with}
use Rattle.decimal.specs.Decimal.{Read}
use Rattle.decimal.specs.Decimal.{field_at}
use Rattle.session.specs.declared.line.Action.{Action}
use Rattle.session.specs.declared.line.Line.{Line}

-- the words, each with the space behind it
abbrev pub byte_word : List ℕ
byte_word = 98 ∷ 121 ∷ 116 ∷ 101 ∷ 32 ∷ []

abbrev pub dc_word : List ℕ
dc_word = 100 ∷ 99 ∷ 32 ∷ []

abbrev pub select_word : List ℕ
select_word = 115 ∷ 101 ∷ 108 ∷ 101 ∷ 99 ∷ 116 ∷ 32 ∷ []

abbrev pub supply_word : List ℕ
supply_word = 115 ∷ 117 ∷ 112 ∷ 112 ∷ 108 ∷ 121 ∷ 32 ∷ []

abbrev pub temp_word : List ℕ
temp_word = 116 ∷ 101 ∷ 109 ∷ 112 ∷ 32 ∷ []

abbrev pub deadline_word : List ℕ
deadline_word = 100 ∷ 101 ∷ 97 ∷ 100 ∷ 108 ∷ 105 ∷ 110 ∷ 101 ∷ 32 ∷ []

abbrev pub update_word : List ℕ
update_word = 117 ∷ 112 ∷ 100 ∷ 97 ∷ 116 ∷ 101 ∷ 32 ∷ []

abbrev pub drive_word : List ℕ
drive_word = 100 ∷ 114 ∷ 105 ∷ 118 ∷ 101 ∷ 32 ∷ []

-- a number up to the largest that its word takes
abbrev pub up_to : (most : ℕ) → Option Read → Option ℕ
up_to most None = None
up_to most (Some n) = cond (leb n.value most) (Some n.value) None

-- with a newline behind it
unfoldable pub value_at : List ℕ → (at most : ℕ) → Option ℕ
value_at s at most = up_to most (field_at s at 10)

-- minus stands below 0 only
abbrev pub below_zero : ℕ → Option Action
below_zero value = cond (eqb value 0) None (Some (Action.Temperature (neg_ℤ (pos value))))

-- `temp` signed 32-bit
unfoldable pub temperature_at : List ℕ → (at : ℕ) → (after : ℕ) → Option Action
temperature_at s at after =
    cond (eqb (get_or s at 0) 45) (option_and_then below_zero (value_at s after 2147483648))
    (option_map (λ value. Action.Temperature (pos value)) (value_at s at 2147483647))

-- `deadline`, `update`, `drive` with 0
unfoldable pub look_of : List ℕ → Option Action
look_of s =
    cond (starts_with nat_eq s deadline_word) (option_map (λ value. Action.Deadline) (value_at s 9 0))
    (cond (starts_with nat_eq s update_word) (option_map (λ value. Action.Update) (value_at s 7 0))
    (cond (starts_with nat_eq s drive_word) (option_map (λ value. Action.Drive) (value_at s 6 0)) None))

-- `byte` 0 to 255; `dc`, `select` 0 or 1; `supply` 0 to 65535
unfoldable pub action_of : List ℕ → Option Action
action_of s =
    cond (starts_with nat_eq s byte_word) (option_map Action.Byte (value_at s 5 255))
    (cond (starts_with nat_eq s dc_word) (option_map (λ value. Action.Data (eqb value 1)) (value_at s 3 1))
    (cond (starts_with nat_eq s select_word) (option_map (λ value. Action.Select (eqb value 1)) (value_at s 7 1))
    (cond (starts_with nat_eq s supply_word) (option_map Action.Supply (value_at s 7 65535))
    (cond (starts_with nat_eq s temp_word) (temperature_at s 5 6) (look_of s)))))

-- microseconds, the space behind them, and the rest
abbrev pub line_with : List ℕ → Option Read → Option Line
line_with s None = None
line_with s (Some n) = option_map (λ action. record { us = n.value; action = action }) (action_of (drop n.next s))

unfoldable pub line_of : List ℕ → Option Line
line_of s = line_with s (field_at s 0 32)
