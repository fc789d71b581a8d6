-- The law over texts is not empty: a text of which an update line and a line `byte 227` may be struck, what is left of it, and one
-- of which the line `byte 227` may not be struck, since it is data.
use Prim.Native.Nat.{ℕ}
use mathlib.Core.Bool.{Bool, true, false}
use mathlib.Core.List.{List, [], ◌∷◌, ◌++◌}
use mathlib.Core.Path.{◌≡◌, refl}
use Rattle.controller.specs.Check.{awaits, group_ok}
use Rattle.controller.specs.Bits.{unpacked}
use Rattle.strike.specs.Marks.{marked, group_of}
use Rattle.strike.specs.Line.{line_on, takes, is_whole, value, past, amid, taken_bit, follow_bit, follow_bits, accepted, follow_select, follow_data, follow_call, follow, may_strike, goes_on, allowed_taken, is_struck, allowed_bit, allowed_bits, unmarked, allowed_group, uncut, allowed_call, allowed_one}
use Rattle.decimal.specs.Decimal.{digits, spelt, number_at, field_at}
use Rattle.session.specs.Text.{names_line, longer, lines_of}
use Rattle.session.specs.Line.{byte_word, dc_word, select_word, update_word, drive_word, value_at, look_of, action_of, line_of}
use Rattle.session.specs.Struck.{kept_lines, joined, lines_behind, struck_text, may_mark, follow_mark, passes, allowed_lines}
use Rattle.session.specs.Session.{call_of}

-- lines at a microsecond of one digit: its byte, a space, the word with its space, the value and a newline
abbrev line_at : (digit : ℕ) → (word value : List ℕ) → List ℕ
line_at digit word value = (digit ∷ 32 ∷ []) ++ word ++ value ++ (10 ∷ [])

-- '0', '1' and '227'
abbrev text0 : List ℕ
text0 = 48 ∷ []

abbrev text1 : List ℕ
text1 = 49 ∷ []

abbrev text227 : List ℕ
text227 = 50 ∷ 50 ∷ 55 ∷ []

-- 0 select 1, 5 update 0, 7 byte 227, 9 drive 0
abbrev text : List ℕ
text = names_line ++ line_at 48 select_word text1 ++ line_at 53 update_word text0 ++ line_at 55 byte_word text227 ++ line_at 57 drive_word text0

abbrev marks : List Bool
marks = false ∷ true ∷ true ∷ []

may : allowed_lines true line_on 0 (lines_behind text) marks ≡ true
unfolding allowed_lines lines_of longer line_of action_of look_of value_at field_at number_at digits spelt may_mark follow_mark call_of passes group_ok unpacked awaits group_of marked unmarked follow follow_call follow_select follow_data follow_bits follow_bit taken_bit takes is_whole value past amid accepted allowed_one allowed_call allowed_group allowed_bits allowed_bit allowed_taken is_struck goes_on may_strike uncut
may = refl

left : struck_text text marks ≡ names_line ++ line_at 48 select_word text1 ++ line_at 57 drive_word text0
unfolding struck_text joined kept_lines lines_of longer
left = refl

-- 0 select 1, 1 dc 1, 7 byte 227
may_not : allowed_lines true line_on 0 (lines_behind (names_line ++ line_at 48 select_word text1 ++ line_at 49 dc_word text1 ++ line_at 55 byte_word text227)) (false ∷ false ∷ true ∷ []) ≡ false
unfolding allowed_lines lines_of longer line_of action_of look_of value_at field_at number_at digits spelt may_mark follow_mark call_of passes group_ok unpacked awaits group_of marked unmarked follow follow_call follow_select follow_data follow_bits follow_bit taken_bit takes is_whole value past amid accepted allowed_one allowed_call allowed_group allowed_bits allowed_bit allowed_taken is_struck goes_on may_strike uncut
may_not = refl
