-- The answers in document 01's terms: the number of a refusal, and the voltages.
use Rattle.std.specs.Prelude.{ℕ, ◌⊎◌, Option, Some, None, Result}
use Rattle.checks.specs.Checks.{answer, numbered}
use Rattle.voltage.specs.declared.Settings.{Settings}
use Rattle.voltage.specs.declared.Supply.{Supply}
use Rattle.voltage.specs.declared.LcdVoltages.{LcdVoltages}
use Rattle.voltage.specs.declared.check.Refusal.{Refusal}
use Rattle.voltage.specs.Check.{number, settings_row}
use Rattle.voltage.specs.Voltage.{voltages}

-- a level: its microvolts, and 0 where it is absent
abbrev pub microvolts : Option ℕ → ℕ
microvolts None = 0
microvolts (Some v) = v

-- an answer: the number of a refusal, or the voltages
abbrev pub answered : Result LcdVoltages Refusal → ℕ ⊎ LcdVoltages
answered = numbered number

-- the answer to `voltages`
unfoldable pub answer_of : Settings → Supply → ℕ ⊎ LcdVoltages
answer_of s x = answer (settings_row s) (voltages s x)
