-- How many cases of a list are replayed.
use Rattle.std.specs.Prelude.{ℕ, ◌+◌, ◌%◌, ◌^◌, Bool, cond}
use Rattle.replay.specs.declared.tally.Tally.{Tally}

-- one more, in 64 bits
abbrev pub more : ℕ → ℕ
more count = (count + 1) % 2 ^ 64

abbrev pub started : Tally
started = record { cases = 0; differ = 0 }

-- after a case that agrees or differs
abbrev pub counted : Tally → Bool → Tally
counted t agrees =
    record { cases = more t.cases; differ = cond agrees t.differ (more t.differ) }
