-- Numbers of two words.
use Rattle.std.specs.Prelude.{ℕ, ◌+◌, ◌*◌, ◌/◌, ◌%◌, ◌^◌}
use Rattle.clock.specs.declared.wide.Wide.{Wide}
use Rattle.clock.specs.declared.wide.Quotient.{Quotient}

abbrev pub value : Wide → ℕ
value w = w.high * 2 ^ 64 + w.low

-- the words of a number
abbrev pub wide_of : ℕ → Wide
wide_of n = record { high = n / 2 ^ 64; low = n % 2 ^ 64 }

-- quotient and remainder
abbrev pub quotient_of : ℕ → ℕ → Quotient
quotient_of n d = record { quotient = wide_of (n / d); remainder = n % d }
