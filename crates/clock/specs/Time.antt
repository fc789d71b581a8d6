-- Document 01, 'Clock': time is whole seconds plus a 64-bit fraction of a second, microseconds become
-- time rounded down. Number 1 of its table.
use Rattle.std.specs.Prelude.{ℕ, ◌+◌, ◌*◌, ◌/◌, ◌%◌, ◌^◌, Bool, cond, ltb, Option, Some, None}
use Rattle.clock.specs.declared.time.Time.{Time}
use Rattle.clock.specs.declared.time.Duration.{Duration}

-- a time in fraction units, 2^-64 s each
abbrev pub raw : Time → ℕ
raw t = t.seconds * 2 ^ 64 + t.fraction

abbrev pub time_of : ℕ → Time
time_of n = record { seconds = n / 2 ^ 64; fraction = n % 2 ^ 64 }

-- `Time::ZERO`
abbrev pub zero : Time
zero = record { seconds = 0; fraction = 0 }

abbrev pub raw_duration : Duration → ℕ
raw_duration d = d.seconds * 2 ^ 64 + d.fraction

abbrev pub duration_of : ℕ → Duration
duration_of n = record { seconds = n / 2 ^ 64; fraction = n % 2 ^ 64 }

-- microseconds in fraction units, rounded down
abbrev pub micros_raw : ℕ → ℕ
micros_raw us = us * 2 ^ 64 / 1000000

-- number 1 turns down a time of 2^32 s or later
abbrev pub in_range : Time → Bool
in_range t = ltb (raw t) (2 ^ 32 * 2 ^ 64)

-- a time later by a duration, while two words hold it
abbrev pub sum : Time → Duration → Option Time
sum t d = cond (ltb (raw t + raw_duration d) (2 ^ 128)) (Some (time_of (raw t + raw_duration d))) None
