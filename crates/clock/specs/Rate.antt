-- Document 01, 'Clock': the LCD rates.
use Rattle.std.specs.Prelude.{ℕ, ◌+◌, ◌*◌, ◌/◌, ◌%◌, Bool, cond, ◌&&◌, ◌||◌, List, [], ◌∷◌, get_or, leb, eqb}
use Rattle.clock.specs.declared.rate.Rate.{Rate}

abbrev pub oscillator_rates : List ℕ
oscillator_rates = 92000 ∷ 122000 ∷ 147000 ∷ 184000 ∷ []

-- by floor(frequency / 8); a setting above 3 has none
abbrev pub oscillator_rate : ℕ → ℕ
oscillator_rate k = get_or oscillator_rates k 0

-- 1008 × rows over 1, or, with oscillator control bit 1, the oscillator's over (frequency mod 8) + 1
abbrev pub lcd_rate : (control frequency rows : ℕ) → Rate
lcd_rate control frequency rows =
    cond (eqb (control / 2 % 2) 0)
    (record { numerator = 1008 * rows; denominator = 1 })
    (record { numerator = oscillator_rate (frequency / 8); denominator = frequency % 8 + 1 })

unfoldable pub same_rate : Rate → Rate → Bool
same_rate r t = eqb r.numerator t.numerator && eqb r.denominator t.denominator

-- 1008 × n over 1, n from 16 to 129
abbrev pub by_rows : Rate → Bool
by_rows r =
    eqb r.denominator 1
    && eqb r.numerator (1008 * (r.numerator / 1008))
    && leb 16 (r.numerator / 1008)
    && leb (r.numerator / 1008) 129

abbrev pub is_oscillator_rate : ℕ → Bool
is_oscillator_rate p =
    eqb p (oscillator_rate 0) || eqb p (oscillator_rate 1) || eqb p (oscillator_rate 2) || eqb p (oscillator_rate 3)

-- an oscillator's rate over 1 to 8
abbrev pub by_oscillator : Rate → Bool
by_oscillator r = is_oscillator_rate r.numerator && leb 1 r.denominator && leb r.denominator 8

unfoldable pub is_lcd : Rate → Bool
is_lcd r = by_rows r || by_oscillator r
