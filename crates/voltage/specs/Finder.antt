-- Document 01, 'Setting finder (added)', and 'The tightness of contracts', a: the pair alone is left open.
use Rattle.std.specs.Prelude.{ℕ, ◌<◌, Bool, true, false, ◌&&◌, ◌≡◌, leb, ℤ, Option, Some, None, Result, Ok, Err}
use Rattle.voltage.specs.declared.Settings.{Settings}
use Rattle.voltage.specs.declared.check.Refusal.{Refusal}
use Rattle.voltage.specs.declared.finder.Pair.{Pair}
use Rattle.voltage.specs.Check.{number, valid_settings}
use Rattle.voltage.specs.Voltage.{target_at}

-- both ends belong to the band
abbrev pub in_band : ℕ → ℕ → ℕ → Bool
in_band low high v = leb low v && leb v high

-- one of the 512 pairs, with its target in the band
pub record PairFits (s : Settings) (temperature : ℤ) (low high : ℕ) (regulator contrast : ℕ) : Type 0 where
  pub regulator_below : regulator < 8
  pub contrast_below : contrast < 64
  pub in_band_lem : in_band low high (target_at s temperature regulator contrast) ≡ true

-- the meaning of an answer: that a pair fits, or that none of the 512 does, or the refusal of the settings
abbrev pub Says : Settings → ℤ → ℕ → ℕ → Result (Option Pair) Refusal → Type 0
Says s temperature low high (Ok (Some pair)) =
    (valid_settings s ≡ true) × PairFits s temperature low high pair.regulator pair.contrast
Says s temperature low high (Ok None) =
    (valid_settings s ≡ true) × ((r c : ℕ) → PairFits s temperature low high r c → ⊥)
Says s temperature low high (Err why) = (valid_settings s ≡ false) × (number why ≡ 3)
