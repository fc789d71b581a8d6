-- Times, rates and clocks as words.
use Rattle.std.specs.Prelude.{ℕ, List, [], ◌∷◌, get_or, Option}
use Rattle.ffi.specs.Words.{optional_two}
use Rattle.clock.specs.declared.time.Time.{Time}
use Rattle.clock.specs.declared.rate.Rate.{Rate}
use Rattle.clock.specs.declared.edges.Clock.{Clock}

abbrev pub time : (seconds fraction : ℕ) → Time
time s f = record { seconds = s; fraction = f }

abbrev pub rate : (p q : ℕ) → Rate
rate p q = record { numerator = p; denominator = q }

abbrev pub time_words : Time → List ℕ
time_words t = t.seconds ∷ t.fraction ∷ []

-- the end of a wait: whether there is one, and its time
abbrev pub deadline_words : Option Time → List ℕ
deadline_words = optional_two time_words

-- the clock of eight words
abbrev pub clock_of : List ℕ → Clock
clock_of w = record {
  at = time (get_or w 0 0) (get_or w 1 0);
  whole = record { high = get_or w 2 0; low = get_or w 3 0 };
  remainder = get_or w 4 0;
  denominator = get_or w 5 0;
  fraction = get_or w 6 0;
  ordinal = get_or w 7 0;
}

abbrev pub clock_words : Clock → List ℕ
clock_words c =
    c.at.seconds
    ∷ c.at.fraction
    ∷ c.whole.high
    ∷ c.whole.low
    ∷ c.remainder
    ∷ c.denominator
    ∷ c.fraction
    ∷ c.ordinal
    ∷ []

-- the answer of `passed_to`: how many edges, and the words of the clock
abbrev pub passed_count : ℕ × Clock → ℕ
passed_count p = p.0

abbrev pub passed_words : ℕ × Clock → List ℕ
passed_words p = clock_words p.1
