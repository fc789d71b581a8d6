-- The tests that src/fast_words.rt makes of a block before the fast path of a byte, and the words that it then puts there. Nothing
-- here is a rule; proofs/Moved.antt shows that the block then has the words of the state that the byte leaves.
use Rattle.std.specs.Prelude.{ℕ, Bool, true, cond, not, ◌&&◌, ◌||◌, List, eqb, get_or, set, Option, Some, None}
use mir.Val.{bool_byte}
use Rattle.scan.specs.declared.state.Scan.{Scan}
use Rattle.clock.specs.declared.edges.Clock.{Clock}
use Rattle.controller.specs.declared.state.Address.{Address}
use Rattle.controller.specs.declared.fast.FastStep.{FastStep}

-- a number that is there, or is 0
abbrev pub there_or_zero : (there n : ℕ) → Bool
there_or_zero there n = not (eqb there 0) || eqb n 0

-- a wait that is over has words of 0, and so have a saved column and an awaited command that are none
abbrev pub rest_zero : List ℕ → Bool
rest_zero w =
    eqb (get_or w 63 0) 0
    && eqb (get_or w 64 0) 0
    && there_or_zero (get_or w 67 0) (get_or w 68 0)
    && there_or_zero (get_or w 73 0) (get_or w 74 0)

-- eight words are 0
abbrev pub eight_zero : List ℕ → Bool
eight_zero w =
    eqb (get_or w 1 0) 0
    && eqb (get_or w 2 0) 0
    && eqb (get_or w 3 0) 0
    && eqb (get_or w 4 0) 0
    && eqb (get_or w 5 0) 0
    && eqb (get_or w 6 0) 0
    && eqb (get_or w 7 0) 0
    && eqb (get_or w 8 0) 0

-- a clock that stands still has words of 0
unfoldable pub clock_zero : List ℕ → Bool
clock_zero w = cond (eqb (get_or w 0 0) 0) (eight_zero w) true

-- a clock that runs moves its last edge, its fraction and its ordinal
unfoldable pub clock_put : Option Clock → List ℕ → List ℕ
clock_put (Some c) w = set (set (set (set w 1 c.at.seconds) 2 c.at.fraction) 7 c.fraction) 8 c.ordinal
clock_put None w = w

-- latch and counters
unfoldable pub latch_put : Scan → List ℕ → List ℕ
latch_put x w = set (set (set w 11 (get_or x.latch.segments 0 0)) 12 (get_or x.latch.segments 1 0)) 13 (bool_byte x.latch.latched)

unfoldable pub counters_put : Scan → List ℕ → List ℕ
counters_put x w =
    set (set (set (set (set w 21 x.row) 22 x.step) 23 x.frc) 25 x.inversion.count) 26 (bool_byte x.inversion.inverted)

-- page and column, and no bit under way
unfoldable pub line_put : Address → List ℕ → List ℕ
line_put a w = set (set (set (set w 65 a.page) 66 a.column_byte) 71 0) 72 0

unfoldable pub fast_put : FastStep → List ℕ → List ℕ
fast_put s w = line_put s.address (counters_put s.scan (latch_put s.scan (clock_put s.scan.ticking.clock w)))
