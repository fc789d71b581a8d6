-- A stretch of quanta at one rate, as src/count.rt counts it: the clock is asked once, and the piece rule goes by the counters
-- alone. Stretch after stretch is the count, and the uses of the piece rule add up.
use Rattle.std.proofs.Common.{◌≡◌, ℕ, zero, suc, ◌+◌, ◌-◌, ◌^◌, ◌<◌, ◌≤◌, min, Bool, true, false, cond, ltb, ◌⊎◌, sym, refl, ap, ◌∙◌, inl, inr, ⊎_elim, zero-add, arith, ltb-false, le-ltb, lt-ltb}
use mathlib.Core.Bool.{false≢true}
use Rattle.std.specs.Prelude.{Option, Some, None, Result, Ok, Err}
use Rattle.checks.proofs.Chains.{row_passed}
use Rattle.checks.proofs.Tests.{both}
use Rattle.clock.specs.declared.time.Time.{Time}
use Rattle.clock.specs.declared.rate.Rate.{Rate}
use Rattle.clock.specs.declared.edges.Clock.{Clock}
use Rattle.clock.specs.declared.edges.Passed.{Passed}
use Rattle.clock.specs.declared.check.Refusal.{Refusal}
use Rattle.clock.specs.Edges.{answered_pass, started, moved_by, pass_edges}
use Rattle.clock.specs.Rate.{is_lcd, same_rate}
use Rattle.clock.specs.Time.{raw, in_range}
use Rattle.clock.proofs.Rates.{same_rate_lem, same_refl}
use Rattle.scan.specs.declared.settings.Settings.{Settings}
use Rattle.scan.specs.declared.state.Scan.{Scan}
use Rattle.scan.specs.declared.state.Ticking.{Ticking}
use Rattle.scan.specs.declared.stretch.Run.{Run}
use Rattle.scan.specs.Settings.{frame_of, rows_in, rate_of}
use Rattle.scan.specs.State.{rows, with_ticking}
use Rattle.scan.specs.Check.{number, by_clock, valid_settings, settings_row, valid_scan, valid_running, check_scan}
use Rattle.scan.specs.Quantum.{frame_ends, frame_after, ticked_to, quantum}
use Rattle.scan.specs.Count.{due, count_to, rate_same, row_same, frame_same, limit_with, pieces}
use Rattle.scan.specs.Closed.{quanta, ticked_by, closed}
use Rattle.scan.specs.Stretch.{limit_in, edges_in, rate_stays, stretch_limit, stretch, ticked_on, InPieces, count_clock}
use Rattle.scan.proofs.Checks.{Valid, ValidSettings, valid_scan_lem, valid_check, valid_settings_lem, valid_of, check_by, by_clock_number}
use Rattle.scan.proofs.Counting.{count_quantum}
use Rattle.scan.proofs.Due.{due_stopped, counted_none}
use Rattle.scan.proofs.ValidQuanta.{rate_lcd, counters_valid, quantum_valid}
use Rattle.scan.proofs.Pieces.{Steady, rate_settled, within, limit_pos, clock_next, due_at_lem, due_is, steady_in, few, piece_quanta, pieces_none, asked_refused, asked_number, asked_running, asked_check, asked_count, asked_moved, asked_few, asked_range}
use Rattle.scan.proofs.Quanta.{quanta_add, quantum_counters, counters_on, counters_closed}
use Rattle.scan.proofs.Stages.{at_most_four, pieces_next}

-- a rate that no row or frame end changes
module _ (x : Scan) (s : Settings) (stays : rate_stays x s ≡ true) where
  held : (rate_same x s ≡ true) × (same_rate x.ticking.rate (rate_of s (rows_in (frame_of s))) ≡ true)
  unfolding rate_stays
  held = both _ _ stays

  rate_after_lem : (n : ℕ) → rate_of s (rows (quanta n x s)) ≡ x.ticking.rate
  unfolding quanta quantum frame_after
  rate_after_lem zero = rate_settled x s held.0
  rate_after_lem (suc n) = go (frame_ends (quanta n x s)) (rate_after_lem n)
    where
      go : (t : Bool) → rate_of s (rows (quanta n x s)) ≡ x.ticking.rate → rate_of s (rows_in (cond t (frame_of s) (quanta n x s).frame)) ≡ x.ticking.rate
      go true e = sym (same_rate_lem _ _ held.1)
      go false e = e

  stays_steady : (n : ℕ) → (quanta n x s).ticking.rate ≡ x.ticking.rate
  unfolding quanta quantum ticked_to
  stays_steady zero = refl
  stays_steady (suc n) = rate_after_lem (suc n)

  stays_on : (n : ℕ) → rate_stays (quanta n x s) s ≡ true
  unfolding rate_stays rate_same
  stays_on n = simp (stays_steady n, rate_after_lem n, same_refl x.ticking.rate, held.1)

-- the quanta of a stretch are due, and what they come to
module _ (s : Settings) (vs : ValidSettings s) (now : Time) (i : in_range now ≡ true) (x : Scan) (v : Valid x) where
  steady_below : (n : ℕ) → n < stretch_limit x s → Steady x s n
  unfolding stretch_limit
  steady_below n h = go (rate_stays x s) refl h
    where
      go : (t : Bool) → rate_stays x s ≡ t → n < cond t 18446744073709551615 (limit_in x s) → Steady x s n
      go true e l m g = stays_steady x s e m
      go false e l m g = steady_in x s v now 18446744073709551615 n l m g

  due_before : (m : ℕ) → m < stretch x s now → due (quanta m x s) now ≡ true
  due_before m h = due_at_lem x s v now m (steady_below m (omega arith)) ∙ lt-ltb m (edges_in x.ticking.clock x.ticking.rate now) (omega arith)

  stretch_valid : (m : ℕ) → m ≤ stretch x s now → Valid (quanta m x s)
  unfolding quanta
  stretch_valid zero h = v
  stretch_valid (suc m) h = quantum_valid s vs now i (quanta m x s) (stretch_valid m (omega arith)) (due_before m (omega arith))

  stretch_counts : (m : ℕ) → m ≤ stretch x s now → count_to (quanta m x s) s now ≡ count_to x s now
  unfolding quanta
  stretch_counts zero h = refl
  stretch_counts (suc m) h =
      count_quantum s vs now i (quanta m x s) (stretch_valid m (omega arith)) (due_before m (omega arith)) ∙ stretch_counts m (omega arith)

  -- fewer than the limit are all that are due
  stretch_ends : stretch x s now < stretch_limit x s → due (quanta (stretch x s now) x s) now ≡ false
  stretch_ends h = due_at_lem x s v now (stretch x s now) (steady_below (stretch x s now) h) ∙ le-ltb (stretch x s now) (edges_in x.ticking.clock x.ticking.rate now) (omega arith)

  -- the clock and rate that src/count.rt joins to the counters
  joined : {c : Clock} → x.ticking.clock ≡ Some c → (n : ℕ) → (n ≡ 0 → ⊥) → n ≤ stretch_limit x s → with_ticking (quanta n x s) (ticked_on x s n (moved_by c x.ticking.rate n)) ≡ quanta n x s
  unfolding with_ticking ticked_by quanta quantum ticked_to
  joined running zero z h = absurd (z refl)
  joined running (suc n) z h =
      let clock = clock_next x s n (steady_below n (omega arith)) ∙ ap (λ (k : Option Clock). ticked_by (suc n) k x.ticking.rate (rate_of s (rows (quanta (suc n) x s)))) running in
      λ j. with_ticking (quanta (suc n) x s) (record { clock = sym clock j; rate = rate_of s (rows (quanta (suc n) x s)) })

  -- where the rate stays, the edges left after m quanta
  edges_left : rate_stays x s ≡ true → (m : ℕ) → m ≤ stretch x s now → edges_in (quanta m x s).ticking.clock (quanta m x s).ticking.rate now + m ≡ edges_in x.ticking.clock x.ticking.rate now
  edges_left st m h = go (edges_in (quanta m x s).ticking.clock (quanta m x s).ticking.rate now) (edges_in x.ticking.clock x.ticking.rate now) (omega arith) shifted
    where
      shifted : (k : ℕ) → ltb k (edges_in (quanta m x s).ticking.clock (quanta m x s).ticking.rate now) ≡ ltb (k + m) (edges_in x.ticking.clock x.ticking.rate now)
      shifted k =
          sym (due_at_lem (quanta m x s) s (stretch_valid m h) now k (λ j g. stays_steady (quanta m x s) s (stays_on x s st m) j))
          ∙ ap (λ (y : Scan). due y now) (quanta_add k m x s)
          ∙ due_at_lem x s v now (k + m) (λ j g. stays_steady x s st j)

      go : (a b : ℕ) → m ≤ b → ((k : ℕ) → ltb k a ≡ ltb (k + m) b) → a + m ≡ b
      go a b l e =
          let low = ltb-false (a + m) b (sym (e a) ∙ le-ltb a a (omega arith)) in
          let high = ltb-false (b - m) a (e (b - m) ∙ le-ltb (b - m + m) b (omega arith)) in
          omega arith

  -- a use of the piece rule within a stretch
  module _ (done left : ℕ) (sum : done + left ≡ stretch x s now) (some : 0 < left) (once : stretch x s now ≤ limit_in x s → done ≡ 0) where
    abbrev y : Scan
    y = quanta done x s

    edges_or : min (edges_in y.ticking.clock y.ticking.rate now) (limit_in y s) ≡ min left (limit_in y s)
    unfolding stretch_limit quanta
    edges_or = go (rate_stays x s) refl sum once
      where
        go : (t : Bool) → rate_stays x s ≡ t → done + left ≡ min (edges_in x.ticking.clock x.ticking.rate now) (cond t 18446744073709551615 (limit_in x s)) → (min (edges_in x.ticking.clock x.ticking.rate now) (cond t 18446744073709551615 (limit_in x s)) ≤ limit_in x s → done ≡ 0) → min (edges_in y.ticking.clock y.ticking.rate now) (limit_in y s) ≡ min left (limit_in y s)
        go true e p o = omega (arith, edges_left e done (omega (arith, sum)), few x s v now i)
        go false e p o =
            let z : done ≡ 0 = o (omega arith) in
            let same : y ≡ x = ap (λ (k : ℕ). quanta k x s) z in
            rw same (omega arith)

    next_use : (q : ℕ) → q ≡ min left (limit_in y s) → pieces y s now ≡ suc (pieces (quanta (q + done) x s) s now)
    next_use q e =
        let w = stretch_valid done (omega arith) in
        pieces_next s vs now i y w (due_before done (omega arith))
        ∙ ap (λ (z : Scan). suc (pieces z s now)) (piece_quanta y s w now i ∙ ap (λ (k : ℕ). quanta k y s) (edges_or ∙ sym e) ∙ quanta_add q done x s)

  -- the clock is asked for a quantum at least
  stretch_some : 0 < stretch_limit x s
  unfolding stretch_limit
  stretch_some = go (rate_stays x s)
    where
      go : (t : Bool) → 0 < cond t 18446744073709551615 (limit_in x s)
      go true = omega arith
      go false = limit_pos x s v 18446744073709551615 (omega arith)

-- with no edge due the piece rule is not used
none_used : (x : Scan) (s : Settings) (now : Time) → due x now ≡ false → pieces x s now ≡ 0
unfolding pieces
none_used x s now d = pieces_none (raw now + 4) x s now d

-- ---- `by_pieces`
-- after some of n quanta: `left` of them are left after `uses` uses of the piece rule, which came to the counters `from`
pub record Taken (x : Scan) (s : Settings) (n : ℕ) (from : Scan) (left uses : ℕ) : Type 0 where
  pub done : ℕ
  pub sum : done + left ≡ n
  pub from_is : from ≡ with_ticking (quanta done x s) x.ticking
  pub room : uses + left ≤ n
  pub some_uses : (left ≡ n) ⊎ (0 < uses)
  pub once : n ≤ limit_in x s → (done ≡ 0) ⊎ (left ≡ 0)
  pub counted : (now : Time) → in_range now ≡ true → stretch x s now ≡ n → uses + pieces (quanta done x s) s now ≡ pieces x s now

-- the limit reads the rate alone of clock and rate
limit_by_rate : (y : Scan) (s : Settings) (t : Ticking) → t.rate ≡ y.ticking.rate → limit_in (with_ticking y t) s ≡ limit_in y s
unfolding limit_with with_ticking rate_same row_same frame_same
limit_by_rate y s t e = simp e

module _ (x : Scan) (s : Settings) (n : ℕ) (pre : (check_scan x ≡ None) × ((valid_settings s ≡ true) × (n ≤ 2 ^ 50))) where
  abbrev v : Valid x
  v = valid_scan_lem x pre.0

  abbrev vs : ValidSettings s
  vs = valid_settings_lem s pre.1.0

  counted_valid : (m : ℕ) → Valid (with_ticking (quanta m x s) x.ticking)
  unfolding quanta with_ticking
  counted_valid zero = v
  counted_valid (suc m) =
      rw (← quantum_counters s (quanta m x s) x.ticking x.ticking)
      (counters_valid s vs (with_ticking (quanta m x s) x.ticking) (counted_valid m) x.ticking v.lcd v.clock_ok)

  pub taken_none : Taken x s n x n 0
  unfolding quanta with_ticking
  taken_none = record {
    done = 0;
    sum = omega arith;
    from_is = refl;
    room = omega arith;
    some_uses = inl refl;
    once = λ h. inl refl;
    counted = λ now i e. zero-add (pieces x s now);
  }

  module _ {from : Scan} {left uses : ℕ} (a : Taken x s n from left uses) where
    from_valid : Valid from
    from_valid = rw a.from_is (counted_valid a.done)

    pub taken_check : check_scan from ≡ None
    taken_check = valid_check from from_valid

    pub taken_all : left ≡ 0 → InPieces x s n x.ticking (record { scan = from; pieces = uses })
    taken_all z =
        let all : a.done ≡ n = omega (arith, a.sum) in
        record {
          counters = a.from_is ∙ ap (λ (m : ℕ). with_ticking (quanta m x s) x.ticking) all;
          some_uses = λ h. ⊎_elim (λ e. absurd (omega arith)) (λ l. l) a.some_uses;
          uses = λ now i e. ap (λ (m : ℕ). uses + pieces (quanta m x s) s now) (sym all) ∙ a.counted now i e;
        }

    module _ (more : left ≡ 0 → ⊥) {q : ℕ} (count : q ≡ min left (limit_in from s)) where
      pub taken_some : 0 < q
      taken_some = omega (arith, more, count, limit_pos from s from_valid 18446744073709551615 (omega arith))

      pub taken_few : q ≤ left
      taken_few = omega (arith, count)

      next_from : {y : Scan} → y ≡ closed from s from.ticking false q → y ≡ with_ticking (quanta (q + a.done) x s) x.ticking
      unfolding with_ticking
      next_from e =
          e
          ∙ counters_closed from s from_valid q taken_some (λ m h. within from s from_valid 18446744073709551615 m (omega (arith, count)))
          ∙ ap (λ (z : Scan). with_ticking (quanta q z s) z.ticking) a.from_is
          ∙ counters_on s q a.done x x.ticking

      next_counted : (now : Time) → in_range now ≡ true → stretch x s now ≡ n → uses + 1 + pieces (quanta (q + a.done) x s) s now ≡ pieces x s now
      next_counted now i e =
          let steady = steady_below s vs now i x v a.done (omega (arith, a.sum, more, e)) a.done (omega arith) in
          let limit = ap (λ (z : Scan). limit_in z s) a.from_is ∙ limit_by_rate (quanta a.done x s) s x.ticking (sym steady) in
          let first : stretch x s now ≤ limit_in x s → a.done ≡ 0 = λ h. ⊎_elim (λ z. z) (λ z. absurd (more z)) (a.once (omega (arith, e))) in
          omega (arith, a.counted now i e, next_use s vs now i x v a.done left (a.sum ∙ sym e) (omega (arith, more)) first q (count ∙ ap (min left) limit))

      next_once : n ≤ limit_in x s → (q + a.done ≡ 0) ⊎ (left - q ≡ 0)
      unfolding quanta with_ticking
      next_once h = ⊎_elim (λ z. inr (all z)) (λ z. absurd (more z)) (a.once h)
        where
          all : a.done ≡ 0 → left - q ≡ 0
          all z =
              let same : from ≡ x = a.from_is ∙ ap (λ (m : ℕ). with_ticking (quanta m x s) x.ticking) z in
              omega (arith, count, ap (λ (y : Scan). limit_in y s) same, a.sum)

      pub taken_next : {y : Scan} → y ≡ closed from s from.ticking false q → Taken x s n y (left - q) (uses + 1)
      taken_next e = record {
        done = q + a.done;
        sum = omega (arith, a.sum, taken_few);
        from_is = next_from e;
        room = omega (arith, a.room, taken_some, taken_few);
        some_uses = inr (omega arith);
        once = next_once;
        counted = next_counted;
      }

  -- the rate of the rows counted to
  pub counted_lcd : {y : Scan} (t : Ticking) → y ≡ with_ticking (quanta n x s) t → is_lcd (rate_of s (rows y)) ≡ true
  unfolding with_ticking
  counted_lcd t e = ap (λ (y : Scan). is_lcd (rate_of s (rows y))) e ∙ rate_lcd s vs (quanta n x s).frame (counted_valid n).frame

-- ---- `stretch`
-- the run with the clock and rate that follow
pub stretch_run : (x : Scan) (s : Settings) (n : ℕ) (m : Clock) {r : Run} → InPieces x s n x.ticking r → {new : Rate} → new ≡ rate_of s (rows r.scan) → {k : Option Clock} → k ≡ cond (same_rate x.ticking.rate new) (Some m) (Some (started m.at new)) → {y : Scan} → y ≡ with_ticking r.scan (record { clock = k; rate = new }) → InPieces x s n (ticked_on x s n m) (record { scan = y; pieces = r.pieces })
unfolding with_ticking
stretch_run x s n m {r} run {new} er {k} ek {y} ey = record {
  counters = ey ∙ (λ j. with_ticking (run.counters j) (record { clock = (ek ∙ ap (λ (q : Rate). cond (same_rate x.ticking.rate q) (Some m) (Some (started m.at q))) rate) j; rate = rate j }));
  some_uses = run.some_uses;
  uses = run.uses;
}
  where
    rate : new ≡ rate_of s (rows (quanta n x s))
    rate = er ∙ ap (λ (z : Scan). rate_of s (rows z)) run.counters

-- ---- `in_pieces`
-- stretches have come from the scan x to the scan `from`, by so many uses of the piece rule
pub record Left (x : Scan) (s : Settings) (now : Time) (from : Scan) (before : ℕ) : Type 0 where
  pub pre : (in_range now ≡ true) × ((valid_settings s ≡ true) × (valid_scan x ≡ true))
  pub valid : valid_scan from ≡ true
  pub refused : valid_running from.ticking.clock from.ticking.rate ≡ false → from ≡ x
  pub passed : valid_running from.ticking.clock from.ticking.rate ≡ true → check_scan x ≡ None
  pub counts : count_to from s now ≡ count_to x s now
  pub uses : before + pieces from s now ≡ pieces x s now

pub left_all : (x : Scan) (s : Settings) (now : Time) → (in_range now ≡ true) × ((valid_settings s ≡ true) × (valid_scan x ≡ true)) → Left x s now x 0
left_all x s now pre = record {
  pre = pre;
  valid = pre.1.1;
  refused = λ h. refl;
  passed = λ h. check_by x pre.1.1 h;
  counts = refl;
  uses = zero-add (pieces x s now);
}

-- with a clock that passes, the uses are few, and with no edge due all is counted
module _ {x : Scan} {s : Settings} {now : Time} {from : Scan} {before : ℕ} (a : Left x s now from before) (k : valid_running from.ticking.clock from.ticking.rate ≡ true) where
  uses_few : before + pieces from s now ≤ 4
  uses_few = omega (arith, a.uses, at_most_four s (valid_settings_lem s a.pre.1.0) now a.pre.0 x (valid_scan_lem x (a.passed k)))

  pub left_few : before < 256
  left_few = omega (arith, uses_few)

  counts_passed : count_clock x s now ≡ (None, (count_to x s now, pieces x s now))
  unfolding count_clock
  counts_passed = rw (valid_scan_lem x (a.passed k)).clock_ok

  left_none : due from now ≡ false → (None, (from, before)) ≡ count_clock x s now
  left_none d =
      let scan = counted_none from s now d ∙ a.counts in
      let uses : before ≡ pieces x s now = omega (arith, a.uses, none_used from s now d) in
      (λ j. (None, (scan j, uses j))) ∙ sym counts_passed

-- a turn of the loop
module _ {x : Scan} {s : Settings} {now : Time} {from : Scan} {before : ℕ} (a : Left x s now from before) where
  abbrev fit : ValidSettings s
  fit = valid_settings_lem s a.pre.1.0

  pub left_stopped : from.ticking.clock ≡ None → (before < 256) × ((None, (from, before)) ≡ count_clock x s now)
  unfolding valid_running
  left_stopped e =
      let k : valid_running from.ticking.clock from.ticking.rate ≡ true = rw e in
      (left_few a k, left_none a k (sym (due_stopped from now e)))

  -- by the clock's answer p with the limit l
  module _ {c : Clock} (running : from.ticking.clock ≡ Some c) {l : ℕ} (limit : l ≡ stretch_limit from s) (p : Result Passed Refusal) (answer : answered_pass p ≡ pass_edges c from.ticking.rate now l) where
    pub left_refused : {why : Refusal} → p ≡ Err why → (Some (number (by_clock why)), (x, 0)) ≡ count_clock x s now
    unfolding count_clock
    left_refused h =
        let k = asked_refused from now a.pre.0 a.valid running l p answer h in
        let given : valid_running x.ticking.clock x.ticking.rate ≡ false = ap (λ (y : Scan). valid_running y.ticking.clock y.ticking.rate) (sym (a.refused k)) ∙ k in
        let five = by_clock_number _ ∙ asked_number from now a.pre.0 a.valid running l p answer h in
        rw (five, given)

    module _ {q : Passed} (given : p ≡ Ok q) where
      pub left_passes : valid_running from.ticking.clock from.ticking.rate ≡ true
      left_passes = asked_running from now a.pre.0 a.valid running l p answer given

      check : check_scan from ≡ None
      check = asked_check from now a.pre.0 a.valid running l p answer given

      count : stretch from s now ≡ q.count
      count = sym (asked_count from now a.pre.0 a.valid running l p answer given ∙ ap (min (edges_in from.ticking.clock from.ticking.rate now)) limit)

      pub left_zero : q.count ≡ 0 → (None, (from, before)) ≡ count_clock x s now
      left_zero z = left_none a left_passes (due_is from s (valid_scan_lem from check) now ∙ le-ltb 0 (edges_in from.ticking.clock from.ticking.rate now) (none_due z))
        where
          none_due : q.count ≡ 0 → edges_in from.ticking.clock from.ticking.rate now ≤ 0
          none_due z = omega (arith, count, stretch_some s fit now a.pre.0 from (valid_scan_lem from check))

      module _ (z : q.count ≡ 0 → ⊥) where
        pub left_asked : (check_scan from ≡ None) × ((valid_settings s ≡ true) × ((q.count ≤ 2 ^ 50) × (in_range q.clock.at ≡ true)))
        left_asked = (check, (a.pre.1.0, (asked_few from now a.pre.0 a.valid running l p answer given, asked_range from now a.pre.0 a.valid running l p answer given z)))

        module _ {r : Run} (run : InPieces from s q.count (ticked_on from s q.count q.clock) r) where
          counted_is : r.scan ≡ quanta q.count from s
          counted_is =
              run.counters
              ∙ ap (λ (d : Clock). with_ticking (quanta q.count from s) (ticked_on from s q.count d)) (asked_moved from now a.pre.0 a.valid running l p answer given)
              ∙ joined s fit now a.pre.0 from (valid_scan_lem from check) running q.count z (omega (arith, count))

          counted_check : check_scan r.scan ≡ None
          counted_check = ap check_scan counted_is ∙ valid_check (quanta q.count from s) (stretch_valid s fit now a.pre.0 from (valid_scan_lem from check) q.count (omega (arith, count)))

          now_passes : valid_running r.scan.ticking.clock r.scan.ticking.rate ≡ true
          now_passes = (valid_scan_lem r.scan counted_check).clock_ok

          uses_on : r.pieces + pieces r.scan s now ≡ pieces from s now
          uses_on = ap (λ (y : Scan). r.pieces + pieces y s now) counted_is ∙ run.uses now a.pre.0 count

          pub left_next : Left x s now r.scan (before + r.pieces)
          left_next = record {
            pre = a.pre;
            valid = valid_of r.scan counted_check;
            refused = λ h. absurd (false≢true (sym h ∙ now_passes));
            passed = λ h. a.passed left_passes;
            counts = ap (λ (y : Scan). count_to y s now) counted_is ∙ stretch_counts s fit now a.pre.0 from (valid_scan_lem from check) q.count (omega (arith, count)) ∙ a.counts;
            uses = omega (arith, a.uses, uses_on);
          }

          -- the uses left get fewer
          pub left_less : pieces r.scan s now < pieces from s now
          left_less = omega (arith, uses_on, run.some_uses (omega (arith, z)))

          pub left_room : before + r.pieces ≤ 4
          left_room = omega (arith, uses_on, uses_few a left_passes)

          -- fewer edges than the limit: no more are due
          ended : q.count < l → due r.scan now ≡ false
          ended h =
              ap (λ (y : Scan). due y now) (counted_is ∙ ap (λ (k : ℕ). quanta k from s) (sym count))
              ∙ stretch_ends s fit now a.pre.0 from (valid_scan_lem from check) (omega (arith, count, limit))

          pub left_last : q.count < l → (None, (r.scan, before + r.pieces)) ≡ count_clock x s now
          left_last h = left_none left_next now_passes (ended h)

-- what passed its checks, by their rows of the table
pub checked : (x : Scan) (s : Settings) {n : ℕ} → check_scan x ≡ None → settings_row s ≡ None → n ≤ 2 ^ 50 → (check_scan x ≡ None) × ((valid_settings s ≡ true) × (n ≤ 2 ^ 50))
checked x s scan settings most = (scan, (row_passed 3 _ settings, most))
