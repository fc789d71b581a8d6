-- The fast path of a byte: counting with one check of the clock, by one piece with every setting in force, and what the rule leaves of the
-- byte.
use Rattle.std.proofs.Common.{◌≡◌, ℕ, zero, suc, ◌+◌, ◌%◌, ◌^◌, ◌≤◌, min, Bool, true, false, cond, not, ◌&&◌, ◌||◌, List, sym, refl, ap, ◌∙◌, arith, le-ltb, lt-ltb}
use mathlib.Core.Bool.{false≢true}
use Rattle.std.specs.Prelude.{Option, Some, None, Result, Ok, Err}
use Rattle.checks.specs.Checks.{row, unless_refused}
use Rattle.checks.proofs.Chains.{never, row_passed}
use Rattle.checks.proofs.Results.{refused_at_err}
use Rattle.checks.proofs.Tests.{both}
use Rattle.clock.specs.declared.time.Time.{Time}
use Rattle.clock.specs.declared.check.Refusal.{Refusal}
use Rattle.clock.specs.declared.edges.Clock.{Clock}
use Rattle.clock.specs.declared.edges.Passed.{Passed}
use Rattle.clock.specs.Check.{valid_clock, check_clock}
use Rattle.clock.specs.Edges.{answered_pass, moved_by, edges_to, pass_edges}
use Rattle.clock.specs.Time.{in_range}
use Rattle.clock.proofs.Rates.{same_refl}
use Rattle.scan.specs.declared.check.Refusal as scans
use Rattle.scan.specs.declared.settings.Settings.{Settings}
use Rattle.scan.specs.declared.state.Scan.{Scan}
use Rattle.scan.specs.declared.run.Running.{Running}
use Rattle.scan.specs.Check.{number, refused, memory_row, valid_settings, valid_scan, valid_running, check_scan, memory_ok, in_order, check_lent}
use Rattle.scan.specs.Count.{due, count_to, piece, rate_same, row_same, frame_same}
use Rattle.scan.specs.Latch.{latched_row, affects, latch_retained, retained}
use Rattle.scan.specs.State.{rows, with_latch}
use Rattle.scan.specs.Run.{updated, byte_scan}
use Rattle.scan.specs.Closed.{closed, ticked_by, ended_rows, ended_frames}
use Rattle.scan.specs.Stretch.{limit_in, edges_in}
use Rattle.scan.specs.Byte.{stays_shown, settled}
use Rattle.scan.specs.Fast.{checks_pass, one_count, counted_fast, is_fast, fast_byte, onward, rows_on, moved_on, in_force}
use Rattle.scan.proofs.Checks.{Valid, Lent, lent, passes as passes_if, valid_lcd, valid_scan_lem, valid_settings_lem, check_by}
use Rattle.scan.proofs.Drives.{counted_passes}
use Rattle.scan.proofs.Due.{due_stopped, counted_none}
use Rattle.scan.proofs.Leaves.{lasting, moved_lasts, retained_lasts}
use Rattle.scan.proofs.Pieces.{few, limit_all, within, all_ends, none_after, piece_whole, piece_counts, due_is, asked_refused, asked_running, asked_check, asked_count, asked_few, asked_moved}
use Rattle.scan.proofs.Quanta.{whole, ticking_in, latch_in, InForce, flat, rate_stays_lem}
use Rattle.scan.proofs.Steady.{settled_same}

-- ---- n quanta with every setting in force
module _ (x : Scan) (s : Settings) (v : Valid x) {c : Clock} (running : x.ticking.clock ≡ Some c) where
  ticks_on : (n : ℕ) → ticked_by n (Some c) x.ticking.rate x.ticking.rate ≡ Some (moved_by c x.ticking.rate n)
  unfolding ticked_by
  ticks_on n = simp (same_refl x.ticking.rate)

  ticking_on : (n : ℕ) → (n ≡ 0 → ⊥) → InForce x s n → ticking_in x s n ≡ record { clock = Some (moved_by c x.ticking.rate n); rate = x.ticking.rate }
  unfolding ticking_in
  ticking_on zero z ok = absurd (z refl)
  ticking_on (suc n) z ok =
      let same = rate_stays_lem x s v (suc n) ok in
      (λ j. record { clock = ticked_by (suc n) (running j) x.ticking.rate (same j); rate = same j })
      ∙ ap (λ (k : Option Clock). record { clock = k; rate = x.ticking.rate }) (ticks_on (suc n))

  latch_on : (n : ℕ) → (n ≡ 0 → ⊥) → latch_in x n ≡ false
  unfolding latch_in
  latch_on zero z = absurd (z refl)
  latch_on (suc n) z = refl

  moved_whole : (n : ℕ) → (n ≡ 0 → ⊥) → InForce x s n → whole x s n ≡ moved_on x (moved_by c x.ticking.rate n) n
  unfolding whole closed moved_on rows_on
  moved_whole n z ok =
      let t = (x.step + n) % x.pwm in
      let r = (x.row + ended_rows x n) % rows x in
      flat x s v (ticking_in x s n) (latch_in x n) t r (ended_rows x n) (ended_frames x n) ok.row_ok ok.frame_ok
      ∙ (λ j. onward x (ticking_on n z ok j) (latch_on n z j) t r (ended_rows x n) (ended_frames x n))

-- ---- a stopped clock
module _ (x : Scan) (s : Settings) (now : Time) (stopped : x.ticking.clock ≡ None) where
  pub fast_stopped : Some x ≡ counted_fast x s now
  unfolding counted_fast one_count valid_running
  fast_stopped =
      let d : due x now ≡ false = sym (due_stopped x now stopped) in
      simp (stopped, d) (ap Some (counted_none x s now d))

-- ---- a running one, by its answer to `passed_to`
module _ (x : Scan) (s : Settings) (now : Time) (pre : (in_range now ≡ true) × ((valid_settings s ≡ true) × (valid_scan x ≡ true))) {c : Clock} (running : x.ticking.clock ≡ Some c) (p : Result Passed Refusal) (answer : answered_pass p ≡ pass_edges c x.ticking.rate now 18446744073709551615) where
  abbrev all : ℕ
  all = 18446744073709551615

  pub fast_refused : {why : Refusal} → p ≡ Err why → None ≡ counted_fast x s now
  unfolding counted_fast one_count
  fast_refused h = simp (asked_refused x now pre.0 pre.1.1 running all p answer h)

  module _ {q : Passed} (given : p ≡ Ok q) where
    clock_passes : valid_running x.ticking.clock x.ticking.rate ≡ true
    clock_passes = asked_running x now pre.0 pre.1.1 running all p answer given

    pub fast_check : check_scan x ≡ None
    fast_check = asked_check x now pre.0 pre.1.1 running all p answer given

    abbrev v : Valid x
    v = valid_scan_lem x fast_check

    count : q.count ≡ edges_in x.ticking.clock x.ticking.rate now
    count = omega (arith, asked_count x now pre.0 pre.1.1 running all p answer given, few x s v now pre.0)

    pub fast_few : q.count ≤ 2 ^ 50
    fast_few = asked_few x now pre.0 pre.1.1 running all p answer given

    pub fast_none : q.count ≡ 0 → Some x ≡ counted_fast x s now
    unfolding counted_fast one_count
    fast_none z =
        let d : due x now ≡ false = due_is x s v now ∙ le-ltb 0 (edges_in x.ticking.clock x.ticking.rate now) (omega (arith, count)) in
        simp (clock_passes, d) (ap Some (counted_none x s now d))

    module _ (z : q.count ≡ 0 → ⊥) where
      is_due : due x now ≡ true
      is_due = due_is x s v now ∙ lt-ltb 0 (edges_in x.ticking.clock x.ticking.rate now) (omega (arith, count, z))

      pub fast_other : in_force x s ≡ false → None ≡ counted_fast x s now
      unfolding counted_fast one_count
      fast_other h = simp (clock_passes, is_due, h)

      module _ (h : in_force x s ≡ true) where
        same_rate_lem : rate_same x s ≡ true
        same_rate_lem = (both (rate_same x s) (row_same x s) (both (rate_same x s && row_same x s) (frame_same x s) h).0).0

        same_row : row_same x s ≡ true
        same_row = (both (rate_same x s) (row_same x s) (both (rate_same x s && row_same x s) (frame_same x s) h).0).1

        same_frame_lem : frame_same x s ≡ true
        same_frame_lem = (both (rate_same x s && row_same x s) (frame_same x s) h).1

        limit : limit_in x s ≡ 18446744073709551615
        limit = limit_all x s 18446744073709551615 same_rate_lem same_row same_frame_lem

        -- one piece counts all
        one_piece : count_to x s now ≡ piece x s now
        one_piece =
            sym (piece_counts s (valid_settings_lem s pre.1.0) now pre.0 x v)
            ∙ sym (counted_none (piece x s now) s now (none_after s now pre.0 x v (all_ends s now pre.0 x v same_rate_lem same_row same_frame_lem)))

        whole_count : min (edges_in x.ticking.clock x.ticking.rate now) (limit_in x s) ≡ q.count
        whole_count = omega (arith, limit, count, fast_few)

        counted : count_to x s now ≡ moved_on x q.clock q.count
        counted =
            one_piece
            ∙ piece_whole x s v now pre.0
            ∙ ap (whole x s) whole_count
            ∙ moved_whole x s v running q.count z (within x s v 18446744073709551615 q.count (omega (arith, limit, fast_few)))
            ∙ ap (λ (d : Clock). moved_on x d q.count) (sym (asked_moved x now pre.0 pre.1.1 running all p answer given))

        pub fast_moved : {y : Scan} → y ≡ moved_on x q.clock q.count → Some y ≡ counted_fast x s now
        unfolding counted_fast one_count
        fast_moved e = simp (clock_passes, is_due, h) (ap Some (e ∙ sym counted))

-- ---- the byte
pub shown_stays : (x : Scan) (s : Settings) (page : Option ℕ) (ram icons : List ℕ) → stays_shown x page ≡ true → x ≡ retained x s page ram icons
unfolding retained
shown_stays x s page ram icons h = rw h

record Checked (x : Scan) (s : Settings) (now : Time) (ram icons : List ℕ) : Type 0 where
  memory : memory_ok ram icons ≡ true
  in_range_lem : in_range now ≡ true
  settings_ok_lem : valid_settings s ≡ true
  scan_ok : valid_scan x ≡ true

checked : (x : Scan) (s : Settings) (now : Time) (ram icons : List ℕ) → checks_pass x s now ram icons ≡ true → Checked x s now ram icons
unfolding checks_pass
checked x s now ram icons h =
    let a = both (memory_ok ram icons && in_range now && valid_settings s) (valid_scan x) h in
    let b = both (memory_ok ram icons && in_range now) (valid_settings s) a.0 in
    let c = both (memory_ok ram icons) (in_range now) b.0 in
    record { memory = c.0; in_range_lem = c.1; settings_ok_lem = b.1; scan_ok = a.1 }

module _ (x : Scan) (s : Settings) (now : Time) (ram icons : List ℕ) (h : checks_pass x s now ram icons ≡ true) where
  pub fast_count_pre : (in_range now ≡ true) × ((valid_settings s ≡ true) × (valid_scan x ≡ true))
  fast_count_pre = let k = checked x s now ram icons h in (k.in_range_lem, (k.settings_ok_lem, k.scan_ok))

  pub fast_lengths : Lent ram icons
  fast_lengths = lent ram icons (checked x s now ram icons h).memory

settled_retained : (x : Scan) (s : Settings) (page : Option ℕ) (running : Running) (ram icons : List ℕ) → settled (retained x s page ram icons) s running ≡ settled x s running
unfolding retained latch_retained with_latch settled
settled_retained x s page running ram icons = go (x.latch.latched || not (affects page (latched_row x))) running
  where
    go : (t : Bool) (running : Running) → settled (cond t x (latch_retained x s ram icons)) s running ≡ settled x s running
    go true running = refl
    go false Running.Begins = refl
    go false Running.Continues = refl
    go false Running.Stands = refl

module _ (x : Scan) (s : Settings) (now : Time) (running : Running) (ram icons : List ℕ) where
  -- what the count left says
  module _ {q : Option Scan} (e : q ≡ counted_fast x s now) where
    not_counted : q ≡ None → one_count x s now ≡ false
    unfolding counted_fast
    not_counted z = go (one_count x s now) (sym z ∙ e)
      where
        go : (t : Bool) → None ≡ cond t (Some (count_to x s now)) None → t ≡ false
        go true h = cc
        go false h = refl

    is_counted : {y : Scan} → q ≡ Some y → (one_count x s now ≡ true) × (y ≡ count_to x s now)
    unfolding counted_fast
    is_counted {y} z = go (one_count x s now) (sym z ∙ e)
      where
        go : (t : Bool) → Some y ≡ cond t (Some (count_to x s now)) None → (t ≡ true) × (y ≡ count_to x s now)
        go true h = (refl, cc)
        go false h = cc

  pub fast_unchecked : (page : Option ℕ) → checks_pass x s now ram icons ≡ false → None ≡ fast_byte x s now page running ram icons
  unfolding fast_byte is_fast
  fast_unchecked page h = rw h

  module _ (h : checks_pass x s now ram icons ≡ true) {q : Option Scan} (e : q ≡ counted_fast x s now) where
    pub fast_uncounted : (page : Option ℕ) → q ≡ None → None ≡ fast_byte x s now page running ram icons
    unfolding fast_byte is_fast
    fast_uncounted page z = rw (h, not_counted e z)

    pub fast_unsettled : (page : Option ℕ) {y : Scan} → q ≡ Some y → settled y s running ≡ false → None ≡ fast_byte x s now page running ram icons
    unfolding fast_byte is_fast
    fast_unsettled page z u = let k = is_counted e z in rw (h, k.0, ap (λ (y : Scan). settled y s running) (sym k.1) ∙ u)

  module _ (u : is_fast x s now running ram icons ≡ true) where
    parts : (checks_pass x s now ram icons ≡ true) × (one_count x s now && settled (count_to x s now) s running ≡ true)
    unfolding is_fast
    parts = both (checks_pass x s now ram icons) (one_count x s now && settled (count_to x s now) s running) u

    passes : Checked x s now ram icons
    passes = checked x s now ram icons parts.0

    then : (one_count x s now ≡ true) × (settled (count_to x s now) s running ≡ true)
    then = both (one_count x s now) (settled (count_to x s now) s running) parts.1

    fast_check_scan : check_scan x ≡ None
    unfolding one_count
    fast_check_scan = check_by x passes.scan_ok (both (valid_running x.ticking.clock x.ticking.rate) (not (due x now) || in_force x s) then.0).0

    fast_lent : check_lent x (valid_settings s && valid_settings s) now ram icons ≡ None
    unfolding check_lent in_order
    fast_lent = let k = passes in simp (k.memory, k.in_range_lem, k.settings_ok_lem, fast_check_scan)

    -- the rule turns no byte of the fast path down, and leaves the counted scan with its latch retained
    pub fast_passes : (page : Option ℕ) → (byte_scan x s s now page running ram icons).0 ≡ None
    unfolding byte_scan
    fast_passes page = fast_lent

    pub fast_scan_after : (page : Option ℕ) → (byte_scan x s s now page running ram icons).1 ≡ retained (count_to x s now) s page ram icons
    unfolding byte_scan
    fast_scan_after page =
        ap (λ (k : Option ℕ). unless_refused k (updated (retained (count_to x s now) s page ram icons) s now running ram icons) x) fast_lent
        ∙ settled_same (retained (count_to x s now) s page ram icons) s now running ram icons (settled_retained (count_to x s now) s page running ram icons ∙ then.1)

  module _ (h : checks_pass x s now ram icons ≡ true) {q : Option Scan} (e : q ≡ counted_fast x s now) {y : Scan} (z : q ≡ Some y) (u : settled y s running ≡ true) where
    fast_scan : y ≡ count_to x s now
    fast_scan = (is_counted e z).1

    is_fast_lem : is_fast x s now running ram icons ≡ true
    unfolding is_fast
    is_fast_lem = rw (h, (is_counted e z).0, ap (λ (y : Scan). settled y s running) (sym fast_scan) ∙ u)

    -- the scan counted is that of a scan which passes
    pub fast_passed : check_scan y ≡ None
    fast_passed =
        let k = checked x s now ram icons h in
        ap check_scan fast_scan ∙ counted_passes x s now k.in_range_lem k.settings_ok_lem (fast_check_scan is_fast_lem)

    pub fast_done : (page : Option ℕ) {w : Scan} → w ≡ retained y s page ram icons → Some w ≡ fast_byte x s now page running ram icons
    unfolding fast_byte
    fast_done page ew =
        rw is_fast_lem
        (ap Some (ew ∙ ap (λ (x : Scan). retained x s page ram icons) fast_scan ∙ sym (fast_scan_after is_fast_lem page)))

-- ---- what it leaves as it is
module _ (x : Scan) (s : Settings) (now : Time) (pre : (in_range now ≡ true) × ((valid_settings s ≡ true) × (valid_scan x ≡ true))) {c : Clock} (running : x.ticking.clock ≡ Some c) (clock_ok : valid_clock c x.ticking.rate ≡ true) (h : in_force x s ≡ true) (is_due : due x now ≡ true) where
  abbrev edges : ℕ
  edges = min (edges_to c x.ticking.rate now) 18446744073709551615

  passing : answered_pass (Ok (record { count = edges; clock = moved_by c x.ticking.rate edges })) ≡ pass_edges c x.ticking.rate now 18446744073709551615
  unfolding pass_edges check_clock
  passing = rw (pre.0, valid_lcd x pre.1.1, clock_ok)

  some_edge : edges ≡ 0 → ⊥
  some_edge e =
      let none_due : due x now ≡ false = due_is x s (v x s now pre running _ passing refl) now ∙ le-ltb 0 (edges_in x.ticking.clock x.ticking.rate now) (omega (arith, count x s now pre running _ passing refl, e)) in
      false≢true (sym none_due ∙ is_due)

  count_lasts : lasting (count_to x s now) ≡ lasting x
  count_lasts = ap lasting (counted x s now pre running _ passing refl some_edge h) ∙ moved_lasts x edges running

module _ (x : Scan) (s : Settings) (now : Time) (running : Running) (ram icons : List ℕ) (u : is_fast x s now running ram icons ≡ true) where
  counted_lasts : lasting (count_to x s now) ≡ lasting x
  unfolding one_count valid_running
  counted_lasts =
      let k = passes x s now running ram icons u in
      let one = both (valid_running x.ticking.clock x.ticking.rate) (not (due x now) || in_force x s) (then x s now running ram icons u).0 in
      go (due x now) refl x.ticking.clock refl one.0 one.1
    where
      go : (d : Bool) → due x now ≡ d → (clock : Option Clock) → x.ticking.clock ≡ clock → valid_running clock x.ticking.rate ≡ true → not d || in_force x s ≡ true → lasting (count_to x s now) ≡ lasting x
      go false d clock is ok h = ap lasting (sym (counted_none x s now d))
      go true d None is ok h = absurd (false≢true (due_stopped x now is ∙ d))
      go true d (Some c) is ok h =
          let k = passes x s now running ram icons u in
          count_lasts x s now (k.in_range_lem, (k.settings_ok_lem, k.scan_ok)) is ok h d

  pub fast_lasts : (page : Option ℕ) → lasting (byte_scan x s s now page running ram icons).1 ≡ lasting x
  fast_lasts page = ap lasting (fast_scan_after x s now running ram icons u page) ∙ retained_lasts (count_to x s now) s page ram icons ∙ counted_lasts

-- its checks, as the code asks them: the memory by itself, then the others
row_fails : (n : ℕ) (ok : Bool) {m : ℕ} → row n ok ≡ Some m → ok ≡ false
row_fails n true h = absurd (never (sym h))
row_fails n false h = refl

module _ (x : Scan) (s : Settings) (now : Time) (ram icons : List ℕ) {A : Type 0} {r : Result A scans.Refusal} (e : refused r ≡ memory_row ram icons) where
  pub unlent : {why : scans.Refusal} → r ≡ Err why → checks_pass x s now ram icons ≡ false
  unfolding checks_pass
  unlent h = rw (row_fails 2 (memory_ok ram icons) (refused_at_err number r e h))

  pub others_pass : {a : A} → r ≡ Ok a → {rest : Bool} → rest ≡ in_range now && valid_settings s && valid_scan x → rest ≡ checks_pass x s now ram icons
  unfolding checks_pass
  others_pass h q = q ∙ rw (row_passed 2 (memory_ok ram icons) (passes_if e h))

pub not_shown : (x : Scan) (s : Settings) (page : Option ℕ) (ram icons : List ℕ) → stays_shown x page ≡ false → latch_retained x s ram icons ≡ retained x s page ram icons
unfolding retained
not_shown x s page ram icons h = rw h
