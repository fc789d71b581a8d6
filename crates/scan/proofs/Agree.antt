-- Two scans that agree: counted to a moment and with their latches retained, they are equal. Counting, retaining the latch, stopping
-- and resuming, and bytes keep two scans agreeing, and scans that agree have the same drive. The claim over lists of calls (crate
-- strike) goes by this.
use Rattle.std.proofs.Common.{◌≡◌, ℕ, zero, suc, ◌+◌, ◌%◌, ◌≤◌, Bool, true, false, cond, ◌||◌, eqb, List, sym, refl, ap, ◌∙◌, le_refl}
use Rattle.std.specs.Prelude.{Option, Some, None}
use Rattle.clock.specs.declared.time.Time.{Time}
use Rattle.clock.specs.Time.{raw, in_range}
use Rattle.clock.specs.declared.edges.Clock.{Clock}
use Rattle.scan.specs.declared.settings.Settings.{Settings}
use Rattle.scan.specs.declared.state.Scan.{Scan}
use Rattle.scan.specs.declared.state.Latch.{Latch}
use Rattle.scan.specs.State.{with_ticking, with_inversion, with_latch}
use Rattle.scan.specs.Quantum.{row_ends, frame_ends, frame_after, quantum}
use Rattle.scan.specs.Count.{due, due_at, count_for, count_to}
use Rattle.scan.specs.Latch.{latched_row, present_latch, shown, affects, latch_retained, retained}
use Rattle.scan.specs.Run.{cleared, stopped, started_if, clocked, resumed}
use Rattle.scan.specs.Drive.{common_of, quanta_of}
use Rattle.scan.proofs.Checks.{Valid, ValidSettings}
use Rattle.scan.proofs.Counting.{count_count}
use Rattle.scan.proofs.Latches.{latch_alike, unaffected}
use Rattle.scan.specs.Byte.{has_clock}
use Rattle.scan.proofs.Runs.{stopped_same, stopped_stays, stopped_shown, cleared_shown, clocked_shown}
use Rattle.scan.proofs.Drives.{SameDrive}

-- the scan with its latch retained: what is shown now is shown until the next quantum, whatever memory and settings become
unfoldable pub as_shown : Scan → Settings → (ram icons : List ℕ) → Scan
as_shown x s ram icons = with_latch x (record { segments = shown x s ram icons; latched = true })

-- counted to a moment and with their latches retained, two scans are equal
abbrev pub Agree : (x y : Scan) → Settings → Time → (ram icons : List ℕ) → Type 0
Agree x y s now ram icons = as_shown (count_to x s now) s ram icons ≡ as_shown (count_to y s now) s ram icons

-- a scan with other segments, and no latch retained
unfoldable unlatched : Scan → List ℕ → Scan
unlatched x segments = with_latch x (record { segments = segments; latched = false })

module _ (s : Settings) (ram icons : List ℕ) where
  present_same : (x : Scan) (l : Latch) → present_latch (with_latch x l) s ram icons ≡ present_latch x s ram icons
  unfolding with_latch
  present_same x l = latch_alike {x = with_latch x l} {y = x} s ram icons (record { step = refl; row = refl; frame = refl; frc = refl; pwm = refl })

  unlatched_as_shown : (x : Scan) (a : List ℕ) → x.latch.latched ≡ false → as_shown (unlatched x a) s ram icons ≡ as_shown x s ram icons
  unfolding as_shown unlatched shown with_latch
  unlatched_as_shown x a l =
      ap (λ (segments : List ℕ). with_latch x (record { segments = segments; latched = true })) (present_same x (record { segments = a; latched = false }) ∙ sym (rw l))

  -- where no latch is retained, the segments that a scan still has in its latch have no part in what is shown of it later
  stale : (k : ℕ) (x : Scan) (now : Time) (a : List ℕ) → x.latch.latched ≡ false → as_shown (count_for k (unlatched x a) s now) s ram icons ≡ as_shown (count_for k x s now) s ram icons
  unfolding count_for unlatched with_latch due quantum row_ends frame_ends frame_after
  stale zero x now a l = unlatched_as_shown x a l
  stale (suc k) x now a l = go (due_at x.ticking.clock x.ticking.rate now) (stale k (quantum x s) now a refl)
    where
      go : (t : Bool)
          → as_shown (count_for k (unlatched (quantum x s) a) s now) s ram icons ≡ as_shown (count_for k (quantum x s) s now) s ram icons
          → as_shown (cond t (count_for k (quantum (unlatched x a) s) s now) (unlatched x a)) s ram icons ≡ as_shown (cond t (count_for k (quantum x s) s now) x) s ram icons
      go true on = on
      go false on = unlatched_as_shown x a l

  as_shown_for : (k : ℕ) (x : Scan) (now : Time) → as_shown (count_for k (as_shown x s ram icons) s now) s ram icons ≡ as_shown (count_for k x s now) s ram icons
  unfolding count_for as_shown unlatched with_latch due quantum row_ends frame_ends frame_after shown
  as_shown_for zero x now = refl
  as_shown_for (suc k) x now = go (due_at x.ticking.clock x.ticking.rate now)
    where
      go : (t : Bool)
          → as_shown (cond t (count_for k (quantum (as_shown x s ram icons) s) s now) (as_shown x s ram icons)) s ram icons ≡ as_shown (cond t (count_for k (quantum x s) s now) x) s ram icons
      go true = stale k (quantum x s) now (shown x s ram icons) refl
      go false = refl

  -- retaining the latch has no part in what is shown later
  pub as_shown_counted : (x : Scan) (now : Time) → as_shown (count_to (as_shown x s ram icons) s now) s ram icons ≡ as_shown (count_to x s now) s ram icons
  unfolding count_to
  as_shown_counted x now = as_shown_for (raw now + 1) x now

  -- a latch that is retained already stays
  latched_as_shown : (x : Scan) → x.latch.latched ≡ true → as_shown x s ram icons ≡ x
  unfolding as_shown shown with_latch
  latched_as_shown x l = λ i. with_latch x (record { segments = cond (l i) x.latch.segments (present_latch x s ram icons); latched = sym l i })

  latch_as_shown : (x : Scan) → x.latch.latched ≡ false → latch_retained x s ram icons ≡ as_shown x s ram icons
  unfolding as_shown shown latch_retained
  latch_as_shown x l = ap (λ (t : Bool). with_latch x (record { segments = cond t x.latch.segments (present_latch x s ram icons); latched = true })) (sym l)

  -- before a change that could alter the row shown the latch is retained
  pub retained_as_shown : (x : Scan) (page : Option ℕ) → affects page (latched_row x) ≡ true → retained x s page ram icons ≡ as_shown x s ram icons
  unfolding retained
  retained_as_shown x page a = rw a (go x.latch.latched refl)
    where
      go : (t : Bool) → x.latch.latched ≡ t → cond (t || false) x (latch_retained x s ram icons) ≡ as_shown x s ram icons
      go true l = sym (latched_as_shown x l)
      go false l = latch_as_shown x l

  retained_counted : (x : Scan) (page : Option ℕ) (now : Time) → as_shown (count_to (retained x s page ram icons) s now) s ram icons ≡ as_shown (count_to x s now) s ram icons
  retained_counted x page now = go (affects page (latched_row x)) refl
    where
      go : (t : Bool) → affects page (latched_row x) ≡ t → as_shown (count_to (retained x s page ram icons) s now) s ram icons ≡ as_shown (count_to x s now) s ram icons
      go true a = ap (λ (z : Scan). as_shown (count_to z s now) s ram icons) (retained_as_shown x page a) ∙ as_shown_counted x now
      go false a = ap (λ (z : Scan). as_shown (count_to z s now) s ram icons) (unaffected x s ram icons page a)

  -- ---- clock and line inversion have no part in the latch
  stopped_as_shown : (x : Scan) → as_shown (stopped x) s ram icons ≡ stopped (as_shown x s ram icons)
  unfolding as_shown stopped with_ticking with_latch
  stopped_as_shown x =
      ap (λ (segments : List ℕ). with_latch (stopped x) (record { segments = segments; latched = true })) (stopped_shown x s ram icons)

  cleared_as_shown : (x : Scan) → as_shown (cleared x s) s ram icons ≡ cleared (as_shown x s ram icons) s
  unfolding as_shown cleared with_inversion with_latch
  cleared_as_shown x =
      ap (λ (segments : List ℕ). with_latch (cleared x s) (record { segments = segments; latched = true })) (cleared_shown x s ram icons)

  clocked_as_shown : (x : Scan) (now : Time) → as_shown (clocked x s now) s ram icons ≡ clocked (as_shown x s ram icons) s now
  unfolding as_shown clocked started_if stopped with_ticking with_latch
  clocked_as_shown x now =
      ap (λ (segments : List ℕ). with_latch (clocked x s now) (record { segments = segments; latched = true })) (clocked_shown x s ram icons now)
      ∙ go (eqb (s.oscillator_control % 2) 0) x.ticking.clock
    where
      l : Latch
      l = record { segments = shown x s ram icons; latched = true }

      go : (t : Bool) (k : Option Clock) → with_latch (cond t (started_if k x s now) (stopped x)) l ≡ cond t (started_if k (with_latch x l) s now) (stopped (with_latch x l))
      go true (Some k) = refl
      go true None = refl
      go false k = refl

  resumed_as_shown : (x : Scan) (now : Time) (runs : Bool) → as_shown (resumed x s now runs) s ram icons ≡ resumed (as_shown x s ram icons) s now runs
  unfolding resumed
  resumed_as_shown x now true = clocked_as_shown (cleared x s) now ∙ ap (λ (z : Scan). clocked z s now) (cleared_as_shown x)
  resumed_as_shown x now false = stopped_as_shown (cleared x s) ∙ ap stopped (cleared_as_shown x)

  -- a function that does not read the latch takes scans that are the same as shown to scans that agree
  module _ (f : Scan → Scan) (past : (z : Scan) → as_shown (f z) s ram icons ≡ f (as_shown z s ram icons)) (x y : Scan) (e : as_shown x s ram icons ≡ as_shown y s ram icons) (now : Time) where
    through : Agree (f x) (f y) s now ram icons
    through = on x ∙ ap (λ (z : Scan). as_shown (count_to (f z) s now) s ram icons) e ∙ sym (on y)
      where
        on : (z : Scan) → as_shown (count_to (f z) s now) s ram icons ≡ as_shown (count_to (f (as_shown z s ram icons)) s now) s ram icons
        on z = sym (as_shown_counted (f z) now) ∙ ap (λ (w : Scan). as_shown (count_to w s now) s ram icons) (past z)

  -- a scan without a clock is not counted on
  pub no_clock : (x : Scan) (now : Time) → has_clock x.ticking.clock ≡ false → count_to x s now ≡ x
  no_clock x now h = ap (λ (z : Scan). count_to z s now) (sym (stopped_same x s h)) ∙ stopped_stays x s now ∙ stopped_same x s h

  -- ---- two scans that agree
  module _ (vs : ValidSettings s) where
    module _ (t u : Time) (i : in_range t ≡ true) (j : in_range u ≡ true) (le : raw t ≤ raw u) (x y : Scan) (vx : Valid x) (vy : Valid y) (a : Agree x y s t ram icons) where
      pub agree_later : Agree x y s u ram icons
      agree_later = on x vx ∙ ap (λ (z : Scan). as_shown (count_to z s u) s ram icons) a ∙ sym (on y vy)
        where
          on : (z : Scan) → Valid z → as_shown (count_to z s u) s ram icons ≡ as_shown (count_to (as_shown (count_to z s t) s ram icons) s u) s ram icons
          on z v = ap (λ (w : Scan). as_shown w s ram icons) (sym (count_count s vs t u i j le z v)) ∙ sym (as_shown_counted (count_to z s t) u)

    module _ (now : Time) (i : in_range now ≡ true) where
      counted_again : (x : Scan) → Valid x → count_to (count_to x s now) s now ≡ count_to x s now
      counted_again x v = count_count s vs now now i i (le_refl (raw now)) x v

      module _ (x y : Scan) (vx : Valid x) (vy : Valid y) (a : Agree x y s now ram icons) where
        -- one of them counted; both counted
        pub agree_counted : Agree (count_to x s now) y s now ram icons
        agree_counted = ap (λ (z : Scan). as_shown z s ram icons) (counted_again x vx) ∙ a

        pub agree_both : Agree (count_to x s now) (count_to y s now) s now ram icons
        agree_both = agree_counted ∙ ap (λ (z : Scan). as_shown z s ram icons) (sym (counted_again y vy))

        -- one of them counted, and its latch retained
        pub agree_retained : (page : Option ℕ) → Agree (retained (count_to x s now) s page ram icons) y s now ram icons
        agree_retained page = retained_counted (count_to x s now) page now ∙ agree_counted

        rows_same : latched_row (count_to x s now) ≡ latched_row (count_to y s now)
        unfolding latched_row as_shown with_latch
        rows_same = ap latched_row a

        -- before a command both are the same scan
        pub command_same : retained (count_to x s now) s None ram icons ≡ retained (count_to y s now) s None ram icons
        unfolding affects
        command_same = retained_as_shown (count_to x s now) None refl ∙ a ∙ sym (retained_as_shown (count_to y s now) None refl)

        -- before a data byte both retain their latches, or neither does and the byte is not for the row shown
        module _ (page : Option ℕ) (ram' icons' : List ℕ) (outside : (z : Scan) → affects page (latched_row z) ≡ false → shown z s ram' icons' ≡ shown z s ram icons) where
          shown_on : (z : Scan) → affects page (latched_row z) ≡ false → as_shown z s ram' icons' ≡ as_shown z s ram icons
          unfolding as_shown
          shown_on z h = ap (λ (segments : List ℕ). with_latch z (record { segments = segments; latched = true })) (outside z h)

          pub data_agree : as_shown (count_to (retained (count_to x s now) s page ram icons) s now) s ram' icons' ≡ as_shown (count_to (retained (count_to y s now) s page ram icons) s now) s ram' icons'
          data_agree = go (affects page (latched_row (count_to x s now))) refl
            where
              go : (t : Bool) → affects page (latched_row (count_to x s now)) ≡ t
                  → as_shown (count_to (retained (count_to x s now) s page ram icons) s now) s ram' icons' ≡ as_shown (count_to (retained (count_to y s now) s page ram icons) s now) s ram' icons'
              go true h =
                  ap (λ (z : Scan). as_shown (count_to z s now) s ram' icons')
                  (retained_as_shown (count_to x s now) page h ∙ a ∙ sym (retained_as_shown (count_to y s now) page (ap (affects page) (sym rows_same) ∙ h)))
              go false h =
                  let k = ap (affects page) (sym rows_same) ∙ h in
                  ap (λ (z : Scan). as_shown (count_to z s now) s ram' icons') (unaffected (count_to x s now) s ram icons page h)
                  ∙ ap (λ (z : Scan). as_shown z s ram' icons') (counted_again x vx)
                  ∙ shown_on (count_to x s now) h
                  ∙ a
                  ∙ sym (shown_on (count_to y s now) k)
                  ∙ ap (λ (z : Scan). as_shown z s ram' icons') (sym (counted_again y vy))
                  ∙ ap (λ (z : Scan). as_shown (count_to z s now) s ram' icons') (sym (unaffected (count_to y s now) s ram icons page k))

        -- both stop
        pub agree_stopped : Agree (stopped (count_to x s now)) (stopped (count_to y s now)) s now ram icons
        agree_stopped = through stopped stopped_as_shown (count_to x s now) (count_to y s now) a now

        -- both resume, neither with a clock
        pub agree_resumed : (runs : Bool) → has_clock x.ticking.clock ≡ false → has_clock y.ticking.clock ≡ false → Agree (resumed x s now runs) (resumed y s now runs) s now ram icons
        agree_resumed runs hx hy =
            through (λ (z : Scan). resumed z s now runs) (λ z. resumed_as_shown z now runs) x y
            (ap (λ (z : Scan). as_shown z s ram icons) (sym (no_clock x now hx)) ∙ a ∙ ap (λ (z : Scan). as_shown z s ram icons) (no_clock y now hy)) now

        -- both have the same drive
        pub agree_drive : SameDrive (count_to x s now) (count_to y s now) s ram icons
        unfolding as_shown with_latch common_of quanta_of
        agree_drive = record {
          common = ap common_of a;
          inverted = ap (λ (z : Scan). z.inversion.inverted) a;
          segments = ap (λ (z : Scan). z.latch.segments) a;
          quanta = ap quanta_of a;
        }
