-- What each call answers once its checks pass, and that counting takes at most four pieces.
use Rattle.std.proofs.Common.{◌≡◌, ℕ, ◌≤◌, Bool, true, ◌&&◌, List, length, ap, sym, ◌∙◌}
use Rattle.std.specs.Prelude.{Option, Some, None, Result, Ok, Err, ⊤}
use Rattle.checks.specs.Checks.{changed}
use Rattle.checks.proofs.Chains.{never, row_passed}
use Rattle.checks.proofs.Results.{refused_at_err, ok_from_left}
use Rattle.clock.specs.declared.time.Time.{Time}
use Rattle.clock.specs.Time.{in_range}
use Rattle.clock.specs.Check.{time_row}
use Rattle.voltage.specs.Voltage.{voltages}
use Rattle.scan.specs.declared.settings.Settings.{Settings}
use Rattle.scan.specs.declared.state.Scan.{Scan}
use Rattle.scan.specs.declared.run.Running.{Running}
use Rattle.scan.specs.declared.count.Counted.{Counted}
use Rattle.scan.specs.declared.check.Refusal.{Refusal}
use Rattle.scan.specs.declared.drive.Conditions.{Conditions}
use Rattle.scan.specs.declared.drive.Driven.{Driven}
use Rattle.scan.specs.Check.{number, refused, answered, valid_settings, settings_row, check_scan, check_moment, check_lent, check_image, check_but_clock}
use Rattle.scan.specs.Count.{count_to, pieces, answered_count, count_scan}
use Rattle.scan.specs.Stretch.{count_clock}
use Rattle.scan.specs.Latch.{retained}
use Rattle.scan.specs.Run.{stopped, resumed, updated, before_byte, after_byte, fall_scan, rise_scan}
use Rattle.scan.specs.Drive.{drive_at, frame_at, off, answered_drive, drive_scan}
use Rattle.scan.specs.Image.{image, rendered}
use Rattle.scan.proofs.Counting.{count_to_valid}
use Rattle.scan.proofs.Checks.{Valid, ValidSettings, valid_scan_lem, valid_check, valid_settings_lem, timed_check, passes, passed_answer, refused_answer, but_clock_refused, but_clock_passed}
use Rattle.scan.proofs.Stages.{at_most_four}
use Rattle.voltage.specs.declared.Settings as analog
use Rattle.voltage.specs.Check as analogs

-- a check that refuses nothing has passed
pub not_refused : (k : Result ⊤ Refusal) → refused k ≡ None → k ≡ Ok tt
not_refused (Ok u) h = λ i. Ok u
not_refused (Err why) h = absurd (never h)

-- an answer that equals `changed` of a check that passes: nothing refused, and the new value
new_of : {A : Type 0} {p : Option ℕ × A} {check : Option ℕ} (new given : A) → p ≡ changed check new given → check ≡ None → (p.0 ≡ None) × (p.1 ≡ new)
new_of {A} new given e h =
    let q = e ∙ ap (λ (c : Option ℕ). changed c new given) h in
    (ap (λ (r : Option ℕ × A). r.0) q, ap (λ (r : Option ℕ × A). r.1) q)

module _ (x : Scan) (s : Settings) (now : Time) where
  pub count_passed : (r : Result Counted Refusal) → answered_count x r ≡ count_scan x s now → check_moment x (valid_settings s) now ≡ None → r ≡ Ok (record { scan = count_to x s now; pieces = pieces x s now })
  unfolding count_scan
  count_passed (Ok r) e h =
      let q = new_of (count_to x s now, pieces x s now) (x, 0) e h in
      λ i. Ok (record { scan = (q.1 i).0; pieces = (q.1 i).1 })
  count_passed (Err why) e h = absurd (never (new_of (count_to x s now, pieces x s now) (x, 0) e h).0)

  -- once all but number 5 pass, what the clock leaves of the count is the count
  pub clock_last : check_but_clock x (valid_settings s) now ≡ None → count_clock x s now ≡ count_scan x s now
  unfolding count_clock count_scan
  clock_last h = ap (λ (k : Option ℕ). changed k (count_to x s now, pieces x s now) (x, 0)) (but_clock_passed x (valid_settings s) now h)

  -- and a refusal of those is the count's
  pub count_refused : {A : Type 0} {k : Result A Refusal} → refused k ≡ check_but_clock x (valid_settings s) now → {why : Refusal} → k ≡ Err why → (Some (number why), (x, 0)) ≡ count_scan x s now
  unfolding count_scan
  count_refused {k = k} e h = rw (but_clock_refused x (valid_settings s) now (refused_at_err number k e h))

  -- a fall by the answer of its count, whose check is the fall's
  module _ (r : Result Counted Refusal) (e : answered_count x r ≡ count_scan x s now) where
    count_check : refused r ≡ check_moment x (valid_settings s) now
    unfolding count_scan
    count_check = go r (ap (λ (p : Option ℕ × (Scan × ℕ)). p.0) e)
      where
        go : (r : Result Counted Refusal) → (answered_count x r).0 ≡ check_moment x (valid_settings s) now → refused r ≡ check_moment x (valid_settings s) now
        go (Ok c) h = h
        go (Err why) h = h

    pub fall_refused : {why : Refusal} → r ≡ Err why → (Some (number why), x) ≡ fall_scan x s now
    unfolding fall_scan
    fall_refused h = refused_answer count_check (stopped (count_to x s now)) x h

    pub fall_stopped : {c : Counted} → r ≡ Ok c → {y : Scan} → y ≡ stopped c.scan → (None, y) ≡ fall_scan x s now
    unfolding fall_scan
    fall_stopped {c} h {y} ey =
        let same : Ok c ≡ Ok (record { scan = count_to x s now; pieces = pieces x s now }) = sym h ∙ count_passed r e (passes count_check h) in
        let counted : c.scan ≡ count_to x s now = cc in
        let left : y ≡ stopped (count_to x s now) = ey ∙ ap stopped counted in
        rw left (passed_answer count_check (stopped (count_to x s now)) x h)

  pub fall_passed : (r : Result Scan Refusal) → answered x r ≡ fall_scan x s now → check_moment x (valid_settings s) now ≡ None → r ≡ Ok (stopped (count_to x s now))
  unfolding fall_scan
  fall_passed r e h = ok_from_left number r _ (stopped (count_to x s now)) x e h

  pub rise_passed : (runs : Bool) (r : Result Scan Refusal) → answered x r ≡ rise_scan x s now runs → check_moment x (valid_settings s) now ≡ None → r ≡ Ok (resumed x s now runs)
  unfolding rise_scan
  rise_passed runs r e h = ok_from_left number r _ (resumed x s now runs) x e h

  module _ (ram icons : List ℕ) where
    pub before_passed : (page : Option ℕ) (r : Result Scan Refusal) → answered x r ≡ before_byte x s now page ram icons → check_lent x (valid_settings s) now ram icons ≡ None → r ≡ Ok (retained (count_to x s now) s page ram icons)
    unfolding before_byte
    before_passed page r e h = ok_from_left number r _ (retained (count_to x s now) s page ram icons) x e h

    pub after_passed : (running : Running) (r : Result Scan Refusal) → answered x r ≡ after_byte x s now running ram icons → check_lent x (valid_settings s) now ram icons ≡ None → r ≡ Ok (updated x s now running ram icons)
    unfolding after_byte
    after_passed running r e h = ok_from_left number r _ (updated x s now running ram icons) x e h

    pub drive_passed : (a : analog.Settings) (c : Conditions) (r : Result Driven Refusal) → answered_drive r ≡ drive_scan x s a c now ram icons → check_lent x (valid_settings s && analogs.valid_settings a) now ram icons ≡ None → r ≡ Ok (record { drive = drive_at x s (voltages a c.supply) c now ram icons; frame = frame_at x s c now })
    unfolding drive_scan
    drive_passed a c (Ok r) e h =
        let q = new_of (drive_at x s (voltages a c.supply) c now ram icons, frame_at x s c now) (off, 0) e h in
        λ i. Ok (record { drive = (q.1 i).0; frame = (q.1 i).1 })
    drive_passed a c (Err why) e h = absurd (never (new_of (drive_at x s (voltages a c.supply) c now ram icons, frame_at x s c now) (off, 0) e h).0)

-- counting answers at most four pieces
pub pieces_few : (x : Scan) (s : Settings) (now : Time) → Valid x → ValidSettings s → in_range now ≡ true → pieces x s now ≤ 4
pieces_few x s now v vs i = at_most_four s vs now i x v

-- the image that is left in 6,144 lent bytes
pub render_passed : (s : Settings) (driven : Bool) (ram icons before : List ℕ) → check_image s ram icons (length before) ≡ None → rendered s driven ram icons before ≡ image s driven ram
unfolding rendered
render_passed s driven ram icons before h = rw h

-- counting what passed its checks, by their rows of the table
module _ (x : Scan) (s : Settings) (now : Time) (scan : check_scan x ≡ None) (settings : settings_row s ≡ None) (time : time_row now ≡ None) where
  pub count_checked : {r : Result Counted Refusal} → answered_count x r ≡ count_scan x s now → r ≡ Ok (record { scan = count_to x s now; pieces = pieces x s now })
  count_checked {r} e =
      count_passed x s now r e (timed_check x (valid_settings s) now (record { in_range_lem = row_passed 1 _ time; settings_ok_lem = row_passed 3 _ settings; scan_passed = scan }))

  pub count_to_checked : check_scan (count_to x s now) ≡ None
  count_to_checked =
      valid_check (count_to x s now) (count_to_valid s (valid_settings_lem s (row_passed 3 _ settings)) now (row_passed 1 _ time) x (valid_scan_lem x scan))
