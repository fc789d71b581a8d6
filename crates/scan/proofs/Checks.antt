-- What the checks come to: the conditions of numbers 3 and 4 one by one, and what a call knows once its rows pass.
use Rattle.std.proofs.Common.{◌≡◌, ℕ, ◌<◌, ◌≤◌, Bool, true, false, ◌||◌, eqb, ltb, ◌⊎◌, List, length, sym, refl, ◌∙◌, inl, inr, ltb-true, lt-ltb, eq-eqb, eqb-true, le-leb, leb-true}
use mathlib.Core.Bool.{or-true}
use Rattle.std.specs.Prelude.{Option, Some, None, Result, Ok, Err, ⊤}
use Rattle.checks.specs.Checks.{row, first_of, changed}
use Rattle.checks.proofs.Chains.{first_passed, row_passed}
use Rattle.checks.proofs.Results.{refused_at_ok, refused_at_err}
use Rattle.checks.proofs.Tests.{both, either}
use Rattle.clock.specs.Rate.{is_lcd}
use Rattle.clock.specs.Check.{number as number_of, valid_clock, check_clock}
use Rattle.clock.specs.Check as clock_checks
use Rattle.clock.proofs.Answers.{check_passed}
use Rattle.clock.specs.Time.{in_range}
use Rattle.scan.specs.Check.{number, by_clock, refused, lines_ok, valid_settings, frc_count_ok, valid_frame, pwm_ok, valid_inversion, valid_scan, valid_running, check_scan, memory_ok, image_ok, in_order, check_moment, check_lent, check_image, check_but_clock}
use Rattle.scan.specs.State.{rows, with_ticking}
use Rattle.scan.specs.Run.{stopped}
use Rattle.clock.specs.declared.time.Time.{Time}
use Rattle.clock.specs.declared.edges.Clock.{Clock}
use Rattle.scan.specs.declared.settings.Settings.{Settings}
use Rattle.scan.specs.declared.settings.Frame.{Frame}
use Rattle.scan.specs.declared.state.Scan.{Scan}
use Rattle.scan.specs.declared.state.Inversion.{Inversion}
use Rattle.scan.specs.declared.check.Refusal.{Refusal}
use Rattle.clock.specs.declared.check.Refusal as clocks

-- what a frame end took, in range
pub record FrameFits (f : Frame) : Type 0 where
  pub duty_low : 16 ≤ f.duty
  pub duty_high : f.duty ≤ 128
  pub com_below : f.initial_com < 128
  pub line_below : f.start_line < 128
  pub frc_count_ok_lem : frc_count_ok f.frc_count ≡ true

frame_fits : (f : Frame) → valid_frame f ≡ true → FrameFits f
unfolding valid_frame
frame_fits f h =
    let a = both _ _ h in
    let b = both _ _ a.0 in
    let c = both _ _ b.0 in
    let d = both _ _ c.0 in
    record {
      duty_low = leb-true _ _ d.0;
      duty_high = leb-true _ _ d.1;
      com_below = ltb-true _ _ c.1;
      line_below = ltb-true _ _ b.1;
      frc_count_ok_lem = a.1;
    }

fits_frame : (f : Frame) → FrameFits f → valid_frame f ≡ true
unfolding valid_frame
fits_frame f v = simp (
  le-leb 16 f.duty v.duty_low,
  le-leb f.duty 128 v.duty_high,
  lt-ltb f.initial_com 128 v.com_below,
  lt-ltb f.start_line 128 v.line_below,
  v.frc_count_ok_lem,
)

-- a line inversion in range, its count below its lines where it has any
pub record InversionFits (i : Inversion) : Type 0 where
  pub lines_ok_lem : lines_ok i.lines ≡ true
  pub count_below : (i.lines ≡ 0) ⊎ (i.count < i.lines)

inversion_fits : (i : Inversion) → valid_inversion i ≡ true → InversionFits i
unfolding valid_inversion
inversion_fits i h = let a = both _ _ h in record { lines_ok_lem = a.0; count_below = go (either _ _ a.1) }
  where
    go : (eqb i.lines 0 ≡ true) ⊎ (ltb i.count i.lines ≡ true) → (i.lines ≡ 0) ⊎ (i.count < i.lines)
    go (inl e) = inl (eqb-true _ _ e)
    go (inr e) = inr (ltb-true _ _ e)

fits_inversion : (i : Inversion) → InversionFits i → valid_inversion i ≡ true
unfolding valid_inversion
fits_inversion i v = simp v.lines_ok_lem (go v.count_below)
  where
    go : (i.lines ≡ 0) ⊎ (i.count < i.lines) → eqb i.lines 0 || ltb i.count i.lines ≡ true
    go (inl e) = simp (eq-eqb i.lines 0 e)
    go (inr h) = simp (lt-ltb i.count i.lines h, or-true)

-- a scan that passes numbers 4 and 5, condition by condition
pub record Valid (x : Scan) : Type 0 where
  pub lcd : is_lcd x.ticking.rate ≡ true
  pub frame : FrameFits x.frame
  pub pwm_ok_lem : pwm_ok x.pwm ≡ true
  pub step_below : x.step < x.pwm
  pub frc_below : x.frc < x.frame.frc_count
  pub row_below : x.row < rows x
  pub inversion : InversionFits x.inversion
  pub clock_ok : valid_running x.ticking.clock x.ticking.rate ≡ true

pub valid_scan_lem : (x : Scan) → check_scan x ≡ None → Valid x
unfolding check_scan valid_scan
valid_scan_lem x h =
    let p = first_passed _ _ h in
    let a = both _ _ (row_passed 4 _ p.0) in
    let b = both _ _ a.0 in
    let c = both _ _ b.0 in
    let d = both _ _ c.0 in
    let e = both _ _ d.0 in
    let f = both _ _ e.0 in
    record {
      lcd = f.0;
      frame = frame_fits x.frame f.1;
      pwm_ok_lem = e.1;
      step_below = ltb-true _ _ d.1;
      frc_below = ltb-true _ _ c.1;
      row_below = ltb-true _ _ b.1;
      inversion = inversion_fits x.inversion a.1;
      clock_ok = row_passed 5 _ p.1;
    }

pub valid_check : (x : Scan) → Valid x → check_scan x ≡ None
unfolding check_scan valid_scan
valid_check x v = simp (
  v.lcd,
  fits_frame x.frame v.frame,
  v.pwm_ok_lem,
  lt-ltb x.step x.pwm v.step_below,
  lt-ltb x.frc x.frame.frc_count v.frc_below,
  lt-ltb x.row (rows x) v.row_below,
  fits_inversion x.inversion v.inversion,
  v.clock_ok,
)

-- number 4 alone
pub valid_lcd : (x : Scan) → valid_scan x ≡ true → is_lcd x.ticking.rate ≡ true
unfolding valid_scan
valid_lcd x v = (both _ _ (both _ _ (both _ _ (both _ _ (both _ _ (both _ _ v).0).0).0).0).0).0

pub valid_of : (x : Scan) → check_scan x ≡ None → valid_scan x ≡ true
unfolding check_scan
valid_of x h = row_passed 4 _ (first_passed _ _ h).0

pub check_by : (x : Scan) → valid_scan x ≡ true → valid_running x.ticking.clock x.ticking.rate ≡ true → check_scan x ≡ None
unfolding check_scan
check_by x v k = simp (v, k)

-- a scan that passes it has counters in range: it passes number 5 too with its clock stopped
pub counters_in_range : (x : Scan) → valid_scan x ≡ true → Valid (stopped x)
unfolding valid_scan valid_running stopped with_ticking
counters_in_range x v = valid_scan_lem (stopped x) (check_by (stopped x) v refl)

-- past number 4, the checks left are those of a clock that runs
pub check_stopped : (x : Scan) → valid_scan x ≡ true → x.ticking.clock ≡ None → check_scan x ≡ None
unfolding check_scan valid_running
check_stopped x v e = simp (v, e)

pub check_running : (x : Scan) (c : Clock) → valid_scan x ≡ true → x.ticking.clock ≡ Some c → check_clock c x.ticking.rate ≡ check_scan x
unfolding check_scan valid_running check_clock
check_running x c v e = simp (v, e, valid_lcd x v)

-- the clock's own check decides: where it passes the scan is valid, where it refuses the scan's number is 5
module _ (x : Scan) (c : Clock) (v : valid_scan x ≡ true) (e : x.ticking.clock ≡ Some c) (k : Result ⊤ clocks.Refusal) (h : clock_checks.refused k ≡ check_clock c x.ticking.rate) where
  pub passed_by_clock : k ≡ Ok tt → check_scan x ≡ None
  passed_by_clock p = sym (check_running x c v e) ∙ refused_at_ok number_of k h p

  pub refused_by_clock : {why : clocks.Refusal} → k ≡ Err why → check_scan x ≡ Some 5
  unfolding check_clock
  refused_by_clock p = go (valid_clock c x.ticking.rate) refl
    where
      go : (t : Bool) → valid_clock c x.ticking.rate ≡ t → check_scan x ≡ Some 5
      go true q = let z = sym (check_passed c x.ticking.rate k h (valid_lcd x v) q) ∙ p in cc
      go false q = sym (check_running x c v e) ∙ simp (valid_lcd x v, q)

-- and a clock's refusal keeps its number
pub by_clock_number : (why : clocks.Refusal) → number (by_clock why) ≡ number_of why
by_clock_number clocks.Refusal.Time = refl
by_clock_number clocks.Refusal.Rate = refl
by_clock_number clocks.Refusal.Clock = refl

-- settings that pass number 3, condition by condition
pub record ValidSettings (s : Settings) : Type 0 where
  pub line_below : s.start_line < 128
  pub com_below : s.initial_com < 128
  pub duty_low : 16 ≤ s.duty
  pub duty_high : s.duty ≤ 128
  pub lines_ok_lem : lines_ok s.inversion_lines ≡ true
  pub gray_high : s.gray_mode ≤ 7
  pub control_high : s.oscillator_control ≤ 3
  pub frequency_high : s.oscillator_frequency ≤ 31

pub valid_settings_lem : (s : Settings) → valid_settings s ≡ true → ValidSettings s
unfolding valid_settings
valid_settings_lem s h =
    let a = both _ _ h in
    let b = both _ _ a.0 in
    let c = both _ _ b.0 in
    let d = both _ _ c.0 in
    let e = both _ _ d.0 in
    let f = both _ _ e.0 in
    let g = both _ _ f.0 in
    record {
      line_below = ltb-true _ _ g.0;
      com_below = ltb-true _ _ g.1;
      duty_low = leb-true _ _ f.1;
      duty_high = leb-true _ _ e.1;
      lines_ok_lem = d.1;
      gray_high = leb-true _ _ c.1;
      control_high = leb-true _ _ b.1;
      frequency_high = leb-true _ _ a.1;
    }

-- every row of a chain that passes
in_order_passed : (memory image time settings scan : Option ℕ) → in_order memory image time settings scan ≡ None → (memory ≡ None) × ((image ≡ None) × ((time ≡ None) × ((settings ≡ None) × (scan ≡ None))))
unfolding in_order
in_order_passed memory image time settings scan h =
    let a = first_passed memory _ h in
    let b = first_passed image _ a.1 in
    let c = first_passed time _ b.1 in
    (a.0, (b.0, (c.0, first_passed settings scan c.1)))

-- what a call that takes a moment knows once its checks pass
pub record Timed (x : Scan) (ok : Bool) (now : Time) : Type 0 where
  pub in_range_lem : in_range now ≡ true
  pub settings_ok_lem : ok ≡ true
  pub scan_passed : check_scan x ≡ None

pub timed : (x : Scan) (ok : Bool) (now : Time) → check_moment x ok now ≡ None → Timed x ok now
unfolding check_moment
timed x ok now h =
    let p = in_order_passed _ _ _ _ _ h in
    record { in_range_lem = row_passed 1 _ p.1.1.0; settings_ok_lem = row_passed 3 _ p.1.1.1.0; scan_passed = p.1.1.1.1 }

pub timed_check : (x : Scan) (ok : Bool) (now : Time) → Timed x ok now → check_moment x ok now ≡ None
unfolding check_moment in_order
timed_check x ok now t = simp (t.in_range_lem, t.settings_ok_lem, t.scan_passed)

-- its checks are those but number 5, and then number 5
last_row : (a b c d : Option ℕ) → first_of a (first_of b (first_of c d)) ≡ first_of (first_of a (first_of b c)) d
last_row None None c d = refl
last_row None (Some n) c d = refl
last_row (Some n) b c d = refl

module _ (x : Scan) (ok : Bool) (now : Time) where
  then_clock : check_moment x ok now ≡ first_of (check_but_clock x ok now) (row 5 (valid_running x.ticking.clock x.ticking.rate))
  unfolding check_moment check_but_clock check_scan in_order
  then_clock = last_row (row 1 (in_range now)) (row 3 ok) (row 4 (valid_scan x)) (row 5 (valid_running x.ticking.clock x.ticking.rate))

  pub but_clock_refused : {n : ℕ} → check_but_clock x ok now ≡ Some n → check_moment x ok now ≡ Some n
  but_clock_refused h = then_clock ∙ rw h

  module _ (passed : check_but_clock x ok now ≡ None) where
    pub but_clock_passed : row 5 (valid_running x.ticking.clock x.ticking.rate) ≡ check_moment x ok now
    but_clock_passed = sym (then_clock ∙ rw passed)

    pub but_clock_rows : (in_range now ≡ true) × ((ok ≡ true) × (valid_scan x ≡ true))
    unfolding check_but_clock
    but_clock_rows = let p = in_order_passed _ _ _ _ _ passed in (row_passed 1 _ p.1.1.0, (row_passed 3 _ p.1.1.1.0, row_passed 4 _ p.1.1.1.1))

-- what lent memory is, once it passes
pub record Lent (ram icons : List ℕ) : Type 0 where
  pub ram_length : length ram ≡ 4096
  pub icons_length : length icons ≡ 256

pub lent : (ram icons : List ℕ) → memory_ok ram icons ≡ true → Lent ram icons
unfolding memory_ok
lent ram icons h = let l = both _ _ h in record { ram_length = eqb-true _ _ l.0; icons_length = eqb-true _ _ l.1 }

-- what a call that takes a moment and lent memory knows once its checks pass
pub record Called (x : Scan) (ok : Bool) (now : Time) (ram icons : List ℕ) : Type 0 where
  pub memory : Lent ram icons
  pub in_range_lem : in_range now ≡ true
  pub settings_ok_lem : ok ≡ true
  pub scan_passed : check_scan x ≡ None

pub called : (x : Scan) (ok : Bool) (now : Time) (ram icons : List ℕ) → check_lent x ok now ram icons ≡ None → Called x ok now ram icons
unfolding check_lent
called x ok now ram icons h =
    let p = in_order_passed _ _ _ _ _ h in
    record {
      memory = lent ram icons (row_passed 2 _ p.0);
      in_range_lem = row_passed 1 _ p.1.1.0;
      settings_ok_lem = row_passed 3 _ p.1.1.1.0;
      scan_passed = p.1.1.1.1;
    }

-- what a call that paints an image knows once its checks pass
pub record Painted (s : Settings) (ram icons : List ℕ) (bytes : ℕ) : Type 0 where
  pub memory : Lent ram icons
  pub image_length : bytes ≡ 6144
  pub settings_ok_lem : valid_settings s ≡ true

pub painted_checks : (s : Settings) (ram icons : List ℕ) (bytes : ℕ) → check_image s ram icons bytes ≡ None → Painted s ram icons bytes
unfolding check_image image_ok
painted_checks s ram icons bytes h =
    let p = in_order_passed _ _ _ _ _ h in
    record { memory = lent ram icons (row_passed 2 _ p.0); image_length = eqb-true _ _ (row_passed 8 _ p.1.0); settings_ok_lem = row_passed 3 _ p.1.1.1.0 }

-- what a check that was opened by `?` says of its definition, where it passed and where not
module _ {A : Type 0} {check : Result A Refusal} {c : Option ℕ} (e : refused check ≡ c) where
  pub passes : {a : A} → check ≡ Ok a → c ≡ None
  passes h = refused_at_ok number check e h

  pub passed_answer : {B : Type 0} {a : A} (new given : B) → check ≡ Ok a → (None, new) ≡ changed c new given
  passed_answer new given h = rw (passes h)

  pub refused_answer : {B : Type 0} {why : Refusal} (new given : B) → check ≡ Err why → (Some (number why), given) ≡ changed c new given
  refused_answer new given h = rw (refused_at_err number check e h)

-- what a call knows past `check_moment(..)?` and past `check_lent(..)?`
module _ {A : Type 0} {check : Result A Refusal} (x : Scan) (ok : Bool) (now : Time) (e : refused check ≡ check_moment x ok now) {a : A} (h : check ≡ Ok a) where
  pub timed_range : in_range now ≡ true
  timed_range = (timed x ok now (passes e h)).in_range_lem

  pub timed_settings : ok ≡ true
  timed_settings = (timed x ok now (passes e h)).settings_ok_lem

  pub timed_scan : check_scan x ≡ None
  timed_scan = (timed x ok now (passes e h)).scan_passed

module _ {A : Type 0} {check : Result A Refusal} (x : Scan) (ok : Bool) (now : Time) (ram icons : List ℕ) (e : refused check ≡ check_lent x ok now ram icons) {a : A} (h : check ≡ Ok a) where
  pub lent_range : in_range now ≡ true
  lent_range = (called x ok now ram icons (passes e h)).in_range_lem

  pub lent_settings : ok ≡ true
  lent_settings = (called x ok now ram icons (passes e h)).settings_ok_lem

  pub lent_scan : check_scan x ≡ None
  lent_scan = (called x ok now ram icons (passes e h)).scan_passed

  pub lent_ram : length ram ≡ 4096
  lent_ram = (called x ok now ram icons (passes e h)).memory.ram_length

  pub lent_icons : length icons ≡ 256
  lent_icons = (called x ok now ram icons (passes e h)).memory.icons_length

pub ruleset timed_facts = (timed_range, timed_settings, timed_scan)

pub ruleset lent_facts = (lent_range, lent_settings, lent_scan, lent_ram, lent_icons)

-- past number 4, what is left of a scan's check is its clock's
module _ (x : Scan) {k : Option ℕ} where
  pub scan_by_clock : (valid_scan x ≡ true → k ≡ check_scan x) → first_of (row 4 (valid_scan x)) k ≡ check_scan x
  unfolding check_scan
  scan_by_clock h = go (valid_scan x) h
    where
      go : (t : Bool) → (t ≡ true → k ≡ first_of (row 4 t) (row 5 (valid_running x.ticking.clock x.ticking.rate))) → first_of (row 4 t) k ≡ first_of (row 4 t) (row 5 (valid_running x.ticking.clock x.ticking.rate))
      go true h = h refl
      go false h = refl

-- a value that passes, for `Checked`
pub row_holds : (n : ℕ) {ok : Bool} → ok ≡ true → row n ok ≡ None
row_holds n h = rw h
