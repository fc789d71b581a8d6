-- What the checks come to: the conditions of number 3 group by group, what a call knows once its rows pass, and the checks of
-- the scan's calls out of those of the controller's.
use Prim.Native.Nat.{ℕ, ◌<◌}
use mathlib.Core.Bool.{Bool, true, false, ◌&&◌}
use mathlib.Core.List.{List}
use borrow.Author.Tests.{ltb-true}
use Rattle.std.specs.Prelude.{Option, Some, None, Result, Ok, Err}
use mathlib.Core.Path.{◌≡◌, refl, sym, ◌∙◌, ap}
use Rattle.std.specs.Result.{IsErrAnd}
use Rattle.std.proofs.lemmas.Result.{err_from_is_err_and}
use Rattle.checks.specs.Checks.{row, first_of, changed}
use Rattle.checks.proofs.Chains.{first_passed, row_passed}
use Rattle.checks.proofs.Results.{refused_at_ok, refused_at_err}
use Rattle.checks.proofs.Tests.{both}
use Rattle.clock.specs.declared.time.Time.{Time}
use Rattle.clock.specs.Time.{in_range}
use Rattle.clock.specs.Check.{time_row}
use Rattle.scan.specs.declared.state.Scan.{Scan}
use Rattle.scan.specs.Check.{memory_ok, image_ok, check_scan}
use Rattle.scan.specs.Check as display
use Rattle.voltage.specs.Check as analog
use Rattle.controller.specs.declared.state.Nt7508.{Nt7508}
use Rattle.controller.specs.declared.state.Serial.{Serial}
use Rattle.controller.specs.declared.state.Power.{Power}
use Rattle.scan.specs.declared.check.Refusal as scan
use Rattle.controller.specs.declared.check.Refusal.{Refusal}
use Rattle.controller.specs.Closed.{check_but_scan}
use Rattle.controller.specs.State.{with_scan, with_power, with_serial}
use Rattle.controller.specs.Check.{number, of_scan, refused, valid_serial, valid_address, valid_power, valid_state, check_state, group_ok, in_order, check_moment, check_memory, check_lent, check_group, check_image, check_restore}

-- a state that passes numbers 3 to 5, group by group
pub record Valid (x : Nt7508) : Type 0 where
  pub serial : valid_serial x.serial ≡ true
  pub address : valid_address x.address ≡ true
  pub display : display.valid_settings x.display ≡ true
  pub analog : analog.valid_settings x.analog ≡ true
  pub power : valid_power x.power ≡ true
  pub scan : check_scan x.scan ≡ None

pub valid : (x : Nt7508) → check_state x ≡ None → Valid x
unfolding check_state valid_state
valid x h =
    let p = first_passed _ _ h in
    let a = both _ _ (row_passed 3 _ p.0) in
    let b = both _ _ a.0 in
    let c = both _ _ b.0 in
    let d = both _ _ c.0 in
    record { serial = d.0; address = d.1; display = c.1; analog = b.1; power = a.1; scan = p.1 }

pub valid_check : (x : Nt7508) → Valid x → check_state x ≡ None
unfolding check_state valid_state
valid_check x v = simp (v.serial, v.address, v.display, v.analog, v.power, v.scan)

-- seven bits at the most are under way
pub bits_below : (x : Nt7508) → check_state x ≡ None → x.serial.bits < 8
unfolding valid_serial
bits_below x h = ltb-true _ _ (both _ _ (valid x h).serial).0

-- a state that passes, with one group replaced by one that passes
module _ (x : Nt7508) (v : Valid x) where
  pub with_serial_valid : (l : Serial) → valid_serial l ≡ true → Valid (with_serial x l)
  unfolding with_serial
  with_serial_valid l h = record { serial = h; address = v.address; display = v.display; analog = v.analog; power = v.power; scan = v.scan }

  pub with_power_valid : (p : Power) → valid_power p ≡ true → Valid (with_power x p)
  unfolding with_power
  with_power_valid p h = record { serial = v.serial; address = v.address; display = v.display; analog = v.analog; power = h; scan = v.scan }

  pub with_scan_valid : (s : Scan) → check_scan s ≡ None → Valid (with_scan x s)
  unfolding with_scan
  with_scan_valid s h = record { serial = v.serial; address = v.address; display = v.display; analog = v.analog; power = v.power; scan = h }

-- every row of a chain that passes
record Rows (memory image time state restore group : Option ℕ) : Type 0 where
  memory_passed : memory ≡ None
  image_passed : image ≡ None
  time_passed : time ≡ None
  state_passed : state ≡ None
  restore_passed : restore ≡ None
  group_passed : group ≡ None

rows_passed : (memory image time state restore group : Option ℕ) → in_order memory image time state restore group ≡ None → Rows memory image time state restore group
unfolding in_order
rows_passed memory image time state restore group h =
    let a = first_passed memory _ h in
    let b = first_passed image _ a.1 in
    let c = first_passed time _ b.1 in
    let d = first_passed state _ c.1 in
    let e = first_passed restore group d.1 in
    record { memory_passed = a.0; image_passed = b.0; time_passed = c.0; state_passed = d.0; restore_passed = e.0; group_passed = e.1 }

-- what a call knows once its checks pass: one that takes a moment
pub record Timed (x : Nt7508) (now : Time) : Type 0 where
  pub in_range_lem : in_range now ≡ true
  pub state : check_state x ≡ None

pub timed : (x : Nt7508) (now : Time) → check_moment x now ≡ None → Timed x now
unfolding check_moment
timed x now h = let p = rows_passed _ _ _ _ _ _ h in record { in_range_lem = row_passed 1 _ p.time_passed; state = p.state_passed }

pub timed_check : (x : Nt7508) (now : Time) → Timed x now → check_moment x now ≡ None
unfolding check_moment in_order
timed_check x now t = simp (t.in_range_lem, t.state)

-- where the moment and the state passed checks of their own
pub both_passed : (x : Nt7508) (now : Time) → check_state x ≡ None → time_row now ≡ None → check_moment x now ≡ None
both_passed x now s t = timed_check x now (record { in_range_lem = row_passed 1 _ t; state = s })

-- one that takes lent memory
pub record Stored (x : Nt7508) (ram icons : List ℕ) : Type 0 where
  pub memory : memory_ok ram icons ≡ true
  pub state : check_state x ≡ None

pub stored : (x : Nt7508) (ram icons : List ℕ) → check_memory x ram icons ≡ None → Stored x ram icons
unfolding check_memory
stored x ram icons h = let p = rows_passed _ _ _ _ _ _ h in record { memory = row_passed 2 _ p.memory_passed; state = p.state_passed }

-- one that takes both
pub record Called (x : Nt7508) (now : Time) (ram icons : List ℕ) : Type 0 where
  pub memory : memory_ok ram icons ≡ true
  pub in_range_lem : in_range now ≡ true
  pub state : check_state x ≡ None

pub called : (x : Nt7508) (now : Time) (ram icons : List ℕ) → check_lent x now ram icons ≡ None → Called x now ram icons
unfolding check_lent
called x now ram icons h =
    let p = rows_passed _ _ _ _ _ _ h in
    record { memory = row_passed 2 _ p.memory_passed; in_range_lem = row_passed 1 _ p.time_passed; state = p.state_passed }

pub called_check : (x : Nt7508) (now : Time) (ram icons : List ℕ) → Called x now ram icons → check_lent x now ram icons ≡ None
unfolding check_lent in_order
called_check x now ram icons k = simp (k.memory, k.in_range_lem, k.state)

-- a group of bits
pub record Grouped (x : Nt7508) (bits count : ℕ) (now : Time) (ram icons : List ℕ) : Type 0 where
  pub lent : check_lent x now ram icons ≡ None
  pub group_ok_lem : group_ok bits count ≡ true

pub grouped : (x : Nt7508) (bits count : ℕ) (now : Time) (ram icons : List ℕ) → check_group x bits count now ram icons ≡ None → Grouped x bits count now ram icons
unfolding check_group
grouped x bits count now ram icons h =
    let p = rows_passed _ _ _ _ _ _ h in
    record {
      lent = called_check x now ram icons (record { memory = row_passed 2 _ p.memory_passed; in_range_lem = row_passed 1 _ p.time_passed; state = p.state_passed });
      group_ok_lem = row_passed 7 _ p.group_passed;
    }

-- an image
pub record Painted (x : Nt7508) (ram icons : List ℕ) (bytes : ℕ) : Type 0 where
  pub memory : memory_ok ram icons ≡ true
  pub image_ok_lem : image_ok bytes ≡ true
  pub state : check_state x ≡ None

pub painted_checks : (x : Nt7508) (ram icons : List ℕ) (bytes : ℕ) → check_image x ram icons bytes ≡ None → Painted x ram icons bytes
unfolding check_image
painted_checks x ram icons bytes h =
    let p = rows_passed _ _ _ _ _ _ h in
    record { memory = row_passed 2 _ p.memory_passed; image_ok_lem = row_passed 8 _ p.image_passed; state = p.state_passed }

-- a restored state
pub restored : (x : Nt7508) (now : Time) (ram icons : List ℕ) → check_restore x now ram icons ≡ None → Called x now ram icons
unfolding check_restore
restored x now ram icons h =
    let p = rows_passed _ _ _ _ _ _ h in
    record { memory = row_passed 2 _ p.memory_passed; in_range_lem = row_passed 1 _ p.time_passed; state = p.state_passed }

-- the scan's calls then pass theirs
module _ (x : Nt7508) (now : Time) where
  pub scan_timed : check_moment x now ≡ None → display.check_moment x.scan (display.valid_settings x.display) now ≡ None
  unfolding display.check_moment display.in_order
  scan_timed h = let t = timed x now h in let v = valid x t.state in simp (t.in_range_lem, v.display, v.scan)

  module _ (ram icons : List ℕ) where
    pub scan_called : check_lent x now ram icons ≡ None → display.check_lent x.scan (display.valid_settings x.display) now ram icons ≡ None
    unfolding display.check_lent display.in_order
    scan_called h = let k = called x now ram icons h in let v = valid x k.state in simp (k.memory, k.in_range_lem, v.display, v.scan)

    pub drive_called : check_lent x now ram icons ≡ None → display.check_lent x.scan (display.valid_settings x.display && analog.valid_settings x.analog) now ram icons ≡ None
    unfolding display.check_lent display.in_order
    drive_called h = let k = called x now ram icons h in let v = valid x k.state in simp (k.memory, k.in_range_lem, v.display, v.analog, v.scan)

pub image_called : (x : Nt7508) (ram icons : List ℕ) (bytes : ℕ) → check_image x ram icons bytes ≡ None → display.check_image x.display ram icons bytes ≡ None
unfolding display.check_image display.in_order
image_called x ram icons bytes h = let k = painted_checks x ram icons bytes h in let v = valid x k.state in simp (k.memory, k.image_ok_lem, v.display)

-- where the state passes, a call is turned down for its arguments alone
pub first_none : (a : Option ℕ) → first_of a None ≡ a
first_none None = refl
first_none (Some n) = refl

pub first_first : (a b c : Option ℕ) → first_of (first_of a b) c ≡ first_of a (first_of b c)
first_first None b c = refl
first_first (Some n) b c = refl

module _ (x : Nt7508) (h : check_state x ≡ None) where
  pub moment_alone : (now : Time) → check_moment x now ≡ row 1 (in_range now)
  unfolding check_moment in_order
  moment_alone now = simp h (first_none (row 1 (in_range now)))

  module _ {ok : Bool} (ram icons : List ℕ) (m : memory_ok ram icons ≡ ok) where
    pub lent_alone : (now : Time) → check_lent x now ram icons ≡ first_of (row 2 ok) (row 1 (in_range now))
    unfolding check_lent in_order
    lent_alone now = simp (h, m) (ap (first_of (row 2 ok)) (first_none (row 1 (in_range now))))

    pub group_alone : (bits count : ℕ) (now : Time) → check_group x bits count now ram icons ≡ first_of (row 2 ok) (first_of (row 1 (in_range now)) (row 7 (group_ok bits count)))
    unfolding check_group in_order
    group_alone bits count now = simp (h, m)

    pub image_alone : (bytes : ℕ) → check_image x ram icons bytes ≡ first_of (row 2 ok) (row 8 (image_ok bytes))
    unfolding check_image in_order
    image_alone bytes = simp (h, m) (ap (first_of (row 2 ok)) (first_none (row 8 (image_ok bytes))))

-- the checks of a call that takes a moment and lent memory are the scan's after all others
pub lent_chain : (x : Nt7508) (now : Time) (ram icons : List ℕ) → check_lent x now ram icons ≡ first_of (check_but_scan x now ram icons) (check_scan x.scan)
unfolding check_lent check_but_scan in_order check_state
lent_chain x now ram icons =
    let memory = row 2 (memory_ok ram icons) in
    let time = row 1 (in_range now) in
    let state = row 3 (valid_state x) in
    ap (λ (c : Option ℕ). first_of memory (first_of time c)) (first_none (first_of state (check_scan x.scan)))
    ∙ ap (first_of memory) (sym (first_first time state (check_scan x.scan)))
    ∙ sym (first_first memory (first_of time state) (check_scan x.scan))

-- and those of a group are these and then the group's
pub group_chain : (x : Nt7508) (bits count : ℕ) (now : Time) (ram icons : List ℕ) → check_group x bits count now ram icons ≡ first_of (check_lent x now ram icons) (row 7 (group_ok bits count))
unfolding check_group check_lent in_order
group_chain x bits count now ram icons =
    let memory = row 2 (memory_ok ram icons) in
    let time = row 1 (in_range now) in
    let group = row 7 (group_ok bits count) in
    ap (λ (c : Option ℕ). first_of memory (first_of time (first_of c group))) (sym (first_none (check_state x)))
    ∙ ap (first_of memory) (sym (first_first time (first_of (check_state x) None) group))
    ∙ sym (first_first memory (first_of time (first_of (check_state x) None)) group)

pub group_refuses : (x : Nt7508) (bits count : ℕ) (now : Time) (ram icons : List ℕ) → check_lent x now ram icons ≡ None → group_ok bits count ≡ false → Some 7 ≡ check_group x bits count now ram icons
group_refuses x bits count now ram icons l g = rw (group_chain x bits count now ram icons, l, g)

-- a refusal of the scan keeps its number
pub of_scan_number : (why : scan.Refusal) → number (of_scan why) ≡ display.number why
of_scan_number scan.Refusal.Memory = refl
of_scan_number scan.Refusal.Image = refl
of_scan_number scan.Refusal.Time = refl
of_scan_number scan.Refusal.Settings = refl
of_scan_number scan.Refusal.Scan = refl
of_scan_number scan.Refusal.Clock = refl

-- what a check that was opened by `?` says of its definition, where it passed and where not
module _ {A : Type 0} {check : Result A Refusal} {c : Option ℕ} (e : refused check ≡ c) where
  pub passes : {a : A} → check ≡ Ok a → c ≡ None
  passes h = refused_at_ok number check e h

  pub refuses : {why : Refusal} → check ≡ Err why → Some (number why) ≡ c
  refuses h = sym (refused_at_err number check e h)

  pub passed_answer : {B : Type 0} {a : A} (new given : B) → check ≡ Ok a → (None, new) ≡ changed c new given
  passed_answer new given h = rw (passes h)

  pub refused_answer : {B : Type 0} {why : Refusal} (new given : B) → check ≡ Err why → (Some (number why), given) ≡ changed c new given
  refused_answer new given h = rw (refused_at_err number check e h)

-- what the exit of a `?` returns
pub handed_on : {A : Type 0} {r : Result A Refusal} {why : Refusal} → IsErrAnd r (λ e. e ≡ why) → r ≡ Err why
handed_on {r = r} h = let p = err_from_is_err_and r h in p.1 ∙ ap Err p.2

-- the value of an answer that is known
pub ok_value : {A E : Type 0} {r : Result A E} {a b : A} → r ≡ Ok a → r ≡ Ok b → a ≡ b
ok_value {A} {E} {r} {a} {b} f g = let e : ◌≡◌ {A = Result A E} (Ok a) (Ok b) = sym f ∙ g in cc

-- a call that hands the state back, turned down or not
pub given_back : {A : Type 0} (check : Option ℕ) (a : A) → changed check a a ≡ (check, a)
given_back None a = refl
given_back (Some n) a = refl
