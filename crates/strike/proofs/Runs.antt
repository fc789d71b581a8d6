-- The two runs beside the line, kept by a bit and by a group of bits.
use Prim.Native.Nat.{ℕ, suc, ◌≤◌, ◌<◌}
use mathlib.Core.Bool.{Bool, true, false, cond, not, ◌&&◌, ◌||◌, false≢true}
use mathlib.Core.List.{List, [], ◌∷◌}
use Rattle.std.specs.Prelude.{Option, None, Some}
use mathlib.Core.Path.{◌≡◌, refl, sym, ◌∙◌, ap}
use native.Mathlib.Omega.{arith}
use lib.Dec.{eqb}
use lib.ListN.{length}
use borrow.Author.Tests.{eqb-true, eqb-false}
use Rattle.checks.proofs.Tests.{both}
use Rattle.clock.specs.declared.time.Time.{Time}
use Rattle.clock.specs.Time.{raw, in_range}
use Rattle.scan.specs.declared.state.Scan.{Scan}
use Rattle.scan.specs.Check.{memory_ok}
use Rattle.scan.proofs.Agree.{Agree, agree_later}
use Rattle.controller.specs.declared.state.Nt7508.{Nt7508}
use Rattle.controller.specs.declared.event.Stepped.{Stepped}
use Rattle.controller.specs.State.{with_serial}
use Rattle.controller.specs.Check.{awaits, check_state}
use Rattle.controller.specs.Event.{ram_after, icons_after}
use Rattle.controller.specs.Command.{acted}
use Rattle.controller.specs.Byte.{byte_taken}
use Rattle.controller.specs.Bits.{with_bits, performed, edge}
use Rattle.controller.proofs.Checks.{called_check}
use Rattle.controller.proofs.Registers.{nop_acted}
use Rattle.controller.proofs.Bytes.{byte_valid}
use Rattle.controller.proofs.Parts.{is_awaiting, stored_memory}
use Rattle.strike.specs.Calls.{Machine, outcome}
use Rattle.strike.specs.Marks.{Bit, bit, kept_bits}
use Rattle.strike.specs.Line.{Line, takes, is_whole, value, past, amid, taken_bit, follow_bit, follow_bits, may_strike, goes_on, allowed_taken, is_struck, allowed_bit, allowed_bits}
use Rattle.strike.proofs.Bytes.{state_of, Alike, base, step, before, onward, byte_on, byte_alike, idle_on, idle_alike}
use Rattle.strike.proofs.Bits.{value_byte, few_bits, other_bits, settings_valid, scan_valid, edge_idle, edge_more, edge_whole}

-- the bits under way in the kept run
abbrev pub kept_under : Line → List Bool
kept_under l = cond l.struck [] l.bits

abbrev pub machine : Nt7508 → (ram icons : List ℕ) → Machine
machine x ram icons = record { state = x; ram = ram; icons = icons }

-- the runs have the same registers and memory, the kept run none of the bits of a struck byte, and scans that agreed at a moment
pub record Runs (ok : Bool) (at : Time) (l : Line) (m n : Machine) : Type 0 where
  pub c : Nt7508
  pub x : Scan
  pub y : Scan
  pub ram : List ℕ
  pub icons : List ℕ
  pub alike : Alike at l c x y ram icons
  pub full_is : m ≡ machine (state_of c l.bits x) ram icons
  pub kept_is : n ≡ machine (state_of c (kept_under l) y) ram icons
  pub full_ok : check_state (state_of c l.bits x) ≡ None
  pub kept_ok : check_state (state_of c (kept_under l) y) ≡ None
  pub memory : memory_ok ram icons ≡ ok
  pub in_range_lem : in_range at ≡ true

-- one edge on a machine
abbrev pub move : Bool → Time → Machine → Machine
move b now m = outcome (edge m.state b now m.ram m.icons)

-- ---- one bit
pub goes_on_lem : (bits : List Bool) (was k : Bool) → goes_on bits was k ≡ true → cond was [] bits ≡ cond k [] bits
unfolding goes_on
goes_on_lem [] true true h = refl
goes_on_lem [] true false h = refl
goes_on_lem [] false true h = refl
goes_on_lem [] false false h = refl
goes_on_lem (b ∷ bits) true true h = refl
goes_on_lem (b ∷ bits) true false h = absurd (false≢true h)
goes_on_lem (b ∷ bits) false true h = absurd (false≢true h)
goes_on_lem (b ∷ bits) false false h = refl

-- ---- what may be struck, fact by fact. Each is by cases, so that it asks nothing of how `may_strike` is written
module _ (l : Line) (v : ℕ) (may : may_strike l v ≡ true) where
  -- a struck byte is E3
  struck_is_e3 : v ≡ 0xe3
  unfolding may_strike
  struck_is_e3 = go l.is_data l.awaiting (eqb v 0xe3) refl refl refl
    where
      go : (d w e : Bool) → l.is_data ≡ d → l.awaiting ≡ w → eqb v 0xe3 ≡ e → v ≡ 0xe3
      go d w true hd hw he = eqb-true v 0xe3 he
      go true true false hd hw he = absurd (false≢true (simp (hd, hw, he) at may))
      go true false false hd hw he = absurd (false≢true (simp (hd, hw, he) at may))
      go false true false hd hw he = absurd (false≢true (simp (hd, hw, he) at may))
      go false false false hd hw he = absurd (false≢true (simp (hd, hw, he) at may))

  -- it is no data
  struck_is_command : l.is_data ≡ false
  unfolding may_strike
  struck_is_command = go l.is_data l.awaiting (eqb v 0xe3) refl refl refl
    where
      go : (d w e : Bool) → l.is_data ≡ d → l.awaiting ≡ w → eqb v 0xe3 ≡ e → l.is_data ≡ false
      go false w e hd hw he = hd
      go true true true hd hw he = absurd (false≢true (simp (hd, hw, he) at may))
      go true true false hd hw he = absurd (false≢true (simp (hd, hw, he) at may))
      go true false true hd hw he = absurd (false≢true (simp (hd, hw, he) at may))
      go true false false hd hw he = absurd (false≢true (simp (hd, hw, he) at may))

  -- no parameter is awaited
  struck_is_no_parameter : l.awaiting ≡ false
  unfolding may_strike
  struck_is_no_parameter = go l.is_data l.awaiting (eqb v 0xe3) refl refl refl
    where
      go : (d w e : Bool) → l.is_data ≡ d → l.awaiting ≡ w → eqb v 0xe3 ≡ e → l.awaiting ≡ false
      go d false e hd hw he = hw
      go true true true hd hw he = absurd (false≢true (simp (hd, hw, he) at may))
      go true true false hd hw he = absurd (false≢true (simp (hd, hw, he) at may))
      go false true true hd hw he = absurd (false≢true (simp (hd, hw, he) at may))
      go false true false hd hw he = absurd (false≢true (simp (hd, hw, he) at may))

not_awaiting : (p : Option ℕ) → is_awaiting p ≡ false → p ≡ None
not_awaiting None h = refl
not_awaiting (Some c) h = absurd (false≢true (sym h))

-- a byte leaves a state that passes its checks
byte_ok : (c : Nt7508) (x : Scan) (v : ℕ) (now : Time) (ram icons : List ℕ) → v < 256 → in_range now ≡ true → memory_ok ram icons ≡ true → check_state (state_of c [] x) ≡ None
    → check_state (byte_taken (state_of c [] x) v now ram icons).state ≡ None
byte_ok c x v now ram icons h i mem ok = byte_valid (state_of c [] x) v now ram icons h (called_check (state_of c [] x) now ram icons (record { memory = mem; in_range_lem = i; state = ok }))

-- E3 awaits no parameter
nop_free : awaits 0xe3 ≡ false
unfolding awaits
nop_free = refl

-- and leaves every register as it was
nop_idle : (c : Nt7508) → is_awaiting c.serial.pending ≡ false → acted (with_serial c (with_bits c.serial 0 0)) 0xe3 ≡ with_serial c (with_bits c.serial 0 0)
unfolding with_serial
nop_idle c h = nop_acted (with_serial c (with_bits c.serial 0 0)) (not_awaiting c.serial.pending h)

module _ (now : Time) (l : Line) (c : Nt7508) (x y : Scan) (ram icons : List ℕ) (a : Alike now l c x y ram icons)
    (full_ok : check_state (state_of c l.bits x) ≡ None) (kept_ok : check_state (state_of c (kept_under l) y) ≡ None)
    (mem : memory_ok ram icons ≡ true) (i : in_range now ≡ true) (b : Bool) where
  abbrev here : Machine
  here = machine (state_of c l.bits x) ram icons

  abbrev there : Machine
  there = machine (state_of c (kept_under l) y) ram icons

  -- it is not taken
  not_taken : takes l ≡ false → Runs true now l (move b now here) (move b now there)
  not_taken h = record {
    c = c;
    x = x;
    y = y;
    ram = ram;
    icons = icons;
    alike = a;
    full_is = ap outcome (edge_idle l c l.bits x a.tied b now ram icons h);
    kept_is = ap outcome (edge_idle l c (kept_under l) y a.tied b now ram icons h);
    full_ok = full_ok;
    kept_ok = kept_ok;
    memory = mem;
    in_range_lem = i;
  }

  -- it is one more bit of its byte
  module _ (h : takes l ≡ true) (w : is_whole (b ∷ l.bits) ≡ false) (k : Bool) where
    amid_alike : Alike now (amid l (b ∷ l.bits) k) c x y ram icons
    unfolding amid
    amid_alike = record {
      tied = record {
        selected = a.tied.selected;
        is_data = a.tied.is_data;
        awaiting = a.tied.awaiting;
        supplied = a.tied.supplied;
        cold = a.tied.cold;
        wait = a.tied.wait;
      };
      agree = a.agree;
      quiet = a.quiet;
      still = a.still;
    }

    few : length (b ∷ l.bits) < 8
    unfolding is_whole
    few = let h = few_bits c l.bits x full_ok in let d = eqb-false (suc (length l.bits)) 8 w in omega arith

    abbrev grown : Machine
    grown = machine (state_of c (b ∷ l.bits) x) ram icons

    full_grown : move b now here ≡ grown
    full_grown = ap outcome (edge_more l c l.bits x a.tied b now ram icons h (few_bits c l.bits x full_ok) w)

    -- the bits under way in the kept run are those of the full one, if this bit stays, and none, if it is struck
    module _ (ok : goes_on l.bits l.struck k ≡ true) where
      under : kept_under l ≡ cond k [] l.bits
      under = goes_on_lem l.bits l.struck k ok

      kept_grown : (k' : Bool) → k ≡ k' → cond k' there (move b now there) ≡ machine (state_of c (cond k' [] (b ∷ l.bits)) y) ram icons
      kept_grown true e = ap (λ (bs : List Bool). machine (state_of c bs y) ram icons) (under ∙ ap (λ (t : Bool). cond t [] l.bits) e)
      kept_grown false e =
          let same = under ∙ ap (λ (t : Bool). cond t [] l.bits) e in
          ap (λ (bs : List Bool). move b now (machine (state_of c bs y) ram icons)) same
          ∙ ap outcome (edge_more l c l.bits y a.tied b now ram icons h (few_bits c l.bits x full_ok) w)

      kept_under_lem : (k' : Bool) → length (cond k' [] (b ∷ l.bits)) < 8
      kept_under_lem true = omega arith
      kept_under_lem false = few

      one_more_lem : Runs true now (amid l (b ∷ l.bits) k) (move b now here) (cond k there (move b now there))
      unfolding amid
      one_more_lem = record {
        c = c;
        x = x;
        y = y;
        ram = ram;
        icons = icons;
        alike = amid_alike;
        full_is = full_grown;
        kept_is = kept_grown k refl;
        full_ok = other_bits c l.bits x full_ok (b ∷ l.bits) few;
        kept_ok = other_bits c (kept_under l) y kept_ok (cond k [] (b ∷ l.bits)) (kept_under_lem k);
        memory = mem;
        in_range_lem = i;
      }

  -- it is the last of its byte
  module _ (h : takes l ≡ true) (w : is_whole (b ∷ l.bits) ≡ true) where
    abbrev v : ℕ
    v = value (b ∷ l.bits)

    v_byte : v < 256
    unfolding is_whole
    v_byte = value_byte (b ∷ l.bits) (let few = few_bits c l.bits x full_ok in omega arith)

    none_full : check_state (state_of c [] x) ≡ None
    none_full = other_bits c l.bits x full_ok [] (omega arith)

    none_kept : check_state (state_of c [] y) ≡ None
    none_kept = other_bits c (kept_under l) y kept_ok [] (omega arith)

    full_byte : move b now here ≡ outcome (performed (byte_taken (state_of c [] x) v now ram icons) ram icons)
    full_byte = ap outcome (edge_whole l c l.bits x a.tied b now ram icons h (few_bits c l.bits x full_ok) w)

    -- the byte stays
    module _ (same : kept_under l ≡ l.bits) where
      kept_byte : move b now there ≡ outcome (performed (byte_taken (state_of c [] y) v now ram icons) ram icons)
      kept_byte =
          ap (λ (bs : List Bool). move b now (machine (state_of c bs y) ram icons)) same
          ∙ ap outcome (edge_whole l c l.bits y a.tied b now ram icons h (few_bits c l.bits x full_ok) w)

      whole_byte_lem : Runs true now (past l v) (move b now here) (move b now there)
      unfolding past
      whole_byte_lem =
          let s = step c v now ram icons in
          record {
            c = s.state;
            x = onward c v now ram icons s (before c v now ram icons x);
            y = onward c v now ram icons s (before c v now ram icons y);
            ram = ram_after s.store ram;
            icons = icons_after s.store icons;
            alike = byte_alike c v now ram icons l x y h i (settings_valid c [] x none_full) (scan_valid c [] x none_full) (scan_valid c [] y none_kept) a;
            full_is = full_byte ∙ ap (λ (r : Stepped). outcome (performed r ram icons)) (byte_on c v now ram icons x);
            kept_is = kept_byte ∙ ap (λ (r : Stepped). outcome (performed r ram icons)) (byte_on c v now ram icons y);
            full_ok = ap (λ (r : Stepped). check_state r.state) (sym (byte_on c v now ram icons x)) ∙ byte_ok c x v now ram icons v_byte i mem none_full;
            kept_ok = ap (λ (r : Stepped). check_state r.state) (sym (byte_on c v now ram icons y)) ∙ byte_ok c y v now ram icons v_byte i mem none_kept;
            memory = stored_memory s.store ram icons ∙ mem;
            in_range_lem = i;
          }

    -- the byte is struck: a command that leaves every register as it was
    module _ (none_under : kept_under l ≡ []) (command : l.is_data ≡ false) (free : l.awaiting ≡ false) (none_awaited : awaits v ≡ false) (idle : acted (base c v now ram icons) v ≡ base c v now ram icons) where
      struck_byte : Runs true now (past l v) (move b now here) there
      unfolding past
      struck_byte =
          let vs = settings_valid c [] x none_full in
          let vx = scan_valid c [] x none_full in
          let vy = scan_valid c [] y none_kept in
          let on = idle_on c v now ram icons l x y h i vs vx vy a command free none_awaited idle in
          record {
            c = c;
            x = before c v now ram icons x;
            y = y;
            ram = ram;
            icons = icons;
            alike = idle_alike c v now ram icons l x y h i vs vx vy a command free none_awaited idle;
            full_is = full_byte ∙ ap (λ (r : Stepped). outcome (performed r ram icons)) on;
            kept_is = ap (λ (bs : List Bool). machine (state_of c bs y) ram icons) none_under;
            full_ok = ap (λ (r : Stepped). check_state r.state) (sym on) ∙ byte_ok c x v now ram icons v_byte i mem none_full;
            kept_ok = none_kept;
            memory = mem;
            in_range_lem = i;
          }

  -- a bit that is allowed, struck or not
  one_of : (k : Bool) → allowed_bit l (bit b k) ≡ true → Runs true now (follow_bit l (bit b k)) (move b now here) (cond k there (move b now there))
  unfolding follow_bit taken_bit allowed_bit allowed_taken is_struck
  one_of k ok = go (takes l) (is_whole (b ∷ l.bits)) refl refl k ok
    where
      go : (t w : Bool) → takes l ≡ t → is_whole (b ∷ l.bits) ≡ w → (k : Bool)
          → cond t (goes_on l.bits l.struck k && (not (k && w) || may_strike l (value (b ∷ l.bits)))) (not k) ≡ true
          → Runs true now (cond t (cond w (past l (value (b ∷ l.bits))) (amid l (b ∷ l.bits) k)) l) (move b now here) (cond k there (move b now there))
      go false w h e true ok = absurd (false≢true ok)
      go false w h e false ok = not_taken h
      go true false h e k ok = one_more_lem h e k (both (goes_on l.bits l.struck k) _ ok).0
      go true true h e false ok = whole_byte_lem h e (goes_on_lem l.bits l.struck false (both _ true ok).0)
      go true true h e true ok =
          let p = both _ (may_strike l (value (b ∷ l.bits))) ok in
          let free = struck_is_no_parameter l (value (b ∷ l.bits)) p.1 in
          let is_e3 : v h e ≡ 0xe3 = struck_is_e3 l (value (b ∷ l.bits)) p.1 in
          struck_byte h e (goes_on_lem l.bits l.struck true p.0) (struck_is_command l (value (b ∷ l.bits)) p.1) free
          (ap awaits is_e3 ∙ nop_free) (ap (acted (base c 0 now ram icons)) is_e3 ∙ nop_idle c (a.tied.awaiting ∙ free))

-- of machines that are equal
pub carried : {ok ok' : Bool} {at : Time} {l : Line} {m m' n n' : Machine} → ok ≡ ok' → m ≡ m' → n ≡ n' → Runs ok' at l m' n' → Runs ok at l m n
carried e f g w = record {
  c = w.c;
  x = w.x;
  y = w.y;
  ram = w.ram;
  icons = w.icons;
  alike = w.alike;
  full_is = f ∙ w.full_is;
  kept_is = g ∙ w.kept_is;
  full_ok = w.full_ok;
  kept_ok = w.kept_ok;
  memory = w.memory ∙ sym e;
  in_range_lem = w.in_range_lem;
}

-- ---- bits one after another
unfoldable pub all_bits : List Bit → List Bool
all_bits [] = []
all_bits (bit b k ∷ bs) = b ∷ all_bits bs

unfoldable pub moves : List Bool → Time → Machine → Machine
moves [] now m = m
moves (b ∷ bs) now m = moves bs now (move b now m)

module _ (now : Time) where
  pub one_bit : (l : Line) (m n : Machine) → Runs true now l m n → (b k : Bool) → allowed_bit l (bit b k) ≡ true → Runs true now (follow_bit l (bit b k)) (move b now m) (cond k n (move b now n))
  one_bit l m n w b k ok =
      carried refl (ap (move b now) w.full_is) (ap (λ (n : Machine). cond k n (move b now n)) w.kept_is)
      (one_of now l w.c w.x w.y w.ram w.icons w.alike w.full_ok w.kept_ok w.memory w.in_range_lem b k ok)

  pub group_runs : (bs : List Bit) (l : Line) (m n : Machine) → Runs true now l m n → allowed_bits l bs ≡ true → Runs true now (follow_bits l bs) (moves (all_bits bs) now m) (moves (kept_bits bs) now n)
  unfolding allowed_bits follow_bits all_bits kept_bits moves
  group_runs [] l m n w ok = w
  group_runs (bit b true ∷ bs) l m n w ok = let p = both _ _ ok in group_runs bs (follow_bit l (bit b true)) (move b now m) n (one_bit l m n w b true p.0) p.1
  group_runs (bit b false ∷ bs) l m n w ok = let p = both _ _ ok in group_runs bs (follow_bit l (bit b false)) (move b now m) (move b now n) (one_bit l m n w b false p.0) p.1

-- ---- later moments
pub agree_at : {ok : Bool} {at : Time} (now : Time) {l : Line} {m n : Machine} (w : Runs ok at l m n) → raw at ≤ raw now → in_range now ≡ true → Agree w.x w.y w.c.display now w.ram w.icons
agree_at {ok} {at} now {l} w le i =
    agree_later w.c.display w.ram w.icons (settings_valid w.c l.bits w.x w.full_ok) at now w.in_range_lem i le w.x w.y
    (scan_valid w.c l.bits w.x w.full_ok) (scan_valid w.c (kept_under l) w.y w.kept_ok) w.alike.agree

pub runs_later : {ok : Bool} {at : Time} (now : Time) {l : Line} {m n : Machine} → Runs ok at l m n → raw at ≤ raw now → in_range now ≡ true → Runs ok now l m n
runs_later now w le i = record {
  c = w.c;
  x = w.x;
  y = w.y;
  ram = w.ram;
  icons = w.icons;
  alike = record { tied = w.alike.tied; agree = agree_at now w le i; quiet = w.alike.quiet; still = w.alike.still };
  full_is = w.full_is;
  kept_is = w.kept_is;
  full_ok = w.full_ok;
  kept_ok = w.kept_ok;
  memory = w.memory;
  in_range_lem = i;
}
