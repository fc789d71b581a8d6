-- Groups of bits: a group is its edges one after another, so that cut in two it is the same group. Edges that complete no byte
-- only shift; those that complete one are the byte; a state that passes its checks passes them after an edge.
use Prim.Native.Nat.{ℕ, zero, suc, ◌+◌, ◌-◌, ◌*◌, ◌/◌, ◌%◌, ◌^◌, ◌≤◌, ◌<◌}
use mathlib.Core.Bool.{Bool, true, false, cond}
use mathlib.Core.List.{List, [], ◌∷◌, ◌++◌}
use mathlib.Core.Path.{◌≡◌, refl, sym, ◌∙◌, ap, ap₂}
use native.Mathlib.Nat.{le_refl, zero-add, one-mul, suc-add, add_comm, mod-lt, mod-eq_of_lt, div-one, div-add-mod', add-mul-mod_self_right, pow-suc}
use native.Mathlib.Numerals.{suc-eq-add-one}
use native.Mathlib.Omega.{arith}
use lib.Dec.{ltb, eqb}
use lib.ListN.{length}
use lib.Pow.{pow_pos, shl_exact, field, mod-mod-pow, shr-shr, shr_lt}
use mir.Val.{bool_byte}
use borrow.Author.Tests.{ltb-true, lt-ltb, le-leb, leb-true, eqb-false, eq-eqb, ne_eqb}
use Rattle.std.specs.Prelude.{Option, Some, None}
use Rattle.checks.specs.Checks.{first_of}
use Rattle.checks.proofs.Tests.{both}
use Rattle.clock.specs.declared.time.Time.{Time}
use Rattle.controller.specs.declared.state.Nt7508.{Nt7508}
use Rattle.controller.specs.declared.event.Event.{Event}
use Rattle.controller.specs.declared.event.Stepped.{Stepped}
use Rattle.controller.specs.State.{with_serial}
use Rattle.controller.specs.Check.{valid_pending, valid_serial, check_state, group_ok, in_order, check_lent, check_group}
use Rattle.controller.specs.Event.{ram_after, icons_after}
use Rattle.controller.specs.Byte.{byte_taken}
use Rattle.controller.specs.Bits.{Outcome, taking, shifted_in, with_bits, quiet, performed, bit_taken, edge, or_else, and_then, edges, bit_at, unpacked, rising, shift_in}
use Rattle.controller.proofs.Checks.{valid, valid_check, called, called_check, grouped}
use Rattle.controller.proofs.Bytes.{byte_valid, byte_serial}
use Rattle.controller.proofs.Parts.{stored_memory}

-- one, shifted within a word
pub one_shifted : (w p : ℕ) → p < w → 1 * 2 ^ p % 2 ^ w ≡ 2 ^ p
one_shifted w p h = shl_exact 1 p w (omega arith) (omega arith) ∙ one-mul (2 ^ p)

-- the bits of a group: so many, the highest first
pub unpacked_length : (n bits : ℕ) → length (unpacked n bits) ≡ n
unfolding unpacked
unpacked_length zero bits = refl
unpacked_length (suc n) bits = ap suc (unpacked_length n bits)

bit_low : (n k bits : ℕ) → n < k → bit_at (bits % 2 ^ k) n ≡ bit_at bits n
bit_low n k bits h =
    let e : k ≡ k - suc n + 1 + n = omega arith in
    ap (λ (v : ℕ). eqb (bits % 2 ^ v / 2 ^ n % 2) 1) e
    ∙ ap (λ (v : ℕ). eqb (v % 2) 1) (field bits (k - suc n + 1) n)
    ∙ ap (λ (v : ℕ). eqb v 1) (mod-mod-pow (bits / 2 ^ n) (k - suc n) 1)

pub unpacked_low : (n k bits : ℕ) → n ≤ k → unpacked n (bits % 2 ^ k) ≡ unpacked n bits
unfolding unpacked
unpacked_low zero k bits h = refl
unpacked_low (suc n) k bits h = ap₂ ◌∷◌ (bit_low n k bits (omega arith)) (unpacked_low n k bits (omega arith))

pub unpacked_append : (m n bits : ℕ) → unpacked (m + n) bits ≡ unpacked m (bits / 2 ^ n) ++ unpacked n (bits % 2 ^ n)
unfolding unpacked
unpacked_append zero n bits = ap (λ (v : ℕ). unpacked v bits) (zero-add n) ∙ sym (unpacked_low n n bits (le_refl n))
unpacked_append (suc m) n bits =
    ap (λ (v : ℕ). unpacked v bits) (suc-add m n)
    ∙ ap₂ ◌∷◌
    (ap (λ (v : ℕ). eqb (bits / 2 ^ v % 2) 1) (add_comm m n) ∙ sym (ap (λ (v : ℕ). eqb (v % 2) 1) (shr-shr bits n m)))
    (unpacked_append m n bits)

-- edges one list after another
pub edges_append : (xs ys : List Bool) (now : Time) (o : Outcome) → edges (xs ++ ys) now o ≡ edges ys now (edges xs now o)
unfolding edges
edges_append [] ys now o = refl
edges_append (b ∷ xs) ys now o = edges_append xs ys now (and_then o (edge o.state b now o.ram o.icons))

pub edges_cut : (m n bits : ℕ) (now : Time) (o : Outcome) → edges (unpacked (m + n) bits) now o ≡ edges (unpacked n (bits % 2 ^ n)) now (edges (unpacked m (bits / 2 ^ n)) now o)
edges_cut m n bits now o = ap (λ (bs : List Bool). edges bs now o) (unpacked_append m n bits) ∙ edges_append (unpacked m (bits / 2 ^ n)) (unpacked n (bits % 2 ^ n)) now o

-- events joined: nothing before, nothing after, and one after another
none_then : (o p : Outcome) → o.event ≡ None → and_then o p ≡ p
unfolding and_then or_else
none_then o p h = simp h

pub or_none : (e : Option Event) → or_else e None ≡ e
unfolding or_else
or_none None = refl
or_none (Some e) = refl

pub or_or : (d e f : Option Event) → or_else (or_else d e) f ≡ or_else d (or_else e f)
unfolding or_else
or_or None e f = refl
or_or (Some d) e f = refl

then_quiet : (o : Outcome) → and_then o (quiet o.state o.ram o.icons) ≡ o
unfolding and_then
then_quiet o = λ i. record { state = o.state; event = or_none o.event i; ram = o.ram; icons = o.icons }

then_then : (o p q : Outcome) → and_then (and_then o p) q ≡ and_then o (and_then p q)
unfolding and_then
then_then o p q = λ i. record { state = q.state; event = or_or o.event p.event q.event i; ram = q.ram; icons = q.icons }

-- edges on what a call left, and on the state and memory alone
pub edges_then : (bs : List Bool) (now : Time) (o : Outcome) → edges bs now o ≡ and_then o (edges bs now (quiet o.state o.ram o.icons))
unfolding edges and_then
edges_then [] now o = sym (then_quiet o)
edges_then (b ∷ bs) now o =
    let e = edge o.state b now o.ram o.icons in
    edges_then bs now (and_then o e)
    ∙ then_then o e (edges bs now (quiet e.state e.ram e.icons))
    ∙ ap (and_then o) (sym (edges_then bs now e) ∙ ap (edges bs now) (sym (none_then (quiet o.state o.ram o.icons) e refl)))

-- where no bits are taken, edges leave all as it is
edge_idle : (b : Bool) (now : Time) (o : Outcome) → taking o.state ≡ false → and_then o (edge o.state b now o.ram o.icons) ≡ o
unfolding edge
edge_idle b now o h = rw h (then_quiet o)

pub edges_idle : (bs : List Bool) (now : Time) (o : Outcome) → taking o.state ≡ false → edges bs now o ≡ o
unfolding edges
edges_idle [] now o h = refl
edges_idle (b ∷ bs) now o h = ap (edges bs now) (edge_idle b now o h) ∙ edges_idle bs now o h

-- a bit is the number of its value, and a number with bits below it comes one bit at a time to the same
bit_value : (v : ℕ) → v < 2 → cond (eqb (v % 2) 1) 1 0 ≡ v
bit_value zero h = refl
bit_value (suc zero) h = refl
bit_value (suc (suc v)) h = absurd (omega arith)

mod_inner : (x p r : ℕ) → (x % 256 * p + r) % 256 ≡ (x * p + r) % 256
mod_inner x p r =
    let e : x % 256 * p + r + x / 256 * p * 256 ≡ x * p + r = omega (arith, ap (λ (v : ℕ). v * p + r) (div-add-mod' x 256)) in
    sym (add-mul-mod_self_right (x % 256 * p + r) (x / 256 * p) 256) ∙ ap (λ (v : ℕ). v % 256) e

joined_bit : (s n b : ℕ) → b < 2 ^ suc n → ((s * 2 + cond (bit_at b n) 1 0) % 256 * 2 ^ n + b % 2 ^ n) % 256 ≡ (s * 2 ^ suc n + b) % 256
joined_bit s n b h =
    let low : b / 2 ^ n < 2 = shr_lt 1 n (rw (add_comm 1 n, ← suc-eq-add-one n) h) in
    let e : (s * 2 + b / 2 ^ n) * 2 ^ n + b % 2 ^ n ≡ s * 2 ^ suc n + b = rw (pow-suc 2 n) (omega (arith, div-add-mod' b (2 ^ n))) in
    ap (λ (v : ℕ). ((s * 2 + v) % 256 * 2 ^ n + b % 2 ^ n) % 256) (bit_value (b / 2 ^ n) low)
    ∙ mod_inner (s * 2 + b / 2 ^ n) (2 ^ n) (b % 2 ^ n)
    ∙ ap (λ (v : ℕ). v % 256) e

-- the state with one bit more and with several, where they complete no byte, and an outcome with another state
abbrev one_more : Nt7508 → (bit : Bool) → Nt7508
one_more x bit = with_serial x (with_bits x.serial (shifted_in x.serial bit) (x.serial.bits + 1))

abbrev pub grown_by : Nt7508 → (n b : ℕ) → Nt7508
grown_by x n b = with_serial x (with_bits x.serial ((x.serial.shift * 2 ^ n + b) % 256) (x.serial.bits + n))

abbrev pub with_state : Outcome → Nt7508 → Outcome
with_state o x = record { state = x; event = o.event; ram = o.ram; icons = o.icons }

-- the byte that bits complete
abbrev pub whole_byte : Nt7508 → (n b : ℕ) → Time → (ram icons : List ℕ) → Stepped
whole_byte x n b now ram icons = byte_taken (with_serial x (with_bits x.serial 0 0)) ((x.serial.shift * 2 ^ n + b) % 256) now ram icons

-- bits of the serial line do not say whether bits are taken
taking_bits : (x : Nt7508) (s k : ℕ) → taking (with_serial x (with_bits x.serial s k)) ≡ taking x
unfolding taking with_serial
taking_bits x s k = refl

-- one edge that is taken
module _ (b : Bool) (now : Time) (o : Outcome) (t : taking o.state ≡ true) where
  edge_short : o.state.serial.bits + 1 < 8 → and_then o (edge o.state b now o.ram o.icons) ≡ with_state o (one_more o.state b)
  unfolding edge bit_taken and_then
  edge_short h = simp (t, ne_eqb (o.state.serial.bits + 1) 8 (λ e. omega arith), or_none)

  edge_whole : o.state.serial.bits + 1 ≡ 8 → and_then o (edge o.state b now o.ram o.icons) ≡ and_then o (performed (byte_taken (with_serial o.state (with_bits o.state.serial 0 0)) (shifted_in o.state.serial b) now o.ram o.icons) o.ram o.icons)
  unfolding edge bit_taken
  edge_whole h = simp (t, eq-eqb (o.state.serial.bits + 1) 8 h)

-- the first edge of a group, where it completes no byte
first_short : (n b : ℕ) (now : Time) (o : Outcome) → taking o.state ≡ true → o.state.serial.bits + 1 < 8 → edges (unpacked (suc n) b) now o ≡ edges (unpacked n (b % 2 ^ n)) now (with_state o (one_more o.state (bit_at b n)))
unfolding edges unpacked
first_short n b now o t h = ap₂ (λ (bs : List Bool) (p : Outcome). edges bs now p) (sym (unpacked_low n n b (le_refl n))) (edge_short (bit_at b n) now o t h)

-- edges that complete no byte only shift
pub edges_short : (n b : ℕ) (now : Time) (o : Outcome) → taking o.state ≡ true → o.state.serial.bits + n < 8 → o.state.serial.shift < 256 → b < 2 ^ n → edges (unpacked n b) now o ≡ with_state o (grown_by o.state n b)
unfolding edges unpacked with_serial
edges_short zero b now o t h f r =
    ap₂ (λ (s k : ℕ). with_state o (with_serial o.state (with_bits o.state.serial s k)))
    (sym (mod-eq_of_lt f) ∙ ap (λ (v : ℕ). v % 256) (omega arith))
    (omega arith)
edges_short (suc n) b now o t h f r =
    let l = o.state.serial in
    first_short n b now o t (omega arith)
    ∙ edges_short n (b % 2 ^ n) now (with_state o (one_more o.state (bit_at b n))) (taking_bits o.state (shifted_in l (bit_at b n)) (l.bits + 1) ∙ t) (omega arith) (mod-lt _ (omega arith)) (mod-lt b (pow_pos n))
    ∙ ap₂ (λ (s k : ℕ). with_state o (with_serial o.state (with_bits l s k))) (joined_bit l.shift n b r) (omega arith)

-- edges that complete a byte are the byte
whole : (n b : ℕ) (now : Time) (o : Outcome) → taking o.state ≡ true → o.state.serial.bits + suc n ≡ 8 → b < 2 ^ suc n → edges (unpacked (suc n) b) now o ≡ and_then o (performed (whole_byte o.state (suc n) b now o.ram o.icons) o.ram o.icons)
unfolding edges unpacked with_serial and_then
whole zero b now o t h r =
    let x = o.state in
    edge_whole (bit_at b 0) now o t (omega arith)
    ∙ ap (λ (v : ℕ). and_then o (performed (byte_taken (with_serial x (with_bits x.serial 0 0)) ((x.serial.shift * 2 + v) % 256) now o.ram o.icons) o.ram o.icons)) (ap (λ (v : ℕ). cond (eqb (v % 2) 1) 1 0) (div-one b) ∙ bit_value b r)
whole (suc n) b now o t h r =
    let l = o.state.serial in
    first_short (suc n) b now o t (omega arith)
    ∙ whole n (b % 2 ^ suc n) now (with_state o (one_more o.state (bit_at b (suc n)))) (taking_bits o.state (shifted_in l (bit_at b (suc n))) (l.bits + 1) ∙ t) (omega arith) (mod-lt b (pow_pos (suc n)))
    ∙ ap (λ (v : ℕ). and_then o (performed (byte_taken (with_serial o.state (with_bits l 0 0)) v now o.ram o.icons) o.ram o.icons)) (joined_bit l.shift (suc n) b r)

pub edges_whole : (n b : ℕ) (now : Time) (o : Outcome) → taking o.state ≡ true → o.state.serial.bits + n ≡ 8 → 0 < n → b < 2 ^ n → o.event ≡ None → edges (unpacked n b) now o ≡ performed (whole_byte o.state n b now o.ram o.icons) o.ram o.icons
edges_whole zero b now o t h p r e = absurd (omega arith)
edges_whole (suc n) b now o t h p r e = whole n b now o t h r ∙ none_then o _ e

-- after a byte bits are taken as before it, and none is under way
pub byte_taking : (x : Nt7508) (b : ℕ) (now : Time) (ram icons : List ℕ) → taking (byte_taken x b now ram icons).state ≡ taking x
unfolding taking
byte_taking x b now ram icons = let k = byte_serial x b now ram icons in simp (k.selected, k.supplied, k.ready)

module _ (x : Nt7508) (b : ℕ) (now : Time) (ram icons : List ℕ) where
  pub byte_shift : (byte_taken (with_serial x (with_bits x.serial 0 0)) b now ram icons).state.serial.shift ≡ 0
  unfolding with_serial
  byte_shift = (byte_serial (with_serial x (with_bits x.serial 0 0)) b now ram icons).shift

  pub byte_bits : (byte_taken (with_serial x (with_bits x.serial 0 0)) b now ram icons).state.serial.bits ≡ 0
  unfolding with_serial
  byte_bits = (byte_serial (with_serial x (with_bits x.serial 0 0)) b now ram icons).bits

-- a group that completes a byte and goes on: the byte, and what is left of the group on the state that it left
pub edges_over : (x : Nt7508) (count bits : ℕ) (now : Time) (ram icons : List ℕ) → taking x ≡ true → x.serial.bits < 8 → 8 - x.serial.bits ≤ count → count ≤ 8 → bits < 2 ^ count →
    let needed = 8 - x.serial.bits in
    let rest = count - needed in
    let s = whole_byte x needed (bits / 2 ^ rest) now ram icons in
    edges (unpacked count bits) now (quiet x ram icons) ≡ performed (record { state = grown_by s.state rest (bits % 2 ^ rest); event = s.event; store = s.store }) ram icons
edges_over x count bits now ram icons t f h c r =
    let needed = 8 - x.serial.bits in
    let rest = count - needed in
    let b = (x.serial.shift * 2 ^ needed + bits / 2 ^ rest) % 256 in
    let s = whole_byte x needed (bits / 2 ^ rest) now ram icons in
    let e : count ≡ needed + rest = omega arith in
    ap (λ (v : ℕ). edges (unpacked v bits) now (quiet x ram icons)) e
    ∙ edges_cut needed rest bits now (quiet x ram icons)
    ∙ ap (edges (unpacked rest (bits % 2 ^ rest)) now) (edges_whole needed (bits / 2 ^ rest) now (quiet x ram icons) t (omega arith) (omega arith) (shr_lt needed rest (rw e at r)) refl)
    ∙ edges_short rest (bits % 2 ^ rest) now (performed s ram icons) (byte_taking _ b now ram icons ∙ taking_bits x 0 0 ∙ t) (omega (arith, byte_bits x b now ram icons)) (omega (arith, byte_shift x b now ram icons)) (mod-lt bits (pow_pos rest))

-- a state that passes its checks passes them with other bits under way, and after an edge
pub bits_valid : (x : Nt7508) (s k : ℕ) (now : Time) (ram icons : List ℕ) → k < 8 → check_lent x now ram icons ≡ None → check_lent (with_serial x (with_bits x.serial s k)) now ram icons ≡ None
unfolding with_serial valid_serial
bits_valid x s k now ram icons h l =
    let c = called x now ram icons l in
    let v = valid x c.state in
    let p = both (ltb x.serial.bits 8) (valid_pending x.serial.pending) v.serial in
    called_check _ now ram icons (record {
      memory = c.memory;
      in_range_lem = c.in_range_lem;
      state = valid_check _ (record { serial = simp (lt-ltb k 8 h, p.1); address = v.address; display = v.display; analog = v.analog; power = v.power; scan = v.scan });
    })

-- seven bits at the most are under way
pub bits_below_lem : (x : Nt7508) (now : Time) (ram icons : List ℕ) → check_lent x now ram icons ≡ None → x.serial.bits < 8
unfolding valid_serial
bits_below_lem x now ram icons l = ltb-true _ _ (both _ _ (valid x (called x now ram icons l).state).serial).0

-- a state that passes goes with what a byte stored
stored_valid : (x : Nt7508) (s : Stepped) (now : Time) (ram icons : List ℕ) → check_lent x now ram icons ≡ None → check_state s.state ≡ None → check_lent s.state now (ram_after s.store ram) (icons_after s.store icons) ≡ None
stored_valid x s now ram icons l h =
    let c = called x now ram icons l in
    called_check s.state now _ _ (record { memory = stored_memory s.store ram icons ∙ c.memory; in_range_lem = c.in_range_lem; state = h })

pub edge_valid : (x : Nt7508) (bit : Bool) (now : Time) (ram icons : List ℕ) → check_lent x now ram icons ≡ None → check_lent (edge x bit now ram icons).state now (edge x bit now ram icons).ram (edge x bit now ram icons).icons ≡ None
unfolding edge bit_taken
edge_valid x bit now ram icons l = go (taking x) refl (eqb (x.serial.bits + 1) 8) refl
  where
    go : (t : Bool) → taking x ≡ t → (e : Bool) → eqb (x.serial.bits + 1) 8 ≡ e → check_lent (edge x bit now ram icons).state now (edge x bit now ram icons).ram (edge x bit now ram icons).icons ≡ None
    go false p e q = simp p l
    go true p false q = simp (p, q) (bits_valid x (shifted_in x.serial bit) (x.serial.bits + 1) now ram icons (omega (arith, bits_below_lem x now ram icons l, eqb-false (x.serial.bits + 1) 8 q)) l)
    go true p true q =
        let y = with_serial x (with_bits x.serial 0 0) in
        let b = shifted_in x.serial bit in
        simp (p, q) (stored_valid x (byte_taken y b now ram icons) now ram icons l (byte_valid y b now ram icons (mod-lt _ (omega arith)) (bits_valid x 0 0 now ram icons (omega arith) l)))

pub edges_valid : (bs : List Bool) (now : Time) (o : Outcome) → check_lent o.state now o.ram o.icons ≡ None → check_lent (edges bs now o).state now (edges bs now o).ram (edges bs now o).icons ≡ None
unfolding edges and_then
edges_valid [] now o l = l
edges_valid (b ∷ bs) now o l = edges_valid bs now (and_then o (edge o.state b now o.ram o.icons)) (edge_valid o.state b now o.ram o.icons l)

-- a group passes its checks where the call's other checks and its own row pass
pub group_check : (x : Nt7508) (bits count : ℕ) (now : Time) (ram icons : List ℕ) → check_lent x now ram icons ≡ None → group_ok bits count ≡ true → check_group x bits count now ram icons ≡ None
unfolding check_group in_order
group_check x bits count now ram icons l g = let c = called x now ram icons l in simp (c.memory, c.in_range_lem, c.state, g)

-- its count and its bits
pub group_bounds : (bits count : ℕ) → group_ok bits count ≡ true → (count ≤ 8) × (bits < 2 ^ count)
unfolding group_ok
group_bounds bits count h = let p = both _ _ h in (leb-true count 8 p.0, ltb-true bits (2 ^ count) p.1)

pub group_count : (bits count : ℕ) → group_ok bits count ≡ true → count ≤ 8
group_count bits count h = (group_bounds bits count h).0

pub cut_ok : (bits m n : ℕ) → group_ok bits (m + n) ≡ true → (group_ok (bits / 2 ^ n) m ≡ true) × (group_ok (bits % 2 ^ n) n ≡ true)
unfolding group_ok
cut_ok bits m n h =
    let p = group_bounds bits (m + n) h in (
      simp (le-leb m 8 (omega arith), lt-ltb (bits / 2 ^ n) (2 ^ m) (shr_lt m n p.1)),
      simp (le-leb n 8 (omega arith), lt-ltb (bits % 2 ^ n) (2 ^ n) (mod-lt bits (pow_pos n))),
    )

-- a group that passes its checks is its edges
pub group_passed : (x : Nt7508) (bits count : ℕ) (now : Time) (ram icons : List ℕ) → check_group x bits count now ram icons ≡ None → shift_in x bits count now ram icons ≡ (None, edges (unpacked count bits) now (quiet x ram icons))
unfolding shift_in
group_passed x bits count now ram icons h = simp h

-- a call, and a call on the state and memory that it left: the first refusal of the two, and their events joined
abbrev pub followed : Option ℕ × Outcome → (Outcome → Option ℕ × Outcome) → Option ℕ × Outcome
followed a f = (first_of a.0 (f a.1).0, and_then a.1 (f a.1).1)

-- a group is the same group cut in two
pub group_cut : (x : Nt7508) (bits m n : ℕ) (now : Time) (ram icons : List ℕ) → check_group x bits (m + n) now ram icons ≡ None →
    shift_in x bits (m + n) now ram icons ≡ followed (shift_in x (bits / 2 ^ n) m now ram icons) (λ o. shift_in o.state (bits % 2 ^ n) n now o.ram o.icons)
group_cut x bits m n now ram icons h =
    let g = grouped x bits (m + n) now ram icons h in
    let k = cut_ok bits m n g.group_ok_lem in
    let o = edges (unpacked m (bits / 2 ^ n)) now (quiet x ram icons) in
    let l = edges_valid (unpacked m (bits / 2 ^ n)) now (quiet x ram icons) g.lent in
    let second : Outcome → Option ℕ × Outcome = λ o. shift_in o.state (bits % 2 ^ n) n now o.ram o.icons in
    group_passed x bits (m + n) now ram icons h
    ∙ ap (λ (p : Outcome). (None, p)) (edges_cut m n bits now (quiet x ram icons) ∙ edges_then (unpacked n (bits % 2 ^ n)) now o)
    ∙ sym (ap (λ (a : Option ℕ × Outcome). followed a second) (group_passed x (bits / 2 ^ n) m now ram icons (group_check x (bits / 2 ^ n) m now ram icons g.lent k.0))
    ∙ ap (λ (r : Option ℕ × Outcome). (r.0, and_then o r.1)) (group_passed o.state (bits % 2 ^ n) n now o.ram o.icons (group_check o.state (bits % 2 ^ n) n now o.ram o.icons l k.1)))

-- one edge is a group of one
pub group_of_one : (x : Nt7508) (bit : Bool) (now : Time) (ram icons : List ℕ) → shift_in x (cond bit 1 0) 1 now ram icons ≡ rising x bit now ram icons
unfolding shift_in rising check_group check_lent in_order group_ok edges unpacked and_then or_else
group_of_one x true now ram icons = refl
group_of_one x false now ram icons = refl

-- with the bit as the number that code casts it to
pub one_bit : (x : Nt7508) (bit : Bool) (now : Time) (ram icons : List ℕ) → shift_in x (bool_byte bit) 1 now ram icons ≡ rising x bit now ram icons
one_bit x true now ram icons = group_of_one x true now ram icons
one_bit x false now ram icons = group_of_one x false now ram icons
