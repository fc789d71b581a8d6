-- A group of bits as a call of both runs.
use Prim.Native.Nat.{ℕ, suc, ◌+◌, ◌≤◌}
use mathlib.Core.Bool.{Bool, true, false, cond, ◌&&◌, false≢true}
use mathlib.Core.List.{List, [], ◌∷◌}
use Rattle.std.specs.Prelude.{Option, None, Some}
use mathlib.Core.Path.{◌≡◌, refl, sym, ◌∙◌, ap, ap₂}
use native.Mathlib.Nat.{le_refl, le_trans}
use native.Mathlib.Omega.{arith}
use lib.ListN.{length}
use Rattle.checks.specs.Checks.{row, first_of}
use Rattle.checks.proofs.Tests.{both}
use Rattle.clock.specs.declared.time.Time.{Time}
use Rattle.clock.specs.Time.{raw, in_range}
use Rattle.scan.specs.Check.{memory_ok}
use Rattle.controller.specs.Check.{group_ok, check_state, check_group}
use Rattle.controller.specs.Bits.{Outcome, quiet, edge, or_else, and_then, edges, unpacked, shift_in}
use Rattle.controller.proofs.Checks.{group_alone}
use Rattle.controller.proofs.Groups.{unpacked_length, or_none, or_or}
use Rattle.strike.specs.Calls.{Call, Reply, Machine, outcome, reply, after}
use Rattle.strike.specs.Marks.{Marked, Bit, bit, marked, group_of, kept_bits, all_struck, emptied, packed, group_call, left}
use Rattle.strike.specs.Line.{Line, takes, is_whole, follow_bit, follow_bits, accepted, unmarked, allowed_bits, allowed_group}
use Rattle.strike.specs.Strike.{ends_struck, eventless}
use Rattle.strike.proofs.Packs.{packed_ok, group_few, unpacked_packed, packed_group}
use Rattle.strike.proofs.Bits.{few_bits}
use Rattle.strike.proofs.Runs.{Runs, all_bits, move, moves, carried, group_runs, runs_later}
use Rattle.strike.proofs.Tells.{say, tells, told}

-- ---- edges as the controller has them
edges_moves : (bs : List Bool) (now : Time) (o : Outcome) → outcome (edges bs now o) ≡ moves bs now (outcome o)
unfolding edges moves and_then
edges_moves [] now o = refl
edges_moves (b ∷ bs) now o = edges_moves bs now (and_then o (edge o.state b now o.ram o.icons))

edges_tells : (bs : List Bool) (now : Time) (o : Outcome) → (edges bs now o).event ≡ or_else o.event (tells bs now (outcome o))
unfolding edges tells and_then
edges_tells [] now o = sym (or_none o.event)
edges_tells (b ∷ bs) now o =
    edges_tells bs now (and_then o (edge o.state b now o.ram o.icons))
    ∙ or_or o.event (say b now (outcome o)) (tells bs now (move b now (outcome o)))

-- the check of a group on a state that passes
abbrev argued : (ok : Bool) → (now : Time) → (count bits : ℕ) → Option ℕ
argued ok now count bits = first_of (row 2 ok) (first_of (row 1 (in_range now)) (row 7 (group_ok bits count)))

accepted_parts : (ok : Bool) (now : Time) (count bits : ℕ) → accepted ok now count bits ≡ true → (ok ≡ true) × ((in_range now ≡ true) × (group_ok bits count ≡ true))
unfolding accepted
accepted_parts ok now count bits h =
    let p = both (ok && in_range now) (group_ok bits count) h in
    let q = both ok (in_range now) p.0 in
    (q.0, (q.1, p.1))

record Refused (r : Option ℕ) : Type 0 where
  number : ℕ
  is : r ≡ Some number

refused_number : (ok : Bool) (now : Time) (count bits : ℕ) → accepted ok now count bits ≡ false → Refused (argued ok now count bits)
unfolding accepted
refused_number ok now count bits h = go ok (in_range now) (group_ok bits count) h
  where
    go : (ok i g : Bool) → ok && i && g ≡ false → Refused (first_of (row 2 ok) (first_of (row 1 i) (row 7 g)))
    go false i g h = record { number = 2; is = refl }
    go true false g h = record { number = 1; is = refl }
    go true true false h = record { number = 7; is = refl }
    go true true true h = absurd (false≢true (sym h))

module _ (now : Time) (count bits : ℕ) (m : Machine) (good : check_state m.state ≡ None) where
  -- it is taken
  module _ (mem : memory_ok m.ram m.icons ≡ true) (i : in_range now ≡ true) (g : group_ok bits count ≡ true) where
    passes : check_group m.state bits count now m.ram m.icons ≡ None
    passes = group_alone m.state good m.ram m.icons mem bits count now ∙ simp (i, g)

    after_taken : after (Call.Bits now count bits) m ≡ moves (unpacked count bits) now m
    unfolding after shift_in
    after_taken = simp passes (edges_moves (unpacked count bits) now (quiet m.state m.ram m.icons))

    reply_taken : reply (Call.Bits now count bits) m ≡ Reply.Told None (tells (unpacked count bits) now m)
    unfolding reply shift_in or_else
    reply_taken = simp passes (ap (Reply.Told None) (edges_tells (unpacked count bits) now (quiet m.state m.ram m.icons)))

  -- it is refused
  module _ (n : ℕ) {ok : Bool} (mem : memory_ok m.ram m.icons ≡ ok) (e : argued ok now count bits ≡ Some n) where
    refuses : check_group m.state bits count now m.ram m.icons ≡ Some n
    refuses = group_alone m.state good m.ram m.icons mem bits count now ∙ e

    after_refused : after (Call.Bits now count bits) m ≡ m
    unfolding after shift_in
    after_refused = simp refuses

    reply_refused : reply (Call.Bits now count bits) m ≡ Reply.Told (Some n) None
    unfolding reply shift_in
    reply_refused = simp refuses

-- ---- marks
all_marked : (bs marks : List Bool) → all_bits (marked bs marks) ≡ bs
unfolding all_bits marked
all_marked [] marks = refl
all_marked (b ∷ bs) [] = ap (λ (r : List Bool). b ∷ r) (all_marked bs [])
all_marked (b ∷ bs) (k ∷ ks) = ap (λ (r : List Bool). b ∷ r) (all_marked bs ks)

kept_fewer : (bs : List Bit) → length (kept_bits bs) ≤ length (all_bits bs)
unfolding kept_bits all_bits
kept_fewer [] = le_refl 0
kept_fewer (bit b true ∷ bs) = let h = kept_fewer bs in omega arith
kept_fewer (bit b false ∷ bs) = let h = kept_fewer bs in omega arith

all_length : (bs : List Bit) → length (all_bits bs) ≡ length bs
unfolding all_bits
all_length [] = refl
all_length (bit b k ∷ bs) = ap suc (all_length bs)

none_left : (bs : List Bit) → all_struck bs ≡ true → kept_bits bs ≡ []
unfolding all_struck kept_bits
none_left [] h = refl
none_left (bit b true ∷ bs) h = none_left bs h
none_left (bit b false ∷ bs) h = absurd (false≢true h)

emptied_none : (bs : List Bit) → emptied bs ≡ true → kept_bits bs ≡ []
unfolding emptied kept_bits
emptied_none [] h = refl
emptied_none (b ∷ bs) h = none_left (b ∷ bs) h

-- where nothing is marked all bits are kept, and no struck byte ends
unmarked_kept : (bs marks : List Bool) → unmarked marks ≡ true → kept_bits (marked bs marks) ≡ bs
unfolding kept_bits marked unmarked
unmarked_kept [] marks h = refl
unmarked_kept (b ∷ bs) [] h = ap (λ (r : List Bool). b ∷ r) (unmarked_kept bs [] refl)
unmarked_kept (b ∷ bs) (true ∷ ks) h = absurd (false≢true h)
unmarked_kept (b ∷ bs) (false ∷ ks) h = ap (λ (r : List Bool). b ∷ r) (unmarked_kept bs ks h)

and-false : (a : Bool) → a && false ≡ false
and-false true = refl
and-false false = refl

no_struck : (l : Line) (bs : List Bool) → ends_struck l (marked bs []) ≡ false
unfolding ends_struck marked
no_struck l [] = refl
no_struck l (b ∷ bs) = rw (and-false (is_whole (b ∷ l.bits) && takes l)) (no_struck (follow_bit l (bit b false)) bs)

module _ (now : Time) (count bits : ℕ) (marks : List Bool) where
  -- a group of which nothing is struck is the group
  pub whole_left : unmarked marks ≡ true → left (Marked.Bits now count bits marks) ≡ Call.Bits now count bits
  unfolding left group_of group_call
  whole_left u = go (group_ok bits count) refl
    where
      go : (g : Bool) → group_ok bits count ≡ g → cond g (group_call now (kept_bits (cond g (marked (unpacked count bits) marks) []))) (Call.Bits now count bits) ≡ Call.Bits now count bits
      go false g = refl
      go true g =
          ap (group_call now) (unmarked_kept (unpacked count bits) marks u)
          ∙ ap₂ (Call.Bits now) (unpacked_length count bits) (packed_group bits count g)

  module _ (g : group_ok bits count ≡ true) where
    all_of : all_bits (group_of count bits marks) ≡ unpacked count bits
    unfolding group_of
    all_of = rw g (all_marked (unpacked count bits) marks)

    few_of : length (group_of count bits marks) ≤ 8
    few_of = let few = group_few bits count g in let len = unpacked_length count bits in let same = ap length all_of in omega (arith, all_length (group_of count bits marks))

    kept_few : length (kept_bits (group_of count bits marks)) ≤ 8
    kept_few = let few = few_of in omega (arith, kept_fewer (group_of count bits marks), all_length (group_of count bits marks))

    left_is : left (Marked.Bits now count bits marks) ≡ group_call now (kept_bits (group_of count bits marks))
    unfolding left
    left_is = rw g

-- what is kept of a group, as a call
module _ (now : Time) (bs : List Bool) (few : length bs ≤ 8) (n : Machine) (good : check_state n.state ≡ None) (mem : memory_ok n.ram n.icons ≡ true) (i : in_range now ≡ true) where
  after_kept : after (group_call now bs) n ≡ moves bs now n
  unfolding group_call
  after_kept = after_taken now (length bs) (packed bs) n good mem i (packed_ok bs few) ∙ ap (λ (cs : List Bool). moves cs now n) (unpacked_packed bs)

  reply_kept : reply (group_call now bs) n ≡ Reply.Told None (tells bs now n)
  unfolding group_call
  reply_kept = reply_taken now (length bs) (packed bs) n good mem i (packed_ok bs few) ∙ ap (λ (cs : List Bool). Reply.Told None (tells cs now n)) (unpacked_packed bs)

-- ---- a group in both runs
pub record Next (ok : Bool) (last : ℕ) (l : Line) (m n : Machine) : Type 0 where
  pub at : Time
  pub runs : Runs ok at l m n
  pub early : raw at ≤ last

pub full_good : {ok : Bool} {at : Time} {l : Line} {m n : Machine} → Runs ok at l m n → check_state m.state ≡ None
full_good w = ap (λ (m : Machine). check_state m.state) w.full_is ∙ w.full_ok

pub kept_good : {ok : Bool} {at : Time} {l : Line} {m n : Machine} → Runs ok at l m n → check_state n.state ≡ None
kept_good w = ap (λ (m : Machine). check_state m.state) w.kept_is ∙ w.kept_ok

pub full_memory : {ok : Bool} {at : Time} {l : Line} {m n : Machine} → Runs ok at l m n → memory_ok m.ram m.icons ≡ ok
full_memory w = ap (λ (m : Machine). memory_ok m.ram m.icons) w.full_is ∙ w.memory

pub kept_memory : {ok : Bool} {at : Time} {l : Line} {m n : Machine} → Runs ok at l m n → memory_ok n.ram n.icons ≡ ok
kept_memory w = ap (λ (m : Machine). memory_ok m.ram m.icons) w.kept_is ∙ w.memory

module _ (ok : Bool) (last : ℕ) (l : Line) (m n : Machine) (w : Next ok last l m n) (now : Time) (count bits : ℕ) (marks : List Bool) (le : last ≤ raw now) where
  abbrev g : List Bit
  g = group_of count bits marks

  abbrev call : Call
  call = Call.Bits now count bits

  -- taken
  module _ (t : accepted ok now count bits ≡ true) (allowed_it : allowed_bits l g ≡ true) where
    ok_true : ok ≡ true
    ok_true = (accepted_parts ok now count bits t).0

    i_true : in_range now ≡ true
    i_true = (accepted_parts ok now count bits t).1.0

    g_true : group_ok bits count ≡ true
    g_true = (accepted_parts ok now count bits t).1.1

    at_now : Runs true now l m n
    at_now = carried (sym ok_true) refl refl (runs_later now w.runs (le_trans w.early le) i_true)

    both_ran : Runs true now (follow_bits l g) (moves (all_bits g) now m) (moves (kept_bits g) now n)
    both_ran = group_runs now g l m n at_now allowed_it

    full_ran : after call m ≡ moves (all_bits g) now m
    full_ran = after_taken now count bits m (full_good at_now) (full_memory at_now) i_true g_true ∙ ap (λ (bs : List Bool). moves bs now m) (sym (all_of now count bits marks g_true))

    kept_ran : after (left (Marked.Bits now count bits marks)) n ≡ moves (kept_bits g) now n
    kept_ran =
        ap (λ (c : Call). after c n) (left_is now count bits marks g_true)
        ∙ after_kept now (kept_bits g) (kept_few now count bits marks g_true) n (kept_good at_now) (kept_memory at_now) i_true

    step_taken : Next ok (raw now) (follow_bits l g) (after call m) (after (left (Marked.Bits now count bits marks)) n)
    step_taken = record {
      at = now;
      runs = carried ok_true full_ran kept_ran both_ran;
      early = le_refl (raw now);
    }

    gone_taken : emptied g ≡ true → Next ok (raw now) (follow_bits l g) (after call m) n
    unfolding moves
    gone_taken e = record {
      at = now;
      runs = carried ok_true full_ran (ap (λ (bs : List Bool). moves bs now n) (sym (emptied_none g e))) both_ran;
      early = le_refl (raw now);
    }

    same_told : reply (left (Marked.Bits now count bits marks)) n ≡ cond (ends_struck l g) (eventless (reply call m)) (reply call m)
    same_told =
        ap (λ (c : Call). reply c n) (left_is now count bits marks g_true)
        ∙ reply_kept now (kept_bits g) (kept_few now count bits marks g_true) n (kept_good at_now) (kept_memory at_now) i_true
        ∙ ap (Reply.Told None) (told now g l m n at_now allowed_it few)
        ∙ go (ends_struck l g)
        ∙ ap (λ (r : Reply). cond (ends_struck l g) (eventless r) r) (sym full_told)
      where
        few : length l.bits + length g ≤ 15
        few = let a = few_bits at_now.c l.bits at_now.x at_now.full_ok in omega (arith, few_of now count bits marks g_true)

        full_told : reply call m ≡ Reply.Told None (tells (all_bits g) now m)
        full_told =
            reply_taken now count bits m (full_good at_now) (full_memory at_now) i_true g_true
            ∙ ap (λ (bs : List Bool). Reply.Told None (tells bs now m)) (sym (all_of now count bits marks g_true))

        go : (e : Bool) → Reply.Told None (cond e None (tells (all_bits g) now m)) ≡ cond e (eventless (Reply.Told None (tells (all_bits g) now m))) (Reply.Told None (tells (all_bits g) now m))
        go true = refl
        go false = refl

  -- refused
  module _ (t : accepted ok now count bits ≡ false) where
    same_m : after call m ≡ m
    same_m = let r = refused_number ok now count bits t in after_refused now count bits m (full_good w.runs) r.number (full_memory w.runs) r.is

    same_n : after call n ≡ n
    same_n = let r = refused_number ok now count bits t in after_refused now count bits n (kept_good w.runs) r.number (kept_memory w.runs) r.is

    gone_refused : Next ok (raw now) l (after call m) n
    gone_refused = record {
      at = w.at;
      runs = carried refl same_m refl w.runs;
      early = le_trans w.early le;
    }

    step_refused : unmarked marks ≡ true → Next ok (raw now) l (after call m) (after (left (Marked.Bits now count bits marks)) n)
    step_refused u = record {
      at = w.at;
      runs = carried refl same_m (ap (λ (c : Call). after c n) (whole_left now count bits marks u) ∙ same_n) w.runs;
      early = le_trans w.early le;
    }

    same_refused : unmarked marks ≡ true → reply (left (Marked.Bits now count bits marks)) n ≡ reply call m
    same_refused u =
        let r = refused_number ok now count bits t in
        ap (λ (c : Call). reply c n) (whole_left now count bits marks u)
        ∙ reply_refused now count bits n (kept_good w.runs) r.number (kept_memory w.runs) r.is
        ∙ sym (reply_refused now count bits m (full_good w.runs) r.number (full_memory w.runs) r.is)

  -- either
  pub step_group : allowed_group ok l now count bits marks ≡ true
      → Next ok (raw now) (cond (accepted ok now count bits) (follow_bits l g) l) (after call m) (after (left (Marked.Bits now count bits marks)) n)
  unfolding allowed_group
  step_group h = go (accepted ok now count bits) refl h
    where
      go : (t : Bool) → accepted ok now count bits ≡ t → cond t (allowed_bits l g) (unmarked marks) ≡ true → Next ok (raw now) (cond t (follow_bits l g) l) (after call m) (after (left (Marked.Bits now count bits marks)) n)
      go true t h = step_taken t h
      go false t h = step_refused t h

  pub gone_group : allowed_group ok l now count bits marks ≡ true → emptied g ≡ true → Next ok (raw now) (cond (accepted ok now count bits) (follow_bits l g) l) (after call m) n
  unfolding allowed_group
  gone_group h e = go (accepted ok now count bits) refl h
    where
      go : (t : Bool) → accepted ok now count bits ≡ t → cond t (allowed_bits l g) (unmarked marks) ≡ true → Next ok (raw now) (cond t (follow_bits l g) l) (after call m) n
      go true t h = gone_taken t h e
      go false t h = gone_refused t

  pub same_group : allowed_group ok l now count bits marks ≡ true → reply (left (Marked.Bits now count bits marks)) n ≡ cond (accepted ok now count bits && ends_struck l g) (eventless (reply call m)) (reply call m)
  unfolding allowed_group
  same_group h = go (accepted ok now count bits) refl h
    where
      go : (t : Bool) → accepted ok now count bits ≡ t → cond t (allowed_bits l g) (unmarked marks) ≡ true → reply (left (Marked.Bits now count bits marks)) n ≡ cond (t && ends_struck l g) (eventless (reply call m)) (reply call m)
      go true t h = same_told t h
      go false t h = same_refused t h

-- a group that stays whole has no struck byte
pub whole_group : (l : Line) (ok : Bool) (now : Time) (count bits : ℕ) → accepted ok now count bits && ends_struck l (group_of count bits []) ≡ false
unfolding group_of accepted
whole_group l ok now count bits = go (group_ok bits count)
  where
    go : (g : Bool) → ok && in_range now && g && ends_struck l (cond g (marked (unpacked count bits) []) []) ≡ false
    go true = rw (no_struck l (unpacked count bits)) (and-false (ok && in_range now && true))
    go false = rw (and-false (ok && in_range now))
