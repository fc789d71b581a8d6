-- A session line by line: what is left to do and to print, from a line on.
use Prim.Native.Nat.{ℕ, ◌+◌, ◌≤◌, ◌<◌}
use mathlib.Core.Bool.{true, false}
use mathlib.Core.List.{List, [], ◌∷◌, ◌++◌, append_assoc}
use Rattle.std.specs.Prelude.{Option, None, Some, Err}
use mathlib.Core.Path.{◌≡◌, refl, sym, ◌∙◌, ap}
use lib.ListN.{length, drop}
use borrow.Author.Tests.{le-leb, lt-leb}
use Rattle.controller.specs.declared.state.Nt7508.{Nt7508}
use Rattle.session.specs.declared.line.Line.{Line}
use Rattle.session.specs.declared.session.Stop.{Stop}
use Rattle.session.specs.declared.session.Why.{Why}
use Rattle.session.specs.declared.session.Ended.{Ended}
use Rattle.strike.specs.Calls.{Machine, start}
use Rattle.decimal.specs.Print.{put}
use Rattle.decimal.proofs.Printing.{put_append}
use Rattle.session.specs.Text.{opens, lines_of}
use Rattle.session.specs.Line.{line_of}
use Rattle.session.specs.Listing.{listing_names, refusal_text}
use Rattle.session.specs.Session.{Turn, Run, turn_of, onward, run_from, run_of, listing, laid, session, number, refused_at, answered}
use Rattle.session.specs.Closed.{machine_of, turned, stepped, step_of, stopped_as, stopped_by, laid_from}

-- a session with something printed before it
laid_shown :
    (p : List ℕ × ℕ) (shown : List ℕ) (r : Run)
    → laid_from p (record { machine = r.machine; rows = shown ++ r.rows; refusal = r.refusal }) ≡ laid_from (put p shown) r
unfolding laid_from
laid_shown p shown r =
    let e : put p ((shown ++ r.rows) ++ refusal_text r.refusal) ≡ put (put p shown) (r.rows ++ refusal_text r.refusal) = simp (append_assoc, put_append) in
    λ i. record { refusal = r.refusal; machine = r.machine; out = (e i).0; written = (e i).1 }

-- a refused line shows nothing
nothing_shown : (l : Option Line) (m : Machine) (p : List ℕ × ℕ) (number : ℕ) → (turn_of l m).refusal ≡ Some number → put p (turn_of l m).shown ≡ p
unfolding turn_of put
nothing_shown None m p number h = refl
nothing_shown (Some l) m p number h = rw h

-- past a line, and stopped by it
module _ (p : List ℕ × ℕ) (line : ℕ) (l : List ℕ) (ls : List (List ℕ)) (m : Machine) where
  t : Turn
  t = turn_of (line_of l) m

  run_on : (turn_of (line_of l) m).refusal ≡ None → laid_from p (run_from line (l ∷ ls) m) ≡ laid_from (put p (turn_of (line_of l) m).shown) (run_from (line + 1) ls (turn_of (line_of l) m).machine)
  unfolding run_from t
  run_on h = ap (λ (c : Option ℕ). laid_from p (onward c line t (run_from (line + 1) ls))) h ∙ laid_shown p t.shown (run_from (line + 1) ls t.machine)

  run_stopped : (number : ℕ) → (turn_of (line_of l) m).refusal ≡ Some number → laid_from p (run_from line (l ∷ ls) m) ≡ laid_from p (record { machine = (turn_of (line_of l) m).machine; rows = []; refusal = Some (number, line) })
  unfolding run_from t
  run_stopped number h = ap (λ (c : Option ℕ). laid_from p (onward c line t (run_from (line + 1) ls))) h

-- a line, as far as its refusal: malformed, or refused by its call
pub malformed_step : (m : Machine) (p : List ℕ × ℕ) → stepped (Err Why.Line) m p ≡ step_of (turn_of None m) p
unfolding turn_of put
malformed_step m p = refl

pub refused_step : (us : ℕ) (why : Why) (m : Machine) (p : List ℕ × ℕ) {t : Turn} → turned us (Err why) m ≡ t → stepped (Err why) m p ≡ step_of t p
unfolding put
refused_step us why m p e = λ i. ((e i).refusal, ((e i).machine, put p (e i).shown))

-- the loop: what was done in a turn of it against the line's own
module _ (p : List ℕ × ℕ) (line : ℕ) (l : List ℕ) (ls : List (List ℕ)) (m : Machine) {c : Option ℕ} {after : Machine} {q : List ℕ × ℕ} (e : (c, (after, q)) ≡ step_of (turn_of (line_of l) m) p) where
  pub goes_on_lem : c ≡ None → laid_from p (run_from line (l ∷ ls) m) ≡ laid_from q (run_from (line + 1) ls after)
  goes_on_lem h =
      run_on p line l ls m (sym (ap (λ (r : Option ℕ × (Machine × (List ℕ × ℕ))). r.0) e) ∙ h)
      ∙ sym (ap (λ (r : Option ℕ × (Machine × (List ℕ × ℕ))). laid_from r.1.1 (run_from (line + 1) ls r.1.0)) e)

  pub stops :
      (number : ℕ) → c ≡ Some number
      → laid_from p (run_from line (l ∷ ls) m) ≡ laid_from q (record { machine = after; rows = []; refusal = Some (number, line) })
  stops number h =
      let refused : (turn_of (line_of l) m).refusal ≡ Some number = sym (ap (λ (r : Option ℕ × (Machine × (List ℕ × ℕ))). r.0) e) ∙ h in
      run_stopped p line l ls m number refused
      ∙ ap (λ (r : List ℕ × ℕ). laid_from r (record { machine = (turn_of (line_of l) m).machine; rows = []; refusal = Some (number, line) })) (sym (nothing_shown (line_of l) m p number refused))
      ∙ sym (ap (λ (r : Option ℕ × (Machine × (List ℕ × ℕ))). laid_from r.1.1 (record { machine = r.1.0; rows = []; refusal = Some (number, line) })) e)

-- a session that ended, and one that a line stopped
pub ended_answer : (p : List ℕ × ℕ) (line : ℕ) (m : Machine) → record { refusal = None; machine = m; out = p.0; written = p.1 } ≡ laid_from p (run_from line [] m)
unfolding laid_from run_from refusal_text put
ended_answer p line m = refl

pub stopped_answer :
    (r : Ended) (x : Nt7508) (p : List ℕ × ℕ) (stop : Stop) (ram icons out : List ℕ) → stopped_as r out ≡ stopped_by x p stop
    → answered r ram icons out ≡ laid_from p (record { machine = machine_of x ram icons; rows = []; refusal = Some (number stop.why, stop.line) })
unfolding laid_from refusal_text
stopped_answer r x p stop ram icons out e =
    λ i. record { refusal = refused_at (e i).1.1; machine = machine_of (e i).1.0 ram icons; out = (e i).0.0; written = (e i).0.1 }

-- the whole: the names line first, and the rest behind it
module _ (text ram icons out : List ℕ) where
  laid_from_lem : (r : Run) → laid_from (put (out, 0) listing_names) r ≡ laid out r
  unfolding laid_from laid listing
  laid_from_lem r =
      let e : put (put (out, 0) listing_names) (r.rows ++ refusal_text r.refusal) ≡ put (out, 0) (listing_names ++ r.rows ++ refusal_text r.refusal) = simp (append_assoc, put_append) in
      λ i. record { refusal = r.refusal; machine = r.machine; out = (e i).0; written = (e i).1 }

  pub run_short : length out < 589824 → record { refusal = Some (19, 1); machine = start ram icons; out = out; written = 0 } ≡ session text ram icons out
  unfolding session
  run_short h = rw (lt-leb 589824 (length out) h)

  module _ (enough : 589824 ≤ length out) where
    laid_run : (r : Run) → run_of text (start ram icons) ≡ r → laid_from (put (out, 0) listing_names) r ≡ session text ram icons out
    unfolding session
    laid_run r e = rw (le-leb 589824 (length out) enough, e) (laid_from_lem r)

    pub run_closed :
        opens text ≡ false
        → laid_from (put (out, 0) listing_names) (record { machine = start ram icons; rows = []; refusal = Some (9, 1) }) ≡ session text ram icons out
    unfolding run_of
    run_closed h = laid_run (record { machine = start ram icons; rows = []; refusal = Some (9, 1) }) (rw h)

    pub run_open :
        opens text ≡ true
        → laid_from (put (out, 0) listing_names) (run_from 2 (lines_of (drop 14 text)) (start ram icons)) ≡ session text ram icons out
    unfolding run_of
    run_open h = laid_run (run_from 2 (lines_of (drop 14 text)) (start ram icons)) (rw h)
