-- Bytes that leave the scan as it is.
use Rattle.std.proofs.Common.{◌≡◌, ℕ, true, false, List, refl, eq-eqb, eqb-true}
use mathlib.Core.Bool.{false≢true}
use borrow.Author.Tests.{not-true}
use Rattle.std.specs.Prelude.{Option, Some, None, is_some}
use Rattle.clock.specs.declared.edges.Clock.{Clock}
use Rattle.checks.proofs.Tests.{both}
use Rattle.clock.specs.declared.time.Time.{Time}
use Rattle.scan.specs.declared.settings.Settings.{Settings}
use Rattle.scan.specs.declared.state.Scan.{Scan}
use Rattle.scan.specs.declared.state.Inversion.{Inversion}
use Rattle.scan.specs.declared.run.Running.{Running}
use Rattle.scan.specs.Run.{updated}
use Rattle.scan.specs.Byte.{has_clock, lines_stay, settled}
use Rattle.scan.proofs.Numbers.{beq_true}
use Rattle.scan.proofs.Runs.{updated_same}

-- where line inversion is off there is none left
lines_ended : (i : Inversion) (s : Settings) → lines_stay i s ≡ true → s.inversion_lines ≡ 0 → (i.lines ≡ 0) × (i.count ≡ 0)
lines_ended i s h e =
    let p = both _ _ (simp (eq-eqb s.inversion_lines 0 e) at h) in
    (eqb-true _ _ p.0, eqb-true _ _ p.1)

-- whether a clock runs, as src/run.rt asks it
pub has_clock_is : (k : Option Clock) → is_some k ≡ has_clock k
unfolding has_clock
has_clock_is (Some c) = refl
has_clock_is None = refl

pub settled_same : (x : Scan) (s : Settings) (now : Time) (running : Running) (ram icons : List ℕ) → settled x s running ≡ true → updated x s now running ram icons ≡ x
unfolding settled
settled_same x s now Running.Begins ram icons h = absurd (false≢true h)
settled_same x s now Running.Continues ram icons h =
    let p = both _ _ h in
    updated_same x s now true ram icons (record { clock = beq_true _ _ p.1; lines = λ e. (lines_ended x.inversion s p.0 e).0; count = λ e. (lines_ended x.inversion s p.0 e).1 })
settled_same x s now Running.Stands ram icons h =
    let p = both _ _ h in
    updated_same x s now false ram icons (record { clock = not-true _ p.1; lines = λ e. (lines_ended x.inversion s p.0 e).0; count = λ e. (lines_ended x.inversion s p.0 e).1 })
