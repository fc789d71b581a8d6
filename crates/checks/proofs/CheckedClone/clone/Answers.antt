-- Of two checked values with one value each fact is the same proof.
use Rattle.std.specs.Prelude.{◌≡◌, ℕ, Option, None}
use Rattle.std.proofs.Common.{ap}
use Rattle.std.proofs.Props.{props}
use Rattle.checks.proofs.CheckedClone.clone.Goals as goal

one_proof : (o : Option ℕ) → IsProp (o ≡ None)
one_proof o = hlevel props

pub returns : goal.returns
returns g c =
    record { cases = ap (λ p. record { value = c.args.self.now.value; passes = p }) (one_proof _ _ c.args.self.now.passes) }
