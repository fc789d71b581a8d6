use mathlib.Core.Path.{ap₂, ◌∙◌}
use Prim.Native.Nat.{ℕ, ◌+◌}
use Rattle.session.proofs.Listings.{lit_ones}
use Rattle.session.proofs.listing.lit_in.Goals as goal

pub returns : goal.returns
returns c =
    ap₂ (λ (a b : ℕ). a + b) c.from.ensures c.from-2.ensures ∙ lit_ones c.args.low c.args.high c.ranges.low.fits c.ranges.high.fits
