-- The bytes are still those that were lent, and what the pixels that are left make of them is what all make of those at
-- the start.
use mathlib.Core.List.{map}
use mathlib.Core.Path.{◌≡◌}
use lib.ListN.{drop}
use Rattle.decimal.specs.Print.{put}
use Rattle.picture.specs.Picture.{gray_of}
use Rattle.picture.proofs.put_grays.Given as goal

abbrev pub invariant-loop-level : goal.invariant-loop-level
invariant-loop-level l =
    (l.w.out.ghost_name ≡ l.initial.w.out.ghost_name)
    × (put (l.w.out.now, l.w.at) (map gray_of (drop l.level-index l.image)) ≡ put (l.initial.w.out.now, l.initial.w.at) (map gray_of l.image))
