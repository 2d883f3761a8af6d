-- `root::trial::nearest_to` meets its contract: what it hands to `corrected` is how far a * 2^52 is from the square of g, and
-- where the upper digits are too far off the nearest is not next to g.
-- Assumes nothing.
use Prim.Native.Nat.{◌*◌, ◌/◌, ◌%◌, ◌^◌}
use native.Mathlib.Omega.{arith}
use Rattle.root.proofs.Trials.{none_below, none_above}
use Rattle.root.proofs.Cut.{Parts, parts, square_is}
use Rattle.root.proofs.trial.nearest_to.Goals as goal
use Rattle.root.proofs.trial.nearest_to.Goals.{Start}

cut : (c : Start) → Parts (c.args.g / 2 ^ 26) (c.args.g % 2 ^ 26)
cut c = parts c.args.g c.requires.1

pub returns-then-a-upper : goal.returns-then-a-upper
returns-then-a-upper c =
    let a = c.args.a in
    let g = c.args.g in
    none_below (a * 2 ^ 52) g (omega (arith, square_is g)) (omega (arith, square_is g))

pub returns-then-e : goal.returns-then-e
returns-then-e c =
    let g = c.args.g in
    none_above (c.args.a * 2 ^ 52) g (omega (arith, square_is g, (cut (goal.at.returns-then-e c).Start).lower))

pub returns : goal.returns
returns c =
    c.corrected.ensures (c.args.a * 2 ^ 52) (omega (arith, square_is c.args.g))
