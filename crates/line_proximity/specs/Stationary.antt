-- When something in motion is within a distance of a place (RULES 10.37 to 10.39).
-- Assumes nothing.
use Rattle.std.specs.Prelude.{cond, ◌&&◌, [], ◌∷◌, Float, Result, Ok, Err, Option, Some, None}
use Rattle.std.specs.Float.Ieee
use Rattle.std.specs.Float.{binary64}
use Rattle.std.specs.Float.Ieee.{to_bits}
use Rattle.refusals.specs.declared.Refusal.{Refusal}
use Rattle.refusals.specs.Names.{refusal_number}
use Rattle.lent.specs.Outcome.{Outcome, Gives, Refuses}
use Rattle.floats.specs.Constants.{nought, hundred_millionth}
use Rattle.floats.specs.Quadratic.{coefficient_a, coefficient_b, coefficient_c, radicand, lower, upper}
use Rattle.root.specs.Root.{root_of, with_root, no_root}
use Rattle.shapes.specs.declared.vector.Vector.{Vector}
use Rattle.motions.specs.declared.quadratic.Quadratic.{Quadratic}
use Rattle.root.specs.declared.nearest.NoRoot.{NoRoot}

-- Of something at p0 that goes by v, about the place r (RULES 10.38).
abbrev pub stationary_quadratic : Vector → Vector → Vector → Float → Quadratic
stationary_quadratic r p0 v limit =
    let x = Ieee.sub binary64 p0.x r.x in
    let y = Ieee.sub binary64 p0.y r.y in
    record { a = coefficient_a v.x v.y; b = coefficient_b v.x v.y x y; c = coefficient_c x y limit }

-- Both roots, where a is 1e-8 or more and the radicand 0 or more; else nothing (RULES 10.39).
unfoldable pub stationary_proximity : Vector → Vector → Vector → Float → Result (Option (Float × Float)) NoRoot
stationary_proximity r p0 v limit =
    let q = stationary_quadratic r p0 v limit in
    let d = radicand q.a q.b q.c in
    cond (Ieee.le hundred_millionth q.a && Ieee.le nought d)
    (with_root no_root (root_of d) (λ s. Ok (Some (lower q.a q.b s, upper q.a q.b s))))
    (Ok None)

-- The number and the words of each case: how many roots there are, and they (RULES 4.1).
abbrev pub stay_outcome : Result (Option (Float × Float)) Refusal → Outcome
stay_outcome (Ok (Some (t, u))) = Gives (2 ∷ (to_bits binary64 t ∷ (to_bits binary64 u ∷ [])))
stay_outcome (Ok None) = Gives (0 ∷ [])
stay_outcome (Err why) = Refuses (refusal_number why)
