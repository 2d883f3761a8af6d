-- When something in motion is near a line (RULES 10.29 to 10.36).
-- Assumes nothing.
use Rattle.std.specs.Prelude.{Bool, cond, ◌&&◌, Float, Result, Ok, Err, Option, Some, None}
use Rattle.std.specs.Float.Ieee
use Rattle.std.specs.Float.{binary64}
use Rattle.floats.specs.Constants.{nought, hundred_millionth}
use Rattle.floats.specs.Compare.{smaller_of}
use Rattle.floats.specs.Quadratic.{two, radicand, lower, upper}
use Rattle.root.specs.Root.{root_of, with_root, no_root}
use Rattle.shapes.specs.Vector.{vector_difference, scaled, divided, dot_of}
use Rattle.shapes.specs.declared.vector.Vector.{Vector}
use Rattle.motions.specs.declared.quadratic.Quadratic.{Quadratic}
use Rattle.line_proximity.specs.Stationary.{stationary_proximity}
use Rattle.root.specs.declared.nearest.NoRoot.{NoRoot}

-- Of the motion and of the place of something at p0 that goes by v, the parts across the line through q along u; their
-- quadratic (RULES 10.30).
unfoldable pub across_quadratic : Vector → Vector → Vector → Vector → Float → Quadratic
across_quadratic q u p0 v limit =
    let alpha = vector_difference v (scaled u (dot_of v u)) in
    let k = dot_of (vector_difference p0 q) u in
    let beta = vector_difference (vector_difference p0 (scaled u k)) q in
    record {
      a = dot_of alpha alpha;
      b = Ieee.mul binary64 two (dot_of alpha beta);
      c = Ieee.sub binary64 (dot_of beta beta) limit;
    }

-- It goes along with the line and is past its end r before `end` (RULES 10.35).
unfoldable pub outlasting : Vector → Vector → Vector → Vector → Float → Bool
outlasting r u p0 v end =
    Ieee.lt (Ieee.div binary64 (dot_of (vector_difference r p0) u) (dot_of v u)) end && Ieee.lt nought (dot_of v u)

-- The end is that of its stay at a place, where it stays there and leaves before.
abbrev pub ended_by : Result (Option (Float × Float)) NoRoot → Float → Float → Result (Option (Float × Float)) NoRoot
ended_by (Ok (Some (t, u))) begin end = Ok (Some (begin, smaller_of end u))
ended_by (Ok None) begin end = Ok (Some (begin, end))
ended_by (Err _) begin end = no_root

-- Past the end of the line its stay at that end counts (RULES 10.35, 10.36).
unfoldable pub past_end : Vector → Vector → Vector → Vector → Float → Float → Float → Result (Option (Float × Float)) NoRoot
past_end r u p0 v limit begin end =
    cond (outlasting r u p0 v end) (ended_by (stationary_proximity r p0 v limit) begin end) (Ok (Some (begin, end)))

-- Of the two roots: nothing where the first is past dt, or the last, at most dt, is below 0 (RULES 10.33, 10.34).
unfoldable pub spell_of : Vector → Vector → Vector → Vector → Float → Float → Float → Float → Result (Option (Float × Float)) NoRoot
spell_of r u p0 v dt limit first last =
    let end = smaller_of last dt in
    cond (Ieee.lt dt first) (Ok None) (cond (Ieee.lt end nought) (Ok None) (past_end r u p0 v limit first end))

-- The answer: nothing with hardly any motion across, or where it is never near (RULES 10.31, 10.32).
unfoldable pub near_line : Vector → Vector → Vector → Vector → Vector → Float → Float → Result (Option (Float × Float)) NoRoot
near_line q r u p0 pf dt limit =
    let v = divided (vector_difference pf p0) dt in
    let k = across_quadratic q u p0 v limit in
    let d = radicand k.a k.b k.c in
    cond (Ieee.lt k.a hundred_millionth)
    (Ok None)
    (cond (Ieee.lt d nought)
    (Ok None)
    (with_root no_root (root_of d) (λ s. spell_of r u p0 v dt limit (lower k.a k.b s) (upper k.a k.b s))))
