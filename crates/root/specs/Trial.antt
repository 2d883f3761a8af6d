-- What a trial of a guess at a root finds: the whole number nearest to the root.
-- Assumes nothing.
use Rattle.std.specs.Prelude.{◌≡◌, ℕ, ◌+◌, ◌*◌, ◌≤◌, ◌<◌, Option, Some, IfSome}

-- The root of n is nearest to t: n is between the squares of t - 1/2 and t + 1/2, which are t * t - t and t * t + t, and a quarter.
pub record IsNearest (n t : ℕ) : Type 0 where
  pub under : t * t < n + t
  pub over : n ≤ t * t + t

-- From the guess g the trial comes to t: the nearest, or none, and the nearest wherever that is g or next to it.
pub record GuessTried (n g : ℕ) (t : Option ℕ) : Type 0 where
  pub right : IfSome t (λ u. IsNearest n u)
  pub found : (u : ℕ) → IsNearest n u → u ≤ g + 1 → g ≤ u + 1 → t ≡ Some u
