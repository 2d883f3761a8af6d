-- The critical distance is the same from either cart, and at least 1e-3 (RULES 7.2).
-- Assumes nothing.
use mathlib.Core.Path.{◌≡◌}
use mathlib.Core.Bool.{true}
use lib.Dec.{T}
use lib.Ieee
use lib.Ieee.{binary64}
use Rattle.floats.specs.Constants.{thousandth}
use Rattle.floats.proofs.Monotone.{add_comm}
use Rattle.floats.proofs.NotANumber.{add_known}
use Rattle.floats.proofs.Larger.{larger_bounds}
use Rattle.shapes.specs.Distance.{critical_distance}
use Rattle.domain.specs.Domain.{is_radius}
use Rattle.shapes.specs.declared.profile.CircularProfile.{CircularProfile}
use Rattle.domain.proofs.Within.{radius_finite}

pub critical_sym : (p q : CircularProfile) → critical_distance p q ≡ critical_distance q p
unfolding critical_distance
critical_sym p q = rw (add_comm binary64 p.footprint q.footprint)

pub critical_at_least : (p q : CircularProfile) →
    is_radius p.footprint ≡ true → is_radius q.footprint ≡ true → T (Ieee.le thousandth (critical_distance p q))
unfolding critical_distance
critical_at_least p q hp hq =
    let known = add_known binary64 p.footprint q.footprint (radius_finite _ hp) (radius_finite _ hq) in
    (larger_bounds (Ieee.add binary64 p.footprint q.footprint) thousandth known (unfold Ieee.is_nan Ieee.of_bits in tt)).1
