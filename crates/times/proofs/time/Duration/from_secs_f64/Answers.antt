-- `times::time::Duration::from_secs_f64` meets its contract: the product is cut only where it is from -2^53 to 2^53.
-- Assumes nothing.
use Rattle.std.proofs.Common.{◌≡◌, true, false}
use lib.Ieee
use lib.Ieee.Casts.{to_signed_in}
use Rattle.times.specs.Time.{two_to_53, span_of_seconds}
use Rattle.floats.proofs.Tests.{passed}
use Rattle.floats.proofs.Bounds.{within_of_bounds}
use Rattle.times.proofs.Cut.{product, can_be_cut}
use Rattle.number_words.proofs.ReadBack.{read_back}
use Rattle.times.proofs.time.Duration.from_secs_f64.Goals as goal
use Rattle.times.proofs.time.Duration.from_secs_f64.Goals.{Then-p, Then-p-2, else-p-via-then-p+else-p-2, else-p-via-else-p}

-- The code's two tests, with the doubles that it writes as literals under the names of the definition.
above : (c : Then-p) → Ieee.le (Ieee.neg two_to_53) (product c.args.seconds) ≡ true
unfolding Ieee.of_int Ieee.of_bits
above c = c.if-p.true

below : (c : Then-p-2) → Ieee.le (product c.args.seconds) two_to_53 ≡ true
unfolding Ieee.of_int Ieee.of_bits
below c = c.if-p-2.true

pub truncating_f64_to_i64-requires : goal.truncating_f64_to_i64-requires
unfolding Ieee.of_int Ieee.of_bits
truncating_f64_to_i64-requires c =
    let at = goal.at.truncating_f64_to_i64-requires c in
    let cut = can_be_cut _ (within_of_bounds two_to_53 (product c.args.seconds) (passed (above at.Then-p)) (passed (below at.Then-p-2))) in
    record { lower_bound = cut.0; upper_bound = cut.1 }

pub returns-then-p-2 : goal.returns-then-p-2
unfolding span_of_seconds Ieee.of_int Ieee.of_bits
returns-then-p-2 c =
    let cut = c.truncating_f64_to_i64 in
    rw (
      read_back cut.result (record { sfits = rw cut.ensures (to_signed_in 63 _) }),
      cut.ensures,
      above (goal.at.returns-then-p-2 c).Then-p,
      below (goal.at.returns-then-p-2 c).Then-p-2,
    )

pub returns : goal.returns
unfolding span_of_seconds Ieee.of_int Ieee.of_bits
returns c =
    elim c.else-p.branch [
      | else-p-via-then-p+else-p-2 w ↦ rw (w.if-p.true, w.if-p-2.false)
      | else-p-via-else-p w ↦ rw (w.if-p.false)
    ]
