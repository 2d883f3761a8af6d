-- `times::time::seconds_of` meets its contract: the code's 1e9 is the definition's.
-- Assumes nothing.
use Rattle.std.proofs.Common.{ap}
use lib.Ieee
use lib.Ieee.{binary64}
use Rattle.times.specs.Time.{billion, seconds_of}
use Rattle.number_words.proofs.ReadBack.{found_of}
use Rattle.times.proofs.time.seconds_of.Goals as goal

pub returns : goal.returns
unfolding seconds_of Ieee.of_int Ieee.of_bits
returns c =
    let rounded = found_of (Ieee.of_int binary64) c.args.ns c.ranges.ns c.nearest_i64_to_f64.ensures in
    ap (λ ns. Ieee.div binary64 ns billion) rounded
