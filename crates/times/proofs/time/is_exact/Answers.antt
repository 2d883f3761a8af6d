-- `times::time::is_exact` meets its contract: its two comparisons are those that tell a number exact.
-- Assumes nothing.
use Rattle.std.proofs.Common.{◌≡◌, true, false, negsuc}
use lib.Signed.{le_z}
use Rattle.number_words.proofs.ReadBack.{read_back}
use Rattle.times.proofs.Exact.{between}
use Rattle.times.proofs.time.is_exact.Goals as goal

pub returns-then-ns : goal.returns-then-ns
returns-then-ns c =
    let low : le_z (negsuc 9007199254740991) c.args.ns ≡ true = rw (read_back c.args.ns c.ranges.ns) at c.if-ns.true in
    rw (between c.args.ns, low, read_back c.args.ns c.ranges.ns)

pub returns-else-ns : goal.returns-else-ns
returns-else-ns c =
    let low : le_z (negsuc 9007199254740991) c.args.ns ≡ false = rw (read_back c.args.ns c.ranges.ns) at c.if-ns.false in
    rw (between c.args.ns, read_back c.args.ns c.ranges.ns, low)
