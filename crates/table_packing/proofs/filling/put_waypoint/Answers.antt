-- `table_packing::filling::put_waypoint` meets its contract: it stores the three where the waypoint has a place. A time is a number of 64 bits.
-- Assumes nothing.
use borrow.Author.Tests.{lt-ltb, le-ltb}
use native.Mathlib.Omega.{arith}
use mir.Syntax.{w64}
use mir.Val.{SFits}
use Rattle.number_words.proofs.ReadBack.{read_back}
use Rattle.number_words.proofs.Words.{signed_back}
use Rattle.table_packing.specs.Filling.{with_time, with_place}
use Rattle.table_packing.proofs.filling.put_waypoint.Goals as goal

pub returns-then-i-lt288 : goal.returns-then-i-lt288
unfolding with_time with_place
returns-then-i-lt288 c =
    let z = c.args.w.time.0 in
    let fits : SFits w64 z = record { sfits = omega arith } in
    let room = lt-ltb _ _ c.if-i-lt288.true in
    record { marked = rw (room, c.of_signed.ensures, read_back z fits); placed = rw room; whole = signed_back z fits }

pub returns-else-i-lt288 : goal.returns-else-i-lt288
unfolding with_time with_place
returns-else-i-lt288 c =
    let z = c.args.w.time.0 in
    let fits : SFits w64 z = record { sfits = omega arith } in
    let none = le-ltb _ _ c.if-i-lt288.false in
    record { marked = rw none; placed = rw none; whole = signed_back z fits }
