-- `texts::room::settle` meets its contract: behind the text the room is zero.
-- Assumes nothing.
use Rattle.std.proofs.Common.{rules}
use Rattle.std.proofs.lemmas.Slice.{overwrites}
use borrow.Author.Tests.{le-ltb}
use lib.ListN.{length}
use Rattle.lent.specs.Outcome.{wiped}
use Rattle.texts.proofs.room.settle.Goals as goal

pub returns : goal.returns
unfolding wiped
returns c =
    let a = c.args in
    let within = le-ltb (length a.out.now) a.end c.if-out-end.false in
    record { told = rw within; room = rw within (search (rules, overwrites)) }
