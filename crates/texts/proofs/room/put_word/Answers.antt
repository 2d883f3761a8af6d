-- `texts::room::put_word` meets its contract: at each turn, the word from here on is what is left to put.
-- Assumes nothing.
use mathlib.Core.List.{List}
use Prim.Native.Nat.{ℕ, ◌≤◌}
use native.Mathlib.Numerals.{add-one}
use native.Mathlib.Omega.{arith}
use lib.ListN.{length, drop_of_length-le}
use lib.Seq.{drop-cons}
use Rattle.texts.proofs.Putting.{goes_near, goes_on, goes_done, put_within}
use Rattle.texts.proofs.room.put_word.Goals as goal

pub loop-b-init : goal.loop-b-init
loop-b-init c =
    let a = c.args in
    (rw c.min-next.ensures (goes_near a.word.now a.out.now a.at), omega arith)

pub loop-b-preserved : goal.loop-b-preserved
loop-b-preserved c =
    let l = c.loop-b in
    let word : List ℕ = c.args.word.now in
    let put = c.put_byte-next.ensures in
    (goes_on (rw (drop-cons word l.b-index 0 (omega arith), ← add-one l.b-index) at l.invariant.0) put, put_within put)

pub returns : goal.returns
returns c =
    let l = c.loop-b in
    let word : List ℕ = c.args.word.now in
    let done : length word ≤ l.b-index = omega arith in
    goes_done (rw (drop_of_length-le word done) at l.invariant.0) l.invariant.1
