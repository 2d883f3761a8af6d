-- `hint_ranking::ranked_hints::put_in_rank` meets its contract: hints move up one by one, and the hint is put into the gap.
-- Assumes nothing.
use Prim.Native.Nat.{◌-◌, ◌<◌}
use mathlib.Core.Path.{◌≡◌}
use native.Mathlib.Omega.{arith}
use lib.ListN.{length, take}
use lib.Seq.{length-take-le}
use Rattle.hint_list.specs.Words.{count_in, hints_in}
use Rattle.hint_list.proofs.Reading.{counted}
use Rattle.hint_ranking.proofs.Places.{place_at_most, gap_last, gap_climbs}
use Rattle.hint_ranking.proofs.ranked_hints.put_in_rank.Goals as goal
use Rattle.hint_ranking.proofs.ranked_hints.put_in_rank.Goals.{Else-count_of-n}

-- There is a place n.
room : (c : Else-count_of-n) → c.args.n < count_in c.args.hints.now
room c = rw c.count_of.ensures at c.if-count_of-n.false

pub loop-j-init : goal.loop-j-init
loop-j-init c =
    let a = c.args in
    let l = take a.n (hints_in a.hints.now) in
    let there = room (goal.at.loop-j-init c).Else-count_of-n in
    let long : length l ≡ a.n = length-take-le a.n (hints_in a.hints.now) (omega (arith, counted a.hints.now)) in
    (omega (arith, place_at_most a.h l, c.place_of-at.ensures), gap_last a.hints.now l a.n (omega arith))

pub loop-j-preserved : goal.loop-j-preserved
loop-j-preserved c =
    let words = c.args.hints.now in
    let l = c.loop-j in
    let there = room (goal.at.loop-j-preserved c).Else-count_of-n in
    let moves = gap_climbs words c.args.n (l.j - 1) l.j l.hints (omega arith) (omega arith) (omega arith) l.invariant.1 in
    (omega arith, rw (c.put_hint.ensures, c.hint_at-x.ensures) moves)
