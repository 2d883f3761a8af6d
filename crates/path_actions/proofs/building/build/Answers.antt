-- `path_actions::building::build` meets its contract: what is built from link k on, behind the rows so far, is the whole.
-- Assumes nothing.
use Prim.Native.Nat.{ℕ, ◌≤◌, ◌<◌}
use mathlib.Core.Path.{◌≡◌, ap}
use mathlib.Core.List.{List}
use native.Mathlib.Omega.{arith}
use lib.ListN.{length, get_or}
use Rattle.hint_list.specs.Words.{blank_ranked, hints_in}
use Rattle.hint_list.specs.declared.hint.RankedHint.{RankedHint}
use Rattle.path_search.specs.Links.{links_in}
use Rattle.path_search.proofs.Links.{few_links}
use Rattle.path_actions.specs.Built.{Built}
use Rattle.path_actions.specs.Laid.{PutActions}
use Rattle.path_actions.proofs.Left.{put_placed}
use Rattle.path_actions.proofs.Built.{going_begin, going_end, going_refused, going_on}
use Rattle.std.proofs.Common.{rules}
use Rattle.path_actions.proofs.building.build.Goals as goal
use Rattle.path_actions.proofs.building.build.Goals.{After-hint_at-ranked, After-place-at, In-loop-k}
use Rattle.std.specs.Prelude.{Result, Ok, Err}
use Rattle.refusals.specs.declared.Refusal.{Refusal}
use Rattle.times.specs.declared.time.Duration.{Duration}

-- The row that the loop is at leaves room for more, since there are 64 links at most.
low : (c : In-loop-k) → c.loop-k.at ≤ 4611686018427387904
low c =
    let g = c.loop-k.invariant in
    omega (arith, few_links c.args.chain.now, c.links_of-n.ensures, g.place, g.counted, c.place-at.ensures)

-- The loop is at a link, and reads its hint.
there : (c : In-loop-k) →
    c.loop-k.k < length (links_in c.args.chain.now)
there c = omega (arith, c.links_of-n.ensures)

hint-here : (c : After-hint_at-ranked) →
    let a = c.args in
    c.hint_at-ranked.result.hint ≡ (get_or (hints_in a.hints.now) (get_or (links_in a.chain.now) c.loop-k.k 0) blank_ranked).hint
hint-here c = ap (λ (h : RankedHint). h.hint) (rw c.link_at.ensures at c.hint_at-ranked.ensures)

-- What is put from the place on is put from the row on.
at_row : (c : After-place-at) {b : Built} {left : List ℕ} {r : Result Duration Refusal} →
    let a = c.args in
    PutActions b a.out.now left c.place-at.result r → PutActions b a.out.now left a.row r
at_row c put =
    let a = c.args in
    put_placed a.row (rw c.place-at.ensures at put)

pub loop-k-init : goal.loop-k-init
loop-k-init c =
    let a = c.args in
    going_begin a.trip (hints_in a.hints.now) (links_in a.chain.now) a.out.now c.place-at.result

pub put_stop-requires : goal.put_stop-requires
put_stop-requires c = low (goal.at.put_stop-requires c).In-loop-k

pub returns-in_err-hold : goal.returns-in_err-hold
returns-in_err-hold c =
    let same : c.put_stop.result ≡ c.from_residual.result = search rules in
    let at = goal.at.returns-in_err-hold c in
    rw (← same)
    (at_row at.After-place-at
    (going_refused c.loop-k.invariant c.hint_at-ranked.result.hint (there at.In-loop-k) (hint-here at.After-hint_at-ranked) _
    c.in_err-hold.was c.put_stop.ensures))

pub overflow_add-at : goal.overflow_add-at
overflow_add-at c = omega (arith, low (goal.at.overflow_add-at c).In-loop-k)

pub loop-k-preserved : goal.loop-k-preserved
loop-k-preserved c =
    rw c.waypoint_of-from.ensures
    (going_on c.loop-k.invariant c.hint_at-ranked.result.hint (there (goal.at.loop-k-preserved c).In-loop-k) (hint-here (goal.at.loop-k-preserved c).After-hint_at-ranked) c.in_ok-hold.hold c.in_ok-hold.was
    c.put_stop.ensures)

pub returns : goal.returns
returns c =
    at_row (goal.at.returns c).After-place-at (going_end c.loop-k.invariant (omega (arith, c.links_of-n.ensures)) c.put_end.ensures)
