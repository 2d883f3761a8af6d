-- `hint_sawtooth::rounds::rounds` meets its contract: at each turn what the rounds from here on add, all of them add.
-- Assumes nothing.
use Rattle.std.proofs.Common.{rules, ◌≡◌, ℕ}
use native.Mathlib.Omega.{arith}
use Rattle.hint_list.specs.Hints.{Hints}
use Rattle.hint_list.proofs.Added.{added_then, added_ended}
use Rattle.hint_sawtooth.specs.Rounds.{round_of, rounds_from}
use Rattle.hint_sawtooth.specs.declared.rounds.Round.TheVariants.{Next, Last}
use Rattle.hint_sawtooth.proofs.Stored.{one_more}
use Rattle.hint_sawtooth.proofs.Bound.{one_round}
use Rattle.hint_sawtooth.proofs.rounds.rounds.Goals as goal
use Rattle.hint_sawtooth.proofs.rounds.rounds.Goals.{After-with_hint}
use Rattle.std.specs.Prelude.{Ok, Err}
use Rattle.times.specs.Time.{strayed}

-- What the code finds the round to be is what it is.
round-found : (c : After-with_hint) →
    let l = c.loop-hint in
    let a = c.args in
    let n = c.in-Ok-Next in
    round_of a.agent a.leg a.chase a.obstacle l.s1 l.t1 ≡ Ok (Next n.hint n.s2 n.t2)
round-found c = search rules

pub returns-in_err-m-in-Ok-Next : goal.returns-in_err-m-in-Ok-Next
returns-in_err-m-in-Ok-Next c =
    let l = c.loop-hint in
    let next = round-found (goal.at.returns-in_err-m-in-Ok-Next c).After-with_hint in
    let refused : c.from_residual.result ≡ Err c.in_err-m-in-Ok-Next.field-0.0 = search rules in
    rw refused
    (l.invariant _ _ (rw (one_round _ _ _ _ l.m l.s1 l.t1, next) (added_ended _ _ _ _ c.in_err-m-in-Ok-Next.ensures)))

pub loop-hint-smaller : goal.loop-hint-smaller
loop-hint-smaller c = let stored = one_more _ _ _ c.in_ok-m-in-Ok-Next.ensures in omega arith

pub loop-hint-preserved : goal.loop-hint-preserved
loop-hint-preserved c left r rest =
    let l = c.loop-hint in
    let a = c.args in
    let n = c.in-Ok-Next in
    let next = round-found (goal.at.loop-hint-preserved c).After-with_hint in
    let go : ℕ → Hints = λ m. rounds_from a.agent a.leg a.chase a.obstacle m n.s2 n.t2 in
    l.invariant left r
    (rw (one_round _ _ _ _ l.m l.s1 l.t1, next) (added_then _ _ _ go c.in_ok-m-in-Ok-Next.ensures rest))

pub returns-in-Ok-Last : goal.returns-in-Ok-Last
returns-in-Ok-Last c =
    let l = c.loop-hint in
    let a = c.args in
    let last : round_of a.agent a.leg a.chase a.obstacle l.s1 l.t1 ≡ Ok (Last c.in-Ok-Last.hint) = search rules in
    l.invariant _ _ (rw (one_round _ _ _ _ l.m l.s1 l.t1, last) c.with_hint-in-Ok-Last.ensures)

pub returns-in-Err : goal.returns-in-Err
returns-in-Err c =
    let l = c.loop-hint in
    let a = c.args in
    let lost : round_of a.agent a.leg a.chase a.obstacle l.s1 l.t1 ≡ strayed = search rules in
    l.invariant _ _ (rw (one_round _ _ _ _ l.m l.s1 l.t1, lost) c.refuse_for.ensures)
