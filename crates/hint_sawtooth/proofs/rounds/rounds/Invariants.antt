-- `hint_sawtooth::rounds::rounds` meets its contract: at each turn what the rounds from here on add, all of them add.
-- Assumes nothing.
use Prim.Native.Nat.{ℕ, ◌-◌}
use mathlib.Core.List.{List}
use Rattle.hint_list.specs.Adding.{Added}
use Rattle.hint_sawtooth.specs.Rounds.{rounds_from}
use Rattle.hint_sawtooth.proofs.rounds.rounds.Given as goal
use Rattle.std.specs.Prelude.{Result}
use Rattle.refusals.specs.declared.Refusal.{Refusal}

abbrev pub invariant-loop-hint : goal.invariant-loop-hint
invariant-loop-hint l =
    (left : List ℕ) (r : Result ℕ Refusal) → Added (rounds_from l.agent l.leg l.chase l.obstacle l.m l.s1 l.t1) l.m l.hints left r →
    Added (rounds_from l.agent l.leg l.chase l.obstacle l.n l.s l.t) l.n l.initial.hints left r

-- The room that is left: each turn that goes on has stored a hint, since one that finds no room is refused.
abbrev pub decreases-loop-hint : goal.decreases-loop-hint
decreases-loop-hint l = 64 - l.m
