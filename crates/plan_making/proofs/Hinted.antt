-- The hints of a plan, as the search leaves them in a lent list: its refusal, or the plan by way of the hints that stand there
-- (RULES 5.7, 11.8).
-- Assumes nothing.
use Prim.Native.Nat.{ℕ}
use mathlib.Core.Path.{◌≡◌, sym, ap, ◌∙◌}
use mathlib.Core.Bool.{true≢false}
use mathlib.Core.List.{List}
use Rattle.hint_list.specs.Words.{hints_in}
use Rattle.hint_list.specs.declared.hint.RankedHint.{RankedHint}
use Rattle.hint_ranking.specs.Hints as R
use Rattle.hint_ranking.specs.Hints.{Ranked, Ranks, ranked_in, filled_by}
use Rattle.plan_model.specs.Plan.{Plan, Refused, hinted}
use Rattle.std.specs.Prelude.{Result, Ok, Err}
use Rattle.refusals.specs.declared.Refusal.{Refusal}

module _ {answer : Ranked} {left : List ℕ} {r : Result ℕ Refusal} (ranks : Ranks answer left r) (go : List RankedHint → Plan) where
  -- A refusal of the hints is the plan's.
  pub hints_refused : {why : Refusal} → r ≡ Err why → hinted answer go ≡ Refused why
  unfolding filled_by
  hints_refused {why} e = by answer (sym e ∙ ranks.filled)
    where
      by : (a : Ranked) → Err why ≡ filled_by a → hinted a go ≡ Refused why
      by (R.Of l) f = absurd (true≢false (cc f))
      by (R.Refused m) f = cc

  -- Else the plan goes on with the hints of the list.
  pub hints_given : {n : ℕ} → r ≡ Ok n → hinted answer go ≡ go (hints_in left)
  unfolding filled_by
  hints_given {n} e = by answer (sym e ∙ ranks.filled) ranks.held
    where
      by : (a : Ranked) → Ok n ≡ filled_by a → hints_in left ≡ ranked_in a → hinted a go ≡ go (hints_in left)
      by (R.Of l) f h = ap go (sym h)
      by (R.Refused m) f h = absurd (true≢false (cc f))
