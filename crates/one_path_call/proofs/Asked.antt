-- What the call for one path answers, by what is found with the hints that were taken over (RULES 5.1, 11.9, 11.10).
-- Assumes nothing.
use Prim.Native.Nat.{ℕ}
use mathlib.Core.Path.{◌≡◌, refl, sym, ap, ◌∙◌}
use mathlib.Core.Bool.{◌&&◌, cond}
use mathlib.Core.List.{List}
use lib.ListN.{length}
use Rattle.times.specs.declared.time.TimePoint.{TimePoint}
use Rattle.domain.specs.Domain.{is_time}
use Rattle.shapes.specs.Leg.{is_brief}
use Rattle.shapes.specs.declared.profile.CircularProfile.{CircularProfile}
use Rattle.shapes.specs.declared.waypoint.Leg.{Leg}
use Rattle.table.specs.Lent.{Lent, obstacles_of}
use Rattle.table.specs.Examined.{agent_examined}
use Rattle.hint_list.specs.Words.{hints_in}
use Rattle.hint_ranking.specs.Hints.{Ranked, Of, Refused, filled_by}
use Rattle.hint_words.specs.Lent.{lent_hints, Takes}
use Rattle.domain.specs.Beside.{is_budget, with_numbers, found_told}
use Rattle.domain.proofs.Fine.{lent_not_fine}
use Rattle.domain.proofs.Told.{lent_tells}
use Rattle.one_path.specs.Path as P
use Rattle.one_path.specs.Asked.{lone_path, asked_path}
use Rattle.one_path_call.specs.Taken.{with_taken, with_taken_told}
use Rattle.std.specs.Prelude.{Result, Ok, Err}
use Rattle.refusals.specs.Names.{refusal_number}
use Rattle.refusals.specs.declared.Refusal.{Refusal}
use Rattle.refusals.specs.declared.Refusal.TheVariants as Refusals

-- What is told with the hints is the number of what is found with them.
pub taken_tells : (r : Result ℕ Refusal) (e : Result Unit Refusal) → with_taken_told r (found_told e) ≡ found_told (with_taken r e)
taken_tells (Ok n) e = refl
taken_tells (Err why) e = lent_tells (refusal_number why) e

-- Nothing wrong is found only where nothing is wrong beside the hints.
pub taken_fine : (r : Result ℕ Refusal) (beside : Result Unit Refusal) → with_taken r beside ≡ (Ok tt) → beside ≡ (Ok tt)
taken_fine (Ok n) beside f = f
taken_fine (Err n) beside f = absurd (lent_not_fine (refusal_number n) beside f)

module _ (p : CircularProfile) (agent : Leg) (arrival : TimePoint) (budget : ℕ) (words : List ℕ) (lent : Lent)
    {left : List ℕ} {r : Result ℕ Refusal} (takes : Takes (lent_hints (length lent.starts) words) words left r) where
  abbrev beside : Result Unit Refusal
  beside = with_numbers (is_budget budget && is_time arrival) (agent_examined p agent lent)

  -- Where nothing is wrong, 4 for a brief leg, else the path by way of the hints that were taken over.
  pub asked_fine : with_taken r beside ≡ (Ok tt) →
      asked_path p agent arrival budget words lent ≡
      cond (is_brief agent) (P.Refused Refusals.NoLine) (lone_path p agent arrival budget (hints_in left) (obstacles_of lent))
  unfolding asked_path filled_by
  asked_fine fine = by (lent_hints (length lent.starts) words) refl takes
    where
      by : (answer : Ranked) → lent_hints (length lent.starts) words ≡ answer → Takes answer words left r →
          asked_path p agent arrival budget words lent ≡
          cond (is_brief agent) (P.Refused Refusals.NoLine) (lone_path p agent arrival budget (hints_in left) (obstacles_of lent))
      by (Of hints) e t = rw (e, taken_fine r beside fine, t.held)
      by (Refused n) e t =
          absurd (lent_not_fine (refusal_number n) beside (ap (λ (f : Result ℕ Refusal). with_taken f beside) (sym t.filled) ∙ fine))

  -- Else the number of what is wrong.
  pub asked_refused : (n : Refusal) → with_taken r beside ≡ Err n → asked_path p agent arrival budget words lent ≡ P.Refused n
  unfolding asked_path filled_by
  asked_refused n refused = by (lent_hints (length lent.starts) words) refl takes
    where
      by : (answer : Ranked) → lent_hints (length lent.starts) words ≡ answer → Takes answer words left r →
          asked_path p agent arrival budget words lent ≡ P.Refused n
      by (Of hints) e t =
          let found : beside ≡ Err n = ap (λ (f : Result ℕ Refusal). with_taken f beside) (sym t.filled) ∙ refused in
          rw (e, found)
      by (Refused m) e t = rw (e, ap (λ (f : Result ℕ Refusal). with_taken f beside) (sym t.filled) ∙ refused)
