-- One path alone is refused by 1 to 7 or by 11 (RULES 4.13, 5.1 to 5.7).
-- Assumes nothing.
use Prim.Native.Nat.{ℕ}
use mathlib.Core.Path.{◌≡◌, refl}
use mathlib.Core.Bool.{Bool, true, false, ◌&&◌, cond}
use mathlib.Core.List.{List}
use lib.ListN.{length}
use Rattle.times.specs.declared.time.TimePoint.{TimePoint}
use Rattle.domain.specs.Domain.{is_time}
use Rattle.shapes.specs.Leg.{is_brief}
use Rattle.shapes.specs.declared.profile.CircularProfile.{CircularProfile}
use Rattle.shapes.specs.declared.waypoint.Leg.{Leg}
use Rattle.table.specs.Examined.{agent_examined}
use Rattle.table.specs.Lent.{Lent, obstacles_of}
use Rattle.table.specs.Obstacle.{Obstacle}
use Rattle.table.proofs.Accepted.{accepted}
use Rattle.hint_ranking.specs.Hints as R
use Rattle.hint_ranking.specs.Hints.{Ranked}
use Rattle.hint_words.specs.Lent.{lent_hints}
use Rattle.hint_list.specs.declared.hint.RankedHint.{RankedHint}
use Rattle.hints.specs.Contour.{scale_of}
use Rattle.hints.proofs.Reaches.{Scaled, scale_given}
use Rattle.one_path.specs.Path.{Refused}
use Rattle.domain.specs.Beside.{is_budget, with_numbers, with_lent}
use Rattle.one_path.specs.Asked.{trip_of, lone_path, asked_path}
use Rattle.domain.proofs.Fine.{numbers_fine, lent_not_fine}
use Rattle.refusal_claims.specs.Numbers.{PathRefusal, Number, Shape, Backward, NoLine}
use Rattle.refusal_claims.proofs.Examined.{Finds, agent_finds, numbers_find, lent_finds}
use Rattle.refusal_claims.proofs.Path.{Seeks, seeks}
use Rattle.std.specs.Prelude.{Result, Ok, Err}
use Rattle.refusals.specs.declared.Refusal.{Refusal}
use Rattle.hints.specs.declared.contour.Scale.{Scale}
use Rattle.refusals.specs.declared.Refusal.TheVariants as Refusals
use Rattle.refusals.specs.Names.{refusal_number}

module _ (p : CircularProfile) (agent : Leg) (arrival : TimePoint) (budget : ℕ) (lent : Lent) where
  -- The agent's line, then the path (RULES 5.6).
  lone_seeks : (hints : List RankedHint) → agent_examined p agent lent ≡ (Ok tt) →
      Seeks (lone_path p agent arrival budget hints (obstacles_of lent))
  unfolding lone_path
  lone_seeks hints fine = by (scale_of agent) refl (scale_given agent (accepted p agent lent fine).own)
    where
      os : List Obstacle
      os = obstacles_of lent

      by : (s : Result Scale Refusal) → scale_of agent ≡ s → Scaled s → Seeks (lone_path p agent arrival budget hints os)
      by (Ok scale) e h = rw e (seeks (trip_of p agent scale) os hints budget arrival)
      by (Err why) e h = rw (e, h) NoLine

  -- The input, then 4 for a short call (RULES 4.13).
  asked_seeks : (words : List ℕ) → Seeks (asked_path p agent arrival budget words lent)
  unfolding asked_path
  asked_seeks words = by_hints_law (lent_hints (length lent.starts) words) refl
    where
      beside : Bool
      beside = is_budget budget && is_time arrival

      own : Result Unit Refusal
      own = agent_examined p agent lent

      lasting : (hints : List RankedHint) (brief : Bool) → own ≡ (Ok tt) →
          Seeks (cond brief (Refused Refusals.NoLine) (lone_path p agent arrival budget hints (obstacles_of lent)))
      lasting hints true fine = NoLine
      lasting hints false fine = lone_seeks hints fine

      by_input : (hints : List RankedHint) → lent_hints (length lent.starts) words ≡ R.Of hints →
          (x : Result Unit Refusal) → with_numbers beside own ≡ x → Finds PathRefusal x →
          Seeks (asked_path p agent arrival budget words lent)
      by_input hints e (Ok tt) fine h = rw (e, fine) (lasting hints (is_brief agent) (numbers_fine beside own fine))
      by_input hints e (Err why) refused h = rw (e, refused) h

      by_refusal : (why : Refusal) → lent_hints (length lent.starts) words ≡ R.Refused why →
          (x : Result Unit Refusal) → with_lent (refusal_number why) (with_numbers beside own) ≡ x → Finds PathRefusal x →
          Seeks (asked_path p agent arrival budget words lent)
      by_refusal why e (Ok tt) fine h = absurd (lent_not_fine (refusal_number why) (with_numbers beside own) fine)
      by_refusal why e (Err found) refused h = rw (e, refused) h

      by_hints_law : (list : Ranked) → lent_hints (length lent.starts) words ≡ list →
          Seeks (asked_path p agent arrival budget words lent)
      by_hints_law (R.Of hints) e =
          by_input hints e (with_numbers beside own) refl
          (numbers_find PathRefusal Number Shape beside own (agent_finds PathRefusal Number Shape Backward p agent lent))
      by_hints_law (R.Refused why) e =
          by_refusal why e (with_lent (refusal_number why) (with_numbers beside own)) refl
          (lent_finds PathRefusal Number Shape (refusal_number why) (with_numbers beside own))

  pub path_refused : (words : List ℕ) {why : Refusal} → asked_path p agent arrival budget words lent ≡ Refused why → PathRefusal why
  path_refused words e = rw e at (asked_seeks words)
