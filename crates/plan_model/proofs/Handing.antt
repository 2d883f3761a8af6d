-- A plan handed over in its two rooms: the counts and the paths in one, the actions of all paths in the other (RULES 4.12, 4.14,
-- 4.15).
-- Assumes nothing.
use Prim.Native.Nat.{ℕ, ◌+◌}
use mathlib.Core.Path.{◌≡◌, refl, sym, ap, ◌∙◌}
use mathlib.Core.Bool.{Bool, true, false, true≢false}
use mathlib.Core.List.{List, [], ◌∷◌}
use native.Mathlib.Omega.{arith}
use lib.IntN.{pos}
use lib.ListN.{length, length-map}
use Rattle.lent.specs.Rows.{with_row, with_rows, has_room}
use Rattle.lent.proofs.Fours.{Fours, fours_map, length_rows, head_last, handing_over}
use Rattle.number_words.specs.Word.{word_of}
use Rattle.times.proofs.Exact.{both}
use Rattle.shapes.specs.declared.waypoint.Leg.{Leg}
use Rattle.path_actions.specs.Action.{action_words, action_rows}
use Rattle.path_actions.specs.declared.action.SafeAction.TheVariants.{Move}
use Rattle.path_actions.proofs.Rowed.{actions_fours}
use Rattle.plan_model.specs.Plan.{Path, Of, Planned, planned, short_plan, path_words, path_rows, all_actions, head_rows}
use Rattle.plan_model.specs.Plan as Q
use Rattle.plan_model.specs.Laid.{RefusedBoth, PutPaths, SettledBoth, PlanHanded, path_counts, both_hold, plan_number, plan_room, action_room_of}
use Rattle.std.specs.Prelude.{Result, Ok, Err}
use Rattle.refusals.specs.declared.Refusal.{Refusal}
use Rattle.plan_model.specs.declared.rooms.Paths.{Paths}
use Rattle.refusals.specs.Names.{refusal_number}

-- Rows that were put and settled are the plan's.
pub handed_plan : (hints times sweeps : ℕ) (ps : List Path) {lent room left lentActions actionRoom leftActions : List ℕ} {r : ℕ} →
    room ≡ with_rows lent 0 (head_rows hints times sweeps ps) →
    actionRoom ≡ with_rows lentActions 0 (action_rows (all_actions ps)) →
    SettledBoth (1 + length ps) (length (all_actions ps)) room left actionRoom leftActions r →
    PlanHanded (Planned hints times sweeps ps) lent left lentActions leftActions r
unfolding plan_number plan_room action_room_of
handed_plan hints times sweeps ps {lent} {room} {left} {lentActions} {actionRoom} {leftActions} {r} put put-actions s =
    by (both_hold (length lent) (length lentActions) (1 + length ps) (length (all_actions ps))) refl
  where
    heads : List (List ℕ)
    heads = head_rows hints times sweeps ps

    rows : List (List ℕ)
    rows = action_rows (all_actions ps)

    fours : Fours heads
    fours = (refl, fours_map path_words (λ p. refl) ps)

    long : length room ≡ length lent
    long = ap length put ∙ length_rows lent 0 heads fours

    long_actions : length actionRoom ≡ length lentActions
    long_actions = ap length put-actions ∙ length_rows lentActions 0 rows (actions_fours (all_actions ps))

    many : 1 + length ps ≡ length heads
    many = omega (arith, length-map ps path_words)

    many_actions : length (all_actions ps) ≡ length rows
    many_actions = sym (length-map (all_actions ps) action_words)

    by : (t : Bool) → both_hold (length lent) (length lentActions) (1 + length ps) (length (all_actions ps)) ≡ t →
        PlanHanded (Planned hints times sweeps ps) lent left lentActions leftActions r
    by true e =
        let fit = both (has_room (length lent) (1 + length ps)) (has_room (length lentActions) (length (all_actions ps))) e in
        record {
          number = rw (long, long_actions) at s.number;
          room =
              rw (long, long_actions, e, put, many) at s.room ∙
              rw e (handing_over lent heads fours (rw (← many) fit.0));
          actions =
              rw (long, long_actions, e, put-actions, many_actions) at s.action_room ∙
              rw e (handing_over lentActions rows (actions_fours (all_actions ps)) (rw (← many_actions) fit.1));
        }
    by false e =
        record {
          number = rw (long, long_actions) at s.number;
          room = rw e (rw (long, long_actions, e) at s.room);
          actions = rw e (rw (long, long_actions, e) at s.action_room);
        }

-- A plan of less than 10 ns (RULES 13.4, 15.9).
pub handed_short : (agent : Leg) {lent room left lentActions actionRoom leftActions : List ℕ} {r : ℕ} →
    room ≡
    with_row (with_row lent 0 (0 ∷ (0 ∷ (0 ∷ (1 ∷ []))))) 1
    (word_of agent.end.time.0 ∷ (0 ∷ (word_of (pos 0) ∷ (1 ∷ [])))) →
    actionRoom ≡ with_row lentActions 0 (action_words (Move agent.end)) → SettledBoth 2 1 room left actionRoom leftActions r →
    PlanHanded (short_plan agent) lent left lentActions leftActions r
unfolding short_plan with_rows all_actions
handed_short agent put put-action s = handed_plan 0 0 0 _ put put-action s

-- ---- Paths that were put, behind the row that counts them.

abbrev paths_in : Result Paths Refusal → ℕ
paths_in (Ok counts) = counts.paths
paths_in (Err _) = 0

abbrev actions_in : Result Paths Refusal → ℕ
actions_in (Ok counts) = counts.actions
actions_in (Err _) = 0

module _ (hints times sweeps : ℕ) {answer : Q.Paths} {lent room left lentActions actionRoom leftActions : List ℕ} {found : Result Paths Refusal}
    {r : ℕ} (p : PutPaths answer lent room lentActions actionRoom found) where
  -- A refusal keeps nothing of either room.
  pub paths_refused : {n : Refusal} → found ≡ Err n → PlanHanded (Q.Refused n) room left actionRoom leftActions r →
      PlanHanded (planned hints times sweeps answer) lent left lentActions leftActions r
  unfolding path_counts plan_number plan_room action_room_of
  paths_refused {n} e h = by answer (sym e ∙ p.counts)
    where
      by : (a : Q.Paths) → Err n ≡ path_counts a →
          PlanHanded (planned hints times sweeps a) lent left lentActions leftActions r
      by (Of ps) f = absurd (true≢false (cc f))
      by (Q.Refused m) f =
          let same : n ≡ m = cc in
          record {
            number = h.number ∙ ap refusal_number same;
            room = rw p.long at h.room;
            actions = rw p.long_actions at h.actions;
          }

  pub paths_put : {many more : ℕ} {full : List ℕ} → found ≡ Ok (record { paths = many; actions = more }) →
      full ≡ with_row room 0 (hints ∷ (times ∷ (sweeps ∷ (many ∷ [])))) →
      SettledBoth (1 + many) more full left actionRoom leftActions r →
      PlanHanded (planned hints times sweeps answer) lent left lentActions leftActions r
  unfolding path_counts
  paths_put {many} {more} {full} e put s = by answer refl (sym e ∙ p.counts)
    where
      by : (a : Q.Paths) → answer ≡ a → Ok (record { paths = many; actions = more }) ≡ path_counts a →
          PlanHanded (planned hints times sweeps a) lent left lentActions leftActions r
      by (Of ps) is f =
          let counted : many ≡ length ps = ap paths_in f in
          let listed : more ≡ length (all_actions ps) = ap actions_in f in
          let head : List ℕ = hints ∷ (times ∷ (sweeps ∷ (length ps ∷ []))) in
          handed_plan hints times sweeps ps
          (put ∙ rw (p.rows ps is, counted) (head_last lent head (path_rows ps) refl (fours_map path_words (λ q. refl) ps)))
          (p.action_rows_law ps is)
          (rw (← counted, ← listed) s)
      by (Q.Refused m) is f = absurd (true≢false (cc f))

-- ---- Both rooms of a refusal.

-- The rooms that are left to a refusal's number are those of the refused plan.
pub refused_both : {lent left lentActions leftActions : List ℕ} {number r : ℕ} (why : Refusal) → number ≡ refusal_number why →
    RefusedBoth number lent left lentActions leftActions r → PlanHanded (Q.Refused why) lent left lentActions leftActions r
unfolding plan_number plan_room action_room_of
refused_both why e h = record { number = h.number_law ∙ e; room = h.room; actions = h.action_room }
