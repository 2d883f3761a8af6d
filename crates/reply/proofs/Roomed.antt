-- What is told of the number and the rooms that a plan leaves is its reply, with 12 past 1,600 actions (RULES 14.18).
-- Assumes nothing.
use Prim.Native.Nat.{ℕ, ◌+◌, ◌*◌, ◌≤◌}
use mathlib.Core.Path.{◌≡◌, refl, sym, ap, ◌∙◌}
use mathlib.Core.Logic.{◌≢◌, ◌⊎◌, inl, inr}
use mathlib.Core.Bool.{Bool, true, false, cond}
use mathlib.Core.List.{List, ◌∷◌, ◌++◌, map}
use borrow.Author.Tests.{le-leb, lt-leb, leb-true, leb-false, ne_eqb, eqb-false}
use native.Mathlib.Omega.{arith}
use lib.Dec.{leb, eqb}
use lib.ListN.{length, take, replicate, length-map}
use lib.Seq.{take_at}
use Rattle.lent.specs.Outcome.{Outcome, Gives, Refuses}
use Rattle.lent.specs.Rows.{words_in, has_room}
use Rattle.path_actions.specs.Action.{action_rows}
use Rattle.plan_model.specs.Laid.{both_hold, filled, plan_number, plan_room, action_room_of, PlanHanded}
use Rattle.plan_model.specs.Plan.{Path, Plan, Planned, Refused, path_rows, head_rows, all_actions}
use Rattle.refusal_claims.specs.Numbers.{PlanRefusal}
use Rattle.request_reader.specs.Asked.{stream_plan}
use Rattle.reply_lines.specs.Lines.{ok_line}
use Rattle.reply_text.specs.Answer.{row_at, rows_of, plan_lines}
use Rattle.reply.specs.Text.{paths_text, plan_reply, roomed, stream_reply}
use Rattle.reply.proofs.Asked.{stream_refused, few}
use Rattle.refusals.specs.Names.{refusal_number}
use Rattle.refusals.proofs.Numbers.{not_nought}
use Rattle.reply.proofs.Rows.{row_of_path, rows_cons, action_rows_law, path_rows_law, path_lines_law}
use Rattle.refusals.specs.declared.Refusal.TheVariants as Refusals
use Rattle.refusals.specs.declared.Refusal.{Refusal}

-- A room with a plan's rows and zeros behind them, and one with its actions.
lines_told : (hints times sweeps : ℕ) (ps : List Path) (zeros others : List ℕ) →
    plan_lines (words_in (head_rows hints times sweeps ps) ++ zeros) (words_in (action_rows (all_actions ps)) ++ others) ≡
    ok_line hints times sweeps (length ps) ++ paths_text ps
unfolding plan_lines row_at words_in
lines_told hints times sweeps ps zeros others =
    let rows : rows_of (words_in (head_rows hints times sweeps ps) ++ zeros) ≡
    record { first = hints; second = times; third = sweeps; fourth = length ps } ∷ (map row_of_path ps ++ rows_of zeros) =
    rows_cons hints times sweeps (length ps) (words_in (path_rows ps) ++ zeros) ∙
    ap (λ xs. record { first = hints; second = times; third = sweeps; fourth = length ps } ∷ xs) (path_rows_law ps zeros) in
    let own : take (length ps) (map row_of_path ps ++ rows_of zeros) ≡ map row_of_path ps =
    take_at (map row_of_path ps) (rows_of zeros) (length ps) (length-map ps row_of_path) in
    rw (rows, own, action_rows_law (all_actions ps) others, path_lines_law ps (rows_of others))

-- Rooms of 290 rows for paths and 1,600 for actions are too small exactly past 1,600 actions.
fits_few : (paths actions : ℕ) → paths ≤ 289 → both_hold 1160 6400 (1 + paths) actions ≡ leb actions 1600
unfolding has_room
fits_few paths actions few = by (leb actions 1600) refl
  where
    head : leb (4 * (1 + paths)) 1160 ≡ true
    head = le-leb (4 * (1 + paths)) 1160 (omega arith)

    by : (b : Bool) → leb actions 1600 ≡ b → both_hold 1160 6400 (1 + paths) actions ≡ b
    by true e = rw (head, le-leb (4 * actions) 6400 (omega (arith, leb-true actions 1600 e)))
    by false e = rw (head, lt-leb (4 * actions) 6400 (omega (arith, leb-false actions 1600 e)))

-- A number that is not 0 is a refusal's, and then nothing is told of the rooms.
abbrev pub told_answer : ℕ → List ℕ → List ℕ → Outcome
told_answer number paths actions = cond (eqb number 0) (Gives (plan_lines paths actions)) (Refuses number)

-- For every plan whose paths are at most 289: a refusal's number is not 0.
pub told_plan : (plan : Plan) →
    ((hints times sweeps : ℕ) (ps : List Path) → plan ≡ Planned hints times sweeps ps → length ps ≤ 289) →
    told_answer (plan_number plan 1160 6400) (plan_room plan 1160 6400) (action_room_of plan 1160 6400) ≡ plan_reply (roomed plan)
unfolding plan_number plan_room action_room_of roomed plan_reply
told_plan (Refused why) few = rw (not_nought why)
told_plan (Planned hints times sweeps ps) few =
    rw (fits_few (length ps) (length (all_actions ps)) (few hints times sweeps ps refl)) (by (leb (length (all_actions ps)) 1600))
  where
    by : (b : Bool) →
        told_answer (cond b 0 12) (cond b (filled (head_rows hints times sweeps ps) 1160) (replicate 1160 0))
        (cond b (filled (action_rows (all_actions ps)) 6400) (replicate 6400 0)) ≡
        plan_reply (cond b (Planned hints times sweeps ps) (Refused Refusals.NoRoom))
    by true = ap Gives (lines_told hints times sweeps ps _ _)
    by false = refl

-- Of a stream's own plan, by the number and the rooms that its call leaves.
pub told_stream : (s : List ℕ) {lent paths lentActions actions : List ℕ} {number : ℕ} →
    length lent ≡ 1160 → length lentActions ≡ 6400 → PlanHanded (stream_plan s) lent paths lentActions actions number →
    stream_reply s ≡ told_answer number paths actions
unfolding stream_reply
told_stream s long longActions h =
    let number = rw (long, longActions) at h.number in
    let room = rw (long, longActions) at h.room in
    let actionRoom = rw (long, longActions) at h.actions in
    rw (number, room, actionRoom) (sym (told_plan (stream_plan s) (few s)))

-- A reply refuses by the number that the plan's call hands back, which is not 0.
refused_number : (s : List ℕ) (n : ℕ) → stream_reply s ≡ Refuses n → (plan_number (stream_plan s) 1160 6400 ≡ n) × (n ≢ 0)
unfolding stream_reply
refused_number s n e = by (eqb number 0) refl (told_plan plan (few s) ∙ e)
  where
    plan : Plan
    plan = stream_plan s

    number : ℕ
    number = plan_number plan 1160 6400

    is_text : Outcome → ℕ
    is_text (Gives text) = 1
    is_text (Refuses m) = 0

    number_in : Outcome → ℕ
    number_in (Gives text) = 0
    number_in (Refuses m) = m

    by : (b : Bool) → eqb number 0 ≡ b →
        cond b (Gives (plan_lines (plan_room plan 1160 6400) (action_room_of plan 1160 6400))) (Refuses number) ≡ Refuses n →
        (number ≡ n) × (n ≢ 0)
    by true test f = let one : ◌≡◌ {A = ℕ} 1 0 = ap is_text f in absurd (omega arith)
    by false test f =
        let same : number ≡ n = ap number_in f in
        (same, λ nought. eqb-false number 0 test (same ∙ nought))

-- No refusal is handed over as 0, which stands for a text (RULES 4.12).
pub reply_numbered : (s : List ℕ) (n : ℕ) → stream_reply s ≡ Refuses n → n ≢ 0
reply_numbered s n e = (refused_number s n e).1

-- Each has a number of a plan's list, or 12 where there are too many actions (RULES D1, 14.18).
pub reply_refused : (s : List ℕ) (n : ℕ) → stream_reply s ≡ Refuses n →
    ((why : Refusal) × (PlanRefusal why × (refusal_number why ≡ n))) ⊎ (n ≡ 12)
unfolding plan_number
reply_refused s n e = by (stream_plan s) refl (refused_number s n e).0
  where
    by_room : (b : Bool) → cond b 0 12 ≡ n → ((why : Refusal) × (PlanRefusal why × (refusal_number why ≡ n))) ⊎ (n ≡ 12)
    by_room true h = absurd (reply_numbered s n e (sym h))
    by_room false h = inr (sym h)

    by : (p : Plan) → stream_plan s ≡ p → plan_number p 1160 6400 ≡ n →
        ((why : Refusal) × (PlanRefusal why × (refusal_number why ≡ n))) ⊎ (n ≡ 12)
    by (Refused why) known h = inl (why, (stream_refused s why known, h))
    by (Planned hints times sweeps ps) known h = by_room (both_hold 1160 6400 (1 + length ps) (length (all_actions ps))) h
