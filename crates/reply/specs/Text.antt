-- The reply to a stream, and what `plan` prints for it (RULES 14.18, 15.1 to 15.11).
-- Assumes nothing.
use Rattle.std.specs.Prelude.{ℕ, cond, List, [], ◌∷◌, ◌++◌, leb, length}
use Rattle.std.specs.Float.{binary64}
use Rattle.std.specs.Float.Ieee.{to_bits}
use Rattle.refusals.specs.Names.{NO_ROOM}
use Rattle.lent.specs.Outcome.{Outcome, Gives, Refuses}
use Rattle.number_words.specs.Word.{word_of}
use Rattle.plan_model.specs.Plan.{Path, Plan, Planned, Refused, all_actions}
use Rattle.path_actions.specs.declared.action.SafeAction.{SafeAction}
use Rattle.path_actions.specs.declared.action.SafeAction.TheVariants.{Move, Wait}
use Rattle.request_reader.specs.Asked.{stream_plan}
use Rattle.reply_lines.specs.Lines.{ok_line, path_line, move_line, wait_line, printed}
use Rattle.refusals.specs.declared.Refusal.TheVariants as Refusals
use Rattle.refusals.specs.Names.{refusal_number}

-- The line of an action (RULES 15.3, 15.4).
unfoldable pub action_text : SafeAction → List ℕ
action_text (Move w) = move_line (word_of w.time.0) (to_bits binary64 w.x) (to_bits binary64 w.y)
action_text (Wait obstacle end) = wait_line obstacle (word_of end.0)

unfoldable pub actions_text : List SafeAction → List ℕ
actions_text [] = []
actions_text (a ∷ rest) = action_text a ++ actions_text rest

-- A path's line, then those of its actions in order (RULES 15.2, 15.6).
unfoldable pub path_text : Path → List ℕ
path_text p = path_line (word_of p.arrival.0) p.pops (word_of p.hold.0) ++ actions_text p.actions

unfoldable pub paths_text : List Path → List ℕ
paths_text [] = []
paths_text (p ∷ ps) = path_text p ++ paths_text ps

-- First the counts, then the paths in order of arrival (RULES 15.1, 15.6); of a refusal its number alone (RULES 4.14).
unfoldable pub plan_reply : Plan → Outcome
plan_reply (Planned hints times sweeps ps) = Gives (ok_line hints times sweeps (length ps) ++ paths_text ps)
plan_reply (Refused n) = Refuses (refusal_number n)

-- There is room for 1,600 actions over all paths, and for everything else; past it the answer is 12 (RULES 14.18).
unfoldable pub roomed : Plan → Plan
roomed (Planned hints times sweeps ps) =
    cond (leb (length (all_actions ps)) 1600) (Planned hints times sweeps ps) (Refused Refusals.NoRoom)
roomed (Refused n) = Refused n

-- The reply to a stream: a text, or the number of a refusal.
unfoldable pub stream_reply : List ℕ → Outcome
stream_reply s = plan_reply (roomed (stream_plan s))

-- What `plan` prints.
unfoldable pub stream_text : List ℕ → List ℕ
stream_text s = printed (stream_reply s)
