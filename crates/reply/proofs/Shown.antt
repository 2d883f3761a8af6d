-- The reply to a stream and what is printed for it are plain text, so its end in a room is the first zero or the room's own (RULES
-- 15.8).
-- Assumes nothing.
use Prim.Native.Nat.{ℕ}
use mathlib.Core.Path.{◌≡◌, refl}
use mathlib.Core.Bool.{false, true}
use mathlib.Core.List.{List, [], ◌∷◌}
use lib.Ieee.{binary64, to_bits}
use lib.ListN.{length}
use Rattle.number_words.specs.Word.{word_of}
use Rattle.lent.specs.Listed.{every}
use Rattle.lent.specs.Outcome.{Gives}
use Rattle.plan_model.specs.Plan.{Path, Plan, Planned, Refused}
use Rattle.path_actions.specs.declared.action.SafeAction.{SafeAction}
use Rattle.path_actions.specs.declared.action.SafeAction.TheVariants.{Move, Wait}
use Rattle.request_reader.specs.Asked.{stream_plan}
use Rattle.reply_lines.specs.Lines.{ok_line, path_line, printed}
use Rattle.reply_lines.specs.Shown.{is_shown}
use Rattle.reply_lines.proofs.Shown.{Shown, both, ok_shown, path_shown, move_shown, wait_shown, refused_shown}
use Rattle.reply.specs.Text.{action_text, actions_text, path_text, paths_text, plan_reply, roomed, stream_reply, stream_text}
use Rattle.refusals.specs.Names.{refusal_number}

action_shown : (a : SafeAction) → Shown (action_text a)
unfolding action_text
action_shown (Move w) = move_shown (word_of w.time.0) (to_bits binary64 w.x) (to_bits binary64 w.y)
action_shown (Wait obstacle end) = wait_shown obstacle (word_of end.0)

actions_shown : (actions : List SafeAction) → Shown (actions_text actions)
unfolding actions_text every
actions_shown [] = refl
actions_shown (a ∷ rest) = both (action_text a) (actions_text rest) (action_shown a) (actions_shown rest)

path_text_shown : (p : Path) → Shown (path_text p)
unfolding path_text
path_text_shown p =
    both (path_line (word_of p.arrival.0) p.pops (word_of p.hold.0)) (actions_text p.actions)
    (path_shown (word_of p.arrival.0) p.pops (word_of p.hold.0))
    (actions_shown p.actions)

paths_shown : (ps : List Path) → Shown (paths_text ps)
unfolding paths_text every
paths_shown [] = refl
paths_shown (p ∷ ps) = both (path_text p) (paths_text ps) (path_text_shown p) (paths_shown ps)

plan_shown : (p : Plan) → Shown (printed (plan_reply p))
unfolding plan_reply printed
plan_shown (Planned hints times sweeps ps) =
    both (ok_line hints times sweeps (length ps)) (paths_text ps) (ok_shown hints times sweeps (length ps)) (paths_shown ps)
plan_shown (Refused why) = refused_shown (refusal_number why)

pub printed_shown : (s : List ℕ) → every is_shown (stream_text s) ≡ true
unfolding stream_text stream_reply
printed_shown s = plan_shown (roomed (stream_plan s))

pub reply_shown : (s text : List ℕ) → stream_reply s ≡ Gives text → every is_shown text ≡ true
unfolding stream_text printed
reply_shown s text e = rw e at (printed_shown s)

pub zero_is_not_shown : is_shown 0 ≡ false
unfolding is_shown
zero_is_not_shown = refl
