-- What a path asks the agent to do, as words (RULES 13.23, 15.3, 15.4).
-- Assumes nothing.
use Rattle.std.specs.Prelude.{ℕ, List, [], ◌∷◌, map}
use Rattle.std.specs.Float.{binary64}
use Rattle.std.specs.Float.Ieee.{to_bits}
use Rattle.number_words.specs.Word.{word_of}
use Rattle.path_actions.specs.declared.action.SafeAction.{SafeAction}
use Rattle.path_actions.specs.declared.action.SafeAction.TheVariants.{Move, Wait}

-- The row of an action: 1, the time and the bits of x and y for a move; 2, the obstacle and the end for a wait.
unfoldable pub action_words : SafeAction → List ℕ
action_words (Move w) = 1 ∷ (word_of w.time.0 ∷ (to_bits binary64 w.x ∷ (to_bits binary64 w.y ∷ [])))
action_words (Wait obstacle end) = 2 ∷ (obstacle ∷ (word_of end.0 ∷ (0 ∷ [])))

abbrev pub action_rows : List SafeAction → List (List ℕ)
action_rows actions = map action_words actions
