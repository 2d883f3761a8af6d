-- What each part of building leaves in its room.
-- Assumes nothing.
use Prim.Native.Nat.{ℕ, ◌+◌, ◌/◌, min}
use mathlib.Core.Path.{◌≡◌, refl, ap, ◌∙◌}
use mathlib.Core.List.{List, [], ◌∷◌}
use lib.ListN.{length, replicate, length-replicate}
use Rattle.lent.specs.Outcome.{wiped}
use Rattle.lent.specs.Rows.{with_row, with_rows}
use Rattle.lent.proofs.Filling.{wiped_whole}
use Rattle.lent.proofs.Fours.{length_rows}
use Rattle.times.specs.declared.time.Duration.{Duration}
use Rattle.path_actions.specs.Action.{action_words, action_rows}
use Rattle.path_actions.specs.Built as P
use Rattle.path_actions.specs.Built.{Built}
use Rattle.path_actions.specs.Laid.{PutActions, hold_of}
use Rattle.path_actions.specs.declared.action.SafeAction.{SafeAction}
use Rattle.path_actions.proofs.Rowed.{actions_fours, rows_placed}
use Rattle.path_actions.proofs.Known.{actions_of}
use Rattle.std.specs.Prelude.{Result, Ok, Err}
use Rattle.refusals.specs.declared.Refusal.{Refusal}

-- One row, and two of them.
pub one_row : (lent : List ℕ) {left : List ℕ} (row : ℕ) (a : SafeAction) →
    left ≡ with_row lent row (action_words a) → left ≡ with_rows lent row (action_rows (a ∷ []))
unfolding with_rows
one_row lent row a e = e

pub two_rows : (lent : List ℕ) {mid left : List ℕ} (row : ℕ) (a b : SafeAction) → mid ≡ with_row lent row (action_words a) →
    left ≡ with_row mid (row + 1) (action_words b) → left ≡ with_rows lent row (action_rows (a ∷ (b ∷ [])))
unfolding with_rows
two_rows lent row a b e f = f ∙ ap (λ (room : List ℕ). with_row room (row + 1) (action_words b)) e

-- A refusal keeps nothing of the room, whichever row it was to begin at.
pub put_wiped : {lent left : List ℕ} {row : ℕ} (n : Refusal) → left ≡ wiped lent 0 → PutActions (P.Refused n) lent left row (Err n)
unfolding hold_of
put_wiped {lent} {left} n wipes =
    let zeros : left ≡ replicate (length lent) 0 = wipes ∙ wiped_whole lent in
    record {
      hold = refl;
      long = ap length zeros ∙ length-replicate (length lent) 0;
      rows = λ actions d e. cc;
      refused = λ m e. zeros;
    }

pub put_nothing : {lent left : List ℕ} {row other : ℕ} {r : Result Duration Refusal} (n : Refusal) →
    PutActions (P.Refused n) lent left other r → PutActions (P.Refused n) lent left row r
put_nothing n p = record { hold = p.hold; long = p.long; rows = λ actions d e. cc; refused = p.refused }

pub put_rows : {lent left : List ℕ} {row : ℕ} (actions : List SafeAction) (hold : Duration) →
    left ≡ with_rows lent row (action_rows actions) → PutActions (P.Of actions hold) lent left row (Ok hold)
unfolding hold_of
put_rows {lent} {left} {row} actions hold put =
    record {
      hold = refl;
      long = ap length put ∙ length_rows lent row (action_rows actions) (actions_fours actions);
      rows = λ more d e. put ∙ ap (λ (b : Built). with_rows lent row (action_rows (actions_of b))) e;
      refused = λ n e. cc;
    }

-- A row past the room stands for its end.
pub put_placed : {b : Built} {lent left : List ℕ} {r : Result Duration Refusal} (row : ℕ) →
    PutActions b lent left (min row (length lent / 4)) r → PutActions b lent left row r
put_placed {lent = lent} row p =
    record {
      hold = p.hold;
      long = p.long;
      rows = λ actions d e. p.rows actions d e ∙ rows_placed lent row (action_rows actions);
      refused = p.refused;
    }
