-- What the code has of what was built settles it, but for its actions.
-- Assumes nothing.
use Prim.Native.Nat.{ℕ}
use mathlib.Core.Path.{◌≡◌}
use mathlib.Core.List.{List, []}
use Rattle.times.specs.declared.time.Duration.{Duration}
use Rattle.path_actions.specs.Built as P
use Rattle.path_actions.specs.Built.{Built}
use Rattle.path_actions.specs.Laid.{hold_of}
use Rattle.path_actions.specs.declared.action.SafeAction.{SafeAction}
use Rattle.std.specs.Prelude.{Result, Ok, Err}
use Rattle.refusals.specs.declared.Refusal.{Refusal}

abbrev pub actions_of : Built → List SafeAction
actions_of (P.Of actions hold) = actions
actions_of (P.Refused n) = []

pub held_is : (b : Built) (hold : Duration) → hold_of b ≡ Ok hold → b ≡ P.Of (actions_of b) hold
unfolding hold_of
held_is (P.Of actions d) hold e = cc
held_is (P.Refused n) hold e = cc

pub unheld_is : (b : Built) (n : Refusal) → hold_of b ≡ Err n → b ≡ P.Refused n
unfolding hold_of
unheld_is (P.Of actions d) n e = cc
unheld_is (P.Refused m) n e = cc
