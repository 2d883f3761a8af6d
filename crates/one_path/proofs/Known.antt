-- What the code has of what was sought settles it, but for its actions.
-- Assumes nothing.
use Prim.Native.Nat.{ℕ}
use mathlib.Core.Path.{◌≡◌}
use mathlib.Core.List.{List, []}
use lib.ListN.{length}
use Rattle.times.specs.declared.time.Duration.{Duration}
use Rattle.path_actions.specs.declared.action.SafeAction.{SafeAction}
use Rattle.one_path.specs.Path as P
use Rattle.one_path.specs.Path.{Sought}
use Rattle.one_path.specs.Laid.{found_of}
use Rattle.one_path.specs.declared.arrival_path.Found.TheVariants as F
use Rattle.std.specs.Prelude.{Ok, Err}
use Rattle.refusals.specs.declared.Refusal.{Refusal}

abbrev pub actions_in : Sought → List SafeAction
actions_in (P.Path actions pops hold) = actions
actions_in (P.Missing pops) = []
actions_in (P.Refused n) = []

pub path_is : (s : Sought) (many pops : ℕ) (hold : Duration) →
    found_of s ≡ Ok (F.Path many pops hold) → s ≡ P.Path (actions_in s) pops hold
unfolding found_of
path_is (P.Path actions p d) many pops hold e = cc
path_is (P.Missing p) many pops hold e = cc
path_is (P.Refused n) many pops hold e = cc

pub path_counts_law : (s : Sought) (many pops : ℕ) (hold : Duration) →
    found_of s ≡ Ok (F.Path many pops hold) → many ≡ length (actions_in s)
unfolding found_of
path_counts_law (P.Path actions p d) many pops hold e = cc
path_counts_law (P.Missing p) many pops hold e = cc
path_counts_law (P.Refused n) many pops hold e = cc

pub missing_is : (s : Sought) (pops : ℕ) → found_of s ≡ Ok (F.Missing pops) → s ≡ P.Missing pops
unfolding found_of
missing_is (P.Path actions p d) pops e = cc
missing_is (P.Missing p) pops e = cc
missing_is (P.Refused m) pops e = cc

pub refused_is : (s : Sought) (n : Refusal) → found_of s ≡ Err n → s ≡ P.Refused n
unfolding found_of
refused_is (P.Path actions p d) n e = cc
refused_is (P.Missing p) n e = cc
refused_is (P.Refused m) n e = cc
