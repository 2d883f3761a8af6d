-- What is wrong with an input of an agent and a table is 1, 2 or 3 (RULES 4.1 to 4.3, 5.1).
-- Assumes nothing.
use Prim.Native.Nat.{ℕ}
use mathlib.Core.Bool.{Bool, true, false, ◌&&◌, cond}
use lib.Dec.{eqb}
use Rattle.domain.specs.Domain.{is_leg, is_profile}
use Rattle.shapes.specs.Leg.{is_backward}
use Rattle.shapes.specs.declared.profile.CircularProfile.{CircularProfile}
use Rattle.shapes.specs.declared.waypoint.Leg.{Leg}
use Rattle.table.specs.Examined.{is_laid, is_shaped, are_allowed, table_examined, agent_examined}
use Rattle.table.specs.Lent.{Lent, obstacles_of}
use Rattle.domain.specs.Beside.{or_number, numbered, with_numbers, with_lent}
use Rattle.std.specs.Prelude.{Result, Ok, Err}
use Rattle.refusals.specs.declared.Refusal.{Refusal}
use Rattle.refusals.specs.declared.Refusal.TheVariants as Refusals

-- An examination whose refusals are such numbers.
abbrev pub Finds : (Refusal → Type 0) → Result Unit Refusal → Type 0
Finds N (Ok tt) = Unit {0}
Finds N (Err why) = N why

module _ (N : Refusal → Type 0) (one : N Refusals.Number) (two : N Refusals.Shape) where
  pub agent_finds : N Refusals.Backward → (p : CircularProfile) (agent : Leg) (lent : Lent) →
      Finds N (agent_examined p agent lent)
  unfolding agent_examined table_examined
  agent_finds three p agent lent =
      let os = obstacles_of lent in
      by (is_laid lent && is_shaped os) (is_profile p && (is_leg agent && are_allowed os)) (is_backward agent)
    where
      by : (shaped allowed backward : Bool) →
          Finds N (cond shaped
          (cond allowed (cond backward (Err Refusals.Backward) (Ok tt)) (Err Refusals.Number))
          (Err Refusals.Shape))
      by true true true = three
      by true true false = tt
      by true false backward = one
      by false allowed backward = two

  -- ---- More than the agent and the table.

  numbered_finds : (e : Result Unit Refusal) → Finds N (numbered e)
  numbered_finds (Ok _) = one
  numbered_finds (Err why) = elim why as (λ k. N (or_number k)) [ Refusals.Shape ↦ two | _ ↦ one ]

  pub numbers_find : (ok : Bool) (e : Result Unit Refusal) → Finds N e → Finds N (with_numbers ok e)
  unfolding with_numbers
  numbers_find true e h = h
  numbers_find false e h = numbered_finds e

  pub lent_finds : (number : ℕ) (e : Result Unit Refusal) → Finds N (with_lent number e)
  unfolding with_lent
  lent_finds number e = by (eqb number 2)
    where
      by : (count : Bool) → Finds N (cond count (Err Refusals.Shape) (numbered e))
      by true = two
      by false = numbered_finds e
