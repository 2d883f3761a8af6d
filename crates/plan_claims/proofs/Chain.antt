-- A chain that is found, from its first hint on (RULES 13.10, 13.16, 13.23).
-- Assumes nothing.
use Prim.Native.Nat.{ℕ}
use mathlib.Core.Path.{◌≡◌, refl, sym, subst}
use mathlib.Core.Bool.{Bool}
use mathlib.Core.List.{List, [], ◌∷◌, ◌++◌, append_assoc, append-nil}
use Rattle.std.specs.Prelude.{Option, Some, None}
use Rattle.path_search.specs.Safe.{SafeChain, SafeWay, one, more}
use Rattle.path_search.specs.declared.trial.Trial.{Trial}
use Rattle.path_search.specs.declared.trial.Trial.TheVariants.{Passed}
use Rattle.std.specs.Prelude.{Result, Ok}
use Rattle.refusals.specs.declared.Refusal.{Refusal}

module _ (to_parent : ℕ → Option ℕ → Result Trial Refusal) (from_start : ℕ → Result Trial Refusal) (reaches : ℕ → ℕ → Bool) where
  -- From hint i by way of these to the goal, each way to the next having passed.
  abbrev pub Leads : ℕ → List ℕ → Type 0
  Leads i [] = to_parent i None ≡ (Ok Passed)
  Leads i (j ∷ l) = (to_parent i (Some j) ≡ (Ok Passed)) × Leads j l

  pub record Begun (l : List ℕ) : Type 0 where
    pub first : ℕ
    pub rest : List ℕ
    pub links : l ≡ first ∷ rest
    pub started : from_start first ≡ (Ok Passed)
    pub leads : Leads first rest

  begun_with : {l : List ℕ} {k : ℕ} → SafeChain to_parent from_start reaches l k → (rest : List ℕ) → Leads k rest → Begun (l ++ rest)
  begun_with (one {i} passed) rest leads =
      record { first = i; rest = rest; links = refl; started = passed; leads = leads }
  begun_with (more {l} {k} {i} chain lower reach passed) rest leads =
      subst Begun (sym (append_assoc l (i ∷ []) rest)) (begun_with chain (i ∷ rest) (passed, leads))

  pub begun : {count : ℕ} {l : List ℕ} → SafeWay to_parent from_start reaches count l → Begun l
  begun {count} {l} way = subst Begun (append-nil l) (begun_with way.chain [] way.goal)
