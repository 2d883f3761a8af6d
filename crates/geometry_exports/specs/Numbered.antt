-- What is handed over of an answer that is refused by a number, whichever number it is (RULES 4.14).
-- Assumes nothing.
use Rattle.std.specs.Prelude.{ℕ, Result, Ok, Err}
use Rattle.lent.specs.Outcome.{Outcome, Refuses}
use Rattle.refusals.specs.declared.Refusal.{Refusal}

-- The outcome of the value, or the refusal by that very number (RULES 4.14).
abbrev pub numbered_outcome : {A : Type 0} → (Result A Refusal → Outcome) → Result A ℕ → Outcome
numbered_outcome outcome (Ok value) = outcome (Ok value)
numbered_outcome outcome (Err n) = Refuses n
