-- What is wrong with a call whose lent hints were taken over or refused (RULES 5.1, 11.9, 11.10).
-- Assumes nothing.
use Rattle.domain.specs.Beside.{with_lent, with_lent_told}
use Rattle.std.specs.Prelude.{ℕ, Result, Ok, Err}
use Rattle.refusals.specs.declared.Refusal.{Refusal}
use Rattle.refusals.specs.Names.{refusal_number}

abbrev pub with_taken : Result ℕ Refusal → Result Unit Refusal → Result Unit Refusal
with_taken (Ok n) found = found
with_taken (Err why) found = with_lent (refusal_number why) found

-- The same of what is told by its number.
abbrev pub with_taken_told : Result ℕ Refusal → Result Unit ℕ → Result Unit ℕ
with_taken_told (Ok n) found = found
with_taken_told (Err why) found = with_lent_told (refusal_number why) found
