-- What is found where numbers and hints beside the agent and the table are examined (RULES 3.10, 5.1, 11.9, 11.10).
-- Assumes nothing.
use Rattle.std.specs.Prelude.{ℕ, Bool, cond, leb, eqb}
use Rattle.refusals.specs.Names.{NUMBER, SHAPE, refusal_number}
use Rattle.std.specs.Prelude.{Result, Ok, Err}
use Rattle.refusals.specs.declared.Refusal.{Refusal}
use Rattle.refusals.specs.declared.Refusal.TheVariants as Refusals

-- At most 65,535 pops (RULES 3.10).
unfoldable pub is_budget : ℕ → Bool
is_budget budget = leb budget 65535

-- Of a refusal's own ground and one for 1, what the call is refused by: any for 2 comes first, and 1 comes before 3 (RULES 5.1).
abbrev pub or_number : Refusal → Refusal
or_number Refusals.Shape = Refusals.Shape
or_number _ = Refusals.Number

-- What is found where there is a ground for 1 besides.
abbrev pub numbered : Result Unit Refusal → Result Unit Refusal
numbered (Ok _) = Err Refusals.Number
numbered (Err why) = Err (or_number why)

-- What is found where numbers beside those examined must be in the table as well.
unfoldable pub with_numbers : Bool → Result Unit Refusal → Result Unit Refusal
with_numbers ok e = cond ok e (numbered e)

-- What is found with hints that are refused by this number: 2 for their count, else 1 (RULES 11.9, 11.10).
unfoldable pub with_lent : ℕ → Result Unit Refusal → Result Unit Refusal
with_lent number e = cond (eqb number SHAPE) (Err Refusals.Shape) (numbered e)

-- ---- The same where a refusal is told by its number, as C is: for every number, also one that no refusal has.

-- What is found, its refusal told by its number (RULES, section 4).
abbrev pub found_told : Result Unit Refusal → Result Unit ℕ
found_told (Ok _) = Ok tt
found_told (Err why) = Err (refusal_number why)

-- `numbered` of what is told: any 2 comes first, and 1 comes before 3 (RULES 5.1).
abbrev pub numbered_told : Result Unit ℕ → Result Unit ℕ
numbered_told (Ok _) = Err NUMBER
numbered_told (Err n) = cond (eqb n SHAPE) (Err SHAPE) (Err NUMBER)

-- `with_numbers` of what is told.
unfoldable pub with_numbers_told : Bool → Result Unit ℕ → Result Unit ℕ
with_numbers_told ok e = cond ok e (numbered_told e)

-- `with_lent` of what is told.
unfoldable pub with_lent_told : ℕ → Result Unit ℕ → Result Unit ℕ
with_lent_told number e = cond (eqb number SHAPE) (Err SHAPE) (numbered_told e)

-- The refusal that is told by 2 or, with a ground for 1, by 1 (RULES 5.1).
abbrev pub shape_or_number : ℕ → Refusal
shape_or_number number = cond (eqb number SHAPE) Refusals.Shape Refusals.Number
