-- Every refusal has a number of its own, and none has 0, which stands for an answer.
-- Assumes nothing.
use Rattle.std.proofs.Common.{◌≡◌, ℕ, refl, ap, sym, ◌∙◌}
use Rattle.std.specs.Prelude.{Bool, true, false, eqb, cond}
use mathlib.Core.Logic.{◌≢◌}
use borrow.Author.Tests.{eqb-false}
use Rattle.refusals.specs.Names.{refusal_number}
use Rattle.refusals.specs.declared.Refusal.{Refusal}
use Rattle.refusals.specs.declared.Refusal.TheVariants.{Number, Shape, Backward, NoLine, Creep, Apart, Strayed}
use Rattle.refusals.specs.declared.Refusal.TheVariants.{Stuck, Late, Full, Spent, NoRoom, Line, Overflow}

pub not_nought : (why : Refusal) → eqb (refusal_number why) 0 ≡ false
not_nought Number = refl
not_nought Shape = refl
not_nought Backward = refl
not_nought NoLine = refl
not_nought Creep = refl
not_nought Apart = refl
not_nought Strayed = refl
not_nought Stuck = refl
not_nought Late = refl
not_nought Full = refl
not_nought Spent = refl
not_nought NoRoom = refl
not_nought Line = refl
not_nought Overflow = refl

pub above_nought : (why : Refusal) → refusal_number why ≢ 0
above_nought why = eqb-false (refusal_number why) 0 (not_nought why)
