-- An input that is found fine, with all that is asked of it, is fine in each part (RULES 5.1).
-- Assumes nothing.
use Prim.Native.Nat.{ℕ}
use mathlib.Core.Path.{◌≡◌, ap, ◌∙◌}
use mathlib.Core.Bool.{Bool, true, false, cond, true≢false}
use lib.Dec.{eqb}
use Rattle.domain.specs.Beside.{with_numbers, with_lent, found_told, numbered_told, with_numbers_told, with_lent_told}
use Rattle.domain.proofs.Told.{numbers_tell, lent_tells, fine_told}
use Rattle.std.specs.Prelude.{Result, Ok, Err}
use Rattle.refusals.specs.Names.{NUMBER, SHAPE}
use Rattle.refusals.specs.declared.Refusal.{Refusal}

-- A ground for 1 leaves nothing fine.
numbered_not : (e d : Result Unit ℕ) → numbered_told e ≡ Ok tt → d ≡ Ok tt
numbered_not (Ok _) d f = cc
numbered_not (Err n) d f = by (eqb n 2) f
  where
    by : (t : Bool) → cond t (Err SHAPE) (Err NUMBER) ≡ Ok (tt {0}) → d ≡ Ok tt
    by true g = absurd (true≢false (cc g))
    by false g = absurd (true≢false (cc g))

pub numbers_told_fine : (ok : Bool) (e : Result Unit ℕ) → with_numbers_told ok e ≡ Ok tt → e ≡ Ok tt
unfolding with_numbers_told
numbers_told_fine true e f = f
numbers_told_fine false e f = numbered_not e e f

pub numbers_fine : (ok : Bool) (e : Result Unit Refusal) → with_numbers ok e ≡ Ok tt → e ≡ Ok tt
numbers_fine ok e f = fine_told e (numbers_told_fine ok (found_told e) (numbers_tell ok e ∙ ap found_told f))

-- Hints that are refused leave nothing fine.
pub lent_told_not_fine : (number : ℕ) (e : Result Unit ℕ) → with_lent_told number e ≡ Ok tt → ⊥
unfolding with_lent_told
lent_told_not_fine number e = by (eqb number 2)
  where
    by : (two : Bool) → cond two (Err SHAPE) (numbered_told e) ≡ Ok tt → ⊥
    by true f = true≢false (cc f)
    by false f = true≢false (cc (numbered_not e (Err NUMBER) f))

pub lent_not_fine : (number : ℕ) (e : Result Unit Refusal) → with_lent number e ≡ Ok tt → ⊥
lent_not_fine number e f = lent_told_not_fine number (found_told e) (lent_tells number e ∙ ap found_told f)
