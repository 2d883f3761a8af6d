-- What is put one behind another: the next, the end, and what is read in the end.
-- Assumes nothing.
use Prim.Native.Nat.{ℕ, zero, suc, ◌+◌, ◌-◌, ◌≤◌, ◌<◌}
use mathlib.Core.Path.{◌≡◌, refl, ◌∙◌}
use mathlib.Core.Bool.{Bool, true, false, cond}
use mathlib.Core.Logic.{⊎_elim}
use native.Mathlib.Nat.{eq-or-lt_of_le}
use native.Mathlib.Omega.{arith}
use native.Mathlib.Numerals.{add-one}
use borrow.Author.Tests.{ltb-true}
use lib.Dec.{ltb}
use Rattle.std.proofs.lemmas.List.{get_or_default}
use Rattle.table_packing.specs.Filling.{put_from, put_to}

-- What holds with a thing stored, where it has room, and of the list as it was, holds of the two by that test.
pub in_room : {A : Type 0} (P : A → Type 0) (i room : ℕ) (stored same : A) →
    (i < room → P stored) → P same → P (cond (ltb i room) stored same)
in_room P i room stored same put kept = by (ltb i room) (ltb-true i room)
  where
    by : (t : Bool) → (t ≡ true → i < room) → P (cond t stored same)
    by true h = put (h refl)
    by false h = kept

module _ {A : Type 0} (put : ℕ → A → A) where
  pub put_next : (end i : ℕ) (l : A) → i < end → put_to put end i l ≡ put_to put end (i + 1) (put i l)
  unfolding put_from
  put_next end i l h = let all : end - i ≡ suc (end - (i + 1)) = omega arith in rw (all, add-one)

  pub put_done : (end i : ℕ) (l : A) → end ≤ i → put_to put end i l ≡ l
  unfolding put_from
  put_done end i l h = let none : end - i ≡ 0 = omega arith in rw none

  -- What every put from i on leaves is there in the end,
  pub put_kept : {B : Type 0} (read : A → B) (n i : ℕ) (l : A) →
      ((j : ℕ) (a : A) → i ≤ j → read (put j a) ≡ read a) → read (put_from put n i l) ≡ read l
  unfolding put_from
  put_kept read zero i l same = refl
  put_kept read (suc n) i l same =
      put_kept read n (suc i) (put i l) (λ j a h. same j a (omega arith)) ∙ same i l (omega arith)

  -- and so is what was put, where no later put takes its place.
  module _ {B : Type 0} (IsGood : A → Type 0) (read : ℕ → A → B) (v : ℕ → B) (room : ℕ)
      (good : (j : ℕ) (a : A) → IsGood a → IsGood (put j a))
      (here : (j : ℕ) (a : A) → j < room → IsGood a → read j (put j a) ≡ v j)
      (later : (p j : ℕ) (a : A) → p < j → read p (put j a) ≡ read p a) where
    put_read : (n i : ℕ) (l : A) (p : ℕ) → i ≤ p → p < i + n → i + n ≤ room → IsGood l → read p (put_from put n i l) ≡ v p
    unfolding put_from
    put_read zero i l p from to fits g = absurd (omega arith)
    put_read (suc n) i l p from to fits g =
        ⊎_elim
        (λ (e : i ≡ p).
        rw (← e) (put_kept (read i) n (suc i) (put i l) (λ j a h. later i j a (omega arith)) ∙ here i l (omega arith) g))
        (λ (h : i < p). put_read n (suc i) (put i l) p (omega arith) (omega arith) (omega arith) (good i l g))
        (eq-or-lt_of_le from)

    -- Of all that are put from the first on, each.
    pub put_all_read : (n : ℕ) (l : A) (p : ℕ) → n ≤ room → p < n → IsGood l → read p (put_to put n 0 l) ≡ v p
    put_all_read n l p fits h good-l = put_read (n - 0) 0 l p (omega arith) (omega arith) (omega arith) good-l

-- What a loop that puts one thing after another cites.
pub ruleset puts = (put_next, put_done, get_or_default)
