-- How a list over a range is walked from its front, and what follows where two functions agree on the range.
-- Assumes nothing.
use Prim.Native.Nat.{ℕ, zero, suc, ◌+◌, ◌-◌, ◌≤◌, ◌<◌}
use mathlib.Core.Path.{◌≡◌, refl, sym, ap, ◌∙◌}
use mathlib.Core.Bool.{Bool, true, false}
use mathlib.Core.List.{[], ◌∷◌}
use native.Mathlib.Omega.{arith}
use native.Mathlib.Nat.{add-zero}
use native.Mathlib.Numerals.{add-one}
use lib.ListN.{length, get_or}
use Rattle.lent.specs.Listed.{listed, listed_to, every}

-- At the end there is nothing left.
pub listed_done : {A : Type 0} (f : ℕ → A) (end i : ℕ) → end ≤ i → listed_to f end i ≡ []
unfolding listed
listed_done f end i h = by (end - i) (omega arith)
  where
    by : (n : ℕ) → n ≡ 0 → listed f n i ≡ []
    by zero e = refl
    by (suc n) e = absurd (omega arith)

-- Before it, the first element and the rest.
pub listed_next : {A : Type 0} (f : ℕ → A) (end i : ℕ) → i < end → listed_to f end i ≡ f i ∷ listed_to f end (i + 1)
unfolding listed
listed_next f end i h = by (end - i) (end - (i + 1)) (omega arith)
  where
    by : (n m : ℕ) → n ≡ suc m → listed f n i ≡ f i ∷ listed f m (i + 1)
    by zero m e = absurd (omega arith)
    by (suc n) m e =
        let same : n ≡ m = omega arith in ap (λ k. f i ∷ listed f k (suc i)) same ∙ ap (λ k. f i ∷ listed f m k) (sym (add-one i))

pub length_listed : {A : Type 0} (f : ℕ → A) (n i : ℕ) → length (listed f n i) ≡ n
unfolding listed
length_listed f zero i = refl
length_listed f (suc n) i = ap suc (length_listed f n (suc i))

-- An element of it, and what is read past its end.
pub listed_at : {A : Type 0} (f : ℕ → A) (n i j : ℕ) (d : A) → j < n → get_or (listed f n i) j d ≡ f (i + j)
unfolding listed
listed_at f zero i j d h = absurd (omega arith)
listed_at f (suc n) i zero d h = ap f (sym (add-zero i))
listed_at f (suc n) i (suc j) d h =
    let next : suc i + j ≡ i + suc j = omega arith in listed_at f n (suc i) j d (omega arith) ∙ ap f next

pub listed_past : {A : Type 0} (f : ℕ → A) (n i j : ℕ) (d : A) → n ≤ j → get_or (listed f n i) j d ≡ d
unfolding listed
listed_past f zero i j d h = refl
listed_past f (suc n) i zero d h = absurd (omega arith)
listed_past f (suc n) i (suc j) d h = listed_past f n (suc i) j d (omega arith)

-- A range that begins one later, walked by a function that looks one ahead.
pub listed_shift : {A : Type 0} (f : ℕ → A) (n i : ℕ) → listed f n (suc i) ≡ listed (λ j. f (suc j)) n i
unfolding listed
listed_shift f zero i = refl
listed_shift f (suc n) i = ap (λ xs. f (suc i) ∷ xs) (listed_shift f n (suc i))

-- Functions that agree on the range make the same list.
pub listed_same : {A : Type 0} (f g : ℕ → A) (n i : ℕ) →
    ((j : ℕ) → i ≤ j → j < i + n → f j ≡ g j) → listed f n i ≡ listed g n i
unfolding listed
listed_same f g zero i same = refl
listed_same f g (suc n) i same =
    ap (λ x. x ∷ listed f n (suc i)) (same i (omega arith) (omega arith)) ∙
    ap (λ xs. g i ∷ xs) (listed_same f g n (suc i) (λ j l r. same j (omega arith) (omega arith)))

-- A test of every element: nothing is left to test, the first fails, or it passes and the rest decide.
pub every_done : {A : Type 0} (test : A → Bool) (f : ℕ → A) (end i : ℕ) → end ≤ i → every test (listed_to f end i) ≡ true
unfolding every
every_done test f end i h = rw (listed_done f end i h)

pub every_fails : {A : Type 0} (test : A → Bool) (f : ℕ → A) (end i : ℕ) →
    i < end → test (f i) ≡ false → every test (listed_to f end i) ≡ false
unfolding every
every_fails test f end i h e = rw (listed_next f end i h, e)

pub every_passes : {A : Type 0} (test : A → Bool) (f : ℕ → A) (end i : ℕ) →
    i < end → test (f i) ≡ true → every test (listed_to f end i) ≡ every test (listed_to f end (i + 1))
unfolding every
every_passes test f end i h e = rw (listed_next f end i h, e)
