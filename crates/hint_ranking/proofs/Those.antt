-- Those of a list that pass a test: where none does, how many they are, and how it is in a permutation.
-- Assumes nothing.
use mathlib.Core.Path.{◌≡◌, refl, sym, ap, ◌∙◌}
use mathlib.Core.Logic.{⊎_elim}
use mathlib.Core.Bool.{Bool, true, false, not, cond}
use mathlib.Core.List.{List, [], ◌∷◌, ◌++◌}
use mathlib.Core.List.Memᴰ
use mathlib.Core.List.{Memᴰ}
use Prim.Native.Nat.{ℕ, ◌+◌}
use native.Mathlib.Omega.{arith}
use borrow.Author.Tests.{not-false}
use lib.ListN.{length}
use Rattle.lent.specs.Listed.{every}
use Rattle.times.proofs.Exact.{both}
use Rattle.hint_list.specs.declared.hint.RankedHint.{RankedHint}
use Rattle.hint_ranking.specs.Ranked.{those, Permuted}

-- Whatever is in the list passes the test.
abbrev pub Each : (RankedHint → Bool) → List RankedHint → Type 0
Each test l = (x : RankedHint) → Memᴰ x l → test x ≡ true

-- The first does, and so do the others; and where one more does, all do.
pub first : {test : RankedHint → Bool} {x : RankedHint} {l : List RankedHint} → Each test (x ∷ l) → test x ≡ true
first {x} k = k x (Memᴰ.head refl)

pub rest : {test : RankedHint → Bool} {x : RankedHint} {l : List RankedHint} → Each test (x ∷ l) → Each test l
rest k y m = k y (Memᴰ.tail m)

pub with_one : {test : RankedHint → Bool} {x : RankedHint} {l : List RankedHint} → test x ≡ true → Each test l → Each test (x ∷ l)
with_one {test} {x} e k y m = ⊎_elim (λ (s : y ≡ x). ap test s ∙ e) (k y) (Memᴰ.cases_cons m)

-- What is in front where it passes is in front of two lists as it is of one.
pub in_front_law : (passes : Bool) (x : RankedHint) (m n r : List RankedHint) →
    m ≡ n ++ r → cond passes (x ∷ m) m ≡ cond passes (x ∷ n) n ++ r
in_front_law true x m n r e = ap (λ (t : List RankedHint). x ∷ t) e
in_front_law false x m n r e = e

-- How many pass: one, or none, of one hint.
abbrev pub one : Bool → ℕ
one true = 1
one false = 0

module _ (test : RankedHint → Bool) where
  -- The test of all, as what it says of each.
  pub each : (l : List RankedHint) → every test l ≡ true → Each test l
  unfolding every
  each [] e = λ x m. absurd (Memᴰ.not-nil m)
  each (x ∷ l) e = let here = both (test x) (every test l) e in with_one here.0 (each l here.1)

  pub none_there : (l : List RankedHint) → ((x : RankedHint) → Memᴰ x l → test x ≡ false) → those test l ≡ []
  unfolding those
  none_there [] f = refl
  none_there (x ∷ l) f = rw (f x (Memᴰ.head refl)) (none_there l (λ y m. f y (Memᴰ.tail m)))

  pub count_first : (x : RankedHint) (l : List RankedHint) → length (those test (x ∷ l)) ≡ one (test x) + length (those test l)
  unfolding those
  count_first x l = by (test x)
    where
      by : (b : Bool) → length (cond b (x ∷ those test l) (those test l)) ≡ one b + length (those test l)
      by true = omega arith
      by false = omega arith

  none_passes : (l : List RankedHint) → length (those test l) ≡ 0 → (x : RankedHint) → Memᴰ x l → test x ≡ false
  none_passes [] e x m = absurd (Memᴰ.not-nil m)
  none_passes (y ∷ l) e x m =
      let all = count_first y l in
      ⊎_elim
      (λ (s : x ≡ y). ap test s ∙ by (test y) (omega arith))
      (none_passes l (omega arith) x)
      (Memᴰ.cases_cons m)
    where
      by : (b : Bool) → one b ≡ 0 → b ≡ false
      by true z = absurd (omega arith)
      by false z = refl

-- A test that each passes in a list, each passes in a permutation of it.
pub each_permuted : (test : RankedHint → Bool) (m l : List RankedHint) → Permuted m l → Each test l → Each test m
each_permuted test m l p k x n =
    let fails : RankedHint → Bool = λ h. not (test h) in
    let none : those fails l ≡ [] = none_there fails l (λ y i. rw (k y i)) in
    not-false (test x) (none_passes fails m (p.as_many fails ∙ ap length none) x n)

all_there : (l : List RankedHint) → those (λ h. true) l ≡ l
unfolding those
all_there [] = refl
all_there (x ∷ l) = ap (λ (t : List RankedHint). x ∷ t) (all_there l)

-- As many in the one as in the other.
pub permuted_length : (m l : List RankedHint) → Permuted m l → length m ≡ length l
permuted_length m l p = ap length (sym (all_there m)) ∙ p.as_many (λ h. true) ∙ ap length (all_there l)
