-- What `all` answers over a range: the test of every element of the list over it.
-- Assumes nothing.
use Rattle.std.proofs.Common.{◌≡◌, ℕ, zero, suc, ◌-◌, Bool, true, false, ◌&&◌, List, Option, refl, ap, ◌∙◌, add-one, MatchOption}
use Rattle.std.proofs.iter.Yields.{nat_range_steps}
use Rattle.std.proofs.lemmas.Iterator.{YieldsList-from_range}
use Rattle.std.proofs.lemmas.Iterator.Search.{all_from_yields_List}
use Rattle.std.specs.Fn.{Called}
use Rattle.std.specs.Iterator.{YieldsThen}
use Rattle.std.specs.List.{list_all, range_with_len, FoldsTo}
use Rattle.std.specs.declared.ops.Range.{Range}
use denote.Param.Members.{Mut}
use Rattle.lent.specs.Listed.{listed, listed_to, every}

-- The library's test of the numbers themselves.
every_of_range : {A : Type 0} (test : A → Bool) (f : ℕ → A) (n i : ℕ) →
    list_all (λ j. test (f j)) (range_with_len i n) ≡ every test (listed f n i)
unfolding listed every
every_of_range test f zero i = refl
every_of_range test f (suc n) i = ap (λ (k : ℕ). test (f i) && list_all (λ j. test (f j)) (range_with_len k n)) (add-one i) ∙ ap (λ t. test (f i) && t) (every_of_range test f n (suc i))

pub every_from_all : {A F : Type 0} {g : Mut F (ℕ × Unit {0}) Bool} {s u : Range ℕ} {h : F} {r : Bool}
    (test : A → Bool) (f : ℕ → A) (end i : ℕ) →
    (xs : List ℕ) × (o : Option ℕ) × (j : F) × YieldsThen nat_range_steps s xs o u ×
    FoldsTo (λ p x q. Called g p (x, tt) true q) h xs j ×
    MatchOption o (r ≡ true) (λ x. (r ≡ false) × ((k : F) × Called g j (x, tt) false k)) →
    s ≡ record { start = i; end = end } →
    ((x : ℕ) (t : Bool) (q : F) → Called g h (x, tt) t q → (q ≡ h) × (t ≡ test (f x))) →
    r ≡ every test (listed_to f end i)
every_from_all test f end i ran over says =
    all_from_yields_List (λ j. test (f j)) _ _ _ ran (YieldsList-from_range i end (end - i) over refl) says ∙
    every_of_range test f (end - i) i
