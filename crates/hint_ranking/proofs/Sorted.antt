-- A list in order: its rest is in order, and nothing in it goes before its first (RULES 11.6).
-- Assumes nothing.
use mathlib.Core.Path.{◌≡◌, refl, sym, ◌∙◌}
use mathlib.Core.Logic.{⊎_elim}
use mathlib.Core.Bool.{Bool, true, false, not, ◌&&◌}
use mathlib.Core.List.Memᴰ
use mathlib.Core.List.{List, [], ◌∷◌, Memᴰ}
use borrow.Author.Tests.{not-true}
use Rattle.times.proofs.Exact.{both}
use Rattle.hint_list.specs.declared.hint.RankedHint.{RankedHint}
use Rattle.hint_ranking.specs.Ranked.{goes_before, sorted, is_known}
use Rattle.hint_ranking.proofs.Before.{before_self, before_trans}
use Rattle.hint_ranking.proofs.Those.{Each, first, rest}

-- The first of l does not go before x.
abbrev pub leads : RankedHint → List RankedHint → Bool
leads x [] = true
leads x (y ∷ l) = not (goes_before y x)

pub sorted_first : (x : RankedHint) (l : List RankedHint) → sorted (x ∷ l) ≡ (leads x l && sorted l)
unfolding sorted
sorted_first x [] = refl
sorted_first x (y ∷ l) = refl

pub first_leads : (x : RankedHint) (l : List RankedHint) → sorted (x ∷ l) ≡ true → leads x l ≡ true
first_leads x l e = (both (leads x l) (sorted l) (sym (sorted_first x l) ∙ e)).0

pub sorted_rest : (x : RankedHint) (l : List RankedHint) → sorted (x ∷ l) ≡ true → sorted l ≡ true
sorted_rest x l e = (both (leads x l) (sorted l) (sym (sorted_first x l) ∙ e)).1

later_not_before : (x : RankedHint) (l : List RankedHint) →
    Each is_known (x ∷ l) → sorted (x ∷ l) ≡ true → (y : RankedHint) → Memᴰ y l → goes_before y x ≡ false
later_not_before x [] k e y m = absurd (Memᴰ.not-nil m)
later_not_before x (z ∷ l) k e y m =
    let next : goes_before z x ≡ false = not-true (goes_before z x) (first_leads x (z ∷ l) e) in
    let others = later_not_before z l (rest k) (sorted_rest x (z ∷ l) e) y in
    ⊎_elim
    (λ (s : y ≡ z). rw s next)
    (λ n. before_trans x z y (first k) (first (rest k)) (rest k y m) next (others n))
    (Memᴰ.cases_cons m)

pub not_before_first : (x : RankedHint) (l : List RankedHint) →
    Each is_known (x ∷ l) → sorted (x ∷ l) ≡ true → (y : RankedHint) → Memᴰ y (x ∷ l) → goes_before y x ≡ false
not_before_first x l k e y m =
    ⊎_elim (λ (s : y ≡ x). rw s (before_self x)) (later_not_before x l k e y) (Memᴰ.cases_cons m)
