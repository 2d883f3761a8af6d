-- One hint more at its place: nothing is lost, the order is kept, and it is behind those level with it (RULES 11.6, 11.7).
-- Assumes nothing.
use mathlib.Core.Path.{◌≡◌, refl, sym, ◌∙◌}
use mathlib.Core.Bool.{Bool, true, false, not, cond, true≢false}
use mathlib.Core.List.{List, [], ◌∷◌, ◌++◌, append-nil, Memᴰ}
use mathlib.Mathlib.Data.Bool.Basic.{eq-false_of_not-eq-true}
use native.Mathlib.Omega.{arith}
use borrow.Author.Tests.{not-true}
use lib.ListN.{length}
use Rattle.times.proofs.Exact.{both}
use Rattle.hint_list.specs.declared.hint.RankedHint.{RankedHint}
use Rattle.hint_ranking.specs.Ranked.{goes_before, inserted, sorted, those, Permuted, are_level, is_known}
use Rattle.hint_ranking.proofs.Before.{before_asym, before_trans}
use Rattle.hint_ranking.proofs.Those.{Each, first, rest, in_front_law, none_there, count_first}
use Rattle.hint_ranking.proofs.Sorted.{leads, sorted_first, first_leads, sorted_rest, not_before_first}

-- h stands in front of x, or x in front of the others with h among them.
pub by_place : (P : List RankedHint → Type 0) (h x : RankedHint) (l : List RankedHint) →
    (goes_before h x ≡ true → P (h ∷ (x ∷ l))) → (goes_before h x ≡ false → P (x ∷ inserted h l)) → P (inserted h (x ∷ l))
unfolding inserted
by_place P h x l here further = by (goes_before h x) refl
  where
    by : (b : Bool) → goes_before h x ≡ b → P (cond b (h ∷ (x ∷ l)) (x ∷ inserted h l))
    by true e = here e
    by false e = further e

count_inserted : (test : RankedHint → Bool) (h : RankedHint) (l : List RankedHint) →
    length (those test (inserted h l)) ≡ length (those test (h ∷ l))
count_inserted test h [] = unfold inserted in refl
count_inserted test h (x ∷ l) =
    let others = count_inserted test h l in
    let behind = count_first test x (inserted h l) in
    let found = count_first test h (x ∷ l) in
    by_place
    (λ m. length (those test m) ≡ length (those test (h ∷ (x ∷ l))))
    h
    x
    l
    (λ b. refl)
    (λ b. omega (arith, count_first test h l, count_first test x l))

pub inserted_permuted : (h : RankedHint) (l : List RankedHint) → Permuted (inserted h l) (h ∷ l)
inserted_permuted h l = record { as_many = λ test. count_inserted test h l }

leads_inserted : (h x : RankedHint) (l : List RankedHint) → goes_before h x ≡ false → leads x l ≡ true → leads x (inserted h l) ≡ true
leads_inserted h x [] e f = unfold inserted in rw e
leads_inserted h x (y ∷ l) e f = by_place (λ m. leads x m ≡ true) h y l (λ b. rw e) (λ b. f)

pub inserted_sorted : (h : RankedHint) (l : List RankedHint) → sorted l ≡ true → sorted (inserted h l) ≡ true
inserted_sorted h [] e = unfold inserted sorted in refl
inserted_sorted h (x ∷ l) e =
    let others = inserted_sorted h l (sorted_rest x l e) in
    by_place
    (λ m. sorted m ≡ true)
    h
    x
    l
    (λ b. rw (sorted_first h (x ∷ l), before_asym h x b) e)
    (λ b. rw (sorted_first x (inserted h l), leads_inserted h x l b (first_leads x l e)) others)

-- Where h is level with k and goes before the first of a list in order, none in it is level with k.
pub none_level : (k h x : RankedHint) (l : List RankedHint) →
    is_known k ≡ true → is_known h ≡ true → Each is_known (x ∷ l) → sorted (x ∷ l) ≡ true →
    are_level k h ≡ true → goes_before h x ≡ true → those (are_level k) (x ∷ l) ≡ []
none_level k h x l kk kh kl e f b =
    none_there (are_level k) (x ∷ l) (λ y m. eq-false_of_not-eq-true (λ (t : are_level k y ≡ true). true≢false (sym b ∙ behind y m t)))
  where
    behind : (y : RankedHint) → Memᴰ y (x ∷ l) → are_level k y ≡ true → goes_before h x ≡ false
    behind y m t =
        let kx = first kl in
        let k-y = not-true (goes_before k y) (both (not (goes_before k y)) (not (goes_before y k)) t).0 in
        let h-k = not-true (goes_before h k) (both (not (goes_before k h)) (not (goes_before h k)) f).1 in
        before_trans x k h kx kk kh (before_trans x y k kx (kl y m) kk (not_before_first x l kl e y m) k-y) h-k

-- Those level with k are as they were, and h is behind them where it is one.
pub inserted_stable : (k h : RankedHint) (l : List RankedHint) →
    is_known k ≡ true → is_known h ≡ true → Each is_known l → sorted l ≡ true →
    those (are_level k) (inserted h l) ≡ those (are_level k) l ++ those (are_level k) (h ∷ [])
unfolding those
inserted_stable k h [] kk kh kl e = unfold inserted in refl
inserted_stable k h (x ∷ l) kk kh kl e =
    let others = inserted_stable k h l kk kh (rest kl) (sorted_rest x l e) in
    by_place
    (λ m. those (are_level k) m ≡ those (are_level k) (x ∷ l) ++ those (are_level k) (h ∷ []))
    h
    x
    l
    (λ b. alone (are_level k h) (those (are_level k) (x ∷ l)) (λ f. none_level k h x l kk kh kl e f b))
    (λ b. in_front_law (are_level k x) x _ _ _ others)
  where
    alone : (b : Bool) (m : List RankedHint) → (b ≡ true → m ≡ []) → cond b (h ∷ m) m ≡ m ++ cond b (h ∷ []) []
    alone true m f = rw (f refl)
    alone false m f = sym (append-nil m)
