-- For hints whose reach is no NaN `ranked l` is a ranking of l, and nothing else is (RULES 11.6, 11.7).
-- Assumes nothing.
use mathlib.Core.Path.{◌≡◌, refl, sym, ap, ◌∙◌}
use mathlib.Core.Bool.{Bool, true, false, cond}
use mathlib.Core.List.{List, [], ◌∷◌, ◌++◌, append-nil, append_assoc, nil≢cons, head-eq_of_cons-eq, tail-eq_of_cons-eq}
use mathlib.Core.List.Memᴰ
use mathlib.Core.List.{Memᴰ}
use mathlib.Mathlib.Data.Bool.Basic.{eq-false_of_not-eq-true}
use Prim.Native.Nat.{ℕ, zero, suc, ◌+◌, ◌<◌}
use native.Mathlib.Nat.{not-suc-le-zero, le_of_suc-le-suc}
use native.Mathlib.Omega.{arith}
use lib.ListN.{length, get_or}
use Rattle.lent.specs.Listed.{every}
use Rattle.hint_list.specs.declared.hint.RankedHint.{RankedHint}
use Rattle.hint_ranking.specs.Ranked.{goes_before, inserted, ranked_onto, ranked, sorted, those, Permuted}
use Rattle.hint_ranking.specs.Ranked.{are_level, is_known, Stable, Ranking}
use Rattle.hint_ranking.proofs.Before.{before_self}
use Rattle.hint_ranking.proofs.Those.{Each, first, rest, with_one, each, in_front_law, count_first, each_permuted}
use Rattle.hint_ranking.proofs.Sorted.{sorted_rest, not_before_first}
use Rattle.hint_ranking.proofs.Inserted.{inserted_permuted, inserted_sorted, none_level, inserted_stable}

none : (test : RankedHint → Bool) → those test [] ≡ []
unfolding those
none test = refl

count_onto : (test : RankedHint → Bool) (done l : List RankedHint) →
    length (those test (ranked_onto done l)) ≡ length (those test done) + length (those test l)
unfolding ranked_onto
count_onto test done [] = omega (arith, ap length (none test))
count_onto test done (h ∷ l) =
    let others = count_onto test (inserted h done) l in
    let placed = (inserted_permuted h done).as_many test in
    omega (arith, count_first test h done, count_first test h l)

-- No hint is lost, and none is added.
pub ranked_permuted : (l : List RankedHint) → Permuted (ranked l) l
ranked_permuted l = record { as_many = λ test. omega (arith, ap length (none test), count_onto test [] l) }

sorted_onto : (done l : List RankedHint) → sorted done ≡ true → sorted (ranked_onto done l) ≡ true
unfolding ranked_onto
sorted_onto done [] e = e
sorted_onto done (h ∷ l) e = sorted_onto (inserted h done) l (inserted_sorted h done e)

-- None goes before the one in front of it (RULES 11.6).
pub ranked_sorted : (l : List RankedHint) → sorted (ranked l) ≡ true
ranked_sorted l = sorted_onto [] l (unfold sorted in refl)

stable_onto : (k : RankedHint) (done l : List RankedHint) →
    is_known k ≡ true → Each is_known done → Each is_known l → sorted done ≡ true →
    those (are_level k) (ranked_onto done l) ≡ those (are_level k) done ++ those (are_level k) l
unfolding ranked_onto those
stable_onto k done [] kk kd kl e = sym (append-nil (those (are_level k) done))
stable_onto k done (h ∷ l) kk kd kl e =
    let q = are_level k in
    let known = each_permuted is_known (inserted h done) (h ∷ done) (inserted_permuted h done) (with_one (first kl) kd) in
    stable_onto k (inserted h done) l kk known (rest kl) (inserted_sorted h done e) ∙
    ap (λ (m : List RankedHint). m ++ those q l) (inserted_stable k h done kk (first kl) kd e) ∙
    append_assoc (those q done) (those q (h ∷ [])) (those q l) ∙
    ap (λ (m : List RankedHint). those q done ++ m) (sym (in_front_law (q h) h (those q l) [] (those q l) refl))

-- Those that are level stand in the order of finding (RULES 11.7).
pub ranked_stable : (l : List RankedHint) → every is_known l ≡ true → Stable (ranked l) l
unfolding those
ranked_stable l known = record { as_found = λ k kk. stable_onto k [] l kk nothing (each is_known l known) (unfold sorted in refl) }
  where
    nothing : Each is_known []
    nothing x m = absurd (Memᴰ.not-nil m)

-- All three.
pub ranked_ranking : (l : List RankedHint) → every is_known l ≡ true → Ranking (ranked l) l
ranked_ranking l known = record { permuted = ranked_permuted l; in_order = ranked_sorted l; stable = ranked_stable l known }

-- ---- Nothing else is.

level_self : (x : RankedHint) → are_level x x ≡ true
level_self x = rw (before_self x)

first_level : (k x : RankedHint) (l : List RankedHint) → are_level k x ≡ true → those (are_level k) (x ∷ l) ≡ x ∷ those (are_level k) l
unfolding those
first_level k x l e = rw e

-- Where x is first, some are level with it,
some_level : (x : RankedHint) (l : List RankedHint) → those (are_level x) (x ∷ l) ≡ [] → ⊥
some_level x l e = nil≢cons (sym e ∙ first_level x x l (level_self x))

-- so it does not go before the first of another list in order in which they are the same.
not_ahead : (x y : RankedHint) (l m : List RankedHint) → is_known x ≡ true → Each is_known (y ∷ m) → sorted (y ∷ m) ≡ true →
    those (are_level x) (x ∷ l) ≡ those (are_level x) (y ∷ m) → goes_before x y ≡ false
not_ahead x y l m kx km e same =
    eq-false_of_not-eq-true (λ (b : goes_before x y ≡ true). some_level x l (same ∙ none_level x x y m kx kx km e (level_self x) b))

same_rest : (test : RankedHint → Bool) (x : RankedHint) (l m : List RankedHint) →
    those test (x ∷ l) ≡ those test (x ∷ m) → those test l ≡ those test m
unfolding those
same_rest test x l m = by (test x)
  where
    by : (b : Bool) → cond b (x ∷ those test l) (those test l) ≡ cond b (x ∷ those test m) (those test m) →
        those test l ≡ those test m
    by true e = tail-eq_of_cons-eq e
    by false e = e

-- For any hint those level with it are the same in both.
abbrev Alike : List RankedHint → List RankedHint → Type 0
Alike l m = (k : RankedHint) → is_known k ≡ true → those (are_level k) l ≡ those (are_level k) m

one_list : (l m : List RankedHint) →
    Each is_known l → Each is_known m → sorted l ≡ true → sorted m ≡ true → Alike l m → l ≡ m
one_list [] [] kl km sl sm same = refl
one_list [] (y ∷ m) kl km sl sm same = absurd (some_level y m (sym (same y (first km)) ∙ none (are_level y)))
one_list (x ∷ l) [] kl km sl sm same = absurd (some_level x l (same x (first kl) ∙ none (are_level x)))
one_list (x ∷ l) (y ∷ m) kl km sl sm same =
    let e = same x (first kl) in
    let x-y = not_ahead x y l m (first kl) km sm e in
    let y-x = not_ahead y x m l (first km) kl sl (sym (same y (first km))) in
    let p : x ≡ y = head-eq_of_cons-eq (sym (first_level x x l (level_self x)) ∙ e ∙ first_level x y m (rw (x-y, y-x))) in
    let others : Alike l m =
    λ k kk. same_rest (are_level k) x l m (same k kk ∙ ap (λ (z : RankedHint). those (are_level k) (z ∷ m)) (sym p)) in
    let q = one_list l m (rest kl) (rest km) (sorted_rest x l sl) (sorted_rest y m sm) others in
    λ i. p i ∷ q i

-- A ranking of l is `ranked l`,
pub only_ranked : (l m : List RankedHint) → every is_known l ≡ true → Ranking m l → m ≡ ranked l
only_ranked l m known r =
    let kl = each is_known l known in
    one_list
    m
    (ranked l)
    (each_permuted is_known m l r.permuted kl)
    (each_permuted is_known (ranked l) l (ranked_permuted l) kl)
    r.in_order
    (ranked_sorted l)
    (λ k kk. r.stable.as_found k kk ∙ sym ((ranked_stable l known).as_found k kk))

-- so what is in order is its own ranking.
pub ranked_again : (l : List RankedHint) → every is_known l ≡ true → sorted l ≡ true → ranked l ≡ l
ranked_again l known e = sym (only_ranked l l known own)
  where
    own : Ranking l l
    own = record { permuted = record { as_many = λ test. refl }; in_order = e; stable = record { as_found = λ k kk. refl } }

-- ---- Any two.

member : (l : List RankedHint) (i : ℕ) (d : RankedHint) → i < length l → Memᴰ (get_or l i d) l
member [] i d h = absurd (not-suc-le-zero h)
member (x ∷ l) zero d h = Memᴰ.head refl
member (x ∷ l) (suc i) d h = Memᴰ.tail (member l i d (le_of_suc-le-suc h))

pairs : (l : List RankedHint) (i j : ℕ) (d : RankedHint) →
    Each is_known l → sorted l ≡ true → i < j → j < length l → goes_before (get_or l j d) (get_or l i d) ≡ false
pairs [] i j d k e a b = absurd (not-suc-le-zero b)
pairs (x ∷ l) zero j d k e a b = not_before_first x l k e (get_or (x ∷ l) j d) (member (x ∷ l) j d b)
pairs (x ∷ l) (suc i) zero d k e a b = absurd (not-suc-le-zero a)
pairs (x ∷ l) (suc i) (suc j) d k e a b = pairs l i j d (rest k) (sorted_rest x l e) (le_of_suc-le-suc a) (le_of_suc-le-suc b)

-- In a list in order the later of two, not only of neighbours, does not go before the earlier (RULES 11.6).
pub sorted_pairs : (l : List RankedHint) (i j : ℕ) (d : RankedHint) →
    every is_known l ≡ true → sorted l ≡ true → i < j → j < length l → goes_before (get_or l j d) (get_or l i d) ≡ false
sorted_pairs l i j d known = pairs l i j d (each is_known l known)
