-- Words in threes, one crew's behind another's: what is read there, and what putting the three of one crew leaves.
-- Assumes nothing.
use Rattle.std.proofs.Common.{◌≡◌, ℕ, zero, suc, ◌+◌, ◌*◌, ◌<◌, List, [], ◌∷◌, ◌++◌, length, get_or, set, sym, refl, ap, ◌∙◌, add-zero, suc-add, zero-add, arith, get_or-append-add}
use lib.ListN.{get_or-append}
use Rattle.lent.specs.Listed.{listed}
use Rattle.lent.specs.Rows.{words_in}
use Rattle.lent.proofs.Listed.{listed_same}
use Rattle.hold_figures.specs.Words.{with_crew}

-- Word k of crew c is that of its own three.
pub three_read : (f : ℕ → List ℕ) → ((j : ℕ) → length (f j) ≡ 3) → (n i c k : ℕ) → c < n → k < 3 →
    get_or (words_in (listed f n i)) (3 * c + k) 0 ≡ get_or (f (i + c)) k 0
unfolding words_in listed
three_read f three zero i c k h l = absurd (omega arith)
three_read f three (suc n) i zero k h l =
    let rest : List ℕ = words_in (listed f n (suc i)) in
    let here : 3 * 0 + k ≡ k = omega arith in
    ap (λ (m : ℕ). get_or (f i ++ rest) m 0) here ∙
    get_or-append (f i) rest 0 k (rw (three i) l) ∙ ap (λ (j : ℕ). get_or (f j) k 0) (sym (add-zero i))
three_read f three (suc n) i (suc c) k h l =
    let rest : List ℕ = words_in (listed f n (suc i)) in
    let on : 3 * suc c + k ≡ length (f i) + (3 * c + k) = omega (arith, three i) in
    let same : suc i + c ≡ i + suc c = omega arith in
    ap (λ (m : ℕ). get_or (f i ++ rest) m 0) on ∙
    get_or-append-add (f i) rest (3 * c + k) 0 ∙
    three_read f three n (suc i) c k (omega arith) l ∙ ap (λ (j : ℕ). get_or (f j) k 0) same

-- ---- Putting three words.

set_past : (xs rest : List ℕ) (k a : ℕ) → set (xs ++ rest) (length xs + k) a ≡ xs ++ set rest k a
set_past [] rest k a = ap (λ (j : ℕ). set rest j a) (zero-add k)
set_past (x ∷ xs) rest k a =
    ap (λ (j : ℕ). set (x ∷ (xs ++ rest)) j a) (suc-add (length xs) k) ∙
    ap (λ (r : List ℕ). x ∷ r) (set_past xs rest k a)

crew_past : (xs rest : List ℕ) (c rounds total largest : ℕ) → length xs ≡ 3 →
    with_crew (xs ++ rest) (suc c) rounds total largest ≡ xs ++ with_crew rest c rounds total largest
unfolding with_crew
crew_past xs rest c rounds total largest three =
    let first : 3 * suc c ≡ length xs + 3 * c = omega arith in
    let second : 3 * suc c + 1 ≡ length xs + (3 * c + 1) = omega arith in
    let third : 3 * suc c + 2 ≡ length xs + (3 * c + 2) = omega arith in
    let one : List ℕ = set rest (3 * c) rounds in
    let two : List ℕ = set one (3 * c + 1) total in
    rw (
      second,
      third,
      first,
      set_past xs rest (3 * c) rounds,
      set_past xs one (3 * c + 1) total,
      set_past xs two (3 * c + 2) largest,
    )

crew_first : (xs rest : List ℕ) (rounds total largest : ℕ) → length xs ≡ 3 →
    with_crew (xs ++ rest) 0 rounds total largest ≡ rounds ∷ (total ∷ (largest ∷ rest))
unfolding with_crew
crew_first [] rest rounds total largest three = absurd (omega arith)
crew_first (x ∷ []) rest rounds total largest three = absurd (omega arith)
crew_first (x ∷ y ∷ []) rest rounds total largest three = absurd (omega arith)
crew_first (x ∷ y ∷ z ∷ []) rest rounds total largest three = refl
crew_first (x ∷ y ∷ z ∷ w ∷ xs) rest rounds total largest three = absurd (omega arith)

-- The threes with one anew.
pub three_put : (f g : ℕ → List ℕ) → ((j : ℕ) → length (f j) ≡ 3) → (n i c rounds total largest : ℕ) → c < n →
    ((j : ℕ) → ¬ (j ≡ i + c) → f j ≡ g j) → g (i + c) ≡ rounds ∷ (total ∷ (largest ∷ [])) →
    with_crew (words_in (listed f n i)) c rounds total largest ≡ words_in (listed g n i)
unfolding words_in listed
three_put f g three zero i c rounds total largest h same own = absurd (omega arith)
three_put f g three (suc n) i zero rounds total largest h same own =
    let rest : List ℕ = words_in (listed f n (suc i)) in
    crew_first (f i) rest rounds total largest (three i) ∙
    ap (λ (xs : List ℕ). xs ++ rest) (sym own ∙ ap g (add-zero i)) ∙
    ap (λ (rows : List (List ℕ)). g i ++ words_in rows) (listed_same f g n (suc i) (λ j l r. same j (λ e. omega arith)))
three_put f g three (suc n) i (suc c) rounds total largest h same own =
    let on : suc i + c ≡ i + suc c = omega arith in
    crew_past (f i) (words_in (listed f n (suc i))) c rounds total largest (three i) ∙
    ap (λ (xs : List ℕ). f i ++ xs)
    (three_put f g three n (suc i) c rounds total largest (omega arith) (λ j e. same j (λ e'. e (e' ∙ sym on))) (ap g on ∙ own)) ∙
    ap (λ (xs : List ℕ). xs ++ words_in (listed g n (suc i))) (same i (λ e. omega arith))
