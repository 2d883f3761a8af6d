-- Loops along hints: the place of one more among the first n, room for it there, and whether all are in order.
-- Assumes nothing.
use mathlib.Core.Path.{◌≡◌, refl, sym, ap, ◌∙◌}
use mathlib.Core.Logic.{inl}
use mathlib.Core.Bool.{Bool, true, false, cond}
use mathlib.Core.List.{List, [], ◌∷◌}
use Prim.Native.Nat.{ℕ, suc, ◌+◌, ◌-◌, ◌≤◌, ◌<◌}
use native.Mathlib.Numerals.{add-one}
use native.Mathlib.Omega.{arith}
use lib.ListN.{length, take, drop, get_or, length-drop, drop_of_length-le}
use lib.Seq.{length-take-le, get_or-take}
use Rattle.std.proofs.lemmas.List.{drop_more}
use Rattle.hint_list.specs.Words.{blank_ranked, count_in, hint_in, hints_in, put_in, laid}
use Rattle.hint_list.specs.declared.hint.RankedHint.{RankedHint}
use Rattle.hint_list.proofs.Reading.{counted, hint_there}
use Rattle.hint_list.proofs.Words.{other_hint, laid_apart, laid_count, put_laid}
use Rattle.hint_ranking.specs.Ranked.{goes_before, sorted}
use Rattle.hint_ranking.specs.Hints.{rank_of}

-- ---- The place of a hint.

module _ (l : List RankedHint) (n i : ℕ) (room : n ≤ length l) where
  from : (d : RankedHint) → i < n → drop i (take n l) ≡ get_or l i d ∷ drop (i + 1) (take n l)
  from d h =
      let all : length (take n l) ≡ n = length-take-le n l room in
      rw (drop_more (take n l) i d (omega arith), get_or-take n l i d h)

  -- It is here, or further on, or behind all.
  pub place_here : (h d : RankedHint) → i < n → goes_before h (get_or l i d) ≡ true → rank_of h (drop i (take n l)) ≡ 0
  unfolding rank_of
  place_here h d b e = rw (from d b, e)

  pub place_next : (h d : RankedHint) → i < n → goes_before h (get_or l i d) ≡ false →
      rank_of h (drop i (take n l)) ≡ rank_of h (drop (i + 1) (take n l)) + 1
  unfolding rank_of
  place_next h d b e = rw (from d b, e)

  pub place_end : (h : RankedHint) → n ≤ i → rank_of h (drop i (take n l)) ≡ 0
  unfolding rank_of
  place_end h b =
      let all : length (take n l) ≡ n = length-take-le n l room in rw (drop_of_length-le (take n l) {i = i} (omega arith))

-- What a walk along the hints to that place needs.
pub ruleset placing = (place_here, place_next, place_end, counted)

-- At most all are in front of it.
pub place_at_most : (h : RankedHint) (l : List RankedHint) → rank_of h l ≤ length l
unfolding rank_of
place_at_most h [] = omega arith
place_at_most h (x ∷ l) = by (goes_before h x) (place_at_most h l)
  where
    by : (b : Bool) → rank_of h l ≤ length l → cond b 0 (rank_of h l + 1) ≤ suc (length l)
    by true p = omega arith
    by false p = omega arith

-- ---- Room for it: of the words as they were, those at place j are free, and behind it stand the hints from j on, one place up.

abbrev pub HasGap : List ℕ → List RankedHint → ℕ → List ℕ → Type 0
HasGap words l j moved = (x : RankedHint) → put_in moved j x ≡ laid words j (x ∷ drop j l)

-- Behind the last hint there is room already.
pub gap_last : (words : List ℕ) (l : List RankedHint) (n : ℕ) → length l ≤ n → HasGap words l n words
unfolding laid
gap_last words l n end x = rw (drop_of_length-le l {i = n} end)

-- Where hint j - 1 moves up, its own place is free.
pub gap_moves : (words : List ℕ) (l : List RankedHint) (j : ℕ) (moved : List ℕ) (d : RankedHint) → 0 < j → j ≤ length l →
    HasGap words l j moved → HasGap words l (j - 1) (put_in moved j (get_or l (j - 1) d))
unfolding laid
gap_moves words l j moved d some few gap x =
    let y = get_or l (j - 1) d in
    let on : j ≡ suc (j - 1) = omega arith in
    let up : j - 1 + 1 ≡ j = omega arith in
    let rest : drop (j - 1) l ≡ y ∷ drop j l = drop_more l (j - 1) d (omega arith) ∙ ap (λ (k : ℕ). y ∷ drop k l) up in
    ap (λ (m : List ℕ). put_in m (j - 1) x) (gap y) ∙
    put_laid words j (y ∷ drop j l) (j - 1) x (omega arith) ∙
    ap (λ (k : ℕ). laid (put_in words (j - 1) x) k (y ∷ drop j l)) on ∙
    ap (λ (r : List RankedHint). laid words (j - 1) (x ∷ r)) (sym rest)

-- Of the first n hints in the words, the one in front of the gap is as it was,
pub gap_front : (words : List ℕ) (n k : ℕ) (moved : List ℕ) → n ≤ count_in words → k < n →
    HasGap words (take n (hints_in words)) (k + 1) moved →
    get_or (hints_in moved) k blank_ranked ≡ get_or (take n (hints_in words)) k blank_ranked
unfolding laid
gap_front words n k moved there few gap =
    let l = take n (hints_in words) in
    let count : count_in moved ≡ count_in words =
    sym (laid_count moved (k + 1) (blank_ranked ∷ [])) ∙ ap count_in (gap blank_ranked) ∙
    laid_count words (k + 1) (blank_ranked ∷ drop (k + 1) l) in
    let same : hint_in moved k ≡ hint_in words k =
    sym (other_hint moved (k + 1) blank_ranked k (inl (omega arith))) ∙ ap (λ (m : List ℕ). hint_in m k) (gap blank_ranked) ∙
    laid_apart words (k + 1) (blank_ranked ∷ drop (k + 1) l) k (inl (omega arith)) in
    hint_there moved k (omega arith) ∙ same ∙ sym (hint_there words k (omega arith)) ∙
    sym (get_or-take n (hints_in words) k blank_ranked (omega arith))

-- and where it moves up, its own place is free.
pub gap_climbs : (words : List ℕ) (n k j : ℕ) (moved : List ℕ) → n ≤ count_in words → k < n → j ≡ k + 1 →
    HasGap words (take n (hints_in words)) j moved →
    HasGap words (take n (hints_in words)) k (put_in moved (k + 1) (get_or (hints_in moved) k blank_ranked))
unfolding laid
gap_climbs words n k j moved there few on at x =
    let l = take n (hints_in words) in
    let y = get_or l k blank_ranked in
    let gap : HasGap words l (k + 1) moved = rw on at at in
    let rest : drop k l ≡ y ∷ drop (k + 1) l = drop_more l k blank_ranked (omega (arith, length-take-le n (hints_in words), counted words)) in
    ap (λ (h : RankedHint). put_in (put_in moved (k + 1) h) k x) (gap_front words n k moved there few gap) ∙
    ap (λ (m : List ℕ). put_in m k x) (gap y) ∙
    put_laid words (k + 1) (y ∷ drop (k + 1) l) k x (omega arith) ∙
    rw (rest, add-one k)

-- ---- A test of neighbours: one goes before the one in front of it, or it does not and the rest decide, or there is none behind.

module _ (l : List RankedHint) (k i : ℕ) (behind : k + 1 ≡ i) where
  pub sorted_fails : (d : RankedHint) → i < length l → goes_before (get_or l i d) (get_or l k d) ≡ true → sorted (drop k l) ≡ false
  unfolding sorted
  sorted_fails d h e = rw (drop_more l k d (omega arith), behind, drop_more l i d h, e)

  pub sorted_passes : (d : RankedHint) → i < length l → goes_before (get_or l i d) (get_or l k d) ≡ false →
      sorted (drop k l) ≡ sorted (drop i l)
  unfolding sorted
  sorted_passes d h e = rw (drop_more l k d (omega arith), behind, drop_more l i d h, e)

  pub sorted_done : length l ≤ i → sorted (drop k l) ≡ true
  unfolding sorted
  sorted_done h = by (drop k l) (omega (arith, length-drop k l))
    where
      by : (m : List RankedHint) → length m ≤ 1 → sorted m ≡ true
      by [] few = refl
      by (x ∷ []) few = refl
      by (x ∷ (y ∷ m)) few = absurd (omega arith)

-- What a walk along neighbours needs.
pub ruleset sorting = (sorted_fails, sorted_passes, sorted_done, counted)
