-- Hints put at their places one by one, in words: those put so far stand in front, ranked, and all of them are an answer's words
-- (RULES 11.6 to 11.8).
-- Assumes nothing.
use mathlib.Core.Path.{◌≡◌, refl, sym, ap, ◌∙◌}
use mathlib.Core.List.{List, [], ◌∷◌, ◌++◌}
use Prim.Native.Nat.{ℕ, suc, ◌+◌, ◌-◌, ◌*◌, ◌≤◌, ◌<◌}
use native.Mathlib.Numerals.{add-one}
use native.Mathlib.Omega.{arith}
use borrow.Author.Tests.{lt-ltb}
use lib.ListN.{length, take, drop, set, replicate, take-append-drop, length-replicate}
use lib.Seq.{length-take-le}
use Rattle.std.proofs.lemmas.List.{drop-replicate}
use Rattle.hint_list.specs.Words.{count_in, hints_in, all_words, laid}
use Rattle.hint_list.specs.declared.hint.RankedHint.{RankedHint}
use Rattle.hint_list.proofs.Reading.{few, first_hints}
use Rattle.hint_list.proofs.Words.{KeptRanked, AllRankedKept, laid_count, laid_append, laid_again, laid_words, laid_read}
use Rattle.hint_ranking.specs.Ranked.{inserted, ranked}
use Rattle.hint_ranking.specs.Hints.{Of, ranked_words, rank_of, ranked_into}
use Rattle.hint_ranking.proofs.Those.{permuted_length}
use Rattle.hint_ranking.proofs.Inserted.{by_place, inserted_permuted}
use Rattle.hint_ranking.proofs.Theorems.{ranked_permuted}
use Rattle.hint_ranking.proofs.Places.{place_at_most}

-- Ranking keeps the count of hints, and one that is inserted is one more.
pub length_ranked : (l : List RankedHint) → length (ranked l) ≡ length l
length_ranked l = permuted_length (ranked l) l (ranked_permuted l)

pub length_inserted : (h : RankedHint) (l : List RankedHint) → length (inserted h l) ≡ length l + 1
length_inserted h l = permuted_length (inserted h l) (h ∷ l) (inserted_permuted h l) ∙ omega arith

pub inserted_kept : (h : RankedHint) (l : List RankedHint) → KeptRanked h → AllRankedKept l → AllRankedKept (inserted h l)
inserted_kept h [] k all = unfold inserted in (k, tt)
inserted_kept h (x ∷ l) k all =
    by_place AllRankedKept h x l (λ b. (k, all)) (λ b. (all.0, inserted_kept h l k all.1))

-- It stands at its place among the others.
inserted_at : (h : RankedHint) (l : List RankedHint) → inserted h l ≡ take (rank_of h l) l ++ h ∷ drop (rank_of h l) l
unfolding rank_of
inserted_at h [] = unfold inserted in refl
inserted_at h (x ∷ l) =
    by_place
    (λ m. m ≡ take (rank_of h (x ∷ l)) (x ∷ l) ++ h ∷ drop (rank_of h (x ∷ l)) (x ∷ l))
    h
    x
    l
    (λ b. rw b)
    (λ b. rw (b, add-one (rank_of h l)) (ap (λ (t : List RankedHint). x ∷ t) (inserted_at h l)))

-- Hints laid over the later ones of those that are there replace them.
laid_over : (words : List ℕ) (k : ℕ) (l more : List RankedHint) → k ≤ length l → length (drop k l) ≤ length more →
    laid (laid words 0 l) k more ≡ laid words 0 (take k l ++ more)
laid_over words k l more few long =
    let end : 0 + length (take k l) ≡ k = omega (arith, length-take-le k l few) in
    let parts : laid words 0 l ≡ laid (laid words 0 (take k l)) k (drop k l) =
    ap (laid words 0) (sym (take-append-drop k l)) ∙ laid_append words 0 (take k l) (drop k l) ∙
    ap (λ (n : ℕ). laid (laid words 0 (take k l)) n (drop k l)) end in
    ap (λ (m : List ℕ). laid m k more) parts ∙ laid_again (laid words 0 (take k l)) k (drop k l) more long ∙
    ap (λ (n : ℕ). laid (laid words 0 (take k l)) n more) (sym end) ∙ sym (laid_append words 0 (take k l) more)

-- One more, among those that were put in front (RULES 11.7).
pub ranked_into_law : (words : List ℕ) (done : List RankedHint) (n : ℕ) (h : RankedHint) →
    length words ≡ 385 → length done ≡ n → n < count_in words → AllRankedKept done →
    ranked_into (laid words 0 done) n h ≡ laid words 0 (inserted h done)
unfolding ranked_into
ranked_into_law words done n h long size there kept =
    let count : count_in (laid words 0 done) ≡ count_in words = laid_count words 0 done in
    let front : take n (hints_in (laid words 0 done)) ≡ done =
    first_hints (laid words 0 done) n (omega arith) ∙ rw (← size) (laid_read words 0 done (omega (arith, few words)) long kept) in
    rw (front, lt-ltb n (count_in (laid words 0 done)) (omega arith), inserted_at h done)
    (laid_over words (rank_of h done) done (h ∷ drop (rank_of h done) done) (place_at_most h done) (omega arith))

-- ---- The words of an answer.

counted_words : (n : ℕ) (l : List RankedHint) → n ≡ 384 → length l ≤ 64 →
    laid (length l ∷ replicate n 0) 0 l ≡ length l ∷ (all_words l ++ replicate (n - 6 * length l) 0)
counted_words n l long room =
    let words = length l ∷ replicate n 0 in
    let size : length words ≡ 385 = omega (arith, length-replicate {A = ℕ} n 0) in
    let end : 6 * (0 + length l) + 1 ≡ suc (6 * length l) = omega arith in
    rw (laid_words words 0 l (omega arith) size, end, drop-replicate {X = ℕ} (6 * length l) n 0)

-- The count, the hints, and zero behind them (RULES 11.8).
pub answer_words : (l : List RankedHint) → length l ≤ 64 → laid (set (replicate 385 0) 0 (length l)) 0 l ≡ ranked_words (Of l)
unfolding ranked_words
answer_words l room = counted_words 384 l refl room
