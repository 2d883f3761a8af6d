-- Hints in a list of words: what putting them leaves of the others, and that they are read as they were put (RULES 11.8).
-- Assumes nothing.
use Prim.Native.Nat.{ℕ, zero, suc, ◌+◌, ◌-◌, ◌*◌, ◌≤◌, ◌<◌}
use mathlib.Core.Path.{◌≡◌, refl, sym, ap, ◌∙◌}
use mathlib.Core.Logic.{◌⊎◌, inl, inr, ⊎_elim}
use mathlib.Core.Bool.{Bool, true, false, cond}
use mathlib.Core.List.{List, [], ◌∷◌, ◌++◌, map, append_assoc}
use native.Mathlib.Nat.{add-zero}
use native.Mathlib.Omega.{arith}
use borrow.Author.Tests.{ltb-true, lt-ltb}
use lib.Dec.{T, ltb}
use lib.Ieee.{binary64, fits, to_bits, of_bits}
use lib.Ieee.Bits.{of_bits-to_bits, of_bits-fits}
use lib.ListN.{length, get_or, take, drop, set, replicate, length-append, length-replicate, replicate-append-replicate}
use lib.Seq.{sets, sets-eq, length-sets, set-set, set_comm, get_or-set_other, get_or-append-add, length-take-le, drop_at}
use mir.Syntax.{w64}
use mir.Val.{SFits}
use Rattle.lent.specs.Listed.{listed}
use Rattle.number_words.specs.Word.{signed_of}
use Rattle.number_words.proofs.Words.{signed_back, signed_fits}
use Rattle.hint_list.specs.Words.{unranked, count_in, hint_in, hints_in, hint_words, all_words, set_in, put_in, laid}
use Rattle.hint_list.specs.Adding.{Kept, AllKept}
use Rattle.hint_list.specs.declared.hint.WaitHint.{WaitHint}
use Rattle.hint_list.specs.declared.hint.RankedHint.{RankedHint}
use Rattle.hint_list.proofs.Reading.{few}

-- ---- A run of stores.

-- A word in front of it may be stored after it,
store_before : (l : List ℕ) (k i : ℕ) (vs : List ℕ) (v : ℕ) → k < i → set (sets l i vs) k v ≡ sets (set l k v) i vs
store_before l k i [] v h = refl
store_before l k i (w ∷ vs) v h =
    store_before (set l i w) k (suc i) vs v (omega arith) ∙
    ap (λ (r : List ℕ). sets r (suc i) vs) (set_comm l i k w v (λ e. let z : ⊥ = omega arith in z))

-- a word outside it stays,
store_apart : (l : List ℕ) (i k : ℕ) (vs : List ℕ) → (k < i) ⊎ (i + length vs ≤ k) → get_or (sets l i vs) k 0 ≡ get_or l k 0
store_apart l i k [] far = refl
store_apart l i k (w ∷ vs) far =
    store_apart (set l i w) (suc i) k vs
    (⊎_elim
    (λ (f : k < i). inl (let z : k < suc i = omega arith in z))
    (λ (f : i + suc (length vs) ≤ k). inr (let z : suc i + length vs ≤ k = omega arith in z))
    far) ∙
    get_or-set_other l i k w 0
    (λ e. ⊎_elim (λ (f : k < i). let z : ⊥ = omega arith in z) (λ (f : i + suc (length vs) ≤ k). let z : ⊥ = omega arith in z) far)

-- and a second one as long at its place replaces it.
store_again : (l : List ℕ) (i : ℕ) (vs ws : List ℕ) → length vs ≡ length ws → sets (sets l i vs) i ws ≡ sets l i ws
store_again l i [] ws e = refl
store_again l i (v ∷ vs) [] e = absurd (let z : ⊥ = omega arith in z)
store_again l i (v ∷ vs) (w ∷ ws) e =
    let swapped = store_before (set l i v) i (suc i) vs w (omega arith) in
    ap (λ (r : List ℕ). sets r (suc i) ws) (swapped ∙ ap (λ (r : List ℕ). sets r (suc i) vs) (set-set l i v w)) ∙
    store_again (set l i w) (suc i) vs ws (omega arith)

-- ---- One hint in its six words.

set_in_law : (words : List ℕ) (i : ℕ) (h : RankedHint) → set_in words i h ≡ sets words (6 * i + 1) (hint_words h)
unfolding set_in hint_words
set_in_law words i h =
    let two : suc (6 * i + 1) ≡ 6 * i + 2 = omega arith in
    let three : suc (6 * i + 2) ≡ 6 * i + 3 = omega arith in
    let four : suc (6 * i + 3) ≡ 6 * i + 4 = omega arith in
    let five : suc (6 * i + 4) ≡ 6 * i + 5 = omega arith in
    let six : suc (6 * i + 5) ≡ 6 * i + 6 = omega arith in
    rw (two, three, four, five, six)

-- A hint that is put is in its six words, or, where there is no such place, nowhere.
either_put : (P : List ℕ → Type 0) (words : List ℕ) (i : ℕ) (h : RankedHint) →
    (i < 64 → P (sets words (6 * i + 1) (hint_words h))) → P words → P (put_in words i h)
unfolding put_in
either_put P words i h inside outside = by (ltb i 64) refl
  where
    by : (t : Bool) → ltb i 64 ≡ t → P (cond t (set_in words i h) words)
    by true e = rw (set_in_law words i h) (inside (ltb-true i 64 e))
    by false e = outside

six_words : (h : RankedHint) → length (hint_words h) ≡ 6
unfolding hint_words
six_words h = refl

pub put_long : (words : List ℕ) (i : ℕ) (h : RankedHint) → length (put_in words i h) ≡ length words
put_long words i h = either_put (λ m. length m ≡ length words) words i h (λ few. length-sets words (6 * i + 1) (hint_words h)) refl

-- A word outside the six of place i stays; the count, in front of all, is one.
pub other_word : (words : List ℕ) (i : ℕ) (h : RankedHint) (k : ℕ) →
    (k ≤ 6 * i) ⊎ (6 * i + 6 < k) → get_or (put_in words i h) k 0 ≡ get_or words k 0
other_word words i h k far =
    either_put (λ m. get_or m k 0 ≡ get_or words k 0) words i h
    (λ few.
    store_apart words (6 * i + 1) k (hint_words h)
    (⊎_elim
    (λ (f : k ≤ 6 * i). inl (let z : k < 6 * i + 1 = omega arith in z))
    (λ (f : 6 * i + 6 < k). inr (let z : 6 * i + 1 + length (hint_words h) ≤ k = omega (arith, six_words h) in z))
    far))
    refl

-- Another place reads as before.
pub other_hint : (words : List ℕ) (i : ℕ) (h : RankedHint) (j : ℕ) →
    (j < i) ⊎ (i < j) → hint_in (put_in words i h) j ≡ hint_in words j
unfolding hint_in
other_hint words i h j far =
    rw (
      at 1 (omega arith) (omega arith),
      at 2 (omega arith) (omega arith),
      at 3 (omega arith) (omega arith),
      at 4 (omega arith) (omega arith),
      at 5 (omega arith) (omega arith),
      at 6 (omega arith) (omega arith),
    )
  where
    at : (n : ℕ) → 0 < n → n ≤ 6 → get_or (put_in words i h) (6 * j + n) 0 ≡ get_or words (6 * j + n) 0
    at n lo hi =
        other_word words i h (6 * j + n)
        (⊎_elim
        (λ (f : j < i). inl (let z : 6 * j + n ≤ 6 * i = omega arith in z))
        (λ (f : i < j). inr (let z : 6 * i + 6 < 6 * j + n = omega arith in z))
        far)

-- A word in front of the six may be stored after them.
set_put : (words : List ℕ) (i : ℕ) (h : RankedHint) (k v : ℕ) → k ≤ 6 * i → set (put_in words i h) k v ≡ put_in (set words k v) i h
unfolding put_in
set_put words i h k v front = by (ltb i 64)
  where
    by : (t : Bool) → set (cond t (set_in words i h) words) k v ≡ cond t (set_in (set words k v) i h) (set words k v)
    by true = rw (set_in_law words i h, set_in_law (set words k v) i h) (store_before words k (6 * i + 1) (hint_words h) v (omega arith))
    by false = refl

-- What is put twice at one place is put once.
put_put : (words : List ℕ) (i : ℕ) (x y : RankedHint) → put_in (put_in words i x) i y ≡ put_in words i y
unfolding put_in
put_put words i x y = by (ltb i 64)
  where
    by : (t : Bool) →
        cond t (set_in (cond t (set_in words i x) words) i y) (cond t (set_in words i x) words) ≡ cond t (set_in words i y) words
    by true =
        rw (set_in_law (set_in words i x) i y, set_in_law words i x, set_in_law words i y)
        (store_again words (6 * i + 1) (hint_words x) (hint_words y) (six_words x ∙ sym (six_words y)))
    by false = refl

-- ---- Hints from place i on.

pub laid_long : (words : List ℕ) (i : ℕ) (l : List RankedHint) → length (laid words i l) ≡ length words
unfolding laid
laid_long words i [] = refl
laid_long words i (h ∷ l) = laid_long (put_in words i h) (suc i) l ∙ put_long words i h

-- They leave the count,
pub laid_count : (words : List ℕ) (i : ℕ) (l : List RankedHint) → count_in (laid words i l) ≡ count_in words
unfolding laid count_in
laid_count words i [] = refl
laid_count words i (h ∷ l) =
    laid_count (put_in words i h) (suc i) l ∙ rw (other_word words i h 0 (inl (let z : 0 ≤ 6 * i = omega arith in z)))

-- and the places in front of them and behind them.
pub laid_apart : (words : List ℕ) (i : ℕ) (l : List RankedHint) (j : ℕ) →
    (j < i) ⊎ (i + length l ≤ j) → hint_in (laid words i l) j ≡ hint_in words j
unfolding laid
laid_apart words i [] j far = refl
laid_apart words i (h ∷ l) j far =
    laid_apart (put_in words i h) (suc i) l j
    (⊎_elim
    (λ (f : j < i). inl (let z : j < suc i = omega arith in z))
    (λ (f : i + suc (length l) ≤ j). inr (let z : suc i + length l ≤ j = omega arith in z))
    far) ∙
    other_hint words i h j
    (⊎_elim
    (λ (f : j < i). inl f)
    (λ (f : i + suc (length l) ≤ j). inr (let z : i < j = omega arith in z))
    far)

-- A word in front of them, such as the count, may be stored after them, and so may a hint.
pub set_laid : (words : List ℕ) (i : ℕ) (l : List RankedHint) (k v : ℕ) →
    k ≤ 6 * i → set (laid words i l) k v ≡ laid (set words k v) i l
unfolding laid
set_laid words i [] k v front = refl
set_laid words i (h ∷ l) k v front =
    set_laid (put_in words i h) (suc i) l k v (omega arith) ∙ ap (λ (m : List ℕ). laid m (suc i) l) (set_put words i h k v front)

pub put_laid : (words : List ℕ) (i : ℕ) (l : List RankedHint) (j : ℕ) (x : RankedHint) →
    j < i → put_in (laid words i l) j x ≡ laid (put_in words j x) i l
unfolding put_in
put_laid words i l j x front = by (ltb j 64)
  where
    many : (m : List ℕ) (k : ℕ) (vs : List ℕ) → k + length vs ≤ 6 * i + 1 → sets (laid m i l) k vs ≡ laid (sets m k vs) i l
    many m k [] few = refl
    many m k (v ∷ vs) few =
        ap (λ (r : List ℕ). sets r (suc k) vs) (set_laid m i l k v (omega arith)) ∙ many (set m k v) (suc k) vs (omega arith)

    by : (t : Bool) → cond t (set_in (laid words i l) j x) (laid words i l) ≡ laid (cond t (set_in words j x) words) i l
    by true =
        rw (set_in_law (laid words i l) j x, set_in_law words j x)
        (many words (6 * j + 1) (hint_words x) (omega (arith, six_words x)))
    by false = refl

-- As many or more that are laid over them replace them.
pub laid_again : (words : List ℕ) (i : ℕ) (l m : List RankedHint) → length l ≤ length m → laid (laid words i l) i m ≡ laid words i m
unfolding laid
laid_again words i [] m more = refl
laid_again words i (x ∷ l) [] more = absurd (let z : ⊥ = omega arith in z)
laid_again words i (x ∷ l) (y ∷ m) more =
    ap (λ (r : List ℕ). laid r (suc i) m)
    (put_laid (put_in words i x) (suc i) l i y (omega arith) ∙ ap (λ (r : List ℕ). laid r (suc i) l) (put_put words i x y)) ∙
    laid_again (put_in words i y) (suc i) l m (omega arith)

pub laid_append : (words : List ℕ) (i : ℕ) (l m : List RankedHint) → laid words i (l ++ m) ≡ laid (laid words i l) (i + length l) m
unfolding laid
laid_append words i [] m = rw (add-zero i)
laid_append words i (x ∷ l) m =
    let on : suc i + length l ≡ i + suc (length l) = omega arith in
    laid_append (put_in words i x) (suc i) l m ∙ ap (λ (k : ℕ). laid (laid (put_in words i x) (suc i) l) k m) on

pub length_words : (l : List RankedHint) → length (all_words l) ≡ 6 * length l
unfolding all_words
length_words [] = refl
length_words (h ∷ l) = omega (arith, length-append (hint_words h) (all_words l), six_words h, length_words l)

put_in_law : (words : List ℕ) (i : ℕ) (h : RankedHint) → i < 64 → put_in words i h ≡ sets words (6 * i + 1) (hint_words h)
unfolding put_in
put_in_law words i h room = rw (lt-ltb i 64 room) (set_in_law words i h)

laid_stored : (words : List ℕ) (i : ℕ) (l : List RankedHint) →
    i + length l ≤ 64 → laid words i l ≡ sets words (6 * i + 1) (all_words l)
unfolding laid all_words hint_words
laid_stored words i [] few = refl
laid_stored words i (h ∷ l) few =
    let next : 6 * suc i + 1 ≡ suc (suc (suc (suc (suc (suc (6 * i + 1)))))) = omega arith in
    laid_stored (put_in words i h) (suc i) l (omega arith) ∙
    ap (λ (m : List ℕ). sets m (6 * suc i + 1) (all_words l)) (put_in_law words i h (omega arith)) ∙
    ap (λ (k : ℕ). sets (sets words (6 * i + 1) (hint_words h)) k (all_words l)) next

-- Where there is room they are their words, one behind another, and the others are as they were.
pub laid_words : (words : List ℕ) (i : ℕ) (l : List RankedHint) → i + length l ≤ 64 → length words ≡ 385 →
    laid words i l ≡ take (6 * i + 1) words ++ (all_words l ++ drop (6 * (i + length l) + 1) words)
laid_words words i l few long =
    let end : 6 * i + 1 + length (all_words l) ≡ 6 * (i + length l) + 1 = omega (arith, length_words l) in
    laid_stored words i l few ∙ sets-eq (all_words l) words (6 * i + 1) (omega arith) ∙
    rw (end, append_assoc (take (6 * i + 1) words) (all_words l) (drop (6 * (i + length l) + 1) words))

-- ---- Hints that are read.

-- A hint whose numbers a machine holds.
pub record KeptRanked (h : RankedHint) : Type 0 where
  pub contour : SFits w64 h.contour.0
  pub reach : T (fits binary64 h.reach)
  pub hint : Kept h.hint

abbrev pub AllRankedKept : List RankedHint → Type 0
AllRankedKept [] = Unit {0}
AllRankedKept (h ∷ l) = KeptRanked h × AllRankedKept l

-- The double of a word is read from its own word.
double_back : (w : ℕ) → of_bits binary64 (to_bits binary64 (of_bits binary64 w)) ≡ of_bits binary64 w
double_back w = of_bits-to_bits binary64 (of_bits binary64 w) (of_bits-fits binary64 w)

-- What is read from words is one.
read_kept : (words : List ℕ) (i : ℕ) → KeptRanked (hint_in words i)
unfolding hint_in
read_kept words i =
    record {
      contour = signed_fits (get_or words (6 * i + 1) 0);
      reach = of_bits-fits binary64 (get_or words (6 * i + 2) 0);
      hint = record {
        x = double_back (get_or words (6 * i + 3) 0);
        y = double_back (get_or words (6 * i + 4) 0);
        until = let w = get_or words (6 * i + 5) 0 in signed_back (signed_of w) (signed_fits w);
      };
    }

-- So is a hint that was added, before it is ranked.
pub unranked_kept : (hs : List WaitHint) → AllKept hs → AllRankedKept (map unranked hs)
unfolding fits
unranked_kept [] k = tt
unranked_kept (h ∷ hs) k =
    (record { contour = record { sfits = omega arith }; reach = tt; hint = k.0 }, unranked_kept hs k.1)

-- It is read from its six words, whatever is in front of them and behind.
hint_back : (front : List ℕ) (h : RankedHint) (rest : List ℕ) (i : ℕ) →
    length front ≡ 6 * i + 1 → KeptRanked h → hint_in (front ++ (hint_words h ++ rest)) i ≡ h
unfolding hint_in hint_words
hint_back front h rest i long k =
    rw (
      at (6 * i + 1) 0 (omega arith),
      at (6 * i + 2) 1 (omega arith),
      at (6 * i + 3) 2 (omega arith),
      at (6 * i + 4) 3 (omega arith),
      at (6 * i + 5) 4 (omega arith),
      at (6 * i + 6) 5 (omega arith),
      signed_back h.contour.0 k.contour,
      k.hint.until,
      of_bits-to_bits binary64 h.reach k.reach,
      k.hint.x,
      k.hint.y,
    )
  where
    at : (place n : ℕ) → place ≡ length front + n →
        get_or (front ++ (hint_words h ++ rest)) place 0 ≡ get_or (hint_words h ++ rest) n 0
    at place n e = rw e (get_or-append-add front (hint_words h ++ rest) n 0)

-- Hints are read from their words, from place i on.
pub hints_back : (words front : List ℕ) (l : List RankedHint) (rest : List ℕ) (i : ℕ) →
    words ≡ front ++ (all_words l ++ rest) → length front ≡ 6 * i + 1 → AllRankedKept l → listed (hint_in words) (length l) i ≡ l
unfolding listed all_words
hints_back words front [] rest i same long k = refl
hints_back words front (h ∷ l) rest i same long k =
    let split : words ≡ front ++ (hint_words h ++ (all_words l ++ rest)) =
    same ∙ ap (λ (t : List ℕ). front ++ t) (append_assoc (hint_words h) (all_words l) rest) in
    let here : hint_in words i ≡ h =
    ap (λ (t : List ℕ). hint_in t i) split ∙ hint_back front h (all_words l ++ rest) i long k.0 in
    let longer : length (front ++ hint_words h) ≡ 6 * suc i + 1 =
    omega (arith, length-append front (hint_words h), six_words h, long) in
    let more =
    hints_back words (front ++ hint_words h) l rest (suc i)
    (split ∙ sym (append_assoc front (hint_words h) (all_words l ++ rest))) longer k.1 in
    ap (λ (x : RankedHint). x ∷ listed (hint_in words) (length l) (suc i)) here ∙ ap (λ (xs : List RankedHint). h ∷ xs) more

-- Hints that were put where there is room are read as they were.
pub laid_read : (words : List ℕ) (i : ℕ) (l : List RankedHint) → i + length l ≤ 64 → length words ≡ 385 → AllRankedKept l →
    listed (hint_in (laid words i l)) (length l) i ≡ l
laid_read words i l few long k =
    hints_back (laid words i l) (take (6 * i + 1) words) l (drop (6 * (i + length l) + 1) words) i (laid_words words i l few long)
    (length-take-le (6 * i + 1) words (omega arith)) k

listed_kept : (f : ℕ → RankedHint) → ((i : ℕ) → KeptRanked (f i)) → (n i : ℕ) → AllRankedKept (listed f n i)
unfolding listed
listed_kept f each zero i = tt
listed_kept f each (suc n) i = (each i, listed_kept f each n (suc i))

-- All that a list holds are hints whose numbers a machine holds.
pub held_kept : (words : List ℕ) → AllRankedKept (hints_in words)
unfolding hints_in
held_kept words = listed_kept (hint_in words) (read_kept words) (count_in words) 0

-- As many as the count says are all that is read.
pub laid_held : (words : List ℕ) (l : List RankedHint) →
    length words ≡ 385 → count_in words ≡ length l → AllRankedKept l → hints_in (laid words 0 l) ≡ l
unfolding hints_in
laid_held words l long count k =
    ap (λ (n : ℕ). listed (hint_in (laid words 0 l)) n 0) (laid_count words 0 l ∙ count) ∙
    laid_read words 0 l (omega (arith, few words)) long k

-- ---- Zeros behind them.

pub drop_zeros : (n k : ℕ) → k ≤ n → drop {A = ℕ} k (replicate n 0) ≡ replicate (n - k) 0
drop_zeros n k few =
    let whole : k + (n - k) ≡ n = omega arith in
    ap (λ (m : ℕ). drop {A = ℕ} k (replicate m 0)) (sym whole) ∙
    ap (drop {A = ℕ} k) (sym (replicate-append-replicate {A = ℕ} k (n - k) 0)) ∙
    drop_at (replicate k 0) (replicate (n - k) 0) k (length-replicate {A = ℕ} k 0)
