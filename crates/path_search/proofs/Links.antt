-- A chain as words: its links are read back whole as long as 64 places hold them, and a chain that is found has at most as many
-- links as there are hints (RULES 13.23).
-- Assumes nothing.
use mathlib.Core.Path.{◌≡◌, refl, sym, ap, ◌∙◌}
use mathlib.Core.Bool.{Bool, true, false}
use mathlib.Core.List.{List, [], ◌∷◌, ◌++◌, append_assoc, append-nil}
use Rattle.std.specs.Prelude.{Option, Some, None}
use Prim.Native.Nat.{ℕ, zero, suc, ◌+◌, ◌-◌, ◌≤◌, ◌<◌, min}
use native.Mathlib.Omega.{arith}
use borrow.Author.Tests.{lt-ltb, ltb-true, ltb-false}
use lib.Dec.{ltb, leb}
use lib.ListN.{length, get_or, set, replicate, length-append, length-set, get_or-append}
use lib.Seq.{ext_get_or, get_or_at, get_or-set_same, get_or-set_other}
use Rattle.lent.specs.Listed.{listed}
use Rattle.lent.proofs.Listed.{length_listed, listed_at}
use Rattle.path_search.specs.declared.trial.Trial.{Trial}
use Rattle.path_search.specs.declared.trial.Trial.TheVariants as T
use Rattle.path_search.specs.declared.tried.Tried as D
use Rattle.path_search.specs.Answer.{Chained, Way, NoWay, Refused}
use Rattle.path_search.specs.Recursive as R
use Rattle.path_search.specs.Recursive.{Tried, Found, Blocked, Unreached, Stopped}
use Rattle.path_search.specs.Recursive.{popped, arrived_by, started_by, offer, after_child, at_root}
use Rattle.path_search.specs.Links.{links_in, linked_to, linked_by}
use Rattle.path_search.specs.Handed.{HandsChain, chained_of}
use Rattle.std.specs.Prelude.{Result, Ok, Err}
use Rattle.refusals.specs.declared.Refusal.{Refusal}

-- ---- The words.

-- A chain has as many links as its first word says, 64 at most.
pub links_count : (words : List ℕ) → length (links_in words) ≡ min 64 (get_or words 0 0)
unfolding links_in
links_count words = length_listed (λ k. get_or words (k + 1) 0) (min 64 (get_or words 0 0)) 0

pub few_links : (words : List ℕ) → length (links_in words) ≤ 64
few_links words = omega (arith, links_count words)

-- Link k stands in the word behind it.
pub link_there : (words : List ℕ) (k : ℕ) → k < length (links_in words) → get_or (links_in words) k 0 ≡ get_or words (k + 1) 0
unfolding links_in
link_there words k there =
    let same : 0 + k + 1 ≡ k + 1 = omega arith in
    listed_at (λ j. get_or words (j + 1) 0) (min 64 (get_or words 0 0)) 0 k 0 (omega (arith, links_count words)) ∙
    ap (λ j. get_or words j 0) same

-- One link more is the last of those that are added.
pub linked_more : (words l : List ℕ) (i : ℕ) → linked_by words (l ++ (i ∷ [])) ≡ linked_to (linked_by words l) i
unfolding linked_by
linked_more words [] i = refl
linked_more words (x ∷ l) i = linked_more (linked_to words x) l i

-- A chain with room for one link more.
module _ (words : List ℕ) (i : ℕ) (long : length words ≡ 65) (room : get_or words 0 0 < 64) where
  abbrev count : ℕ
  count = get_or words 0 0

  abbrev placed : List ℕ
  placed = set words (count + 1) i

  put : linked_to words i ≡ set placed 0 (count + 1)
  unfolding linked_to
  put = rw (lt-ltb count 64 room)

  long_then : length (linked_to words i) ≡ 65
  long_then = ap length put ∙ length-set placed 0 (count + 1) ∙ length-set words (count + 1) i ∙ long

  count_then : get_or (linked_to words i) 0 0 ≡ count + 1
  count_then =
      ap (λ (l : List ℕ). get_or l 0 0) put ∙
      get_or-set_same placed 0 (count + 1) 0 (omega (arith, length-set words (count + 1) i))

  -- The words of the other links stay, and behind them stands the new one.
  word_then : (k : ℕ) → k < count → get_or (linked_to words i) (k + 1) 0 ≡ get_or words (k + 1) 0
  word_then k below =
      ap (λ (l : List ℕ). get_or l (k + 1) 0) put ∙
      get_or-set_other placed 0 (k + 1) (count + 1) 0 (λ e. let z : ⊥ = omega arith in z) ∙
      get_or-set_other words (count + 1) (k + 1) i 0 (λ e. let z : ⊥ = omega arith in z)

  last_then : get_or (linked_to words i) (count + 1) 0 ≡ i
  last_then =
      ap (λ (l : List ℕ). get_or l (count + 1) 0) put ∙
      get_or-set_other placed 0 (count + 1) (count + 1) 0 (λ e. let z : ⊥ = omega arith in z) ∙
      get_or-set_same words (count + 1) i 0 (omega arith)

  -- Its links are those that were there and the new one.
  links_then : links_in (linked_to words i) ≡ links_in words ++ (i ∷ [])
  links_then = ext_get_or 0 (links_in (linked_to words i)) (links_in words ++ (i ∷ [])) as_many each
    where
      few : length (links_in words) ≡ count
      few = omega (arith, links_count words)

      as_many : length (links_in (linked_to words i)) ≡ length (links_in words ++ (i ∷ []))
      as_many = omega (arith, links_count (linked_to words i), count_then, few, length-append (links_in words) (i ∷ []))

      each : (k : ℕ) → k < length (links_in (linked_to words i)) →
          get_or (links_in (linked_to words i)) k 0 ≡ get_or (links_in words ++ (i ∷ [])) k 0
      each k there = link_there (linked_to words i) k there ∙ by (ltb k count) refl
        where
          by : (b : Bool) → ltb k count ≡ b → get_or (linked_to words i) (k + 1) 0 ≡ get_or (links_in words ++ (i ∷ [])) k 0
          by true e =
              let below : k < count = ltb-true k count e in
              word_then k below ∙ sym (link_there words k (omega (arith, few))) ∙
              sym (get_or-append (links_in words) (i ∷ []) 0 k (omega (arith, few)))
          by false e =
              let last : k ≡ count = omega (arith, ltb-false k count e, as_many, few, length-append (links_in words) (i ∷ [])) in
              rw last (last_then ∙ sym (get_or_at (links_in words) i [] 0 count few))

-- Links are read back behind those that were there, where there is room for them.
linked_back : (words l : List ℕ) → length words ≡ 65 → get_or words 0 0 + length l ≤ 64 →
    links_in (linked_by words l) ≡ links_in words ++ l
unfolding linked_by
linked_back words [] long room = sym (append-nil (links_in words))
linked_back words (i ∷ l) long room =
    let one : get_or words 0 0 < 64 = omega arith in
    linked_back (linked_to words i) l (long_then words i long one) (omega (arith, count_then words i long one)) ∙
    ap (λ (m : List ℕ). m ++ l) (links_then words i long one) ∙
    append_assoc (links_in words) (i ∷ []) l

-- At most 64 links in an empty chain are read back whole.
pub links_back : (l : List ℕ) → length l ≤ 64 → links_in (linked_by (replicate 65 0) l) ≡ l
unfolding links_in listed
links_back l few = linked_back (replicate 65 0) l refl (omega arith)

-- ---- The links of a chain that is found.

abbrev links : Tried → ℕ
links (Found l p) = length l
links (Blocked p) = 0
links (Unreached p) = 0
links (Stopped n p) = 0

-- The hints of a way.
abbrev pub way_links : Chained → ℕ
way_links (Way l p) = length l
way_links (NoWay p) = 0
way_links (Refused n p) = 0

-- At most m links, whatever the pops.
abbrev AtMost : ℕ → (ℕ → Tried) → Type 0
AtMost m f = (p : ℕ) → links (f p) ≤ m

popped_links : (m : ℕ) (spent : Bool) (f : ℕ → Tried) → AtMost m f → AtMost m (popped spent f)
popped_links m true f h p = omega arith
popped_links m false f h p = h (p + 1)

arrived_links : (m : ℕ) (t : Result Trial Refusal) (f : ℕ → Tried) → AtMost m f → AtMost m (arrived_by t f)
arrived_links m (Ok T.Passed) f h p = h p
arrived_links m (Ok T.Failed) f h p = omega arith
arrived_links m (Err n) f h p = omega arith

started_links : (t : Result Trial Refusal) (i : ℕ) → AtMost 1 (started_by t i)
started_links (Ok T.Passed) i p = omega arith
started_links (Ok T.Failed) i p = omega arith
started_links (Err n) i p = omega arith

offer_links : (m : ℕ) (b : Bool) (f : ℕ → Tried) → AtMost m f → AtMost m (offer b f)
offer_links m true f h p = h p
offer_links m false f h p = omega arith

after_links : (m : ℕ) (t : Tried) (i : ℕ) (f : ℕ → Tried) → links t ≤ m → AtMost (m + 1) f → links (after_child t i f) ≤ m + 1
after_links m (Found l p) i f h g = omega (arith, length-append l (i ∷ []))
after_links m (Blocked p) i f h g = g p
after_links m (Unreached p) i f h g = g p
after_links m (Stopped n p) i f h g = omega arith

rooted_links : (m : ℕ) (t : Tried) (f : ℕ → Chained) → links t ≤ m → ((p : ℕ) → way_links (f p) ≤ m) → way_links (at_root t f) ≤ m
rooted_links m (Found l p) f h g = h
rooted_links m (Blocked p) f h g = g p
rooted_links m (Unreached p) f h g = omega arith
rooted_links m (Stopped n p) f h g = omega arith

past_links : (m : ℕ) (spent : Bool) → way_links (R.past_last_root spent) ≤ m
past_links m true = omega arith
past_links m false = omega arith

module _ (to_parent : ℕ → Option ℕ → Result Trial Refusal) (from_start : ℕ → Result Trial Refusal) (reaches : ℕ → ℕ → Bool) (budget : ℕ) where
  abbrev children : ℕ → ℕ → ℕ → Tried
  children = R.try_children to_parent from_start reaches budget

  abbrev hint_by : (ℕ → Tried) → ℕ → Option ℕ → ℕ → Tried
  hint_by = R.hint_by to_parent from_start reaches budget

  abbrev roots : ℕ → ℕ → ℕ → Chained
  roots = R.try_roots to_parent from_start reaches budget

  hint_links : (m i : ℕ) (parent : Option ℕ) (f : ℕ → Tried) → AtMost m f → AtMost m (hint_by f i parent)
  hint_links m i parent f h p =
      let t : Result Trial Refusal = to_parent i parent in popped_links m (leb budget p) (arrived_by t f) (arrived_links m t f h) p

  -- With children below k there are at most k links before i (RULES 13.14).
  children_links : (i k : ℕ) → AtMost (k + 1) (children i k)
  unfolding R.try_children
  children_links i zero p = omega (arith, started_links (from_start i) i p)
  children_links i (suc k) p =
      let hint : ℕ → Tried = hint_by (children k k) k (Some i) in
      let again : ℕ → Tried = λ q. popped (leb budget q) (children i k) q in
      let few : AtMost ((k + 1) + 1) (children i k) = λ q. omega (arith, children_links i k q) in
      let h : links (after_child (offer (reaches k i) hint p) i again) ≤ (k + 1) + 1 =
      after_links (k + 1) (offer (reaches k i) hint p) i again
      (offer_links (k + 1) (reaches k i) hint (hint_links (k + 1) k (Some i) (children k k) (children_links k k)) p)
      (λ q. popped_links ((k + 1) + 1) (leb budget q) (children i k) few q)
      in omega arith

  roots_links : (n r p : ℕ) → way_links (roots n r p) ≤ r + n
  unfolding R.try_roots R.try_hint
  roots_links zero r p = omega arith
  roots_links (suc n) r p =
      rooted_links (r + suc n) (hint_by (children r r) r None p) (roots n (r + 1))
      (omega (arith, hint_links (r + 1) r None (children r r) (children_links r r) p))
      (λ q. omega (arith, roots_links n (r + 1) q))

  pub way_links_law : (count : ℕ) (r : Option ℕ) → way_links (R.recursive_search to_parent from_start reaches count budget r) ≤ count
  unfolding R.recursive_search
  way_links_law count None = omega arith
  way_links_law count (Some r) = by (ltb r count) refl
    where
      by : (there : Bool) → ltb r count ≡ there →
          way_links (R.from_root to_parent from_start reaches count budget there r) ≤ count
      by true e = omega (arith, ltb-true r count e, roots_links (count - r) r 0)
      by false e = past_links count (leb budget 0)

-- ---- A whole search.

-- The answer of a search that was lent an empty chain is read from how it ended and from the links that it left.
pub chain_told : (answer : Chained) {left : List ℕ} {r : D.Tried} →
    HandsChain answer (replicate 65 0) left r → way_links answer ≤ 64 → chained_of r (links_in left) ≡ answer
unfolding chained_of
chain_told (Way l p) h few = rw (h.answer, h.links, links_back l few)
chain_told (NoWay p) h few = rw h.answer
chain_told (Refused n p) h few = rw h.answer
