-- A chain as words: the count of its links, then they (RULES 13.23).
-- Assumes nothing.
use Rattle.std.specs.Prelude.{ℕ, ◌+◌, min, cond, List, [], ◌∷◌, ltb, get_or, set}
use Rattle.lent.specs.Listed.{listed}

-- The links of a chain. There is room for 64, and a chain has no more links than there are hints (`way_links_law` of proofs/Links).
unfoldable pub links_in : List ℕ → List ℕ
links_in words = listed (λ k. get_or words (k + 1) 0) (min 64 (get_or words 0 0)) 0

-- The chain with one link more, where there is room.
unfoldable pub linked_to : List ℕ → ℕ → List ℕ
linked_to words i = cond (ltb (get_or words 0 0) 64) (set (set words (get_or words 0 0 + 1) i) 0 (get_or words 0 0 + 1)) words

-- With links, one behind another.
unfoldable pub linked_by : List ℕ → List ℕ → List ℕ
linked_by words [] = words
linked_by words (i ∷ l) = linked_by (linked_to words i) l
