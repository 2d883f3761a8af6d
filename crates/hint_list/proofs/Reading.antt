-- Hints read from a list of words: 64 at most, each from its own six words (RULES 11.8).
-- Assumes nothing.
use Prim.Native.Nat.{ℕ, zero, suc, ◌+◌, ◌≤◌, ◌<◌}
use mathlib.Core.Path.{◌≡◌, refl, ap, ◌∙◌}
use mathlib.Core.List.{List, [], ◌∷◌}
use native.Mathlib.Omega.{arith}
use lib.ListN.{length, get_or, take, replicate}
use Rattle.lent.specs.Listed.{listed}
use Rattle.lent.proofs.Listed.{length_listed, listed_at, listed_past}
use Rattle.hint_list.specs.Words.{blank_ranked, count_in, hint_in, hints_in}

pub few : (words : List ℕ) → count_in words ≤ 64
unfolding count_in
few words = omega arith

-- As many are read as there are.
pub counted : (words : List ℕ) → length (hints_in words) ≡ count_in words
unfolding hints_in
counted words = length_listed (hint_in words) (count_in words) 0

pub hint_there : (words : List ℕ) (i : ℕ) → i < count_in words → get_or (hints_in words) i blank_ranked ≡ hint_in words i
unfolding hints_in
hint_there words i there =
    let same : 0 + i ≡ i = omega arith in listed_at (hint_in words) (count_in words) 0 i blank_ranked there ∙ ap (hint_in words) same

pub hint_missing : (words : List ℕ) (i : ℕ) → count_in words ≤ i → get_or (hints_in words) i blank_ranked ≡ blank_ranked
unfolding hints_in
hint_missing words i past = listed_past (hint_in words) (count_in words) 0 i blank_ranked past

take_listed : {A : Type 0} (f : ℕ → A) (m n i : ℕ) → m ≤ n → take m (listed f n i) ≡ listed f m i
unfolding listed
take_listed f zero n i few = refl
take_listed f (suc m) zero i few = absurd (let z : ⊥ = omega arith in z)
take_listed f (suc m) (suc n) i few = ap (λ xs. f i ∷ xs) (take_listed f m n (suc i) (omega arith))

-- The first of them.
pub first_hints : (words : List ℕ) (n : ℕ) → n ≤ count_in words → take n (hints_in words) ≡ listed (hint_in words) n 0
unfolding hints_in
first_hints words n there = take_listed (hint_in words) n (count_in words) 0 there

-- Zeros hold none.
pub no_hints : hints_in (replicate 385 0) ≡ []
unfolding hints_in count_in listed
no_hints = refl
