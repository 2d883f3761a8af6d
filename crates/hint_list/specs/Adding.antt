-- What adding hints to a lent list hands back and leaves in it (RULES 4.14, 10.41 to 10.43).
-- Assumes nothing.
use Rattle.std.specs.Prelude.{ℕ, ◌+◌, ◌≤◌, ◌≡◌, List, [], ◌∷◌, map, length, replicate, Result, Ok, Err}
use Rattle.std.specs.Float.{binary64}
use Rattle.std.specs.Float.Ieee.{to_bits, of_bits}
use Rattle.number_words.specs.Word.{word_of, signed_of}
use Rattle.hint_list.specs.Hints.{Hints, Of, Refused}
use Rattle.hint_list.specs.Words.{unranked, laid}
use Rattle.hint_list.specs.declared.hint.WaitHint.{WaitHint}
use Rattle.refusals.specs.declared.Refusal.{Refusal}

-- How many there are behind n others, or the refusal.
unfoldable pub filled_of : ℕ → Hints → Result ℕ Refusal
filled_of n (Of hs) = Ok (n + length hs)
filled_of n (Refused why) = Err why

-- The list with the hints behind n others, and zero throughout on a refusal.
unfoldable pub laid_by : List ℕ → ℕ → Hints → List ℕ
laid_by words n (Of hs) = laid words n (map unranked hs)
laid_by words n (Refused _) = replicate 385 0

-- A hint whose words read as it was.
pub record Kept (h : WaitHint) : Type 0 where
  pub x : of_bits binary64 (to_bits binary64 h.place.x) ≡ h.place.x
  pub y : of_bits binary64 (to_bits binary64 h.place.y) ≡ h.place.y
  pub until : signed_of (word_of h.until.0) ≡ h.until.0

abbrev pub AllKept : List WaitHint → Type 0
AllKept [] = Unit {0}
AllKept (h ∷ hs) = Kept h × AllKept hs

-- Hints behind n others are kept, and where those are at most 64, all of them are.
abbrev pub KeptBy : ℕ → Hints → Type 0
KeptBy n (Of hs) = AllKept hs × (n ≤ 64 → n + length hs ≤ 64)
KeptBy n (Refused _) = Unit {0}

-- `lent` is the list as it came, with n hints in it, `left` as it is left, r what is handed back.
pub record Added (answer : Hints) (n : ℕ) (lent left : List ℕ) (r : Result ℕ Refusal) : Type 0 where
  pub filled : r ≡ filled_of n answer
  pub words : left ≡ laid_by lent n answer
  pub kept : KeptBy n answer
