-- A room that is filled a word at a time: from an index on with zeros, or from the front with the words of an answer.
-- Assumes nothing.
use mathlib.Core.Path.{◌≡◌, ap}
use mathlib.Core.List.{List, ◌++◌, append_assoc, append-nil}
use Prim.Native.Nat.{ℕ, suc, ◌+◌, ◌-◌, ◌<◌, ◌≤◌}
use native.Mathlib.Numerals.{add-one}
use native.Mathlib.Omega.{arith}
use lib.ListN.{length, take, drop, set, get_or, replicate, length-set}
use lib.Seq.{take-suc, drop-cons, set_at, take-suc-set, take_all, take-append_seam, length-take-le}
use Rattle.lent.specs.Outcome.{wiped}

-- Once the word at i is 0, wiping from the next one on comes to the same.
pub wiped_step : (room : List ℕ) (i : ℕ) → i < length room → wiped (set room i 0) (i + 1) ≡ wiped room i
unfolding wiped
wiped_step room i h =
    let rest : suc (length (set room i 0) - suc i) ≡ length room - i = omega (arith, length-set room i 0) in
    rw (add-one, take-suc-set room i 0 h, append_assoc) (ap (λ (n : ℕ). take i room ++ replicate n 0) rest)

-- Past the end there is nothing to wipe.
pub wiped_past : (room : List ℕ) (i : ℕ) → length room ≤ i → wiped room i ≡ room
unfolding wiped
wiped_past room i h = let none : length room - i ≡ 0 = omega arith in rw (none, append-nil, take_all i room h)

pub wiped_whole : (room : List ℕ) → wiped room 0 ≡ replicate (length room) 0
unfolding wiped
wiped_whole room = let all : length room - 0 ≡ length room = omega arith in rw all

pub wiped_after : (words rest : List ℕ) (n : ℕ) →
    length (words ++ rest) ≡ n → wiped (words ++ rest) (length words) ≡ words ++ replicate (n - length words) 0
unfolding wiped
wiped_after words rest n e = rw (take-append_seam, e)

-- One more word copied: i of them stand in front of what the room had there.
pub copied_step : (words room : List ℕ) (i : ℕ) → i < length words → i < length room →
    set (take i words ++ drop i room) i (get_or words i 0) ≡ take (i + 1) words ++ drop (i + 1) room
copied_step words room i h k =
    rw (add-one, drop-cons room i 0 k, take-suc words i 0 h, append_assoc)
    (set_at (take i words) (get_or room i 0) (drop (suc i) room) (get_or words i 0) i (length-take-le i words (omega arith)))
