-- A loop along a list of hints: how many are below a contour or level with it, and the root.
-- Assumes nothing.
use mathlib.Core.Path.{◌≡◌, refl, sym, ap}
use mathlib.Core.Bool.{Bool, true, false, not, cond}
use mathlib.Core.List.{List, [], ◌∷◌}
use Prim.Native.Nat.{ℕ, zero, suc, ◌+◌, ◌≤◌, ◌<◌}
use native.Mathlib.Numerals.{add-one}
use native.Mathlib.Omega.{arith}
use lib.ListN.{length, drop, get_or, drop_of_length-le}
use lib.Seq.{drop-cons}
use lib.Signed.{lt_z}
use Rattle.std.specs.List.{prefix_len, range_with_len}
use Rattle.std.proofs.lemmas.List.Sums.{prefix_len-drop_all, prefix_len-le-length}
use Rattle.times.specs.declared.time.Duration.{Duration}
use Rattle.hint_list.specs.Words.{blank_ranked}
use Rattle.hint_list.specs.declared.hint.RankedHint.{RankedHint}
use Rattle.path_roots.specs.Roots.{count_below, count_level, first_root}
use Rattle.std.specs.Prelude.{Option, Some, None}

-- From place i on: what stands there, and the others.
pub from_here : (l : List RankedHint) (i : ℕ) → i < length l → drop i l ≡ get_or l i blank_ranked ∷ drop (i + 1) l
from_here l i h = rw (add-one i) (drop-cons l i blank_ranked h)

-- ---- The counts: how many in front pass a test.

-- A test of the hints by place, from place i on, passes as many as the test of those from there on.
pub passed_from : (test : RankedHint → Bool) (l : List RankedHint) (n i : ℕ) → i + n ≡ length l →
    prefix_len (λ k. test (get_or l k blank_ranked)) (range_with_len i n) ≡ prefix_len test (drop i l)
passed_from test l zero i e = sym (prefix_len-drop_all test l i (omega arith))
passed_from test l (suc n) i e = rw (from_here l i (omega arith), passed_from test l n (i + 1) (omega arith))

-- The hints in front of the first that is not below c,
abbrev pub is_below : Duration → RankedHint → Bool
is_below c h = lt_z h.contour.0 c.0

pub below_front : (c : Duration) (l : List RankedHint) → count_below c l ≡ prefix_len (is_below c) l
unfolding count_below
below_front c [] = refl
below_front c (h ∷ hs) =
    let rest = below_front c hs in
    let one_more : count_below c hs + 1 ≡ 1 + prefix_len (is_below c) hs = omega arith in
    ap (λ n. cond (lt_z h.contour.0 c.0) n 0) one_more

-- and in front of the first that is above it.
abbrev pub not_above : Duration → RankedHint → Bool
not_above c h = not (lt_z c.0 h.contour.0)

pub level_front : (c : Duration) (l : List RankedHint) → count_level c l ≡ prefix_len (not_above c) l
unfolding count_level
level_front c [] = refl
level_front c (h ∷ hs) = by (lt_z c.0 h.contour.0) (level_front c hs)
  where
    by : (t : Bool) → count_level c hs ≡ prefix_len (not_above c) hs →
        cond t 0 (count_level c hs + 1) ≡ cond (not t) (1 + prefix_len (not_above c) hs) 0
    by true e = refl
    by false e = omega arith

pub level_in : (c : Duration) (l : List RankedHint) → count_level c l ≤ length l
level_in c l = rw (level_front c l) (prefix_len-le-length (not_above c) l)

-- ---- The root: none where all are below the goal's contour, else the last that is level with the first that is not.

module _ (goal : Duration) (l : List RankedHint) (at : ℕ) (counted : at ≡ count_below goal l) where
  pub no_root : length l ≤ at → None ≡ first_root goal l
  unfolding first_root
  no_root h = rw (← counted, drop_of_length-le l {i = at} h)

  pub root_found : (x : RankedHint) → drop at l ≡ x ∷ drop (at + 1) l →
      Some (at + count_level x.contour (drop (at + 1) l)) ≡ first_root goal l
  unfolding first_root
  root_found x here = rw (← counted, here)
