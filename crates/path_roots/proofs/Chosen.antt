-- The hint that the search begins with: of the contours that are not below the goal's it has the lowest, and it is the last with
-- that contour (RULES 13.9).
-- Assumes nothing.
use mathlib.Core.Path.{◌≡◌, refl, sym, ap, subst, ◌∙◌}
use mathlib.Core.Logic.{◌⊎◌, inl, inr}
use mathlib.Core.Bool.{Bool, true, false, true≢false}
use mathlib.Core.List.{List}
use Prim.Native.Nat.{ℕ, zero, suc, ◌+◌, ◌≤◌, ◌<◌}
use native.Mathlib.Nat.{add-zero}
use native.Mathlib.Omega.{arith}
use borrow.Author.Tests.{not-true, not-false, ltb-true, ltb-false}
use lib.Dec.{ltb}
use lib.IntN.{ℤ}
use lib.ListN.{length, drop, get_or, length-drop}
use lib.Seq.{get_or-drop}
use Rattle.std.specs.List.{prefix_len}
use Rattle.std.proofs.lemmas.List.Sums.{prefix_len_passes, prefix_len_stops}
use lib.Signed.{lt_z, ◌≤ℤ◌, ◌<ℤ◌, lt_z_yes, lt_z_no, ≤ℤ_refl, <ℤ-≤ℤ_trans, clash_ℤ}
use Rattle.floats.proofs.Tests.{passed, failed}
use Rattle.times.specs.declared.time.Duration.{Duration}
use Rattle.times.proofs.Integers.{at_most_trans, below_or_at_most}
use Rattle.hint_list.specs.Words.{blank_ranked}
use Rattle.hint_list.specs.declared.hint.RankedHint.{RankedHint}
use Rattle.path_roots.specs.Roots.{count_below, count_level, first_root}
use Rattle.path_roots.proofs.Counts.{from_here, is_below, below_front, not_above, level_front, level_in, no_root, root_found}
use Rattle.std.specs.Prelude.{Option, Some, None}

-- The contour of hint i.
abbrev pub contour_at : List RankedHint → ℕ → ℤ
contour_at l i = (get_or l i blank_ranked).contour.0

-- No contour is below one in front of it.
abbrev pub Rises : List RankedHint → Type 0
Rises l = (i j : ℕ) → i ≤ j → j < length l → contour_at l i ≤ℤ contour_at l j

-- Hint i has the lowest contour that is not below the goal's, and those behind it have higher ones.
pub record Chosen (goal : Duration) (l : List RankedHint) (i : ℕ) : Type 0 where
  pub there : i < length l
  pub not_below : goal.0 ≤ℤ contour_at l i
  pub lowest : (j : ℕ) → j < length l → goal.0 ≤ℤ contour_at l j → contour_at l i ≤ℤ contour_at l j
  pub last : (j : ℕ) → i < j → j < length l → contour_at l i <ℤ contour_at l j

-- Every contour is below the goal's.
abbrev pub AllBelow : Duration → List RankedHint → Type 0
AllBelow goal l = (j : ℕ) → j < length l → contour_at l j <ℤ goal.0

-- ---- The hints that are counted pass, and the next does not.

module _ (c : Duration) (l : List RankedHint) where
  below_passes : (j : ℕ) → j < count_below c l → contour_at l j <ℤ c.0
  below_passes j b = lt_z_yes (passed (prefix_len_passes (is_below c) l j blank_ranked (rw (below_front c l) at b)))

  below_fails : count_below c l < length l → c.0 ≤ℤ contour_at l (count_below c l)
  below_fails b =
      rw (below_front c l) (lt_z_no (failed (prefix_len_stops (is_below c) l blank_ranked (rw (below_front c l) at b))))

module _ (c : Duration) (l : List RankedHint) where
  level_passes : (j : ℕ) → j < count_level c l → contour_at l j ≤ℤ c.0
  level_passes j b =
      lt_z_no (failed (not-true (lt_z c.0 (contour_at l j)) (prefix_len_passes (not_above c) l j blank_ranked (rw (level_front c l) at b))))

  level_fails : count_level c l < length l → c.0 <ℤ contour_at l (count_level c l)
  level_fails b =
      let above = lt_z c.0 (contour_at l (prefix_len (not_above c) l)) in
      rw (level_front c l) (lt_z_yes (passed (not-false above (prefix_len_stops (not_above c) l blank_ranked (rw (level_front c l) at b)))))

-- ---- The root.

not_missing : {i : ℕ} → None ≡ Some i → ⊥
not_missing e = true≢false cc

same_root : {i j : ℕ} → Some i ≡ Some j → i ≡ j
same_root e = cc

module _ (goal : Duration) (l : List RankedHint) where
  -- The first that is not below the goal's, its contour, the hints behind it, and the last of them that is level with it.
  abbrev at : ℕ
  at = count_below goal l

  abbrev contour : Duration
  contour = (get_or l at blank_ranked).contour

  abbrev behind : List RankedHint
  behind = drop (at + 1) l

  abbrev root : ℕ
  root = at + count_level contour behind

  some_or_none : (at < length l) ⊎ (length l ≤ at)
  some_or_none = by (ltb at (length l)) refl
    where
      by : (t : Bool) → ltb at (length l) ≡ t → (at < length l) ⊎ (length l ≤ at)
      by true e = inl (ltb-true _ _ e)
      by false e = inr (ltb-false _ _ e)

  none_found : length l ≤ at → None ≡ first_root goal l
  none_found = no_root goal l at refl

  found : at < length l → Some root ≡ first_root goal l
  found some = root_found goal l at refl (get_or l at blank_ranked) (from_here l at some)

  behind_at : (k : ℕ) → contour_at behind k ≡ contour_at l (at + 1 + k)
  behind_at k = ap (λ (h : RankedHint). h.contour.0) (get_or-drop (at + 1) l k blank_ranked)

  not_above_law : contour_at l root ≤ℤ contour.0
  not_above_law = by (count_level contour behind) refl
    where
      by : (n : ℕ) → count_level contour behind ≡ n → contour_at l (at + n) ≤ℤ contour.0
      by zero e = rw (add-zero at) (≤ℤ_refl contour.0)
      by (suc m) e =
          let same : at + 1 + m ≡ at + suc m = omega arith in
          subst (λ (z : ℤ). z ≤ℤ contour.0) (behind_at m ∙ ap (contour_at l) same)
          (level_passes contour behind m (omega arith))

  chosen_root : Rises l → at < length l → Chosen goal l root
  chosen_root rises some = record { there = inside; not_below = high; lowest = low; last = late }
    where
      inside : root < length l
      inside = omega (arith, level_in contour behind, length-drop (at + 1) l)

      high : goal.0 ≤ℤ contour_at l root
      high = at_most_trans _ contour.0 _ (below_fails goal l some) (rises at root (omega arith) inside)

      low : (j : ℕ) → j < length l → goal.0 ≤ℤ contour_at l j → contour_at l root ≤ℤ contour_at l j
      low j h g = by (ltb j at) refl
        where
          by : (t : Bool) → ltb j at ≡ t → contour_at l root ≤ℤ contour_at l j
          by true e = clash_ℤ (below_passes goal l j (ltb-true _ _ e)) g
          by false e = at_most_trans _ contour.0 _ not_above_law (rises at j (ltb-false _ _ e) h)

      late : (j : ℕ) → root < j → j < length l → contour_at l root <ℤ contour_at l j
      late j g h =
          let next : ℕ = at + 1 + count_level contour behind in
          let above : contour.0 <ℤ contour_at l next =
          subst (λ (z : ℤ). contour.0 <ℤ z) (behind_at (count_level contour behind))
          (level_fails contour behind (omega (arith, length-drop (at + 1) l))) in
          let far : contour.0 <ℤ contour_at l j = <ℤ-≤ℤ_trans above (rises next j (omega arith) h) in
          elim (below_or_at_most (contour_at l root) (contour_at l j)) [
            | inl k ↦ k
            | inr k ↦ clash_ℤ far (at_most_trans (contour_at l j) (contour_at l root) contour.0 k not_above_law)
          ]

-- The search begins with the hint that is chosen,
pub chosen : (goal : Duration) (l : List RankedHint) (i : ℕ) → Rises l → first_root goal l ≡ Some i → Chosen goal l i
chosen goal l i rises e =
    elim (some_or_none goal l) [
      | inl some ↦ subst (Chosen goal l) (same_root (found goal l some ∙ e)) (chosen_root goal l rises some)
      | inr none ↦ absurd (not_missing (none_found goal l none ∙ e))
    ]

-- of which there is one,
pub chosen_once : (goal : Duration) (l : List RankedHint) (i j : ℕ) → Chosen goal l i → Chosen goal l j → i ≡ j
chosen_once goal l i j p q = by (ltb i j) (ltb j i) refl refl
  where
    by : (s t : Bool) → ltb i j ≡ s → ltb j i ≡ t → i ≡ j
    by true t e f = clash_ℤ (p.last j (ltb-true _ _ e) q.there) (q.lowest i p.there p.not_below)
    by false true e f = clash_ℤ (q.last i (ltb-true _ _ f) p.there) (p.lowest j q.there q.not_below)
    by false false e f = omega (arith, ltb-false i j e, ltb-false j i f)

-- and with no other;
pub chosen_only : (goal : Duration) (l : List RankedHint) (i : ℕ) → Rises l → Chosen goal l i → first_root goal l ≡ Some i
chosen_only goal l i rises p =
    elim (some_or_none goal l) [
      | inl some ↦ sym (found goal l some) ∙ rw (chosen_once goal l (root goal l) i (chosen_root goal l rises some) p)
      | inr none ↦ clash_ℤ (below_passes goal l i (omega (arith, p.there))) p.not_below
    ]

-- and with none exactly where every contour is below the goal's.
pub all_below : (goal : Duration) (l : List RankedHint) → first_root goal l ≡ None → AllBelow goal l
all_below goal l e j h =
    elim (some_or_none goal l) [
      | inl some ↦ absurd (not_missing (sym (found goal l some ∙ e)))
      | inr none ↦ below_passes goal l j (omega arith)
    ]

pub all_below_only : (goal : Duration) (l : List RankedHint) → AllBelow goal l → first_root goal l ≡ None
all_below_only goal l all =
    elim (some_or_none goal l) [
      | inl some ↦ clash_ℤ (all (count_below goal l) some) (below_fails goal l some)
      | inr none ↦ sym (none_found goal l none)
    ]
