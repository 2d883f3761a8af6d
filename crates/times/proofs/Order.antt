-- Instants in order: which of two is the later or the earlier, and that a longer span leads to no earlier instant.
-- Assumes nothing.
use Rattle.std.proofs.Common.{◌≡◌, ℕ, ◌≤◌, Bool, true, false, cond, ◌⊎◌, ℤ, pos, neg_ℤ, nat_abs, ◌≤ℤ◌, sym, refl, subst, inl, inr}
use lib.IntN.{+ℤ_idr}
use lib.Signed.{lt_z, lt_z_no, ≤ℤ_refl}
use Rattle.floats.proofs.Tests.{passed, failed}
use Rattle.times.specs.Time.{is_exact, span_between, instant_after, later_of, earlier_of}
use Rattle.times.specs.declared.time.TimePoint.{TimePoint}
use Rattle.times.specs.declared.time.Duration.{Duration}
use Rattle.times.proofs.Answers.{span_made, instant_made}
use Rattle.times.proofs.Integers.{below→at-most, at_most_trans, sum_mono, neg_not_above}
use Rattle.times.proofs.Integers.{difference_not_below, size_at_most}
use Rattle.std.specs.Prelude.{Result, Ok, Err}
use Rattle.times.specs.Time.{strayed}
use Rattle.times.specs.declared.time.Strayed.{Strayed}

-- v is one of t and u, and stands in an order to both.
pub record Chosen (order : ℤ → ℤ → Type 0) (t u v : TimePoint) : Type 0 where
  pub one_of : (v ≡ t) ⊎ (v ≡ u)
  pub first : order t.0 v.0
  pub second : order u.0 v.0
  pub is_exact_law : is_exact t.0 ≡ true → is_exact u.0 ≡ true → is_exact v.0 ≡ true

pub later : (t u : TimePoint) → Chosen ◌≤ℤ◌ t u (later_of t u)
unfolding later_of
later t u = by (lt_z t.0 u.0) refl
  where
    by : (b : Bool) → lt_z t.0 u.0 ≡ b → Chosen ◌≤ℤ◌ t u (cond b u t)
    by true e = record { one_of = inr refl; first = below→at-most _ _ (passed e); second = ≤ℤ_refl _; is_exact_law = λ p q. q }
    by false e = record { one_of = inl refl; first = ≤ℤ_refl _; second = lt_z_no (failed e); is_exact_law = λ p q. p }

pub earlier : (t u : TimePoint) → Chosen (λ x y. y ≤ℤ x) t u (earlier_of t u)
unfolding earlier_of
earlier t u = by (lt_z u.0 t.0) refl
  where
    by : (b : Bool) → lt_z u.0 t.0 ≡ b → Chosen (λ x y. y ≤ℤ x) t u (cond b u t)
    by true e = record { one_of = inr refl; first = below→at-most _ _ (passed e); second = ≤ℤ_refl _; is_exact_law = λ p q. q }
    by false e = record { one_of = inl refl; first = ≤ℤ_refl _; second = lt_z_no (failed e); is_exact_law = λ p q. p }

-- Whatever holds of both holds of it.
pub chosen_has : {order : ℤ → ℤ → Type 0} {t u v : TimePoint} (P : TimePoint → Type 0) → Chosen order t u v → P t → P u → P v
chosen_has P c p q = elim c.one_of [ inl e ↦ subst P (sym e) p | inr e ↦ subst P (sym e) q ]

-- The span from an instant to one that is no earlier is not below zero.
pub between_not_below : (t u : TimePoint) (d : Duration) → span_between t u ≡ Ok d → t.0 ≤ℤ u.0 → pos 0 ≤ℤ d.0
between_not_below t u d e h = rw (span_made t u d e).number at (difference_not_below t.0 u.0 h)

-- Between instants from the start to m ns after it a span is at most m.
pub between_size : (t u : TimePoint) (d : Duration) (m : ℕ) →
    span_between t u ≡ Ok d → pos 0 ≤ℤ t.0 → t.0 ≤ℤ u.0 → u.0 ≤ℤ pos m → nat_abs d.0 ≤ m
between_size t u d m e low h high =
    let to-later : d.0 ≤ℤ u.0 =
    rw (+ℤ_idr, (span_made t u d e).number) at (sum_mono u.0 (neg_ℤ t.0) (pos 0) (neg_not_above t.0 low)) in
    size_at_most d.0 m (between_not_below t u d e h) (at_most_trans d.0 u.0 (pos m) to-later high)

pub after_mono : (t : TimePoint) (d e : Duration) (u v : TimePoint) →
    instant_after t d ≡ Ok u → instant_after t e ≡ Ok v → d.0 ≤ℤ e.0 → u.0 ≤ℤ v.0
after_mono t d e u v p q h =
    rw ((instant_made t d u p).number, (instant_made t e v q).number) at (sum_mono t.0 d.0 e.0 h)

pub after_not_below : (t : TimePoint) (d : Duration) (u : TimePoint) →
    instant_after t d ≡ Ok u → pos 0 ≤ℤ d.0 → t.0 ≤ℤ u.0
after_not_below t d u p h = rw (+ℤ_idr, (instant_made t d u p).number) at (sum_mono t.0 (pos 0) d.0 h)
