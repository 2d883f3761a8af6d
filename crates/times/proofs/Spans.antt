-- Which spans between instants are given: those exact, a part of one that is, and that of an instant to one that seconds
-- put after it (RULES 6.3, 6.4).
-- Assumes nothing.
use Rattle.std.proofs.Common.{◌≡◌, true, ◌-ℤ◌, ◌≤ℤ◌, refl, ap, ◌∙◌, true≢false}
use lib.IntN.{+ℤ_comm, +ℤ_invr, +ℤ-neg_ℤ_cancel}
use lib.Signed.{≤ℤ_refl}
use lib.Ieee.{Float}
use Rattle.floats.proofs.Relations.{◌≼◌}
use Rattle.floats.specs.Constants.{nought}
use Rattle.times.specs.Time.{is_exact, span_between, span_of_seconds, instant_after, instant_after_seconds}
use Rattle.times.specs.declared.time.TimePoint.{TimePoint}
use Rattle.times.specs.declared.time.Duration.{Duration}
use Rattle.times.proofs.Integers.{difference_mono, difference_not_below}
use Rattle.times.proofs.Exact.{smaller_exact}
use Rattle.times.proofs.Answers.{span_made, instant_made}
use Rattle.times.proofs.Order.{after_not_below}
use Rattle.times.proofs.Seconds.{span_not_below}
use Rattle.std.specs.Prelude.{Result, Ok, Err}
use Rattle.times.specs.Time.{strayed}
use Rattle.times.specs.declared.time.Strayed.{Strayed}

abbrev pub span_from : TimePoint → TimePoint → Duration
span_from t u = record { 0 = u.0 -ℤ t.0 }

pub between_given : (t u : TimePoint) →
    is_exact t.0 ≡ true → is_exact u.0 ≡ true → is_exact (u.0 -ℤ t.0) ≡ true → span_between t u ≡ Ok (span_from t u)
unfolding span_between
between_given t u p q r = rw (q, p, r)

-- From t to an instant between t and v, where the span from t to v is given.
pub part_given : {t u v : TimePoint} {d : Duration} →
    span_between t v ≡ Ok d → is_exact u.0 ≡ true → t.0 ≤ℤ u.0 → u.0 ≤ℤ v.0 → span_between t u ≡ Ok (span_from t u)
part_given {t} {u} {v} {d} e r h k =
    let made = span_made t v d e in
    let shorter = rw made.number at (difference_mono t.0 t.0 u.0 v.0 (≤ℤ_refl t.0) k) in
    between_given t u made.second r
    (smaller_exact (u.0 -ℤ t.0) d.0 (difference_not_below t.0 u.0 h) shorter made.result)

-- The span from t to u is given, and u is not before t.
pub record Since (t u : TimePoint) : Type 0 where
  pub span : Duration
  pub given : span_between t u ≡ Ok span
  pub not_before : t.0 ≤ℤ u.0

pub since_itself : (t : TimePoint) → is_exact t.0 ≡ true → Since t t
unfolding is_exact
since_itself t r =
    record {
      span = span_from t t;
      given = between_given t t r r (ap is_exact (+ℤ_invr t.0));
      not_before = ≤ℤ_refl t.0;
    }

pub since_after : {t u : TimePoint} (s : Float) → instant_after_seconds t s ≡ Ok u → nought ≼ s → Since t u
unfolding instant_after_seconds
since_after {t} {u} s e h = by (span_of_seconds s) refl
  where
    by : (x : Result Duration Strayed) → span_of_seconds s ≡ x → Since t u
    by (Ok d) q =
        let after : instant_after t d ≡ Ok u = rw q at e in
        let made = instant_made t d u after in
        let gone : u.0 -ℤ t.0 ≡ d.0 = rw (← made.number, +ℤ_comm t.0 d.0) (+ℤ-neg_ℤ_cancel d.0 t.0) in
        record {
          span = span_from t u;
          given = between_given t u made.first made.result (ap is_exact gone ∙ made.second);
          not_before = after_not_below t d u after (span_not_below s d q h);
        }
    by (Err _) q = absurd (true≢false (cc (rw q at e)))
