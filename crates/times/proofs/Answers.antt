-- What an answer of this layer tells the layers above: its number is exact, and so is every number that it was made from.
-- Assumes nothing.
use Rattle.std.proofs.Common.{◌≡◌, Bool, true, false, cond, ◌&&◌, ℤ, ◌+ℤ◌, ◌-ℤ◌, sym, refl, ap, ◌∙◌}
use lib.IntN.{+ℤ_comm, -ℤ-+ℤ_cancel}
use lib.Ieee
use lib.Ieee.{Float}
use Rattle.floats.proofs.Magnitude.{Within}
use Rattle.floats.proofs.Tests.{passed}
use Rattle.floats.proofs.Bounds.{within_of_bounds}
use Rattle.times.specs.Time.{is_exact, two_to_53, span_between, span_sum, instant_after, span_of_seconds, instant_of_seconds}
use Rattle.times.specs.declared.time.TimePoint.{TimePoint}
use Rattle.times.specs.declared.time.Duration.{Duration}
use Rattle.times.proofs.Exact.{both}
use Rattle.times.proofs.Cut.{product, nanoseconds_of, cut_exact}
use Rattle.std.specs.Prelude.{Result, Ok, Err}
use Rattle.times.specs.Time.{strayed}
use Rattle.times.specs.declared.time.Strayed.{Strayed}

-- A tested answer that is no refusal: the test held, and the number is the tested one.
span_held : (t : Bool) (z : ℤ) (d : Duration) → cond t (Ok (record { 0 = z })) strayed ≡ Ok d → (t ≡ true) × (z ≡ d.0)
span_held true z d e = (refl, cc)
span_held false z d e = (cc, cc)

instant_held : (t : Bool) (z : ℤ) (u : TimePoint) → cond t (Ok (record { 0 = z })) strayed ≡ Ok u → (t ≡ true) × (z ≡ u.0)
instant_held true z u e = (refl, cc)
instant_held false z u e = (cc, cc)

-- z is what was made of x and y, and all three are exact.
pub record Made (x y made z : ℤ) : Type 0 where
  pub first : is_exact x ≡ true
  pub second : is_exact y ≡ true
  pub result : is_exact z ≡ true
  pub number : made ≡ z

all_three : (x y made z : ℤ) → ((is_exact x && (is_exact y && is_exact made)) ≡ true) × (made ≡ z) → Made x y made z
all_three x y made z (held, same) =
    let outer = both (is_exact x) (is_exact y && is_exact made) held in
    let inner = both (is_exact y) (is_exact made) outer.1 in
    record { first = outer.0; second = inner.0; result = ap is_exact (sym same) ∙ inner.1; number = same }

pub span_made : (earlier later : TimePoint) (d : Duration) →
    span_between earlier later ≡ Ok d → Made later.0 earlier.0 (later.0 -ℤ earlier.0) d.0
unfolding span_between
span_made earlier later d e =
    all_three later.0 earlier.0 (later.0 -ℤ earlier.0) d.0 (span_held _ (later.0 -ℤ earlier.0) d e)

pub instant_made : (t : TimePoint) (d : Duration) (u : TimePoint) →
    instant_after t d ≡ Ok u → Made t.0 d.0 (t.0 +ℤ d.0) u.0
unfolding instant_after
instant_made t d u e = all_three t.0 d.0 (t.0 +ℤ d.0) u.0 (instant_held _ (t.0 +ℤ d.0) u e)

pub sum_made : (first second sum : Duration) →
    span_sum first second ≡ Ok sum → Made first.0 second.0 (first.0 +ℤ second.0) sum.0
unfolding span_sum
sum_made first second sum e =
    all_three first.0 second.0 (first.0 +ℤ second.0) sum.0 (span_held _ (first.0 +ℤ second.0) sum e)

-- z is the product of s with 1e9, cut where it is from -2^53 to 2^53.
pub record Converted (s : Float) (z : ℤ) : Type 0 where
  pub between : Within two_to_53 (product s)
  pub number : nanoseconds_of s ≡ z

pub span_converted : (s : Float) (d : Duration) → span_of_seconds s ≡ Ok d → Converted s d.0
unfolding span_of_seconds
span_converted s d e =
    let held = span_held (Ieee.le (Ieee.neg two_to_53) (product s) && Ieee.le (product s) two_to_53) (nanoseconds_of s) d e in
    let tests = both (Ieee.le (Ieee.neg two_to_53) (product s)) (Ieee.le (product s) two_to_53) held.0 in
    record { between = within_of_bounds two_to_53 (product s) (passed tests.0) (passed tests.1); number = held.1 }

pub span_of_seconds_exact : (s : Float) (d : Duration) → span_of_seconds s ≡ Ok d → is_exact d.0 ≡ true
span_of_seconds_exact s d e =
    let made = span_converted s d e in ap is_exact (sym made.number) ∙ cut_exact (product s) made.between

pub instant_of_seconds_exact : (s : Float) (u : TimePoint) → instant_of_seconds s ≡ Ok u → is_exact u.0 ≡ true
unfolding instant_of_seconds
instant_of_seconds_exact s u e = by (span_of_seconds s) refl
  where
    by : (x : Result Duration Strayed) → span_of_seconds s ≡ x → is_exact u.0 ≡ true
    by (Ok d) q = let same : d.0 ≡ u.0 = cc (rw q at e) in ap is_exact (sym same) ∙ span_of_seconds_exact s d q
    by (Err _) q = cc (rw q at e)

there_and_back : (x y : ℤ) → y +ℤ (x -ℤ y) ≡ x
there_and_back x y = +ℤ_comm y (x -ℤ y) ∙ -ℤ-+ℤ_cancel x y

-- The span from one instant to another, put after the one, leads to the other.
pub after_between : (earlier later : TimePoint) (d : Duration) →
    span_between earlier later ≡ Ok d → instant_after earlier d ≡ Ok later
unfolding instant_after
after_between earlier later d e =
    let made = span_made earlier later d e in
    let back = ap (λ z. earlier.0 +ℤ z) (sym made.number) ∙ there_and_back later.0 earlier.0 in
    rw (back, made.second, made.result, made.first)
