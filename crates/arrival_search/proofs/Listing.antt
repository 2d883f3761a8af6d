-- A sequence of sweeps lists rising instants, each the time asked for, a leg's exit or an obstacle's finish (RULES D3b, D3c), and
-- no more of them than it has sweeps (RULES 12.14).
-- Assumes nothing.
use mathlib.Core.Path.{refl, ap}
use mathlib.Core.Logic.{inl, inr}
use mathlib.Core.List.{List, [], ◌∷◌, ◌++◌}
use Prim.Native.Nat.{ℕ, ◌+◌, ◌≤◌}
use native.Mathlib.Omega.{arith}
use lib.ListN.{length, length-append}
use lib.Signed.{◌<ℤ◌}
use Rattle.times.specs.declared.time.TimePoint.{TimePoint}
use Rattle.arrival_search.specs.Search.{View}
use Rattle.arrival_search.specs.Sweeps.{All, Rising, Source, Then, pushed, Gives, ends, lists, goes, lists_goes}
use Rattle.arrival_search.specs.Sweeps as Sweeps
use Rattle.arrival_search.proofs.Instants.{below_trans}
use Rattle.arrival_search.proofs.Lists.{all_map, all_end, rising_end}
use Rattle.arrival_search.proofs.Candidates.{then_later}

module _ {Leg : Type 0} (v : View Leg) (os : List (List Leg)) (asked : TimePoint) where
  -- The times listed (RULES D3b, D3c).
  pub record Listed (l : List TimePoint) : Type 0 where
    pub rising : Rising l
    pub sources : All (Source v os asked) l

  -- Before the sweep that begins at a.
  record Before (a : TimePoint) (l : List TimePoint) : Type 0 where
    listed : Listed l
    before : All (λ t. t.0 <ℤ a.0) l
    source : Source v os asked a

  with_this : {a : TimePoint} (l : List TimePoint) → Before a l → Listed (l ++ (a ∷ []))
  with_this {a} l b =
      record {
        rising = rising_end l a b.listed.rising b.before;
        sources = all_end (Source v os asked) l a b.listed.sources b.source;
      }

  before_later : {a b : TimePoint} (l : List TimePoint) → Then v os a b → All (λ t. t.0 <ℤ a.0) l → All (λ t. t.0 <ℤ b.0) l
  before_later {a} {b} l w =
      all_map (λ t. t.0 <ℤ a.0) (λ t. t.0 <ℤ b.0) (λ t h. below_trans h (then_later v os w).0) l

  given_listed : {a : TimePoint} {l r : List TimePoint} {n : ℕ} → Gives v os a l r n → Before a l → Listed r
  given_listed (ends s e) b = rw e at b.listed
  given_listed (lists {l} s f e) b = rw e at (with_this l b)
  given_listed (goes {l} s apart g) b =
      let w = pushed s apart in
      given_listed g
      (record { listed = b.listed; before = before_later l w b.before; source = inr (then_later v os w).1 })
  given_listed (lists_goes {a} {b = t} {l} s f g) b =
      let w = Sweeps.listed s f in
      given_listed g
      (record {
        listed = with_this l b;
        before = all_end (λ u. u.0 <ℤ t.0) l a (before_later l w b.before) (then_later v os w).0;
        source = inr (then_later v os w).1;
      })

  -- Whatever the sequence lists from the time asked for on (RULES D3b, D3c).
  pub gives_listed : {r : List TimePoint} {n : ℕ} → Gives v os asked [] r n → Listed r
  gives_listed g = given_listed g (record { listed = record { rising = tt; sources = tt }; before = tt; source = inl refl })

-- A sweep lists one time at most (RULES 12.14).
pub gives_fewer : {Leg : Type 0} {v : View Leg} {os : List (List Leg)} {a : TimePoint} {l r : List TimePoint} {n : ℕ} →
    Gives v os a l r n → length r ≤ length l + n
gives_fewer (ends s e) = let same = ap length e in omega arith
gives_fewer (lists {a} {l} s f e) = let same = ap length e in omega (arith, length-append l (a ∷ []))
gives_fewer (goes s apart g) = let fewer = gives_fewer g in omega arith
gives_fewer (lists_goes {a} {l} s f g) = let fewer = gives_fewer g in omega (arith, length-append l (a ∷ []))
