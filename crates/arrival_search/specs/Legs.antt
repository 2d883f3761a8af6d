-- What one leg's proximity to the place says to a candidate (RULES 12.7 to 12.9, 12.15).
-- Assumes nothing.
use Rattle.std.specs.Prelude.{cond, pos}
use Rattle.std.specs.Int.Signed.{lt_z}
use Rattle.times.specs.Time.{instant_after, later_of}
use Rattle.times.specs.declared.time.TimePoint.{TimePoint}
use Rattle.proximity.specs.declared.detect.Proximity.{Proximity}
use Rattle.proximity.specs.declared.detect.Proximity.TheVariants as P
use Rattle.std.specs.Prelude.{Result, Ok, Err}
use Rattle.times.specs.declared.time.Strayed.{Strayed}
use Rattle.refusals.specs.declared.Refusal.{Refusal}
use Rattle.std.specs.Prelude.{Option, Some, None}
use Rattle.refusals.specs.declared.Refusal.TheVariants as Refusals

-- Nothing, so that the next leg is asked; that the walk ends unviolated; a violation without an exit; one that is left at an
-- instant; or a refusal (RULES 12.7 to 12.9).
pub data Says : Type 0 where
  Pass : Says
  Clear : Says
  Held : Says
  Out : TimePoint → Says
  Refused : Refusal → Says

-- While not violated: no entry, so the next leg; an entry after the candidate ends the walk; else it is violated, and an exit
-- after the candidate is the result, one at or before it relieves it again (RULES 12.7).
unfoldable pub meets : TimePoint → Result Proximity Refusal → Says
meets c (Ok P.Never) = Pass
meets c (Ok (P.Enters enter)) = cond (lt_z c.0 enter.0) Clear Held
meets c (Ok (P.Passes enter exit)) = cond (lt_z c.0 enter.0) Clear (cond (lt_z c.0 exit.0) (Out exit) Pass)
meets c (Err why) = Refused why

-- The exit, and no instant before the candidate; 9 where it lies more than 10,000 ns before it (RULES 12.9).
abbrev pub left_at : TimePoint → TimePoint → Result TimePoint Strayed → Says
left_at c exit (Ok late) = cond (lt_z late.0 c.0) (Refused Refusals.Late) (Out (later_of exit c))
left_at c exit (Err _) = Refused Refusals.Strayed

-- While violated: the exit alone is read (RULES 12.8).
unfoldable pub relieved : TimePoint → Result Proximity Refusal → Says
relieved c (Ok P.Never) = Pass
relieved c (Ok (P.Enters enter)) = Pass
relieved c (Ok (P.Passes enter exit)) = left_at c exit (instant_after exit (record { 0 = pos 10_000 }))
relieved c (Err why) = Refused why

-- The exit, where it is strictly after the candidate (RULES 12.15).
unfoldable pub follows : TimePoint → Result Proximity Refusal → Result (Option TimePoint) Refusal
follows c (Ok P.Never) = Ok None
follows c (Ok (P.Enters enter)) = Ok None
follows c (Ok (P.Passes enter exit)) = cond (lt_z c.0 exit.0) (Ok (Some exit)) (Ok None)
follows c (Err why) = Err why

-- The smaller of an instant and the best so far (RULES 12.17).
unfoldable pub sooner : TimePoint → Result (Option TimePoint) Refusal → Result (Option TimePoint) Refusal
sooner t (Ok None) = Ok (Some t)
sooner t (Ok (Some best)) = cond (lt_z t.0 best.0) (Ok (Some t)) (Ok (Some best))
sooner t (Err why) = Err why
