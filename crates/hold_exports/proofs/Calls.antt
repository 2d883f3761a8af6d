-- A year in a memory: a memory in which a call finds one is long enough.
-- Assumes nothing.
use Prim.Native.Nat.{ℕ, ◌≤◌}
use mathlib.Core.Path.{◌≡◌, refl}
use mathlib.Core.Bool.{Bool, true, false, cond, ◌&&◌}
use mathlib.Core.List.{List}
use borrow.Author.Tests.{leb-true}
use native.Mathlib.Omega.{arith}
use Rattle.std.proofs.Common.{Option, Some, None}
use lib.Dec.{eqb, leb}
use lib.ListN.{length, get_or}
use Rattle.texts.proofs.Telling.{tells_handed}
use Rattle.hold_year.specs.declared.year.Reading.{Reading}
use Rattle.hold_exports.specs.Memory.{place_in, kept_at, reading_in}

pub kept_long : (memory : List ℕ) (s : Reading) → reading_in memory ≡ Some s → 197 ≤ length memory
unfolding reading_in
kept_long memory s e = by (leb 197 (length memory)) refl (eqb (get_or memory 0 0) 1) e
  where
    found : Option Reading
    found = kept_at (place_in (get_or memory 2 0) (get_or memory 3 0) (get_or memory 4 0)) (get_or memory 1 0)

    by : (long : Bool) → leb 197 (length memory) ≡ long → (marked : Bool) → cond (long && marked) found None ≡ Some s →
        197 ≤ length memory
    by true l marked k = leb-true _ _ l
    by false l marked k = absurd (let z : ◌≡◌ {A = ℕ} 0 1 = cc in omega arith)

-- What a finish stands on.
pub ruleset finishing = (kept_long, tells_handed)
