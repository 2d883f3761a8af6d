-- `table_packing::packing::put_waypoints` meets its contract: at each turn, the table with the rest of the waypoints put is still the one with
-- them all, and the times so far are numbers of 64 bits.
-- Assumes nothing.
use mathlib.Core.Path.{◌≡◌, refl, sym, ◌∙◌}
use mathlib.Core.Bool.{Bool, true, false}
use mathlib.Core.List.{List}
use Prim.Native.Nat.{ℕ, ◌<◌}
use native.Mathlib.Omega.{arith}
use borrow.Author.Tests.{ltb-true, ltb-false}
use lib.Dec.{ltb}
use lib.IntN.{ℤ, pos}
use lib.ListN.{length, get_or-eq_default}
use Rattle.number_words.specs.Word.{signed_of}
use Rattle.table_packing.proofs.Stored.{put_done}
use Rattle.table_packing.proofs.packing.put_waypoints.Goals as goal
use Rattle.table_packing.proofs.packing.put_waypoints.Invariants.{time_at, place_at, IsWhole}

whole-past : (times : List ℤ) → ((j : ℕ) → j < length times → IsWhole times j) → (j : ℕ) → IsWhole times j
unfolding signed_of
whole-past times h j = by (ltb j (length times)) refl
  where
    by : (t : Bool) → ltb j (length times) ≡ t → IsWhole times j
    by true e = h j (ltb-true j (length times) e)
    by false e = rw (get_or-eq_default times (pos 0) {n = j} (ltb-false j (length times) e))

pub returns : goal.returns
returns c =
    let l = c.loop-i in
    let a = c.args in
    let times = a.times.now in
    let xs = a.xs.now in
    let ys = a.ys.now in
    record {
      marked = sym (put_done (time_at times xs ys) (length times) l.i l.marks c.loop-i-test.false) ∙ l.invariant.0;
      placed = sym (put_done (place_at times xs ys) (length times) l.i l.places c.loop-i-test.false) ∙ l.invariant.1;
      whole = whole-past times (λ j h. l.invariant.2 j (omega arith));
    }
