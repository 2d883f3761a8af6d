-- `root::nearest::whole_root` meets its contract: r is always the whole root of the digits that came down, and in the end all of them did.
-- Assumes nothing.
use mathlib.Core.Path.{◌≡◌, ap, ◌∙◌}
use Prim.Native.Nat.{ℕ, ◌+◌, ◌*◌, ◌/◌, ◌^◌, ◌≤◌, ◌<◌}
use native.Mathlib.Nat.{lt_of_lt_of_le, mul-lt-mul_of_pos_right, pow-suc}
use native.Mathlib.Numerals.{add-one}
use native.Mathlib.Omega.{arith}
use lib.Pow.{pow_pos, pow_mono}
use Rattle.root.specs.Digits.{whole_root}
use Rattle.root.proofs.WholeRoot.{one_whole, whole}
use Rattle.root.proofs.nearest.whole_root.Goals as goal
use Rattle.root.proofs.nearest.whole_root.Goals.{Joined-r-over, then-r-over, else-r-over}

quadrupled : (a i : ℕ) → a * 4 ^ (i + 1) ≡ 4 * (a * 4 ^ i)
quadrupled a i = rw (add-one, pow-suc) (omega arith)

doubled : (i : ℕ) → 2 ^ (i + 1) ≡ 2 * 2 ^ i
doubled i = rw (add-one, pow-suc) (omega arith)

-- With the new digit, be it 0 or 1, the square of r and what is over are again what came down.
came_down : (c : Joined-r-over) →
    let l = c.loop in
    let n = c.if-r-over in
    (n.r * n.r + n.over ≡ 4 * (l.r * l.r + l.over) + l.rest / 2 ^ 52) × (n.over ≤ 2 * n.r) × (n.r ≤ 2 * l.r + 1)
came_down c =
    elim c.if-r-over.branch [
      | then-r-over w ↦ (rw (w.r-is, w.over-is) (omega arith), omega arith, omega arith)
      | else-r-over w ↦ (rw (w.r-is, w.over-is) (omega arith), omega arith, omega arith)
    ]

pub loop-preserved : goal.loop-preserved
loop-preserved c =
    let l = c.loop in
    let n = came_down (goal.at.loop-preserved c).Joined-r-over in
    let places : c.if-r-over.r < 2 ^ (l.counter + 1) = omega (arith, doubled l.counter) in
    let upto : l.counter + 1 ≤ 54 = omega arith in
    record {
      digits = omega (arith, quadrupled c.args.a l.counter);
      most = n.1;
      left = omega arith;
      places = places;
      small = lt_of_lt_of_le places (pow_mono upto);
    }

pub returns : goal.returns
returns c =
    let l = c.loop in
    let a = c.args.a in
    let done : l.counter ≡ 54 = omega arith in
    let all : (l.r * l.r + l.over) * 2 ^ 54 + l.rest ≡ a * 4 ^ 54 = l.invariant.digits ∙ ap (λ (i : ℕ). a * 4 ^ i) done in
    one_whole (a * 2 ^ 54) l.r (whole_root 54 (a * 2 ^ 54))
    (record { low = omega arith; high = omega arith })
    (whole 54 (a * 2 ^ 54) (mul-lt-mul_of_pos_right c.requires (pow_pos 54)))
