-- `root::nearest::square_root` meets its contract: by what the bits tell, each way out gives what `root_of` gives, which meets `IsRoot`.
-- Assumes nothing.
use mathlib.Core.Path.{◌≡◌, sym, ap, ◌∙◌, subst}
use Prim.Native.Nat.{ℕ, ◌%◌, ◌^◌, ◌<◌}
use native.Mathlib.Omega.{arith}
use borrow.Author.Tests.{le-ltb}
use lib.Dec.{T}
use lib.Ieee.{Float, binary64, fits, of_bits, to_bits}
use lib.Ieee.Bits.{of_bits-to_bits, nan_bits_above}
use lib.Ieee.Compare.{differs_from_itself}
use lib.Ieee.Positive.{positive}
use Rattle.floats.proofs.NotANumber.{self_known}
use Rattle.root.specs.Digits.{root_pattern}
use Rattle.root.specs.Root.{least_units, IsRoot, root_of, no_root}
use Rattle.root.proofs.Meets.{rooted, meets}
use Rattle.root.proofs.BitTests.{zero_rooted, minus_zero_rooted, refused, above_zero, above_rooted}
use Rattle.root.proofs.nearest.square_root.Goals as goal
use Rattle.root.proofs.nearest.square_root.Goals.{After-root_bits, Else-b-ge-INFINITY, Start}
use Rattle.std.specs.Prelude.{Result, Ok}
use Rattle.root.specs.declared.nearest.NoRoot.{NoRoot}

-- Every f64 is one that the format holds.
held : (c : Start) → T (fits binary64 c.args.x)
held c = subst T (sym c.well_formed.0.1) tt

-- What `root_of` gives meets `IsRoot`.
rounded : (c : Start) (r : Result Float NoRoot) → r ≡ root_of c.args.x → IsRoot c.args.x r
rounded c r e = subst (IsRoot c.args.x) (sym e) (meets c.args.x (held c))

pub returns-then-x : goal.returns-then-x
unfolding root_of
returns-then-x c =
    let e : no_root ≡ root_of c.args.x = rw (differs_from_itself c.args.x (subst T (sym c.if-x.true) tt)) in
    record { rounded = rounded (goal.at.returns-then-x c).Start no_root e; worked_out = e }

pub float_to_bits-b : goal.float_to_bits-b
float_to_bits-b c = self_known c.args.x c.if-x.false

pub returns-then-b-eq0 : goal.returns-then-b-eq0
returns-then-b-eq0 c =
    let s = (goal.at.returns-then-b-eq0 c).Start in
    let e = zero_rooted c.args.x (held s) (omega arith) in
    record { rounded = rounded s (Ok c.args.x) e; worked_out = e }

pub returns-then-b : goal.returns-then-b
returns-then-b c =
    let s = (goal.at.returns-then-b c).Start in
    let e = minus_zero_rooted c.args.x (held s) (omega arith) in
    record { rounded = rounded s (Ok c.args.x) e; worked_out = e }

pub returns-then-b-ge-INFINITY : goal.returns-then-b-ge-INFINITY
returns-then-b-ge-INFINITY c =
    let s = (goal.at.returns-then-b-ge-INFINITY c).Start in
    let e = refused c.args.x (held s) (omega arith) (λ n. omega arith) in
    record { rounded = rounded s no_root e; worked_out = e }

abbrev start : Else-b-ge-INFINITY → Start
start c = c.before.before.before.before

some : (c : Else-b-ge-INFINITY) → 0 < to_bits binary64 (start c).args.x
some c = omega arith

above : (c : Else-b-ge-INFINITY) → T (positive (start c).args.x)
above c = above_zero (start c).args.x (some c) (omega arith)

-- The bits that come back are those of the root of x.
bits_are : (c : After-root_bits) → c.root_bits.result ≡ root_pattern (least_units (start c.before).args.x)
bits_are c =
    c.root_bits.ensures
    ∙ ap (λ (x : Float). root_pattern (least_units x)) (of_bits-to_bits binary64 (start c.before).args.x (held (start c.before)))

pub float_from_bits-result : goal.float_from_bits-result
float_from_bits-result c =
    let x = (start (goal.at.float_from_bits-result c).Else-b-ge-INFINITY).args.x in
    let b = root_pattern (least_units x) in
    let finite = (rooted x (held (start (goal.at.float_from_bits-result c).Else-b-ge-INFINITY)) (above (goal.at.float_from_bits-result c).Else-b-ge-INFINITY)).finite in
    rw (bits_are (goal.at.float_from_bits-result c).After-root_bits, nan_bits_above binary64 b, le-ltb 0x7ff0_0000_0000_0000 (b % 2 ^ 63) (omega arith)) tt

pub returns : goal.returns
returns c =
    let s = start (goal.at.returns c).Else-b-ge-INFINITY in
    let r = Ok (of_bits binary64 c.root_bits.result) in
    let e : r ≡ root_of s.args.x =
    ap (λ (b : ℕ). Ok (of_bits binary64 b)) (bits_are (goal.at.returns c).After-root_bits) ∙ above_rooted s.args.x (above (goal.at.returns c).Else-b-ge-INFINITY) in
    record { rounded = rounded s r e; worked_out = e }
