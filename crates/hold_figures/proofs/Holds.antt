-- A line more: what it adds to the holds of its crew, to their total and to the largest, and that it leaves the other crews.
-- Assumes nothing.
use Rattle.std.proofs.Common.{◌≡◌, ℕ, suc, ◌≤◌, Bool, true, false, cond, eqb, List, [], ◌∷◌, ◌++◌, length, ℤ, ◌+ℤ◌, sym, refl, ap, ◌∙◌, subst, arith, eq-eqb, ne_eqb, eqb-true}
use borrow.Author.Tests.{eqb-false}
use lib.IntN.{+ℤ_idl, +ℤ_idr, +ℤ_assoc}
use lib.Signed.{lt_z}
use Rattle.hold_lines.specs.Text.{Held}
use Rattle.hold_figures.specs.Crews.{holds_of, total_of, largest_of, is_signed64}

pub holds_own : (hs : List Held) (h : Held) → holds_of h.crew (hs ++ (h ∷ [])) ≡ holds_of h.crew hs ++ (h.hold ∷ [])
unfolding holds_of
holds_own [] h = rw (eq-eqb h.crew h.crew refl)
holds_own (x ∷ hs) h = by (eqb x.crew h.crew) (holds_own hs h)
  where
    by : (t : Bool) → holds_of h.crew (hs ++ (h ∷ [])) ≡ holds_of h.crew hs ++ (h.hold ∷ []) →
        cond t (x.hold ∷ holds_of h.crew (hs ++ (h ∷ []))) (holds_of h.crew (hs ++ (h ∷ []))) ≡
        cond t (x.hold ∷ holds_of h.crew hs) (holds_of h.crew hs) ++ (h.hold ∷ [])
    by true e = ap (λ (zs : List ℤ). x.hold ∷ zs) e
    by false e = e

pub holds_other : (hs : List Held) (h : Held) (crew : ℕ) → ¬ (crew ≡ h.crew) → holds_of crew (hs ++ (h ∷ [])) ≡ holds_of crew hs
unfolding holds_of
holds_other [] h crew other = rw (ne_eqb h.crew crew (λ e. other (sym e)))
holds_other (x ∷ hs) h crew other =
    ap (λ (zs : List ℤ). cond (eqb x.crew crew) (x.hold ∷ zs) zs) (holds_other hs h crew other)

-- A crew has no more rounds than there are lines.
pub holds_few : (crew : ℕ) (hs : List Held) → length (holds_of crew hs) ≤ length hs
unfolding holds_of
holds_few crew [] = omega arith
holds_few crew (h ∷ hs) = by (eqb h.crew crew) (holds_few crew hs)
  where
    by : (t : Bool) → length (holds_of crew hs) ≤ length hs →
        length (cond t (h.hold ∷ holds_of crew hs) (holds_of crew hs)) ≤ suc (length hs)
    by true e = omega arith
    by false e = omega arith

pub total_more : (zs : List ℤ) (z : ℤ) → total_of (zs ++ (z ∷ [])) ≡ total_of zs +ℤ z
unfolding total_of
total_more [] z = +ℤ_idr z ∙ sym (+ℤ_idl z)
total_more (y ∷ zs) z = ap (λ (t : ℤ). y +ℤ t) (total_more zs z) ∙ sym (+ℤ_assoc y (total_of zs) z)

pub largest_more : (y : ℤ) (zs : List ℤ) (z : ℤ) →
    largest_of y (zs ++ (z ∷ [])) ≡ cond (lt_z (largest_of y zs) z) z (largest_of y zs)
unfolding largest_of
largest_more y [] z = refl
largest_more y (x ∷ zs) z = largest_more (cond (lt_z y x) x y) zs z

-- ---- Lines whose holds and totals are signed numbers of 64 bits.

abbrev pub AllSigned : List ℤ → Type 0
AllSigned [] = Unit {0}
AllSigned (z ∷ zs) = (is_signed64 z ≡ true) × AllSigned zs

signed_more : (zs : List ℤ) (z : ℤ) → AllSigned zs → is_signed64 z ≡ true → AllSigned (zs ++ (z ∷ []))
signed_more [] z all e = (e, tt)
signed_more (y ∷ zs) z (first, all) e = (first, signed_more zs z all e)

pub largest_signed : (z : ℤ) (zs : List ℤ) → is_signed64 z ≡ true → AllSigned zs → is_signed64 (largest_of z zs) ≡ true
unfolding largest_of
largest_signed z [] e all = e
largest_signed z (y ∷ ys) e (first, all) = largest_signed (cond (lt_z z y) y z) ys (by (lt_z z y)) all
  where
    by : (t : Bool) → is_signed64 (cond t y z) ≡ true
    by true = first
    by false = e

-- What is known of the lines of a year, as far as it is not refused.
pub record Sound (hs : List Held) : Type 0 where
  pub totals : (crew : ℕ) → is_signed64 (total_of (holds_of crew hs)) ≡ true
  pub holds : (crew : ℕ) → AllSigned (holds_of crew hs)

pub sound_none : Sound []
unfolding holds_of total_of is_signed64
sound_none = record { totals = λ crew. refl; holds = λ crew. tt }

-- A line more changes its own crew's total and holds alone.
pub sound_more : (hs : List Held) (h : Held) → Sound hs → is_signed64 h.hold ≡ true →
    is_signed64 (total_of (holds_of h.crew (hs ++ (h ∷ [])))) ≡ true → Sound (hs ++ (h ∷ []))
sound_more hs h s signed total = record { totals = λ crew. (at crew).0; holds = λ crew. (at crew).1 }
  where
    Fine : List ℤ → Type 0
    Fine zs = (is_signed64 (total_of zs) ≡ true) × AllSigned zs

    own : Fine (holds_of h.crew (hs ++ (h ∷ [])))
    own =
        (total, subst AllSigned (sym (holds_own hs h)) (signed_more (holds_of h.crew hs) h.hold (s.holds h.crew) signed))

    by : (crew : ℕ) (t : Bool) → eqb crew h.crew ≡ t → Fine (holds_of crew (hs ++ (h ∷ [])))
    by crew true e = subst (λ (c : ℕ). Fine (holds_of c (hs ++ (h ∷ [])))) (sym (eqb-true crew h.crew e)) own
    by crew false e =
        subst Fine (sym (holds_other hs h crew (eqb-false crew h.crew e))) (s.totals crew, s.holds crew)

    at : (crew : ℕ) → Fine (holds_of crew (hs ++ (h ∷ [])))
    at crew = by crew (eqb crew h.crew) refl
