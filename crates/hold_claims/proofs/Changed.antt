-- A line counts for its own crew alone: where two years differ in the lines of one crew, every other has the same holds in both.
-- Assumes nothing.
use Prim.Native.Nat.{ℕ}
use mathlib.Core.Path.{◌≡◌, refl, sym, ap, ◌∙◌}
use mathlib.Core.Logic.{◌≢◌}
use mathlib.Core.Bool.{cond}
use mathlib.Core.List.{List, ◌∷◌}
use lib.Dec.{eqb}
use borrow.Author.Tests.{ne_eqb}
use Rattle.hold_lines.specs.Text.{Held}
use Rattle.hold_figures.specs.Crews.{holds_of}
use Rattle.hold_claims.specs.Claims.{SameBut, BothEnd, BothHave, OneHas, OtherHas}

-- A line of another crew is passed over.
passed_over : (crew changed : ℕ) → crew ≢ changed → (h : Held) (hs : List Held) → h.crew ≡ changed →
    holds_of crew (h ∷ hs) ≡ holds_of crew hs
unfolding holds_of
passed_over crew changed other h hs own = rw (ne_eqb h.crew crew (λ same. other (sym same ∙ own)))

pub others_same : (crew changed : ℕ) → crew ≢ changed → (hs others : List Held) → SameBut changed hs others →
    holds_of crew hs ≡ holds_of crew others
unfolding holds_of
others_same crew changed other _ _ BothEnd = refl
others_same crew changed other _ _ (BothHave h hs others same) =
    ap (λ zs. cond (eqb h.crew crew) (h.hold ∷ zs) zs) (others_same crew changed other hs others same)
others_same crew changed other _ _ (OneHas h hs others own same) =
    passed_over crew changed other h hs own ∙ others_same crew changed other hs others same
others_same crew changed other _ _ (OtherHas h hs others own same) =
    others_same crew changed other hs others same ∙ sym (passed_over crew changed other h others own)
