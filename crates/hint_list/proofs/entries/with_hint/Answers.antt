-- `hint_list::entries::with_hint` meets its contract: the hint that is put in the next place is kept.
-- Assumes nothing.
use mathlib.Core.Path.{refl, sym, subst, ◌∙◌}
use native.Mathlib.Omega.{arith}
use lib.Dec.{T}
use lib.Ieee.{binary64, of_bits}
use lib.Ieee.Bits.{of_bits-to_bits}
use Rattle.number_words.proofs.Words.{signed_back}
use borrow.Author.Tests.{lt-leb}
use Rattle.hint_list.specs.Hints.{one_hint}
use Rattle.hint_list.specs.Words.{laid}
use Rattle.hint_list.specs.Adding.{Kept, filled_of, laid_by}
use Rattle.hint_list.proofs.entries.with_hint.Goals as goal
use Rattle.hint_list.proofs.entries.with_hint.Goals.{Start}

-- The numbers of a hint that is handed over are machine numbers.
kept : (c : Start) → Kept c.args.hint
kept c =
    let place = c.well_formed.1.1.0.1.1.0.1.1 in
    record {
      x = of_bits-to_bits binary64 c.args.hint.place.x (subst T (sym place.0.1) tt);
      y = of_bits-to_bits binary64 c.args.hint.place.y (subst T (sym place.1.0.1) tt);
      until = signed_back c.args.hint.until.0 (record { sfits = omega (arith, c.well_formed.1.1.0.1.1.1.0.1.1.0.1) });
    }

pub returns : goal.returns
unfolding one_hint filled_of laid_by laid of_bits
returns c =
    rw (sym c.is_placed.ensures ∙ c.if-not-is_placed.false, lt-leb _ _ c.if-n-ge64.false)
    (record { filled = refl; words = c.put_hint.ensures; kept = ((kept (goal.at.returns c).Start, tt), λ few. omega arith) })
