-- `hold_year::printing::print_finish` meets its contract: a text that is told is printed, and a refusal's line is put into zeros.
-- Assumes nothing.
use borrow.Author.Rules.{rules}
use Prim.Native.Nat.{ℕ, ◌^◌, ◌<◌}
use mathlib.Core.Path.{◌≡◌, sym, ◌∙◌}
use lib.ListN.{length}
use Rattle.lent.specs.Outcome.{Outcome}
use Rattle.reply_lines.proofs.Printed.{text_printed, line_printed}
use Rattle.hold_year.specs.Parts.{finished}
use Rattle.hold_year.specs.Printed.{fitted, finish_text}
use Rattle.hold_year.proofs.Printed.{told_fitted, room_fitted, refused_fits}
use Rattle.hold_year.proofs.printing.print_finish.Goals as goal

pub returns-in-Text : goal.returns-in-Text
unfolding finish_text
returns-in-Text c =
    let a = c.args in
    let answer : Outcome = finished a.reading a.figures.now in
    let long : length a.out.now ≡ 5386 = search rules in
    let told = rw long at c.finish.ensures.told in
    let room = rw long at c.finish.ensures.room in
    let text = text_printed (fitted 5386 answer) 5386 _ (sym (told_fitted answer 5386) ∙ sym told ∙ c.in-Text.is) in
    record { value = text.0; out_after = room ∙ room_fitted answer 5386 ∙ text.1 }

pub returns-in-Refused : goal.returns-in-Refused
unfolding finish_text
returns-in-Refused c =
    let a = c.args in
    let answer : Outcome = finished a.reading a.figures.now in
    let long : length a.out.now ≡ 5386 = search rules in
    let number : ℕ = c.in-Refused.n in
    let word : number < 2 ^ 64 = search rules in
    let refused = sym (rw long at c.finish.ensures.told) ∙ c.in-Refused.is in
    let room = (rw long at c.finish.ensures.room) ∙ room_fitted answer 5386 in
    let put =
    line_printed (fitted 5386 answer) 5386 number (refused_fits answer number word refused) (sym (told_fitted answer 5386) ∙ refused)
    (rw room at c.put_refused.ensures)
    in record { value = put.0; out_after = put.1 }
