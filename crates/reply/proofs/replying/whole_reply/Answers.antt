-- `reply::replying::whole_reply` meets its contract: a text that is told is what is printed, and a refusal's line is put into zeros.
-- Assumes nothing.
use borrow.Author.Rules.{rules}
use mathlib.Core.Path.{◌≡◌, sym, ◌∙◌}
use lib.ListN.{length}
use Rattle.lent.specs.Outcome.{Outcome}
use Rattle.reply_lines.proofs.Printed.{text_printed, line_printed}
use Rattle.reply.specs.Text.{stream_reply, stream_text}
use Rattle.reply.proofs.replying.whole_reply.Goals as goal

pub returns-in-Text : goal.returns-in-Text
unfolding stream_text
returns-in-Text c =
    let answer : Outcome = stream_reply c.args.s.now in
    let told = c.reply.ensures.tells in
    let long : length c.args.out.now ≡ 164517 = search rules in
    let text = text_printed answer 164517 _ (sym (rw long at told.told) ∙ c.in-Text.is) in
    record { count = text.0; room = (rw long at told.room) ∙ text.1 }

pub returns-in-Refused : goal.returns-in-Refused
unfolding stream_text
returns-in-Refused c =
    let answer : Outcome = stream_reply c.args.s.now in
    let told = c.reply.ensures.tells in
    let long : length c.args.out.now ≡ 164517 = search rules in
    let line =
    line_printed answer 164517 _ c.reply.ensures.few_bytes (sym (rw long at told.told) ∙ c.in-Refused.is)
    (rw (rw long at told.room) at c.put_refused.ensures) in
    record { count = line.0; room = line.1 }
