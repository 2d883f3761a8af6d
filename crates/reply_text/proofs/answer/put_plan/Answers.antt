-- `reply_text::answer::put_plan` meets its contract: the counts are the words of the first row, and the paths end where it says.
-- Assumes nothing.
use Rattle.texts.proofs.Putting.{put_both}
use Rattle.reply_text.proofs.Rows.{plan_known}
use Rattle.reply_text.proofs.answer.put_plan.Goals as goal

pub returns : goal.returns
returns c =
    let end = c.rows_end-end in
    let sweeps = c.word_at-3 in
    let times = c.word_at-2 in
    let hints = c.word_at in
    let many = c.word_at-many in
    let a = c.args in
    let known =
    plan_known a.paths.now a.actions.now hints.result times.result sweeps.result many.result end.result
    hints.ensures times.ensures sweeps.ensures many.ensures end.ensures
    in
    rw known (put_both c.put_ok-next.ensures c.put_paths.ensures)
