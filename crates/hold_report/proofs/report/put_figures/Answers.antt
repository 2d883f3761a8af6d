-- `hold_report::report::put_figures` meets its contract: the word, the fields and the newline, one behind another.
-- Assumes nothing.
use Rattle.texts.specs.Letters.{bytes_of}
use Rattle.reply_lines.specs.Lines.{line}
use Rattle.texts.proofs.Putting.{put_both}
use Rattle.hold_report.specs.Report.{figures_line}
use Rattle.hold_report.proofs.report.put_figures.Goals as goal

pub returns : goal.returns
unfolding bytes_of line figures_line
returns c =
    let last = put_both c.put_lowered-next-2.ensures c.put_mean-next.ensures in
    let fields =
    put_both c.put_count-next.ensures (put_both c.put_count-next-2.ensures (put_both c.put_lowered-next.ensures last))
    in
    put_both c.put_word-next.ensures (put_both fields c.put_byte.ensures)
