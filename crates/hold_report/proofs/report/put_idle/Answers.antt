-- `hold_report::report::put_idle` meets its contract: the word, the fields and the newline, one behind another.
-- Assumes nothing.
use Rattle.texts.specs.Letters.{bytes_of}
use Rattle.reply_lines.specs.Lines.{line}
use Rattle.texts.proofs.Putting.{put_both}
use Rattle.hold_report.specs.Report.{idle_line}
use Rattle.hold_report.proofs.report.put_idle.Goals as goal

pub returns : goal.returns
unfolding bytes_of line idle_line
returns c =
    let zeros = put_both c.put_count-next-2.ensures c.put_count-next-3.ensures in
    put_both c.put_word-next.ensures (put_both (put_both c.put_count-next.ensures zeros) c.put_byte.ensures)
