-- `hold_report::report::put_report` meets its contract: the first line and those of the crews are put and then handed over.
-- Assumes nothing.
use Rattle.texts.specs.Letters.{bytes_of}
use Rattle.reply_lines.specs.Lines.{line}
use Rattle.texts.proofs.Putting.{put_both, put_within}
use Rattle.texts.proofs.Telling.{telling}
use Rattle.hold_report.specs.Told.{words_report}
use Rattle.hold_report.proofs.report.put_report.Goals as goal

pub put_crews-end-requires : goal.put_crews-end-requires
put_crews-end-requires c = put_within c.put_byte-end.ensures

pub returns : goal.returns
unfolding bytes_of line words_report
returns c =
    let first = put_both c.put_word-end.ensures (put_both c.put_count-end.ensures c.put_byte-end.ensures) in
    telling (put_both first c.put_crews-end.ensures) c.settle.ensures
