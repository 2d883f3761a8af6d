-- `reply_lines::line::put_ok` meets its contract: the word, the fields and the newline, one behind another.
-- Assumes nothing.
use Rattle.texts.specs.Letters.{bytes_of}
use Rattle.reply_lines.specs.Lines.{line, ok_line}
use Rattle.texts.proofs.Putting.{put_both}
use Rattle.reply_lines.proofs.line.put_ok.Goals as goal

pub returns : goal.returns
unfolding bytes_of line ok_line
returns c =
    let last = put_both c.put_count-at-3.ensures c.put_count-at-4.ensures in
    let fields = put_both c.put_count-at.ensures (put_both c.put_count-at-2.ensures last) in
    put_both c.put_word-at.ensures (put_both fields c.put_byte.ensures)
