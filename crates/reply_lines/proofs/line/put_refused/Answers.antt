-- `reply_lines::line::put_refused` meets its contract: the word, the fields and the newline, one behind another.
-- Assumes nothing.
use Rattle.texts.specs.Letters.{bytes_of}
use Rattle.reply_lines.specs.Lines.{line, refused_line}
use Rattle.texts.proofs.Putting.{put_both}
use Rattle.reply_lines.proofs.line.put_refused.Goals as goal

pub returns : goal.returns
unfolding bytes_of line refused_line
returns c =
    let fields = c.put_count-end.ensures in
    put_both c.put_word-at.ensures (put_both fields c.put_byte.ensures)
