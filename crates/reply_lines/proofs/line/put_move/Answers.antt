-- `reply_lines::line::put_move` meets its contract: the word, the fields and the newline, one behind another.
-- Assumes nothing.
use Rattle.texts.specs.Letters.{bytes_of}
use Rattle.reply_lines.specs.Lines.{line, move_line}
use Rattle.texts.proofs.Putting.{put_both}
use Rattle.reply_lines.proofs.line.put_move.Goals as goal

pub returns : goal.returns
unfolding bytes_of line move_line
returns c =
    let fields = put_both c.put_time-next.ensures (put_both c.put_bits-next.ensures c.put_bits-next-2.ensures) in
    put_both c.put_word-next.ensures (put_both fields c.put_byte.ensures)
