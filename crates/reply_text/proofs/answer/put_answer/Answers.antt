-- `reply_text::answer::put_answer` meets its contract: the lines of the plan are put and then handed over.
-- Assumes nothing.
use Rattle.texts.proofs.Telling.{telling}
use Rattle.reply_text.proofs.answer.put_answer.Goals as goal

pub returns-clause-tells : goal.returns-clause-tells
returns-clause-tells c = telling c.put_plan-end.ensures c.settle.ensures
