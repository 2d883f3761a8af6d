-- `hold_year::printing::print_refusal` meets its contract: the line is put into a room of zeros.
-- Assumes nothing.
use borrow.Author.Rules.{rules}
use mathlib.Core.Path.{◌≡◌}
use native.Mathlib.Omega.{arith}
use Prim.Native.Nat.{ℕ, ◌^◌, ◌<◌}
use lib.ListN.{length}
use Rattle.lent.specs.Outcome.{room_of}
use Rattle.texts.proofs.Telling.{put_in_zeros}
use Rattle.reply_lines.proofs.Sizes.{refused_short}
use Rattle.hold_year.proofs.printing.print_refusal.Goals as goal

pub returns : goal.returns
unfolding room_of
returns c =
    let number : ℕ = c.args.number in
    let word : number < 2 ^ 64 = search rules in
    let long : length c.args.out.now ≡ 5386 = search rules in
    let put =
    put_in_zeros (omega (arith, refused_short number word)) (rw (rw long at c.refuse.ensures.room) at c.put_refused.ensures)
    in record { value = put.0; out_after = put.1 }
