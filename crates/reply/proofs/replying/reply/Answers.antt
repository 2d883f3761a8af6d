-- `reply::replying::reply` meets its contract: a number that is not 0 is a refusal's, and else the text of the plan's rooms is the
-- plan's.
-- Assumes nothing.
use borrow.Author.Rules.{rules}
use borrow.Author.Tests.{eq-eqb, ne_eqb}
use Prim.Native.Nat.{ℕ, ◌^◌, ◌<◌}
use mathlib.Core.Path.{◌≡◌, refl, ◌∙◌}
use mathlib.Core.List.{List}
use native.Mathlib.Omega.{arith}
use lib.ListN.{length}
use Rattle.lent.specs.Outcome.{Gives, Refuses}
use Rattle.reply_lines.specs.Lines.{printed}
use Rattle.reply_lines.proofs.Sizes.{refused_short}
use Rattle.reply_text.specs.Answer.{plan_lines}
use Rattle.reply.specs.Text.{stream_reply, stream_text}
use Rattle.reply.proofs.Roomed.{told_stream}
use Rattle.reply.proofs.replying.reply.Goals as goal

pub returns-then-number-ne0 : goal.returns-then-number-ne0
unfolding stream_text printed
returns-then-number-ne0 c =
    let s : List ℕ = c.args.s.now in
    let number : ℕ = c.plan-number.result in
    let word : number < 2 ^ 64 = search rules in
    let answer : stream_reply s ≡ Refuses number =
    told_stream s refl refl c.plan-number.ensures ∙ rw (ne_eqb number 0 c.if-number-ne0.true) in
    record { tells = rw answer c.refuse.ensures; few_bytes = rw answer (omega (arith, refused_short number word)) }

pub returns : goal.returns
unfolding stream_text printed
returns c =
    let put = c.put_answer.ensures in
    let s : List ℕ = c.args.s.now in
    let number : ℕ = c.plan-number.result in
    let paths : List ℕ = c.plan-number.new.paths in
    let actions : List ℕ = c.plan-number.new.actions in
    let rows : length paths ≡ 1160 = c.plan-number.auto.paths in
    let more : length actions ≡ 6400 = c.plan-number.auto.actions in
    let answer : stream_reply s ≡ Gives (plan_lines paths actions) =
    told_stream s refl refl c.plan-number.ensures ∙ rw (eq-eqb number 0 c.if-number-ne0.false) in
    record { tells = rw answer put.tells; few_bytes = rw answer (omega (arith, put.actions_len_bound, rows, more)) }
