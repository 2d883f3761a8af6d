-- What is printed for Crossing follows from its stream as read and from its plan (RULES 16.11).
-- Assumes nothing.
use mathlib.Core.Path.{◌≡◌, refl, ap, ◌∙◌}
use mathlib.Core.List.{◌++◌}
use lib.Ieee
use Rattle.number_words.specs.Word.{signed_of}
use Rattle.plan_model.specs.Plan.{Plan, all_actions}
use Rattle.request_reader.specs.Table.{request_leg, starts_from, obstacle_numbers, points_of, table_of}
use Rattle.request_reader.specs.Asked.{request_plan, stream_plan}
use Rattle.request_format.specs.Crossing.{crossing_request, crossing_stream}
use Rattle.request_format.proofs.Crossing.{crosses}
use Rattle.texts.specs.Letters.{bytes_of}
use Rattle.texts.specs.Numerals.{glyph, decimal_by, decimal_of, signed_text, hex_by, hex_of, count_field, time_field, bits_field}
use Rattle.reply_lines.specs.Lines.{line, ok_line, path_line, move_line, wait_line, printed}
use Rattle.reply.specs.Text.{action_text, actions_text, path_text, paths_text, plan_reply, roomed, stream_reply, stream_text}
use Rattle.marked_examples.specs.Marked.{plan_with, crossing_plan}

-- The request asks for the plan of P10.
asked : request_plan crossing_request ≡ plan_with 4_096
unfolding request_plan crossing_request request_leg table_of starts_from obstacle_numbers points_of
asked = refl

planned : stream_plan crossing_stream ≡ plan_with 4_096
unfolding stream_plan
planned = rw crosses.reading asked

pub crossing_printed : plan_with 4_096 ≡ crossing_plan → stream_text crossing_stream ≡
    bytes_of "ok 1 1 1 1\n" ++
    (bytes_of "path 10000000000 1 2000000000\n" ++
    (bytes_of "move 4000000000 4010000000000000 0000000000000000\n" ++
    (bytes_of "wait 0 6000000000\n" ++ bytes_of "move 12000000000 4024000000000000 0000000000000000\n")))
unfolding stream_text printed stream_reply roomed plan_reply paths_text path_text actions_text action_text all_actions
    ok_line path_line move_line wait_line line count_field time_field bits_field
    decimal_of decimal_by signed_text signed_of hex_of hex_by glyph bytes_of Ieee.of_bits Ieee.to_bits
crossing_printed plan = ap (λ (p : Plan). printed (plan_reply (roomed p))) (planned ∙ plan)
