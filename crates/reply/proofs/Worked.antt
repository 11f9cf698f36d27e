-- Texts and their replies by computation: a sheet that goes out, one that comes back, a refusal, a fault of a line and one of the strata. Assumes nothing.
use Prim.Native.String.{String}
use mathlib.Core.Path.{◌≡◌, refl}
use mathlib.Core.List.{[], ◌∷◌, map}
use Rattle.terms.specs.Numbers.{div_up, pad_to}
use Rattle.signed.specs.Errors.{overstated, understated, size_of, is_under, signed_of, most_size}
use Rattle.signed.specs.Parts.{parts, part_of}
use Rattle.pen.specs.Letters.{letters}
use Rattle.pen.specs.Text.{decimal, decimal_in, sized_text, signed_text}
use Rattle.workfile.specs.Decode.{fits, grow}
use Rattle.records.specs.Judging.{judged}
use Rattle.entry.specs.Text.{text_lines, blank, opens, fields_of}
use Rattle.entry.specs.Records.{number_from, number_of, numbers_from, is_own, is_kind, count_of, made_of, with_numbers, record_with, record_by, record_in}
use Rattle.entry.specs.declared.Wrong.TheVariants.{NumberMissing, NoStratum}
use Rattle.notation.specs.Contents.{says, faulty, broken_rule, taken_plan, taken_stratum, taken_record, taken_of, grown, read_lines, text_of}
use Rattle.divided.specs.Divided as strata
use Rattle.ledger.specs.Ledger.{ledger_with, running_total, running_from}
use Rattle.split.specs.Rounds.{rounds}
use Rattle.shares.specs.Shares.{shares_of}
use Rattle.start.specs.Start.{tried, first_from, start_of}
use Rattle.draw.specs.Points.{covers, points}
use Rattle.project.specs.Lines.{amount, lines_from, lines_of, total}
use Rattle.project.specs.Project.{checked_line, checked_from, checked_lines, projection_at}
use Rattle.strata.specs.Strata.{parts_of, books_of, row_of, rows_of, plan_from, checked_of, plan_of}
use Rattle.strata.specs.Starts.{starts_from, started_of}
use Rattle.starts.specs.Starts.{chosen_from, starts_of}
use Rattle.stratified.specs.Projection.{projected_from, project_strata_of, over_all, under_all}
use Rattle.sheet.specs.Lines.{items_text, ledger_text}
use Rattle.handout.specs.Lines.{strata_text, drawn_text, sums_text, any_error, answers_text}
use Rattle.handout.specs.Handout.{handout_of, handout_text}
use Rattle.reply.specs.Reply.{content_reply, reply_of}

pub worked : map (λ (s : String). reply_of (letters s))
    ("# two programmes\nN 3\n\nW 63\nW 25\nW 39\nS\nL 30\nL 30\nS\nL 40\n" ∷ "N 3\nW 63\nW 25\nW 39\nS\nL 30\nL 30\nS\nL 40\nE 0 7\nU 2 10" ∷ "N 3\nW 63\nW 25\nS\nL 30\nL 30\nS\nL 40\n"
    ∷ "N 3\nL 30\nS\nL" ∷ "N 3\nL 30\nS\nL 40" ∷ [])
    ≡ says (letters "plan 3 2 100\nstratum 0 2 60 2 30 2 60 0 0 25 2\nstratum 1 1 40 1 40 1 40 0 0 39 1\ndrawn 0 30 0 0\ndrawn 1 30 0 0\ndrawn 2 40 0 0\n")
    ∷ says (letters "plan 3 2 100\nstratum 0 2 60 2 30 2 60 0 0 25 2\nstratum 1 1 40 1 40 1 40 0 0 39 1\ndrawn 0 30 7 7\ndrawn 1 30 0 0\ndrawn 2 40 -10 -10\nsums 0 0 7 0 0\nsums 1 0 0 0 10\nall 7 10 -3\n")
    ∷ says (letters "refused 12 2\n") ∷ faulty NumberMissing 4 ∷ faulty NoStratum 2 ∷ []
unfolding reply_of content_reply strata.divided_of strata.ordered_from strata.order_of strata.counts_of strata.lines_before strata.parts_of text_of read_lines text_lines record_in record_by record_with fields_of opens blank is_own is_kind count_of made_of with_numbers numbers_from number_of number_from taken_of taken_plan taken_stratum taken_record broken_rule grown judged fits grow signed_of most_size handout_text handout_of answers_text strata_text drawn_text sums_text any_error plan_of checked_of plan_from rows_of row_of books_of parts_of shares_of rounds ledger_with running_total running_from starts_of chosen_from start_of tried first_from project_strata_of started_of starts_from projected_from over_all under_all projection_at checked_lines checked_from checked_line lines_of lines_from total covers points amount div_up pad_to parts part_of overstated understated size_of is_under ledger_text items_text decimal decimal_in sized_text signed_text
worked = refl
