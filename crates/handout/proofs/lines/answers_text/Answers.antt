-- The lines, one after the other, and no more bytes than they take at most. Assumes nothing.
use Rattle.handout.proofs.Composing.{shows_few, answers_written}
use Rattle.handout.proofs.lines.answers_text.Goals as goal

pub errors_text-requires : goal.errors_text-requires
errors_text-requires c = search shows_few

pub returns : goal.returns
returns c =
    let planned = c.plan_line-planned.ensures in
    let listed = c.strata_lines-listed.ensures in
    let closed = c.errors_text.ensures in
    let both = answers_written c.args.answers c.requires _ c.book_of.ensures (planned.wrote, planned.total_len_bound) (listed.wrote, listed.words_len_bound)
    c.drawn_lines-drawn.ensures (closed.wrote, closed.sums_len_bound) in
    record { wrote = both.0; answers_len_bound = both.1 }
