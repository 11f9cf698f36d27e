-- The line of a refusal, or the sheet of what is answered. Assumes nothing.
use mathlib.Core.Path.{sym}
use Rattle.handout.proofs.Printing.{refused_text, answers_shown, answers_printed}
use Rattle.handout.proofs.print_handout.Goals as goal

pub answers_text-requires : goal.answers_text-requires
answers_text-requires c = answers_shown _ _ _ _ _ c.in-Ok.ensures

pub returns-in-Err : goal.returns-in-Err
returns-in-Err c =
    let told = c.refused_line.ensures in
    let both = refused_text _ _ _ _ _ _ (sym c.in-Err.ensures) (told.wrote, told.why_len_bound) in
    record { wrote = both.0; errors_len_bound = both.1 }

pub returns-in-Ok : goal.returns-in-Ok
returns-in-Ok c =
    let told = c.answers_text.ensures in
    let both = answers_printed _ _ _ _ _ c.in-Ok.ensures (told.wrote, told.answers_len_bound) in
    record { wrote = both.0; errors_len_bound = both.1 }
