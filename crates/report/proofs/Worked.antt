-- The line with an old Z, without one, and of a refusal. Computed; assumes nothing.
use Rattle.std.specs.Prelude.{Some, None}
use mathlib.Core.Path.{◌≡◌, refl}
use Rattle.terms.specs.Outcome.{accepted, refused}
use Rattle.pen.specs.Letters.{letters}
use Rattle.pen.specs.Text.{decimal, decimal_in}
use Rattle.report.specs.Report.{named, kept_text, new_text, old_text, salvaged_text, report_text}

pub with_old : report_text (accepted (record { length = 53; kept = 3; dropped = 9; lines = 1; sum = 30; old = Some (record { count = 0; sum = 7 }) })) ≡ letters "kept 3 dropped 9 lines 1 sum 30 old 0 7\n"
unfolding report_text salvaged_text kept_text new_text old_text named decimal decimal_in
with_old = refl

pub without : report_text (accepted (record { length = 40; kept = 2; dropped = 4; lines = 1; sum = 30; old = None })) ≡ letters "kept 2 dropped 4 lines 1 sum 30\n"
unfolding report_text salvaged_text kept_text new_text old_text named decimal decimal_in
without = refl

pub of_refusal : report_text (refused 18 40) ≡ letters "refused 18 40\n"
unfolding report_text decimal decimal_in
of_refusal = refl
