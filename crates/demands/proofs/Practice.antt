-- The practice sheet's cases marked *, as one statement over one list, by computation. Assumes nothing.
use mathlib.Core.Path.{refl}
use Rattle.terms.specs.Numbers.{div_up}
use Rattle.factors.specs.Levels.{level_of}
use Rattle.factors.specs.Factors.{rf, step_of}
use Rattle.factors.specs.Table.{table}
use Rattle.ledger.specs.Ledger as ledger
use Rattle.size.specs.Size.{size_at, size_of}
use Rattle.split.specs.Rounds.{rounds, intervals}
use Rattle.split.specs.Split.{split_of, figures_from, full_marks}
use Rattle.draw.specs.Points.{points, covers}
use Rattle.draw.specs.Row.{marks_from, draw_marks, ones}
use Rattle.split.specs.Start.{figures_for}
use Rattle.draw.specs.Draw.{draw_of}
use Rattle.signed.specs.Errors as signed
use Rattle.signed.specs.Parts.{part_of, parts}
use Rattle.project.specs.Lines.{amount, lines_from, lines_of, total, amounts_of}
use Rattle.project.specs.Project.{checked_line, checked_from, checked_lines, projection_at, project_of}
use Rattle.sorting.specs.Sorting.{sort_down}
use Rattle.precision.specs.Precision.{hundredths, round_up, precision_of}
use Rattle.judge.specs.Judge.{verdict_of, concluded, judged_with, judged_lines, judged_at, judged_figures, judged_ledger, judge_of}
use Rattle.demands.specs.Starts.{sum_below, entered}
use Rattle.demands.specs.Practice.{with_mark, found, practice, AllFound}

pub all_found : AllFound practice
unfolding practice found with_mark size_of size_at level_of rf table div_up split_of figures_from ledger.ledger_of ledger.running_total ledger.running_from rounds intervals full_marks sum_below entered draw_of figures_for draw_marks marks_from ones covers points project_of projection_at checked_lines checked_from checked_line lines_of lines_from total amounts_of amount judge_of judged_ledger judged_figures judged_at judged_lines judged_with concluded verdict_of precision_of hundredths round_up sort_down step_of parts part_of signed.overstated signed.understated signed.size_of
all_found = refl
