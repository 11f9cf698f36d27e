-- What it means that the promises of the public operations leave no freedom: any two results that meet one, refused or not, agree in the answer
-- and in each lent buffer. Each promise is the one that the operation's own contract cites. Definitions: nothing is assumed.
use Rattle.std.specs.Prelude.{ℕ, ◌≡◌, Bool, true, List, ℤ, Result}
use Rattle.terms.specs.Outcome.{says}
use Rattle.salvaging.specs.declared.Salvaged.{Salvaged}
use Rattle.judge.specs.declared.Judgement.{Judgement}
use Rattle.terms.specs.declared.Refusal.{Refusal}
use Rattle.terms.specs.Refusals.{tells}
use Rattle.factors.specs.Levels.{LevelPromise}
use Rattle.ledger.specs.Ledger.{LedgerPromise}
use Rattle.size.specs.Size.{SizePromise}
use Rattle.split.specs.Split.{SplitPromise, FiguresPromise}
use Rattle.split.specs.Start.{FiguresForPromise}
use Rattle.start.specs.Start.{StartPromise}
use Rattle.draw.specs.Draw.{DrawPromise}
use Rattle.project.specs.Project.{ProjectPromise}
use Rattle.lines.specs.Each.{LinesPromise}
use Rattle.blackboard.specs.Draw.{BoardDrawPromise}
use Rattle.blackboard.specs.Project.{BoardProjectPromise}
use Rattle.findings.specs.Findings.{PostPromise}
use Rattle.findings.specs.Batch.{PostAllPromise}
use Rattle.teams.specs.Teams.{TeamSplitPromise, TeamDrawPromise, TeamPostPromise, TeamPostAllPromise}
use Rattle.totals.specs.Summary.{BuildPromise, TotalPromise}
use Rattle.totals.specs.Lookup.{FindPromise}
use Rattle.totals.specs.Comparison.{CheckPromise}
use Rattle.upkeep.specs.Upkeep.{ChangePromise, AppendPromise}
use Rattle.judge.specs.Judge.{JudgePromise}
use Rattle.season.specs.declared.Tally.{Tally}
use Rattle.season.specs.Tally.{Entry, no_tally}
use Rattle.season.specs.Add.{entry_of, add_of, AddPromise}
use Rattle.attributes.specs.Attributes.{ItemsPromise, BoundPromise}
use Rattle.confidence.specs.Confidence.{statement_text}
use Rattle.confidence.specs.Line.{LinePromise}
use Rattle.filing.specs.Filing.{files_of}
use Rattle.overview.specs.Overview.{overview_text}
use Rattle.strata.specs.declared.Row.{Row}
use Rattle.strata.specs.Strata.{plan_of, PlanPromise}
use Rattle.strata.specs.Starts.{started_of}
use Rattle.stratified.specs.Marks.{DrawStrataPromise}
use Rattle.stratified.specs.Projection.{project_strata_of, ProjectStrataPromise}
use Rattle.steps.specs.Steps.{StepsPromise}
use Rattle.workfile.specs.declared.Plan.{Plan}
use Rattle.workfile.specs.Promises.{ReadPromise, WritePromise}
use Rattle.roundtrip.specs.RoundTrip.{WriteThenRead, ReadThenWrite}
use Rattle.pen.specs.Page.{Printed}
use Rattle.salvaging.specs.Salvage.{SalvagePromise}
use Rattle.report.specs.Report.{report_text}
use Rattle.sheet.specs.Sheet.{desk_text, SheetPromise}
use Rattle.entry.specs.declared.Notation.{Notation}
use Rattle.notation.specs.declared.Fault.{Fault}
use Rattle.notation.specs.Parse.{ParsePromise}
use Rattle.faults.specs.Faults.{fault_text}
use Rattle.divided.specs.Divided.{divided_of, stored_in}
use Rattle.starts.specs.Starts.{starts_of, StartsPromise}
use Rattle.reply.specs.Reply.{reply_of, ReplyPromise}
use Rattle.results.specs.Seen.{Sees, Shows}
use Rattle.results.specs.Results.{size_seen, split_seen, start_seen, draw_seen, project_seen, judge_seen, read_seen, write_seen, sheet_seen}
use Rattle.results.specs.Walked.{board_project_seen}
use Rattle.results.specs.Control.{items_seen, bound_seen}
use Rattle.results.specs.Findings.{post_seen}
use Rattle.results.specs.Salvage.{salvage_seen}
use Rattle.results.specs.Season.{entry_from, tally_seen}
use Rattle.results.specs.Totals.{totals_build_seen, totals_total_seen, totals_find_seen, totals_change_seen, totals_append_seen, totals_check_seen}
use Rattle.results.specs.Strata.{strata_plan_seen, strata_draw_seen, strata_project_seen}

-- any two results that meet it agree: an answer alone, and an answer with what is left in the lent buffers
abbrev pub One : {R : Type 0} → (R → Type 0) → Type 0
One {R} Meets = (r s : R) → Meets r → Meets s → r ≡ s

abbrev pub OneWith : {R B : Type 0} → (R → B → Type 0) → Type 0
OneWith {R} {B} Meets = (r s : R) (b c : B) → Meets r b → Meets s c → (r ≡ s) × (b ≡ c)

-- words, values and errors
abbrev pub Three : Type 0
Three = List ℕ × List ℕ × List ℤ

-- room and summary
abbrev pub Two : Type 0
Two = List ℕ × List ℕ

-- for every input of every public operation
pub record NoFreedom : Type 0 where
  pub tell : (refusal : Refusal) → One (λ r. r ≡ tells refusal)
  pub level : (percent : ℕ) → One (LevelPromise percent)
  pub ledger : (ledger : List ℕ) (beside : ℕ) → One (LedgerPromise ledger beside)
  pub size : (percent total te ae : ℕ) → One (SizePromise percent total te ae)
  pub split : (ledger : List ℕ) (n : ℕ) (marks : List ℕ) → OneWith (SplitPromise ledger n marks)
  pub figures : (ledger : List ℕ) (n beside : ℕ) → One (FiguresPromise ledger n beside)
  pub figures_for : (ledger : List ℕ) (n start beside : ℕ) → One (FiguresForPromise ledger n start beside)
  pub start : (J : ℕ) (words : List ℕ) → One (StartPromise J words)
  pub draw : (ledger : List ℕ) (n start : ℕ) (marks : List ℕ) → OneWith (DrawPromise ledger n start marks)
  pub project : (ledger : List ℕ) (n start : ℕ) (errors : List ℤ) → One (ProjectPromise ledger n start errors)
  pub project_lines : (ledger : List ℕ) (n start : ℕ) (errors amounts : List ℤ) → OneWith (LinesPromise ledger n start errors amounts)
  -- the blackboard method
  pub board_draw : (ledger : List ℕ) (n start : ℕ) (marks : List ℕ) → OneWith (BoardDrawPromise ledger n start marks)
  pub board_project : (ledger : List ℕ) (n start : ℕ) (errors : List ℤ) → One (BoardProjectPromise ledger n start errors)
  pub judge : (percent : ℕ) (ledger : List ℕ) (n start : ℕ) (errors : List ℤ) (te : ℕ) → One (JudgePromise percent ledger n start errors te)
  pub steps : (plan : Plan) (words ledger : List ℕ) (errors : List ℤ) → One (StepsPromise plan words ledger errors)
  -- the ledger by strata; what the others start from too
  pub strata_plan : (ledger counts : List ℕ) (n : ℕ) (same : Bool) → One (PlanPromise (plan_of ledger counts n same))
  pub strata_started : (ledger counts : List ℕ) (n : ℕ) (starts : List ℕ) (beside : ℕ) → One (PlanPromise (started_of ledger counts n starts beside))
  pub strata_draw : (ledger counts : List ℕ) (n : ℕ) (starts marks : List ℕ) → OneWith (DrawStrataPromise ledger counts n starts marks)
  pub strata_project : (ledger counts : List ℕ) (n : ℕ) (starts : List ℕ) (errors : List ℤ) → One (ProjectStrataPromise (project_strata_of ledger counts n starts errors))
  -- the tally of a season: whatever tally and entry are handed in
  pub tally_entry : (level book : ℕ) (answer : Result Judgement Refusal) → One (λ r. r ≡ entry_of level book answer)
  pub tally_none : One (λ r. r ≡ no_tally)
  pub tally_add : (tally : Tally) (entry : Entry) → One (AddPromise tally (add_of tally entry))
  pub tally_files : (files : List ℕ) → One (AddPromise no_tally (files_of files))
  pub overview : (files page : List ℕ) → OneWith (Printed (overview_text files) page)
  -- the attribute job aid
  pub attribute_size : (level tolerance : ℕ) → One (ItemsPromise level tolerance)
  pub attribute_bound : (level tolerance exceptions : ℕ) → One (BoundPromise level tolerance exceptions)
  pub statement : (level tolerance exceptions : ℕ) (page : List ℕ) → OneWith (Printed (statement_text level tolerance exceptions) page)
  pub answer_line : (text page : List ℕ) → OneWith (LinePromise text page)
  -- findings, singly and by the batch
  pub post : (ledger marks : List ℕ) (errors : List ℤ) (line : ℕ) (error : ℤ) → OneWith (PostPromise ledger marks errors line error)
  pub post_all : (ledger marks : List ℕ) (errors : List ℤ) (lines : List ℕ) (found : List ℤ) → OneWith (PostAllPromise ledger marks errors lines found)
  -- two teams on one ledger, and any byte for the team
  pub team_split : (team : ℕ) (ledger : List ℕ) (n : ℕ) (marks : List ℕ) → OneWith (TeamSplitPromise team ledger n marks)
  pub team_draw : (team : ℕ) (ledger : List ℕ) (n start : ℕ) (marks : List ℕ) → OneWith (TeamDrawPromise team ledger n start marks)
  pub team_post : (team : ℕ) (ledger marks : List ℕ) (errors : List ℤ) (line : ℕ) (error : ℤ) → OneWith (TeamPostPromise team ledger marks errors line error)
  pub team_post_all : (team : ℕ) (ledger marks : List ℕ) (errors : List ℤ) (lines : List ℕ) (found : List ℤ) → OneWith (TeamPostAllPromise team ledger marks errors lines found)
  -- totals beside the ledger
  pub totals_build : (room : List ℕ) (count : ℕ) (summary : List ℕ) → OneWith (BuildPromise room count summary)
  pub totals_total : (room : List ℕ) (count : ℕ) (summary : List ℕ) → One (TotalPromise room count summary)
  pub totals_find : (room : List ℕ) (count : ℕ) (summary : List ℕ) (cent : ℕ) → One (FindPromise room count summary cent)
  pub totals_change : (room : List ℕ) (count : ℕ) (summary : List ℕ) (line value : ℕ)
      → OneWith (λ r (b : Two). ChangePromise room count summary line value r b.0 b.1)
  pub totals_append : (room : List ℕ) (count : ℕ) (summary : List ℕ) (value : ℕ) → OneWith (λ r (b : Two). AppendPromise room count summary value r b.0 b.1)
  pub totals_check : (room : List ℕ) (count : ℕ) (summary : List ℕ) → One (CheckPromise room count summary)
  -- the working file, the salvage of one, its sheet, and the text
  pub read : (file words values : List ℕ) (errors : List ℤ) → OneWith (λ r (b : Three). ReadPromise file words values errors r b.0 b.1 b.2)
  pub write : (plan : Plan) (words values : List ℕ) (errors : List ℤ) (file : List ℕ) → OneWith (WritePromise plan words values errors file)
  pub write_then_read : (plan : Plan) (words values : List ℕ) (errors : List ℤ) (file words-before values-before : List ℕ) (errors-before : List ℤ)
      → OneWith (λ r (b : List ℕ × Three). WriteThenRead plan words values errors file words-before values-before errors-before r b.0 b.1.0 b.1.1 b.1.2)
  pub read_then_write : (file again : List ℕ) → OneWith (ReadThenWrite file again)
  pub salvage : (file out : List ℕ) → OneWith (SalvagePromise file out)
  pub salvage_report : (answer : Result Salvaged Refusal) (page : List ℕ) → OneWith (Printed (report_text (says answer)) page)
  pub sheet : (input page : List ℕ) → OneWith (Printed (desk_text input) page)
  pub sheet_in : (input page : List ℕ) → OneWith (SheetPromise input page)
  pub parse : (by : Notation) (text words values : List ℕ) (errors : List ℤ) → OneWith (λ r (b : Three). ParsePromise by text words values errors r b.0 b.1 b.2)
  pub print_fault : (by : Notation) (fault : Fault) (page : List ℕ) → OneWith (Printed (fault_text by fault) page)
  pub divide : (text : List ℕ) → One (λ r. r ≡ stored_in (divided_of text))
  pub starts : (rows : List Row) (words : List ℕ) → One (StartsPromise (starts_of rows words))
  pub reply : (text page : List ℕ) → OneWith (ReplyPromise (reply_of text) page)
  -- the exports
  pub mus_size : (percent total te ae : ℕ) → One (Sees size_seen (SizePromise percent total te ae))
  pub mus_split : (ledger : List ℕ) (n : ℕ) (marks : List ℕ) → OneWith (λ r b. Sees split_seen (λ a. SplitPromise ledger n marks a b) r)
  pub mus_start : (J : ℕ) (words : List ℕ) → One (Sees start_seen (StartPromise J words))
  pub mus_draw : (ledger : List ℕ) (n start : ℕ) (marks : List ℕ) → OneWith (λ r b. Sees draw_seen (λ a. DrawPromise ledger n start marks a b) r)
  pub mus_project : (ledger : List ℕ) (n start : ℕ) (errors : List ℤ) → One (Sees project_seen (ProjectPromise ledger n start errors))
  pub mus_project_lines : (ledger : List ℕ) (n start : ℕ) (errors amounts : List ℤ)
      → OneWith (λ r b. Sees project_seen (λ a. LinesPromise ledger n start errors amounts a b) r)
  pub mus_board_draw : (ledger : List ℕ) (n start : ℕ) (marks : List ℕ) → OneWith (λ r b. Sees draw_seen (λ a. BoardDrawPromise ledger n start marks a b) r)
  pub mus_board_project : (ledger : List ℕ) (n start : ℕ) (errors : List ℤ) → One (Sees board_project_seen (BoardProjectPromise ledger n start errors))
  pub mus_judge : (percent : ℕ) (ledger : List ℕ) (n start : ℕ) (errors : List ℤ) (te : ℕ)
      → One (Sees judge_seen (JudgePromise percent ledger n start errors te))
  pub mus_strata_plan : (ledger counts : List ℕ) (n : ℕ) → One (Sees strata_plan_seen (PlanPromise (plan_of ledger counts n true)))
  pub mus_strata_draw : (ledger counts : List ℕ) (n : ℕ) (starts marks : List ℕ)
      → OneWith (λ r b. Sees strata_draw_seen (λ a. DrawStrataPromise ledger counts n starts marks a b) r)
  pub mus_strata_project : (ledger counts : List ℕ) (n : ℕ) (starts : List ℕ) (errors : List ℤ)
      → One (Sees strata_project_seen (ProjectStrataPromise (project_strata_of ledger counts n starts errors)))
  pub mus_tally_none : One (λ r. r ≡ no_tally)
  pub mus_tally_add : (tally : Tally) (level book limit verdict : ℕ)
      → One (Shows tally_seen (AddPromise tally (add_of tally (entry_from level book limit verdict))))
  pub mus_attribute_size : (level tolerance : ℕ) → One (Sees items_seen (ItemsPromise level tolerance))
  pub mus_attribute_bound : (level tolerance exceptions : ℕ) → One (Sees bound_seen (BoundPromise level tolerance exceptions))
  pub mus_post : (ledger marks : List ℕ) (errors : List ℤ) (line : ℕ) (error : ℤ)
      → OneWith (λ r b. Sees post_seen (λ a. PostPromise ledger marks errors line error a b) r)
  pub mus_post_all : (ledger marks : List ℕ) (errors : List ℤ) (lines : List ℕ) (found : List ℤ)
      → OneWith (λ r b. Sees post_seen (λ a. PostAllPromise ledger marks errors lines found a b) r)
  pub mus_team_split : (team : ℕ) (ledger : List ℕ) (n : ℕ) (marks : List ℕ)
      → OneWith (λ r b. Sees split_seen (λ a. TeamSplitPromise team ledger n marks a b) r)
  pub mus_team_draw : (team : ℕ) (ledger : List ℕ) (n start : ℕ) (marks : List ℕ)
      → OneWith (λ r b. Sees draw_seen (λ a. TeamDrawPromise team ledger n start marks a b) r)
  pub mus_team_post : (team : ℕ) (ledger marks : List ℕ) (errors : List ℤ) (line : ℕ) (error : ℤ)
      → OneWith (λ r b. Sees post_seen (λ a. TeamPostPromise team ledger marks errors line error a b) r)
  pub mus_team_post_all : (team : ℕ) (ledger marks : List ℕ) (errors : List ℤ) (lines : List ℕ) (found : List ℤ)
      → OneWith (λ r b. Sees post_seen (λ a. TeamPostAllPromise team ledger marks errors lines found a b) r)
  pub mus_totals_build : (room : List ℕ) (count : ℕ) (summary : List ℕ) → OneWith (λ r b. Sees totals_build_seen (λ a. BuildPromise room count summary a b) r)
  pub mus_totals_total : (room : List ℕ) (count : ℕ) (summary : List ℕ) → One (Sees totals_total_seen (TotalPromise room count summary))
  pub mus_totals_find : (room : List ℕ) (count : ℕ) (summary : List ℕ) (cent : ℕ) → One (Sees totals_find_seen (FindPromise room count summary cent))
  pub mus_totals_change : (room : List ℕ) (count : ℕ) (summary : List ℕ) (line value : ℕ)
      → OneWith (λ r (b : Two). Sees totals_change_seen (λ a. ChangePromise room count summary line value a b.0 b.1) r)
  pub mus_totals_append : (room : List ℕ) (count : ℕ) (summary : List ℕ) (value : ℕ)
      → OneWith (λ r (b : Two). Sees totals_append_seen (λ a. AppendPromise room count summary value a b.0 b.1) r)
  pub mus_totals_check : (room : List ℕ) (count : ℕ) (summary : List ℕ) → One (Sees totals_check_seen (CheckPromise room count summary))
  pub mus_read : (file words values : List ℕ) (errors : List ℤ)
      → OneWith (λ r (b : Three). Sees read_seen (λ a. ReadPromise file words values errors a b.0 b.1 b.2) r)
  pub mus_write : (plan : Plan) (words values : List ℕ) (errors : List ℤ) (file : List ℕ)
      → OneWith (λ r b. Sees write_seen (λ a. WritePromise plan words values errors file a b) r)
  pub mus_salvage : (file out : List ℕ) → OneWith (λ r b. Sees salvage_seen (λ a. SalvagePromise file out a b) r)
  pub mus_sheet : (input page : List ℕ) → OneWith (λ r b. Sees sheet_seen (λ a. SheetPromise input page a b) r)
