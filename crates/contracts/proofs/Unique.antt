-- The promises leave no freedom: any two results that meet one agree. Assumes nothing.
use Prim.Native.Nat.{ℕ}
use mathlib.Core.Path.{sym, ap, ◌∙◌}
use mathlib.Core.List.{List}
use lib.IntN.{ℤ}
use Rattle.terms.proofs.Answers.{says_once}
use Rattle.size.specs.Size.{SizePromise}
use Rattle.split.specs.Split.{SplitPromise}
use Rattle.split.proofs.Once.{split_once}
use Rattle.start.specs.Start.{StartPromise}
use Rattle.draw.specs.Draw.{DrawPromise}
use Rattle.draw.proofs.Once.{draw_once}
use Rattle.project.specs.Project.{ProjectPromise}
use Rattle.lines.specs.Each.{LinesPromise}
use Rattle.judge.specs.Judge.{JudgePromise}
use Rattle.workfile.specs.declared.Plan.{Plan}
use Rattle.workfile.specs.Promises.{ReadPromise, WritePromise}
use Rattle.workfile.proofs.Promises.{read_once, write_once}
use Rattle.roundtrip.specs.RoundTrip.{WriteThenRead}
use Rattle.roundtrip.proofs.Trips.{write_read_once, read_write_once}
use Rattle.pen.proofs.Writing.{printed_once}
use Rattle.steps.proofs.Laws.{steps_once}
use Rattle.sheet.specs.Sheet.{SheetPromise}
use Rattle.sheet.proofs.OneText.{sheet_once}
use Rattle.salvaging.proofs.Laws.{salvage_once}
use Rattle.notation.proofs.Laws.{parsed_once}
use Rattle.reply.proofs.Laws.{reply_once}
use Rattle.season.proofs.Laws.{add_once}
use Rattle.attributes.proofs.Answers.{items_once, bound_once}
use Rattle.blackboard.proofs.Once.{board_draw_once, board_project_once}
use Rattle.findings.specs.Findings.{PostPromise}
use Rattle.findings.specs.Batch.{PostAllPromise}
use Rattle.findings.proofs.Answers.{post_once, post_all_once}
use Rattle.teams.proofs.Laws.{team_split_once, team_draw_once, team_post_once, team_post_all_once}
use Rattle.results.specs.Seen.{Shows}
use Rattle.contracts.specs.Unique.{One, OneWith, Three, NoFreedom}
use Rattle.contracts.proofs.Strata.{plan_once, starts_once, strata_draw_once, strata_project_once}
use Rattle.contracts.proofs.Totals.{builds_once, totals_once, finds_once, changes_once, appends_once, checks_once}

-- the operations that C has too
size_once : (percent total te ae : ℕ) → One (SizePromise percent total te ae)
size_once _ _ _ _ r s p q = says_once r s p.answer q.answer

splits_once : (ledger : List ℕ) (n : ℕ) (marks : List ℕ) → OneWith (SplitPromise ledger n marks)
splits_once _ _ _ _ _ _ _ p q = split_once p q

start_once : (J : ℕ) (words : List ℕ) → One (StartPromise J words)
start_once _ _ r s p q = says_once r s p.answer q.answer

draws_once : (ledger : List ℕ) (n start : ℕ) (marks : List ℕ) → OneWith (DrawPromise ledger n start marks)
draws_once _ _ _ _ _ _ _ _ p q = draw_once p q

project_once : (ledger : List ℕ) (n start : ℕ) (errors : List ℤ) → One (ProjectPromise ledger n start errors)
project_once _ _ _ _ r s p q = says_once r s p.answer q.answer

lines_once : (ledger : List ℕ) (n start : ℕ) (errors amounts : List ℤ) → OneWith (LinesPromise ledger n start errors amounts)
lines_once _ _ _ _ _ r s _ _ p q = (says_once r s p.answer q.answer, p.amounts_left ∙ sym q.amounts_left)

judge_once : (percent : ℕ) (ledger : List ℕ) (n start : ℕ) (errors : List ℤ) (te : ℕ) → One (JudgePromise percent ledger n start errors te)
judge_once _ _ _ _ _ _ r s p q = says_once r s p.answer q.answer

posts_once : (ledger marks : List ℕ) (errors : List ℤ) (line : ℕ) (error : ℤ) → OneWith (PostPromise ledger marks errors line error)
posts_once _ _ _ _ _ _ _ _ _ p q = post_once p q

batches_once : (ledger marks : List ℕ) (errors : List ℤ) (lines : List ℕ) (found : List ℤ) → OneWith (PostAllPromise ledger marks errors lines found)
batches_once _ _ _ _ _ _ _ _ _ p q = post_all_once p q

reads_once : (file words values : List ℕ) (errors : List ℤ) → OneWith (λ r (b : Three). ReadPromise file words values errors r b.0 b.1 b.2)
reads_once _ _ _ _ _ _ _ _ p q = let same = read_once p q in (same.0, λ i. (same.1 i, same.2 i, same.3 i))

writes_once : (plan : Plan) (words values : List ℕ) (errors : List ℤ) (file : List ℕ) → OneWith (WritePromise plan words values errors file)
writes_once _ _ _ _ _ _ _ _ _ p q = write_once p q

written_then_read_once : (plan : Plan) (words values : List ℕ) (errors : List ℤ) (file words-before values-before : List ℕ) (errors-before : List ℤ)
    → OneWith (λ r (b : List ℕ × Three). WriteThenRead plan words values errors file words-before values-before errors-before r b.0 b.1.0 b.1.1 b.1.2)
written_then_read_once _ _ _ _ _ _ _ _ _ _ _ _ p q = let same = write_read_once p q in (same.0, λ i. (same.1 i, (same.2 i, same.3 i, same.4 i)))

sheets_once : (input page : List ℕ) → OneWith (SheetPromise input page)
sheets_once _ _ _ _ _ _ p q = sheet_once p q

-- where a promise leaves one answer, it leaves one result for C
module _ {A R : Type 0} {shows : A → R} where
  sees : {Promise : A → Type 0} → One Promise → One (Shows shows Promise)
  sees one _ _ p q = p.shown ∙ ap shows (one _ _ p.promised q.promised) ∙ sym q.shown

  sees_with : {B : Type 0} {Promise : A → B → Type 0} → OneWith Promise → OneWith (λ r b. Shows shows (λ a. Promise a b) r)
  sees_with one _ _ b c p q =
      let same = one _ _ b c p.promised q.promised in
      (p.shown ∙ ap shows same.0 ∙ sym q.shown, same.1)

pub no_freedom : NoFreedom
no_freedom =
    record {
      tell = λ _ _ _ p q. p ∙ sym q;
      level = λ _ r s p q. says_once r s p.answer q.answer;
      ledger = λ _ _ r s p q. says_once r s p.answer q.answer;
      size = size_once;
      split = splits_once;
      figures = λ _ _ _ r s p q. says_once r s p.answer q.answer;
      figures_for = λ _ _ _ _ r s p q. says_once r s p.answer q.answer;
      start = start_once;
      draw = draws_once;
      project = project_once;
      project_lines = lines_once;
      board_draw = board_draw_once;
      board_project = board_project_once;
      judge = judge_once;
      steps = λ _ _ _ _ _ _ p q. steps_once p q;
      strata_plan = λ _ _ _ _. plan_once _;
      strata_started = λ _ _ _ _ _. plan_once _;
      strata_draw = strata_draw_once;
      strata_project = λ _ _ _ _ _. strata_project_once _;
      tally_entry = λ _ _ _ _ _ p q. p ∙ sym q;
      tally_none = λ _ _ p q. p ∙ sym q;
      tally_add = λ _ _ _ _ p q. add_once p q;
      tally_files = λ _ _ _ p q. add_once p q;
      overview = λ _ _ _ _ _ _ p q. printed_once p q;
      attribute_size = λ _ _ _ _ p q. items_once p q;
      attribute_bound = λ _ _ _ _ _ p q. bound_once p q;
      statement = λ _ _ _ _ _ _ _ _ p q. printed_once p q;
      answer_line = λ _ _ _ _ _ _ p q. (p.answer ∙ sym q.answer, p.page_left ∙ sym q.page_left);
      post = posts_once;
      post_all = batches_once;
      team_split = λ _ _ _ _ _ _ _ _ p q. team_split_once p q;
      team_draw = λ _ _ _ _ _ _ _ _ _ p q. team_draw_once p q;
      team_post = λ _ _ marks _ _ _ _ _ _ _ p q. team_post_once marks p q;
      team_post_all = λ _ _ marks _ _ _ _ _ _ _ p q. team_post_all_once marks p q;
      totals_build = builds_once;
      totals_total = totals_once;
      totals_find = finds_once;
      totals_change = changes_once;
      totals_append = appends_once;
      totals_check = checks_once;
      read = reads_once;
      write = writes_once;
      write_then_read = written_then_read_once;
      read_then_write = λ _ _ _ _ _ _ p q. read_write_once p q;
      salvage = λ _ _ _ _ _ _ p q. salvage_once p q;
      salvage_report = λ _ _ _ _ _ _ p q. printed_once p q;
      sheet = λ _ _ _ _ _ _ p q. printed_once p q;
      sheet_in = sheets_once;
      parse = λ _ _ _ _ _ _ _ _ _ p q. let same = parsed_once p q in (same.answers, λ i. (same.words i, same.values i, same.errors i));
      print_fault = λ _ _ _ _ _ _ _ p q. printed_once p q;
      divide = λ _ _ _ p q. p ∙ sym q;
      starts = λ _ _. starts_once _;
      reply = λ _ _ _ _ _ _ p q. reply_once p q;
      mus_size = λ percent total te ae. sees (size_once percent total te ae);
      mus_split = λ ledger n marks. sees_with (splits_once ledger n marks);
      mus_start = λ J words. sees (start_once J words);
      mus_draw = λ ledger n start marks. sees_with (draws_once ledger n start marks);
      mus_project = λ ledger n start errors. sees (project_once ledger n start errors);
      mus_project_lines = λ ledger n start errors amounts. sees_with (lines_once ledger n start errors amounts);
      mus_board_draw = λ ledger n start marks. sees_with (board_draw_once ledger n start marks);
      mus_board_project = λ ledger n start errors. sees (board_project_once ledger n start errors);
      mus_judge = λ percent ledger n start errors te. sees (judge_once percent ledger n start errors te);
      mus_strata_plan = λ _ _ _. sees (plan_once _);
      mus_strata_draw = λ ledger counts n starts marks. sees_with (strata_draw_once ledger counts n starts marks);
      mus_strata_project = λ _ _ _ _ _. sees (strata_project_once _);
      mus_tally_none = λ _ _ p q. p ∙ sym q;
      mus_tally_add = λ _ _ _ _ _. sees (λ _ _ p q. add_once p q);
      mus_attribute_size = λ _ _. sees (λ _ _ p q. items_once p q);
      mus_attribute_bound = λ _ _ _. sees (λ _ _ p q. bound_once p q);
      mus_post = λ ledger marks errors line error. sees_with (posts_once ledger marks errors line error);
      mus_post_all = λ ledger marks errors lines found. sees_with (batches_once ledger marks errors lines found);
      mus_team_split = λ _ _ _ _. sees_with (λ _ _ _ _ p q. team_split_once p q);
      mus_team_draw = λ _ _ _ _ _. sees_with (λ _ _ _ _ p q. team_draw_once p q);
      mus_team_post = λ _ _ marks _ _ _. sees_with (λ _ _ _ _ p q. team_post_once marks p q);
      mus_team_post_all = λ _ _ marks _ _ _. sees_with (λ _ _ _ _ p q. team_post_all_once marks p q);
      mus_totals_build = λ room count summary. sees_with (builds_once room count summary);
      mus_totals_total = λ room count summary. sees (totals_once room count summary);
      mus_totals_find = λ room count summary cent. sees (finds_once room count summary cent);
      mus_totals_change = λ room count summary line value. sees_with (changes_once room count summary line value);
      mus_totals_append = λ room count summary value. sees_with (appends_once room count summary value);
      mus_totals_check = λ room count summary. sees (checks_once room count summary);
      mus_read = λ file words values errors. sees_with (reads_once file words values errors);
      mus_write = λ plan words values errors file. sees_with (writes_once plan words values errors file);
      mus_salvage = λ _ _. sees_with (λ _ _ _ _ p q. salvage_once p q);
      mus_sheet = λ input page. sees_with (sheets_once input page);
    }
