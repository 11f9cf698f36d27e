-- The loop that collects: what is kept follows from the amounts so far and the lines to come, and the walk stands beside them. Assumes nothing.
use Prim.Native.Nat.{ℕ, ◌+◌, ◌^◌, ◌≤◌, ◌<◌, zero-le}
use native.Mathlib.Omega.{arith}
use mathlib.Core.Path.{◌≡◌, refl, sym, ap, ◌∙◌, subst}
use mathlib.Core.Bool.{Bool, true, false}
use mathlib.Core.List.{List, [], ◌∷◌}
use lib.Dec.{ltb}
use lib.IntN.{ℤ, pos}
use lib.Signed.{mag}
use lib.ListN.{length, get_or, take, drop, drop_of_length-le}
use Rattle.terms.specs.Limits.{most_lines}
use Rattle.terms.specs.Numbers.{pick}
use Rattle.sorting.specs.Sorting.{Sorted}
use Rattle.signed.specs.declared.Part.TheVariants.{Overstated, Size}
use Rattle.signed.specs.Errors.{overstated}
use Rattle.signed.specs.Parts.{part_of, parts}
use Rattle.signed.proofs.Laws.{part_most, part_is_size, parts_at}
use Rattle.signed.proofs.Signs.{held, kept as read_back}
use Rattle.project.specs.declared.State.{State}
use Rattle.project.specs.declared.State.TheVariants.{NotDrawn, Drawn, Full}
use Rattle.project.specs.declared.Line.{Line}
use Rattle.project.specs.Lines.{count_part}
use Rattle.project.specs.Project.{lines_with}
use Rattle.project.specs.Gather.{kept_by, kept_from}
use Rattle.project.proofs.Lines.{lines_length}
use Rattle.project.proofs.Kept.{kept_length, kept_sorted}
use Rattle.blackboard.specs.declared.Walker.{Walker}
use Rattle.blackboard.specs.Steps.{mark_where, walker_at, walker_after}
use Rattle.blackboard.proofs.Standing.{Standing, standing_first, standing_on, standing_mark, standing_drawn}
use Rattle.boardjudge.specs.Marked.{marked_line, MarkFits, Walkable}
use Rattle.boardjudge.proofs.Marks.{line_on}

-- a line adds at most one
one_by : (b : Bool) → pick b 1 0 ≤ 1
one_by true = omega arith
one_by false = omega arith

one_most : (s : State) (e : ℕ) → count_part s e ≤ 1
one_most NotDrawn e = zero-le
one_most (Drawn a) e = one_by (ltb 0 e)
one_most Full e = zero-le

-- the overstatements
abbrev overs : ℕ → ℕ → List ℕ → List ℤ → List Line
overs J start ledger errors = lines_with Overstated J start ledger errors

pub record Collecting (J start : ℕ) (ledger : List ℕ) (errors : List ℤ) (before : List ℕ) (at : Walker) (m item : ℕ) (amounts : List ℕ) : Type 0 where
  pub given : Walkable J start ledger errors
  pub inside : item ≤ length ledger
  pub stands : Standing J start ledger item at
  pub few : m ≤ item
  pub kept : kept_from (drop item (overs J start ledger errors)) m amounts ≡ kept_from (overs J start ledger errors) 0 before
  pub same : length amounts ≡ length before
  pub fall : Sorted (take m amounts)

pub collecting_none : {J start : ℕ} {ledger : List ℕ} {errors : List ℤ} {before : List ℕ} {at : Walker} → Walkable J start ledger errors → at ≡ walker_at J ledger start →
    Collecting J start ledger errors before at 0 0 before
collecting_none {J} {start} {ledger} {at = at} given e =
    record {
      given = given;
      inside = zero-le;
      stands = standing_first J start ledger at given.given.board given.given.early e;
      few = zero-le;
      kept = refl;
      same = refl;
      fall = tt;
    }

module _ {J start : ℕ} {ledger : List ℕ} {errors : List ℤ} {before : List ℕ} {at : Walker} {m item : ℕ} {amounts : List ℕ} (by : Collecting J start ledger errors before at m item amounts) where
  pub collecting_end : length ledger ≤ item → amounts ≡ kept_from (overs J start ledger errors) 0 before
  unfolding kept_from
  collecting_end h =
      let past : length (overs J start ledger errors) ≤ item = omega (arith, lines_length J start ledger (parts Overstated errors)) in
      let none : drop item (overs J start ledger errors) ≡ [] = drop_of_length-le (overs J start ledger errors) past in
      ap (λ (ls : List Line). kept_from ls m amounts) (sym none) ∙ by.kept

  module _ (more : item < length ledger) {mark : ℕ} (marked : mark ≡ mark_where J (get_or ledger item 0) item at.stop) where
    abbrev value : ℕ
    value = get_or ledger item 0

    abbrev error : ℤ
    error = get_or errors item (pos 0)

    pub collecting_few : m < most_lines
    collecting_few = omega (arith, by.few, by.given.given.few)

    -- the error is read from its bits
    module _ {over : ℕ} (fits : mag error < 2 ^ 63) (told : over ≡ overstated (held error)) where
      own : over ≡ part_of Overstated error
      unfolding part_of
      own = told ∙ ap overstated (read_back error fits)

      pub collecting_fits : MarkFits J value over mark
      collecting_fits =
          record {
            narrow = by.given.given.board.narrow;
            within = omega (arith, own, part_most Overstated error, part_is_size error, parts_at Size errors item, by.given.within item more);
            some = λ e. standing_drawn J start ledger item at by.stands more (sym marked ∙ e);
          }

      pub collecting_more : {line : Line} {amounts' : List ℕ} {m' : ℕ} {at' : Walker} → line ≡ marked_line J value over mark →
          amounts' ≡ kept_by amounts m line.state line.error → m' ≡ m + count_part line.state line.error →
          at' ≡ walker_after J ledger at item → Collecting J start ledger errors before at' m' (item + 1) amounts'
      unfolding kept_from
      collecting_more {line} {amounts'} {m'} {at'} is keeps counts went =
          let later : List Line = drop (item + 1) (overs J start ledger errors) in
          let here : line ≡ marked_line J value (part_of Overstated error) mark = is ∙ ap (λ (e : ℕ). marked_line J value e mark) own in
          let on : drop item (overs J start ledger errors) ≡ line ∷ later =
          line_on Overstated J start ledger errors item more (standing_mark J start ledger item at by.stands more ∙ sym marked) ∙ ap (λ (l : Line). l ∷ later) (sym here) in
          record {
            given = by.given;
            inside = omega arith;
            stands = subst (Standing J start ledger (item + 1)) (sym went) (standing_on J start ledger item at by.stands more by.given.given.board);
            few = omega (arith, by.few, counts, one_most line.state line.error);
            kept = (λ i. kept_from later (counts i) (keeps i)) ∙ ap (λ (ls : List Line). kept_from ls m amounts) (sym on) ∙ by.kept;
            same = ap length keeps ∙ kept_length amounts m line.state line.error ∙ by.same;
            fall = subst (λ (l : List ℕ). Sorted (take m' l)) (sym keeps)
                (subst (λ (n : ℕ). Sorted (take n (kept_by amounts m line.state line.error))) (sym counts) (kept_sorted amounts m line.state line.error by.fall));
          }
