-- What a line projects, by its state; and the loop that writes: the amounts so far, with what the lines to come project, are what all lines project. Assumes nothing.
use Prim.Native.Nat.{ℕ, ◌+◌, ◌^◌, ◌≤◌, ◌<◌, max, zero-le}
use native.Mathlib.Nat.{add-zero}
use native.Mathlib.Numerals.{add-one}
use native.Mathlib.Omega.{arith}
use mathlib.Core.Path.{◌≡◌, refl, sym, ap, ◌∙◌}
use mathlib.Core.Bool.{Bool, true, false}
use mathlib.Core.List.{List, ◌∷◌, ◌++◌, append-nil}
use borrow.Author.Tests.{ltb-true}
use lib.Dec.{ltb}
use lib.IntN.{ℤ, pos}
use lib.Signed.{mag, lt_z}
use lib.ListN.{length, get_or, take, drop, set, length-set}
use lib.Seq.{take-suc-set, take_all, append_snoc, get_or-drop, drop-drop}
use mir.Syntax.{w64}
use mir.Val.{SFits, of_z}
use Rattle.terms.specs.Limits.{most_interval}
use Rattle.signed.specs.declared.Part.TheVariants.{Size}
use Rattle.signed.specs.Errors.{size_of, is_under, signed_of, most_size}
use Rattle.signed.specs.Parts.{parts, with_signs}
use Rattle.signed.proofs.Lists.{signs_nil, signs_cons}
use Rattle.signed.proofs.Laws.{size_none, none_signed, is_test, held_size, least_most, part_is_size, parts_at}
use Rattle.signed.proofs.Signs.{held, kept, none_read, size_read}
use Rattle.draw.specs.Row.{full}
use Rattle.walk.specs.Walk.{ahead_after}
use Rattle.project.specs.declared.State.{State}
use Rattle.project.specs.declared.State.TheVariants.{NotDrawn, Drawn, Full}
use Rattle.project.specs.declared.Line.{Line}
use Rattle.project.specs.Lines.{amount, state_by}
use Rattle.project.specs.Project.{lines_with}
use Rattle.project.specs.Gather.{line_at, lines_walk}
use Rattle.project.proofs.Lines.{lines_walked, walk_on, walk_end}
use Rattle.project.proofs.Amounts.{amount_most, amount_none}
use Rattle.lines.specs.Each.{projects_by, projects, each_projects, amounts_with, projects_at}

-- what a line k that is l projects, by its state, as `projected` meets it
module _ (l k : Line) (same : k ≡ l) where
  by_state : (s : State) → k.state ≡ s → projects_by s k.error ≡ projects l
  by_state s told = ap (λ (t : State). projects_by t k.error) (sym told) ∙ ap projects same

  pub projects_none : k.state ≡ NotDrawn → 0 ≡ projects l
  projects_none told = by_state _ told

  pub projects_amount : (a : ℕ) → k.state ≡ Drawn a → a ≡ projects l
  projects_amount a told = by_state _ told

  pub projects_error : (e : ℕ) → k.state ≡ Full → e ≡ k.error → e ≡ projects l
  projects_error e told is = is ∙ by_state _ told

-- without an error it is nothing
none_by : (f t : Bool) (a : ℕ) → (t ≡ true → 0 ≡ a) → projects_by (state_by f t a) 0 ≡ 0
none_by true t a none = refl
none_by false true a none = sym (none refl)
none_by false false a none = refl

pub projects_nothing : (J next v : ℕ) → projects (line_at J next v 0) ≡ 0
projects_nothing J next v = none_by (full J v) (ltb next v) (amount J v 0) (λ t. let h : next < v = ltb-true next v t in amount_none J v 0 (omega arith) refl)

-- and it is no larger than the interval or the error
most_by : (f t : Bool) (a e J : ℕ) → (t ≡ true → f ≡ false → a ≤ J) → projects_by (state_by f t a) e ≤ max J e
most_by true t a e J most = omega arith
most_by false true a e J most = let h = most refl refl in omega arith
most_by false false a e J most = zero-le

pub projects_most : (J next v e : ℕ) → e ≤ v → projects (line_at J next v e) ≤ max J e
projects_most J next v e within =
    most_by (full J v) (ltb next v) (amount J v e) e J (λ t _. let h : next < v = ltb-true next v t in amount_most J v e (omega arith) within)

-- with the sign of the error, as `signed_amount` meets it
module _ (e : ℤ) (fits : SFits w64 e) where
  is_kind : lt_z (held e) (pos 0) ≡ is_under e
  is_kind = ap (λ (z : ℤ). lt_z z (pos 0)) (kept e fits.sfits) ∙ is_test e

  pub signed_none : (J next v : ℕ) → of_z w64 e ≡ 0 → pos 0 ≡ projects_at J next v e
  signed_none J next v none =
      let is : size_of e ≡ 0 = ap size_of (none_read e fits.sfits none) ∙ size_none in
      sym (ap (λ (x : ℕ). signed_of (projects (line_at J next v x)) (is_under e)) is ∙ ap (λ (x : ℕ). signed_of x (is_under e)) (projects_nothing J next v) ∙ none_signed (is_under e))

  module _ {size : ℕ} (told : size ≡ size_of (held e)) where
    is_size : size ≡ size_of e
    is_size = size_read e fits.sfits told

    module _ (J next v : ℕ) {amount : ℕ} (projected : amount ≡ projects (line_at J next v size)) where
      is_amount : amount ≡ projects (line_at J next v (size_of e))
      is_amount = projected ∙ ap (λ (x : ℕ). projects (line_at J next v x)) is_size

      pub amount_holds : J ≤ most_interval → size_of e ≤ v → amount ≤ most_size (lt_z (held e) (pos 0))
      amount_holds narrow within =
          omega (arith, is_amount, projects_most J next v (size_of e) within, ap most_size is_kind, least_most (is_under e), held_size e fits.sfits)

      pub signed_amount : (r : ℤ) → mag r < 2 ^ 63 → r ≡ signed_of amount (lt_z (held e) (pos 0)) → held r ≡ projects_at J next v e
      signed_amount r ok is = kept r ok ∙ is ∙ (λ i. signed_of (is_amount i) (is_kind i))

pub record Written (J start : ℕ) (ledger : List ℕ) (errors : List ℤ) (next item : ℕ) (amounts : List ℤ) : Type 0 where
  pub inside : item ≤ length ledger
  pub same : length amounts ≡ length ledger
  pub whole : take item amounts ++ amounts_with (drop item errors) (lines_walk J next (drop item ledger) (drop item (parts Size errors))) ≡ amounts_with errors (lines_with Size J start ledger errors)

pub written_none : (J start : ℕ) (ledger : List ℕ) (errors amounts : List ℤ) → length amounts ≡ length ledger → Written J start ledger errors start 0 amounts
written_none J start ledger errors amounts same =
    record { inside = zero-le; same = same; whole = ap (amounts_with errors) (sym (lines_walked J start ledger (parts Size errors))) }

module _ {J start : ℕ} {ledger : List ℕ} {errors : List ℤ} {next item : ℕ} {amounts : List ℤ} (at : Written J start ledger errors next item amounts) where
  pub written_all : length ledger ≤ item → amounts ≡ amounts_with errors (lines_with Size J start ledger errors)
  unfolding each_projects
  written_all h =
      let end = ap (amounts_with (drop item errors)) (walk_end J next ledger (drop item (parts Size errors)) item h) ∙ signs_nil (drop item errors) in
      sym (take_all item amounts (omega (arith, at.same))) ∙ sym (append-nil (take item amounts)) ∙ ap (λ (l : List ℤ). take item amounts ++ l) (sym end) ∙ at.whole

  module _ (more : item < length ledger) where
    abbrev value : ℕ
    value = get_or ledger item 0

    abbrev error : ℤ
    error = get_or errors item (pos 0)

    -- what the lines from here on project, once one is written
    one_by_one : (later : List Line) → lines_walk J next (drop item ledger) (drop item (parts Size errors)) ≡ line_at J next value (size_of error) ∷ later →
        amounts_with (drop item errors) (lines_walk J next (drop item ledger) (drop item (parts Size errors))) ≡ projects_at J next value error ∷ amounts_with (drop (item + 1) errors) later
    unfolding each_projects
    one_by_one later on =
        ap (amounts_with (drop item errors)) on ∙ signs_cons (drop item errors) _ _
        ∙ (λ i. signed_of (projects (line_at J next value (size_of error))) (is_under ((get_or-drop item errors 0 (pos 0) ∙ ap (λ (k : ℕ). get_or errors k (pos 0)) (add-zero item)) i)) ∷ with_signs (each_projects later) ((drop-drop 1 item errors) i))

    sizes_on : lines_walk J next (drop item ledger) (drop item (parts Size errors)) ≡ line_at J next value (size_of error) ∷ lines_walk J (ahead_after J next value) (drop (item + 1) ledger) (drop (item + 1) (parts Size errors))
    sizes_on = walk_on J next ledger (parts Size errors) item more
        ∙ ap (λ (x : ℕ). line_at J next value x ∷ lines_walk J (ahead_after J next value) (drop (item + 1) ledger) (drop (item + 1) (parts Size errors))) (parts_at Size errors item ∙ part_is_size error)

    -- one line more; its error was read from its bits, and so is its amount
    pub written_more : mag error < 2 ^ 63 → (amount : ℤ) (next' : ℕ) → mag amount < 2 ^ 63 → amount ≡ projects_at J next value (held error) →
        next' ≡ ahead_after J next value → Written J start ledger errors next' (item + 1) (set amounts item (held amount))
    written_more fits amount next' ok is on =
        let inside : item < length amounts = omega (arith, at.same) in
        let stored : List ℤ = set amounts item (held amount) in
        let here : held amount ≡ projects_at J next value error = kept amount ok ∙ is ∙ ap (projects_at J next value) (kept error fits) in
        let later : List ℤ = amounts_with (drop (item + 1) errors) (lines_walk J next' (drop (item + 1) ledger) (drop (item + 1) (parts Size errors))) in
        record {
          inside = omega arith;
          same = length-set amounts item (held amount) ∙ at.same;
          whole =
              ap (λ (front : List ℤ). front ++ later) (ap (λ (k : ℕ). take k stored) (add-one item) ∙ take-suc-set amounts item (held amount) inside)
              ∙ append_snoc (take item amounts) (held amount) later
              ∙ (λ i. take item amounts ++ (here i ∷ amounts_with (drop (item + 1) errors) (lines_walk J (on i) (drop (item + 1) ledger) (drop (item + 1) (parts Size errors)))))
              ∙ ap (λ (l : List ℤ). take item amounts ++ l) (sym (one_by_one _ sizes_on))
              ∙ at.whole;
        }
