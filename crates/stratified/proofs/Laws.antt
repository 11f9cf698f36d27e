-- Which refusals the draw and the projection by strata give, that a stratum's row depends on its own lines, errors and start, and what is known of an
-- accepted projection. Assumes nothing.
use mathlib.Core.Path.{◌≡◌, sym, ap, subst, ◌∙◌}
use mathlib.Core.List.{List, [], ◌∷◌, ◌++◌}
use Prim.Native.Nat.{ℕ, zero, suc, ◌+◌, ◌≤◌, ◌<◌, zero-le}
use native.Mathlib.Nat.{add_assoc, add-zero}
use native.Mathlib.Omega.{arith}
use lib.IntN.{ℤ}
use lib.ListN.{length, get_or, drop}
use Rattle.terms.specs.Outcome.{accepted, after}
use Rattle.terms.proofs.Outcomes.{after_accepted, Gives, gives_after, gives_among}
use Rattle.draw.specs.Row.{ones}
use Rattle.project.specs.declared.Projection.{Projection}
use Rattle.project.specs.Project.{projection_at}
use Rattle.project.proofs.Checking.{line_numbers}
use Rattle.project.proofs.Laws.{projection_gives}
use Rattle.strata.specs.declared.Row.{Row}
use Rattle.strata.specs.Strata.{parts_of, no_row}
use Rattle.strata.specs.Starts.{started_of}
use Rattle.strata.proofs.Padded.{later_at}
use Rattle.strata.proofs.Planning.{parts_many}
use Rattle.strata.proofs.Starting.{StartedFacts, started_facts}
use Rattle.strata.proofs.Given.{started_numbers, started_gives}
use Rattle.stratified.specs.declared.projection.ProjectionRow.{ProjectionRow}
use Rattle.stratified.specs.Marks.{strata_marks, draw_strata_of}
use Rattle.stratified.specs.Projection.{projection_row, no_projection, projected_from, project_strata_of, over_of, over_all}

-- the refusals of the draw by strata
pub draw_strata_gives : (ledger counts : List ℕ) (n : ℕ) (starts : List ℕ) (beside : ℕ) → Gives started_numbers (draw_strata_of ledger counts n starts beside)
unfolding draw_strata_of
draw_strata_gives ledger counts n starts beside =
    gives_after started_numbers (λ rows. accepted (ones (strata_marks (parts_of counts ledger) rows starts))) (started_of ledger counts n starts beside) (started_gives ledger counts n starts beside) (λ rows. tt)

-- and of the projection by strata
abbrev pub projected_numbers : List ℕ
projected_numbers = started_numbers ++ line_numbers

rows_give : (at : ℕ) (parts : List (List ℕ)) (rows : List Row) (starts : List ℕ) (errors : List (List ℤ)) → Gives projected_numbers (projected_from at parts rows starts errors)
unfolding projected_from
rows_give at [] rows starts errors = tt
rows_give at (part ∷ parts) rows starts errors =
    let others = projected_from (at + length part) parts (drop 1 rows) (drop 1 starts) (drop 1 errors) in
    let own = projection_at at (get_or rows 0 no_row).figures.interval (get_or starts 0 0) part (get_or errors 0 []) in
    gives_after projected_numbers (λ sums. after (λ more. accepted (projection_row (get_or rows 0 no_row) sums ∷ more)) others) own
    (gives_among line_numbers projected_numbers tt own (projection_gives at (get_or rows 0 no_row).figures.interval (get_or starts 0 0) part (get_or errors 0 [])))
    (λ sums. gives_after projected_numbers (λ more. accepted (projection_row (get_or rows 0 no_row) sums ∷ more)) others
    (rows_give (at + length part) parts (drop 1 rows) (drop 1 starts) (drop 1 errors)) (λ more. tt))

pub project_strata_gives : (ledger counts : List ℕ) (n : ℕ) (starts : List ℕ) (errors : List ℤ) → Gives projected_numbers (project_strata_of ledger counts n starts errors)
unfolding project_strata_of
project_strata_gives ledger counts n starts errors =
    gives_after projected_numbers (λ rows. projected_from 0 (parts_of counts ledger) rows starts (parts_of counts errors)) (started_of ledger counts n starts (length errors))
    (gives_among started_numbers projected_numbers tt (started_of ledger counts n starts (length errors)) (started_gives ledger counts n starts (length errors)))
    (λ rows. rows_give 0 (parts_of counts ledger) rows starts (parts_of counts errors))

-- an accepted walk from a stratum on: its own projection, and the rows of the later ones
pub record FirstRow (at : ℕ) (part : List ℕ) (parts : List (List ℕ)) (rows : List Row) (starts : List ℕ) (errors : List (List ℤ)) (projected : List ProjectionRow) : Type 0 where
  pub sums : Projection
  pub own : projection_at at (get_or rows 0 no_row).figures.interval (get_or starts 0 0) part (get_or errors 0 []) ≡ accepted sums
  pub more : List ProjectionRow
  pub rest : projected_from (at + length part) parts (drop 1 rows) (drop 1 starts) (drop 1 errors) ≡ accepted more
  pub whole : projection_row (get_or rows 0 no_row) sums ∷ more ≡ projected

pub first_row : (at : ℕ) (part : List ℕ) (parts : List (List ℕ)) (rows : List Row) (starts : List ℕ) (errors : List (List ℤ)) (projected : List ProjectionRow) →
    projected_from at (part ∷ parts) rows starts errors ≡ accepted projected → FirstRow at part parts rows starts errors projected
unfolding projected_from
first_row at part parts rows starts errors projected e =
    let others = projected_from (at + length part) parts (drop 1 rows) (drop 1 starts) (drop 1 errors) in
    let a = after_accepted (λ (sums : Projection). after (λ more. accepted (projection_row (get_or rows 0 no_row) sums ∷ more)) others)
    (projection_at at (get_or rows 0 no_row).figures.interval (get_or starts 0 0) part (get_or errors 0 [])) projected e in
    let b = after_accepted (λ (more : List ProjectionRow). accepted (projection_row (get_or rows 0 no_row) a.0 ∷ more)) others projected a.2 in
    record { sums = a.0; own = a.1; more = b.0; rest = b.1; whole = let w = b.2 in cc }

-- the number of a stratum's first line in the whole ledger
abbrev pub first_of : List (List ℕ) → ℕ → ℕ
first_of [] h = 0
first_of (part ∷ parts) zero = 0
first_of (part ∷ parts) (suc h) = length part + first_of parts h

-- what is known of a stratum's row in an accepted projection: it is the projection of its own lines and errors at its own interval and start
pub record OwnRow (at : ℕ) (part : List ℕ) (row : Row) (start : ℕ) (errors : List ℤ) (projected : ProjectionRow) : Type 0 where
  pub sums : Projection
  pub own : projection_at at row.figures.interval start part errors ≡ accepted sums
  pub is : projected ≡ projection_row row sums

pub own_rows : (at : ℕ) (parts : List (List ℕ)) (rows : List Row) (starts : List ℕ) (errors : List (List ℤ)) (projected : List ProjectionRow) →
    projected_from at parts rows starts errors ≡ accepted projected → (h : ℕ) → h < length parts →
    OwnRow (at + first_of parts h) (get_or parts h []) (get_or rows h no_row) (get_or starts h 0) (get_or errors h []) (get_or projected h no_projection)
own_rows at [] rows starts errors projected e h inside = absurd (omega arith)
own_rows at (part ∷ parts) rows starts errors projected e h inside =
    let f = first_row at part parts rows starts errors projected e in
    go h inside f.sums f.own f.more f.whole (own_rows (at + length part) parts (drop 1 rows) (drop 1 starts) (drop 1 errors) f.more f.rest)
  where
    go : (h : ℕ) → h < suc (length parts) → (sums : Projection) → projection_at at (get_or rows 0 no_row).figures.interval (get_or starts 0 0) part (get_or errors 0 []) ≡ accepted sums →
        (more : List ProjectionRow) → projection_row (get_or rows 0 no_row) sums ∷ more ≡ projected →
        ((k : ℕ) → k < length parts → OwnRow (at + length part + first_of parts k) (get_or parts k []) (get_or (drop 1 rows) k no_row) (get_or (drop 1 starts) k 0) (get_or (drop 1 errors) k []) (get_or more k no_projection)) →
        OwnRow (at + first_of (part ∷ parts) h) (get_or (part ∷ parts) h []) (get_or rows h no_row) (get_or starts h 0) (get_or errors h []) (get_or projected h no_projection)
    go zero i sums own more whole later =
        record {
          sums = sums;
          own = ap (λ (k : ℕ). projection_at k (get_or rows 0 no_row).figures.interval (get_or starts 0 0) part (get_or errors 0 [])) (add-zero at) ∙ own;
          is = ap (λ (l : List ProjectionRow). get_or l 0 no_projection) (sym whole);
        }
    go (suc k) i sums own more whole later =
        let r = later k (omega arith) in
        record {
          sums = r.sums;
          own =
              sym (λ i. projection_at (add_assoc at (length part) (first_of parts k) i) (later_at no_row rows k i).figures.interval (later_at 0 starts k i) (get_or parts k []) (later_at [] errors k i))
              ∙ r.own;
          is = ap (λ (l : List ProjectionRow). get_or l (suc k) no_projection) (sym whole) ∙ r.is ∙ ap (λ (row : Row). projection_row row r.sums) (later_at no_row rows k);
        }

-- so two projections that agree on a stratum's place, lines, row, start and errors agree on its projected row, whatever the others are
pub others_unseen : {at : ℕ} {part : List ℕ} {row : Row} {start : ℕ} {errors : List ℤ} {one two : ProjectionRow} → OwnRow at part row start errors one → OwnRow at part row start errors two → one ≡ two
others_unseen {row = row} p q =
    let same : p.sums ≡ q.sums = let w = sym p.own ∙ q.own in cc in
    p.is ∙ ap (projection_row row) same ∙ sym q.is

-- as many rows as strata
pub rows_long : (at : ℕ) (parts : List (List ℕ)) (rows : List Row) (starts : List ℕ) (errors : List (List ℤ)) (projected : List ProjectionRow) →
    projected_from at parts rows starts errors ≡ accepted projected → length projected ≡ length parts
unfolding projected_from
rows_long at [] rows starts errors projected e = let none : [] ≡ projected = cc in ap length (sym none)
rows_long at (part ∷ parts) rows starts errors projected e =
    let f = first_row at part parts rows starts errors projected e in
    ap length (sym f.whole) ∙ ap suc (rows_long (at + length part) parts (drop 1 rows) (drop 1 starts) (drop 1 errors) f.more f.rest)

-- what is known of an accepted projection by strata
pub record StrataFacts (ledger counts : List ℕ) (n : ℕ) (starts : List ℕ) (errors : List ℤ) (projected : List ProjectionRow) : Type 0 where
  pub rows : List Row
  pub started : StartedFacts ledger counts n starts (length errors) rows
  pub many : length projected ≡ length counts
  pub each : (h : ℕ) → h < length counts →
      OwnRow (0 + first_of (parts_of counts ledger) h) (get_or (parts_of counts ledger) h []) (get_or rows h no_row) (get_or starts h 0) (get_or (parts_of counts errors) h []) (get_or projected h no_projection)

pub strata_facts : (ledger counts : List ℕ) (n : ℕ) (starts : List ℕ) (errors : List ℤ) (projected : List ProjectionRow) → project_strata_of ledger counts n starts errors ≡ accepted projected →
    StrataFacts ledger counts n starts errors projected
unfolding project_strata_of
strata_facts ledger counts n starts errors projected e =
    let parts = parts_of counts ledger in
    let a = after_accepted (λ (rows : List Row). projected_from 0 parts rows starts (parts_of counts errors)) (started_of ledger counts n starts (length errors)) projected e in
    record {
      rows = a.0;
      started = started_facts ledger counts n starts (length errors) a.0 a.1;
      many = rows_long 0 parts a.0 starts (parts_of counts errors) projected a.2 ∙ parts_many counts ledger;
      each = λ h inside. own_rows 0 parts a.0 starts (parts_of counts errors) projected a.2 h (subst (λ (k : ℕ). h < k) (sym (parts_many counts ledger)) inside);
    }

-- the sum over the strata is not lower where no stratum's is
pub over_all_up : (rows others : List ProjectionRow) → ((h : ℕ) → over_of (get_or rows h no_projection) ≤ over_of (get_or others h no_projection)) → over_all rows ≤ over_all others
unfolding over_all
over_all_up [] others up = zero-le
over_all_up (row ∷ rows) [] up = omega (arith, up 0, over_all_up rows [] (λ h. up (suc h)))
over_all_up (row ∷ rows) (other ∷ others) up = omega (arith, up 0, over_all_up rows others (λ h. up (suc h)))
