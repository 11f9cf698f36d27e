-- What the starts leave to the draw and to the projection by strata. Assumes nothing.
use mathlib.Core.Path.{◌≡◌, sym, ap, subst, ◌∙◌}
use Rattle.std.specs.Prelude.{Ok}
use mathlib.Core.List.{List, []}
use Prim.Native.Nat.{ℕ, ◌≤◌}
use native.Mathlib.Omega.{arith}
use lib.ListN.{get_or}
use Rattle.terms.specs.Limits.{most_strata, most_total}
use Rattle.shares.specs.Shares.{shares_of}
use Rattle.strata.specs.declared.Row.{Row}
use Rattle.strata.specs.declared.Planned.{Planned}
use Rattle.strata.specs.Strata.{parts_of, books_of, no_row, row_of, PlanPromise}
use Rattle.strata.specs.Starts.{started_of}
use Rattle.strata.proofs.Padded.{padded_at}
use Rattle.strata.proofs.Planning.{promised_rows}
use Rattle.strata.proofs.Starting.{started_facts}
use Rattle.strata.proofs.Laws.{row_at, part_within, row_narrow}
use Rattle.stratified.specs.Marks.{Underway}

pub underway : (ledger counts : List ℕ) (n : ℕ) (starts : List ℕ) (beside : ℕ) {p : Planned} → PlanPromise (started_of ledger counts n starts beside) (Ok p) →
    Underway ledger counts p.rows starts beside
underway ledger counts n starts beside {p} m =
    let o = promised_rows (started_of ledger counts n starts beside) m in
    let rows : List Row = o.0 in
    let s = started_facts ledger counts n starts beside rows o.1.0 in
    let c = s.facts.checks in
    let g = c.good in
    let parts = parts_of counts ledger in
    let draws : List ℕ = shares_of (books_of parts) n in
    -- the rows stand in an array
    let entry : (h : ℕ) → get_or p.rows h no_row ≡ get_or rows h no_row =
    λ h. ap (λ (l : List Row). get_or l h no_row) (ap (λ (q : Planned). q.rows) o.1.1) ∙ padded_at no_row most_strata rows h in
    let own : (h : ℕ) → get_or p.rows h no_row ≡ row_of (get_or parts h []) (get_or draws h 0) =
    λ h. entry h ∙ ap (λ (l : List Row). get_or l h no_row) s.facts.shared ∙ row_at parts draws h in
    record {
      parted = record { few = c.few; add = c.add; most = g.most };
      few = g.few;
      same = s.same;
      as_many = s.as_many;
      narrow = λ h. subst (λ (r : Row). r.figures.interval ≤ most_total) (sym (own h))
          (omega (arith, row_narrow (get_or parts h []) (get_or draws h 0), part_within counts ledger h, g.most));
      early = λ h. subst (λ (r : Row). get_or starts h 0 ≤ r.figures.interval) (sym (entry h)) (s.early h);
    }
