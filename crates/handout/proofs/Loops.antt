-- The lines of the strata, of their sums and of the ledger, as the loops that write them meet them. Assumes nothing.
use Prim.Native.Nat.{ℕ, suc, ◌+◌, ◌-◌, ◌*◌, ◌^◌, ◌≤◌, ◌<◌}
use mathlib.Core.Path.{◌≡◌, sym, ap, subst, ◌∙◌}
use mathlib.Core.List.{List, [], ◌∷◌, ◌++◌}
use native.Mathlib.Numerals.{add-one}
use native.Mathlib.Omega.{arith}
use lib.IntN.{ℤ}
use lib.ListN.{length, get_or, take, drop, length-append, take-append-drop}
use Rattle.terms.specs.Limits.{most_strata}
use Rattle.terms.specs.Numbers.{sum}
use Rattle.pen.specs.Page.{Wrote}
use Rattle.pen.proofs.Writing.{Left, left_all, left_more, left_none}
use Rattle.strata.specs.declared.Row.{Row}
use Rattle.strata.specs.Strata.{parts_of, no_row}
use Rattle.strata.specs.Steps.{Parted}
use Rattle.strata.proofs.Pieces.{part_sum, Place, reach, place_next, parts_past, part_at, to_come, later_on, come_on, part_long}
use Rattle.stratified.specs.declared.projection.ProjectionRow.{ProjectionRow}
use Rattle.stratified.specs.Projection.{no_projection}
use Rattle.steps.specs.Steps.{Shown}
use Rattle.sheet.specs.Lines.{ledger_text}
use Rattle.sheet.proofs.Room.{ledger_short}
use Rattle.handout.specs.Lines.{stratum_line, strata_text, drawn_text, sums_line, sums_text}
use Rattle.handout.specs.Shows.{EachShown}

-- ---- the sums of the strata

sums_on : (rows : List ProjectionRow) (strata h : ℕ) → h < strata →
    sums_text (strata - h) h rows ≡ sums_line h (get_or rows h no_projection) ++ sums_text (strata - (h + 1)) (h + 1) rows
unfolding sums_text
sums_on rows strata h inside =
    let fewer : strata - h ≡ suc (strata - (h + 1)) = omega arith in
    ap (λ (k : ℕ). sums_text k h rows) fewer ∙ ap (λ (k : ℕ). sums_line h (get_or rows h no_projection) ++ sums_text (strata - (h + 1)) k rows) (sym (add-one h))

sums_past : (rows : List ProjectionRow) (strata h : ℕ) → strata ≤ h → sums_text (strata - h) h rows ≡ []
unfolding sums_text
sums_past rows strata h end = let none : strata - h ≡ 0 = omega arith in ap (λ (k : ℕ). sums_text k h rows) none

-- those of the strata before h are written
pub record Summing (strata : ℕ) (rows : List ProjectionRow) (old : List ℕ) (at : ℕ) (new : List ℕ) (to h : ℕ) : Type 0 where
  pub few : strata ≤ most_strata
  pub within : h ≤ strata
  pub left : Left old at (sums_text strata 0 rows) new to (sums_text (strata - h) h rows)
  pub short : length (sums_text strata 0 rows) ≤ 110 * h + length (sums_text (strata - h) h rows)

pub summing_none : {strata : ℕ} {rows : List ProjectionRow} {old : List ℕ} {at : ℕ} → strata ≤ most_strata → Summing strata rows old at old at 0
summing_none {strata} {rows} {old} {at} few =
    let all : strata ≡ strata - 0 = omega arith in
    record {
      few = few;
      within = omega arith;
      left = subst (λ (k : ℕ). Left old at (sums_text strata 0 rows) old at (sums_text k 0 rows)) all left_all;
      short = omega (arith, ap (λ (k : ℕ). length (sums_text k 0 rows)) all);
    }

module _ {strata : ℕ} {rows : List ProjectionRow} {old : List ℕ} {at : ℕ} {new : List ℕ} {to h : ℕ} (so_far : Summing strata rows old at new to h) where
  module _ (inside : h < strata) where
    pub summing_more : {new' : List ℕ} {to' : ℕ} → Wrote new to (sums_line h (get_or rows h no_projection)) new' to' × (length (sums_line h (get_or rows h no_projection)) ≤ 110) →
        Summing strata rows old at new' to' (h + 1)
    summing_more w =
        let on = sums_on rows strata h inside in
        record {
          few = so_far.few;
          within = omega arith;
          left = left_more so_far.left on w.0;
          short = omega (arith, so_far.short, ap length on, length-append (sums_line h (get_or rows h no_projection)) (sums_text (strata - (h + 1)) (h + 1) rows), w.1);
        }

  pub summing_all : strata ≤ h → Wrote old at (sums_text strata 0 rows) new to
  summing_all end = left_none so_far.left (sums_past rows strata h end)

  pub summing_short : strata ≤ h → length (sums_text strata 0 rows) ≤ 110 * strata
  summing_short end =
      let w = so_far.within in
      let here : h ≡ strata = omega arith in
      omega (arith, so_far.short, ap length (sums_past rows strata h end), here)

-- ---- the lines of the strata

module _ (ledger counts : List ℕ) (rows : List Row) (starts words : List ℕ) where
  abbrev own : ℕ → ℕ → List ℕ
  own at h = stratum_line h (part_at ledger counts at h) (get_or rows h no_row) (get_or starts h 0) (get_or words h 0)

  abbrev strata_to_come : ℕ → ℕ → List ℕ
  strata_to_come at h = strata_text h (to_come ledger counts at h) rows starts words

  strata_on : (at h : ℕ) → h < length counts → strata_to_come at h ≡ own at h ++ strata_to_come (at + get_or counts h 0) (h + 1)
  unfolding strata_text
  strata_on at h inside =
      ap (λ (l : List (List ℕ)). strata_text h l rows starts words) (come_on ledger counts at h inside)
      ∙ ap (λ (k : ℕ). own at h ++ strata_text k (later_on ledger counts at h) rows starts words) (sym (add-one h))

  strata_past : (at h : ℕ) → length counts ≤ h → strata_to_come at h ≡ []
  unfolding strata_text
  strata_past at h end = ap (λ (l : List (List ℕ)). strata_text h l rows starts words) (parts_past ledger counts at h end)

  -- those of the strata before h are written
  pub record Stratifying (old : List ℕ) (from : ℕ) (new : List ℕ) (to at h : ℕ) : Type 0 where
    pub given : Parted ledger counts
    pub place : Place ledger counts at h
    pub left : Left old from (strata_text 0 (parts_of counts ledger) rows starts words) new to (strata_text h (to_come ledger counts at h) rows starts words)
    pub short : length (strata_text 0 (parts_of counts ledger) rows starts words) ≤ 239 * h + length (strata_text h (to_come ledger counts at h) rows starts words)

  module _ {old : List ℕ} {from : ℕ} {new : List ℕ} {to at h : ℕ} (so_far : Stratifying old from new to at h) where
    module _ (inside : h < length counts) where
      pub stratum_fits : sum (part_at ledger counts at h) < 2 ^ 64
      stratum_fits = let m = so_far.given.most in omega (arith, part_sum (at + get_or counts h 0 - at) at ledger)

      pub stratifying_more : {new' : List ℕ} {to' : ℕ} →
          Wrote new to (stratum_line h (part_at ledger counts at h) (get_or rows h no_row) (get_or starts h 0) (get_or words h 0)) new' to'
          × (length (stratum_line h (part_at ledger counts at h) (get_or rows h no_row) (get_or starts h 0) (get_or words h 0)) ≤ 239) →
          Stratifying old from new' to' (at + get_or counts h 0) (h + 1)
      stratifying_more w =
          let on = strata_on at h inside in
          record {
            given = so_far.given;
            place = place_next so_far.place inside;
            left = left_more so_far.left on w.0;
            short = omega (arith, so_far.short, ap length on, length-append (own at h) (strata_to_come (at + get_or counts h 0) (h + 1)), w.1);
          }

    pub stratifying_all : length counts ≤ h → Wrote old from (strata_text 0 (parts_of counts ledger) rows starts words) new to
    stratifying_all end = left_none so_far.left (strata_past at h end)

    pub stratifying_short : length counts ≤ h → length (strata_text 0 (parts_of counts ledger) rows starts words) ≤ 239 * length counts
    stratifying_short end =
        let w = so_far.place.within in
        let here : h ≡ length counts = omega arith in
        omega (arith, so_far.short, ap length (strata_past at h end), here)

-- ---- the drawn and full lines

module _ (ledger counts : List ℕ) (rows : List Row) (starts : List ℕ) (errors : List ℤ) where
  abbrev own_lines : ℕ → ℕ → List ℕ
  own_lines at h = ledger_text at (get_or rows h no_row).figures.interval (get_or starts h 0) (part_at ledger counts at h) (part_at errors counts at h)

  abbrev drawn_to_come : ℕ → ℕ → List ℕ
  drawn_to_come at h = drawn_text h at (to_come ledger counts at h) rows starts (to_come errors counts at h)

  drawn_on : (at h : ℕ) → h < length counts → at + get_or counts h 0 ≤ length ledger → drawn_to_come at h ≡ own_lines at h ++ drawn_to_come (at + get_or counts h 0) (h + 1)
  unfolding drawn_text
  drawn_on at h inside far =
      (λ i. drawn_text h at (come_on ledger counts at h inside i) rows starts (come_on errors counts at h inside i))
      ∙ (λ i. own_lines at h ++ drawn_text (sym (add-one h) i) (at + part_long ledger counts at h far i) (later_on ledger counts at h) rows starts (later_on errors counts at h))

  drawn_past : (at h : ℕ) → length counts ≤ h → drawn_to_come at h ≡ []
  unfolding drawn_text
  drawn_past at h end = ap (λ (l : List (List ℕ)). drawn_text h at l rows starts (to_come errors counts at h)) (parts_past ledger counts at h end)

  -- what is shown of the stratum at hand, and of those to come
  each_on : (at h : ℕ) → h < length counts → at + get_or counts h 0 ≤ length ledger → EachShown h at (to_come ledger counts at h) rows (to_come errors counts at h) →
      Shown at (get_or rows h no_row).figures.interval (part_at ledger counts at h) (part_at errors counts at h)
      × EachShown (h + 1) (at + get_or counts h 0) (later_on ledger counts at h) rows (later_on errors counts at h)
  each_on at h inside far each =
      let all : EachShown h at (part_at ledger counts at h ∷ later_on ledger counts at h) rows (part_at errors counts at h ∷ later_on errors counts at h) =
      subst (λ (l : List (List ℤ)). EachShown h at (part_at ledger counts at h ∷ later_on ledger counts at h) rows l) (come_on errors counts at h inside)
      (subst (λ (l : List (List ℕ)). EachShown h at l rows (to_come errors counts at h)) (come_on ledger counts at h inside) each) in (
        all.0,
        subst (λ (k : ℕ). EachShown k (at + get_or counts h 0) (later_on ledger counts at h) rows (later_on errors counts at h)) (sym (add-one h))
            (subst (λ (k : ℕ). EachShown (suc h) (at + k) (later_on ledger counts at h) rows (later_on errors counts at h)) (part_long ledger counts at h far) all.1),
      )

  -- those of the strata before h are written
  pub record Drawing (old : List ℕ) (from : ℕ) (new : List ℕ) (to at h : ℕ) : Type 0 where
    pub given : Parted ledger counts
    pub same : length errors ≡ length ledger
    pub place : Place ledger counts at h
    pub each : EachShown h at (to_come ledger counts at h) rows (to_come errors counts at h)
    pub left : Left old from (drawn_text 0 0 (parts_of counts ledger) rows starts (parts_of counts errors)) new to (drawn_text h at (to_come ledger counts at h) rows starts (to_come errors counts at h))

  module _ {old : List ℕ} {from : ℕ} {new : List ℕ} {to at h : ℕ} (so_far : Drawing old from new to at h) where
    module _ (inside : h < length counts) where
      pub drawing_asks : Shown at (get_or rows h no_row).figures.interval (part_at ledger counts at h) (part_at errors counts at h)
      drawing_asks = (each_on at h inside (reach so_far.place inside) so_far.each).0

      pub drawing_more : {new' : List ℕ} {to' : ℕ} →
          Wrote new to (ledger_text at (get_or rows h no_row).figures.interval (get_or starts h 0) (part_at ledger counts at h) (part_at errors counts at h)) new' to' →
          Drawing old from new' to' (at + get_or counts h 0) (h + 1)
      drawing_more w =
          let far = reach so_far.place inside in
          record {
            given = so_far.given;
            same = so_far.same;
            place = place_next so_far.place inside;
            each = (each_on at h inside far so_far.each).1;
            left = left_more so_far.left (drawn_on at h inside far) w;
          }

    pub drawing_all : length counts ≤ h → Wrote old from (drawn_text 0 0 (parts_of counts ledger) rows starts (parts_of counts errors)) new to
    drawing_all end = left_none so_far.left (drawn_past at h end)

-- they take at most 90 bytes each
pub drawn_short : (counts ledger : List ℕ) (errors : List ℤ) (rows : List Row) (starts : List ℕ) (h first : ℕ) → EachShown h first (parts_of counts ledger) rows (parts_of counts errors) →
    length (drawn_text h first (parts_of counts ledger) rows starts (parts_of counts errors)) ≤ 90 * length ledger
unfolding drawn_text parts_of
drawn_short [] ledger errors rows starts h first each = omega arith
drawn_short (count ∷ counts) ledger errors rows starts h first each =
    let part = take count ledger in
    let first-text = ledger_text first (get_or rows h no_row).figures.interval (get_or starts h 0) part (take count errors) in
    let later-text = drawn_text (suc h) (first + length part) (parts_of counts (drop count ledger)) rows starts (parts_of counts (drop count errors)) in
    omega (
      arith,
      length-append first-text later-text,
      ledger_short each.0 (get_or starts h 0),
      drawn_short counts (drop count ledger) (drop count errors) rows starts (suc h) (first + length part) each.1,
      length-append part (drop count ledger),
      ap length (take-append-drop count ledger),
    )
