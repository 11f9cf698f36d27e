-- A line is printed as drawn or full exactly where the draw by strata marks it 1 or 2. Assumes nothing.
use mathlib.Core.Path.{◌≡◌, refl, sym, ap, ◌∙◌}
use mathlib.Core.List.{List, [], ◌∷◌, ◌++◌, map}
use Prim.Native.Nat.{ℕ, suc, ◌+◌}
use native.Mathlib.Numerals.{add-one}
use lib.IntN.{ℤ}
use lib.ListN.{length, get_or, drop, length-map}
use lib.Seq.{drop-drop}
use Rattle.terms.specs.Numbers.{pad_to}
use Rattle.terms.specs.Limits.{most_strata}
use Rattle.signed.specs.declared.Part.TheVariants.{Size}
use Rattle.signed.specs.Parts.{parts}
use Rattle.draw.specs.Row.{draw_marks}
use Rattle.draw.proofs.Laws.{draw_marks_lem, marks_length}
use Rattle.project.specs.declared.Line.{Line}
use Rattle.project.specs.Project.{lines_with}
use Rattle.project.proofs.Laws.{mark_of, same_marks}
use Rattle.strata.specs.declared.Row.{Row}
use Rattle.strata.specs.Strata.{no_row}
use Rattle.strata.proofs.Pieces.{here_at}
use Rattle.strata.proofs.Padded.{padded_at, alike_later}
use Rattle.stratified.specs.Marks.{strata_marks}
use Rattle.sheet.specs.Lines.{items_text, ledger_text}
use Rattle.handout.specs.Lines.{drawn_text}

-- the lines of each stratum at its own interval and start, with their states
unfoldable pub lines_in : ℕ → List (List ℕ) → List Row → List ℕ → List (List ℤ) → List (List Line)
lines_in h [] rows starts errors = []
lines_in h (part ∷ later) rows starts errors =
    lines_with Size (get_or rows h no_row).figures.interval (get_or starts h 0) part (get_or errors 0 []) ∷ lines_in (suc h) later rows starts (drop 1 errors)

-- the text of such lines: a state that is drawn has a line `drawn`, one that is full a line `full`, and any other none (`state_text` of the crate sheet)
unfoldable pub lines_text : ℕ → List (List Line) → List (List ℤ) → List ℕ
lines_text first [] errors = []
lines_text first (lines ∷ later) errors = items_text (get_or errors 0 []) first lines ++ lines_text (first + length lines) later (drop 1 errors)

-- their marks, 1 for drawn and 2 for full
unfoldable pub marks_in : List (List Line) → List ℕ
marks_in [] = []
marks_in (lines ∷ later) = map (λ (l : Line). mark_of l.state) lines ++ marks_in later

-- the marks of the lines that are printed are those of the draw by strata
pub printed_marks : (h : ℕ) (all : List (List ℕ)) (rows : List Row) (starts : List ℕ) (errors : List (List ℤ)) → marks_in (lines_in h all rows starts errors) ≡ strata_marks all (drop h rows) (drop h starts)
unfolding lines_in marks_in strata_marks
printed_marks h [] rows starts errors = refl
printed_marks h (part ∷ later) rows starts errors =
    let own = same_marks (get_or rows h no_row).figures.interval (get_or starts h 0) part (parts Size (get_or errors 0 [])) in
    let rest = printed_marks (suc h) later rows starts (drop 1 errors) in
    let on_rows : drop (suc h) rows ≡ drop 1 (drop h rows) = ap (λ (k : ℕ). drop k rows) (sym (add-one h)) ∙ sym (drop-drop 1 h rows) in
    let on_starts : drop (suc h) starts ≡ drop 1 (drop h starts) = ap (λ (k : ℕ). drop k starts) (sym (add-one h)) ∙ sym (drop-drop 1 h starts) in
    (λ i. own i ++ rest i)
    ∙ (λ i. draw_marks (sym (here_at h rows no_row) i).figures.interval (sym (here_at h starts 0) i) part ++ strata_marks later (on_rows i) (on_starts i))

lines_many : (J start : ℕ) (part : List ℕ) (errors : List ℤ) → length (lines_with Size J start part errors) ≡ length part
lines_many J start part errors =
    sym (length-map (lines_with Size J start part errors) (λ (l : Line). mark_of l.state))
    ∙ ap length (same_marks J start part (parts Size errors) ∙ draw_marks_lem J start part) ∙ marks_length J start 0 part

-- and the text is that of these lines
pub printed_lines : (h first : ℕ) (all : List (List ℕ)) (rows : List Row) (starts : List ℕ) (errors : List (List ℤ)) →
    drawn_text h first all rows starts errors ≡ lines_text first (lines_in h all rows starts errors) errors
unfolding drawn_text lines_in lines_text ledger_text
printed_lines h first [] rows starts errors = refl
printed_lines h first (part ∷ later) rows starts errors =
    let J = (get_or rows h no_row).figures.interval in
    let own = lines_with Size J (get_or starts h 0) part (get_or errors 0 []) in
    λ i. items_text (get_or errors 0 []) first own
    ++ (ap (λ (k : ℕ). drawn_text (suc h) (first + k) later rows starts (drop 1 errors)) (sym (lines_many J (get_or starts h 0) part (get_or errors 0 [])))
    ∙ printed_lines (suc h) (first + length own) later rows starts (drop 1 errors)) i

-- the marks go by the entries of the rows and of the starts, not by what stands past the strata
both_alike : (all : List (List ℕ)) (rows rows' : List Row) (starts starts' : List ℕ) → ((h : ℕ) → get_or rows h no_row ≡ get_or rows' h no_row) → ((h : ℕ) → get_or starts h 0 ≡ get_or starts' h 0) →
    strata_marks all rows starts ≡ strata_marks all rows' starts'
unfolding strata_marks
both_alike [] rows rows' starts starts' r s = refl
both_alike (part ∷ later) rows rows' starts starts' r s =
    let rest = both_alike later (drop 1 rows) (drop 1 rows') (drop 1 starts) (drop 1 starts') (alike_later no_row rows rows' r) (alike_later 0 starts starts' s) in
    λ i. draw_marks (r 0 i).figures.interval (s 0 i) part ++ rest i

-- so the lines of a sheet have the marks that the draw by strata gives at the starts of the sheet
pub sheet_marks : (all : List (List ℕ)) (rows : List Row) (starts : List ℕ) (errors : List (List ℤ)) →
    marks_in (lines_in 0 all (pad_to most_strata no_row rows) (pad_to most_strata 0 starts) errors) ≡ strata_marks all rows starts
sheet_marks all rows starts errors =
    printed_marks 0 all (pad_to most_strata no_row rows) (pad_to most_strata 0 starts) errors
    ∙ both_alike all (pad_to most_strata no_row rows) rows (pad_to most_strata 0 starts) starts (padded_at no_row most_strata rows) (padded_at 0 most_strata starts)
