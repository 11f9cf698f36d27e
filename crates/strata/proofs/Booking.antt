-- The book values and the rows of the strata, as the two loops that fill an array with them meet them. Assumes nothing.
use mathlib.Core.Path.{◌≡◌, sym, ap, ◌∙◌}
use mathlib.Core.List.{List, [], ◌∷◌, ◌++◌, map}
use Prim.Native.Nat.{ℕ, ◌+◌, ◌-◌, ◌^◌, ◌≤◌, ◌<◌}
use native.Mathlib.Omega.{arith}
use lib.ListN.{length, get_or, take, drop, set, replicate}
use lib.Seq.{drop-drop}
use Rattle.terms.specs.Limits.{most_strata, most_total}
use Rattle.terms.specs.Numbers.{sum, pad_to}
use Rattle.terms.proofs.Filling.{Coming, coming_none, coming_next, coming_end}
use Rattle.split.specs.Split.{Totalled}
use Rattle.strata.specs.declared.Row.{Row}
use Rattle.strata.specs.Strata.{parts_of, books_of, no_row, row_of, rows_of}
use Rattle.strata.specs.Steps.{Sharing}
use Rattle.strata.proofs.Pieces.{here_at}
use Rattle.strata.proofs.Cuts.{sum_parts, Left, left_none, left_next, cut_on, cut_past}

pub books_more : (part : List ℕ) (parts : List (List ℕ)) → books_of (part ∷ parts) ≡ sum part ∷ books_of parts
unfolding books_of
books_more part parts = λ i. sum part ∷ map sum parts

books_none : books_of [] ≡ []
unfolding books_of
books_none = λ i. []

rows_none : (draws : List ℕ) → rows_of [] draws ≡ []
unfolding rows_of
rows_none draws = λ i. []

rows_more : (part : List ℕ) (parts : List (List ℕ)) (draws : List ℕ) (h : ℕ) → rows_of (part ∷ parts) (drop h draws) ≡ row_of part (get_or draws h 0) ∷ rows_of parts (drop (h + 1) draws)
unfolding rows_of
rows_more part parts draws h =
    λ i. row_of part (here_at h draws 0 i) ∷ rows_of parts (drop-drop 1 h draws i)

-- `books`: the book values of the strata before h are written
pub record Booking (ledger counts books rest : List ℕ) (h : ℕ) : Type 0 where
  pub few : length counts ≤ most_strata
  pub most : sum rest ≤ most_total
  pub to_go : Left counts rest h
  pub coming : Coming most_strata 0 (books_of (parts_of counts ledger)) (books_of (parts_of (drop h counts) rest)) books h

module _ {ledger counts books rest : List ℕ} {h : ℕ} (so_far : Booking ledger counts books rest h) where
  module _ (inside : h < length counts) where
    pub booking_fits : {part : List ℕ} → part ≡ take (get_or counts h 0) rest → sum part < 2 ^ 64
    booking_fits front = let m = so_far.most in omega (arith, ap sum front, sum_parts (get_or counts h 0) rest)

    pub booking_next : {part later : List ℕ} {book : ℕ} → part ≡ take (get_or counts h 0) rest → later ≡ drop (get_or counts h 0) rest → book ≡ sum part →
        Booking ledger counts (set books h book) later (h + 1)
    booking_next {book = book} front back e =
        let f = so_far.few in
        let m = so_far.most in
        let more : List (List ℕ) = parts_of (drop (h + 1) counts) (drop (get_or counts h 0) rest) in
        rw back (record {
          few = so_far.few;
          most = omega (arith, sum_parts (get_or counts h 0) rest);
          to_go = left_next so_far.to_go inside;
          coming = coming_next so_far.coming book (books_of more) (omega arith)
              (ap books_of (cut_on counts rest h inside) ∙ books_more (take (get_or counts h 0) rest) more ∙ ap (λ (b : ℕ). b ∷ books_of more) (sym (e ∙ ap sum front)));
        })

  pub booking_end : length counts ≤ h → books ≡ pad_to most_strata 0 (books_of (parts_of counts ledger))
  booking_end end =
      let f = so_far.few in
      let w = so_far.to_go.within in
      coming_end so_far.coming (omega arith) (ap books_of (cut_past counts rest h end) ∙ books_none)

-- what stands past the last book value
abbrev pad : List ℕ → List ℕ → List ℕ
pad ledger counts = replicate (most_strata - length (books_of (parts_of counts ledger))) 0

-- `rows`: the rows of the strata before h are written, and the book values of those to come are known
pub record Rowing (ledger counts books draws : List ℕ) (rows : List Row) (rest : List ℕ) (h : ℕ) : Type 0 where
  pub given : Sharing ledger counts books draws
  pub most : sum rest ≤ most_total
  pub to_go : Left counts rest h
  pub values : drop h books ≡ books_of (parts_of (drop h counts) rest) ++ pad ledger counts
  pub coming : Coming most_strata no_row (rows_of (parts_of counts ledger) draws) (rows_of (parts_of (drop h counts) rest) (drop h draws)) rows h

pub rowing_none : {ledger counts books draws : List ℕ} → Sharing ledger counts books draws → Rowing ledger counts books draws (replicate 32 no_row) ledger 0
unfolding pad_to
rowing_none given = record { given = given; most = given.parted.most; to_go = left_none given.parted.add; values = given.values; coming = coming_none }

module _ {ledger counts books draws : List ℕ} {rows : List Row} {rest : List ℕ} {h : ℕ} (so_far : Rowing ledger counts books draws rows rest h) where
  module _ (inside : h < length counts) where
    abbrev part : List ℕ
    part = take (get_or counts h 0) rest

    abbrev later : List (List ℕ)
    later = parts_of (drop (h + 1) counts) (drop (get_or counts h 0) rest)

    values_on : drop h books ≡ sum part ∷ (books_of later ++ pad ledger counts)
    values_on = so_far.values ∙ ap (λ (l : List ℕ). l ++ pad ledger counts) (ap books_of (cut_on counts rest h inside) ∙ books_more part later)

    -- the book value of the stratum at hand
    value_at : get_or books h 0 ≡ sum part
    value_at = sym (here_at h books 0) ∙ ap (λ (l : List ℕ). get_or l 0 0) values_on

    pub rowing_book : {own : List ℕ} → own ≡ take (get_or counts h 0) rest → Totalled own (get_or books h 0)
    rowing_book front = let m = so_far.most in record { added = value_at ∙ ap sum (sym front); most = omega (arith, value_at, sum_parts (get_or counts h 0) rest) }

    pub rowing_next : {own after : List ℕ} {row : Row} → own ≡ take (get_or counts h 0) rest → after ≡ drop (get_or counts h 0) rest → row ≡ row_of own (get_or draws h 0) →
        Rowing ledger counts books draws (set rows h row) after (h + 1)
    rowing_next {row = row} front back e =
        let f = so_far.given.parted.few in
        let m = so_far.most in
        let is : row ≡ row_of part (get_or draws h 0) = e ∙ ap (λ (l : List ℕ). row_of l (get_or draws h 0)) front in
        rw back (record {
          given = so_far.given;
          most = omega (arith, sum_parts (get_or counts h 0) rest);
          to_go = left_next so_far.to_go inside;
          values = sym (drop-drop 1 h books) ∙ ap (λ (l : List ℕ). drop 1 l) values_on;
          coming = coming_next so_far.coming row (rows_of later (drop (h + 1) draws)) (omega arith)
              (ap (λ (l : List (List ℕ)). rows_of l (drop h draws)) (cut_on counts rest h inside) ∙ rows_more part later draws h
              ∙ ap (λ (r : Row). r ∷ rows_of later (drop (h + 1) draws)) (sym is));
        })

  pub rowing_end : length counts ≤ h → rows ≡ pad_to most_strata no_row (rows_of (parts_of counts ledger) draws)
  rowing_end end =
      let f = so_far.given.parted.few in
      let w = so_far.to_go.within in
      coming_end so_far.coming (omega arith) (ap (λ (l : List (List ℕ)). rows_of l (drop h draws)) (cut_past counts rest h end) ∙ rows_none (drop h draws))
