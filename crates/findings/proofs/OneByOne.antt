-- Every batch is its pairs posted one by one; it may be cut in two; pairs of different lines may change places; of a line's pairs the last counts. Assumes nothing.
use Prim.Native.Nat.{ℕ, suc, ◌<◌, ◌≤◌}
use native.Mathlib.Nat.{add-zero}
use native.Mathlib.Omega.{arith}
use mathlib.Core.Path.{◌≡◌, refl, sym, ap, subst, ◌∙◌}
use mathlib.Core.Bool.{Bool, true, false}
use mathlib.Core.List.{List, [], ◌∷◌, ◌++◌}
use mathlib.Core.Logic.{⊎_elim}
use lib.IntN.{ℤ, pos}
use lib.ListN.{length, get_or, set, take, length-append, length-set}
use lib.Seq.{length-take-le}
use Rattle.terms.specs.Outcome.{Outcome, accepted, refused, after, left}
use Rattle.terms.proofs.Outcomes.{Gives, never}
use Rattle.signed.specs.Errors.{size_of}
use Rattle.signed.proofs.Laws.{size_none}
use Rattle.findings.specs.Findings.{equally_long, line_of, post_of}
use Rattle.findings.specs.Batch.{Pair, Batch, pairs_of, placed_at, posted_then, posted_from, post_all_of, Postable}
use Rattle.findings.specs.OneByOne.{singly, second_call, two_calls, last_found, OneByOne}
use Rattle.findings.proofs.Rules.{long_same, line_stands, placed_none}
use Rattle.findings.proofs.Posting.{posting, post_same, post_differ, post_first}
use Rattle.findings.proofs.Pairs.{all_from, all_none}
use Rattle.findings.proofs.Answers.{pair_numbers, line_gives}
use Rattle.findings.proofs.Batches.{moved_on, onward, from_cut, from_moved, from_long, from_every, accepted_stands, stands_on}
use Rattle.findings.proofs.Standing.{from_swapped, from_last}
use Rattle.findings.proofs.Stopping.{pairs_append, pairs_length, postable_or_none, accepted_postable, accepted_from, Stop, from_stop}

module _ (ledger marks : List ℕ) (errors : List ℤ) where
  -- one pair
  one_by : (o : Outcome (List ℤ)) → placed_at 0 o ≡ o →
      posted_then (λ posted. posted_from ledger marks 1 posted []) errors (placed_at 0 o) ≡ record { says = after (λ posted. accepted 1) o; errors = left (λ posted. posted) errors o }
  unfolding posted_from
  one_by (accepted posted) e = refl
  one_by (refused n p) e = λ i. record { says = after (λ posted. accepted 1) (e i); errors = errors }

  one_pair : (line : ℕ) (error : ℤ) (b : Bool) → equally_long (length ledger) (length marks) (length errors) ≡ b → post_all_of ledger marks errors (line ∷ []) (error ∷ [])
      ≡ record { says = after (λ posted. accepted 1) (post_of ledger marks errors line error); errors = left (λ posted. posted) errors (post_of ledger marks errors line error) }
  unfolding posted_from pairs_of
  one_pair line error true e =
      let same = long_same (length ledger) (length marks) (length errors) e in
      all_from ledger marks errors (line ∷ []) (error ∷ []) (record { marks_same = same.0; errors_same = same.1; found_same = refl })
      ∙ one_by (post_of ledger marks errors line error) (post_first ledger marks errors line error)
  one_pair line error false e =
      let d = sym (post_differ ledger marks errors line error e) in
      all_none ledger marks errors (line ∷ []) (error ∷ []) (simp e) ∙ (λ i. record { says = after (λ posted. accepted 1) (d i); errors = left (λ posted. posted) errors (d i) })

  -- two calls
  module _ (lines lines₂ : List ℕ) (found found₂ : List ℤ) (same : length found ≡ length lines) (same₂ : length found₂ ≡ length lines₂) where
    abbrev later : List ℤ → Batch
    later posted = post_all_of ledger marks posted lines₂ found₂

    both_same : length (found ++ found₂) ≡ length (lines ++ lines₂)
    both_same = omega (arith, length-append found found₂, length-append lines lines₂)

    second_by : (posted : List ℤ) → length marks ≡ length ledger → length posted ≡ length ledger → (o : Outcome ℕ) → onward ledger marks (pairs_of lines₂ found₂) posted o ≡ second_call later posted o
    second_by posted m e (accepted k) =
        ap (λ (x : ℕ). posted_from ledger marks x posted (pairs_of lines₂ found₂)) (sym (add-zero k))
        ∙ from_moved ledger marks k 0 posted (pairs_of lines₂ found₂)
        ∙ ap (moved_on k) (sym (all_from ledger marks posted lines₂ found₂ (record { marks_same = m; errors_same = e; found_same = same₂ })))
    second_by posted m e (refused n p) = refl

    cut_by : (b : Bool) → equally_long (length ledger) (length marks) (length errors) ≡ b →
        post_all_of ledger marks errors (lines ++ lines₂) (found ++ found₂) ≡ two_calls (post_all_of ledger marks errors lines found) later
    cut_by true e =
        let long = long_same (length ledger) (length marks) (length errors) e in
        let first : Batch = posted_from ledger marks 0 errors (pairs_of lines found) in
        all_from ledger marks errors (lines ++ lines₂) (found ++ found₂) (record { marks_same = long.0; errors_same = long.1; found_same = both_same })
        ∙ ap (posted_from ledger marks 0 errors) (pairs_append lines lines₂ found found₂ same)
        ∙ from_cut ledger marks (pairs_of lines₂ found₂) 0 errors (pairs_of lines found)
        ∙ second_by first.errors long.0 (from_long ledger marks 0 errors (pairs_of lines found) ∙ long.1) first.says
        ∙ ap (λ (b : Batch). two_calls b later) (sym (all_from ledger marks errors lines found (record { marks_same = long.0; errors_same = long.1; found_same = same })))
    cut_by false e =
        all_none ledger marks errors (lines ++ lines₂) (found ++ found₂) (simp e)
        ∙ ap (λ (b : Batch). two_calls b later) (sym (all_none ledger marks errors lines found (simp e)))

  -- pairs that change places
  module _ (lines₂ : List ℕ) (found₂ : List ℤ) (a b : ℕ) (d e : ℤ) (n : ℕ) (differ : ¬ (a ≡ b)) where
    onward_swapped : (posted : List ℤ) → length marks ≡ length ledger → length posted ≡ length ledger → (o : Outcome ℕ) →
        (onward ledger marks (pairs_of (a ∷ b ∷ lines₂) (d ∷ e ∷ found₂)) posted o).says ≡ accepted n →
        onward ledger marks (pairs_of (a ∷ b ∷ lines₂) (d ∷ e ∷ found₂)) posted o ≡ onward ledger marks (pairs_of (b ∷ a ∷ lines₂) (e ∷ d ∷ found₂)) posted o
    unfolding pairs_of
    onward_swapped posted m same (accepted k) h =
        let one : Pair = record { line = a; error = d } in
        let two : Pair = record { line = b; error = e } in
        let first = accepted_stands ledger marks m k posted same one (two ∷ pairs_of lines₂ found₂) n h in
        let on = stands_on ledger marks m k posted same one (two ∷ pairs_of lines₂ found₂) first in
        let second = accepted_stands ledger marks m (suc k) (set posted a d) (length-set posted a d ∙ same) two (pairs_of lines₂ found₂) n (sym (ap (λ (x : Batch). x.says) on) ∙ h) in
        from_swapped ledger marks m k posted same one two (pairs_of lines₂ found₂) first second differ
    onward_swapped posted m same (refused k p) h = refl

    swapped_by : (lines : List ℕ) (found : List ℤ) → length found ≡ length lines →
        (post_all_of ledger marks errors (lines ++ a ∷ b ∷ lines₂) (found ++ d ∷ e ∷ found₂)).says ≡ accepted n →
        post_all_of ledger marks errors (lines ++ a ∷ b ∷ lines₂) (found ++ d ∷ e ∷ found₂) ≡ post_all_of ledger marks errors (lines ++ b ∷ a ∷ lines₂) (found ++ e ∷ d ∷ found₂)
    swapped_by lines found same h =
        let p = accepted_postable ledger marks errors (lines ++ a ∷ b ∷ lines₂) (found ++ d ∷ e ∷ found₂) n h in
        let first : Batch = posted_from ledger marks 0 errors (pairs_of lines found) in
        let on =
        all_from ledger marks errors (lines ++ a ∷ b ∷ lines₂) (found ++ d ∷ e ∷ found₂) p
        ∙ ap (posted_from ledger marks 0 errors) (pairs_append lines (a ∷ b ∷ lines₂) found (d ∷ e ∷ found₂) same)
        ∙ from_cut ledger marks (pairs_of (a ∷ b ∷ lines₂) (d ∷ e ∷ found₂)) 0 errors (pairs_of lines found) in
        let other : Postable ledger marks errors (lines ++ b ∷ a ∷ lines₂) (found ++ e ∷ d ∷ found₂) =
        record {
          marks_same = p.marks_same;
          errors_same = p.errors_same;
          found_same = omega (arith, p.found_same, length-append found (d ∷ e ∷ found₂), length-append found (e ∷ d ∷ found₂), length-append lines (a ∷ b ∷ lines₂), length-append lines (b ∷ a ∷ lines₂));
        } in
        on
        ∙ onward_swapped first.errors p.marks_same (from_long ledger marks 0 errors (pairs_of lines found) ∙ p.errors_same) first.says (sym (ap (λ (x : Batch). x.says) on) ∙ h)
        ∙ sym (all_from ledger marks errors (lines ++ b ∷ a ∷ lines₂) (found ++ e ∷ d ∷ found₂) other
        ∙ ap (posted_from ledger marks 0 errors) (pairs_append lines (b ∷ a ∷ lines₂) found (e ∷ d ∷ found₂) same)
        ∙ from_cut ledger marks (pairs_of (b ∷ a ∷ lines₂) (e ∷ d ∷ found₂)) 0 errors (pairs_of lines found))

  -- where it stops
  module _ (lines : List ℕ) (found : List ℤ) where
    abbrev whole : Batch
    whole = post_all_of ledger marks errors lines found

    every_pair : (n : ℕ) → whole.says ≡ accepted n → (n ≡ length lines) × (whole.errors ≡ singly ledger marks errors (pairs_of lines found))
    every_pair n h =
        let x = from_every ledger marks 0 errors (pairs_of lines found) n (accepted_from ledger marks errors lines found n h) in
        (omega (arith, x.0, pairs_length lines found), ap (λ (b : Batch). b.errors) (all_from ledger marks errors lines found (accepted_postable ledger marks errors lines found n h)) ∙ x.1)

    last_pair : (n : ℕ) → whole.says ≡ accepted n → (line : ℕ) → get_or whole.errors line (pos 0) ≡ last_found line (pairs_of lines found) (get_or errors line (pos 0))
    last_pair n h line =
        let p = accepted_postable ledger marks errors lines found n h in
        ap (λ (b : Batch). get_or b.errors line (pos 0)) (all_from ledger marks errors lines found p)
        ∙ from_last ledger marks p.marks_same 0 errors (pairs_of lines found) n p.errors_same (accepted_from ledger marks errors lines found n h) line

    module _ (p : Postable ledger marks errors lines found) (n place : ℕ) (h : whole.says ≡ refused n place) where
      stop : Stop ledger marks 0 errors lines found (posted_from ledger marks 0 errors (pairs_of lines found)).errors n place
      stop = from_stop ledger marks 0 errors lines found n place p.found_same (sym (ap (λ (b : Batch). b.says) (all_from ledger marks errors lines found p)) ∙ h)

      left_is : whole.errors ≡ (posted_from ledger marks 0 errors (pairs_of lines found)).errors
      left_is = ap (λ (b : Batch). b.errors) (all_from ledger marks errors lines found p)

      at_place : stop.pairs ≡ place
      at_place = omega (arith, stop.counted)

      before_is : post_all_of ledger marks errors (take place lines) (take place found) ≡ record { says = accepted place; errors = whole.errors }
      before_is =
          let short : place ≤ length lines = omega (arith, at_place, stop.inside) in
          let long : length (take place found) ≡ length (take place lines) = length-take-le place found (omega (arith, p.found_same)) ∙ sym (length-take-le place lines short) in
          all_from ledger marks errors (take place lines) (take place found) (record { marks_same = p.marks_same; errors_same = p.errors_same; found_same = long })
          ∙ ap (λ (k : ℕ). posted_from ledger marks 0 errors (pairs_of (take k lines) (take k found))) (sym at_place)
          ∙ stop.before
          ∙ ap (λ (l : List ℤ). record { says = accepted place; errors = l }) (sym left_is)

      single_is : post_of ledger marks whole.errors (get_or lines place 0) (get_or found place (pos 0)) ≡ refused n 0
      single_is = (λ i. post_of ledger marks (left_is i) (get_or lines (sym at_place i) 0) (get_or found (sym at_place i) (pos 0))) ∙ stop.single

      -- a pair is not refused by 13
      not_lengths : ¬ (n ≡ 13)
      not_lengths is =
          let same = ap length left_is ∙ from_long ledger marks 0 errors (pairs_of lines found) ∙ p.errors_same in
          by (line_of ledger marks (get_or lines place 0) (get_or found place (pos 0))) (line_gives ledger marks (get_or lines place 0) (get_or found place (pos 0)))
          (sym (post_same ledger marks whole.errors (get_or lines place 0) (get_or found place (pos 0)) p.marks_same same) ∙ single_is ∙ ap (λ (k : ℕ). refused k 0) is)
        where
          by : (o : Outcome ℕ) → Gives pair_numbers o → after (posting whole.errors (get_or found place (pos 0))) o ≡ refused 13 0 → ⊥
          by (accepted at) g q = never (sym q)
          by (refused m k) g q = let z : m ≡ 13 = cc in subst (λ (x : ℕ). Gives {A = ℕ} pair_numbers (refused x k)) z g

      inside_is : place < length lines
      inside_is = omega (arith, at_place, stop.inside)

    stops_at : (n place : ℕ) → ¬ (n ≡ 13) → whole.says ≡ refused n place →
        (place < length lines) × (post_all_of ledger marks errors (take place lines) (take place found) ≡ record { says = accepted place; errors = whole.errors })
        × (post_of ledger marks whole.errors (get_or lines place 0) (get_or found place (pos 0)) ≡ refused n 0)
    stops_at n place some h = ⊎_elim began differ (postable_or_none ledger marks errors lines found)
      where
        began : (p : Postable ledger marks errors lines found) →
            (place < length lines) × (post_all_of ledger marks errors (take place lines) (take place found) ≡ record { says = accepted place; errors = whole.errors })
            × (post_of ledger marks whole.errors (get_or lines place 0) (get_or found place (pos 0)) ≡ refused n 0)
        began p = (inside_is p n place h, before_is p n place h, single_is p n place h)

        differ : whole ≡ record { says = refused 13 0; errors = errors } →
            (place < length lines) × (post_all_of ledger marks errors (take place lines) (take place found) ≡ record { says = accepted place; errors = whole.errors })
            × (post_of ledger marks whole.errors (get_or lines place 0) (get_or found place (pos 0)) ≡ refused n 0)
        differ e =
            let q : ◌≡◌ {A = Outcome ℕ} (refused n place) (refused 13 0) = sym h ∙ ap (λ (b : Batch). b.says) e in
            let z : n ≡ 13 = cc in
            absurd (some z)

    none_posted : (place : ℕ) → whole.says ≡ refused 13 place → whole.errors ≡ errors
    none_posted place h =
        ⊎_elim (λ (p : Postable ledger marks errors lines found). absurd (not_lengths p 13 place h refl)) (λ e. ap (λ (b : Batch). b.errors) e) (postable_or_none ledger marks errors lines found)

  -- an error of 0 may stand on any line
  cleared_by : (line : ℕ) → length marks ≡ length ledger → length errors ≡ length ledger → line < length ledger → post_of ledger marks errors line (pos 0) ≡ accepted (set errors line (pos 0))
  cleared_by line m e inside =
      post_same ledger marks errors line (pos 0) m e
      ∙ ap (after (posting errors (pos 0)))
      (line_stands ledger marks line (pos 0)
      (record { inside = inside; within = omega (arith, size_none); marked = sym (placed_none (get_or marks line 0) (size_of (pos 0)) size_none) }))

pub one_by_one : (ledger marks : List ℕ) (errors : List ℤ) → OneByOne ledger marks errors
one_by_one ledger marks errors =
    record {
      one = λ line error. one_pair ledger marks errors line error (equally_long (length ledger) (length marks) (length errors)) refl;
      cut = λ lines lines₂ found found₂ same same₂. cut_by ledger marks errors lines lines₂ found found₂ same same₂ (equally_long (length ledger) (length marks) (length errors)) refl;
      every = every_pair ledger marks errors;
      stopped = stops_at ledger marks errors;
      none = none_posted ledger marks errors;
      swapped = λ lines lines₂ found found₂ a b d e n same differ h. swapped_by ledger marks errors lines₂ found₂ a b d e n differ lines found same h;
      replaced = last_pair ledger marks errors;
      cleared = cleared_by ledger marks errors;
    }
