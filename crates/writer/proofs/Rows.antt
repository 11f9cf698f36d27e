-- The loops over a list: what is left to lay, to count or to add of it from a line on. Assumes nothing.
use Prim.Native.Nat.{ℕ, suc, ◌+◌, ◌*◌, ◌^◌, ◌<◌, ◌≤◌}
use Rattle.std.specs.Prelude.{Some, None}
use mathlib.Core.Path.{◌≡◌, refl, ap, ap₂, subst, sym, ◌∙◌}
use mathlib.Core.Bool.{Bool}
use mathlib.Core.List.{List, [], ◌∷◌, ◌++◌, map}
use native.Mathlib.Omega.{arith}
use native.Mathlib.Numerals.{add-one}
use borrow.Author.Tests.{lt-ltb, le-ltb}
use lib.ListN.{length, get_or, drop, length-append, drop_of_length-le}
use lib.IntN.{ℤ, pos}
use lib.Signed.{mag, lt_z}
use mir.Syntax.{w64}
use mir.Val.{SFits}
use lib.Seq.{drop-cons}
use Rattle.terms.specs.Numbers.{sum}
use Rattle.signed.specs.Errors.{size_of, is_under}
use Rattle.signed.proofs.Signs.{held, kept, kind_read, size_read}
use Rattle.workfile.specs.Numbers.{bytes}
use Rattle.workfile.specs.Content.{error_kind, bytes_of, bytes_of_all, error_record, error_records, sum_bound}
use Rattle.workfile.specs.declared.FileRecord.{FileRecord}
use Rattle.workfile.specs.declared.FileRecord.TheVariants.{Word, Value}
use Rattle.workfile.proofs.Lists.{bytes_append, some_record, errors_append, length_errors}
use Rattle.writer.specs.Parts.{Laid, rows, error_bytes, total_of}
use Rattle.writer.proofs.Laying.{laid_none, Left, left_start, left_on, left_room, left_done}

more : {A : Type 0} (l : List A) (i : ℕ) (d : A) → i < length l → drop i l ≡ get_or l i d ∷ drop (i + 1) l
more l i d h = drop-cons l i d h ∙ ap (λ (n : ℕ). get_or l i d ∷ drop n l) (sym (add-one i))

-- a record of one kind for each number
rows_more : (kind : ℕ) (l : List ℕ) (i : ℕ) → i < length l → rows kind (drop i l) ≡ (kind ∷ bytes 8 (get_or l i 0)) ++ rows kind (drop (i + 1) l)
unfolding rows
rows_more kind l i h = ap (rows kind) (more l i 0 h)

rows_none : (kind : ℕ) (l : List ℕ) (i : ℕ) → length l ≤ i → rows kind (drop i l) ≡ []
unfolding rows
rows_none kind l i h = ap (rows kind) (drop_of_length-le l h)

pub length_rows : (kind : ℕ) (l : List ℕ) → length (rows kind l) ≡ 9 * length l
unfolding rows
length_rows kind [] = refl
length_rows kind (x ∷ l) = omega (arith, length_rows kind l)

pub rows_end : {f g : List ℕ} {at next : ℕ} (kind : ℕ) (l : List ℕ) → Laid f at (rows kind l) g next → next ≡ at + 9 * length l
rows_end kind l p = p.ends ∙ omega (arith, length_rows kind l)

pub rows_words : (ws : List ℕ) → rows 0x57 ws ≡ bytes_of_all (map Word ws)
unfolding rows
rows_words [] = refl
rows_words (w ∷ ws) = ap (λ (l : List ℕ). bytes_of (Word w) ++ l) (rows_words ws)

pub rows_values : (vs : List ℕ) → rows 0x4C vs ≡ bytes_of_all (map Value vs)
unfolding rows
rows_values [] = refl
rows_values (v ∷ vs) = ap (λ (l : List ℕ). bytes_of (Value v) ++ l) (rows_values vs)

-- those from i on are left to lay
pub record RowsLeft (file₀ : List ℕ) (at kind : ℕ) (list file : List ℕ) (i to : ℕ) : Type 0 where
  pub within : i ≤ length list
  pub to_lay : Left file₀ at (rows kind list) file to (rows kind (drop i list))

module _ {file₀ : List ℕ} {at kind : ℕ} {list file : List ℕ} {i to : ℕ} (l : RowsLeft file₀ at kind list file i to) where
  pub rows_room : i < length list → at + 9 * length list ≤ length file₀ → to + 9 ≤ length file
  rows_room h room =
      let xs = kind ∷ bytes 8 (get_or list i 0) in
      omega (arith, left_room l.to_lay xs (rows kind (drop (i + 1) list)) (rows_more kind list i h), l.to_lay.long, length_rows kind list)

  pub rows_on : {file' : List ℕ} {to' : ℕ} → i < length list → Laid file to (kind ∷ bytes 8 (get_or list i 0)) file' to' → RowsLeft file₀ at kind list file' (i + 1) to'
  rows_on h w =
      record { within = omega arith; to_lay = left_on l.to_lay (kind ∷ bytes 8 (get_or list i 0)) (rows kind (drop (i + 1) list)) (rows_more kind list i h) w }

  pub rows_done : length list ≤ i → Laid file₀ at (rows kind list) file to
  rows_done h = left_done l.to_lay (rows_none kind list i h)

-- an E or a U for each error other than 0: none, or one of its kind and size
no_error : (i : ℕ) (e : ℤ) → size_of e ≡ 0 → error_bytes i (e ∷ []) ≡ []
unfolding error_bytes
no_error i e h = ap (λ (n : ℕ). bytes_of_all (error_record i (is_under e) n ++ [])) h

an_error : (i : ℕ) (e : ℤ) → 0 < size_of e → error_bytes i (e ∷ []) ≡ error_kind (is_under e) ∷ (bytes 4 i ++ bytes 8 (size_of e))
unfolding error_bytes
an_error i e h = ap (λ (l : List FileRecord). bytes_of_all (l ++ [])) (some_record i (is_under e) (size_of e) h)

-- the bytes of one error, from the test and the size of what was read
module _ (line : ℕ) (e : ℤ) (fits : SFits w64 e) where
  module _ {n : ℕ} (told : n ≡ size_of (held e)) where
    same : n ≡ size_of e
    same = size_read e fits.sfits told

    pub none_laid : (f : List ℕ) (at : ℕ) → n ≡ 0 → Laid f at (error_bytes line (e ∷ [])) f at
    none_laid f at h = subst (λ (l : List ℕ). Laid f at l f at) (sym (no_error line e (sym same ∙ h))) (laid_none f at)

    pub some_room : (at room : ℕ) → (n ≡ 0 → ⊥) → at + length (error_bytes line (e ∷ [])) ≤ room → at + 13 ≤ room
    some_room at room h r = let some : 0 < size_of e = omega (arith, same) in omega (arith, ap length (an_error line e some))

    pub kind_laid : {f g : List ℕ} {at next kind : ℕ} (u : Bool) → lt_z (held e) (pos 0) ≡ u → (n ≡ 0 → ⊥) → kind ≡ error_kind u
        → Laid f at (kind ∷ (bytes 4 line ++ bytes 8 n)) g next → Laid f at (error_bytes line (e ∷ [])) g next
    kind_laid {f} {g} {at} {next} {kind} u test some is w =
        let spelled : kind ∷ (bytes 4 line ++ bytes 8 n) ≡ error_bytes line (e ∷ []) =
        ap (λ (k : ℕ). k ∷ (bytes 4 line ++ bytes 8 n)) is
        ∙ ap₂ (λ (b : Bool) (m : ℕ). error_kind b ∷ (bytes 4 line ++ bytes 8 m)) (sym (kind_read e fits.sfits test)) same ∙ sym (an_error line e (omega (arith, same))) in
        subst (λ (l : List ℕ). Laid f at l g next) spelled w

errors_more : (es : List ℤ) (i : ℕ) → i < length es → error_bytes i (drop i es) ≡ error_bytes i (get_or es i (pos 0) ∷ []) ++ error_bytes (i + 1) (drop (i + 1) es)
unfolding error_bytes
errors_more es i h =
    let x = get_or es i (pos 0) in
    let rest = drop (i + 1) es in
    ap (λ (l : List ℤ). bytes_of_all (error_records i l)) (more es i (pos 0) h)
    ∙ ap bytes_of_all (errors_append i (x ∷ []) rest) ∙ bytes_append (error_records i (x ∷ [])) (error_records (i + 1) rest)

errors_none : (es : List ℤ) (i : ℕ) → length es ≤ i → error_bytes i (drop i es) ≡ []
unfolding error_bytes
errors_none es i h = ap (λ (l : List ℤ). bytes_of_all (error_records i l)) (drop_of_length-le es h)

pub length_error_bytes : (es : List ℤ) → length (error_bytes 0 es) ≡ 13 * length (error_records 0 es)
unfolding error_bytes
length_error_bytes es = length_errors 0 es

-- those from a line on are left to lay
pub record ErrorsLeft (file₀ : List ℕ) (at : ℕ) (errors : List ℤ) (file : List ℕ) (line to : ℕ) : Type 0 where
  pub within : line ≤ length errors
  pub to_lay : Left file₀ at (error_bytes 0 errors) file to (error_bytes line (drop line errors))

pub errors_start : (file : List ℕ) (at : ℕ) (errors : List ℤ) → ErrorsLeft file at errors file 0 at
errors_start file at errors = record { within = omega arith; to_lay = left_start file at (error_bytes 0 errors) }

module _ {file₀ : List ℕ} {at : ℕ} {file : List ℕ} {errors : List ℤ} {line to : ℕ} (l : ErrorsLeft file₀ at errors file line to) where
  pub errors_done : length errors ≤ line → Laid file₀ at (error_bytes 0 errors) file to
  errors_done h = left_done l.to_lay (errors_none errors line h)

  -- one turn, with the error as it was read
  module _ (h : line < length errors) (fits : mag (get_or errors line (pos 0)) < 2 ^ 63) where
    abbrev rest : List ℕ
    rest = error_bytes (line + 1) (drop (line + 1) errors)

    next : error_bytes line (drop line errors) ≡ error_bytes line (held (get_or errors line (pos 0)) ∷ []) ++ rest
    next = errors_more errors line h ∙ ap (λ (e : ℤ). error_bytes line (e ∷ []) ++ rest) (sym (kept (get_or errors line (pos 0)) fits))

    pub errors_room : at + length (error_bytes 0 errors) ≤ length file₀ → to + length (error_bytes line (held (get_or errors line (pos 0)) ∷ [])) ≤ length file
    errors_room room = omega (arith, left_room l.to_lay (error_bytes line (held (get_or errors line (pos 0)) ∷ [])) rest next, l.to_lay.long)

    pub errors_on : {file' : List ℕ} {to' : ℕ} → Laid file to (error_bytes line (held (get_or errors line (pos 0)) ∷ [])) file' to' → ErrorsLeft file₀ at errors file' (line + 1) to'
    errors_on w = record { within = omega arith; to_lay = left_on l.to_lay (error_bytes line (held (get_or errors line (pos 0)) ∷ [])) rest next w }

-- the count of the errors that are not 0: what is left to count adds to it
pub record CountLeft (errors : List ℤ) (line count : ℕ) : Type 0 where
  pub within : line ≤ length errors
  pub few : count ≤ line
  pub same : count + length (error_records line (drop line errors)) ≡ length (error_records 0 errors)

module _ {errors : List ℤ} {line count : ℕ} (l : CountLeft errors line count) where
  pub count_done : length errors ≤ line → count ≡ length (error_records 0 errors)
  count_done h = omega (arith, l.same, ap (λ (x : List ℤ). length (error_records line x)) (drop_of_length-le errors h))

  -- one turn, with the size that was told of what was read
  module _ (h : line < length errors) {n : ℕ} (fits : mag (get_or errors line (pos 0)) < 2 ^ 63) (told : n ≡ size_of (held (get_or errors line (pos 0)))) where
    abbrev e : ℤ
    e = get_or errors line (pos 0)

    abbrev first : List FileRecord
    first = error_record line (is_under e) (size_of e)

    counted : length (error_records line (drop line errors)) ≡ length first + length (error_records (line + 1) (drop (line + 1) errors))
    counted =
        ap (λ (x : List ℤ). length (error_records line x)) (more errors line (pos 0) h)
        ∙ length-append first (error_records (suc line) (drop (line + 1) errors))
        ∙ ap (λ (k : ℕ). length first + length (error_records k (drop (line + 1) errors))) (sym (add-one line))

    pub count_one : (n ≡ 0 → ⊥) → CountLeft errors (line + 1) (count + 1)
    count_one p =
        let some : 0 < size_of e = omega (arith, size_read e fits told, p) in
        record { within = omega arith; few = omega (arith, l.few); same = omega (arith, l.same, counted, ap length (some_record line (is_under e) (size_of e) some)) }

    pub count_none : n ≡ 0 → CountLeft errors (line + 1) count
    count_none p =
        let none : size_of e ≡ 0 = omega (arith, size_read e fits told) in
        record { within = omega arith; few = omega (arith, l.few); same = omega (arith, l.same, counted, ap (λ (k : ℕ). length (error_record line (is_under e) k)) none) }

-- the running sum: that of the lines from one on is left to add
pub record SumLeft (values : List ℕ) (line total : ℕ) : Type 0 where
  pub within : line ≤ length values
  pub same : total + sum (drop line values) ≡ sum values
  pub small : total < sum_bound

module _ {values : List ℕ} {line total : ℕ} (l : SumLeft values line total) where
  pub sum_past : line < length values → 2 ^ 64 ≤ total + get_or values line 0 → None ≡ total_of values
  unfolding total_of
  sum_past h p = rw (le-ltb (sum values) sum_bound (omega (arith, l.same, l.small, ap sum (more values line 0 h))))

  pub sum_on : line < length values → total + get_or values line 0 < 2 ^ 64 → SumLeft values (line + 1) (total + get_or values line 0)
  sum_on h p = record { within = omega arith; same = omega (arith, l.same, ap sum (more values line 0 h)); small = omega (arith, l.small) }

  pub sum_done : length values ≤ line → Some total ≡ total_of values
  unfolding total_of
  sum_done h =
      let e : total ≡ sum values = omega (arith, l.same, ap sum (drop_of_length-le values h)) in
      rw (← e, lt-ltb total sum_bound l.small)
