-- Writing on a page: one text after another is one text, what a loop that writes has left to write, and that a text for which there is
-- room stands at the start of the page. Assumes nothing.
use Prim.Native.Nat.{ℕ, suc, ◌+◌, ◌≤◌, ◌<◌}
use mathlib.Core.Path.{◌≡◌, refl, sym, ap, ◌∙◌}
use mathlib.Core.Bool.{Bool, true, false}
use lib.Dec.{ltb}
use lib.IntN.{ℤ, pos}
use lib.Signed.{lt_z}
use mir.Syntax.{w64}
use mir.Val.{SFits}
use Rattle.signed.specs.Errors.{size_of}
use Rattle.signed.proofs.Signs.{held, kind_read, size_read}
use Rattle.terms.specs.Numbers.{pick}
use Rattle.pen.specs.Text.{decimal, sized_text, signed_text, fields, line, more}
use mathlib.Core.List.{List, [], ◌∷◌, ◌++◌, map, append_assoc, append-nil}
use native.Mathlib.Omega.{arith}
use native.Mathlib.Numerals.{add-one}
use borrow.Author.Tests.{lt-ltb, le-ltb}
use lib.ListN.{length, get_or, set, drop, length-set, length-append, drop_of_length-le}
use lib.Seq.{sets, sets-eq, drop-cons, length-take-le}
use Rattle.pen.specs.Page.{Page, page, put, write, Wrote, Printed}

pub write_append : (p : Page) (x y : List ℕ) → write p (x ++ y) ≡ write (write p x) y
unfolding write
write_append p [] y = refl
write_append p (b ∷ x) y = write_append (put p b) x y

-- what is written next goes on from what was written
infixr 50 ◌⨾◌
pub ◌⨾◌ : {o o' o'' : List ℕ} {a a' a'' : ℕ} {x y : List ℕ} → Wrote o a x o' a' → Wrote o' a' y o'' a'' → Wrote o a (x ++ y) o'' a''
◌⨾◌ {o} {o'} {o''} {a} {a'} {a''} {x} {y} u v =
    record { same = v.same ∙ ap (λ (q : Page). write q y) u.same ∙ sym (write_append (page o a) x y) }

pub nothing : {o : List ℕ} {a : ℕ} → Wrote o a [] o a
unfolding write
nothing = record { same = refl }

-- one byte, by the room
pub byte_put : (b : ℕ) {o : List ℕ} {a : ℕ} → a < length o → Wrote o a (b ∷ []) (set o a b) (a + 1)
unfolding put write
byte_put b {o} {a} h = record { same = simp (lt-ltb a (length o) h) }

pub byte_past : (b : ℕ) {o : List ℕ} {a : ℕ} → length o ≤ a → Wrote o a (b ∷ []) o a
unfolding put write
byte_past b {o} {a} h = record { same = simp (le-ltb a (length o) h) }

pub length_put : (p : Page) (b : ℕ) → length (put p b).bytes ≡ length p.bytes
unfolding put
length_put p b = go (ltb p.at (length p.bytes))
  where
    go : (t : Bool) → length (pick t (page (set p.bytes p.at b) (p.at + 1)) p).bytes ≡ length p.bytes
    go true = length-set p.bytes p.at b
    go false = refl

length_write : (p : Page) (x : List ℕ) → length (write p x).bytes ≡ length p.bytes
unfolding write
length_write p [] = refl
length_write p (b ∷ x) = length_write (put p b) x ∙ length_put p b

pub length_wrote : {o o' : List ℕ} {a a' : ℕ} {x : List ℕ} → Wrote o a x o' a' → length o' ≡ length o
length_wrote {o} {o'} {a} {a'} {x} w = ap (λ (p : Page). length p.bytes) w.same ∙ length_write (page o a) x

-- where there is room, the bytes stand in their place and nothing else has changed
pub written : (o : List ℕ) (at : ℕ) (x : List ℕ) → at + length x ≤ length o → write (page o at) x ≡ page (sets o at x) (at + length x)
unfolding write put
written o at [] h = λ i. page o (zeroed i)
  where
    zeroed : at ≡ at + 0
    zeroed = omega arith
written o at (b ∷ x) h =
    let room : at < length o = omega arith in
    let fits : suc at + length x ≤ length (set o at b) = rw (length-set o at b) (omega arith) in
    let next : suc at + length x ≡ at + suc (length x) = omega arith in
    rw (lt-ltb at (length o) room, add-one at) (written (set o at b) (suc at) x fits ∙ ap (λ (n : ℕ). page (sets (set o at b) (suc at) x) n) next)

pub written_front : (o x : List ℕ) → length x ≤ length o → write (page o 0) x ≡ page (x ++ drop (length x) o) (length x)
written_front o x h =
    let none : 0 + length x ≡ length x = omega arith in
    let room : 0 + length x ≤ length o = omega arith in
    rw none at (written o 0 x room ∙ ap (λ (l : List ℕ). page l (0 + length x)) (sets-eq x o 0 room))

-- a loop that writes: `rest` is left to write, and writing it gives the whole
pub record Left (old : List ℕ) (at : ℕ) (text new : List ℕ) (next : ℕ) (rest : List ℕ) : Type 0 where
  pub kept : length new ≡ length old
  pub same : write (page new next) rest ≡ write (page old at) text

pub left_all : {o : List ℕ} {a : ℕ} {text : List ℕ} → Left o a text o a text
left_all = record { kept = refl; same = refl }

pub left_more : {o o' o'' : List ℕ} {a a' a'' : ℕ} {text x rest rest' : List ℕ} → Left o a text o' a' rest → rest ≡ x ++ rest'
    → Wrote o' a' x o'' a'' → Left o a text o'' a'' rest'
left_more {o} {o'} {o''} {a} {a'} {a''} {text} {x} {rest} {rest'} l e w =
    record {
      kept = length_wrote w ∙ l.kept;
      same = ap (λ (q : Page). write q rest') w.same ∙ sym (write_append (page o' a') x rest') ∙ ap (λ (y : List ℕ). write (page o' a') y) (sym e) ∙ l.same;
    }

pub left_none : {o o' : List ℕ} {a a' : ℕ} {text rest : List ℕ} → Left o a text o' a' rest → rest ≡ [] → Wrote o a text o' a'
unfolding write
left_none {o} {o'} {a} {a'} {text} {rest} l e = record { same = ap (λ (y : List ℕ). write (page o' a') y) (sym e) ∙ l.same }

-- the rests of the loops over bytes and over numbers
bytes_more : (l : List ℕ) (i : ℕ) → i < length l → drop i l ≡ (get_or l i 0 ∷ []) ++ drop (i + 1) l
bytes_more l i h = rw (add-one i) (drop-cons l i 0 h)

bytes_none : (l : List ℕ) (i : ℕ) → length l ≤ i → drop i l ≡ []
bytes_none l i h = drop_of_length-le l h

fields_more : (l : List ℕ) (i : ℕ) → i < length l → fields (drop i l) ≡ (32 ∷ decimal (get_or l i 0)) ++ fields (drop (i + 1) l)
unfolding fields
fields_more l i h = rw (add-one i, drop-cons l i 0 h) refl

fields_none : (l : List ℕ) (i : ℕ) → length l ≤ i → fields (drop i l) ≡ []
unfolding fields
fields_none l i h = rw (drop_of_length-le l h) refl

-- those loops: before a turn, one turn on, and at the end
module _ {o o' : List ℕ} {a a' : ℕ} {text : List ℕ} (l : List ℕ) (i : ℕ) where
  pub byte_laid : {o'' : List ℕ} {a'' : ℕ} → Left o a text o' a' (drop i l) → i < length l → Wrote o' a' (get_or l i 0 ∷ []) o'' a'' → Left o a text o'' a'' (drop (i + 1) l)
  byte_laid left h w = left_more left (bytes_more l i h) w

  pub bytes_laid : Left o a text o' a' (drop i l) → length l ≤ i → Wrote o a text o' a'
  bytes_laid left h = left_none left (bytes_none l i h)

  pub field_laid : {o'' : List ℕ} {a'' : ℕ} → Left o a text o' a' (fields (drop i l)) → i < length l → Wrote o' a' (32 ∷ decimal (get_or l i 0)) o'' a'' → Left o a text o'' a'' (fields (drop (i + 1) l))
  field_laid left h w = left_more left (fields_more l i h) w

  pub fields_laid : Left o a text o' a' (fields (drop i l)) → length l ≤ i → Wrote o a text o' a'
  fields_laid left h = left_none left (fields_none l i h)

-- numbers, and further words after them
more_parts : (ns : List ℕ) (ws : List (List ℕ)) → more (map decimal ns ++ ws) ≡ fields ns ++ more ws
unfolding fields
more_parts [] ws = refl
more_parts (n ∷ ns) ws =
    ap (λ (l : List ℕ). 32 ∷ l) (ap (λ (l : List ℕ). decimal n ++ l) (more_parts ns ws) ∙ sym (append_assoc (decimal n) (fields ns) (more ws)))

pub words_parts : (w ns : List ℕ) (ws : List (List ℕ)) → line (w ∷ (map decimal ns ++ ws)) ≡ w ++ (fields ns ++ more ws)
words_parts w ns ws = ap (λ (l : List ℕ). w ++ l) (more_parts ns ws)

pub line_parts : (w ns : List ℕ) → line (w ∷ map decimal ns) ≡ w ++ (fields ns ++ (10 ∷ []))
line_parts w ns = ap (λ (ws : List (List ℕ)). line (w ∷ ws)) (sym (append-nil (map decimal ns))) ∙ words_parts w ns []

-- the same text, otherwise said
pub as_text : {o o' : List ℕ} {a a' : ℕ} {x y : List ℕ} → y ≡ x → Wrote o a x o' a' → Wrote o a y o' a'
as_text {o} {o'} {a} {a'} e w = rw e w

-- the parts of the pen's own texts
pub after_space : {o o' o'' : List ℕ} {a a' a'' : ℕ} {x : List ℕ} → Wrote o a (32 ∷ []) o' a' → Wrote o' a' x o'' a'' → Wrote o a (32 ∷ x) o'' a''
after_space u v = u ⨾ v

-- a size with its sign
pub sized_under : {o o' o'' : List ℕ} {a a' a'' : ℕ} (n : ℕ) {u : Bool} → u ≡ true → Wrote o a (45 ∷ []) o' a' → Wrote o' a' (decimal n) o'' a''
    → Wrote o a (sized_text n u) o'' a''
unfolding sized_text
sized_under n is minus number = as_text (ap (sized_text n) is) (minus ⨾ number)

pub sized_over : {o o' : List ℕ} {a a' : ℕ} (n : ℕ) {u : Bool} → u ≡ false → Wrote o a (decimal n) o' a' → Wrote o a (sized_text n u) o' a'
unfolding sized_text
sized_over n is number = as_text (ap (sized_text n) is) number

-- a signed number by the size and the sign that were read of it
pub signed_read : (e : ℤ) {n : ℕ} → SFits w64 e → n ≡ size_of (held e) → signed_text e ≡ sized_text n (lt_z (held e) (pos 0))
unfolding signed_text
signed_read e fits size = λ i. sized_text (sym (size_read e fits.sfits size) i) (kind_read e fits.sfits refl i)

pub signed_laid : {o o' : List ℕ} {a a' : ℕ} (e : ℤ) {n : ℕ} → SFits w64 e → n ≡ size_of (held e) → Wrote o a (sized_text n (lt_z (held e) (pos 0))) o' a'
    → Wrote o a (signed_text e) o' a'
signed_laid e fits size written = as_text (signed_read e fits size) written

pub line_laid : (ns : List ℕ) {o o₁ o₂ o₃ w : List ℕ} {a a₁ a₂ a₃ : ℕ} → Wrote o a w o₁ a₁ → Wrote o₁ a₁ (fields ns) o₂ a₂ → Wrote o₂ a₂ (10 ∷ []) o₃ a₃
    → Wrote o a (line (w ∷ map decimal ns)) o₃ a₃
line_laid ns {w = w} opened filled ended = as_text (line_parts w ns) (opened ⨾ filled ⨾ ended)

-- a line that goes on after its numbers
pub words_laid : (ns : List ℕ) (ws : List (List ℕ)) {o o₁ o₂ o₃ w : List ℕ} {a a₁ a₂ a₃ : ℕ} → Wrote o a w o₁ a₁ → Wrote o₁ a₁ (fields ns) o₂ a₂ → Wrote o₂ a₂ (more ws) o₃ a₃
    → Wrote o a (line (w ∷ (map decimal ns ++ ws))) o₃ a₃
words_laid ns ws {w = w} opened filled ended = as_text (words_parts w ns ws) (opened ⨾ filled ⨾ ended)

-- with enough room, from the start of the page
pub printed : (text old : List ℕ) (r : ℕ) (new : List ℕ) → length text ≤ length old → Wrote old 0 text new r → Printed text old r new
printed text old r new h w =
    let whole = w.same ∙ written_front old text h in
    let at : r ≡ length text = ap (λ (p : Page). p.at) whole in
    let here : new ≡ text ++ drop (length text) old = ap (λ (p : Page). p.bytes) whole in
    let room : r ≤ length new = rw (at, here, length-append text (drop (length text) old)) (omega arith) in
    record { counted = at; whole = here; within = room; front = sym (length-take-le r new room) }

-- any two printings of one text agree
pub printed_once : {text old new₁ new₂ : List ℕ} {r₁ r₂ : ℕ} → Printed text old r₁ new₁ → Printed text old r₂ new₂ → (r₁ ≡ r₂) × (new₁ ≡ new₂)
printed_once p q = (p.counted ∙ sym q.counted, p.whole ∙ sym q.whole)
