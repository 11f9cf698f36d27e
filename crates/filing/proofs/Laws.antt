-- What files in a row come to: the figures of the tally are those of the list of the files, and a file that its Z ends is legal. Assumes nothing.
use Prim.Native.Nat.{ℕ}
use mathlib.Core.Path.{◌≡◌, refl, sym, ap, subst}
use mathlib.Core.List.{List, [], ◌∷◌, ◌++◌, append_assoc}
use Rattle.terms.specs.Outcome.{Outcome, accepted, refused, after}
use Rattle.terms.proofs.Outcomes.{never, Gives, gives_after}
use Rattle.season.specs.declared.Tally.{Tally}
use Rattle.season.specs.Tally.{Entry, no_tally}
use Rattle.season.specs.Add.{add_of}
use Rattle.season.specs.Figures.{Tells, more}
use Rattle.season.proofs.Growth.{tells_nothing}
use Rattle.season.proofs.Laws.{add_numbers, add_gives, added_tells}
use Rattle.filing.specs.Filing.{entries_of, add_all, files_of}

append_none : (l : List Entry) → l ++ [] ≡ l
append_none [] = refl
append_none (e ∷ l) = ap (λ (m : List Entry). e ∷ m) (append_none l)

tells_step : (l : List Entry) (e : Entry) (es : List Entry) {u : Tally} (t : Tally) → Tells l t → (o : Outcome Tally) → add_of t e ≡ o → after (λ v. add_all v es) o ≡ accepted u →
    ((m : List Entry) (v : Tally) → Tells m v → add_all v es ≡ accepted u → Tells (m ++ es) u) → Tells (l ++ (e ∷ es)) u
tells_step l e es {u} t told (accepted v) is f again = subst (λ (m : List Entry). Tells m u) (append_assoc l (e ∷ []) es) (again (more l e) v (added_tells told e is) f)
tells_step l e es t told (refused n p) is f again = never f

tells_all : (es l : List Entry) (t : Tally) {u : Tally} → Tells l t → add_all t es ≡ accepted u → Tells (l ++ es) u
unfolding add_all
tells_all [] l t {u} told f = let same : t ≡ u = cc in subst (λ (m : List Entry). Tells m u) (sym (append_none l)) (subst (λ (v : Tally). Tells l v) same told)
tells_all (e ∷ es) l t told f = tells_step l e es t told (add_of t e) refl f (λ m v k g. tells_all es m v k g)

-- where no file is refused by the tally itself, every figure is what the list of all files gives
pub files_tell : (files : List ℕ) {t : Tally} → files_of files ≡ accepted t → Tells (entries_of files) t
unfolding files_of
files_tell files f = tells_all (entries_of files) [] no_tally tells_nothing f

-- the refusals that a row of files can meet are those of the tally
all_give : (t : Tally) (es : List Entry) → Gives add_numbers (add_all t es)
unfolding add_all
all_give t [] = tt
all_give t (e ∷ es) = gives_after add_numbers (λ u. add_all u es) (add_of t e) (add_gives t e) (λ u. all_give u es)

pub files_give : (files : List ℕ) → Gives add_numbers (files_of files)
unfolding files_of
files_give files = all_give no_tally (entries_of files)
