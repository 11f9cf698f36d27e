-- From the parser's and the strata's answers to what is replied. Assumes nothing.
use Prim.Native.Nat.{ℕ, ◌≤◌, min}
use mathlib.Core.Path.{◌≡◌, refl, sym, ap, subst, ◌∙◌}
use mathlib.Core.List.{List}
use mathlib.Core.Logic.{⊎_elim}
use native.Mathlib.Omega.{arith}
use lib.IntN.{ℤ}
use lib.ListN.{length, take, drop, length-append}
use lib.Seq.{length-take-le}
use Rattle.terms.proofs.Tests.{le_or_lt}
use Rattle.records.proofs.Judging.{clash}
use Rattle.workfile.specs.Content.{Content}
use Rattle.workfile.specs.Promises.{Rooms}
use Rattle.workfile.specs.declared.Contents.{Contents}
use Rattle.entry.specs.declared.Notation.TheVariants.{Programmes}
use Rattle.notation.specs.Contents.{Reading, says, faulty, reads}
use Rattle.notation.specs.Parse.{ParsePromise}
use Rattle.notation.specs.declared.Fault.{Fault}
use Rattle.notation.proofs.Held.{fault_told, AtParsed, content, content_told, counts_told, words_held, values_held, errors_held}
use Rattle.divided.specs.Divided.{divided_of, laid, no_counts, stored_in}
use Rattle.divided.specs.declared.Divided.{Divided}
use Rattle.divided.proofs.Laws.{stored_front, stored_many}
use Rattle.pen.specs.Page.{Wrote}
use Rattle.pen.proofs.Writing.{printed}
use Rattle.handout.specs.Handout.{handout_text, room_for}
use Rattle.handout.proofs.Laws.{too_many}
use Rattle.reply.specs.Reply.{onward, content_reply, reply_of, HasRoom, ReplyPromise}
use Rattle.std.specs.Prelude.{Result, Ok, Err}

-- a fault is the reply
faulted : {o : Reading (List ℕ)} {fault : Fault} (page : List ℕ) → o ≡ faulty fault.wrong fault.line → ReplyPromise o page (Err fault) page
faulted page e = rw e (record { answer = refl; page_left = refl })

-- a promise of one outcome is that of the same
pub moved : {o o' : Reading (List ℕ)} {page page' : List ℕ} {r : Result ℕ Fault} → o ≡ o' → ReplyPromise o page r page' → ReplyPromise o' page r page'
moved {o} {o'} {page} {page'} {r} e p = subst (λ (x : Reading (List ℕ)). ReplyPromise x page r page') e p

-- the counts that are stored print the sheet of all: past 33 both are refused
stored_text : (draws : ℕ) (counts words values : List ℕ) (errors : List ℤ) →
    handout_text draws (take (min (length counts) 33) (laid no_counts counts)) words values errors ≡ handout_text draws counts words values errors
stored_text draws counts words values errors =
    ⊎_elim
    (λ few. let many : min (length counts) 33 ≡ length counts = omega (arith, few) in
    ap (λ l. handout_text draws l words values errors) (ap (λ k. take k (laid no_counts counts)) many ∙ stored_front no_counts counts (omega (arith, few))))
    (λ past. let many : min (length counts) 33 ≡ 33 = omega (arith, past) in
    let stored : length (take (min (length counts) 33) (laid no_counts counts)) ≡ 33 =
    ap (λ k. length (take k (laid no_counts counts))) many ∙ length-take-le 33 (laid no_counts counts) (omega (arith, stored_many no_counts counts)) in
    too_many draws (take (min (length counts) 33) (laid no_counts counts)) words values errors (omega (arith, stored))
    ∙ sym (too_many draws counts words values errors (omega (arith, past))))
    (le_or_lt (length counts) 33)

-- what was divided
strata_faulty : (o : Reading (List ℕ)) {fault : Fault} → Err fault ≡ stored_in o → o ≡ faulty fault.wrong fault.line
unfolding stored_in
strata_faulty (says counts) e = clash (cc)
strata_faulty (faulty wrong line) e = cc

strata_told : (o : Reading (List ℕ)) {d : Divided} → Ok d ≡ stored_in o → (counts : List ℕ) × (o ≡ says counts) × (length counts ≡ d.strata) × (d.counts ≡ laid no_counts counts)
unfolding stored_in
strata_told (says counts) {d} e =
    let same : d ≡ record { strata = length counts; counts = laid no_counts counts } = cc in
    (counts, refl, sym (ap (λ (d : Divided). d.strata) same), ap (λ (d : Divided). d.counts) same)
strata_told (faulty wrong line) e = clash (cc)

-- as `reply_content` meets the strata
module _ (text : List ℕ) (draws : ℕ) (words values : List ℕ) (errors : List ℤ) (page : List ℕ) where
  pub content_faulty : {fault : Fault} → Err fault ≡ stored_in (divided_of text) → ReplyPromise (content_reply draws words values errors text) page (Err fault) page
  unfolding content_reply
  content_faulty f = faulted page (ap (onward (λ counts. says (handout_text draws counts words values errors))) (strata_faulty (divided_of text) f))

-- the part of the counts that is lent
pub lent_fits : (text : List ℕ) {d : Divided} → Ok d ≡ stored_in (divided_of text) → {stored : ℕ} → stored ≡ min d.strata 33 → stored ≤ length d.counts
lent_fits text f is = let t = strata_told (divided_of text) f in omega (arith, is, ap length t.3, stored_many no_counts t.0)

module _ (text : List ℕ) (draws : ℕ) (words values : List ℕ) (errors : List ℤ) (page : List ℕ) {d : Divided} (f : Ok d ≡ stored_in (divided_of text)) where
  pub content_printed : HasRoom values page → {stored first at : ℕ} {page' : List ℕ} → stored ≡ min d.strata 33 →
      Wrote page first (handout_text draws (take stored d.counts) words values errors) page' at
      × (length (handout_text draws (take stored d.counts) words values errors) ≤ room_for (length values) (length (take stored d.counts))) →
      first ≡ 0 → ReplyPromise (content_reply draws words values errors text) page (Ok at) page'
  unfolding content_reply room_for
  content_printed has {stored} {first} {at} {page'} is w front =
      let t = strata_told (divided_of text) f in
      let own : take stored d.counts ≡ take (min (length t.0) 33) (laid no_counts t.0) =
      (λ i. take ((is ∙ ap (λ (k : ℕ). min k 33) (sym t.2)) i) (t.3 i)) in
      let same : handout_text draws (take stored d.counts) words values errors ≡ handout_text draws t.0 words values errors =
      ap (λ l. handout_text draws l words values errors) own ∙ stored_text draws t.0 words values errors in
      let p = printed _ _ _ _ (omega (arith, w.1, has.few, has.room)) (subst (λ (k : ℕ). Wrote page k (handout_text draws (take stored d.counts) words values errors) page' at) front w.0) in
      moved (ap says same ∙ sym (ap (onward (λ counts. says (handout_text draws counts words values errors))) t.1))
      (record { answer = ap says p.counted; page_left = p.whole })

-- as `reply` meets the parser
pub text_faulty : {text w v w' v' : List ℕ} {e e' : List ℤ} (page : List ℕ) → Rooms w v e → {fault : Fault} → ParsePromise Programmes text w v e (Err fault) w' v' e' →
    ReplyPromise (reply_of text) page (Err fault) page
unfolding reply_of
text_faulty {text} page rooms p =
    faulted page (ap (onward (λ (c : Content). content_reply c.plan.ae c.words c.values c.errors text)) (fault_told rooms p))

module _ {text : List ℕ} {k : Contents} {w v : List ℕ} {e : List ℤ} (at : AtParsed Programmes text k w v e) where
  pub text_replied : {draws : ℕ} {page page' : List ℕ} {r : Result ℕ Fault} →
      ReplyPromise (content_reply draws (take k.words w) (take k.lines v) (take k.lines e) text) page r page' → draws ≡ k.ae → ReplyPromise (reply_of text) page r page'
  unfolding reply_of
  text_replied {draws} p is =
      let own : draws ≡ (content at).plan.ae = is ∙ sym (ap (λ (x : Contents). x.ae) (counts_told at)) in
      moved
      ((λ i. content_reply (own i) (words_held at i) (values_held at i) (errors_held at i) text)
      ∙ sym (ap (onward (λ (c : Content). content_reply c.plan.ae c.words c.values c.errors text)) (content_told at)))
      p

-- a sheet that was printed fits the page
pub printed_fits : (o : Reading (List ℕ)) {page page' : List ℕ} {r : Result ℕ Fault} {bytes : ℕ} → ReplyPromise o page r page' → r ≡ Ok bytes → bytes ≤ length page'
printed_fits (says sheet) {page} {page'} {r} {bytes} p e =
    let told : says bytes ≡ says (length sheet) = sym (ap reads e) ∙ p.answer in
    let many : bytes ≡ length sheet = cc in
    omega (arith, many, ap length p.page_left, length-append sheet (drop (length sheet) page))
printed_fits (faulty wrong line) p e = clash (let told = sym (ap reads e) ∙ p.answer in cc)
