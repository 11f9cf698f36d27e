-- What is known of every reply: it is the sheet of what the text holds, its figures are those of the operations by strata, and any two replies agree. Assumes nothing.
use Prim.Native.Nat.{ℕ}
use mathlib.Core.Path.{◌≡◌, sym, ap, ◌∙◌}
use mathlib.Core.List.{List}
use native.Mathlib.Omega.{arith}
use lib.ListN.{length}
use Rattle.terms.specs.Outcome.{accepted, after}
use Rattle.terms.proofs.Outcomes.{Gives}
use Rattle.workfile.specs.Content.{Content}
use Rattle.entry.specs.declared.Notation.TheVariants.{Programmes}
use Rattle.notation.specs.Contents.{Reading, says, text_of}
use Rattle.notation.proofs.Laws.{said_once, text_counts}
use Rattle.divided.specs.Divided.{divided_of}
use Rattle.divided.proofs.Laws.{counts_add}
use Rattle.draw.specs.Row.{ones}
use Rattle.strata.specs.declared.Row.{Row}
use Rattle.strata.specs.Strata.{parts_of}
use Rattle.starts.specs.Starts.{starts_in}
use Rattle.stratified.specs.Marks.{strata_marks, draw_strata_of}
use Rattle.sheet.specs.Sheet.{text_by}
use Rattle.handout.specs.declared.Answers.{Answers}
use Rattle.handout.specs.Lines.{answers_text}
use Rattle.handout.specs.Handout.{handout_of, handout_text}
use Rattle.handout.proofs.Laws.{Figured, figured, starts_accepted, parted_numbers, parted_gives}
use Rattle.handout.proofs.Marks.{lines_in, marks_in, sheet_marks}
use Rattle.reply.specs.Reply.{onward, content_reply, reply_of, ReplyPromise}
use Rattle.std.specs.Prelude.{Result}
use Rattle.notation.specs.declared.Fault.{Fault}

-- any two results that keep the promise agree
pub reply_once : {o : Reading (List ℕ)} {page page₁ page₂ : List ℕ} {r₁ r₂ : Result ℕ Fault} → ReplyPromise o page r₁ page₁ → ReplyPromise o page r₂ page₂ → (r₁ ≡ r₂) × (page₁ ≡ page₂)
reply_once {r₁ = r₁} {r₂ = r₂} p q = (said_once r₁ r₂ (p.answer ∙ sym q.answer), p.page_left ∙ sym q.page_left)

-- a text without fault, with its content and the line counts of its strata
pub record Holds (text : List ℕ) (c : Content) (counts : List ℕ) : Type 0 where
  pub content : text_of Programmes text ≡ says c
  pub strata : divided_of text ≡ says counts

module _ (text : List ℕ) (c : Content) (counts : List ℕ) (h : Holds text c counts) where
  -- its reply is the sheet of them
  pub sheet_replied : reply_of text ≡ says (handout_text c.plan.ae counts c.words c.values c.errors)
  unfolding reply_of content_reply
  sheet_replied =
      ap (onward (λ (d : Content). content_reply d.plan.ae d.words d.values d.errors text)) h.content
      ∙ ap (onward (λ counts. says (handout_text c.plan.ae counts c.words c.values c.errors))) h.strata

  -- and of the refusals 22, 3, 4, 5, 8, 23, 12, 14, 15 alone can it be
  pub reply_gives : Gives parted_numbers (handout_of c.plan.ae counts c.words c.values c.errors)
  reply_gives =
      let k = text_counts Programmes text c h.content in
      parted_gives c.plan.ae counts c.words c.values c.errors (omega (arith, k.few_lines)) k.same (counts_add text c counts h.content h.strata)

  -- a sheet that is not refused: the plan, the starts and the projection are the operations' own, at the starts that the words give; the draw by strata takes
  -- these starts, and its marks are those of the lines that the sheet prints
  module _ (a : Answers) (e : handout_of c.plan.ae counts c.words c.values c.errors ≡ accepted a) where
    abbrev pub found : Figured c.plan.ae counts c.words c.values c.errors a
    found = figured c.plan.ae counts c.words c.values c.errors a e

    abbrev pub marks : List ℕ
    marks = strata_marks (parts_of counts c.values) found.rows (starts_in found.chosen)

    pub replied_text : reply_of text ≡ says (answers_text c.plan.ae counts c.values c.errors a)
    unfolding handout_text
    replied_text = sheet_replied ∙ ap (λ o. says (text_by (answers_text c.plan.ae counts c.values c.errors) o)) e

    pub drawn : draw_strata_of c.values counts c.plan.ae (starts_in found.chosen) (length c.values) ≡ accepted (ones marks)
    unfolding draw_strata_of
    drawn =
        ap (after (λ (rows : List Row). accepted (ones (strata_marks (parts_of counts c.values) rows (starts_in found.chosen)))))
        (starts_accepted c.plan.ae counts c.words c.values found.rows found.chosen found.plan found.started)

    pub printed_as_drawn : marks_in (lines_in 0 (parts_of counts c.values) a.plan.rows a.chosen.starts (parts_of counts c.errors)) ≡ marks
    printed_as_drawn =
        (λ i. marks_in (lines_in 0 (parts_of counts c.values) (found.answers i).plan.rows (found.answers i).chosen.starts (parts_of counts c.errors)))
        ∙ sheet_marks (parts_of counts c.values) found.rows (starts_in found.chosen) (parts_of counts c.errors)
