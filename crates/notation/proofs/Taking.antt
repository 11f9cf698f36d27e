-- A line taken or not, as the code tests it, and what is known of the content that a taken line gives. Assumes nothing.
use mathlib.Core.Path.{◌≡◌, refl, sym, ap, subst, ◌∙◌}
use mathlib.Core.Bool.{Bool, true}
use Prim.Native.Nat.{ℕ}
use lib.Dec.{ltb}
use Rattle.std.specs.Prelude.{Result, Ok}
use Rattle.terms.proofs.Tests.{by_test}
use Rattle.workfile.specs.Content.{Content}
use Rattle.workfile.specs.Decode.{tally_of, grow}
use Rattle.workfile.specs.Rules.{Rule}
use Rattle.workfile.specs.Promises.{plan_with}
use Rattle.workfile.specs.declared.FileRecord.{FileRecord}
use Rattle.workfile.proofs.Rules.{rule}
use Rattle.workfile.proofs.Growing.{SoFar, one_more, plan_grow}
use Rattle.records.specs.Judging.{judged}
use Rattle.records.specs.declared.Judged.{Judged}
use Rattle.records.specs.declared.Judged.TheVariants.{Next, Last, Bad}
use Rattle.records.proofs.Judging.{clash, went}
use Rattle.records.proofs.Counting.{tally_grow}
use Rattle.entry.specs.declared.Wrong.{Wrong}
use Rattle.entry.specs.declared.Record.{Record}
use Rattle.entry.specs.declared.Record.TheVariants as line
use Rattle.notation.specs.Contents.{taken_plan, taken_stratum, ruled_by, taken_record, taken_of, with_plan, grown, state_of}
use Rattle.notation.specs.declared.State.{State}

-- a line that is taken: the state is that of the content with it, which keeps what the rules keep
pub record Took (c : Content) (found : Record) (next : State) : Type 0 where
  pub state : state_of next.planned (grown c found) ≡ next
  pub so_far : SoFar (grown c found)
  pub rule_kept : (r : FileRecord) → found ≡ line.Filed r → Rule (tally_of c) r

as_state : (planned : Bool) (c : Content) {next : State} → state_of planned c ≡ next → state_of next.planned c ≡ next
as_state planned c e = ap (λ (s : State). state_of s.planned c) (sym e) ∙ e

-- P
took_plan : (planned : Bool) (c : Content) (level te ae : ℕ) (next : State) → SoFar c → taken_plan (state_of planned c) level te ae ≡ Ok next
    → Took c (line.Plan level te ae) next
unfolding taken_plan grown
took_plan planned c level te ae next so =
    by_test Takes planned (λ _ e. clash (cc))
    (λ _. by_test Takes (ltb 255 level) (λ _ e. clash (cc))
    (λ _ e.
    let same : state_of true (with_plan c (plan_with level te ae)) ≡ next = cc in
    record {
      state = as_state true (with_plan c (plan_with level te ae)) same;
      so_far = record { sound = so.sound; few_words = so.few_words; few_lines = so.few_lines; total = so.total };
      rule_kept = λ r f. clash (cc);
    }))
  where
    Takes : Result State Wrong → Type 0
    Takes t = t ≡ Ok next → Took c (line.Plan level te ae) next

-- what leaves the content as it is
took_none : (planned : Bool) (c : Content) (found : Record) (next : State) → SoFar c → grown c found ≡ c → ((r : FileRecord) → found ≡ line.Filed r → ⊥) → state_of planned c ≡ next → Took c found next
took_none planned c found next so same none e =
    record {
      state = ap (state_of next.planned) same ∙ as_state planned c e;
      so_far = subst SoFar (sym same) so;
      rule_kept = λ r f. absurd (none r f);
    }

took_stratum : (planned : Bool) (c : Content) (next : State) → SoFar c → taken_stratum (state_of planned c) ≡ Ok next → Took c line.Stratum next
unfolding taken_stratum grown
took_stratum planned c next so =
    by_test (λ (t : Result State Wrong). t ≡ Ok next → Took c line.Stratum next) planned (λ _ e. took_none planned c line.Stratum next so refl (λ r f. clash (cc)) (cc)) (λ _ e. clash (cc))

-- another record
took_record : (planned : Bool) (c : Content) (r : FileRecord) (next : State) → SoFar c → taken_record (state_of planned c) r ≡ Ok next → Took c (line.Filed r) next
unfolding taken_record grown
took_record planned c r next so = by_test (λ (t : Result State Wrong). t ≡ Ok next → Took c (line.Filed r) next) planned (λ _. go (judged (tally_of c) r) refl) (λ _ e. clash (cc))
  where
    go : (j : Judged) → judged (tally_of c) r ≡ j → ruled_by (state_of planned c) r j ≡ Ok next → Took c (line.Filed r) next
    go (Next t n) q e =
        let fact = went (tally_of c) r t n q in
        let law = rule (tally_of c) r fact.fit in
        let same : record { planned = true; plan = c.plan; tally = t } ≡ next = cc in
        let counts = tally_grow c r so law ∙ fact.count in
        record {
          state = as_state true (grow c r) ((λ i. record { planned = true; plan = plan_grow c r i; tally = counts i }) ∙ same);
          so_far = one_more c r law so;
          rule_kept = λ r' f. let its : r ≡ r' = cc in subst (Rule (tally_of c)) its law;
        }
    go Last q e = clash (cc)
    go Bad q e = clash (cc)

pub took : (planned : Bool) (c : Content) (found : Record) (next : State) → SoFar c → taken_of (state_of planned c) found ≡ Ok next → Took c found next
unfolding taken_of grown
took planned c line.Nothing next so e = took_none planned c line.Nothing next so refl (λ r f. clash (cc)) (cc)
took planned c (line.Plan level te ae) next so e = took_plan planned c level te ae next so e
took planned c line.Stratum next so e = took_stratum planned c next so e
took planned c (line.Filed r) next so e = took_record planned c r next so e
took planned c (line.Unreadable wrong) next so e = clash (cc)
