-- The second pass over a legal file: the buffers hold what was read, laid over what they held. Assumes nothing.
use Prim.Native.Nat.{ℕ, ◌+◌, ◌-◌, ◌<◌, ◌≤◌}
use mathlib.Core.Path.{◌≡◌, refl, ap, ap₂, subst, sym, ◌∙◌}
use mathlib.Core.Bool.{Bool, true, false}
use mathlib.Core.List.{List}
use lib.Dec.{eqb}
use lib.IntN.{ℤ}
use lib.ListN.{length, drop}
use Rattle.terms.specs.Outcome.{accepted, refused, left}
use Rattle.terms.specs.Numbers.{pick}
use Rattle.terms.proofs.Outcomes.{never}
use Rattle.workfile.specs.Content.{Content}
use Rattle.workfile.specs.Decode.{record_at, tally_of, grow, fits, plan_of, start, decode}
use Rattle.workfile.specs.Rules.{Rule}
use Rattle.workfile.specs.Promises.{over, counts_of, counted, Rooms}
use Rattle.workfile.specs.declared.Tally.{Tally}
use Rattle.workfile.specs.declared.Contents.{Contents}
use Rattle.workfile.specs.declared.FileRecord.{FileRecord}
use Rattle.workfile.proofs.Rules.{rule, is_end_lem}
use Rattle.workfile.proofs.Growing.{plan_grow, counted_end}
use Rattle.workfile.proofs.OneFile.{plan_there}
use Rattle.workfile.proofs.Stopping.{breaks, ends}
use Rattle.records.specs.Judging.{tallied}
use Rattle.records.specs.declared.Judged.{Judged}
use Rattle.records.specs.declared.Judged.TheVariants.{Next, Last, Bad}
use Rattle.records.proofs.Judging.{Went, Ended, went, ended, barred}
use Rattle.store.specs.Storing.{HasPlace}
use Rattle.store.proofs.Holding.{Holds, holds_none, has_place, holds_more}
use Rattle.reader.proofs.Passing.{NoneCounted, Stands, at_plan, judged_there, one_on, less}
use Rattle.reader.specs.Steps.{Stepped, contents_with, IsLegal, Stored}

-- Z was last, since the file is legal
closed_so : (b : Bool) (c : Content) (n : ℕ) (d : Content) → pick b (accepted c) (refused 17 n) ≡ accepted d → accepted c ≡ accepted d
closed_so true c n d e = e
closed_so false c n d e = never e

-- where the pass stands
pub record Storing (f ws vs : List ℕ) (es : List ℤ) (at : ℕ) (t : Tally) (w v : List ℕ) (e : List ℤ) : Type 0 where
  pub legal : IsLegal f
  pub rooms : Rooms ws vs es
  pub read : Content
  pub plan : read.plan ≡ plan_of f
  pub stands : Stands f at t read
  pub kept : Holds read t ws vs es w v e

pub plan_long : (f : List ℕ) → IsLegal f → 18 ≤ length f
plan_long f a = (plan_there f a.0 a.1).1

pub sets_out : {f ws vs : List ℕ} {es : List ℤ} {t : Tally} → IsLegal f → Rooms ws vs es → NoneCounted t → Storing f ws vs es 18 t ws vs es
sets_out {f} {ws} {vs} {es} {t} a m n =
    let p = plan_there f a.0 a.1 in
    let stands = at_plan f p.1 p.0 n in
    record { legal = a; rooms = m; read = start (plan_of f); plan = refl; stands = stands; kept = subst (λ (u : Tally). Holds (start (plan_of f)) u ws vs es ws vs es) stands.tally holds_none }

module _ {f ws vs : List ℕ} {es : List ℤ} {at : ℕ} {t : Tally} {w v : List ℕ} {e : List ℤ} (s : Storing f ws vs es at t w v e) where
  abbrev r : FileRecord
  r = record_at f at

  abbrev c : Content
  c = s.read

  -- the rules allow the next record, since the file is legal
  allowed : fits (tally_of c) r ≡ true
  allowed = go (fits (tally_of c) r) refl
    where
      go : (b : Bool) → fits (tally_of c) r ≡ b → b ≡ true
      go true e = refl
      go false e = never (sym (breaks s.stands.plan s.stands.place e) ∙ s.legal.1)

  its_rule : Rule t r
  its_rule = subst (λ (u : Tally). Rule u r) s.stands.tally (rule (tally_of c) r allowed)

  pub ready : HasPlace t (record_at f at) w v e
  ready = has_place s.kept s.rooms its_rule

  module _ {j : Judged} {w' v' : List ℕ} {e' : List ℤ} (q : Stepped f at t j w v e w' v' e') where
    held : Holds (grow c r) (tallied t r) ws vs es w' v' e'
    held = holds_more s.kept s.rooms its_rule q.stored

    pub goes_on_lem : {u : Tally} {n : ℕ} → j ≡ Next u n → Storing f ws vs es (at + n) u w' v' e'
    goes_on_lem {u} {n} is =
        let x : Went t r u n = went t r u n (sym q.judgement ∙ is) in
        record {
          legal = s.legal;
          rooms = s.rooms;
          read = grow c r;
          plan = plan_grow c r ∙ s.plan;
          stands = one_on s.stands refl q.judgement is;
          kept = subst (λ (k : Tally). Holds (grow c r) k ws vs es w' v' e') x.count held;
        }

    pub closer : {u : Tally} {n : ℕ} → j ≡ Next u n → length f - (at + n) < length f - at
    closer is = less s.stands refl q.judgement is

    pub arrives : {k : Contents} → ((u : Tally) (n : ℕ) → j ≡ Next u n → ⊥) → k ≡ contents_with (plan_of f) t → Stored f ws vs es k w' v' e'
    arrives {k} no_step known =
        let x : Ended (tally_of c) r = ended (tally_of c) r (sym (judged_there s.stands refl q.judgement) ∙ last j refl) in
        let z = is_end_lem r x.is_last in
        let d = grow c r in
        let o : decode f ≡ accepted d = s.legal.1 ∙ sym (closed_so (eqb (length (drop at f)) 13) d (at + 13) s.legal.0 (sym (ends s.stands.plan s.stands.place x.fit x.is_last) ∙ s.legal.1)) in
        let n : k ≡ counted d = known ∙ ap₂ contents_with (sym s.plan) (sym s.stands.tally) ∙ sym (ap (λ (y : FileRecord). counted (grow c y)) z.2 ∙ counted_end c z.0 z.1) in
        record {
          answer = ap accepted n ∙ sym (ap counts_of o);
          words = held.words ∙ sym (ap (left (λ c. over c.words ws) ws) o);
          values = held.values ∙ sym (ap (left (λ c. over c.values vs) vs) o);
          errors = held.errors ∙ sym (ap (left (λ c. over c.errors es) es) o);
        }
      where
        -- in a legal file only Z is no step on
        last : (x : Judged) → j ≡ x → j ≡ Last
        last (Next u n) is = absurd (no_step u n is)
        last Last is = is
        last Bad is = never (sym (breaks s.stands.plan s.stands.place (barred (tally_of c) r (sym (judged_there s.stands refl q.judgement) ∙ is))) ∙ s.legal.1)
