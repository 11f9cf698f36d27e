-- The pass that stores: the buffers hold the content of the lines so far, laid over what they held. Assumes nothing.
use mathlib.Core.Path.{◌≡◌, refl, sym, ap, subst, ◌∙◌}
use mathlib.Core.Bool.{false}
use mathlib.Core.List.{List}
use lib.IntN.{ℤ}
use Prim.Native.Nat.{ℕ, ◌+◌, ◌≤◌, ◌<◌}
use lib.ListN.{length}
use Rattle.workfile.specs.Content.{Content, closing}
use Rattle.workfile.specs.Decode.{tally_of, grow}
use Rattle.workfile.specs.Rules.{Rule}
use Rattle.workfile.specs.Promises.{plan_with, over, Rooms}
use Rattle.workfile.specs.declared.Tally.{Tally}
use Rattle.workfile.specs.declared.FileRecord.{FileRecord}
use Rattle.workfile.specs.declared.FileRecord.TheVariants.{End, Nothing}
use Rattle.workfile.proofs.Growing.{SoFar}
use Rattle.store.specs.Storing.{HasPlace, Put}
use Rattle.store.proofs.Holding.{Holds, holds_none, lengths, has_place, holds_more}
use Rattle.entry.specs.declared.Notation.{Notation}
use Rattle.entry.specs.declared.Wrong.{Wrong}
use Rattle.entry.specs.declared.Record.{Record}
use Rattle.entry.specs.declared.Record.TheVariants as line
use Rattle.std.specs.Prelude.{Result, Ok, Err}
use Rattle.workfile.specs.declared.Contents.{Contents}
use Rattle.records.specs.Judging.{tallied}
use Rattle.records.proofs.Judging.{clash}
use Rattle.notation.specs.declared.Fault.{Fault}
use Rattle.notation.specs.Contents.{reads, with_plan, grown, empty_content, state_of}
use Rattle.notation.specs.Parse.{reading_counts}
use Rattle.notation.specs.Steps.{turn_of, filed, HasPlaceOf, end_of, OnePass}
use Rattle.notation.specs.declared.State.{State}
use Rattle.notation.specs.declared.Turn.{Turn}
use Rattle.notation.proofs.Taking.{Took}
use Rattle.notation.proofs.Passing.{Stands, starts, its_content, whole, finished, fault_here, taken_here, onward}

-- storing the record of a line, if it has one
pub in_place : {found : Record} {t : Tally} {w v : List ℕ} {e : List ℤ} → HasPlaceOf found t w v e → {r : FileRecord} → found ≡ line.Filed r → HasPlace t r w v e
in_place has {r} is = has.place r is

tally_of_lem : {c : Content} {found : Record} {next : State} → Took c found next → tally_of (grown c found) ≡ next.tally
tally_of_lem took = ap (λ (s : State). s.tally) took.state

-- the buffers with one line more, of the content d
module _ {c : Content} {t : Tally} {ws vs w v w' v' : List ℕ} {es e e' : List ℤ} (held : Holds c t ws vs es w v e) where
  other_line : (d : Content) (u : Tally) → tally_of d ≡ u → SoFar d → d.words ≡ c.words → d.values ≡ c.values → d.errors ≡ c.errors → Put t Nothing w v e w' v' e'
      → Holds d u ws vs es w' v' e'
  other_line d u tally so same_words same_values same_errors put =
      record {
        tally = tally;
        so_far = so;
        words = put.words ∙ held.words ∙ ap (λ (l : List ℕ). over l ws) (sym same_words);
        values = put.values ∙ held.values ∙ ap (λ (l : List ℕ). over l vs) (sym same_values);
        errors = put.errors ∙ held.errors ∙ ap (λ (l : List ℤ). over l es) (sym same_errors);
      }

  held_line : (found : Record) (next : State) → Took c found next → Rooms ws vs es → Put t (filed found) w v e w' v' e' → Holds (grown c found) next.tally ws vs es w' v' e'
  unfolding grown
  held_line line.Nothing next took rooms put = other_line c next.tally (tally_of_lem took) took.so_far refl refl refl put
  held_line (line.Plan level te ae) next took rooms put = other_line (with_plan c (plan_with level te ae)) next.tally (tally_of_lem took) took.so_far refl refl refl put
  held_line line.Stratum next took rooms put = other_line c next.tally (tally_of_lem took) took.so_far refl refl refl put
  held_line (line.Filed r) next took rooms put =
      let more = holds_more held rooms (subst (λ (t : Tally). Rule t r) held.tally (took.rule_kept r refl)) put in
      record { tally = tally_of_lem took; so_far = took.so_far; words = more.words; values = more.values; errors = more.errors }
  held_line (line.Unreadable wrong) next took rooms put = other_line c next.tally (tally_of_lem took) took.so_far refl refl refl put

-- before a line
pub record Filling (by : Notation) (text : List ℕ) (at line : ℕ) (s : State) (ws vs : List ℕ) (es : List ℤ) (w v : List ℕ) (e : List ℤ) : Type 0 where
  pub stands : Stands by text at line s
  pub rooms : Rooms ws vs es
  pub held : Holds stands.read s.tally ws vs es w v e

pub begins : {by : Notation} {text : List ℕ} {s : State} {ws vs : List ℕ} {es : List ℤ} → s ≡ state_of false empty_content → Rooms ws vs es → Filling by text 0 1 s ws vs es ws vs es
unfolding starts
begins {by} {text} {s} {ws} {vs} {es} e rooms =
    record { stands = starts e; rooms = rooms; held = subst (λ (u : State). Holds empty_content u.tally ws vs es ws vs es) (sym e) holds_none }

module _ {by : Notation} {text : List ℕ} {at line : ℕ} {s : State} {ws vs w v : List ℕ} {es e : List ℤ} (fill : Filling by text at line s ws vs es w v e) where
  pub words_long : length w ≡ length ws
  words_long = (lengths fill.held fill.rooms).words

  pub values_long : length v ≡ length vs
  values_long = (lengths fill.held fill.rooms).values

  pub errors_long : length e ≡ length es
  errors_long = (lengths fill.held fill.rooms).errors

  -- the same after a call
  pub words_same : (w' : List ℕ) → length w' ≡ length w → length w' ≡ length ws
  words_same w' h = h ∙ words_long

  pub values_same : (v' : List ℕ) → length v' ≡ length v → length v' ≡ length vs
  values_same v' h = h ∙ values_long

  pub errors_same : (e' : List ℤ) → length e' ≡ length e → length e' ≡ length es
  errors_same e' h = h ∙ errors_long

  -- at a line
  module _ (inside : at < length text) {r : Result Turn Wrong} (read : r ≡ turn_of by text at s) where
    pub stopped_filling : {wrong : Wrong} → r ≡ Err wrong → OnePass by text ws vs es (Err (record { line = line; wrong = wrong })) w v e
    stopped_filling e =
        let bad = fault_here fill.stands inside read e in
        record { answer = sym (ap reading_counts bad); kept = λ c f. clash (cc) }

    module _ {turn : Turn} (on : r ≡ Ok turn) where
      pub line_place : HasPlaceOf turn.found s.tally w v e
      line_place =
          let took = taken_here fill.stands inside read on in
          record { place = λ r is. has_place fill.held fill.rooms (subst (λ (t : Tally). Rule t r) fill.held.tally (took.rule_kept r is)) }

      pub fills : {w' v' : List ℕ} {e' : List ℤ} → Put s.tally (filed turn.found) w v e w' v' e' → Filling by text turn.next (line + 1) turn.state ws vs es w' v' e'
      unfolding onward
      fills put =
          record {
            stands = onward fill.stands inside read on;
            rooms = fill.rooms;
            held = held_line fill.held turn.found turn.state (taken_here fill.stands inside read on) fill.rooms put;
          }

  -- the end, which is the Z of the counts
  pub end_place : HasPlace s.tally (End s.tally.lines s.tally.sum) w v e
  end_place = has_place fill.held fill.rooms (refl, refl)

  pub filled : length text ≤ at → {r : Result Contents Fault} {w' v' : List ℕ} {e' : List ℤ} → Put s.tally (End s.tally.lines s.tally.sum) w v e w' v' e' → reads r ≡ end_of s line
      → OnePass by text ws vs es r w' v' e'
  filled h {r} {w'} {v'} {e'} put a =
      let c = fill.stands.read in
      let laid = subst (λ (t : Tally). Holds (grow c (End t.lines t.sum)) (tallied s.tally (End s.tally.lines s.tally.sum)) ws vs es w' v' e') (sym fill.held.tally) (holds_more fill.held fill.rooms (refl, refl) put) in
      record {
        answer = finished fill.stands h r a;
        kept = λ d f.
            let same : grow c (closing c) ≡ d = its_content s.planned c line d (sym (whole fill.stands h) ∙ f) in
            subst (λ (d : Content). (w' ≡ over d.words ws) × (v' ≡ over d.values vs) × (e' ≡ over d.errors es)) same (laid.words, laid.values, laid.errors);
      }
