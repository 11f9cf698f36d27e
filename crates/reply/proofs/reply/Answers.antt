-- `reply::reply` meets its contract: the first fault of a line, or what is replied to the content. Assumes nothing.
use mathlib.Core.Path.{refl}
use mathlib.Core.List.{List}
use Prim.Native.Nat.{ℕ}
use native.Mathlib.Omega.{arith}
use lib.IntN.{ℤ}
use Rattle.std.proofs.lemmas.Result.{err_from_is_err_and}
use Rattle.std.specs.Prelude.{Ok}
use Rattle.entry.specs.declared.Notation.TheVariants.{Programmes}
use Rattle.workfile.specs.declared.Contents.{Contents}
use Rattle.workfile.specs.Promises.{Rooms}
use Rattle.workfile.proofs.Held.{empty_rooms}
use Rattle.notation.specs.Parse.{ParsePromise}
use Rattle.notation.proofs.Held.{AtParsed, words_fit, values_fit, errors_fit, few_lines}
use Rattle.reply.proofs.Replying.{text_faulty, text_replied}
use Rattle.reply.proofs.reply.Goals as goal

-- what was parsed is what was read
at_parsed : {text w v w' v' : List ℕ} {e e' : List ℤ} {k : Contents} → Rooms w v e → ParsePromise Programmes text w v e (Ok k) w' v' e' → AtParsed Programmes text k w' v' e'
at_parsed rooms promise = record { words = _; values = _; errors = _; rooms = rooms; promise = promise }

pub slice_bounds-words-end : goal.slice_bounds-words-end
slice_bounds-words-end c = words_fit (at_parsed empty_rooms c.in_ok-contents.ensures)

pub slice_bounds-values-end : goal.slice_bounds-values-end
slice_bounds-values-end c = values_fit (at_parsed empty_rooms c.in_ok-contents.ensures)

pub slice_bounds-errors-end : goal.slice_bounds-errors-end
slice_bounds-errors-end c = errors_fit (at_parsed empty_rooms c.in_ok-contents.ensures)

pub reply_content-requires : goal.reply_content-requires
reply_content-requires c = record { few = few_lines (at_parsed empty_rooms c.in_ok-contents.ensures); room = omega arith }

pub returns-in_err-contents : goal.returns-in_err-contents
returns-in_err-contents c =
    let p = err_from_is_err_and c.from_residual.result c.from_residual.ensures.1 in rw (p.1, p.2) (text_faulty _ empty_rooms c.in_err-contents.ensures)

pub returns : goal.returns
returns c = text_replied (at_parsed empty_rooms c.in_ok-contents.ensures) c.reply_content.ensures refl
