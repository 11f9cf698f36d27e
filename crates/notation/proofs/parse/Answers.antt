-- `notation::parse` meets its contract: the rooms are tested, then one pass judges and a second stores. Assumes nothing.
use borrow.Author.Rules.{rules}
use Rattle.std.proofs.lemmas.Result.{err_from_is_err_and}
use Rattle.notation.proofs.Answers.{no_room, rooms, found_faulty, found_whole}
use Rattle.notation.proofs.parse.Goals as goal

pub returns-then-not-has_room : goal.returns-then-not-has_room
returns-then-not-has_room c = search (rules, no_room)

pub fill-requires : goal.fill-requires
fill-requires c = search (rules, rooms)

pub returns-in_err-check : goal.returns-in_err-check
returns-in_err-check c =
    let p = err_from_is_err_and c.from_residual.result c.from_residual.ensures.1 in
    rw (p.1, p.2) (found_faulty _ _ _ _ _ c.has_room.ensures c.if-not-has_room.false c.in_err-check.ensures)

pub returns : goal.returns
returns c = found_whole _ _ _ _ _ c.has_room.ensures c.if-not-has_room.false c.in_ok-check.ensures c.fill.ensures
