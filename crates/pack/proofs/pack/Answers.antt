-- `pack::pack` lends as many words as the text has: the parser's count fits the buffer that it leaves. Assumes nothing.
use Rattle.workfile.proofs.Held.{empty_rooms}
use Rattle.notation.proofs.Held.{words_fit}
use Rattle.pack.proofs.pack.Goals as goal

pub slice_bounds-words-end : goal.slice_bounds-words-end
slice_bounds-words-end c = words_fit (record { words = _; values = _; errors = _; rooms = empty_rooms; promise = c.in-Ok.ensures })
