-- `store::put_error` meets its contract: the lines passed over are cleared, and the error has its sign. Assumes nothing.
use Rattle.store.proofs.Placing.{error_set}
use Rattle.store.proofs.put_error.Goals as goal

pub returns : goal.returns
returns c = search error_set
