-- Any share but the first leads by the comparison. Assumes nothing.
use Rattle.season.proofs.Worst.{leads_later}
use Rattle.season.proofs.leads.Goals as goal

pub returns-else-worst_book-eq0 : goal.returns-else-worst_book-eq0
returns-else-worst_book-eq0 c = search leads_later
