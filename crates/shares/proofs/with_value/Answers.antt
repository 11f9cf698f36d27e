-- What passes the test is counted. Assumes nothing.
use Rattle.std.proofs.Common.{rules, ◌≡◌, ℕ, nat_lt, count_by, ◌∙◌}
use Rattle.shares.proofs.Largest.{valued}
use Rattle.shares.proofs.with_value.Goals as goal

pub returns : goal.returns
returns c =
    let e : c.count.result ≡ count_by (λ (book : ℕ). nat_lt 0 book) c.args.books = search rules in
    e ∙ valued c.args.books
