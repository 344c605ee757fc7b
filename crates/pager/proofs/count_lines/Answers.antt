-- `pager::count_lines` meets its contract: a channel with items has one line.
use Rattle.std.proofs.Common.{◌≡◌, ◌∙◌, count_by, not, rules, arith}
use Rattle.std.proofs.lemmas.List.Sums.{count_by-le-length}
use lib.Dec.{eqb}
use Rattle.pager.proofs.Joined.{lines-counted}
use Rattle.pager.proofs.count_lines.Goals as goal

pub returns : goal.returns
returns c =
    let items = c.args.items.now in
    let e : c.count.result ≡ count_by (λ n. not (eqb n 0)) items = search rules in
    (e ∙ lines-counted items 64 c.told-items, omega (arith, e, count_by-le-length (λ n. not (eqb n 0)) items, c.told-items))
