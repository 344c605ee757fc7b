-- `recorder::stocks_in` meets its contract: the stocks are bytes' words, so that their sum fits.
use Rattle.std.proofs.Common.{◌∙◌, rules, arith}
use Rattle.recording.specs.Shown.{stock_word}
use Rattle.std.proofs.lemmas.Iterator.{YieldsList-from_range, YieldsList-from_map}
use Rattle.std.proofs.lemmas.Iterator.Consumers.{sum_from_yields_List, fits_from_yields_list}
use Rattle.recorder.proofs.Ranges.{sum-range}
use Rattle.recorder.proofs.Total.{stocks-few}
use Rattle.recorder.proofs.stocks_in.Goals as goal

pub sum-requires-clause-fits : goal.sum-requires-clause-fits
sum-requires-clause-fits c =
    let a = c.args in
    let b = stocks-few a.bytes.now (λ i. (c.type_inv.bytes i).fits) a.count in
    fits_from_yields_list c.map.result _
    (YieldsList-from_map _ (stock_word a.bytes.now) (YieldsList-from_range 0 a.count a.count (search rules) (omega arith)) c.map.ensures.closure (λ x r q k. search rules))
    (rw (sum-range (stock_word a.bytes.now) a.count) (omega (arith, b, c.requires)))

pub returns : goal.returns
returns c =
    let a = c.args in
    let b = stocks-few a.bytes.now (λ i. (c.type_inv.bytes i).fits) a.count in
    let e = sum_from_yields_List c.map.result c.sum.result c.sum.ensures.ran
    (YieldsList-from_map _ (stock_word a.bytes.now) (YieldsList-from_range 0 a.count a.count (search rules) (omega arith)) c.map.ensures.closure (λ x r q k. search rules))
    ∙ sum-range (stock_word a.bytes.now) a.count in
    (e, omega (arith, e, b, c.requires))
