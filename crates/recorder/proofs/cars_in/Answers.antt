-- `recorder::cars_in` meets its contract: the low bytes are bytes, so that their sum fits.
use Rattle.std.proofs.Common.{◌∙◌, rules, ℕ, ◌+◌, ◌*◌, arith, get_or}
use Rattle.std.proofs.lemmas.Iterator.{YieldsList-from_range, YieldsList-from_map}
use Rattle.std.proofs.lemmas.Iterator.Consumers.{sum_from_yields_List, fits_from_yields_list}
use Rattle.recorder.proofs.Ranges.{sum-range}
use Rattle.recorder.proofs.Total.{cars-are, cars-few}
use Rattle.recorder.proofs.cars_in.Goals as goal

pub sum-requires-clause-fits : goal.sum-requires-clause-fits
sum-requires-clause-fits c =
    let a = c.args in
    let f = λ (k : ℕ). get_or a.bytes.now (a.at + 2 * k + 1) 0 in
    let b = cars-few a.bytes.now (λ i. (c.type_inv.bytes i).fits) a.at a.number in
    fits_from_yields_list c.map.result _
    (YieldsList-from_map _ f (YieldsList-from_range 0 a.number a.number (search rules) (omega arith)) c.map.ensures.closure (λ x r q k. search rules))
    (rw (sum-range f a.number) (omega (arith, b, c.requires)))

pub returns : goal.returns
returns c =
    let a = c.args in
    let f = λ (k : ℕ). get_or a.bytes.now (a.at + 2 * k + 1) 0 in
    let t = λ (i : ℕ). (c.type_inv.bytes i).fits in
    let b = cars-few a.bytes.now t a.at a.number in
    let e = sum_from_yields_List c.map.result c.sum.result c.sum.ensures.ran
    (YieldsList-from_map _ f (YieldsList-from_range 0 a.number a.number (search rules) (omega arith)) c.map.ensures.closure (λ x r q k. search rules))
    ∙ sum-range f a.number in
    (e ∙ cars-are a.bytes.now t a.at a.number, omega (arith, e, b, c.requires))
