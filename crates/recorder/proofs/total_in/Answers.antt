-- `recorder::total_in` meets its contract: the stocks, then the cars of the items.
use Rattle.std.proofs.Common.{◌+◌, ap₂}
use Rattle.recording.specs.InnerTotal.{total_in}
use Rattle.recorder.proofs.total_in.Goals as goal

pub returns : goal.returns
unfolding total_in
returns c = ap₂ ◌+◌ c.stocks_in-stocks.ensures.0 c.cars_in-cars.ensures.0
