-- No refusal has the number 0, which is that of what is accepted.
use mathlib.Core.Logic.{◌≢◌}
use native.Mathlib.Omega.{arith}
use Rattle.questions.specs.Refusal.{number_of}
use Rattle.questions.specs.declared.Refusal.{Refusal}
use Rattle.questions.specs.declared.Refusal.TheVariants.{Unsound, ZoneCount, StockCount, StockSum, ZoneNames, RecordsFull, StockTooLow, ChannelFull, ChannelEmpty, RequestChannelFull, Started, NotStarted, RequestsUnderWay, BytesTooFew, Edition, HeaderFields, Length, Malformed, NotAccepted, ZoneOverflow, SiteOverflow, EmptyMessage, UnknownKind}

pub number-nonzero : (e : Refusal) → number_of e ≢ 0
number-nonzero Unsound = omega arith
number-nonzero ZoneCount = omega arith
number-nonzero StockCount = omega arith
number-nonzero StockSum = omega arith
number-nonzero ZoneNames = omega arith
number-nonzero RecordsFull = omega arith
number-nonzero StockTooLow = omega arith
number-nonzero ChannelFull = omega arith
number-nonzero ChannelEmpty = omega arith
number-nonzero RequestChannelFull = omega arith
number-nonzero Started = omega arith
number-nonzero NotStarted = omega arith
number-nonzero RequestsUnderWay = omega arith
number-nonzero BytesTooFew = omega arith
number-nonzero Edition = omega arith
number-nonzero HeaderFields = omega arith
number-nonzero Length = omega arith
number-nonzero Malformed = omega arith
number-nonzero NotAccepted = omega arith
number-nonzero ZoneOverflow = omega arith
number-nonzero SiteOverflow = omega arith
number-nonzero EmptyMessage = omega arith
number-nonzero UnknownKind = omega arith
