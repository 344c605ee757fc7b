-- The number of a refusal: "the first "no" gives the number" (docs/RULES.md, section 7).
use Rattle.std.specs.Prelude.{ℕ, Ok, Err, Result}
use Rattle.questions.specs.declared.Refusal.{Refusal}
use Rattle.questions.specs.declared.Refusal.TheVariants.{Unsound, ZoneCount, StockCount, StockSum, ZoneNames, RecordsFull, StockTooLow, ChannelFull, ChannelEmpty, RequestChannelFull, Started, NotStarted, RequestsUnderWay, BytesTooFew, Edition, HeaderFields, Length, Malformed, NotAccepted, ZoneOverflow, SiteOverflow, EmptyMessage, UnknownKind}

abbrev pub number_of : Refusal → ℕ
number_of Unsound = 1
number_of ZoneCount = 2
number_of StockCount = 3
number_of StockSum = 4
number_of ZoneNames = 5
number_of RecordsFull = 6
number_of StockTooLow = 7
number_of ChannelFull = 8
number_of ChannelEmpty = 9
number_of RequestChannelFull = 10
number_of Started = 11
number_of NotStarted = 12
number_of RequestsUnderWay = 13
number_of BytesTooFew = 14
number_of Edition = 15
number_of HeaderFields = 16
number_of Length = 17
number_of Malformed = 18
number_of NotAccepted = 19
number_of ZoneOverflow = 20
number_of SiteOverflow = 21
number_of EmptyMessage = 22
number_of UnknownKind = 23

-- The refusal's number, or 0 of what was not refused ("Success is 0").
abbrev pub refusal_in : {A : Type 0} → Result A Refusal → ℕ
refusal_in (Ok a) = 0
refusal_in (Err e) = number_of e
