-- Lists of calls on one run: "The first gets the run that the opening handed back, each later one the run that the call before it handed
-- back, after a refusal too."
use Rattle.std.specs.Prelude.{Bool, true, false, cond, ◌&&◌, List, [], ◌∷◌, ◌++◌, ℕ, eqb}
use Rattle.rules.specs.Change.{cons-if}
use Rattle.rules.specs.Questions.{index}
use Rattle.rules.specs.Site.{Item, message, request, Call, send, receive, start, gate}
use Rattle.rules.specs.Zone.{has_checkpoint}
use Rattle.run.specs.Calls.{answer}
use Rattle.run.specs.Model.{site_of}
use Rattle.run.specs.declared.Run.{Run}
use Rattle.run.specs.declared.SiteCall.{SiteCall}
use Rattle.run.specs.declared.SiteCall.TheVariants.{Send, Receive, Start, Gate}

-- The same call with zones by index, as the rules have it.
abbrev pub call_of : SiteCall → Call
call_of (Send from to cars) = send (index from) (index to) cars
call_of (Receive from to) = receive (index from) (index to)
call_of (Start zone) = start (index zone)
call_of (Gate direction zone cars) = gate direction (index zone) cars

-- "An accepted call is one that answered 0."
abbrev pub is_accepted : SiteCall → Run → Bool
is_accepted c r = eqb (answer c r).refusal 0

-- The run after a list of calls, refused ones included.
abbrev pub after : List SiteCall → Run → Run
after [] r = r
after (c ∷ cs) r = after cs (answer c r).run

-- The accepted calls of the list, in order.
abbrev pub accepted_calls : List SiteCall → Run → List Call
accepted_calls [] r = []
accepted_calls (c ∷ cs) r = cons-if (is_accepted c r) (call_of c) (accepted_calls cs (answer c r).run)

-- Is the call a receipt?
abbrev pub is_receipt : SiteCall → Bool
is_receipt (Send from to cars) = false
is_receipt (Receive from to) = true
is_receipt (Start zone) = false
is_receipt (Gate direction zone cars) = false

-- What the last accepted receipt of a list answered of the items that remain, "0 without one"; `last` is that of the calls before the list.
abbrev pub last_remaining : (last : ℕ) → List SiteCall → Run → ℕ
last_remaining last [] r = last
last_remaining last (c ∷ cs) r = last_remaining (cond (is_accepted c r && is_receipt c) (answer c r).remaining last) cs (answer c r).run

-- The messages ("hand-overs") of a list of items.
abbrev pub messages : List Item → List Item
messages [] = []
messages (message cars flag ∷ xs) = message cars flag ∷ messages xs
messages (request set ∷ xs) = messages xs

-- The message that an accepted call puts on the channel from i to j, and the one that it takes off it; empty where there is none.
abbrev pub first_message : List Item → List Item
first_message [] = []
first_message (message cars flag ∷ xs) = message cars flag ∷ []
first_message (request set ∷ xs) = []

abbrev pub puts : ℕ → ℕ → SiteCall → Run → List Item
puts i j (Send from to cars) r =
    cond (eqb i (index from) && eqb j (index to)) (message cars (has_checkpoint ((site_of r).zone i).checkpoint) ∷ []) []
puts i j (Receive from to) r = []
puts i j (Start zone) r = []
puts i j (Gate direction zone cars) r = []

abbrev pub takes_off : ℕ → ℕ → SiteCall → Run → List Item
takes_off i j (Send from to cars) r = []
takes_off i j (Receive from to) r = cond (eqb i (index from) && eqb j (index to)) (first_message ((site_of r).channel i j)) []
takes_off i j (Start zone) r = []
takes_off i j (Gate direction zone cars) r = []

-- The messages sent on that channel, and those received from it, over a list of calls.
abbrev pub sent_on : ℕ → ℕ → List SiteCall → Run → List Item
sent_on i j [] r = []
sent_on i j (c ∷ cs) r = cond (is_accepted c r) (puts i j c r) [] ++ sent_on i j cs (answer c r).run

abbrev pub received_on : ℕ → ℕ → List SiteCall → Run → List Item
received_on i j [] r = []
received_on i j (c ∷ cs) r = cond (is_accepted c r) (takes_off i j c r) [] ++ received_on i j cs (answer c r).run
