-- A collector on a network: it polls the zone parts one after another, while the traffic goes on, until it knows that the recording is
-- complete, and shows what it read. Beside its zone each controller counts the requests that it sent and those that it took.
use Rattle.std.specs.Prelude.{◌≡◌, Bool, true, false, ◌&&◌, cond, List, [], ◌∷◌, ℕ, ◌+◌, ◌<◌, ◌≤◌, eqb, take}
use Rattle.std.proofs.Math.Option.{Option, none, some}
use Rattle.rules.specs.Below.{sum_below}
use Rattle.rules.specs.Sets.{nobody, size}
use Rattle.rules.specs.Site.{Item, message, request, Site, Call, send, receive, start, gate}
use Rattle.rules.specs.Zone.{is_permanent}
use Rattle.zone.specs.Zone.{local_of}
use Rattle.zone.specs.Answer.{StepAnswer}
use Rattle.zone.specs.declared.Zone.{Zone}
use Rattle.network.specs.Network.{Network, answer, is_accepted, made, after}

-- The zone whose step a call is.
abbrev pub step_of : Call → ℕ
step_of (send a b cars) = a
step_of (receive a b) = b
step_of (start a) = a
step_of (gate d a cars) = a

-- Zone k's counter of requests sent grows, with each accepted step of the zone, by the number of zones in the answer's set; `requests`
-- of the zone part gives it.
abbrev pub targets_of : Option StepAnswer → ℕ
targets_of none = nobody
targets_of (some x) = x.to

abbrev pub sent_in : Call → Network → ℕ → ℕ
sent_in c net k = cond (eqb k (step_of c) && is_accepted (answer c net)) (size (targets_of (answer c net))) 0

-- Its counter of requests taken grows by 1 with each request that it took off a channel.
abbrev pub begins_with_request : List Item → Bool
begins_with_request [] = false
begins_with_request (message cars flag ∷ l) = false
begins_with_request (request set ∷ l) = true

abbrev pub takes_request : Call → Network → Bool
takes_request (send a b cars) net = false
takes_request (receive a b) net = begins_with_request (net.channel a b)
takes_request (start a) net = false
takes_request (gate d a cars) net = false

abbrev pub taken_in : Call → Network → ℕ → ℕ
taken_in c net k = cond (eqb k (step_of c) && is_accepted (answer c net) && takes_request c net) 1 0

-- The counters after calls, both 0 at first.
abbrev pub sent_by : List Call → Network → ℕ → ℕ
sent_by [] net k = 0
sent_by (c ∷ cs) net k = sent_in c net k + sent_by cs (made c net) k

abbrev pub taken_by : List Call → Network → ℕ → ℕ
taken_by [] net k = 0
taken_by (c ∷ cs) net k = taken_in c net k + taken_by cs (made c net) k

-- What a controller answers to a poll: its zone and both counters, of one moment.
pub record Poll : Type 0 where
  pub zone : Zone
  pub sent : ℕ
  pub taken : ℕ

-- Zone k, polled when so many of the calls had been made.
abbrev pub polled_at : List Call → Network → ℕ → ℕ → Poll
polled_at cs net moment k =
    let before : List Call = take moment cs in
    record { zone = (after before net).zone k; sent = sent_by before net k; taken = taken_by before net k }

-- One round comes after another: some moment is not before any poll of the first and not after any poll of the second.
abbrev pub OneAfterAnother : ℕ → (ℕ → ℕ) → (ℕ → ℕ) → Type 0
OneAfterAnother n first second = (between : ℕ) × ((k : ℕ) → k < n → (first k ≤ between) × (between ≤ second k))

-- What the collector asks of the polls of n zones in two rounds: no counter has moved from the first to the second; in the second as many
-- requests were taken as were sent, and a zone has a permanent checkpoint ("is firm").
pub record Settled (n : ℕ) (first second : ℕ → Poll) : Type 0 where
  pub sent-kept : (k : ℕ) → k < n → (first k).sent ≡ (second k).sent
  pub taken-kept : (k : ℕ) → k < n → (first k).taken ≡ (second k).taken
  pub all-taken : sum_below n (λ k. (second k).sent) ≡ sum_below n (λ k. (second k).taken)
  pub some-permanent : (k : ℕ) × (k < n) × (is_permanent (second k).zone.checkpoint ≡ true)

-- The zones as they were polled, in the edition that they were opened in, for `shown_by`, which looks at no channel of a site.
abbrev pub polled_site : ℕ → (ℕ → Poll) → Site
polled_site edition polls = record { edition = edition; zone = λ k. local_of (polls k).zone; channel = λ i j. [] }
