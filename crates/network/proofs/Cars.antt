-- The cars of a network. Every accepted call is at zones of the site, so that cars come and go by gates alone: the network has as many as
-- were opened, with the entries and without the exits; a complete recording shows as many, by the entries and exits inside it; and a zone
-- refuses no message and no entry with 20 where no more would be there than a zone may have. Where no gate call is accepted, as below
-- edition 3, no car is made or lost.
use mathlib.Core.Path.{◌≡◌, refl, sym, ◌∙◌, ap, subst}
use mathlib.Core.Bool.{Bool, true, false, ◌&&◌, not, false≢true, true≢false}
use mathlib.Core.Logic.{◌≢◌, ◌⊎◌, inl, inr}
use mathlib.Core.List.{List, [], ◌∷◌}
use mathlib.Core.Option.{Option, none, some}
use Prim.Native.Nat.{ℕ, ◌+◌, ◌≤◌, ◌<◌}
use native.Mathlib.Omega.{arith}
use lib.Dec.{eqb, leb}
use borrow.Author.Tests.{le-leb}
use Rattle.rules.specs.Below.{sum_below, sum}
use Rattle.rules.specs.Change.{cons-if}
use Rattle.rules.specs.Cut.{Complete, moves, cars_on, present, snapshot}
use Rattle.rules.specs.Edition.{is_edition, is_traffic, has_gates}
use Rattle.rules.specs.Limits.{most_cars}
use Rattle.rules.specs.Opening.{Opening}
use Rattle.rules.specs.Park.{Move, inside, total, entries, exits}
use Rattle.rules.specs.Questions.{Question, question, ask, Among, is_count, is_on}
use Rattle.rules.specs.Site.{Item, message, request, Site, Call, send, receive, start, gate, entering, open_s}
use Rattle.rules.specs.declared.Direction.TheVariants.{In, Out}
use Rattle.rules.proofs.AskLaws.{AllYes, numbers, lacks, not-among, ask-cases}
use Rattle.rules.proofs.Conservation.{Between, present-total, recorded-total}
use Rattle.rules.proofs.Editions.{no-cars, no-gates}
use Rattle.rules.proofs.Lists.{All}
use Rattle.rules.proofs.QuestionLaws.{on-high}
use Rattle.rules.proofs.Sums.{sum-at}
use Rattle.rules.proofs.Ungated.{Ungated, NoneThrough, ungated-none, none-through, none_inside}
use Rattle.rules.proofs.Tests.{and_left, and_right, eqb_refl, below?}
use Rattle.zone.specs.Zone.{is_zone_sound, is_other, has_room, refused, send_step, receive_step, request_step, start_step, gate_step}
use Rattle.zone.specs.Answer.{StepAnswer}
use Rattle.zone.specs.declared.Zone.{Zone}
use Rattle.zone.proofs.Asks.{send_asks, request_asks, start_asks, gate_asks}
use Rattle.network.specs.Network.{Network, open_network, take_step, answer, is_accepted, made, after, accepted_calls, starts_in, network_site}
use Rattle.network.specs.Polls.{step_of}
use Rattle.network.proofs.Network.{send-step, receive-step, gate-step, InEdition, edition-kept, network-follows}
use Rattle.network.proofs.Effects.{requests_on}
use Rattle.network.proofs.Balance.{OnSite, refused-at, site-made, site-after, site-open}

-- ---- calls are at zones of the site

other-on : (z : Zone) (k : ℕ) → is_other z (k + 1) ≡ true → k < z.count
unfolding is_other
other-on z k e =
    let w = on-high z.count (k + 1) (and_left (is_on z.count (k + 1)) (not (eqb (k + 1) z.number)) e) in
    omega arith

sound-on : (z : Zone) → is_zone_sound z ≡ true → z.number ≤ z.count
unfolding is_zone_sound
sound-on z e = on-high z.count z.number (and_right (is_edition z.edition && is_count z.count) _ (and_left _ _ (and_left _ _ (and_left _ _ e))))

module _ (n : ℕ) (net : Network) (site : OnSite n net) where
  -- The zone whose step it is.
  own_on : (c : Call) → is_accepted (answer c net) ≡ true → step_of c < n
  own_on c e = go (below? (step_of c) n)
    where
      go : (step_of c < n) ⊎ (n ≤ step_of c) → step_of c < n
      go (inl h) = h
      go (inr h) = absurd (true≢false (sym e ∙ refused-at n net site c (step_of c) (eqb_refl (step_of c)) h))

  -- The zone that it names.
  named-on : (a b : ℕ) → is_other (net.zone a) (b + 1) ≡ true → b < n
  named-on a b e = subst (λ (m : ℕ). b < m) (site.counted a) (other-on (net.zone a) b e)

  -- The zone that sent what is received: a request came from a zone of the site.
  sender-on : (a b : ℕ) (l : List Item) → net.channel a b ≡ l → is_accepted (take_step (a + 1) l (net.zone b)) ≡ true → a < n
  sender-on a b [] at e = absurd (false≢true e)
  sender-on a b (message cars flag ∷ l) at e = named-on b a (receive-step (net.zone b) (a + 1) cars flag e).1
  sender-on a b (request set ∷ l) at e = go (below? a n)
    where
      go : (a < n) ⊎ (n ≤ a) → a < n
      go (inl h) = h
      go (inr h) =
          let z = site.none-off a b (inl h) in
          let w = ap requests_on at in
          absurd (omega arith)

  between : (c : Call) → is_accepted (answer c net) ≡ true → Between n c
  between (send a b cars) e = (own_on (send a b cars) e, named-on a b (send-step (net.zone a) (b + 1) cars e).1)
  between (receive a b) e = (sender-on a b (net.channel a b) refl e, own_on (receive a b) e)
  between (start a) e = own_on (start a) e
  between (gate d a cars) e = own_on (gate d a cars) e

-- The cars of a message that stands first are on its channel: a line check has none.
first-within : (edition cars : ℕ) (flag : Bool) (l : List Item) → cars ≤ sum (cars_on edition (message cars flag ∷ l))
first-within edition cars flag l = go (is_traffic edition cars) refl
  where
    go : (p : Bool) → is_traffic edition cars ≡ p → cars ≤ sum (cons-if p cars (cars_on edition l))
    go true t = omega arith
    go false t = omega (arith, no-cars edition cars t)

all-between : (n : ℕ) (cs : List Call) (net : Network) → OnSite n net → All (Between n) (accepted_calls cs net)
all-between n [] net site = tt
all-between n (c ∷ cs) net site = go (is_accepted (answer c net)) refl (all-between n cs (made c net) (site-made n net site c))
  where
    go : (p : Bool) → is_accepted (answer c net) ≡ p → All (Between n) (accepted_calls cs (made c net))
        → All (Between n) (cons-if p c (accepted_calls cs (made c net)))
    go true e more = (between n net site c e, more)
    go false e more = more

-- ---- 20

-- A call is refused with a number.
abbrev pub RefusedWith : ℕ → Option StepAnswer → Type 0
RefusedWith m none = ⊥
RefusedWith m (some x) = x.refusal ≡ m

-- A list without question 20 is not refused with it.
not-asked : (qs : List Question) (z : Zone) (x : StepAnswer) → x.refusal ≡ 0 → lacks 20 (numbers qs) ≡ true → (ask qs (refused z) x).refusal ≢ 20
not-asked qs z x accepted l e = go (ask-cases qs (refused z) x)
  where
    go : (AllYes qs × (ask qs (refused z) x ≡ x)) ⊎ ((m : ℕ) × Among m (numbers qs) × (ask qs (refused z) x ≡ refused z m)) → ⊥
    go (inl h) = let w = ap (λ (s : StepAnswer). s.refusal) h.1 in absurd (omega arith)
    go (inr (m, among, h)) = not-among m 20 (numbers qs) among l (sym (ap (λ (s : StepAnswer). s.refusal) h) ∙ e)

sent-not-20 : (z : Zone) (to cars : ℕ) → (send_step z to cars).refusal ≢ 20
unfolding send_step
sent-not-20 z to cars = not-asked (send_asks z to cars) z _ refl refl

requested-not-20 : (z : Zone) (set : ℕ) → (request_step z set).refusal ≢ 20
unfolding request_step
requested-not-20 z set = not-asked (request_asks z set) z _ refl refl

started-not-20 : (z : Zone) → (start_step z).refusal ≢ 20
unfolding start_step
started-not-20 z = not-asked (start_asks z) z _ refl refl

left-not-20 : (z : Zone) (cars : ℕ) → (gate_step z Out cars).refusal ≢ 20
unfolding gate_step
left-not-20 z cars = not-asked (gate_asks z Out cars) z _ refl refl

-- Question 20 behind 1, another and 6: it is not refused with where it is answered yes behind the first two.
asked-last : (z : Zone) (n : ℕ) → n ≢ 20 → (p q r t : Bool) → (p ≡ true → q ≡ true → t ≡ true) → (x : StepAnswer) → x.refusal ≡ 0
    → (ask (question 1 p ∷ question n q ∷ question 6 r ∷ question 20 t ∷ []) (refused z) x).refusal ≢ 20
asked-last z n ne false q r t h x a e = absurd (omega arith)
asked-last z n ne true false r t h x a e = ne e
asked-last z n ne true true false t h x a e = absurd (omega arith)
asked-last z n ne true true true true h x a e = absurd (omega arith)
asked-last z n ne true true true false h x a e = absurd (false≢true (h refl refl))

-- A zone that is sound and has room for the cars of a message from another zone of its site does not refuse it with 20; nor, in an edition
-- that has gates, an entry.
module _ (z : Zone) (cars : ℕ) where
  received-not-20 : (from : ℕ) (flag : Bool)
      → (is_zone_sound z ≡ true → is_other z from ≡ true → z.stock + cars ≤ most_cars) → (receive_step z from cars flag).refusal ≢ 20
  unfolding receive_step
  received-not-20 from flag room =
      asked-last z 5 (λ e. omega arith) (is_zone_sound z) (is_other z from) (has_room z) (leb (z.stock + cars) most_cars)
      (λ p q. le-leb (z.stock + cars) most_cars (room p q)) _ refl

  entered-not-20 : (is_zone_sound z ≡ true → has_gates z.edition ≡ true → z.stock + cars ≤ most_cars) → (gate_step z In cars).refusal ≢ 20
  unfolding gate_step
  entered-not-20 room =
      asked-last z 15 (λ e. omega arith) (is_zone_sound z) (has_gates z.edition) (has_room z) (leb (z.stock + cars) most_cars)
      (λ p q. le-leb (z.stock + cars) most_cars (room p q)) _ refl

-- ---- the cars

-- Whatever the zone count, the opening and the calls, if at most one start was accepted.
module _ (n : ℕ) (o : Opening) (cs : List Call) (one : starts_in (accepted_calls cs (open_network n o)) ≤ 1) where
  abbrev net : Network
  net = after cs (open_network n o)

  abbrev ones : List Call
  ones = accepted_calls cs (open_network n o)

  -- What the park is fed of them.
  abbrev fed : List Move
  fed = moves ones (open_s o)

  site : OnSite n net
  site = site-after n cs (open_network n o) (site-open n o)

  -- The stocks and the cars on channels, with those that drove out, are as many cars as were opened and drove in.
  pub network-total : total n (present (network_site o.edition net)) + exits (moves ones (open_s o))
      ≡ sum_below n o.stocks + entries (moves ones (open_s o))
  network-total =
      let r = network-follows n o cs one in
      ap (λ (s : Site). total n (present s) + exits fed) r.1
      ∙ present-total n o ones (all-between n cs (open_network n o) (site-open n o)) r.0

  -- And so many are shown, once the recording is complete: the recorded total "equals the opening total plus entries less exits inside the
  -- recording".
  pub network-shows-total : Complete (network_site o.edition net)
      → total n (snapshot o ones).park + exits (inside (snapshot o ones).events (moves ones (open_s o)))
      ≡ sum_below n o.stocks + entries (inside (snapshot o ones).events (moves ones (open_s o)))
  network-shows-total done =
      let r = network-follows n o cs one in
      recorded-total n o ones (all-between n cs (open_network n o) (site-open n o)) r.0 (subst Complete r.1 done)

  -- A stock is some of them, with the cars of a message on the way to its zone.
  stock-within : (a : ℕ) → a < n → (net.zone a).stock + exits fed ≤ sum_below n o.stocks + entries fed
  stock-within a h = omega (arith, network-total, sum-at n (λ k. (net.zone k).stock) a h)

  room : (a b cars : ℕ) (flag : Bool) (l : List Item) → a < n → b < n → net.channel a b ≡ message cars flag ∷ l
      → (net.zone b).stock + cars + exits fed ≤ sum_below n o.stocks + entries fed
  room a b cars flag l ha hb at =
      let stocks = sum-at n (λ k. (net.zone k).stock) b hb in
      let lines = sum-at n (λ i. sum_below n (λ j. sum (cars_on o.edition (net.channel i j)))) a ha in
      let line = sum-at n (λ j. sum (cars_on o.edition (net.channel a j))) b hb in
      let first = ap (λ (l : List Item). sum (cars_on o.edition l)) at in
      omega (arith, network-total, first-within o.edition cars flag l)

  -- A sound zone is one of the site.
  on-site : (a : ℕ) → is_zone_sound (net.zone a) ≡ true → a < n
  on-site a p = let w = sound-on (net.zone a) p in omega (arith, site.numbered a, site.counted a)

  -- Where no more cars were opened and drove in, with those of the call itself, than drove out and a zone may have, the call is not refused
  -- with 20.
  pub never-20 : (c : Call)
      → sum_below n o.stocks + entries (moves ones (open_s o)) + entering c ≤ most_cars + exits (moves ones (open_s o))
      → RefusedWith 20 (answer c net) → ⊥
  never-20 (send a b cars) few = sent-not-20 (net.zone a) (b + 1) cars
  never-20 (start a) few = started-not-20 (net.zone a)
  never-20 (gate In a cars) few =
      entered-not-20 (net.zone a) cars (λ p q. omega (arith, few, stock-within a (on-site a p)))
  never-20 (gate Out a cars) few = left-not-20 (net.zone a) cars
  never-20 (receive a b) few = go (net.channel a b) refl
    where
      go : (l : List Item) → net.channel a b ≡ l → RefusedWith 20 (take_step (a + 1) l (net.zone b)) → ⊥
      go [] at e = e
      go (request set ∷ l) at e = requested-not-20 (net.zone b) set e
      go (message cars flag ∷ l) at e = received-not-20 (net.zone b) cars (a + 1) flag enough e
        where
          enough : is_zone_sound (net.zone b) ≡ true → is_other (net.zone b) (a + 1) ≡ true → (net.zone b).stock + cars ≤ most_cars
          enough p q = omega (arith, few, room a b cars flag l (named-on n net site b a q) (on-site b p) at)

-- ---- where no gate call is accepted

-- Below edition 3 none is accepted.
module _ {edition : ℕ} (low : edition < 3) where
  all-ungated : (cs : List Call) (net : Network) → InEdition edition net → All Ungated (accepted_calls cs net)
  all-ungated [] net same = tt
  all-ungated (c ∷ cs) net same = go (is_accepted (answer c net)) refl (all-ungated cs (made c net) (edition-kept net same c))
    where
      ungated : (c : Call) → is_accepted (answer c net) ≡ true → Ungated c
      ungated (send a b cars) e = refl
      ungated (receive a b) e = refl
      ungated (start a) e = refl
      ungated (gate d a cars) e = absurd (omega (arith, low, same a, (gate-step (net.zone a) d cars e).2))

      go : (p : Bool) → is_accepted (answer c net) ≡ p → All Ungated (accepted_calls cs (made c net))
          → All Ungated (cons-if p c (accepted_calls cs (made c net)))
      go true e more = (ungated c e, more)
      go false e more = more

in-edition : (edition : ℕ) (cs : List Call) (net : Network) → InEdition edition net → InEdition edition (after cs net)
in-edition edition [] net same = same
in-edition edition (c ∷ cs) net same = in-edition edition cs (made c net) (edition-kept net same c)

-- No accepted call is a gate call: no car is made or lost.
module _ (n : ℕ) (o : Opening) (cs : List Call) (one : starts_in (accepted_calls cs (open_network n o)) ≤ 1)
    (ungated : All Ungated (accepted_calls cs (open_network n o))) where
  none-fed : NoneThrough (fed n o cs one)
  none-fed = none-through (ones n o cs one) (open_s o) ungated

  -- The stocks and the cars on channels are as many cars as were opened.
  pub ungated-total : total n (present (network_site o.edition (after cs (open_network n o)))) ≡ sum_below n o.stocks
  ungated-total = omega (arith, network-total n o cs one, none-fed.0, none-fed.1)

  -- And so many are shown, once the recording is complete.
  pub ungated-shows-total : Complete (network_site o.edition (after cs (open_network n o)))
      → total n (snapshot o (accepted_calls cs (open_network n o))).park ≡ sum_below n o.stocks
  ungated-shows-total done =
      let i = none_inside (snapshot o (ones n o cs one)).events (λ k. 0) (fed n o cs one) none-fed in
      omega (arith, network-shows-total n o cs one done, i.0, i.1)

  -- Where no more were opened than a zone may have, no call but an entry is refused with 20.
  pub ungated-never-20 : sum_below n o.stocks ≤ most_cars → (c : Call) → Ungated c → RefusedWith 20 (answer c (after cs (open_network n o))) → ⊥
  ungated-never-20 few c u = never-20 n o cs one c (omega (arith, few, none-fed.0, (ungated-none c u).0))

-- So it is below edition 3, whatever the calls; there no call at all is refused with 20.
module _ (n : ℕ) (o : Opening) (cs : List Call) (low : o.edition < 3) where
  pub below-three-ungated : All Ungated (accepted_calls cs (open_network n o))
  below-three-ungated = all-ungated low cs (open_network n o) (λ k. refl)

  pub below-three-never-20 : starts_in (accepted_calls cs (open_network n o)) ≤ 1 → sum_below n o.stocks ≤ most_cars → (c : Call)
      → RefusedWith 20 (answer c (after cs (open_network n o))) → ⊥
  below-three-never-20 one few (send a b cars) = ungated-never-20 n o cs one below-three-ungated few (send a b cars) refl
  below-three-never-20 one few (receive a b) = ungated-never-20 n o cs one below-three-ungated few (receive a b) refl
  below-three-never-20 one few (start a) = ungated-never-20 n o cs one below-three-ungated few (start a) refl
  below-three-never-20 one few (gate Out a cars) = left-not-20 ((net n o cs one).zone a) cars
  below-three-never-20 one few (gate In a cars) = entered-not-20 ((net n o cs one).zone a) cars
      (λ p q. absurd (true≢false (sym q ∙ no-gates ((net n o cs one).zone a).edition
      (omega (arith, low, in-edition o.edition cs (open_network n o) (λ k. refl) a)))))
