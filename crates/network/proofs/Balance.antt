-- The counters are right: the requests sent are those taken and those that wait on channels. And no request waits that was sent by a zone
-- whose checkpoint is not permanent.
use mathlib.Core.Path.{◌≡◌, refl, sym, ◌∙◌, ap, subst}
use mathlib.Core.Bool.{Bool, true, false, ◌&&◌, cond, and_assoc, and-false, true≢false}
use mathlib.Core.Logic.{◌⊎◌, inl, inr}
use mathlib.Core.List.{List, [], ◌∷◌}
use Prim.Native.Nat.{ℕ, ◌+◌, ◌^◌, ◌≤◌, ◌<◌}
use native.Mathlib.Omega.{arith}
use lib.Dec.{eqb}
use borrow.Author.Tests.{eqb-true, ne_eqb}
use Rattle.rules.specs.Below.{sum_below}
use Rattle.rules.specs.Opening.{Opening}
use Rattle.rules.specs.Sets.{has, nobody, size}
use Rattle.rules.specs.Site.{Item, message, request, Site, Call, send, receive, start, gate, waits}
use Rattle.rules.specs.Zone.{is_permanent}
use Rattle.rules.proofs.History.{open_h, history, now-run}
use Rattle.rules.proofs.Kept.{fresh-open, calls-keep}
use Rattle.rules.proofs.Members.{has-off, size-sum, size-nobody}
use Rattle.rules.proofs.Requests.{flow-kept, flow-open, flow-unsent}
use Rattle.rules.proofs.SetLaws.{has-nobody}
use Rattle.rules.proofs.Sums.{sum_same, sum-zero, sum_both, sum_one, sums, sums_same, sums-zero, sums_none, sums-both}
use Rattle.rules.proofs.Tests.{eqb_refl, below?, not-both}
use Rattle.network.specs.Network.{Network, open_network, answer, is_accepted, made, after, accepted_calls, starts_in}
use Rattle.network.specs.Polls.{step_of, targets_of, sent_in, begins_with_request, taken_in, takes_request, sent_by, taken_by}
use Rattle.network.proofs.Network.{Numbered, network-follows}
use Rattle.network.proofs.OffSite.{Counted, refused-off, numbers-kept}
use Rattle.network.proofs.Effects.{requests_on, leaving, joining, sends_to, took_request, effect}

-- The number of requests on all channels of the n zones.
abbrev pub requests_waiting : ℕ → Network → ℕ
requests_waiting n net = sums n (λ i j. requests_on (net.channel i j))

-- What a call adds to the counters, by what it does.
pub sent-in : (c : Call) (net : Network) (k : ℕ) → sent_in c net k ≡ cond (eqb k (step_of c)) (size (sends_to c net)) 0
sent-in c net k = go (eqb k (step_of c)) (is_accepted (answer c net)) (targets_of (answer c net))
  where
    go : (p q : Bool) (set : ℕ) → cond (p && q) (size set) 0 ≡ cond p (size (cond q set nobody)) 0
    go false q set = refl
    go true true set = refl
    go true false set = sym size-nobody

taken_in_lem : (c : Call) (net : Network) (k : ℕ) → taken_in c net k ≡ cond (eqb k (step_of c) && took_request c net) 1 0
taken_in_lem c net k = ap (λ (t : Bool). cond {A = ℕ} t 1 0) (and_assoc (eqb k (step_of c)) (is_accepted (answer c net)) (takes_request c net))

-- ---- one call

-- A network of n zones: no request is on a channel from or to a zone whose number is above the count.
pub record OnSite (n : ℕ) (net : Network) : Type 0 where
  pub numbered : Numbered net
  pub counted : Counted n net
  pub none-off : (i j : ℕ) → (n ≤ i) ⊎ (n ≤ j) → requests_on (net.channel i j) ≡ 0

pub none-begins : (l : List Item) → requests_on l ≡ 0 → begins_with_request l ≡ false
none-begins [] e = refl
none-begins (message cars flag ∷ l) e = refl
none-begins (request set ∷ l) e = absurd (omega arith)

module _ (n : ℕ) (net : Network) (site : OnSite n net) (c : Call) where
  to-within-site : sends_to c net < 2 ^ n
  to-within-site = rw (← site.counted (step_of c)) (effect c net).to-within

  pub refused-at : (k : ℕ) → eqb k (step_of c) ≡ true → n ≤ k → is_accepted (answer c net) ≡ false
  refused-at k e h = let q = eqb-true k (step_of c) e in refused-off n net site.numbered site.counted c (omega arith)

  -- No request joins a channel from or to a zone above the count.
  none-to : (i j : ℕ) → (n ≤ i) ⊎ (n ≤ j) → eqb i (step_of c) && has (sends_to c net) j ≡ false
  none-to i j (inl h) = not-both (eqb i (step_of c)) (has (sends_to c net) j)
      (λ e f. true≢false (sym f ∙ rw (refused-at i e h) (has-nobody j)))
  none-to i j (inr h) = rw (has-off n (sends_to c net) j to-within-site h) (and-false (eqb i (step_of c)))

  pub site-made : OnSite n (made c net)
  site-made =
      let r = numbers-kept (c ∷ []) n net site.numbered site.counted in
      record { numbered = r.0; counted = r.1; none-off = off }
    where
      off : (i j : ℕ) → (n ≤ i) ⊎ (n ≤ j) → requests_on ((made c net).channel i j) ≡ 0
      off i j h =
          let e = (effect c net).requests i j in
          let z = site.none-off i j h in
          let w = ap (λ (t : Bool). cond {A = ℕ} t 1 0) (none-to i j h) in
          omega arith

  -- The requests that join channels are those that were sent.
  sent-sums : sums n (joining c (sends_to c net)) ≡ sum_below n (λ k. sent_in c net k)
  sent-sums = sum_same n _ _ (λ i _. row (eqb i (step_of c)) ∙ sym (sent-in c net i))
    where
      row : (p : Bool) → sum_below n (λ j. cond (p && has (sends_to c net) j) 1 0) ≡ cond p (size (sends_to c net)) 0
      row true = sym (size-sum n (sends_to c net) to-within-site)
      row false = sum-zero n (λ j. 0) (λ j. refl)

-- Those that leave channels are those that were taken: a request that stood first came from a zone of the site.
taken_none : (n : ℕ) (net : Network) (c : Call) → takes_request c net ≡ false
    → sums n (leaving c (took_request c net)) ≡ sum_below n (λ k. taken_in c net k)
taken_none n net c e =
    sums-zero n _ (λ i j. rw (e, and-false (is_accepted (answer c net)), and-false _))
    ∙ sym (sum-zero n _ (λ k. rw (e, and-false (eqb k (step_of c) && is_accepted (answer c net)))))

taken-sums : (n : ℕ) (net : Network) → OnSite n net → (c : Call) → sums n (leaving c (took_request c net)) ≡ sum_below n (λ k. taken_in c net k)
taken-sums n net site (send a b cars) = taken_none n net (send a b cars) refl
taken-sums n net site (start a) = taken_none n net (start a) refl
taken-sums n net site (gate d a cars) = taken_none n net (gate d a cars) refl
taken-sums n net site (receive a b) = go (below? a n)
  where
    go : (a < n) ⊎ (n ≤ a)
        → sums n (leaving (receive a b) (took_request (receive a b) net)) ≡ sum_below n (λ k. taken_in (receive a b) net k)
    go (inl h) =
        sum_one n _ a h (λ i ne. sum-zero n _ (λ j. rw (ne_eqb i a ne)))
        ∙ sum_same n _ _ (λ j _. rw (eqb_refl a) (sym (taken_in_lem (receive a b) net j)))
    go (inr h) = taken_none n net (receive a b) (none-begins (net.channel a b) (site.none-off a b (inl h)))

pub call-balance : (n : ℕ) (net : Network) → OnSite n net → (c : Call)
    → requests_waiting n net + sum_below n (λ k. sent_in c net k) ≡ sum_below n (λ k. taken_in c net k) + requests_waiting n (made c net)
call-balance n net site c =
    let e = sums_same n _ _ (effect c net).requests in
    let p = sums-both n (λ i j. requests_on ((made c net).channel i j)) (leaving c (took_request c net)) in
    let q = sums-both n (λ i j. requests_on (net.channel i j)) (joining c (sends_to c net)) in
    omega (arith, sent-sums n net site c, taken-sums n net site c)

-- ---- calls

module _ (n : ℕ) where
  pub site-open : (o : Opening) → OnSite n (open_network n o)
  site-open o = record { numbered = λ k. refl; counted = λ k. refl; none-off = λ i j _. refl }

  pub site-after : (cs : List Call) (net : Network) → OnSite n net → OnSite n (after cs net)
  site-after [] net site = site
  site-after (c ∷ cs) net site = site-after cs (made c net) (site-made n net site c)

  calls-balance : (cs : List Call) (net : Network) → OnSite n net
      → requests_waiting n net + sum_below n (λ k. sent_by cs net k) ≡ sum_below n (λ k. taken_by cs net k) + requests_waiting n (after cs net)
  calls-balance [] net site = let z = sum-zero n (λ k. 0) (λ k. refl) in omega arith
  calls-balance (c ∷ cs) net site =
      let one = call-balance n net site c in
      let more = calls-balance cs (made c net) (site-made n net site c) in
      omega (
        arith,
        sum_both n (λ k. sent_in c net k) (λ k. sent_by cs (made c net) k),
        sum_both n (λ k. taken_in c net k) (λ k. taken_by cs (made c net) k),
      )

  -- After whatever calls, as many requests were sent as were taken and wait on the channels.
  pub requests-balance : (o : Opening) (cs : List Call)
      → sum_below n (λ k. sent_by cs (open_network n o) k)
      ≡ sum_below n (λ k. taken_by cs (open_network n o) k) + requests_waiting n (after cs (open_network n o))
  requests-balance o cs =
      let z = sums-zero n (λ i j. 0) (λ i j. refl) in
      let e = calls-balance cs (open_network n o) (site-open o) in
      omega arith

  -- Where none waits on the channels of the n zones, none waits on any.
  pub none-anywhere : (net : Network) → OnSite n net → requests_waiting n net ≡ 0 → (i j : ℕ) → requests_on (net.channel i j) ≡ 0
  none-anywhere net site e i j = go (below? i n) (below? j n)
    where
      go : (i < n) ⊎ (n ≤ i) → (j < n) ⊎ (n ≤ j) → requests_on (net.channel i j) ≡ 0
      go (inl h) (inl g) = sums_none n (λ i j. requests_on (net.channel i j)) e i j h g
      go (inl h) (inr g) = site.none-off i j (inr g)
      go (inr h) q = site.none-off i j (inl h)

-- With at most one accepted start, a zone whose checkpoint is not permanent has no request on any of its channels. So where a maker's
-- channels have a capacity, a zone that still has to send requests waits only for messages to be received.
pub unsent : (n : ℕ) (o : Opening) (cs : List Call) → starts_in (accepted_calls cs (open_network n o)) ≤ 1 → (a b : ℕ)
    → is_permanent ((after cs (open_network n o)).zone a).checkpoint ≡ false → waits ((after cs (open_network n o)).channel a b) ≡ false
unsent n o cs one a b =
    let r = network-follows n o cs one in
    let flow = calls-keep _ flow-kept ones (open_h o) (fresh-open o) r.0 (flow-open o) in
    subst (λ (s : Site). is_permanent (s.zone a).checkpoint ≡ false → waits (s.channel a b) ≡ false)
    (now-run ones (open_h o) ∙ sym r.1) (flow-unsent _ (history ones (open_h o)) flow a b)
  where
    ones : List Call
    ones = accepted_calls cs (open_network n o)
