-- A collector that polls in two rounds: if what it read is settled, the recording is complete, and what it read is what is shown.
use mathlib.Core.Path.{◌≡◌, refl, sym, ◌∙◌, ap, subst}
use mathlib.Core.Bool.{true, false}
use mathlib.Core.Logic.{◌≢◌, ◌⊎◌, inl, inr}
use mathlib.Core.List.{List, [], ◌∷◌, ◌++◌}
use Prim.Native.Nat.{ℕ, zero, suc, ◌+◌, ◌≤◌, ◌<◌}
use native.Mathlib.Omega.{arith}
use lib.ListN.{take, drop, take-append-drop}
use Rattle.rules.specs.Cut.{Complete, Cut, events_of, stock_of, channel_of, shown_by, snapshot, moves}
use Rattle.rules.specs.Opening.{Opening}
use Rattle.rules.specs.Park.{inside}
use Rattle.rules.specs.Site.{Item, message, request, Site, Call, open_s, waits}
use Rattle.rules.specs.Zone.{is_permanent}
use Rattle.rules.proofs.ShownCheckpoint.{shown, by-shown}
use Rattle.rules.proofs.Sums.{sum_same}
use Rattle.rules.proofs.Tests.{Same, same?, below?}
use Rattle.network.specs.Network.{Network, open_network, made, after, accepted_calls, starts_in, network_site}
use Rattle.network.specs.Polls.{sent_in, taken_in, sent_by, taken_by, Poll, polled_at, OneAfterAnother, Settled, polled_site}
use Rattle.network.proofs.Network.{network-consistent, network-shows}
use Rattle.network.proofs.Effects.{requests_on}
use Rattle.network.proofs.Balance.{site-after, site-open, requests-balance, none-anywhere}
use Rattle.network.proofs.Quiet.{shown_at, permanent_at, shown-permanent, starts, start_in, starts_more, shown-between, Quiet, quiet-after, shown-quiet, started-before, shown-off, silent-stays}

-- ---- calls in parts

-- The elements between two places, with those before and behind them.
part : {A : Type 0} (m e : ℕ) (xs : List A) → m ≤ e → (ys : List A) × (take e xs ≡ take m xs ++ ys) × (drop m xs ≡ ys ++ drop e xs)
part zero e xs h = (take e xs, refl, sym (take-append-drop e xs))
part (suc m) zero xs h = absurd (omega arith)
part (suc m) (suc e) [] h = ([], refl, refl)
part {A} (suc m) (suc e) (x ∷ xs) h =
    let r = part m e xs (omega arith) in
    (r.0, ap (λ (l : List A). x ∷ l) r.1, r.2)

after-append : (xs ys : List Call) (net : Network) → after (xs ++ ys) net ≡ after ys (after xs net)
after-append [] ys net = refl
after-append (x ∷ xs) ys net = after-append xs ys (made x net)

-- A number that is counted call by call: the counters of a zone, and the accepted starts.
module _ (by : List Call → Network → ℕ) (each : Call → Network → ℕ) (none : (net : Network) → by [] net ≡ 0)
    (more : (c : Call) (cs : List Call) (net : Network) → by (c ∷ cs) net ≡ each c net + by cs (made c net)) where
  pub by_append : (xs ys : List Call) (net : Network) → by (xs ++ ys) net ≡ by xs net + by ys (after xs net)
  by_append [] ys net = let z = none net in omega arith
  by_append (x ∷ xs) ys net =
      let p = more x (xs ++ ys) net in
      let q = more x xs net in
      let r = by_append xs ys (made x net) in
      omega arith

  by_part : (cs : List Call) (net : Network) (m e : ℕ) (h : m ≤ e)
      → by (take e cs) net ≡ by (take m cs) net + by (part m e cs h).0 (after (take m cs) net)
  by_part cs net m e h = let p = part m e cs h in ap (λ (l : List Call). by l net) p.1 ∙ by_append (take m cs) p.0 net

  -- If it is the same at two moments, it is the same at each moment between them.
  by-same : (cs : List Call) (net : Network) (p m e : ℕ) → p ≤ m → (h : m ≤ e) → by (take p cs) net ≡ by (take e cs) net
      → (by (take m cs) net ≡ by (take e cs) net) × (by (part m e cs h).0 (after (take m cs) net) ≡ 0)
  by-same cs net p m e g h q =
      let a = by_part cs net p m g in
      let b = by_part cs net m e h in
      (omega arith, omega arith)

-- ---- from a quiet moment to the end

-- Calls xs, then ys, then zs. No request waits behind xs; zone k is permanent behind ys, by which it neither sent nor took a request.
module _ (n : ℕ) (o : Opening) (xs ys zs : List Call) (k : ℕ) (one : starts (xs ++ (ys ++ zs)) (open_network n o) ≤ 1)
    (quiet : Quiet n (after xs (open_network n o))) (none-sent : sent_by ys (after xs (open_network n o)) k ≡ 0)
    (none-taken : taken_by ys (after xs (open_network n o)) k ≡ 0)
    (permanent : permanent_at (after ys (after xs (open_network n o))) k ≡ true) where
  abbrev middle : Network
  middle = after xs (open_network n o)

  abbrev reached : Network
  reached = after ys middle

  number : starts (xs ++ (ys ++ zs)) (open_network n o) ≡ starts xs (open_network n o) + (starts ys middle + starts zs reached)
  number =
      let p = by_append starts start_in (λ net. refl) starts_more xs (ys ++ zs) (open_network n o) in
      let q = by_append starts start_in (λ net. refl) starts_more ys zs middle in
      omega arith

  stays : Quiet n reached × ((j : ℕ) → j ≢ k → shown_at reached j ≡ shown_at middle j)
  stays = silent-stays n k ys middle (record {
    quiet = quiet;
    one = omega (arith, number, one);
    none_more = λ p. omega (arith, number, one, started-before n o xs k p);
    none-sent = none-sent;
    none-taken = none-taken;
    permanent = permanent;
  })

  -- The start was accepted, so that none is left.
  none_left : starts zs reached ≡ 0
  none_left =
      let p = by_append starts start_in (λ net. refl) starts_more xs ys (open_network n o) in
      let q = started-before n o (xs ++ ys) k (rw (after-append xs ys (open_network n o)) permanent) in
      omega (arith, number, one)

  -- So at the end no request waits, zone k is shown as behind ys, and every other zone as behind xs.
  settles : Quiet n (after zs reached) × (shown_at (after zs reached) k ≡ shown_at reached k)
      × ((j : ℕ) → j ≢ k → shown_at (after zs reached) j ≡ shown_at middle j)
  settles =
      let e = shown-quiet n zs reached stays.0 none_left in
      ((quiet-after n zs reached stays.0 none_left).0, e k, λ j ne. e j ∙ stays.1 j ne)

-- ---- the polls

waits-none : (l : List Item) → requests_on l ≡ 0 → waits l ≡ false
waits-none [] e = refl
waits-none (message cars flag ∷ l) e = waits-none l e
waits-none (request set ∷ l) e = absurd (omega arith)

-- What a site shows depends on what is shown of its checkpoints alone.
shown-same : (o : Opening) (cs : List Call) (s t : Site) → ((k : ℕ) → shown (s.zone k).checkpoint ≡ shown (t.zone k).checkpoint)
    → shown_by o cs s ≡ shown_by o cs t
shown-same o cs s t e = λ i. record {
  recorded = λ k. by-shown is_permanent (λ _. refl) (s.zone k).checkpoint (t.zone k).checkpoint (e k) i;
  events = λ k. events k i;
  park = record {
    stock = λ k. by-shown (λ c. stock_of c (o.stocks k)) (λ _. refl) (s.zone k).checkpoint (t.zone k).checkpoint (e k) i;
    channel = channel_of (inside (λ k. events k i) (moves cs (open_s o)));
  };
}
  where
    events : (k : ℕ) → events_of (s.zone k).checkpoint ≡ events_of (t.zone k).checkpoint
    events k = by-shown events_of (λ _. refl) (s.zone k).checkpoint (t.zone k).checkpoint (e k)

-- Whatever the zone count, the opening and the calls, if at most one start was accepted; and two rounds of polls that are settled.
module _ (n : ℕ) (o : Opening) (cs : List Call) (one : starts_in (accepted_calls cs (open_network n o)) ≤ 1) (first second : ℕ → ℕ)
    (rounds : OneAfterAnother n first second)
    (settled : Settled n (λ k. polled_at cs (open_network n o) (first k) k) (λ k. polled_at cs (open_network n o) (second k) k)) where
  abbrev ones : List Call
  ones = accepted_calls cs (open_network n o)

  abbrev polls : ℕ → Poll
  polls k = polled_at cs (open_network n o) (second k) k

  -- The network at a moment, and at the end.
  abbrev at : ℕ → Network
  at moment = after (take moment cs) (open_network n o)

  abbrev end : Network
  end = after cs (open_network n o)

  -- A moment between the rounds, and the calls from it to the second poll of zone k.
  abbrev m : ℕ
  m = rounds.0

  later : (k : ℕ) → k < n → m ≤ second k
  later k h = (rounds.1 k h).1

  abbrev until : (k : ℕ) → k < n → List Call
  until k h = (part m (second k) cs (later k h)).0

  sent-same : (k : ℕ) (h : k < n) → (sent_by (take m cs) (open_network n o) k ≡ (polls k).sent) × (sent_by (until k h) (at m) k ≡ 0)
  sent-same k h = by-same (λ cs net. sent_by cs net k) (λ c net. sent_in c net k) (λ net. refl) (λ c cs net. refl)
      cs (open_network n o) (first k) m (second k) (rounds.1 k h).0 (later k h) (settled.sent-kept k h)

  taken-same : (k : ℕ) (h : k < n) → (taken_by (take m cs) (open_network n o) k ≡ (polls k).taken) × (taken_by (until k h) (at m) k ≡ 0)
  taken-same k h = by-same (λ cs net. taken_by cs net k) (λ c net. taken_in c net k) (λ net. refl) (λ c cs net. refl)
      cs (open_network n o) (first k) m (second k) (rounds.1 k h).0 (later k h) (settled.taken-kept k h)

  -- At that moment as many requests were taken as were sent, so that none waits.
  quiet-between : Quiet n (at m)
  quiet-between = record {
    site = site-after n (take m cs) (open_network n o) (site-open n o);
    none-waits = omega (
      arith,
      requests-balance n o (take m cs),
      settled.all-taken,
      sum_same n (λ k. sent_by (take m cs) (open_network n o) k) (λ k. (polls k).sent) (λ k h. (sent-same k h).0),
      sum_same n (λ k. taken_by (take m cs) (open_network n o) k) (λ k. (polls k).taken) (λ k h. (taken-same k h).0),
    );
  }

  -- The calls, and the networks at the second poll of zone k and at the end, by way of that moment.
  in_parts : (k : ℕ) (h : k < n) → cs ≡ take m cs ++ (until k h ++ drop (second k) cs)
  in_parts k h = sym (take-append-drop m cs) ∙ ap (λ (l : List Call). take m cs ++ l) (part m (second k) cs (later k h)).2

  at-poll : (k : ℕ) (h : k < n) → at (second k) ≡ after (until k h) (at m)
  at-poll k h =
      ap (λ (l : List Call). after l (open_network n o)) (part m (second k) cs (later k h)).1
      ∙ after-append (take m cs) (until k h) (open_network n o)

  at-end : (k : ℕ) (h : k < n) → end ≡ after (drop (second k) cs) (after (until k h) (at m))
  at-end k h =
      ap (λ (l : List Call). after l (open_network n o)) (in_parts k h)
      ∙ after-append (take m cs) (until k h ++ drop (second k) cs) (open_network n o)
      ∙ after-append (until k h) (drop (second k) cs) (at m)

  -- The zone that is known to be permanent, since it was polled as such.
  abbrev known : ℕ
  known = settled.some-permanent.0

  ends : Quiet n end × (shown_at end known ≡ shown_at (at (second known)) known) × ((j : ℕ) → j ≢ known → shown_at end j ≡ shown_at (at m) j)
  ends =
      let h : known < n = settled.some-permanent.1 in
      rw (at-end known h, at-poll known h) (settles n o (take m cs) (until known h) (drop (second known) cs) known
      (subst (λ (l : List Call). starts l (open_network n o) ≤ 1) (in_parts known h) one) quiet-between (sent-same known h).1
      (taken-same known h).1
      (subst (λ (net : Network). permanent_at net known ≡ true) (at-poll known h) settled.some-permanent.2))

  -- What was polled is what is shown at the end: of that zone, of the others of the site, and of those above the count.
  polled-other : (k : ℕ) → k < n → k ≢ known → shown_at (at (second k)) k ≡ shown_at end k
  polled-other k h ne =
      let e = ends.2 k ne in
      rw (at-poll k h) (shown-between (until k h) (drop (second k) cs) (at m) k (rw (← at-end k h) e)) ∙ sym e

  polled-off : (k : ℕ) → n ≤ k → shown_at (at (second k)) k ≡ shown_at end k
  polled-off k h =
      shown-off n (take (second k) cs) (open_network n o) (site-open n o) k h
      ∙ sym (shown-off n cs (open_network n o) (site-open n o) k h)

  polled : (k : ℕ) → shown_at (at (second k)) k ≡ shown_at end k
  polled k = go (below? k n) (same? k known)
    where
      go : (k < n) ⊎ (n ≤ k) → Same k known → shown_at (at (second k)) k ≡ shown_at end k
      go (inr h) q = polled-off k h
      go (inl h) (inl q) = rw q.0 (sym ends.1)
      go (inl h) (inr q) = polled-other k h q.0

  -- The recording is complete after the calls.
  pub settled-complete : Complete (network_site o.edition (after cs (open_network n o)))
  settled-complete = (
    (known, shown-permanent (at (second known)) end known ends.1 ∙ settled.some-permanent.2),
    λ i j. waits-none (end.channel i j) (none-anywhere n end ends.0.site ends.0.none-waits i j),
  )

  -- What the collector read in the second round shows what the rules show: the recorded zones, their events and stocks, and the lines.
  pub settled-shows : shown_by o ones (polled_site o.edition (λ k. polled_at cs (open_network n o) (second k) k)) ≡ snapshot o ones
  settled-shows = shown-same o ones (polled_site o.edition polls) (network_site o.edition end) polled ∙ network-shows n o cs one

  -- So it is a consistent cut of the accepted calls: demand 3.
  pub settled-cut : Cut o ones (shown_by o ones (polled_site o.edition (λ k. polled_at cs (open_network n o) (second k) k)))
  settled-cut = subst (Cut o ones) (sym settled-shows) (network-consistent n o cs one settled-complete)
