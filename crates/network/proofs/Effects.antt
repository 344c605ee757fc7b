-- What one call does, accepted or refused: which requests join and leave the channels, whom they go to, and of which zone another
-- checkpoint may be shown.
use mathlib.Core.Path.{◌≡◌, refl, sym, ◌∙◌, ap, subst}
use mathlib.Core.Bool.{Bool, true, false, ◌&&◌, ◌||◌, cond, and-false, true≢false}
use mathlib.Core.Logic.{◌⊎◌, inl, inr}
use mathlib.Core.List.{List, [], ◌∷◌, tail}
use mathlib.Core.Option.{Option, none, some}
use Prim.Native.Nat.{ℕ, suc, ◌+◌, ◌^◌, ◌<◌}
use native.Mathlib.Omega.{arith}
use lib.Dec.{eqb}
use lib.Pow.{pow_pos}
use borrow.Author.Tests.{eqb-true, ltb-true}
use Rattle.rules.specs.Change.{on, join}
use Rattle.rules.specs.Edition.{is_edition}
use Rattle.rules.specs.Sets.{has, nobody}
use Rattle.rules.specs.Site.{Item, message, request, Call, send, receive, start, gate}
use Rattle.rules.specs.Zone.{is_permanent, requested, targets, carried}
use Rattle.rules.specs.declared.Direction.{Direction}
use Rattle.rules.specs.declared.Local.{Local}
use Rattle.rules.specs.Questions.{is_count, is_on, index}
use Rattle.rules.proofs.Editions.{sent-keeps, received-keeps}
use Rattle.rules.proofs.Guarded.{on-same-at}
use Rattle.rules.proofs.Members.{within-difference}
use Rattle.rules.proofs.SetLaws.{has-nobody}
use Rattle.rules.proofs.ShownCheckpoint.{shown, after-shown}
use Rattle.rules.proofs.Tests.{and_left, and_right, both_true}
use Rattle.local.specs.Requesting.{requesting_as, requested_by, started_by}
use Rattle.zone.specs.Zone.{local_of, is_zone_sound, requesting_step, send_step, receive_step, request_step, start_step, gate_step}
use Rattle.zone.specs.Answer.{StepAnswer}
use Rattle.zone.specs.declared.Zone.{Zone}
use Rattle.network.specs.Network.{Network, take_step, answer, is_accepted, stored, stored_if, made}
use Rattle.network.specs.Polls.{step_of, targets_of, begins_with_request, takes_request}
use Rattle.network.proofs.Network.{send-step, receive-step, request-step, start-step, gate-step, no-checkpoint-not-permanent}

-- The number of requests on a channel.
abbrev pub requests_on : List Item → ℕ
requests_on [] = 0
requests_on (message cars flag ∷ l) = requests_on l
requests_on (request set ∷ l) = suc (requests_on l)

-- ---- the answer of a zone

-- What is true of the answer x of zone z to an accepted step; turning: it is a start or takes a request, by which a zone that is not
-- permanent turns so ("firm").
record Answered (z : Zone) (turning : Bool) (x : StepAnswer) : Type 0 where
  to-within : x.to < 2 ^ z.count
  shown-kept : (is_permanent z.checkpoint ≡ true) ⊎ (turning ≡ false) → shown x.zone.checkpoint ≡ shown z.checkpoint
  none-sent : turning ≡ false → x.to ≡ nobody

-- A local state shows what the zone shows.
abbrev ShownAs : Zone → Local → Type 0
ShownAs z l = shown l.checkpoint ≡ shown z.checkpoint

sent-answered : (z : Zone) (to cars : ℕ) → eqb (send_step z to cars).refusal 0 ≡ true → Answered z false (send_step z to cars)
sent-answered z to cars e = subst (Answered z false) (sym (send-step z to cars e).0)
    (record { to-within = pow_pos z.count; shown-kept = λ _. sent-keeps z.edition cars (local_of z) (ShownAs z) (λ q. q) refl; none-sent = λ _. refl })

received-answered : (z : Zone) (from cars : ℕ) (flag : Bool) → eqb (receive_step z from cars flag).refusal 0 ≡ true
    → Answered z false (receive_step z from cars flag)
received-answered z from cars flag e = subst (Answered z false) (sym (receive-step z from cars flag e).0)
    (record {
      to-within = pow_pos z.count;
      shown-kept = λ _. received-keeps z.edition cars (local_of z) (ShownAs z) (index from) flag (λ q. after-shown z.checkpoint _ flag) refl;
      none-sent = λ _. refl;
    })

gated-answered : (z : Zone) (d : Direction) (cars : ℕ) → eqb (gate_step z d cars).refusal 0 ≡ true → Answered z false (gate_step z d cars)
gated-answered z d cars e = subst (Answered z false) (sym (gate-step z d cars e).0)
    (record { to-within = pow_pos z.count; shown-kept = λ _. refl; none-sent = λ _. refl })

-- The dependencies of a sound zone are zones of the site.
deps-within : (z : Zone) → is_zone_sound z ≡ true → z.deps < 2 ^ z.count
unfolding is_zone_sound
deps-within z e =
    ltb-true z.deps (2 ^ z.count)
    (and_right (is_edition z.edition && is_count z.count && is_on z.count z.number) _ (and_left _ _ (and_left _ _ e)))

-- A zone that was not permanent sends requests to zones that it depends on.
turned-answered : (z : Zone) (l : Local) (me set more : ℕ) → is_zone_sound z ≡ true → is_permanent z.checkpoint ≡ false
    → Answered z true (requesting_step z (requesting_as l (targets me set (local_of z)) more))
turned-answered z l me set more s e = record {
  to-within = within-difference z.count z.deps _ (deps-within z s);
  shown-kept = λ h. absurd (go h);
  none-sent = λ q. absurd (true≢false q);
}
  where
    go : (is_permanent z.checkpoint ≡ true) ⊎ (true ≡ false) → ⊥
    go (inl p) = true≢false (sym p ∙ e)
    go (inr q) = true≢false q

requested-answered : (z : Zone) (set : ℕ) → eqb (request_step z set).refusal 0 ≡ true → Answered z true (request_step z set)
unfolding requested_by
requested-answered z set e =
    let r = request-step z set e in
    subst (Answered z true) (sym r.0) (go r.1 (is_permanent z.checkpoint) refl)
  where
    go : is_zone_sound z ≡ true → (p : Bool) → is_permanent z.checkpoint ≡ p → Answered z true (requesting_step z
        (cond p (requesting_as (local_of z) nobody nobody)
        (requesting_as (requested (local_of z)) (targets (index z.number) set (local_of z)) (carried set (local_of z)))))
    go s true q = record { to-within = pow_pos z.count; shown-kept = λ _. refl; none-sent = λ h. absurd (true≢false h) }
    go s false q = turned-answered z _ _ set _ s q

started-answered : (z : Zone) → eqb (start_step z).refusal 0 ≡ true → Answered z true (start_step z)
unfolding started_by
started-answered z e =
    let r = start-step z e in
    subst (Answered z true) (sym r.0) (turned-answered z _ _ nobody _ r.1 (no-checkpoint-not-permanent z.checkpoint r.2))

-- ---- the call

abbrev pub is_start : Call → Bool
is_start (send a b cars) = false
is_start (receive a b) = false
is_start (start a) = true
is_start (gate d a cars) = false

-- Is it a call by which a zone that is not permanent turns so?
abbrev pub turning : Call → Network → Bool
turning c net = is_start c || takes_request c net

-- The same of what is answered to a call: a receipt from an empty channel has no answer.
abbrev AnsweredBy : Zone → Bool → Option StepAnswer → Type 0
AnsweredBy z t none = Unit {0}
AnsweredBy z t (some x) = eqb x.refusal 0 ≡ true → Answered z t x

answered : (c : Call) (net : Network) → AnsweredBy (net.zone (step_of c)) (turning c net) (answer c net)
answered (send a b cars) net = sent-answered (net.zone a) (b + 1) cars
answered (receive a b) net = go (net.channel a b)
  where
    go : (l : List Item) → AnsweredBy (net.zone b) (begins_with_request l) (take_step (a + 1) l (net.zone b))
    go [] = tt
    go (message cars flag ∷ l) = received-answered (net.zone b) (a + 1) cars flag
    go (request set ∷ l) = requested-answered (net.zone b) set
answered (start a) net = started-answered (net.zone a)
answered (gate d a cars) net = gated-answered (net.zone a) d cars

-- The numbers of requests that leave and join the channel from i to j by a call, if it took a request and sends requests to a set.
abbrev takes_from : Call → ℕ → ℕ → Bool
takes_from (send a b cars) i j = false
takes_from (receive a b) i j = eqb i a && eqb j b
takes_from (start a) i j = false
takes_from (gate d a cars) i j = false

abbrev pub leaving : Call → Bool → ℕ → ℕ → ℕ
leaving c taken i j = cond (takes_from c i j && taken) 1 0

abbrev pub joining : Call → ℕ → ℕ → ℕ → ℕ
joining c set i j = cond (eqb i (step_of c) && has set j) 1 0

-- A call leads from a network to the next. It sends requests to the zones of a set, took a request or not, and may have turned its zone.
pub record Effect (c : Call) (net next : Network) (set : ℕ) (taken turned : Bool) : Type 0 where
  pub to-within : set < 2 ^ (net.zone (step_of c)).count
  pub requests : (i j : ℕ) → requests_on (next.channel i j) + leaving c taken i j ≡ requests_on (net.channel i j) + joining c set i j
  pub shown-kept : (k : ℕ) → (is_permanent (net.zone k).checkpoint ≡ true) ⊎ (eqb k (step_of c) && turned ≡ false)
      → shown (next.zone k).checkpoint ≡ shown (net.zone k).checkpoint
  pub none-sent : turned ≡ false → set ≡ nobody

refused-effect : (c : Call) (net : Network) → Effect c net net nobody false false
refused-effect c net = record {
  to-within = pow_pos _;
  requests = λ i j. rw (and-false (takes_from c i j), has-nobody j, and-false (eqb i (step_of c)));
  shown-kept = λ _ _. refl;
  none-sent = λ _. refl;
}

-- Where an item joins or leaves a channel.
message-joins : (p : Bool) (cars : ℕ) (flag : Bool) (l : List Item) → requests_on (on p (join (message cars flag)) l) ≡ requests_on l
message-joins false cars flag l = refl
message-joins true cars flag [] = refl
message-joins true cars flag (message c f ∷ l) = message-joins true cars flag l
message-joins true cars flag (request q ∷ l) = ap suc (message-joins true cars flag l)

request-joins : (p : Bool) (set : ℕ) (l : List Item) → requests_on (on p (join (request set)) l) ≡ requests_on l + cond p 1 0
request-joins false set l = omega arith
request-joins true set [] = refl
request-joins true set (message c f ∷ l) = request-joins true set l
request-joins true set (request q ∷ l) = let h = request-joins true set l in omega arith

first-leaves : (p : Bool) (l : List Item) → requests_on (on p tail l) + cond (p && begins_with_request l) 1 0 ≡ requests_on l
first-leaves false l = omega arith
first-leaves true [] = refl
first-leaves true (message c f ∷ l) = omega arith
first-leaves true (request q ∷ l) = omega arith

-- The answer x is stored.
module _ (net : Network) (x : StepAnswer) where
  stored-zone : (c : Call) (k : ℕ) → (stored c x net).zone k ≡ on (eqb k (step_of c)) (λ z. x.zone) (net.zone k)
  stored-zone (send a b cars) k = refl
  stored-zone (receive a b) k = refl
  stored-zone (start a) k = refl
  stored-zone (gate d a cars) k = refl

  stored-requests : (c : Call) → (turning c net ≡ false → x.to ≡ nobody) → (i j : ℕ)
      → requests_on ((stored c x net).channel i j) + leaving c (takes_request c net) i j
      ≡ requests_on (net.channel i j) + joining c x.to i j
  stored-requests (send a b cars) h i j =
      rw (message-joins (eqb i a && eqb j b) cars x.flag (net.channel i j), h refl, has-nobody j, and-false (eqb i a))
  stored-requests (receive a b) h i j =
      let p = request-joins (eqb i b && has x.to j) x.carried (on (eqb i a && eqb j b) tail (net.channel i j)) in
      let q = first-leaves (eqb i a && eqb j b) (net.channel i j) in
      let w = ap (λ (t : Bool). cond {A = ℕ} t 1 0) (first_of (eqb i a && eqb j b) refl) in
      omega arith
    where
      first_of : (p : Bool) → eqb i a && eqb j b ≡ p → p && begins_with_request (net.channel a b) ≡ p && begins_with_request (net.channel i j)
      first_of false e = refl
      first_of true e = let r = both_true i a j b e in cc
  stored-requests (start a) h i j =
      let p = request-joins (eqb i a && has x.to j) x.carried (net.channel i j) in
      omega arith
  stored-requests (gate d a cars) h i j = rw (h refl, has-nobody j, and-false (eqb i a))

  accepted-effect : (c : Call) → Answered (net.zone (step_of c)) (turning c net) x
      → Effect c net (stored c x net) x.to (takes_request c net) (turning c net)
  accepted-effect c r = record {
    to-within = r.to-within;
    requests = stored-requests c r.none-sent;
    shown-kept = λ k h. ap (λ (z : Zone). shown z.checkpoint) (stored-zone c k)
        ∙ on-same-at (λ (z : Zone). shown z.checkpoint) (eqb k (step_of c)) (λ z. x.zone) (net.zone k) (at k h);
    none-sent = r.none-sent;
  }
    where
      Kept : ℕ → Type 0
      Kept k = (is_permanent (net.zone k).checkpoint ≡ true) ⊎ (turning c net ≡ false)
          → shown x.zone.checkpoint ≡ shown (net.zone k).checkpoint

      at : (k : ℕ) → (is_permanent (net.zone k).checkpoint ≡ true) ⊎ (eqb k (step_of c) && turning c net ≡ false)
          → eqb k (step_of c) ≡ true → shown x.zone.checkpoint ≡ shown (net.zone k).checkpoint
      at k h q = subst Kept (sym (eqb-true k (step_of c) q)) r.shown-kept (rw q at h)

-- Whom the call sends requests to, whether it took a request, and whether its zone may have turned by it; nobody and no, if it was
-- refused.
abbrev pub sends_to : Call → Network → ℕ
sends_to c net = cond (is_accepted (answer c net)) (targets_of (answer c net)) nobody

abbrev pub took_request : Call → Network → Bool
took_request c net = is_accepted (answer c net) && takes_request c net

abbrev pub turns : Call → Network → Bool
turns c net = is_accepted (answer c net) && turning c net

pub effect : (c : Call) (net : Network) → Effect c net (made c net) (sends_to c net) (took_request c net) (turns c net)
effect c net = go (answer c net) (answered c net)
  where
    by : (x : StepAnswer) (p : Bool) → (p ≡ true → Answered (net.zone (step_of c)) (turning c net) x)
        → Effect c net (on p (stored c x) net) (cond p x.to nobody) (p && takes_request c net) (p && turning c net)
    by x true f = accepted-effect net x c (f refl)
    by x false f = refused-effect c net

    go : (o : Option StepAnswer) → AnsweredBy (net.zone (step_of c)) (turning c net) o
        → Effect c net (stored_if c o net) (cond (is_accepted o) (targets_of o) nobody) (is_accepted o && takes_request c net)
        (is_accepted o && turning c net)
    go none f = refused-effect c net
    go (some x) f = by x (eqb x.refusal 0) f
