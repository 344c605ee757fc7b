-- Zone parts on a maker's own channels record as consistently as the site does: what they do is what the rules say, if a refused item
-- stays on its channel and at most one start is accepted.
use mathlib.Core.Path.{◌≡◌, refl, sym, ◌∙◌, ap, subst}
use mathlib.Core.Bool.{Bool, true, false, cond, ◌&&◌, not, and-false, false≢true}
use mathlib.Core.List.{List, [], ◌∷◌, tail}
use mathlib.Core.Option.{Option, none, some}
use Prim.Native.Nat.{ℕ, suc, ◌+◌, ◌≤◌}
use native.Mathlib.Omega.{arith}
use lib.Dec.{eqb}
use borrow.Author.Tests.{eqb-true, leb-true, not-true}
use Rattle.rules.specs.Change.{on, join, cons-if}
use Rattle.rules.specs.Opening.{Opening}
use Rattle.rules.specs.Cut.{May, Allowed, run, Complete, Cut, shown_by, snapshot}
use Rattle.rules.specs.Questions.{index}
use Rattle.rules.specs.Sets.{has, nobody}
use Rattle.rules.specs.Site.{Item, message, request, Site, send_s, pop_s, request_all_s, receive_s, turn_s, request_s, start_s, gate_s, take_s, Call, send, receive, start, gate, step_s, open_s}
use Rattle.rules.specs.Zone.{has_checkpoint, is_permanent, opened, sent_under, received_under, needed, gated, started, requested, targets, carried}
use Rattle.rules.specs.declared.Checkpoint.{Checkpoint}
use Rattle.rules.specs.declared.Checkpoint.TheVariants.{None, Mutable, Permanent}
use Rattle.rules.specs.declared.Direction.{Direction}
use Rattle.rules.specs.declared.Local.{Local}
use Rattle.rules.proofs.Guarded.{on-true, on-false, on-map-at, on-same-at}
use Rattle.rules.proofs.SiteLaws.{site≡}
use Rattle.rules.proofs.SetLaws.{has-nobody}
use Rattle.rules.proofs.History.{History, open_h, initiator_after, step_h}
use Rattle.rules.proofs.Kept.{Fresh, fresh-open, fresh-call}
use Rattle.rules.proofs.Consistency.{consistent}
use Rattle.local.specs.Requesting.{requesting_as, requested_by, started_by}
use Rattle.zone.specs.Zone.{local_of, with_local, is_zone_sound, is_other, accepted, requesting_step, send_step, receive_step, request_step, start_step, gate_step}
use Rattle.zone.specs.Answer.{StepAnswer}
use Rattle.zone.specs.declared.Zone.{Zone}
use Rattle.zone.proofs.Asks.{send_asks, receive_asks, request_asks, start_asks, passed}
use Rattle.zone.proofs.Gates.{gate-answer, gate-covered, gate-from-three}
use Rattle.network.specs.Network.{Network, open_network, take_step, answer, is_accepted, sends_requests, without_first, stored, stored_if, made, after, accepted_calls, starts_in, network_site}

-- What an accepted step answers, and what its questions said.
pub send-step : (z : Zone) (to cars : ℕ) → eqb (send_step z to cars).refusal 0 ≡ true
    → (send_step z to cars ≡ accepted (with_local z (sent_under z.edition cars (local_of z))) (has_checkpoint z.checkpoint) nobody nobody)
    × (is_other z to ≡ true)
    × (cars ≤ z.stock)
unfolding send_step
send-step z to cars e =
    let r = passed (send_asks z to cars) z
    (accepted (with_local z (sent_under z.edition cars (local_of z))) (has_checkpoint z.checkpoint) nobody nobody) refl e in
    (r.1, r.0.1.0, leb-true cars z.stock r.0.1.1.1.0)

pub receive-step : (z : Zone) (from cars : ℕ) (flag : Bool) → eqb (receive_step z from cars flag).refusal 0 ≡ true
    → (receive_step z from cars flag ≡ accepted (with_local z (received_under z.edition (index from) cars flag (local_of z))) false nobody nobody)
    × (is_other z from ≡ true)
unfolding receive_step
receive-step z from cars flag e =
    let r = passed (receive_asks z from cars) z
    (accepted (with_local z (received_under z.edition (index from) cars flag (local_of z))) false nobody nobody) refl e in
    (r.1, r.0.1.0)

pub request-step : (z : Zone) (set : ℕ) → eqb (request_step z set).refusal 0 ≡ true
    → (request_step z set ≡ requesting_step z (requested_by (index z.number) set (local_of z))) × (is_zone_sound z ≡ true)
unfolding request_step
request-step z set e =
    let r = passed (request_asks z set) z
    (requesting_step z (requested_by (index z.number) set (local_of z))) refl e in
    (r.1, r.0.0)

pub start-step : (z : Zone) → eqb (start_step z).refusal 0 ≡ true
    → (start_step z ≡ requesting_step z (started_by (index z.number) (local_of z))) × (is_zone_sound z ≡ true)
    × (has_checkpoint z.checkpoint ≡ false)
unfolding start_step
start-step z e =
    let r = passed (start_asks z) z
    (requesting_step z (started_by (index z.number) (local_of z))) refl e in
    (r.1, r.0.0, not-true (has_checkpoint z.checkpoint) r.0.1.0)

pub gate-step : (z : Zone) (d : Direction) (cars : ℕ) → eqb (gate_step z d cars).refusal 0 ≡ true
    → (gate_step z d cars ≡ accepted (with_local z (gated d cars (local_of z))) false nobody nobody) × (needed d cars ≤ z.stock)
    × (3 ≤ z.edition)
gate-step z d cars e =
    let zero = eqb-true (gate_step z d cars).refusal 0 e in
    (gate-answer z d cars zero, gate-covered z d cars zero, gate-from-three z d cars zero)

-- The zone at index k has the number k + 1.
abbrev pub Numbered : Network → Type 0
Numbered net = (k : ℕ) → (net.zone k).number ≡ k + 1

-- All zones have this edition.
abbrev pub InEdition : ℕ → Network → Type 0
InEdition edition net = (k : ℕ) → (net.zone k).edition ≡ edition

index_of : (k n : ℕ) → n ≡ k + 1 → index n ≡ k
index_of k n e = omega arith

-- Zone a is stored; the rules change it by g.
changed : (net : Network) (a : ℕ) (z : Zone) (g : Local → Local) → local_of z ≡ g (local_of (net.zone a)) → (k : ℕ)
    → local_of (on (eqb k a) (λ y. z) (net.zone k)) ≡ on (eqb k a) g (local_of (net.zone k))
changed net a z g e k = on-map-at local_of (eqb k a) (λ y. z) g (net.zone k)
    (λ q. e ∙ ap (λ (i : ℕ). g (local_of (net.zone i))) (sym (eqb-true k a q)))

-- Where there is no target, no channel changes.
no_targets : (b i j set : ℕ) (l : List Item) → on (eqb i b && has nobody j) (join (request set)) l ≡ l
no_targets b i j set l = rw (has-nobody j, and-false (eqb i b))

-- Where there is no target, what requests would carry does not matter.
targets-channel : (b i j to set : ℕ) (l : List Item)
    → on (eqb i b && has to j) (join (request (cond (eqb to 0) 0 set))) l ≡ on (eqb i b && has to j) (join (request set)) l
targets-channel b i j to set l = go (eqb to 0) refl
  where
    go : (p : Bool) → eqb to 0 ≡ p
        → on (eqb i b && has to j) (join (request (cond p 0 set))) l ≡ on (eqb i b && has to j) (join (request set)) l
    go true e = rw (eqb-true to 0 e, has-nobody j, and-false (eqb i b))
    go false e = refl

-- A call that is not accepted changes nothing.
pub refused-kept : (c : Call) (net : Network) → is_accepted (answer c net) ≡ false → made c net ≡ net
refused-kept c net = go (answer c net)
  where
    go : (o : Option StepAnswer) → is_accepted o ≡ false → stored_if c o net ≡ net
    go none e = refl
    go (some x) e = on-false (eqb x.refusal 0) (stored c x) net e

-- Whatever the edition that all zones have.
module _ (edition : ℕ) where
  -- A message is sent.
  sent-site : (net : Network) → InEdition edition net → (a b cars : ℕ) → eqb (send_step (net.zone a) (b + 1) cars).refusal 0 ≡ true
      → network_site edition (stored (send a b cars) (send_step (net.zone a) (b + 1) cars) net) ≡ send_s a b cars (network_site edition net)
  sent-site net same a b cars e =
      ap (λ (x : StepAnswer). network_site edition (stored (send a b cars) x net)) (send-step (net.zone a) (b + 1) cars e).0
      ∙ site≡ _ _ refl (changed net a _ (sent_under edition cars) (ap (λ (n : ℕ). sent_under n cars (local_of (net.zone a))) (same a)))
      (λ i j. refl)

  -- A message is received.
  received-site : (net : Network) → InEdition edition net → (a b cars : ℕ) (flag : Bool)
      → eqb (receive_step (net.zone b) (a + 1) cars flag).refusal 0 ≡ true
      → network_site edition (stored (receive a b) (receive_step (net.zone b) (a + 1) cars flag) net) ≡ receive_s a b cars flag (network_site edition net)
  received-site net same a b cars flag e =
      ap (λ (x : StepAnswer). network_site edition (stored (receive a b) x net)) (receive-step (net.zone b) (a + 1) cars flag e).0
      ∙ site≡ _ _ refl
      (changed net b _ (received_under edition a cars flag)
      (ap (λ (n : ℕ). received_under n (index (a + 1)) cars flag (local_of (net.zone b))) (same b)
      ∙ ap (λ (k : ℕ). received_under edition k cars flag (local_of (net.zone b))) (index_of a (a + 1) refl)))
      (λ i j. no_targets b i j nobody (on (eqb i a && eqb j b) tail (net.channel i j)))

  -- A zone takes a permanent checkpoint ("turns firm") by the change g, and sends requests.
  requests-site : (net : Network) (b set : ℕ) (g : Local → Local) → (net.zone b).number ≡ b + 1
      → network_site edition (sends_requests b (requesting_step (net.zone b)
      (requesting_as (g (local_of (net.zone b))) (targets (index (net.zone b).number) set (local_of (net.zone b))) (carried set (local_of (net.zone b))))) net)
      ≡ request_all_s b g (targets b set (local_of (net.zone b))) (carried set (local_of (net.zone b))) (network_site edition net)
  requests-site net b set g e =
      ap (λ (k : ℕ). network_site edition (sends_requests b (requesting_step (net.zone b)
      (requesting_as (g (local_of (net.zone b))) (targets k set (local_of (net.zone b))) (carried set (local_of (net.zone b))))) net))
      (index_of b (net.zone b).number e)
      ∙ site≡ _ _ refl (changed net b _ g refl)
      (λ i j. targets-channel b i j (targets b set (local_of (net.zone b))) (carried set (local_of (net.zone b))) (net.channel i j))

  -- A request is received: "a firm zone drops it".
  requested-site : (net : Network) (a b set : ℕ) → Numbered net → eqb (request_step (net.zone b) set).refusal 0 ≡ true
      → network_site edition (stored (receive a b) (request_step (net.zone b) set) net) ≡ request_s a b set (network_site edition net)
  unfolding requested_by
  requested-site net a b set num e =
      ap (λ (x : StepAnswer). network_site edition (stored (receive a b) x net)) (request-step (net.zone b) set e).0
      ∙ go (is_permanent (net.zone b).checkpoint)
    where
      go : (p : Bool)
          → network_site edition (sends_requests b (requesting_step (net.zone b)
          (cond p (requesting_as (local_of (net.zone b)) nobody nobody)
          (requesting_as (requested (local_of (net.zone b))) (targets (index (net.zone b).number) set (local_of (net.zone b)))
          (carried set (local_of (net.zone b))))))
          (without_first a b net))
          ≡ on (not p) (turn_s b set) (pop_s a b (network_site edition net))
      go true = site≡ _ _ refl (λ k. changed net b _ (λ y. y) refl k ∙ idle (eqb k b) (local_of (net.zone k)))
          (λ i j. no_targets b i j nobody (on (eqb i a && eqb j b) tail (net.channel i j)))
        where
          idle : (p : Bool) (y : Local) → on p (λ y. y) y ≡ y
          idle true y = refl
          idle false y = refl
      go false = requests-site (without_first a b net) b set requested (num b)

  -- A recording is started.
  started-site : (net : Network) (a : ℕ) → Numbered net → eqb (start_step (net.zone a)).refusal 0 ≡ true
      → network_site edition (stored (start a) (start_step (net.zone a)) net) ≡ start_s a (network_site edition net)
  unfolding started_by
  started-site net a num e =
      ap (λ (x : StepAnswer). network_site edition (stored (start a) x net)) (start-step (net.zone a) e).0 ∙ requests-site net a nobody started (num a)

  -- Cars go through a gate.
  gated-site : (net : Network) (d : Direction) (a cars : ℕ) → eqb (gate_step (net.zone a) d cars).refusal 0 ≡ true
      → network_site edition (stored (gate d a cars) (gate_step (net.zone a) d cars) net) ≡ gate_s d a cars (network_site edition net)
  gated-site net d a cars e =
      ap (λ (x : StepAnswer). network_site edition (stored (gate d a cars) x net)) (gate-step (net.zone a) d cars e).0
      ∙ site≡ _ _ refl (changed net a _ (gated d cars) refl) (λ i j. refl)

  -- An accepted call does to the network what the rules say of the site that it stands for.
  pub refine : (c : Call) (net : Network) → Numbered net → InEdition edition net → is_accepted (answer c net) ≡ true
      → network_site edition (made c net) ≡ step_s c (network_site edition net)
  refine (send a b cars) net num same e =
      let x = send_step (net.zone a) (b + 1) cars in
      ap (network_site edition) (on-true (eqb x.refusal 0) (stored (send a b cars) x) net e) ∙ sent-site net same a b cars e
  refine (receive a b) net num same e = go (net.channel a b) e
    where
      go : (l : List Item) → is_accepted (take_step (a + 1) l (net.zone b)) ≡ true
          → network_site edition (stored_if (receive a b) (take_step (a + 1) l (net.zone b)) net) ≡ take_s a b l (network_site edition net)
      go [] e = absurd (false≢true e)
      go (message cars flag ∷ l) e =
          let x = receive_step (net.zone b) (a + 1) cars flag in
          ap (network_site edition) (on-true (eqb x.refusal 0) (stored (receive a b) x) net e) ∙ received-site net same a b cars flag e
      go (request set ∷ l) e =
          let x = request_step (net.zone b) set in
          ap (network_site edition) (on-true (eqb x.refusal 0) (stored (receive a b) x) net e) ∙ requested-site net a b set num e
  refine (start a) net num same e =
      let x = start_step (net.zone a) in
      ap (network_site edition) (on-true (eqb x.refusal 0) (stored (start a) x) net e) ∙ started-site net a num e
  refine (gate d a cars) net num same e =
      let x = gate_step (net.zone a) d cars in
      ap (network_site edition) (on-true (eqb x.refusal 0) (stored (gate d a cars) x) net e) ∙ gated-site net d a cars e

-- What an accepted call shows: the stock covers the cars that leave it; the channel holds an item. A start shows only of its own
-- zone that it has no checkpoint, so that nothing is claimed of it here.
abbrev pub Shows : Call → Network → Type 0
Shows (send a b cars) net = cars ≤ (net.zone a).stock
Shows (receive a b) net = net.channel a b ≡ [] → ⊥
Shows (start a) net = Unit {0}
Shows (gate d a cars) net = needed d cars ≤ (net.zone a).stock

pub shows : (c : Call) (net : Network) → is_accepted (answer c net) ≡ true → Shows c net
shows (send a b cars) net e = (send-step (net.zone a) (b + 1) cars e).2
shows (receive a b) net e = λ q. false≢true (ap (λ (l : List Item). is_accepted (take_step (a + 1) l (net.zone b))) (sym q) ∙ e)
shows (start a) net e = tt
shows (gate d a cars) net e = (gate-step (net.zone a) d cars e).1

-- What no step changes of a zone, such as its number and the count, no call changes.
module _ (f : Zone → ℕ) (fixed : (z : Zone) (l : Local) → f (with_local z l) ≡ f z)
    (g : ℕ → ℕ) (net : Network) (now : (k : ℕ) → f (net.zone k) ≡ g k) where
  zone-kept : (a : ℕ) (x : StepAnswer) (l : Local) (e : x.zone ≡ with_local (net.zone a) l) (k : ℕ)
      → f (on (eqb k a) (λ y. x.zone) (net.zone k)) ≡ g k
  zone-kept a x l e k =
      on-same-at f (eqb k a) (λ y. x.zone) (net.zone k)
      (λ q. ap f e ∙ fixed (net.zone a) l ∙ ap (λ (i : ℕ). f (net.zone i)) (sym (eqb-true k a q)))
      ∙ now k

  kept_if : (c : Call) (x : StepAnswer) → (eqb x.refusal 0 ≡ true → (k : ℕ) → f ((stored c x net).zone k) ≡ g k)
      → (k : ℕ) → f ((stored_if c (some x) net).zone k) ≡ g k
  kept_if c x h = go (eqb x.refusal 0) refl
    where
      go : (p : Bool) → eqb x.refusal 0 ≡ p → (k : ℕ) → f ((on p (stored c x) net).zone k) ≡ g k
      go true e = h e
      go false e = now

  pub call-keeps : (c : Call) (k : ℕ) → f ((made c net).zone k) ≡ g k
  call-keeps (send a b cars) =
      let x = send_step (net.zone a) (b + 1) cars in
      kept_if (send a b cars) x
      (λ e. zone-kept a x _ (ap (λ (x : StepAnswer). x.zone) (send-step (net.zone a) (b + 1) cars e).0))
  call-keeps (receive a b) = go (net.channel a b)
    where
      go : (l : List Item) (k : ℕ) → f ((stored_if (receive a b) (take_step (a + 1) l (net.zone b)) net).zone k) ≡ g k
      go [] = now
      go (message cars flag ∷ l) =
          let x = receive_step (net.zone b) (a + 1) cars flag in
          kept_if (receive a b) x
          (λ e. zone-kept b x _ (ap (λ (x : StepAnswer). x.zone) (receive-step (net.zone b) (a + 1) cars flag e).0))
      go (request set ∷ l) =
          let x = request_step (net.zone b) set in
          kept_if (receive a b) x (λ e. zone-kept b x _ (ap (λ (x : StepAnswer). x.zone) (request-step (net.zone b) set e).0))
  call-keeps (start a) =
      let x = start_step (net.zone a) in
      kept_if (start a) x (λ e. zone-kept a x _ (ap (λ (x : StepAnswer). x.zone) (start-step (net.zone a) e).0))
  call-keeps (gate d a cars) =
      let x = gate_step (net.zone a) d cars in
      kept_if (gate d a cars) x (λ e. zone-kept a x _ (ap (λ (x : StepAnswer). x.zone) (gate-step (net.zone a) d cars e).0))

pub numbered : (net : Network) → Numbered net → (c : Call) → Numbered (made c net)
numbered net num c = call-keeps (λ z. z.number) (λ z l. refl) (λ k. k + 1) net num c

pub edition-kept : {edition : ℕ} (net : Network) → InEdition edition net → (c : Call) → InEdition edition (made c net)
edition-kept {edition} net same c = call-keeps (λ z. z.edition) (λ z l. refl) (λ k. edition) net same c

-- The number of starts accepted before.
abbrev starts_before : Option ℕ → ℕ
starts_before none = 0
starts_before (some a) = 1

pub no-checkpoint-not-permanent : (k : Checkpoint) → has_checkpoint k ≡ false → is_permanent k ≡ false
no-checkpoint-not-permanent None e = refl
no-checkpoint-not-permanent (Mutable s) e = refl
no-checkpoint-not-permanent (Permanent s) e = e

-- An accepted call is one that the rules allow, where no start is a second one.
allowed-call : (edition : ℕ) (c : Call) (rest : List Call) (net : Network) (h : History) → Fresh h → network_site edition net ≡ h.now
    → starts_before h.initiator + starts_in (c ∷ rest) ≤ 1 → Shows c net → May c h.now
allowed-call edition (send a b cars) rest net h f e one w = subst (May (send a b cars)) e w
allowed-call edition (receive a b) rest net h f e one w = subst (May (receive a b)) e w
allowed-call edition (gate d a cars) rest net h f e one w = subst (May (gate d a cars)) e w
allowed-call edition (start a) rest net h f e one w = go h.initiator refl one
  where
    go : (o : Option ℕ) → h.initiator ≡ o → starts_before o + suc (starts_in rest) ≤ 1 → May (start a) h.now
    go none q one = λ z. no-checkpoint-not-permanent (h.now.zone z).checkpoint (f.no-checkpoint q z)
    go (some x) q one = absurd (omega arith)

-- The starts that are left, after an accepted call.
one_left : (c : Call) (rest : List Call) (o : Option ℕ) → starts_before o + starts_in (c ∷ rest) ≤ 1 → starts_before (initiator_after c o) + starts_in rest ≤ 1
one_left (send a b cars) rest o one = one
one_left (receive a b) rest o one = one
one_left (gate d a cars) rest o one = one
one_left (start a) rest none one = omega arith
one_left (start a) rest (some x) one = absurd (omega arith)

module _ (edition : ℕ) where
  -- The network follows the rules over its accepted calls.
  abbrev Follows : List Call → Network → Site → Type 0
  Follows cs net s = Allowed (accepted_calls cs net) s × (network_site edition (after cs net) ≡ run (accepted_calls cs net) s)

  follows : (cs : List Call) (net : Network) (h : History) → Numbered net → InEdition edition net → Fresh h → network_site edition net ≡ h.now
      → starts_before h.initiator + starts_in (accepted_calls cs net) ≤ 1 → Follows cs net h.now
  follows [] net h num same f e one = (tt, e)
  follows (c ∷ cs) net h num same f e one =
      go (λ t. follows cs (made c net) t (numbered net num c) (edition-kept net same c)) (is_accepted (answer c net)) refl one
    where
      go : ((t : History) → Fresh t → network_site edition (made c net) ≡ t.now → starts_before t.initiator + starts_in (accepted_calls cs (made c net)) ≤ 1
          → Follows cs (made c net) t.now)
          → (p : Bool) → is_accepted (answer c net) ≡ p
          → starts_before h.initiator + starts_in (cons-if p c (accepted_calls cs (made c net))) ≤ 1
          → Allowed (cons-if p c (accepted_calls cs (made c net))) h.now
          × (network_site edition (after cs (made c net)) ≡ run (cons-if p c (accepted_calls cs (made c net))) h.now)
      go ih true q one =
          let may = allowed-call edition c (accepted_calls cs (made c net)) net h f e one (shows c net q) in
          let r = ih (step_h c h) (fresh-call c h f may) (refine edition c net num same q ∙ ap (step_s c) e)
          (one_left c (accepted_calls cs (made c net)) h.initiator one) in
          ((may, r.0), r.1)
      go ih false q one = ih h f (ap (network_site edition) (refused-kept c net q) ∙ e) one

-- The opening is that of the rules.
opening : (n : ℕ) (o : Opening) → network_site o.edition (open_network n o) ≡ open_s o
opening n o = site≡ _ _ refl (λ k. ap (λ (i : ℕ). opened i (o.stocks k)) (index_of k (k + 1) refl)) (λ i j. refl)

-- Whatever the zone count, the opening and the calls, if at most one start was accepted.
module _ (n : ℕ) (o : Opening) (cs : List Call) (one : starts_in (accepted_calls cs (open_network n o)) ≤ 1) where
  -- The network after the calls, and those of them that were accepted.
  abbrev net : Network
  net = after cs (open_network n o)

  abbrev ones : List Call
  ones = accepted_calls cs (open_network n o)

  -- The accepted calls are such as the rules allow, and lead the rules to the zones and channels that the network has.
  pub network-follows : Allowed ones (open_s o) × (network_site o.edition net ≡ run ones (open_s o))
  network-follows = follows o.edition cs (open_network n o) (open_h o) (λ k. refl) (λ k. refl) (fresh-open o) (opening n o) (omega arith)

  -- So, when the recording is complete, what the rules show is a consistent cut of the accepted calls: demand 3 over the maker's own
  -- channels.
  pub network-consistent : Complete (network_site o.edition net) → Cut o ones (snapshot o ones)
  network-consistent done = consistent o ones network-follows.0 (subst Complete network-follows.1 done)

  -- What the network's own zones show is what the rules show: the recorded zones, their events and stocks, and the lines by these events.
  pub network-shows : shown_by o ones (network_site o.edition net) ≡ snapshot o ones
  network-shows = ap (shown_by o ones) network-follows.1
