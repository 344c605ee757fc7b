-- A history: the site, with what happened on the way to it. Its site is that of the run, and its events without their tags are the
-- moves that the park is fed.
use mathlib.Core.Path.{◌≡◌, refl, sym, ◌∙◌, ap}
use mathlib.Core.Bool.{Bool, true, false, ◌&&◌, ◌||◌}
use mathlib.Core.List.{List, [], ◌∷◌, ◌++◌, append_assoc, append-nil, map, tail}
use mathlib.Core.Option.{Option, none, some}
use Prim.Native.Nat.{ℕ, ◌+◌}
use lib.Dec.{eqb}
use Rattle.rules.specs.Edition.{is_traffic}
use Rattle.rules.specs.Opening.{Opening}
use Rattle.rules.specs.Change.{on, join, cons-if}
use Rattle.rules.specs.Sets.{has}
use Rattle.rules.specs.Zone.{has_checkpoint, is_permanent, sent_under, received, received_under}
use Rattle.rules.specs.Site.{Item, message, request, Site, receive_s, pop_s, turn_s, start_s, Call, send, receive, start, gate, step_s, open_s}
use Rattle.rules.specs.Park.{Move}
use Rattle.rules.specs.Cut.{Allowed, run, taking, move_of, moves}
use Rattle.rules.specs.declared.Local.{Local}
use Rattle.rules.proofs.Tests.{both_true}
use Rattle.rules.proofs.Editions.{sent-traffic, sent-check, received-traffic, received-check}
use Rattle.rules.proofs.Guarded.{on_same, on-still, on_both}
use Rattle.rules.proofs.Lists.{map-join}
use Rattle.rules.proofs.Acts.{Act, handing, passing}
use Rattle.rules.proofs.Tagged.{Event, acting, receiving}
use Rattle.rules.proofs.Untagged.{untag}

-- The site, the zone that started if one did, and the own events of all zones in order.
pub record History : Type 0 where
  pub now : Site
  pub initiator : Option ℕ
  pub log : List Event

abbrev pub open_h : Opening → History
open_h v = record { now = open_s v; initiator = none; log = [] }

-- What is asked of a zone at the end of a history.
abbrev pub NoCheckpoint : History → ℕ → Type 0
NoCheckpoint h k = has_checkpoint (h.now.zone k).checkpoint ≡ false

abbrev pub IsPermanent : History → ℕ → Type 0
IsPermanent h k = is_permanent (h.now.zone k).checkpoint ≡ true

abbrev pub Depends : History → ℕ → ℕ → Type 0
Depends h k i = has (h.now.zone k).deps i ≡ true

-- The steps. An event is tagged by whether its zone has a checkpoint; a flag gives the receiver one before it receives.
abbrev pub acting_of : Act → Site → Event
acting_of x s = acting x (has_checkpoint (s.zone x.zone).checkpoint)

abbrev pub receiving_of : ℕ → ℕ → ℕ → Bool → Site → Event
receiving_of a b c flag s = receiving a b c (has_checkpoint (s.zone b).checkpoint || flag)

-- An act changes its zone's stock, counts as one own event, and keeps the dependency set and the checkpoint. Its message has the flag if
-- the zone has a checkpoint.
abbrev pub acted : Act → Local → Local
acted x z = record { stock = x.change z.stock; deps = z.deps; events = z.events + 1; checkpoint = z.checkpoint }

abbrev pub own_s : Act → Site → Site
own_s x s = record {
  edition = s.edition;
  zone = λ k. on (eqb k x.zone) (acted x) (s.zone k);
  channel = λ i j. on (x.goes i j) (join (message x.cars (has_checkpoint (s.zone x.zone).checkpoint)))
      (s.channel i j);
}

abbrev pub own_h : Act → History → History
own_h x h = record { now = own_s x h.now; initiator = h.initiator; log = join (acting_of x h.now) h.log }

-- A message that is traffic is received.
abbrev pub received_s : ℕ → ℕ → ℕ → Bool → Site → Site
received_s a b c flag s = record {
  edition = s.edition;
  zone = λ k. on (eqb k b) (received a c flag) (s.zone k);
  channel = λ i j. on (eqb i a && eqb j b) tail (s.channel i j);
}

abbrev pub receive_h : ℕ → ℕ → ℕ → Bool → History → History
receive_h a b c flag h = record {
  now = received_s a b c flag h.now;
  initiator = h.initiator;
  log = join (receiving_of a b c flag h.now) h.log;
}

-- A line check joins its channel, with the flag if its sender has a checkpoint; nothing else happens. Taking one off is a pop.
abbrev pub check_s : ℕ → ℕ → ℕ → Site → Site
check_s a b c s = record {
  edition = s.edition;
  zone = s.zone;
  channel = λ i j. on (eqb i a && eqb j b) (join (message c (has_checkpoint (s.zone a).checkpoint))) (s.channel i j);
}

abbrev pub check_h : ℕ → ℕ → ℕ → History → History
check_h a b c h = record { now = check_s a b c h.now; initiator = h.initiator; log = h.log }

abbrev pub pop_h : ℕ → ℕ → History → History
pop_h a b h = record { now = pop_s a b h.now; initiator = h.initiator; log = h.log }

abbrev pub turn_h : ℕ → ℕ → History → History
turn_h b set h = record { now = turn_s b set h.now; initiator = h.initiator; log = h.log }

abbrev pub begin_h : ℕ → History → History
begin_h a h = record { now = h.now; initiator = some a; log = h.log }

abbrev pub start_h : ℕ → History → History
start_h a h = record { now = start_s a h.now; initiator = some a; log = h.log }

-- What a call does to a history.
abbrev pub initiator_after : Call → Option ℕ → Option ℕ
initiator_after (send a b c) o = o
initiator_after (receive a b) o = o
initiator_after (start a) o = some a
initiator_after (gate d a c) o = o

abbrev pub log_taken : ℕ → ℕ → List Item → Site → List Event → List Event
log_taken a b [] s log = log
log_taken a b (message c flag ∷ l) s log = on (is_traffic s.edition c) (join (receiving_of a b c flag s)) log
log_taken a b (request set ∷ l) s log = log

abbrev pub log_after : Call → Site → List Event → List Event
log_after (send a b c) s log = on (is_traffic s.edition c) (join (acting_of (handing a b c) s)) log
log_after (receive a b) s log = log_taken a b (s.channel a b) s log
log_after (start a) s log = log
log_after (gate d a c) s log = join (acting_of (passing d a c) s) log

abbrev pub step_h : Call → History → History
step_h c h = record { now = step_s c h.now; initiator = initiator_after c h.initiator; log = log_after c h.now h.log }

abbrev pub history : List Call → History → History
history [] h = h
history (c ∷ cs) h = history cs (step_h c h)

abbrev pub moves_of : History → List Move
moves_of h = map untag h.log

-- An act keeps every zone's checkpoint and dependency set.
pub own-checkpoint : (x : Act) (h : History) (k : ℕ) → ((own_h x h).now.zone k).checkpoint ≡ (h.now.zone k).checkpoint
own-checkpoint x h k = on_same (λ (z : Local). z.checkpoint) (eqb k x.zone) (acted x) (h.now.zone k) refl

pub own-deps : (x : Act) (h : History) (k : ℕ) → ((own_h x h).now.zone k).deps ≡ (h.now.zone k).deps
own-deps x h k = on_same (λ (z : Local). z.deps) (eqb k x.zone) (acted x) (h.now.zone k) refl

-- A hand-over that is traffic is an act, any other a check.
module _ (a b c : ℕ) (h : History) where
  pub send-own : is_traffic h.now.edition c ≡ true → step_h (send a b c) h ≡ own_h (handing a b c) h
  send-own t = λ x. record {
    now = record {
      edition = h.now.edition;
      zone = λ k. on_both (eqb k a) (sent_under h.now.edition c) (acted (handing a b c)) (h.now.zone k) (sent-traffic h.now.edition c (h.now.zone k) t) x;
      channel = (check_s a b c h.now).channel;
    };
    initiator = h.initiator;
    log = ap (λ (p : Bool). on p (join (acting_of (handing a b c) h.now)) h.log) t x;
  }

  pub send-check : is_traffic h.now.edition c ≡ false → step_h (send a b c) h ≡ check_h a b c h
  send-check t = λ x. record {
    now = record {
      edition = h.now.edition;
      zone = λ k. on-still (eqb k a) (sent_under h.now.edition c) (h.now.zone k) (sent-check h.now.edition c (h.now.zone k) t) x;
      channel = (check_s a b c h.now).channel;
    };
    initiator = h.initiator;
    log = ap (λ (p : Bool). on p (join (acting_of (handing a b c) h.now)) h.log) t x;
  }

  -- The receipt of one that stands first on its channel goes by the same.
  abbrev pub take_h : Bool → History
  take_h flag = record {
    now = receive_s a b c flag h.now;
    initiator = h.initiator;
    log = on (is_traffic h.now.edition c) (join (receiving_of a b c flag h.now)) h.log;
  }

  pub take-receive : (flag : Bool) → is_traffic h.now.edition c ≡ true → take_h flag ≡ receive_h a b c flag h
  take-receive flag t = λ x. record {
    now = record {
      edition = h.now.edition;
      zone = λ k. on_both (eqb k b) (received_under h.now.edition a c flag) (received a c flag) (h.now.zone k) (received-traffic h.now.edition c (h.now.zone k) a flag t) x;
      channel = (pop_s a b h.now).channel;
    };
    initiator = h.initiator;
    log = ap (λ (p : Bool). on p (join (receiving_of a b c flag h.now)) h.log) t x;
  }

  pub take-check : (flag : Bool) → is_traffic h.now.edition c ≡ false → take_h flag ≡ pop_h a b h
  take-check flag t = λ x. record {
    now = record {
      edition = h.now.edition;
      zone = λ k. on-still (eqb k b) (received_under h.now.edition a c flag) (h.now.zone k) (received-check h.now.edition c (h.now.zone k) a flag t) x;
      channel = (pop_s a b h.now).channel;
    };
    initiator = h.initiator;
    log = ap (λ (p : Bool). on p (join (receiving_of a b c flag h.now)) h.log) t x;
  }

-- The channel from i to k, where it is that from a to b.
pub at-channel : (a b i k : ℕ) (h : History) (l : List Item) → eqb i a && eqb k b ≡ true → h.now.channel a b ≡ l
    → h.now.channel i k ≡ l
at-channel a b i k h l t e = let q = both_true i a k b t in cc

-- The site of a history is that of the run.
pub now-run : (cs : List Call) (h : History) → (history cs h).now ≡ run cs h.now
now-run [] h = refl
now-run (c ∷ cs) h = now-run cs (step_h c h)

-- Its events without their tags are the moves of the calls.
moves-if : (p : Bool) (log : List Event) (e : Event) → map untag (on p (join e) log) ≡ map untag log ++ cons-if p (untag e) []
moves-if true log e = map-join untag log e
moves-if false log e = sym (append-nil (map untag log))

moves-after : (c : Call) (s : Site) (log : List Event) → map untag (log_after c s log) ≡ map untag log ++ move_of c s
moves-after (send a b c) s log = moves-if (is_traffic s.edition c) log _
moves-after (receive a b) s log = go (s.channel a b)
  where
    go : (l : List Item) → map untag (log_taken a b l s log) ≡ map untag log ++ taking s.edition a b l
    go [] = sym (append-nil (map untag log))
    go (message c flag ∷ l) = moves-if (is_traffic s.edition c) log _
    go (request set ∷ l) = sym (append-nil (map untag log))
moves-after (start a) s log = sym (append-nil (map untag log))
moves-after (gate d a c) s log = map-join untag log _

moves-run : (cs : List Call) (h : History) → moves_of (history cs h) ≡ moves_of h ++ moves cs h.now
moves-run [] h = sym (append-nil (moves_of h))
moves-run (c ∷ cs) h =
    moves-run cs (step_h c h) ∙ ap (λ (ms : List Move). ms ++ moves cs (step_s c h.now)) (moves-after c h.now h.log)
    ∙ append_assoc (moves_of h) (move_of c h.now) (moves cs (step_s c h.now))

pub moves-open : (v : Opening) (cs : List Call) → moves_of (history cs (open_h v)) ≡ moves cs (open_s v)
moves-open v cs = moves-run cs (open_h v)

-- Calls in two parts.
pub history-append : (xs ys : List Call) (h : History) → history (xs ++ ys) h ≡ history ys (history xs h)
history-append [] ys h = refl
history-append (x ∷ xs) ys h = history-append xs ys (step_h x h)

pub allowed-append : (xs ys : List Call) (h : History) → Allowed (xs ++ ys) h.now
    → Allowed xs h.now × Allowed ys (history xs h).now
allowed-append [] ys h al = (tt, al)
allowed-append (x ∷ xs) ys h al = let r = allowed-append xs ys (step_h x h) al.1 in ((al.0, r.0), r.1)
