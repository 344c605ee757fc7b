-- A complete recording never changes (docs/RULES.md, section 5): "no request is left and a second start is refused, so no call makes another
-- permanent checkpoint, and none changes one".
use mathlib.Core.Path.{◌≡◌, refl, sym, ◌∙◌, ap, ap₂, subst}
use mathlib.Core.Bool.{Bool, false, ◌&&◌, true≢false}
use mathlib.Core.List.{List, [], ◌∷◌, ◌++◌, append_assoc, tail}
use Prim.Native.Nat.{ℕ, ◌≤◌}
use native.Mathlib.Omega.{arith}
use lib.Dec.{eqb}
use Rattle.rules.specs.Opening.{Opening}
use Rattle.rules.specs.Change.{join}
use Rattle.rules.specs.Zone.{is_permanent, saved, sent_under, received_under, gated}
use Rattle.rules.specs.Site.{Item, message, request, Site, take_s, Call, send, receive, start, gate, step_s, open_s, waits}
use Rattle.rules.specs.Park.{Move, own, inside}
use Rattle.rules.specs.Cut.{May, Allowed, run, move_of, moves, Complete, events_of, stock_of, channel_of, snapshot}
use Rattle.rules.specs.declared.Local.{Local}
use Rattle.rules.specs.declared.Checkpoint.{Checkpoint}
use Rattle.rules.specs.declared.Checkpoint.TheVariants.{None, Mutable, Permanent}
use Rattle.rules.proofs.Editions.{sent-keeps, received-keeps}
use Rattle.rules.proofs.Guarded.{on_same, on-keeps}
use Rattle.rules.proofs.History.{open_h, history, now-run, moves-open, allowed-append}
use Rattle.rules.proofs.Kept.{fresh-open, calls-keep}
use Rattle.rules.proofs.ShownCheckpoint.{shown, by-shown, after-shown}
use Rattle.rules.proofs.Counting.{events_at, Counts, counts-kept, counts-open, inside-later}

-- Two sites of which a recording shows the same zones.
abbrev Unmoved : Site → Site → Type 0
Unmoved s t = (z : ℕ) → shown (t.zone z).checkpoint ≡ shown (s.zone z).checkpoint

module _ (s t : Site) (same : Unmoved s t) (z : ℕ) where
  same-permanent : is_permanent (t.zone z).checkpoint ≡ is_permanent (s.zone z).checkpoint
  same-permanent = by-shown is_permanent (λ k. refl) (t.zone z).checkpoint (s.zone z).checkpoint (same z)

  same-events : events_of (t.zone z).checkpoint ≡ events_of (s.zone z).checkpoint
  same-events = by-shown events_of (λ k. refl) (t.zone z).checkpoint (s.zone z).checkpoint (same z)

  same-stock : (opening : ℕ) → stock_of (t.zone z).checkpoint opening ≡ stock_of (s.zone z).checkpoint opening
  same-stock opening = by-shown (λ k. stock_of k opening) (λ k. refl) (t.zone z).checkpoint (s.zone z).checkpoint (same z)

-- No request joins a channel by a message, and none by an item that leaves.
waits-message : (l : List Item) (cars : ℕ) (flag : Bool) → waits l ≡ false → waits (join (message cars flag) l) ≡ false
waits-message [] cars flag e = refl
waits-message (message c f ∷ l) cars flag e = waits-message l cars flag e
waits-message (request set ∷ l) cars flag e = absurd (true≢false e)

waits-left : (l : List Item) → waits l ≡ false → waits (tail l) ≡ false
waits-left [] e = refl
waits-left (message c f ∷ l) e = e
waits-left (request set ∷ l) e = absurd (true≢false e)

-- No channel of the site holds a request.
abbrev Quiet : Site → Type 0
Quiet s = (i j : ℕ) → waits (s.channel i j) ≡ false

-- One call at a site with a complete recording.
step_stays : (c : Call) (s : Site) → Complete s → May c s → Unmoved s (step_s c s) × Quiet (step_s c s)
step_stays (send a b cars) s done may = (
  λ z. on_same (λ (k : Local). shown k.checkpoint) (eqb z a) (sent_under s.edition cars) (s.zone z)
      (sent-keeps s.edition cars (s.zone z) (λ (k : Local). shown k.checkpoint ≡ shown (s.zone z).checkpoint) (λ q. q) refl),
  λ i j. on-keeps (λ (l : List Item). waits l ≡ false) (eqb i a && eqb j b) (join _) (s.channel i j)
      (waits-message (s.channel i j) cars _) (done.1 i j),
)
step_stays (receive a b) s done may = go (s.channel a b) (done.1 a b)
  where
    go : (l : List Item) → waits l ≡ false → Unmoved s (take_s a b l s) × Quiet (take_s a b l s)
    go [] e = (λ z. refl, done.1)
    go (message cars flag ∷ l) e = (
      λ z. on_same (λ (k : Local). shown k.checkpoint) (eqb z b) (received_under s.edition a cars flag) (s.zone z)
          (received-keeps s.edition cars (s.zone z) (λ (k : Local). shown k.checkpoint ≡ shown (s.zone z).checkpoint) a flag
          (λ q. after-shown (s.zone z).checkpoint (saved (s.zone z)) flag) refl),
      λ i j. on-keeps (λ (m : List Item). waits m ≡ false) (eqb i a && eqb j b) tail (s.channel i j) (waits-left (s.channel i j)) (done.1 i j),
    )
    go (request set ∷ l) e = absurd (true≢false e)
step_stays (start a) s done may = absurd (true≢false (sym done.0.1 ∙ may done.0.0))
step_stays (gate direction a cars) s done may =
    (λ z. on_same (λ (k : Local). shown k.checkpoint) (eqb z a) (gated direction cars) (s.zone z) refl, done.1)

step-complete : (c : Call) (s : Site) → Complete s → May c s → Complete (step_s c s)
step-complete c s done may =
    let h = step_stays c s done may in
    ((done.0.0, same-permanent s (step_s c s) h.0 done.0.0 ∙ done.0.1), h.1)

-- And any further calls.
calls-stay : (ds : List Call) (s : Site) → Complete s → Allowed ds s → Unmoved s (run ds s) × Complete (run ds s)
calls-stay [] s done al = (λ z. refl, done)
calls-stay (d ∷ ds) s done al =
    let h = calls-stay ds (step_s d s) (step-complete d s done al.0) al.1 in
    (λ z. h.0 z ∙ (step_stays d s done al.0).0 z, h.1)

-- Calls in two parts.
run-append : (cs ds : List Call) (s : Site) → run (cs ++ ds) s ≡ run ds (run cs s)
run-append [] ds s = refl
run-append (c ∷ cs) ds s = run-append cs ds (step_s c s)

moves-append : (cs ds : List Call) (s : Site) → moves (cs ++ ds) s ≡ moves cs s ++ moves ds (run cs s)
moves-append [] ds s = refl
moves-append (c ∷ cs) ds s =
    ap (λ (ms : List Move). move_of c s ++ ms) (moves-append cs ds (step_s c s))
    ∙ sym (append_assoc (move_of c s) (moves cs (step_s c s)) (moves ds (run cs (step_s c s))))

-- A recording shows no more events of a zone than the zone has.
events-most : (k : Checkpoint) → events_of k ≤ events_at k
events-most None = omega arith
events-most (Mutable s) = omega arith
events-most (Permanent s) = omega arith

-- The calls cs from an opening, after which the recording is complete, and any further calls ds.
module _ (v : Opening) (cs ds : List Call) (allowed : Allowed (cs ++ ds) (open_s v)) (complete : Complete (run cs (open_s v))) where
  split : Allowed cs (open_s v) × Allowed ds (run cs (open_s v))
  split =
      let (al, more) = allowed-append cs ds (open_h v) allowed in
      (al, subst (λ (s : Site). Allowed ds s) (now-run cs (open_h v)) more)

  stays : Unmoved (run cs (open_s v)) (run ds (run cs (open_s v))) × Complete (run ds (run cs (open_s v)))
  stays = calls-stay ds (run cs (open_s v)) complete split.1

  -- Every own event that is shown stands among the moves of cs.
  shown-most : (z : ℕ) → events_of ((run cs (open_s v)).zone z).checkpoint ≤ own z (moves cs (open_s v))
  shown-most z =
      let h = calls-keep Counts counts-kept cs (open_h v) (fresh-open v) split.0 (counts-open v) in
      let k = ((history cs (open_h v)).now.zone z).checkpoint in
      subst (λ (s : Site). events_of (s.zone z).checkpoint ≤ own z (moves cs (open_s v))) (now-run cs (open_h v))
      (omega (arith, events-most k, h.past z, h.number z, ap (own z) (moves-open v cs)))

  -- The further calls lead to a site of which the recording shows the same zones,
  same : Unmoved (run cs (open_s v)) (run (cs ++ ds) (open_s v))
  same = subst (Unmoved (run cs (open_s v))) (sym (run-append cs ds (open_s v))) stays.0

  same-shown : (snapshot v (cs ++ ds)).events ≡ (snapshot v cs).events
  same-shown = λ x k. same-events (run cs (open_s v)) (run (cs ++ ds) (open_s v)) same k x

  -- and their own events are not inside it.
  same-inside : inside (snapshot v (cs ++ ds)).events (moves (cs ++ ds) (open_s v)) ≡ inside (snapshot v cs).events (moves cs (open_s v))
  same-inside =
      ap₂ inside same-shown (moves-append cs ds (open_s v))
      ∙ inside-later (snapshot v cs).events (λ k. 0) (moves cs (open_s v)) (moves ds (run cs (open_s v))) (λ k. omega (arith, shown-most k))

  same-snapshot : snapshot v (cs ++ ds) ≡ snapshot v cs
  same-snapshot = λ x. record {
    recorded = λ k. same-permanent (run cs (open_s v)) (run (cs ++ ds) (open_s v)) same k x;
    events = same-shown x;
    park = record {
      stock = λ k. same-stock (run cs (open_s v)) (run (cs ++ ds) (open_s v)) same k (v.stocks k) x;
      channel = channel_of (same-inside x);
    };
  }

-- "From then on it never changes": whatever the opening, the calls cs after which the recording is complete, and the further calls ds.
pub complete-stays : (v : Opening) (cs ds : List Call) → Allowed (cs ++ ds) (open_s v) → Complete (run cs (open_s v))
    → Complete (run (cs ++ ds) (open_s v)) × (snapshot v (cs ++ ds) ≡ snapshot v cs)
complete-stays v cs ds allowed complete = (
  subst Complete (sym (run-append cs ds (open_s v))) (stays v cs ds allowed complete).1,
  same-snapshot v cs ds allowed complete,
)
