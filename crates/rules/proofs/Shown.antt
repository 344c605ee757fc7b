-- The events that a recording shows of a zone are its own events before the call that gave it its checkpoint; for the initiator
-- that call is the start.
use mathlib.Core.Path.{◌≡◌, refl, sym, ◌∙◌, ap, subst}
use mathlib.Core.Bool.{Bool, true, false, false≢true, true≢false}
use mathlib.Core.List.{List, [], ◌∷◌, ◌++◌}
use mathlib.Core.Option.{none, some}
use Prim.Native.Nat.{ℕ}
use lib.Dec.{eqb}
use Rattle.rules.specs.Opening.{Opening}
use Rattle.rules.specs.Change.{on}
use Rattle.rules.specs.Sets.{nobody}
use Rattle.rules.specs.Zone.{has_checkpoint, is_permanent, saved, received, checkpoint_after, started, requested, made_permanent}
use Rattle.rules.specs.Site.{Site, Call, send, receive, start, gate, step_s, open_s}
use Rattle.rules.specs.Park.{own}
use Rattle.rules.specs.Cut.{Allowed, run, moves, events_of, Checkpointing, Starting}
use Rattle.rules.specs.declared.Local.{Local}
use Rattle.rules.specs.declared.Saved.{Saved}
use Rattle.rules.specs.declared.Checkpoint.{Checkpoint}
use Rattle.rules.specs.declared.Checkpoint.TheVariants.{None, Mutable, Permanent}
use Rattle.rules.proofs.Tests.{eqb_refl}
use Rattle.rules.proofs.Guarded.{on-true}
use Rattle.rules.proofs.Checkpoints.{permanent-has-checkpoint}
use Rattle.rules.proofs.History.{History, open_h, own-checkpoint, pop_h, turn_h, begin_h, step_h, history, now-run, moves-open, history-append, allowed-append}
use Rattle.rules.proofs.Kept.{Does, Kept, Fresh, some≢none, fresh-open, first-start, call-does, fresh-call, calls-keep, fresh-calls}
use Rattle.rules.proofs.Counting.{events_at, counts-kept, counts-open, Counts}

-- From checkpoint k, at ev events, to checkpoint l: a new one takes the present number of events, and an old one keeps its own.
abbrev Next : Checkpoint → ℕ → Checkpoint → Type 0
Next k ev l = (has_checkpoint k ≡ false → has_checkpoint l ≡ true → events_at l ≡ ev)
    × (has_checkpoint k ≡ true → (has_checkpoint l ≡ true) × (events_at l ≡ events_at k))

next-same : (k : Checkpoint) (ev : ℕ) → Next k ev k
next-same k ev = (λ e f. absurd (false≢true (sym e ∙ f)), λ e. (e, refl))

next-after : (k : Checkpoint) (now : Saved) (flag : Bool) → Next k now.events (checkpoint_after k now flag)
next-after None now true = (λ e f. refl, λ e. absurd (false≢true e))
next-after None now false = next-same None now.events
next-after (Mutable s) now flag = next-same (Mutable s) now.events
next-after (Permanent s) now flag = next-same (Permanent s) now.events

next-made : (k : Checkpoint) (now : Saved) → Next k now.events (made_permanent k now)
next-made None now = (λ e f. refl, λ e. absurd (false≢true e))
next-made (Mutable s) now = (λ e. absurd (true≢false e), λ e. (refl, refl))
next-made (Permanent s) now = next-same (Permanent s) now.events

next-on : (p : Bool) (g : Local → Local) (z : Local) → Next z.checkpoint z.events (g z).checkpoint
    → Next z.checkpoint z.events (on p g z).checkpoint
next-on true g z q = q
next-on false g z q = next-same z.checkpoint z.events

abbrev Onward : History → History → Type 0
Onward h t = (z : ℕ) → Next (h.now.zone z).checkpoint (h.now.zone z).events (t.now.zone z).checkpoint

turn-onward : (b set : ℕ) (h : History) → Onward h (turn_h b set h)
turn-onward b set h z = next-on (eqb z b) requested (h.now.zone z)
    (next-made (h.now.zone z).checkpoint (saved (h.now.zone z)))

onward : Does Onward
onward = record {
  at_own = λ x h _ _ z. subst (Next (h.now.zone z).checkpoint (h.now.zone z).events) (sym (own-checkpoint x h z))
      (next-same (h.now.zone z).checkpoint (h.now.zone z).events);
  at-receive = λ a b c flag l h _ _ z. next-on (eqb z b) (received a c flag) (h.now.zone z)
      (next-after (h.now.zone z).checkpoint (saved (h.now.zone z)) flag);
  at-check = λ a b c h _ z. next-same (h.now.zone z).checkpoint (h.now.zone z).events;
  at-checked = λ a b c flag l h _ _ z. next-same (h.now.zone z).checkpoint (h.now.zone z).events;
  at_drop = λ a b set l h _ _ z. next-same (h.now.zone z).checkpoint (h.now.zone z).events;
  at-request = λ a b set l h _ _. turn-onward b set (pop_h a b h);
  at-start = λ a h _ _. turn-onward a nobody (begin_h a h);
}

-- A checkpoint stays, with its number of events.
lasting : (cs : List Call) (h : History) → Fresh h → Allowed cs h.now → (z : ℕ) → has_checkpoint (h.now.zone z).checkpoint ≡ true
    → events_at ((history cs h).now.zone z).checkpoint ≡ events_at (h.now.zone z).checkpoint
lasting [] h f al z e = refl
lasting (c ∷ cs) h f al z e =
    let q = (call-does Onward onward c h f al.0 z).1 e in
    lasting cs (step_h c h) (fresh-call c h f al.0) al.1 z q.0 ∙ q.1

-- So in the end it has the number of events before the call that made it.
checkpoint-events : (v : Opening) (before : List Call) (c : Call) (after : List Call) (z : ℕ) → Allowed (before ++ (c ∷ after)) (open_s v)
    → has_checkpoint ((run before (open_s v)).zone z).checkpoint ≡ false
    → has_checkpoint ((step_s c (run before (open_s v))).zone z).checkpoint ≡ true
    → events_at ((run (before ++ (c ∷ after)) (open_s v)).zone z).checkpoint ≡ own z (moves before (open_s v))
checkpoint-events v before c after z al none_before one-after =
    let (al₀, al₁) = allowed-append before (c ∷ after) (open_h v) al in
    let f = fresh-calls before (open_h v) (fresh-open v) al₀ in
    let u : has_checkpoint (h.now.zone z).checkpoint ≡ false = rw (now-run before (open_h v)) none_before in
    let m : has_checkpoint ((step_h c h).now.zone z).checkpoint ≡ true
    = ap (λ (s : Site). has_checkpoint ((step_s c s).zone z).checkpoint) (now-run before (open_h v)) ∙ one-after in
    ap (λ (s : Site). events_at (s.zone z).checkpoint) (sym (now-run (before ++ (c ∷ after)) (open_h v)))
    ∙ ap (λ (t : History). events_at (t.now.zone z).checkpoint) (history-append before (c ∷ after) (open_h v))
    ∙ lasting after (step_h c h) (fresh-call c h f al₁.0) al₁.1 z m
    ∙ (call-does Onward onward c h f al₁.0 z).0 u m
    ∙ (calls-keep Counts counts-kept before (open_h v) (fresh-open v) al₀ (counts-open v)).number z
    ∙ ap (own z) (moves-open v before)
  where
    h : History
    h = history before (open_h v)

events-permanent : (k : Checkpoint) → is_permanent k ≡ true → events_of k ≡ events_at k
events-permanent None e = refl
events-permanent (Mutable s) e = absurd (false≢true e)
events-permanent (Permanent s) e = refl

pub zone-events : (v : Opening) (cs : List Call) → Allowed cs (open_s v) → (z : ℕ)
    → is_permanent ((run cs (open_s v)).zone z).checkpoint ≡ true
    → (m : Checkpointing v cs z) → events_of ((run cs (open_s v)).zone z).checkpoint ≡ own z (moves m.before (open_s v))
zone-events v cs al z p m =
    events-permanent ((run cs (open_s v)).zone z).checkpoint p
    ∙ ap (λ (l : List Call). events_at ((run l (open_s v)).zone z).checkpoint) m.calls
    ∙ checkpoint-events v m.before m.call m.after z (subst (λ (l : List Call). Allowed l (open_s v)) m.calls al)
    m.none_before m.one-after

-- A zone with a checkpoint took it by some call.
Checkpointed : List Call → Site → ℕ → Type 0
Checkpointed cs s z =
    (before : List Call) × (c : Call) × (after : List Call) × (cs ≡ before ++ (c ∷ after))
    × (has_checkpoint ((run before s).zone z).checkpoint ≡ false)
    × (has_checkpoint ((step_s c (run before s)).zone z).checkpoint ≡ true)

when-checkpointed : (cs : List Call) (s : Site) (z : ℕ) → has_checkpoint (s.zone z).checkpoint ≡ false
    → has_checkpoint ((run cs s).zone z).checkpoint ≡ true
    → Checkpointed cs s z
unfolding Checkpointed
when-checkpointed [] s z e f = absurd (false≢true (sym e ∙ f))
when-checkpointed (c ∷ cs) s z e f = go (has_checkpoint ((step_s c s).zone z).checkpoint) refl (λ w. when-checkpointed cs (step_s c s) z w f)
  where
    go : (p : Bool) → has_checkpoint ((step_s c s).zone z).checkpoint ≡ p
        → (has_checkpoint ((step_s c s).zone z).checkpoint ≡ false → Checkpointed cs (step_s c s) z)
        → Checkpointed (c ∷ cs) s z
    go true w ih = ([], c, cs, refl, e, w)
    go false w ih = let r = ih w in (c ∷ r.0, r.1, r.2, ap (λ l. c ∷ l) r.3, r.4, r.5)

pub checkpointed-once : (v : Opening) (cs : List Call) (z : ℕ) → is_permanent ((run cs (open_s v)).zone z).checkpoint ≡ true → Checkpointing v cs z
unfolding Checkpointed
checkpointed-once v cs z p =
    let r = when-checkpointed cs (open_s v) z refl (permanent-has-checkpoint ((run cs (open_s v)).zone z).checkpoint p) in
    record { before = r.0; call = r.1; after = r.2; calls = r.3; none_before = r.4; one-after = r.5 }

-- The initiator stays: a second start is not allowed.
initiator-kept : (a : ℕ) → Kept (λ h. h.initiator ≡ some a)
initiator-kept a = record {
  at_own = λ x h _ _ q. q;
  at-receive = λ _ b c flag l h _ _ q. q;
  at-check = λ _ b c h _ q. q;
  at-checked = λ _ b c flag l h _ _ q. q;
  at_drop = λ _ b set l h _ _ q. q;
  at-request = λ _ b set l h _ _ q. q;
  at-start = λ x h e _ q. absurd (some≢none (sym q ∙ e));
}

pub starting-initiator : (v : Opening) (cs : List Call) → Allowed cs (open_s v) → (a : ℕ) → Starting cs a
    → (history cs (open_h v)).initiator ≡ some a
starting-initiator v cs al a s =
    let (al₀, al₁) = allowed-append s.before (start a ∷ s.after) (open_h v)
    (subst (λ (l : List Call). Allowed l (open_s v)) s.calls al) in
    let f = fresh-calls s.before (open_h v) (fresh-open v) al₀ in
    let h = history s.before (open_h v) in
    ap (λ (l : List Call). (history l (open_h v)).initiator) s.calls
    ∙ ap (λ (t : History). t.initiator) (history-append s.before (start a ∷ s.after) (open_h v))
    ∙ calls-keep (λ t. t.initiator ≡ some a) (initiator-kept a) s.after (step_h (start a) h) (fresh-call (start a) h f al₁.0)
    al₁.1 refl

-- A start among calls, with one more call before them.
starting-later : (c : Call) (cs : List Call) (a : ℕ) → Starting cs a → Starting (c ∷ cs) a
starting-later c cs a s = record { before = c ∷ s.before; after = s.after; calls = ap (λ l. c ∷ l) s.calls }

pub initiator-starting : (cs : List Call) (h : History) → Fresh h → Allowed cs h.now → (a : ℕ) → h.initiator ≡ none
    → (history cs h).initiator ≡ some a → Starting cs a
initiator-starting [] h f al a e q = absurd (some≢none (sym q ∙ e))
initiator-starting (send x y n ∷ cs) h f al a e q =
    starting-later _ cs a (initiator-starting cs (step_h (send x y n) h) (fresh-call (send x y n) h f al.0) al.1 a e q)
initiator-starting (receive x y ∷ cs) h f al a e q =
    starting-later _ cs a (initiator-starting cs (step_h (receive x y) h) (fresh-call (receive x y) h f al.0) al.1 a e q)
initiator-starting (gate d x n ∷ cs) h f al a e q =
    starting-later _ cs a (initiator-starting cs (step_h (gate d x n) h) (fresh-call (gate d x n) h f al.0) al.1 a e q)
initiator-starting (start x ∷ cs) h f al a e q =
    let w : (history cs (step_h (start x) h)).initiator ≡ some x
    = calls-keep (λ t. t.initiator ≡ some x) (initiator-kept x) cs (step_h (start x) h) (fresh-call (start x) h f al.0)
    al.1 refl in
    let i : x ≡ a = cc in
    record { before = []; after = cs; calls = ap (λ k. start k ∷ cs) i }

-- The start gives the initiator its checkpoint.
start-checkpointing : (v : Opening) (cs : List Call) → Allowed cs (open_s v) → (a : ℕ) (s : Starting cs a) → Checkpointing v cs a
start-checkpointing v cs al a s =
    let (al₀, al₁) = allowed-append s.before (start a ∷ s.after) (open_h v)
    (subst (λ (l : List Call). Allowed l (open_s v)) s.calls al) in
    let f = fresh-calls s.before (open_h v) (fresh-open v) al₀ in
    let h = history s.before (open_h v) in
    record {
      before = s.before;
      call = start a;
      after = s.after;
      calls = s.calls;
      none_before = ap (λ (t : Site). has_checkpoint (t.zone a).checkpoint) (sym (now-run s.before (open_h v)))
          ∙ f.no-checkpoint (first-start a h f al₁.0) a;
      one-after = ap (λ (z : Local). has_checkpoint z.checkpoint)
          (on-true (eqb a a) started ((run s.before (open_s v)).zone a) (eqb_refl a));
    }

pub initiator-events : (v : Opening) (cs : List Call) → Allowed cs (open_s v) → (a : ℕ)
    → is_permanent ((run cs (open_s v)).zone a).checkpoint ≡ true
    → (s : Starting cs a) → events_of ((run cs (open_s v)).zone a).checkpoint ≡ own a (moves s.before (open_s v))
unfolding start-checkpointing
initiator-events v cs al a p s = zone-events v cs al a p (start-checkpointing v cs al a s)
