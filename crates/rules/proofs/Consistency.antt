-- The recording of allowed calls that complete is a consistent cut of them: demand 3, over the rules.
use mathlib.Core.Path.{◌≡◌, refl, sym, ◌∙◌, ap, subst}
use mathlib.Core.Bool.{Bool, true, false, ◌&&◌, ◌||◌, not, false≢true}
use mathlib.Core.Logic.{◌⊎◌, inl, inr}
use mathlib.Core.List.{List, [], ◌∷◌, map}
use mathlib.Core.Option.{Option, none, some}
use Prim.Native.Nat.{ℕ, suc, ◌≤◌, ◌<◌}
use native.Mathlib.Omega.{arith}
use lib.Dec.{eqb}
use borrow.Author.Tests.{eqb-true}
use Rattle.rules.specs.Opening.{Opening}
use Rattle.rules.specs.Change.{on, cons-if}
use Rattle.rules.specs.Zone.{is_permanent, with_checkpoint}
use Rattle.rules.specs.Site.{Site, Call, open_s, waits}
use Rattle.rules.specs.Park.{Park, Move, open_park, replay, inside, outside, takes}
use Rattle.rules.specs.Cut.{Allowed, run, moves, Complete, present, events_of, stock_of, channel_of, snapshot, Starting, Cut}
use Rattle.rules.specs.declared.Local.{Local}
use Rattle.rules.specs.declared.Checkpoint.{Checkpoint}
use Rattle.rules.specs.declared.Checkpoint.TheVariants.{None, Mutable, Permanent}
use Rattle.rules.proofs.Tests.{both_true, or_cases, or_right, and_left, and_right}
use Rattle.rules.proofs.Lists.{keep}
use Rattle.rules.proofs.Tagged.{Event, acting, receiving}
use Rattle.rules.proofs.Untagged.{untag, plain, park≡, plain-steps, channel-after}
use Rattle.rules.proofs.Checkpoints.{permanent-has-checkpoint}
use Rattle.rules.proofs.History.{History, open_h, IsPermanent, moves_of, history, now-run, moves-open}
use Rattle.rules.proofs.Kept.{Fresh, fresh-open, fresh-calls, calls-keep}
use Rattle.rules.proofs.Requests.{Due, Flow, flow-kept, flow-open, due-permanent}
use Rattle.rules.proofs.Dependencies.{is_sender, sender_of, Senders, senders-kept, senders-open}
use Rattle.rules.proofs.Cutting.{park_of, plain-park, open_t, in_first, in_second, Closed, held, Halves, Cuts, cuts-kept, cuts-open}
use Rattle.rules.proofs.Counting.{Fit, Counts, counts-kept, counts-open}
use Rattle.rules.proofs.Shown.{checkpointed-once, zone-events, starting-initiator, initiator-starting, initiator-events}

same-initiator : {o : Option ℕ} {a b : ℕ} → o ≡ some a → o ≡ some b → a ≡ b
same-initiator e f = cc

-- A zone that is not shown with a permanent checkpoint ("firm") is shown as it was opened.
not-shown : (c : Checkpoint) (opening : ℕ) → is_permanent c ≡ false → (events_of c ≡ 0) × (stock_of c opening ≡ opening)
not-shown None opening e = (refl, refl)
not-shown (Mutable s) opening e = (refl, refl)
not-shown (Permanent s) opening e = absurd (false≢true (sym e))

-- The senders of a zone's receipts in the first part are those that it received from before its checkpoint.
takes-more : (i j : ℕ) (p : Bool) (e : Event) (l : List Event) → takes i j (map untag l) ≤ takes i j (map untag (cons-if p e l))
takes-more i j true (acting x m) l = omega (arith, x.none-taken i j (map untag l))
takes-more i j true (receiving a b c m) l = go (eqb i a && eqb j b)
  where
    go : (q : Bool) → takes i j (map untag l) ≤ on q suc (takes i j (map untag l))
    go true = omega arith
    go false = omega arith
takes-more i j false e l = omega arith

sender-takes : (F : ℕ → Bool) (i j : ℕ) → F j ≡ true → (es : List Event) → sender_of j i es ≡ true
    → 0 < takes i j (map untag (keep (in_first F) es))
sender-takes F i j f [] h = absurd (false≢true h)
sender-takes F i j f (acting x m ∷ es) h =
    let q = sender-takes F i j f es h in
    omega (arith, takes-more i j (in_first F (acting x m)) (acting x m) (keep (in_first F) es))
sender-takes F i j f (receiving a b c m ∷ es) h = go (sender-takes F i j f es)
    (or_cases (is_sender j i (receiving a b c m)) (sender_of j i es) h)
  where
    go : (sender_of j i es ≡ true → 0 < takes i j (map untag (keep (in_first F) es)))
        → (is_sender j i (receiving a b c m) ≡ true) ⊎ (sender_of j i es ≡ true)
        → 0 < takes i j (map untag (keep (in_first F) (receiving a b c m ∷ es)))
    go ih (inl w) =
        let n = and_left (not m) (eqb i a && eqb j b) w in
        let t = and_right (not m) (eqb i a && eqb j b) w in
        let fb : F b ≡ true = ap F (sym (both_true i a j b t).1) ∙ f in
        let q : in_first F (receiving a b c m) ≡ true = rw (fb, n) in
        rw (q, t) (omega arith)
    go ih (inr w) =
        let q = ih w in
        omega (arith, takes-more i j (in_first F (receiving a b c m)) (receiving a b c m) (keep (in_first F) es))

takes-sender : (F : ℕ → Bool) (i j : ℕ) (es : List Event) → 0 < takes i j (map untag (keep (in_first F) es)) → sender_of j i es ≡ true
takes-sender F i j [] h = absurd (omega arith)
takes-sender F i j (acting x m ∷ es) h = go (takes-sender F i j es) (in_first F (acting x m)) h
  where
    go : (0 < takes i j (map untag (keep (in_first F) es)) → sender_of j i es ≡ true) → (p : Bool)
        → 0 < takes i j (map untag (cons-if p (acting x m) (keep (in_first F) es))) → sender_of j i es ≡ true
    go ih true w = ih (omega (arith, x.none-taken i j (map untag (keep (in_first F) es))))
    go ih false w = ih w
takes-sender F i j (receiving a b c m ∷ es) h = go (takes-sender F i j es) (in_first F (receiving a b c m)) refl
    (eqb i a && eqb j b) refl h
  where
    go : (0 < takes i j (map untag (keep (in_first F) es)) → sender_of j i es ≡ true) → (p : Bool) → in_first F (receiving a b c m) ≡ p
        → (q : Bool) → eqb i a && eqb j b ≡ q → 0 < takes i j (map untag (cons-if p (receiving a b c m) (keep (in_first F) es)))
        → is_sender j i (receiving a b c m) || sender_of j i es ≡ true
    go ih true e true t w = rw (and_right (F b) (not m) e, t)
    go ih true e false t w = or_right (is_sender j i (receiving a b c m)) (sender_of j i es) (ih (rw t at w))
    go ih false e q t w = or_right (is_sender j i (receiving a b c m)) (sender_of j i es) (ih w)

-- In the end the events and stocks shown are those of the cut by the permanent zones.
fit-end : (k : Checkpoint) (ev : ℕ) → Fit (is_permanent k) k ev (events_of k)
fit-end None ev = refl
fit-end (Mutable s) ev = refl
fit-end (Permanent s) ev = refl

held-end : (z : Local) (o : ℕ) → held (is_permanent z.checkpoint) z o ≡ stock_of z.checkpoint o
held-end z o = go z.checkpoint
  where
    go : (k : Checkpoint) → held (is_permanent k) (with_checkpoint k z) o ≡ stock_of k o
    go None = refl
    go (Mutable s) = refl
    go (Permanent s) = refl

who-sends : (i j : ℕ) {p : Bool} → eqb i j || p ≡ true → (i ≡ j) ⊎ (p ≡ true)
who-sends i j {p} e = go (or_cases (eqb i j) p e)
  where
    go : (eqb i j ≡ true) ⊎ (p ≡ true) → (i ≡ j) ⊎ (p ≡ true)
    go (inl q) = inl (eqb-true i j q)
    go (inr q) = inr q

-- What is recorded of a site s, to which the moves ms led.
abbrev recorded_at : Site → ℕ → Bool
recorded_at s k = is_permanent (s.zone k).checkpoint

abbrev events_shown : Site → ℕ → ℕ
events_shown s k = events_of (s.zone k).checkpoint

abbrev park_shown : Opening → Site → List Move → Park
park_shown v s ms = record { stock = λ k. stock_of (s.zone k).checkpoint (v.stocks k); channel = channel_of (inside (events_shown s) ms) }

record CutOf (v : Opening) (s : Site) (ms : List Move) (initiator : Option ℕ) : Type 1 where
  first : replay (inside (events_shown s) ms) (some (open_park v)) ≡ some (park_shown v s ms)
  second : replay (outside (events_shown s) ms) (some (park_shown v s ms)) ≡ some (present s)
  closed : (i j : ℕ) → recorded_at s j ≡ true → 0 < takes i j (inside (events_shown s) ms) → recorded_at s i ≡ true
  least : (X : ℕ → Type 0) → ((a : ℕ) → initiator ≡ some a → X a)
      → ((i j : ℕ) → X j → 0 < takes i j (inside (events_shown s) ms) → X i) → (z : ℕ) → recorded_at s z ≡ true → X z

-- From what every history keeps, with no request on its way.
module _ (v : Opening) (h : History) (done : (i j : ℕ) → waits (h.now.channel i j) ≡ false)
    (flow : Flow (Due h) h) (senders : Senders h) (cuts : Cuts v h) (counts : Counts h) where
  -- The permanent zones.
  F : ℕ → Bool
  F z = is_permanent (h.now.zone z).checkpoint

  shut : Closed F h
  unfolding F
  shut j i f d = due-permanent h done i (flow.wanted j i f d)

  halves : Halves v F h
  halves = cuts F shut

  parts : (inside (events_shown h.now) (moves_of h) ≡ map untag (keep (in_first F) h.log))
      × (outside (events_shown h.now) (moves_of h) ≡ map untag (keep (in_second F) h.log))
  unfolding F
  parts = counts.parts F (events_shown h.now) (λ z. fit-end (h.now.zone z).checkpoint (h.now.zone z).events)

  -- The park in the middle is the recorded one.
  middle-park : plain halves.middle ≡ park_shown v h.now (moves_of h)
  unfolding F
  middle-park = park≡ _ _
      (λ z. halves.stocks z ∙ held-end (h.now.zone z) (v.stocks z))
      (λ i j. rw parts.0 (channel-after i j (keep (in_first F) h.log) (open_t v) halves.middle refl halves.first))

  sender : (X : ℕ → Type 0) → ((i j : ℕ) → X j → 0 < takes i j (inside (events_shown h.now) (moves_of h)) → X i) → (i j : ℕ)
      → IsPermanent h j → X j
      → (i ≡ j) ⊎ (sender_of j i h.log ≡ true) → X i
  unfolding F
  sender X close i j fj xj (inl e) = subst X (sym e) xj
  sender X close i j fj xj (inr w) = close i j xj (rw parts.0 (sender-takes F i j fj h.log w))

  cut_of : CutOf v h.now (moves_of h) h.initiator
  unfolding F
  cut_of = record {
    first = rw parts.0 (plain-steps (keep (in_first F) h.log) (open_t v) halves.middle halves.first)
        ∙ ap some middle-park;
    second = ap (λ (p : Park). replay (outside (events_shown h.now) (moves_of h)) (some p)) (sym middle-park)
        ∙ rw parts.1 (plain-steps (keep (in_second F) h.log) halves.middle (park_of h) halves.second)
        ∙ ap some (plain-park h);
    closed = λ i j f q. shut j i f (senders j i ∙ or_right (eqb i j) _ (takes-sender F i j h.log (rw parts.0 at q)));
    least = λ X starts close z f. flow.reach X starts
        (λ i j fj xj d. sender X close i j fj xj (who-sends i j (sym (senders j i) ∙ d))) z f;
  }

-- Whatever the opening stocks v and the calls cs.
module _ (v : Opening) (cs : List Call) (allowed : Allowed cs (open_s v)) (complete : Complete (run cs (open_s v))) where
  h : History
  h = history cs (open_h v)

  fresh : Fresh h
  unfolding h
  fresh = fresh-calls cs (open_h v) (fresh-open v) allowed

  now : h.now ≡ run cs (open_s v)
  unfolding h
  now = now-run cs (open_h v)

  cut_at : CutOf v (run cs (open_s v)) (moves cs (open_s v)) h.initiator
  unfolding h
  cut_at = subst (λ (s : Site). CutOf v s (moves cs (open_s v)) h.initiator) now
      (subst (λ (ms : List Move). CutOf v h.now ms h.initiator) (moves-open v cs)
      (cut_of v h (λ i j. ap (λ (s : Site). waits (s.channel i j)) now ∙ complete.1 i j)
      (calls-keep (λ t. Flow (Due t) t) flow-kept cs (open_h v) (fresh-open v) allowed (flow-open v))
      (calls-keep Senders senders-kept cs (open_h v) (fresh-open v) allowed (senders-open v))
      (calls-keep _ (cuts-kept v) cs (open_h v) (fresh-open v) allowed (cuts-open v)).1
      (calls-keep Counts counts-kept cs (open_h v) (fresh-open v) allowed (counts-open v))))

  -- Some zone is permanent, so some zone started.
  who-started : (a : ℕ) × (h.initiator ≡ some a)
  who-started = go h.initiator refl
    where
      z : ℕ
      z = complete.0.0

      p : IsPermanent h z
      p = ap (λ (s : Site). is_permanent (s.zone z).checkpoint) now ∙ complete.0.1

      go : (o : Option ℕ) → h.initiator ≡ o → (a : ℕ) × (h.initiator ≡ some a)
      go none e = absurd (false≢true (sym (fresh.no-checkpoint e z) ∙ permanent-has-checkpoint (h.now.zone z).checkpoint p))
      go (some a) e = (a, e)

  starting : (a : ℕ) → h.initiator ≡ some a → Starting cs a
  unfolding h
  starting a e = initiator-starting cs (open_h v) (fresh-open v) allowed a refl e

  recorded : (a : ℕ) → Starting cs a → is_permanent ((run cs (open_s v)).zone a).checkpoint ≡ true
  unfolding h
  recorded a s = ap (λ (t : Site). is_permanent (t.zone a).checkpoint) (sym now)
      ∙ fresh.begun a (starting-initiator v cs allowed a s)

  one : (a b : ℕ) → Starting cs a → Starting cs b → a ≡ b
  one a b s t = same-initiator (starting-initiator v cs allowed a s) (starting-initiator v cs allowed b t)

  cut : Cut v cs (snapshot v cs)
  cut = record {
    first = cut_at.first;
    second = cut_at.second;
    others = λ z e. not-shown ((run cs (open_s v)).zone z).checkpoint (v.stocks z) e;
    initiator = (who-started.0, starting who-started.0 who-started.1);
    one-initiator = one;
    has-initiator = recorded;
    closed = cut_at.closed;
    least = λ X starts close z f. cut_at.least X (λ a e. starts a (starting a e)) close z f;
    initiator-events = λ a s. initiator-events v cs allowed a (recorded a s) s;
    checkpointing = checkpointed-once v cs;
    zone-events = zone-events v cs allowed;
  }

-- Demand 3, over the rules.
pub consistent : (v : Opening) (cs : List Call) → Allowed cs (open_s v) → Complete (run cs (open_s v)) → Cut v cs (snapshot v cs)
consistent v cs allowed complete = cut v cs allowed complete
