-- A sound run stays sound by any list of calls, refused ones included, and every opening hands back a sound run.
use mathlib.Core.Path.{◌≡◌, refl, sym, ◌∙◌, ap, subst}
use mathlib.Core.Bool.{Bool, true, false, ◌&&◌, ◌||◌, not}
use mathlib.Core.Logic.{◌⊎◌, inl, inr}
use mathlib.Core.List.{List, [], ◌∷◌, tail}
use Prim.Native.Nat.{ℕ, zero, suc, ◌+◌, ◌-◌, ◌^◌, ◌≤◌, ◌<◌}
use native.Mathlib.Omega.{arith}
use native.Mathlib.Nat.{not-suc-le-zero}
use lib.Dec.{eqb, ltb}
use lib.Bits.{or_lt}
use lib.Pow.{pow_pos, pow-lt}
use borrow.Author.Tests.{eqb-true, ltb-true, lt-ltb}
use Rattle.rules.specs.Change.{on, join}
use Rattle.rules.specs.Limits.{most_cars, places}
use Rattle.rules.specs.Questions.{index}
use Rattle.rules.specs.Sets.{has, nobody, only}
use Rattle.rules.specs.Zone.{is_permanent, sent_under, received_under, gated, started, requested, deps_after, targets, carried}
use Rattle.rules.specs.Site.{Item, message, request, Site, Call, send, receive, start, gate, entering, pop_s, request_all_s, turn_s, step_s, take_s}
use Rattle.rules.specs.declared.Local.{Local}
use Rattle.rules.specs.declared.Checkpoint.{Checkpoint}
use Rattle.rules.specs.declared.Checkpoint.TheVariants.{None, Mutable, Permanent}
use Rattle.rules.proofs.Editions.{sent-keeps, received-keeps}
use Rattle.rules.proofs.Guarded.{on-keeps}
use Rattle.rules.proofs.Tests.{and_left, and_right, both_true}
use Rattle.channel.specs.Words.{set_in}
use Rattle.channel.specs.Channels.{Whole, channel_index, len_of, is_free, pushed, popped, free_below, all_free, requested_all}
use Rattle.channel.specs.declared.Channels.{Channels}
use Rattle.channel.proofs.View.{pop-whole, lens-pushed, lens-popped, requested-lens}
use Rattle.run.specs.State.{sets_within, all_cars, is_sound, terms_of, count_of}
use Rattle.run.specs.Calls.{answer, channels_after, granted, actor_in}
use Rattle.run.specs.Model.{site_of}
use Rattle.run.specs.Lists.{call_of, after}
use Rattle.run.specs.Claims.{WholeRun, Typed, AllTyped}
use Rattle.run.specs.declared.Run.{Run}
use Rattle.run.specs.Answer.{Answer}
use Rattle.run.proofs.Outcome.{Sited, sited, Asks, Passed, Refused, outcome, Opened, NotOpened, open-outcome, Fitting, fallback-fits}
use Rattle.run.proofs.BelowLaws.{split, none-at}
use Rattle.run.proofs.Parts.{on_site, between, on-site, SoundRun, parts, sound}
use Rattle.run.proofs.SetBounds.{carried-lt}
use Rattle.run.proofs.Whole.{call-whole, open-whole}
use Rattle.run.proofs.Refine.{popped-free, refine, opened-site}
use Rattle.run.proofs.Conserve.{cars-at, granted-conserves, opened-cars}
use Rattle.run.specs.declared.SiteCall.{SiteCall}
use Rattle.run.specs.declared.SiteCall.TheVariants.{Receive, Send, Start, Gate}
use Rattle.rules.specs.declared.Direction.TheVariants.{In, Out}
use Rattle.run.specs.declared.Opening.{Opening}
use Rattle.run.specs.Opening.{open_call, opened_run, fallback}

-- The rules: a call adds at most one own event to a zone.
events-step : (c : Call) (s : Site) (k : ℕ) → ((step_s c s).zone k).events ≤ (s.zone k).events + 1
events-step (send a b cars) s k =
    on-keeps (λ (z : Local). z.events ≤ (s.zone k).events + 1) (eqb k a) (sent_under s.edition cars) (s.zone k)
    (sent-keeps s.edition cars (s.zone k) (λ (z : Local). z.events ≤ (s.zone k).events + 1) (λ h. omega arith))
    (omega arith)
events-step (receive a b) s k = go (s.channel a b)
  where
    turned : (set : ℕ) (t : Site) → (t.zone k).events ≤ (s.zone k).events + 1 → ((turn_s b set t).zone k).events ≤ (s.zone k).events + 1
    turned set t h = on-keeps (λ (z : Local). z.events ≤ (s.zone k).events + 1) (eqb k b) requested (t.zone k) (λ h. h) h

    go : (xs : List Item) → ((take_s a b xs s).zone k).events ≤ (s.zone k).events + 1
    go [] = omega arith
    go (message cars flag ∷ xs) =
        on-keeps (λ (z : Local). z.events ≤ (s.zone k).events + 1) (eqb k b) (received_under s.edition a cars flag) (s.zone k)
        (received-keeps s.edition cars (s.zone k) (λ (z : Local). z.events ≤ (s.zone k).events + 1) a flag (λ h. omega arith))
        (omega arith)
    go (request set ∷ xs) =
        on-keeps (λ (t : Site). (t.zone k).events ≤ (s.zone k).events + 1) (not (is_permanent (s.zone b).checkpoint)) (turn_s b set)
        (pop_s a b s) (turned set (pop_s a b s)) (omega arith)
events-step (start a) s k =
    on-keeps (λ (z : Local). z.events ≤ (s.zone k).events + 1) (eqb k a) started (s.zone k) (λ h. h) (omega arith)
events-step (gate d a cars) s k = go (eqb k a)
  where
    go : (t : Bool) → (on t (gated d cars) (s.zone k)).events ≤ (s.zone k).events + 1
    go true = omega arith
    go false = omega arith

-- Dependency sets go on naming zones of the site only.
received-deps : (n from deps : ℕ) (k : Checkpoint) (flag : Bool) → from < n → deps < 2 ^ n → deps_after k deps from flag < 2 ^ n
received-deps n from deps None false h d = or_lt n deps (only from) d (pow-lt h)
received-deps n from deps None true h d = d
received-deps n from deps (Mutable s) flag h d = d
received-deps n from deps (Permanent s) flag h d = d

deps-step : (n : ℕ) (c : Call) (s : Site) (k : ℕ) → Sited n c → (s.zone k).deps < 2 ^ n → ((step_s c s).zone k).deps < 2 ^ n
deps-step n (send a b cars) s k p h =
    on-keeps (λ (z : Local). z.deps < 2 ^ n) (eqb k a) (sent_under s.edition cars) (s.zone k)
    (sent-keeps s.edition cars (s.zone k) (λ (z : Local). z.deps < 2 ^ n) (λ h. h)) h
deps-step n (receive a b) s k p h = go (s.channel a b)
  where
    turned : (set : ℕ) (t : Site) → (t.zone k).deps < 2 ^ n → ((turn_s b set t).zone k).deps < 2 ^ n
    turned set t h = on-keeps (λ (z : Local). z.deps < 2 ^ n) (eqb k b) requested (t.zone k) (λ h. h) h

    go : (xs : List Item) → ((take_s a b xs s).zone k).deps < 2 ^ n
    go [] = h
    go (message cars flag ∷ xs) =
        on-keeps (λ (z : Local). z.deps < 2 ^ n) (eqb k b) (received_under s.edition a cars flag) (s.zone k)
        (received-keeps s.edition cars (s.zone k) (λ (z : Local). z.deps < 2 ^ n) a flag
        (received-deps n a (s.zone k).deps (s.zone k).checkpoint flag p.from)) h
    go (request set ∷ xs) =
        on-keeps (λ (t : Site). (t.zone k).deps < 2 ^ n) (not (is_permanent (s.zone b).checkpoint)) (turn_s b set) (pop_s a b s)
        (turned set (pop_s a b s)) h
deps-step n (start a) s k p h = on-keeps (λ (z : Local). z.deps < 2 ^ n) (eqb k a) started (s.zone k) (λ h. h) h
deps-step n (gate d a cars) s k p h = on-keeps (λ (z : Local). z.deps < 2 ^ n) (eqb k a) (gated d cars) (s.zone k) (λ h. h) h

-- So do the sets of requests.
within-join : (n : ℕ) (x : Item) (xs : List Item) → set_in x < 2 ^ n → sets_within n xs ≡ true → sets_within n (join x xs) ≡ true
within-join n x [] h e = rw (lt-ltb (set_in x) (2 ^ n) h)
within-join n x (y ∷ ys) h e =
    rw (and_left (ltb (set_in y) (2 ^ n)) (sets_within n ys) e) (within-join n x ys h (and_right (ltb (set_in y) (2 ^ n)) _ e))

within-tail : (n : ℕ) (xs : List Item) → sets_within n xs ≡ true → sets_within n (tail xs) ≡ true
within-tail n [] e = e
within-tail n (x ∷ xs) e = and_right (ltb (set_in x) (2 ^ n)) _ e

within_first : (n set : ℕ) (xs : List Item) → sets_within n (request set ∷ xs) ≡ true → set < 2 ^ n
within_first n set xs e = ltb-true set (2 ^ n) (and_left _ (sets_within n xs) e)

requests-sets : (n b to set : ℕ) (g : Local → Local) (s : Site) (i j : ℕ) → set < 2 ^ n → sets_within n (s.channel i j) ≡ true
    → sets_within n ((request_all_s b g to set s).channel i j) ≡ true
requests-sets n b to set g s i j h e =
    on-keeps (λ (xs : List Item). sets_within n xs ≡ true) (eqb i b && has to j) (join (request set)) (s.channel i j)
    (within-join n (request set) (s.channel i j) h) e

sets-step : (n : ℕ) (c : Call) (s : Site) → n ≤ 8 → Sited n c → ((k : ℕ) → k < n → (s.zone k).deps < 2 ^ n)
    → ((i j : ℕ) → on_site n i j ≡ true → sets_within n (s.channel i j) ≡ true)
    → (i j : ℕ) → on_site n i j ≡ true → sets_within n ((step_s c s).channel i j) ≡ true
sets-step n (send a b cars) s most p d h i j o =
    on-keeps (λ (xs : List Item). sets_within n xs ≡ true) (eqb i a && eqb j b) (join _) (s.channel i j)
    (within-join n _ (s.channel i j) (pow_pos n)) (h i j o)
sets-step n (receive a b) s most p d h i j o = go (s.channel a b) refl
  where
    popped-sets : sets_within n ((pop_s a b s).channel i j) ≡ true
    popped-sets =
        on-keeps (λ (xs : List Item). sets_within n xs ≡ true) (eqb i a && eqb j b) tail (s.channel i j)
        (within-tail n (s.channel i j)) (h i j o)

    go : (xs : List Item) → s.channel a b ≡ xs → sets_within n ((take_s a b xs s).channel i j) ≡ true
    go [] e = h i j o
    go (message cars flag ∷ xs) e = popped-sets
    go (request set ∷ xs) e =
        let v = within_first n set xs (subst (λ (xs : List Item). sets_within n xs ≡ true) e
        (h a b (on-site n a b most p.from p.to p.apart))) in
        on-keeps (λ (t : Site). sets_within n (t.channel i j) ≡ true) (not (is_permanent (s.zone b).checkpoint)) (turn_s b set)
        (pop_s a b s)
        (requests-sets n b (targets b set (s.zone b)) (carried set (s.zone b)) requested (pop_s a b s) i j
        (carried-lt n set (s.zone b) (d b p.to) v)) popped-sets
sets-step n (start a) s most p d h i j o =
    requests-sets n a (targets a nobody (s.zone a)) (carried nobody (s.zone a)) started s i j
    (carried-lt n nobody (s.zone a) (d a p) (pow_pos n)) (h i j o)
sets-step n (gate d a cars) s most p _ h i j o = h i j o

-- No channel gets more items than it has places.
free-at : (n : ℕ) (l : Channels) (b to j : ℕ) → free_below n l b to ≡ true → j < n → has to j ≡ true → len_of l (channel_index b j) < places
free-at zero l b to j f h e = absurd (not-suc-le-zero h)
free-at (suc n) l b to j f h e = go (λ m. free-at n l b to j (and_left (free_below n l b to) last f) m e) (split j n h)
  where
    last : Bool
    last = not (has to n) || is_free l (channel_index b n)

    go : (j < n → len_of l (channel_index b j) < places) → (j < n) ⊎ (j ≡ n) → len_of l (channel_index b j) < places
    go more (inl m) = more m
    go more (inr m) =
        let q : has to n ≡ true = ap (has to) (sym m) ∙ e in
        let g : is_free l (channel_index b n) ≡ true = rw q at (and_right (free_below n l b to) last f) in
        rw m (ltb-true (len_of l (channel_index b n)) places g)

requests-lens : (l : Channels) (b to set i j : ℕ) → Whole l → b < 8 → all_free l b to ≡ true → j < 8 → len_of l (channel_index i j) ≤ places
    → len_of (requested_all l b to set) (channel_index i j) ≤ places
unfolding all_free
requests-lens l b to set i j w hb f hj h = rw (requested-lens l b to set w hb f i j hj) (go (eqb i b && has to j) refl)
  where
    go : (t : Bool) → eqb i b && has to j ≡ t → on t (λ n. n + 1) (len_of l (channel_index i j)) ≤ places
    go true e =
        let x = eqb-true i b (and_left (eqb i b) (has to j) e) in
        let g = free-at 8 l b to j f hj (and_right (eqb i b) (has to j) e) in
        rw x (omega arith)
    go false e = h

pushed-lens : (l : Channels) (a b word i j : ℕ) → Whole l → a < 8 → b < 8 → len_of l (channel_index a b) < places → j < 8
    → len_of l (channel_index i j) ≤ places → len_of (pushed l (channel_index a b) word) (channel_index i j) ≤ places
pushed-lens l a b word i j w ha hb f hj h =
    rw (lens-pushed l a b w ha hb word (lt-ltb _ places f) i j hj) (go (eqb i a && eqb j b) refl)
  where
    go : (t : Bool) → eqb i a && eqb j b ≡ t → on t (λ n. n + 1) (len_of l (channel_index i j)) ≤ places
    go true e = let (x, y) = both_true i a j b e in rw (x, y) (omega arith)
    go false e = h

popped-lens : (l : Channels) (a b i j : ℕ) → Whole l → a < 8 → b < 8 → j < 8 → len_of l (channel_index i j) ≤ places
    → len_of (popped l (channel_index a b)) (channel_index i j) ≤ places
popped-lens l a b i j w ha hb hj h =
    rw (lens-popped l a b w ha hb i j hj)
    (on-keeps (λ (n : ℕ). n ≤ places) (eqb i a && eqb j b) (λ n. n - 1) (len_of l (channel_index i j)) (λ h. omega arith) h)

lens-step : (c : SiteCall) (r : Run) → WholeRun r → SoundRun r → Asks c r → (i j : ℕ) → on_site (count_of r.head) i j ≡ true
    → len_of (channels_after c (terms_of r.head) (actor_in c r) r.channels) (channel_index i j) ≤ places
lens-step (Send from to cars) r w s (p, c, f) i j o =
    pushed-lens r.channels (index from) (index to) _ i j w.channels (omega (arith, p.from, s.most))
    (omega (arith, p.to, s.most)) f
    (between (count_of r.head) i j o).near (s.lens i j o)
lens-step (Receive from to) r w s (p, c, f) i j o =
    let a = index from in
    let b = index to in
    let hb : b < 8 = omega (arith, p.to, s.most) in
    let near = (between (count_of r.head) i j o).near in
    requests-lens (popped r.channels (channel_index a b)) b _ _ i j (pop-whole r.channels (channel_index a b) w.channels) hb
    (popped-free r.channels a b _ p.apart hb f) near
    (popped-lens r.channels a b i j w.channels (omega (arith, p.from, s.most)) hb near (s.lens i j o))
lens-step (Start zone) r w s (p, c, f) i j o =
    requests-lens r.channels (index zone) _ _ i j w.channels (omega (arith, s.most)) f (between (count_of r.head) i j o).near
    (s.lens i j o)
lens-step (Gate d zone cars) r w s _ i j o = s.lens i j o

-- The cars stay at or below 65,535: question 21 has seen it of an entry.
few-cars : (c : SiteCall) (r : Run) → Passed c r → all_cars r ≤ most_cars → all_cars r + entering (call_of c) ≤ most_cars
few-cars (Send from to cars) r p h = omega arith
few-cars (Receive from to) r p h = omega arith
few-cars (Start zone) r p h = omega arith
few-cars (Gate In zone cars) r p h = p.asks.1
few-cars (Gate Out zone cars) r p h = omega arith

-- An accepted call hands back a sound run.
granted-sound : (c : SiteCall) (r : Run) → WholeRun r → Typed c → Passed c r → SoundRun (granted c r).run
granted-sound c r w t p =
    let s = parts r p.sound in
    let q : site_of (granted c r).run ≡ step_s (call_of c) (site_of r) =
    ap (λ (x : Answer). site_of x.run) (sym p.result) ∙ (refine c r w t p.said).0 in
    let cars = granted-conserves c r w t p in
    let few = few-cars c r p (subst (λ (n : ℕ). n ≤ most_cars) (sym (cars-at r)) s.cars) in
    record {
      edition = s.edition;
      fewest = s.fewest;
      most = s.most;
      records = omega (arith, p.room);
      events = λ i h. subst (λ (x : Site). (x.zone i).events ≤ r.head.records + 1) (sym q)
          (omega (arith, events-step (call_of c) (site_of r) i, s.events i h));
      deps = λ i h. subst (λ (x : Site). (x.zone i).deps < 2 ^ count_of r.head) (sym q)
          (deps-step (count_of r.head) (call_of c) (site_of r) i (sited c r p) (s.deps i h));
      lens = lens-step c r w s p.asks;
      sets = λ i j o. subst (λ (x : Site). sets_within (count_of r.head) (x.channel i j) ≡ true) (sym q)
          (sets-step (count_of r.head) (call_of c) (site_of r) s.most (sited c r p) s.deps s.sets i j o);
      cars = subst (λ (n : ℕ). n ≤ most_cars) (cars-at (granted c r).run) (omega arith);
    }

pub call-sound : (c : SiteCall) (r : Run) → WholeRun r → Typed c → is_sound r ≡ true → is_sound (answer c r).run ≡ true
call-sound c r w t e = go (outcome c r)
  where
    go : Passed c r ⊎ Refused c r → is_sound (answer c r).run ≡ true
    go (inl p) = ap (λ (x : Answer). is_sound x.run) p.result ∙ sound (granted c r).run (granted-sound c r w t p)
    go (inr p) = ap is_sound p.kept ∙ e

pub after-sound : (cs : List SiteCall) (r : Run) → WholeRun r → AllTyped cs → is_sound r ≡ true → is_sound (after cs r) ≡ true
after-sound [] r w t e = e
after-sound (c ∷ cs) r w t e = after-sound cs (answer c r).run (call-whole c r w) t.1 (call-sound c r w t.0 e)

-- The run of an opening is sound, also the run that a refused opening hands back.
opened-facts : (o : Opening) → Fitting o → SoundRun (opened_run o)
unfolding opened_run
opened-facts o f =
    let r = opened_run o in
    let q = opened-site o f in
    record {
      edition = f.edition;
      fewest = f.fewest;
      most = f.most;
      records = omega arith;
      events = λ i b. subst (λ (x : Site). (x.zone i).events ≤ 0) (sym q) (omega arith);
      deps = λ i b. subst (λ (x : Site). (x.zone i).deps < 2 ^ o.terms.count) (sym q) (pow-lt b);
      lens = λ i j e. subst (λ (n : ℕ). n ≤ places) (sym (none-at 64 (channel_index i j))) (omega arith);
      sets = λ i j e. subst (λ (x : Site). sets_within o.terms.count (x.channel i j) ≡ true) (sym q) refl;
      cars = subst (λ (n : ℕ). n ≤ most_cars) (sym (opened-cars o f) ∙ cars-at r) f.cars;
    }

pub opened-sound : (o : Opening) → Fitting o → is_sound (opened_run o) ≡ true
opened-sound o f = sound (opened_run o) (opened-facts o f)

pub open-sound : (o : Opening) → is_sound (open_call o).run ≡ true
open-sound o = go (open-outcome o)
  where
    go : Opened o ⊎ NotOpened o → is_sound (open_call o).run ≡ true
    go (inl p) = ap (λ (x : Answer). is_sound x.run) p.result ∙ opened-sound o p.fits
    go (inr p) = ap (λ (x : Answer). is_sound x.run) p.result ∙ opened-sound fallback fallback-fits

-- Every true run is sound.
pub true-sound : (o : Opening) (cs : List SiteCall) → AllTyped cs
    → is_sound (after cs (open_call o).run) ≡ true
true-sound o cs t =
    after-sound cs (open_call o).run (open-whole o) t (open-sound o)

-- So its stocks plus cars on lines are at most 65,535.
pub true-few : (o : Opening) (cs : List SiteCall) → AllTyped cs → all_cars (after cs (open_call o).run) ≤ most_cars
true-few o cs t =
    let r = after cs (open_call o).run in
    subst (λ (n : ℕ). n ≤ most_cars) (sym (cars-at r)) (parts r (true-sound o cs t)).cars
