-- The log of a history, cut in two: first the events before their checkpoints of the zones of a set F, then all others. Both parts
-- can be replayed, for every F closed under dependencies.
use mathlib.Core.Path.{◌≡◌, refl, sym, ◌∙◌, ap, subst}
use mathlib.Core.Bool.{Bool, true, false, ◌&&◌, ◌||◌, not, false≢true, true≢false}
use mathlib.Core.Logic.{◌≢◌}
use mathlib.Core.List.{List, [], ◌∷◌, append-nil, map, tail}
use Prim.Native.Nat.{ℕ, ◌+◌, ◌≤◌}
use lib.Dec.{eqb}
use borrow.Author.Tests.{eqb-true, not-true}
use Rattle.rules.specs.Edition.{is_traffic}
use Rattle.rules.specs.Opening.{Opening}
use Rattle.rules.specs.Change.{on, join, cons-if}
use Rattle.rules.specs.Sets.{has, nobody}
use Rattle.rules.specs.Zone.{has_checkpoint, saved, received, checkpoint_after, requested, made_permanent, targets, carried, opened}
use Rattle.rules.specs.Site.{Item, message, request}
use Rattle.rules.specs.Cut.{cars_on, present}
use Rattle.rules.specs.declared.Local.{Local}
use Rattle.rules.specs.declared.Saved.{Saved}
use Rattle.rules.specs.declared.Checkpoint.{Checkpoint}
use Rattle.rules.specs.declared.Checkpoint.TheVariants.{None, Mutable, Permanent}
use Rattle.rules.proofs.Tests.{eqb_refl, or_left, or_right, or-off-left, or-off-right, and_left, and_right}
use Rattle.rules.proofs.Guarded.{on-keeps, on_same, on-same-at, on-map, on-map-at, on-true, on-false, on-still}
use Rattle.rules.proofs.Lists.{All, all_map, all_keep, keep, keep_join, join-if, tail-if, map-if}
use Rattle.rules.proofs.Acts.{Act}
use Rattle.rules.proofs.Tagged.{Tagged, Event, acting, receiving, zone_of, is_post, TaggedPark, tagged, acted_t, taken_t, Step, stock_by, step-stock, Apart, tagged≡, Steps, steps-join, forward}
use Rattle.rules.proofs.Untagged.{cars_of, plain, park≡}
use Rattle.rules.proofs.Checkpoints.{has-deps_after}
use Rattle.rules.proofs.History.{History, open_h, NoCheckpoint, Depends, acting_of, receiving_of, acted, own_h, own-deps, receive_h, check_h, pop_h, turn_h, begin_h, at-channel}
use Rattle.rules.proofs.Kept.{Carries, Kept}
use Rattle.rules.proofs.Dependencies.{PreOnly, pre-kept}

-- The tagged park of a site: requests and line checks are left out, and the flag of a message is its tag.
abbrev pub messages : ℕ → List Item → List Tagged
messages e [] = []
messages e (message c flag ∷ l) = cons-if (is_traffic e c) (tagged c flag) (messages e l)
messages e (request set ∷ l) = messages e l

abbrev pub park_of : History → TaggedPark
park_of h = record { stock = λ k. (h.now.zone k).stock; channel = λ i j. messages h.now.edition (h.now.channel i j) }

cars-messages : (e : ℕ) (l : List Item) → map cars_of (messages e l) ≡ cars_on e l
cars-messages e [] = refl
cars-messages e (message c flag ∷ l) = map-if cars_of (is_traffic e c) _ (messages e l) ∙ ap (cons-if (is_traffic e c) c) (cars-messages e l)
cars-messages e (request set ∷ l) = cars-messages e l

pub plain-park : (h : History) → plain (park_of h) ≡ present h.now
plain-park h = park≡ _ _ (λ k. refl) (λ i j. cars-messages h.now.edition (h.now.channel i j))

abbrev pub open_t : Opening → TaggedPark
open_t v = record { stock = v.stocks; channel = λ i j. [] }

-- The two parts of the log.
abbrev pub in_first : (ℕ → Bool) → Event → Bool
in_first F e = F (zone_of e) && not (is_post e)

abbrev pub in_second : (ℕ → Bool) → Event → Bool
in_second F e = not (in_first F e)

abbrev pub Closed : (ℕ → Bool) → History → Type 0
Closed F h = (j i : ℕ) → F j ≡ true → Depends h j i → F i ≡ true

-- The stock of a zone of F after its events in the first part, and of any other zone.
abbrev pub stock_at : Checkpoint → ℕ → ℕ
stock_at None now = now
stock_at (Mutable s) now = s.stock
stock_at (Permanent s) now = s.stock

abbrev held_by : Local → ℕ
held_by z = stock_at z.checkpoint z.stock

abbrev pub held : Bool → Local → ℕ → ℕ
held true z opening = held_by z
held false z opening = opening

pub record Halves (v : Opening) (F : ℕ → Bool) (h : History) : Type 0 where
  pub middle : TaggedPark
  pub first : Steps (keep (in_first F) h.log) (open_t v) middle
  pub second : Steps (keep (in_second F) h.log) middle (park_of h)
  pub stocks : (z : ℕ) → middle.stock z ≡ held (F z) (h.now.zone z) (v.stocks z)

abbrev pub Cuts : Opening → History → Type 0
Cuts v h = (F : ℕ → Bool) → Closed F h → Halves v F h

-- The tagged park after each step.
messages-join : (e : ℕ) (l : List Item) (c : ℕ) (flag : Bool)
    → messages e (join (message c flag) l) ≡ on (is_traffic e c) (join (tagged c flag)) (messages e l)
messages-join e [] c flag = sym (join-if (is_traffic e c) (tagged c flag))
messages-join e (message d n ∷ l) c flag =
    ap (cons-if (is_traffic e d) (tagged d n)) (messages-join e l c flag) ∙ cons-on (is_traffic e d) (is_traffic e c) _ _ (messages e l)
  where
    cons-on : (p q : Bool) (x y : Tagged) (t : List Tagged) → cons-if p x (on q (join y) t) ≡ on q (join y) (cons-if p x t)
    cons-on true true x y t = refl
    cons-on true false x y t = refl
    cons-on false q x y t = refl
messages-join e (request set ∷ l) c flag = messages-join e l c flag

messages-request : (e : ℕ) (l : List Item) (set : ℕ) → messages e (join (request set) l) ≡ messages e l
messages-request e [] set = refl
messages-request e (message d n ∷ l) set = ap (cons-if (is_traffic e d) (tagged d n)) (messages-request e l set)
messages-request e (request q ∷ l) set = messages-request e l set

-- At the channel whose first item is taken.
messages-tail : (e : ℕ) (p : Bool) (l : List Item) (c : ℕ) (flag : Bool) (r : List Item) → (p ≡ true → l ≡ message c flag ∷ r)
    → messages e (on p tail l) ≡ on p (on (is_traffic e c) tail) (messages e l)
messages-tail e true l c flag r at = rw (at refl) (sym (tail-if (is_traffic e c) (tagged c flag) (messages e r)))
messages-tail e false l c flag r at = refl

messages-drop : (e : ℕ) (p : Bool) (l : List Item) (set : ℕ) (r : List Item) → (p ≡ true → l ≡ request set ∷ r)
    → messages e (on p tail l) ≡ messages e l
messages-drop e true l set r at = rw (at refl)
messages-drop e false l set r at = refl

park-own : (x : Act) (h : History) → Carries x h
    → park_of (own_h x h) ≡ acted_t x (has_checkpoint (h.now.zone x.zone).checkpoint) (park_of h)
park-own x h carries = tagged≡ _ _
    (λ k. on-map (λ (z : Local). z.stock) (eqb k x.zone) (acted x) x.change (h.now.zone k) refl)
    (λ i j. on-map-at (messages h.now.edition) (x.goes i j) _ _ (h.now.channel i j)
    (λ t. messages-join h.now.edition (h.now.channel i j) x.cars (has_checkpoint (h.now.zone x.zone).checkpoint)
    ∙ on-true (is_traffic h.now.edition x.cars) _ _ (carries i j t)))

park-check : (a b c : ℕ) (h : History) → is_traffic h.now.edition c ≡ false → park_of (check_h a b c h) ≡ park_of h
park-check a b c h e = tagged≡ _ _ (λ k. refl)
    (λ i j. on_same (messages h.now.edition) (eqb i a && eqb j b) _ (h.now.channel i j)
    (messages-join h.now.edition (h.now.channel i j) c (has_checkpoint (h.now.zone a).checkpoint)
    ∙ on-false (is_traffic h.now.edition c) _ _ e))

-- The first message of a channel is taken; p: whether it is traffic.
taken-channel : (a b c : ℕ) (flag : Bool) (l : List Item) (h : History) (p : Bool) → h.now.channel a b ≡ message c flag ∷ l
    → is_traffic h.now.edition c ≡ p → (i j : ℕ)
    → messages h.now.edition ((pop_h a b h).now.channel i j)
    ≡ on (eqb i a && eqb j b) (on p tail) (messages h.now.edition (h.now.channel i j))
taken-channel a b c flag l h p e t i j =
    messages-tail h.now.edition (eqb i a && eqb j b) (h.now.channel i j) c flag l (λ t. at-channel a b i j h _ t e)
    ∙ ap (λ (q : Bool). on (eqb i a && eqb j b) (on q tail) (messages h.now.edition (h.now.channel i j))) t

park-receive : (a b c : ℕ) (flag : Bool) (l : List Item) (h : History) → h.now.channel a b ≡ message c flag ∷ l
    → is_traffic h.now.edition c ≡ true → park_of (receive_h a b c flag h) ≡ taken_t a b c (park_of h)
park-receive a b c flag l h e t = tagged≡ _ _
    (λ k. on-map (λ (z : Local). z.stock) (eqb k b) (received a c flag) (λ n. n + c) (h.now.zone k) refl)
    (taken-channel a b c flag l h true e t)

park-checked : (a b c : ℕ) (flag : Bool) (l : List Item) (h : History) → h.now.channel a b ≡ message c flag ∷ l
    → is_traffic h.now.edition c ≡ false → park_of (pop_h a b h) ≡ park_of h
park-checked a b c flag l h e t = tagged≡ _ _ (λ k. refl)
    (λ i j. taken-channel a b c flag l h false e t i j
    ∙ on-still (eqb i a && eqb j b) (on false tail) (messages h.now.edition (h.now.channel i j)) refl)

park-pop : (a b set : ℕ) (l : List Item) (h : History) → h.now.channel a b ≡ request set ∷ l → park_of (pop_h a b h) ≡ park_of h
park-pop a b set l h e = tagged≡ _ _ (λ k. refl)
    (λ i j. messages-drop h.now.edition (eqb i a && eqb j b) (h.now.channel i j) set l (λ t. at-channel a b i j h _ t e))

park-turn : (b set : ℕ) (h : History) → park_of (turn_h b set h) ≡ park_of h
park-turn b set h = tagged≡ _ _
    (λ k. on_same (λ (z : Local). z.stock) (eqb k b) requested (h.now.zone k) refl)
    (λ i j. on_same (messages h.now.edition) (eqb i b && has (targets b set (h.now.zone b)) j) (join (request (carried set (h.now.zone b))))
    (h.now.channel i j)
    (messages-request h.now.edition (h.now.channel i j) _))

-- A step without an event keeps the cut.
silent : (v : Opening) (h t : History) → t.log ≡ h.log → park_of t ≡ park_of h
    → ((j : ℕ) → (t.now.zone j).deps ≡ (h.now.zone j).deps)
    → ((z : ℕ) (p : Bool) → held p (t.now.zone z) (v.stocks z) ≡ held p (h.now.zone z) (v.stocks z)) → Cuts v h → Cuts v t
silent v h t l y d q cuts F closed =
    let r = cuts F (λ j i f e. closed j i f (ap (λ (n : ℕ). has n i) (d j) ∙ e)) in
    record {
      middle = r.middle;
      first = rw l r.first;
      second = rw (l, y) r.second;
      stocks = λ z. r.stocks z ∙ sym (q z (F z));
    }

-- A checkpoint made permanent keeps its stock.
stock-made : (k : Checkpoint) (now : Saved) → stock_at (made_permanent k now) now.stock ≡ stock_at k now.stock
stock-made None now = refl
stock-made (Mutable s) now = refl
stock-made (Permanent s) now = refl

held-requested : (p : Bool) (z : Local) (o : ℕ) → held p (requested z) o ≡ held p z o
held-requested true z o = stock-made z.checkpoint (saved z)
held-requested false z o = refl

turn-cuts : (v : Opening) (b set : ℕ) (h t : History) → t.log ≡ h.log → t.now.zone ≡ h.now.zone → park_of t ≡ park_of h → Cuts v h
    → Cuts v (turn_h b set t)
turn-cuts v b set h t l z y = silent v h (turn_h b set t) l (park-turn b set t ∙ y)
    (λ j. on_same (λ (k : Local). k.deps) (eqb j b) requested (t.now.zone j) refl ∙ ap (λ (f : ℕ → Local). (f j).deps) z)
    (λ k p. on_same (λ (w : Local). held p w (v.stocks k)) (eqb k b) requested (t.now.zone k) (held-requested p (t.now.zone k) (v.stocks k))
    ∙ ap (λ (f : ℕ → Local). held p (f k) (v.stocks k)) z)

-- A zone of F without a checkpoint has no event in the second part.
not_own : (F : ℕ → Bool) (h : History) (z : ℕ) → F z ≡ true → NoCheckpoint h z → (e : Event)
    → (NoCheckpoint h (zone_of e) → is_post e ≡ false)
    → in_second F e ≡ true → zone_of e ≢ z
not_own F h z f u e k t q =
    let w : is_post e ≡ false = k (subst (NoCheckpoint h) (sym q) u) in
    let x : in_second F e ≡ false = rw (w, q, f) in
    true≢false (sym t ∙ x)

apart-own : (F : ℕ → Bool) (h : History) (x : Act) (m : Bool) → F x.zone ≡ true → NoCheckpoint h x.zone
    → (e : Event) → (NoCheckpoint h (zone_of e) → is_post e ≡ false) → in_second F e ≡ true → Apart e (acting x m)
apart-own F h x m f u (acting y n) k t = not_own F h x.zone f u (acting y n) k t
apart-own F h x m f u (receiving a b c n) k t = not_own F h x.zone f u (receiving a b c n) k t

-- An event of a zone of F in the second part comes after the zone's checkpoint.
post-second : (p n : Bool) → p ≡ true → not (p && not n) ≡ true → n ≡ true
post-second true true e t = refl
post-second true false e t = t
post-second false n e t = absurd (false≢true e)

apart-receive : (F : ℕ → Bool) (h : History) (a b c : ℕ) (m : Bool) → m ≡ false → F a ≡ true → F b ≡ true → NoCheckpoint h b
    → (e : Event) → (NoCheckpoint h (zone_of e) → is_post e ≡ false) → in_second F e ≡ true → Apart e (receiving a b c m)
apart-receive F h a b c m q fa f u (acting x n) k t =
    (not_own F h b f u (acting x n) k t, q, λ w. post-second (F x.zone) n (ap F w ∙ fa) t)
apart-receive F h a b c m q fa f u (receiving x y d n) k t = not_own F h b f u (receiving x y d n) k t

-- What a zone holds after an event of the first part, and after one of the second; m: whether the event comes before the checkpoint.
held_first : (p m : Bool) (y z : Local) (f : ℕ → ℕ) (o : ℕ) → (m ≡ true → held_by y ≡ f (held_by z)) → p && m ≡ true
    → held p y o ≡ f (held p z o)
held_first true m y z f o k e = k e
held_first false m y z f o k e = absurd (false≢true e)

held-second : (p m : Bool) (y z : Local) (o : ℕ) → (m ≡ false → held_by y ≡ held_by z) → p && m ≡ false → held p y o ≡ held p z o
held-second true m y z o k e = k e
held-second false m y z o k e = refl

-- One more event e, by which h becomes t and its zone changes by g.
module _ (v : Opening) (F : ℕ → Bool) (h t : History) (e : Event) (g : Local → Local) (step : Step e (park_of h) (park_of t))
    (logged : t.log ≡ join e h.log) (changed : (k : ℕ) → t.now.zone k ≡ on (eqb k (zone_of e)) g (h.now.zone k))
    (before : not (is_post e) ≡ true → held_by (g (h.now.zone (zone_of e))) ≡ stock_by e (held_by (h.now.zone (zone_of e))))
    (after : not (is_post e) ≡ false → held_by (g (h.now.zone (zone_of e))) ≡ held_by (h.now.zone (zone_of e)))
    (apart : in_first F e ≡ true → All (λ x. in_second F x ≡ true → Apart x e) h.log) (r : Halves v F h) where
  abbrev held_at : ℕ → Local → ℕ
  held_at z w = held (F z) w (v.stocks z)

  stocks-first : in_first F e ≡ true → (z : ℕ) → held_at z (t.now.zone z) ≡ on (eqb z (zone_of e)) (stock_by e) (held_at z (h.now.zone z))
  stocks-first q z =
      ap (held_at z) (changed z)
      ∙ on-map-at (held_at z) (eqb z (zone_of e)) g (stock_by e) (h.now.zone z)
      (λ w. subst (λ (k : ℕ). held_at k (g (h.now.zone k)) ≡ stock_by e (held_at k (h.now.zone k))) (sym (eqb-true z (zone_of e) w))
      (held_first (F (zone_of e)) (not (is_post e)) _ _ (stock_by e) _ before q))

  stocks-second : in_first F e ≡ false → (z : ℕ) → held_at z (t.now.zone z) ≡ held_at z (h.now.zone z)
  stocks-second q z =
      ap (held_at z) (changed z)
      ∙ on-same-at (held_at z) (eqb z (zone_of e)) g (h.now.zone z)
      (λ w. subst (λ (k : ℕ). held_at k (g (h.now.zone k)) ≡ held_at k (h.now.zone k)) (sym (eqb-true z (zone_of e) w))
      (held-second (F (zone_of e)) (not (is_post e)) _ _ _ after q))

  one-cut : Halves v F t
  one-cut = go (in_first F e) refl
    where
      go : (p : Bool) → in_first F e ≡ p → Halves v F t
      -- In the first part: it moves forward past the second part.
      go true q =
          let w = forward (keep (in_second F) h.log) e r.middle (park_of h) (park_of t)
          (all_keep (λ x. Apart x e) (in_second F) h.log (apart q)) r.second step in
          record {
            middle = w.0;
            first = rw (logged, keep_join (in_first F), q)
                (steps-join (keep (in_first F) h.log) e (open_t v) r.middle w.0 r.first w.1);
            second = rw (logged, keep_join (in_second F), q, append-nil (keep (in_second F) h.log)) w.2;
            stocks = λ z. step-stock e r.middle w.0 w.1 z ∙ ap (on (eqb z (zone_of e)) (stock_by e)) (r.stocks z)
                ∙ sym (stocks-first q z);
          }
      -- In the second part: it joins the end.
      go false q = record {
        middle = r.middle;
        first = rw (logged, keep_join (in_first F), q, append-nil (keep (in_first F) h.log)) r.first;
        second = rw (logged, keep_join (in_second F), q)
            (steps-join (keep (in_second F) h.log) e r.middle (park_of h) (park_of t) r.second step);
        stocks = λ z. r.stocks z ∙ sym (stocks-second q z);
      }

-- A stock that changes: it is what the zone holds before the checkpoint, and no longer after it.
stock-before : (k : Checkpoint) (f : ℕ → ℕ) (n : ℕ) → not (has_checkpoint k) ≡ true → stock_at k (f n) ≡ f (stock_at k n)
stock-before None f n e = refl
stock-before (Mutable s) f n e = absurd (false≢true e)
stock-before (Permanent s) f n e = absurd (false≢true e)

stock-after : (k : Checkpoint) (f : ℕ → ℕ) (n : ℕ) → not (has_checkpoint k) ≡ false → stock_at k (f n) ≡ stock_at k n
stock-after None f n e = absurd (true≢false e)
stock-after (Mutable s) f n e = refl
stock-after (Permanent s) f n e = refl

stock-receive : (k : Checkpoint) (now : Saved) (flag : Bool) (c : ℕ) → not (has_checkpoint k || flag) ≡ true
    → stock_at (checkpoint_after k now flag) (now.stock + c) ≡ stock_at k now.stock + c
stock-receive None now true c e = absurd (false≢true e)
stock-receive None now false c e = refl
stock-receive (Mutable s) now flag c e = absurd (false≢true e)
stock-receive (Permanent s) now flag c e = absurd (false≢true e)

stock-received : (k : Checkpoint) (now : Saved) (flag : Bool) (c : ℕ) → not (has_checkpoint k || flag) ≡ false
    → stock_at (checkpoint_after k now flag) (now.stock + c) ≡ stock_at k now.stock
stock-received None now true c e = refl
stock-received None now false c e = absurd (true≢false e)
stock-received (Mutable s) now flag c e = refl
stock-received (Permanent s) now flag c e = refl

own-cuts : (v : Opening) (x : Act) (h : History) → x.needs ≤ (h.now.zone x.zone).stock → Carries x h → PreOnly h → Cuts v h
    → Cuts v (own_h x h)
own-cuts v x h le tr pre cuts F closed = one-cut v F h (own_h x h) (acting_of x h.now) (acted x) (le, park-own x h tr) refl (λ k. refl)
    (stock-before z.checkpoint x.change z.stock) (stock-after z.checkpoint x.change z.stock)
    (λ q. all_map _ _ h.log (apart-own F h x m (and_left (F x.zone) (not m) q) (not-true m (and_right (F x.zone) (not m) q))) pre)
    (cuts F (λ j i f q. closed j i f (ap (λ (d : ℕ). has d i) (own-deps x h j) ∙ q)))
  where
    z : Local
    z = h.now.zone x.zone

    m : Bool
    m = has_checkpoint z.checkpoint

receive-cuts : (v : Opening) (a b c : ℕ) (flag : Bool) (l : List Item) (h : History) → h.now.channel a b ≡ message c flag ∷ l
    → is_traffic h.now.edition c ≡ true → PreOnly h → Cuts v h → Cuts v (receive_h a b c flag h)
receive-cuts v a b c flag l h at tr pre cuts F closed = one-cut v F h t e (received a c flag) step refl (λ k. refl)
    (stock-receive z.checkpoint (saved z) flag c) (stock-received z.checkpoint (saved z) flag c) apart
    (cuts F (λ j i f q. closed j i f (on-keeps (λ (w : Local). has w.deps i ≡ true) (eqb j b) (received a c flag) (h.now.zone j)
    (λ w. has-deps_after (h.now.zone j).checkpoint (h.now.zone j).deps a flag i ∙ or_left _ _ w) q)))
  where
    z : Local
    z = h.now.zone b

    n : Bool
    n = has_checkpoint z.checkpoint || flag

    e : Event
    e = receiving_of a b c flag h.now

    t : History
    t = receive_h a b c flag h

    step : Step e (park_of h) (park_of t)
    step = (
      tagged c flag,
      messages h.now.edition l,
      ap (messages h.now.edition) at ∙ ap (λ (p : Bool). cons-if p (tagged c flag) (messages h.now.edition l)) tr,
      or-off-right (has_checkpoint z.checkpoint) flag,
      park-receive a b c flag l h at tr,
      refl,
    )

    -- A receipt in the first part puts the sender into the dependency set.
    depended : not n ≡ true → Depends t b a
    depended q =
        ap (λ (w : Local). has w.deps a) (on-true (eqb b b) (received a c flag) z (eqb_refl b))
        ∙ has-deps_after z.checkpoint z.deps a flag a
        ∙ or_right (has z.deps a) _ (ap (λ x. x && eqb a a) q ∙ eqb_refl a)

    apart : in_first F e ≡ true → All (λ x. in_second F x ≡ true → Apart x e) h.log
    apart q =
        let fb = and_left (F b) (not n) q in
        let nn = and_right (F b) (not n) q in
        all_map _ _ h.log (apart-receive F h a b c n (not-true n nn) (closed b a fb (depended nn)) fb
        (or-off-left _ flag (not-true n nn))) pre

pub cuts-kept : (v : Opening) → Kept (λ h. PreOnly h × Cuts v h)
cuts-kept v = record {
  at_own = λ x h le tr q. (pre-kept.at_own x h le tr q.0, own-cuts v x h le tr q.0 q.1);
  at-receive = λ a b c flag l h e tr q. (
    pre-kept.at-receive a b c flag l h e tr q.0,
    receive-cuts v a b c flag l h e tr q.0 q.1,
  );
  at-check = λ a b c h tr q. (
    pre-kept.at-check a b c h tr q.0,
    silent v h (check_h a b c h) refl (park-check a b c h tr) (λ j. refl) (λ z p. refl) q.1,
  );
  at-checked = λ a b c flag l h e tr q. (
    pre-kept.at-checked a b c flag l h e tr q.0,
    silent v h (pop_h a b h) refl (park-checked a b c flag l h e tr) (λ j. refl) (λ z p. refl) q.1,
  );
  at_drop = λ a b set l h e p q. (
    pre-kept.at_drop a b set l h e p q.0,
    silent v h (pop_h a b h) refl (park-pop a b set l h e) (λ j. refl) (λ z p. refl) q.1,
  );
  at-request = λ a b set l h e p q. (
    pre-kept.at-request a b set l h e p q.0,
    turn-cuts v b set h (pop_h a b h) refl refl (park-pop a b set l h e) q.1,
  );
  at-start = λ a h e u q. (pre-kept.at-start a h e u q.0, turn-cuts v a nobody h (begin_h a h) refl refl refl q.1);
}

pub cuts-open : (v : Opening) → PreOnly (open_h v) × Cuts v (open_h v)
cuts-open v = (tt, λ F closed. record { middle = open_t v; first = refl; second = refl; stocks = λ z. go (F z) z })
  where
    go : (p : Bool) (z : ℕ) → v.stocks z ≡ held p (opened z (v.stocks z)) (v.stocks z)
    go true z = refl
    go false z = refl
