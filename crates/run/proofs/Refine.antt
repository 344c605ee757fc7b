-- What an accepted call does to the run is what the rules say of the site that the run stands for.
use mathlib.Core.Path.{◌≡◌, refl, sym, ◌∙◌, ap, subst}
use mathlib.Core.Bool.{Bool, true, false, cond, ◌&&◌, not, and-false, true≢false}
use mathlib.Core.Logic.{◌≢◌, inl, inr}
use mathlib.Core.List.{List, [], ◌∷◌, tail}
use Prim.Native.Nat.{ℕ, zero, suc, ◌^◌, ◌≤◌, ◌<◌, ◌+◌}
use native.Mathlib.Omega.{arith}
use lib.Dec.{eqb, ltb}
use lib.ListN.{length, get_or, set, get_or-eq_default}
use lib.Seq.{get_or-set_same, get_or-set_other}
use borrow.Author.Tests.{eqb-true, lt-ltb, ne_eqb, ltb-true, ltb-false}
use Rattle.rules.specs.Change.{on, join}
use Rattle.rules.specs.Limits.{places}
use Rattle.rules.specs.Questions.{index}
use Rattle.rules.specs.Sets.{has, nobody}
use Rattle.rules.specs.Zone.{has_checkpoint, is_permanent, opened, sent_under, received_under, gated, started, requested, targets, carried}
use Rattle.rules.specs.Site.{Item, message, request, Site, send_s, gate_s, pop_s, turn_s, start_s, take_s, step_s, open_s}
use Rattle.rules.specs.Cut.{May}
use Rattle.rules.specs.declared.Local.{Local}
use Rattle.rules.proofs.Tests.{and_left, and_right, both_true, Same, same?}
use Rattle.rules.proofs.SetLaws.{has-nobody}
use Rattle.local.specs.Requesting.{requested_by, started_by}
use Rattle.local.specs.declared.Requesting.{Requesting}
use Rattle.channel.specs.Words.{item_of, message_word}
use Rattle.channel.specs.Channels.{Whole, channel_index, len_of, items_on, pushed, popped, first_of, free_below, all_free, requested_all}
use Rattle.channel.specs.declared.Channels.{Channels}
use Rattle.channel.proofs.View.{item-message, pop-whole, items-first, items-pushed, items-popped, len-pop-other, requested-items}
use Rattle.run.specs.State.{no_local, locals, zone_at, has_started, edition_of, count_of, put_back}
use Rattle.run.specs.Calls.{changed, item_received, answer, granted, record_of}
use Rattle.run.specs.Model.{site_of}
use Rattle.run.specs.Lists.{call_of, is_accepted}
use Rattle.run.specs.Claims.{WholeRun, Typed}
use Rattle.run.specs.declared.Run.{Run}
use Rattle.run.specs.Answer.{Answer}
use Rattle.run.proofs.Filled.{short-list}
use Rattle.run.proofs.Outcome.{is_open, Pair, Asks, passed, Fitting, start_by}
use Rattle.run.proofs.Whole.{open-whole}
use Rattle.run.proofs.BelowLaws.{any_none, list_at, none-at}
use Rattle.run.proofs.Parts.{on_site, between, on-site, zone-on, channel-on, SoundRun, parts}
use Rattle.run.proofs.SetBounds.{has-lt, targets-deps, targets-other}
use Rattle.run.specs.declared.SiteCall.{SiteCall}
use Rattle.run.specs.Opening.{no_channels, open_call, opened_run, opened_head, opening_of, stock_at}
use Rattle.run.specs.declared.SiteCall.TheVariants.{Receive, Send, Start, Gate}
use Rattle.rules.specs.declared.Direction.{Direction}
use Rattle.rules.specs.declared.Direction.TheVariants.{In, Out}
use Rattle.run.specs.declared.Opening.{Opening}
use Rattle.rules.proofs.SiteLaws.{site≡}

-- A store to a list is a change at one place.
set_on : {A : Type 0} (xs : List A) (a : ℕ) (g : A → A) (k : ℕ) (d : A) → a < length xs
    → get_or (set xs a (g (get_or xs a d))) k d ≡ on (eqb k a) g (get_or xs k d)
set_on xs a g k d h = go (same? k a)
  where
    go : Same k a → get_or (set xs a (g (get_or xs a d))) k d ≡ on (eqb k a) g (get_or xs k d)
    go (inl e) = rw (e.1, e.0) (get_or-set_same xs a (g (get_or xs a d)) d h)
    go (inr e) = rw e.1 (get_or-set_other xs a k (g (get_or xs a d)) d e.0)

-- Zone a changes by g, and each channel of the site by its change.
site-changed : (r : Run) (a : ℕ) (l : Channels) (word : ℕ) (g : Local → Local) (change : ℕ → ℕ → List Item → List Item)
    → length (locals r.head) ≡ 8 → count_of r.head ≤ 8 → a < count_of r.head
    → ((i j : ℕ) → on_site (count_of r.head) i j ≡ true → items_on l (channel_index i j) ≡ change i j (items_on r.channels (channel_index i j)))
    → ((i j : ℕ) → on_site (count_of r.head) i j ≡ false → change i j [] ≡ [])
    → site_of (changed r a (g (zone_at r.head a)) l word)
    ≡ record { edition = (site_of r).edition; zone = λ k. on (eqb k a) g ((site_of r).zone k); channel = λ i j. change i j ((site_of r).channel i j) }
site-changed r a l word g change w m h inner outer =
    site≡ _ _ refl (λ k. zone k (ltb k (count_of r.head)) refl) (λ i j. channel i j (on_site (count_of r.head) i j) refl)
  where
    zone : (k : ℕ) (p : Bool) → ltb k (count_of r.head) ≡ p
        → cond p (zone_at (put_back r.head a (g (zone_at r.head a)) (r.head.records + 1)) k) (opened k 0)
        ≡ on (eqb k a) g (cond p (zone_at r.head k) (opened k 0))
    zone k true e = set_on (locals r.head) a g k no_local (omega arith)
    zone k false e = let b = ltb-false k (count_of r.head) e in rw (ne_eqb k a (λ q. omega arith))

    channel : (i j : ℕ) (p : Bool) → on_site (count_of r.head) i j ≡ p
        → cond p (items_on l (channel_index i j)) [] ≡ change i j (cond p (items_on r.channels (channel_index i j)) [])
    channel i j true e = inner i j e
    channel i j false e = sym (outer i j e)

false_of : (p : Bool) → (p ≡ true → ⊥) → p ≡ false
false_of true h = absurd (h refl)
false_of false h = refl

-- A channel that the site does not have is neither that of a pair of its zones nor one to a target.
off-pair : (count a b i j : ℕ) → count ≤ 8 → Pair count a b → on_site count i j ≡ false → eqb i a && eqb j b ≡ false
off-pair count a b i j m p e = false_of (eqb i a && eqb j b) no-pair
  where
    no-pair : eqb i a && eqb j b ≡ true → ⊥
    no-pair t =
        let (x, y) = both_true i a j b t in
        true≢false (sym (rw (x, y) (on-site count a b m p.from p.to p.apart)) ∙ e)

off-targets : (count b set i j : ℕ) (z : Local) → count ≤ 8 → b < count → z.deps < 2 ^ count → on_site count i j ≡ false
    → eqb i b && has (targets b set z) j ≡ false
off-targets count b set i j z m h d e = false_of (eqb i b && has (targets b set z) j) no_target
  where
    no_target : eqb i b && has (targets b set z) j ≡ true → ⊥
    no_target t =
        let x = eqb-true i b (and_left (eqb i b) _ t) in
        let y = and_right (eqb i b) (has (targets b set z) j) t in
        let g = has-lt z.deps count j d (targets-deps b set z j y) in
        true≢false (sym (rw x (on-site count b j m h g (λ q. targets-other b set z j y (sym q)))) ∙ e)

filled : (x : Item) (xs : List Item) → [] ≡ x ∷ xs → ⊥
filled x xs e = let z : ◌≡◌ {A = Bool} true false = cc in true≢false z

on_same : {A : Type 0} (t : Bool) (v : A) → on t (λ x. x) v ≡ v
on_same true v = refl
on_same false v = refl

-- The channels from b have the free places that they had before an item left another.
free-kept : (n : ℕ) (l m : Channels) (b to : ℕ) → n ≤ 8 → ((j : ℕ) → j < 8 → len_of m (channel_index b j) ≡ len_of l (channel_index b j))
    → free_below n m b to ≡ free_below n l b to
free-kept zero l m b to h e = refl
free-kept (suc n) l m b to h e = rw (free-kept n l m b to (omega arith) e, e n (omega arith))

pub popped-free : (l : Channels) (a b to : ℕ) → a ≢ b → b < 8 → all_free l b to ≡ true → all_free (popped l (channel_index a b)) b to ≡ true
unfolding all_free
popped-free l a b to d h f =
    free-kept 8 l (popped l (channel_index a b)) b to (omega arith)
    (λ j hj. len-pop-other l (channel_index a b) (channel_index b j) (λ e. d (omega arith)))
    ∙ f

module _ (r : Run) (w : WholeRun r) (s : SoundRun r) where
  -- A hand-over from a to b.
  sent-site : (a b cars word : ℕ) → Pair (count_of r.head) a b → cars < 256 → len_of r.channels (channel_index a b) < places
      → site_of (changed r a (sent_under (edition_of r.head) cars (zone_at r.head a))
      (pushed r.channels (channel_index a b) (message_word (has_checkpoint (zone_at r.head a).checkpoint) cars)) word)
      ≡ send_s a b cars (site_of r)
  sent-site a b cars word p c free =
      let x = message_word (has_checkpoint (zone_at r.head a).checkpoint) cars in
      let ha : a < 8 = omega (arith, p.from, s.most) in
      let hb : b < 8 = omega (arith, p.to, s.most) in
      let item : item_of x ≡ message cars (has_checkpoint ((site_of r).zone a).checkpoint) =
      item-message (has_checkpoint (zone_at r.head a).checkpoint) cars c
      ∙ ap (λ (z : Local). message cars (has_checkpoint z.checkpoint)) (sym (zone-on r a p.from)) in
      site-changed r a (pushed r.channels (channel_index a b) x) word (sent_under (edition_of r.head) cars)
      (λ i j. on (eqb i a && eqb j b) (join (message cars (has_checkpoint ((site_of r).zone a).checkpoint))))
      w.zones s.most p.from
      (λ i j e.
      items-pushed r.channels a b w.channels ha hb x (lt-ltb _ 16 free) i j (between (count_of r.head) i j e).near
      ∙ ap (λ (x : Item). on (eqb i a && eqb j b) (join x) (items_on r.channels (channel_index i j))) item)
      (λ i j e. rw (off-pair (count_of r.head) a b i j s.most p e))

  -- Cars through the gate of a.
  gated-site : (d : Direction) (a cars word : ℕ) → a < count_of r.head
      → site_of (changed r a (gated d cars (zone_at r.head a)) r.channels word) ≡ gate_s d a cars (site_of r)
  gated-site d a cars word h = site-changed r a r.channels word (gated d cars) (λ i j xs. xs) w.zones s.most h (λ i j e. refl) (λ i j e. refl)

  -- Requests that b sends, over channels l: where there is no target, what they would carry does not matter.
  requests-items : (l : Channels) (b to set i j : ℕ) → Whole l → b < count_of r.head → all_free l b to ≡ true → j < 8
      → items_on (requested_all l b to (cond (eqb to 0) 0 set)) (channel_index i j)
      ≡ on (eqb i b && has to j) (join (request set)) (items_on l (channel_index i j))
  requests-items l b to set i j v h f hj =
      requested-items l b to (cond (eqb to 0) 0 set) v (omega (arith, s.most)) f i j hj ∙ go (eqb to 0) refl
    where
      go : (p : Bool) → eqb to 0 ≡ p
          → on (eqb i b && has to j) (join (request (cond p 0 set))) (items_on l (channel_index i j))
          ≡ on (eqb i b && has to j) (join (request set)) (items_on l (channel_index i j))
      go true e = rw (eqb-true to 0 e, has-nobody j, and-false (eqb i b))
      go false e = refl

  -- A start by a.
  started-site : (a word : ℕ) → a < count_of r.head → all_free r.channels a (start_by a r).to ≡ true
      → site_of (changed r a (start_by a r).local (requested_all r.channels a (start_by a r).to (start_by a r).carried) word)
      ≡ start_s a (site_of r)
  unfolding started_by
  started-site a word h f =
      let z = zone_at r.head a in
      let to = targets a nobody z in
      let d : z.deps < 2 ^ count_of r.head = subst (λ (z : Local). z.deps < 2 ^ count_of r.head) (zone-on r a h) (s.deps a h) in
      rw (zone-on r a h)
      (site-changed r a (requested_all r.channels a to (cond (eqb to 0) 0 (carried nobody z))) word started
      (λ i j. on (eqb i a && has to j) (join (request (carried nobody z))))
      w.zones s.most h
      (λ i j e. requests-items r.channels a to (carried nobody z) i j w.channels h f (between (count_of r.head) i j e).near)
      (λ i j e. rw (off-targets (count_of r.head) a nobody i j z s.most h d e)))

  -- A receipt by b from a: the first item leaves, b changes by g and sends requests.
  module _ (a b : ℕ) (p : Pair (count_of r.head) a b) (some : 0 < len_of r.channels (channel_index a b)) (word : ℕ) where
    popped-site : (g : Local → Local) (to set : ℕ) → all_free r.channels b to ≡ true
        → ((i j : ℕ) → on_site (count_of r.head) i j ≡ false → eqb i b && has to j ≡ false)
        → site_of (changed r b (g (zone_at r.head b))
        (requested_all (popped r.channels (channel_index a b)) b to (cond (eqb to 0) 0 set)) word)
        ≡ record {
          edition = (site_of r).edition;
          zone = λ k. on (eqb k b) g ((site_of r).zone k);
          channel = λ i j. on (eqb i b && has to j) (join (request set)) (on (eqb i a && eqb j b) tail ((site_of r).channel i j));
        }
    popped-site g to set f off =
        let l = popped r.channels (channel_index a b) in
        let ha : a < 8 = omega (arith, p.from, s.most) in
        let hb : b < 8 = omega (arith, p.to, s.most) in
        let few = s.lens a b (on-site (count_of r.head) a b s.most p.from p.to p.apart) in
        site-changed r b (requested_all l b to (cond (eqb to 0) 0 set)) word g
        (λ i j xs. on (eqb i b && has to j) (join (request set)) (on (eqb i a && eqb j b) tail xs))
        w.zones s.most p.to
        (λ i j e. let near = (between (count_of r.head) i j e).near in
        requests-items l b to set i j (pop-whole r.channels (channel_index a b) w.channels) p.to
        (popped-free r.channels a b to p.apart hb f) near
        ∙ ap (on (eqb i b && has to j) (join (request set))) (items-popped r.channels a b w.channels ha hb some few i j near))
        (λ i j e. rw (off i j e, off-pair (count_of r.head) a b i j s.most p e))

    -- Where there is no target, only the first item leaves.
    quiet-site : (g : Local → Local) → all_free r.channels b nobody ≡ true
        → site_of (changed r b (g (zone_at r.head b)) (requested_all (popped r.channels (channel_index a b)) b nobody nobody) word)
        ≡ record {
          edition = (site_of r).edition;
          zone = λ k. on (eqb k b) g ((site_of r).zone k);
          channel = λ i j. on (eqb i a && eqb j b) tail ((site_of r).channel i j);
        }
    quiet-site g f =
        popped-site g nobody nobody f (λ i j e. rw (has-nobody j, and-false (eqb i b)))
        ∙ site≡ _ _ refl (λ k. refl) (λ i j. rw (has-nobody j, and-false (eqb i b)))

    -- The site after b has taken an item, with what that makes of it.
    abbrev received_as : Requesting → Site
    received_as got =
        let l = requested_all (popped r.channels (channel_index a b)) b got.to got.carried in
        site_of (changed r b got.local l word)

    request-site : (set : ℕ) (q : Bool) → is_permanent (zone_at r.head b).checkpoint ≡ q
        → all_free r.channels b (requested_by b set (zone_at r.head b)).to ≡ true
        → received_as (requested_by b set (zone_at r.head b)) ≡ on (not q) (turn_s b set) (pop_s a b (site_of r))
    unfolding requested_by
    request-site set true e f =
        rw e (quiet-site (λ z. z) (rw e at f) ∙ site≡ _ _ refl (λ k. on_same (eqb k b) ((site_of r).zone k)) (λ i j. refl))
    request-site set false e f =
        let z = zone_at r.head b in
        let d : z.deps < 2 ^ count_of r.head = subst (λ (z : Local). z.deps < 2 ^ count_of r.head) (zone-on r b p.to) (s.deps b p.to) in
        rw (e, zone-on r b p.to)
        (popped-site requested (targets b set z) (carried set z) (rw e at f)
        (λ i j e. off-targets (count_of r.head) b set i j z s.most p.to d e))

    received-site : (x : Item) (rest : List Item) → all_free r.channels b (item_received (edition_of r.head) a b x (zone_at r.head b)).to ≡ true
        → received_as (item_received (edition_of r.head) a b x (zone_at r.head b)) ≡ take_s a b (x ∷ rest) (site_of r)
    received-site (message cars flag) rest f = quiet-site (received_under (edition_of r.head) a cars flag) f
    received-site (request set) rest f =
        request-site set (is_permanent ((site_of r).zone b).checkpoint)
        (ap (λ (z : Local). is_permanent z.checkpoint) (sym (zone-on r b p.to))) f

  -- Before an accepted start nobody has a permanent checkpoint.
  none-permanent : has_started r.head ≡ false → (k : ℕ) → is_permanent ((site_of r).zone k).checkpoint ≡ false
  unfolding has_started
  none-permanent e k = go (ltb k (count_of r.head)) refl
    where
      go : (p : Bool) → ltb k (count_of r.head) ≡ p → is_permanent (cond p (zone_at r.head k) (opened k 0)).checkpoint ≡ false
      go true h = any_none (count_of r.head) (λ i. is_permanent (zone_at r.head i).checkpoint) e k (ltb-true k (count_of r.head) h)
      go false h = refl

  -- The first item of a channel that is not empty.
  pub first-item : (a b : ℕ) → Pair (count_of r.head) a b → 0 < len_of r.channels (channel_index a b)
      → (site_of r).channel a b ≡ item_of (first_of r.channels (channel_index a b)) ∷ tail (items_on r.channels (channel_index a b))
  first-item a b p h =
      channel-on r a b (on-site (count_of r.head) a b s.most p.from p.to p.apart)
      ∙ items-first r.channels (channel_index a b) w.channels (omega (arith, p.from, p.to, s.most)) h

  granted-site : (c : SiteCall) → Typed c → Asks c r
      → (site_of (granted c r).run ≡ step_s (call_of c) (site_of r)) × May (call_of c) (site_of r)
  granted-site (Send from to cars) t (p, e, f) = (
    sent-site (index from) (index to) cars (record_of (Send from to cars)) p t f,
    subst (λ (z : Local). cars ≤ z.stock) (sym (zone-on r (index from) p.from)) e,
  )
  granted-site (Receive from to) t (p, e, f) =
      let a = index from in
      let b = index to in
      let x = item_of (first_of r.channels (channel_index a b)) in
      let rest = tail (items_on r.channels (channel_index a b)) in
      let q = first-item a b p e in (
        received-site a b p e (record_of (Receive from to)) x rest f ∙ ap (λ (xs : List Item). take_s a b xs (site_of r)) (sym q),
        λ n. filled x rest (sym n ∙ q),
      )
  granted-site (Start zone) t (p, e, f) = (started-site (index zone) (record_of (Start zone)) p f, none-permanent e)
  granted-site (Gate In zone cars) t (p, e) = (gated-site In (index zone) cars (record_of (Gate In zone cars)) p, omega arith)
  granted-site (Gate Out zone cars) t (p, e) =
      (gated-site Out (index zone) cars (record_of (Gate Out zone cars)) p, subst (λ (z : Local). cars ≤ z.stock) (sym (zone-on r (index zone) p)) e)

pub refine : (c : SiteCall) (r : Run) → WholeRun r → Typed c → is_accepted c r ≡ true
    → (site_of (answer c r).run ≡ step_s (call_of c) (site_of r)) × May (call_of c) (site_of r)
refine c r w t e =
    let p = passed c r e in
    subst (λ (x : Answer). (site_of x.run ≡ step_s (call_of c) (site_of r)) × May (call_of c) (site_of r)) (sym p.result)
    (granted-site r w (parts r p.sound) c t p.asks)

-- The run of an opening stands for the rules' site of that opening.
pub opened-site : (o : Opening) → Fitting o → site_of (opened_run o) ≡ open_s (opening_of o)
unfolding opened_run
opened-site o f = site≡ _ _ refl (λ k. zone k (ltb k o.terms.count) refl) (λ i j. channel i j (on_site o.terms.count i j))
  where
    zone : (k : ℕ) (p : Bool) → ltb k o.terms.count ≡ p
        → cond p (zone_at (opened_head o) k) (opened k 0) ≡ opened k (stock_at o k)
    zone k true e =
        let b = ltb-true k o.terms.count e in
        list_at 8 (λ i. opened i (stock_at o i)) no_local k (omega (arith, f.most))
    zone k false e =
        let b = ltb-false k o.terms.count e in
        let h = short-list o.terms.count o.stocks f.listed in
        ap (opened k) (sym (get_or-eq_default o.stocks 0 (omega arith)))

    channel : (i j : ℕ) (p : Bool) → cond p (items_on no_channels (channel_index i j)) [] ≡ []
    channel i j true = rw (none-at 64 (channel_index i j))
    channel i j false = refl

pub open-refines : (o : Opening) → (open_call o).refusal ≡ 0
    → (site_of (open_call o).run ≡ open_s (opening_of o)) × WholeRun (open_call o).run
open-refines o e =
    let p = is_open o e in
    (ap (λ (x : Answer). site_of x.run) p.result ∙ opened-site o p.fits, open-whole o)
