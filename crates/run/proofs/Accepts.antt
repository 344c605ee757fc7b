-- Calls that a sound run accepts: no question is answered no without a cause that the site shows.
use mathlib.Core.Path.{◌≡◌, refl, sym, ◌∙◌, ap, subst}
use mathlib.Core.Bool.{Bool, true, false, ◌||◌, not, true≢false}
use mathlib.Core.Logic.{◌≢◌}
use mathlib.Core.List.{List, [], ◌∷◌}
use Prim.Native.Nat.{ℕ, zero, suc, ◌^◌, ◌≤◌, ◌<◌}
use native.Mathlib.Omega.{arith}
use lib.Dec.{eqb}
use lib.ListN.{length}
use borrow.Author.Tests.{lt-ltb, le-leb, ne_eqb}
use Rattle.rules.specs.Limits.{most_records, places}
use Rattle.rules.specs.Questions.{index, is_on}
use Rattle.rules.specs.Sets.{has, nobody}
use Rattle.rules.specs.Zone.{is_permanent, targets}
use Rattle.rules.specs.Site.{Item, message, request}
use Rattle.rules.specs.declared.Local.{Local}
use Rattle.rules.proofs.SetLaws.{has-nobody}
use Rattle.local.specs.Requesting.{requested_by, started_by}
use Rattle.channel.specs.Words.{item_of}
use Rattle.channel.specs.Channels.{channel_index, len_of, is_free, first_of, free_below, all_free}
use Rattle.channel.proofs.View.{items-length}
use Rattle.run.specs.State.{zone_at, is_sound, has_started, edition_of, count_of}
use Rattle.run.specs.Calls.{refused, is_pair, item_received, granted, questions}
use Rattle.run.specs.Model.{site_of}
use Rattle.run.specs.Lists.{is_accepted}
use Rattle.run.specs.Claims.{WholeRun}
use Rattle.run.specs.declared.Run.{Run}
use Rattle.run.specs.Answer.{Answer}
use Rattle.run.proofs.Outcome.{answer-is, Pair, pair, zone-sited}
use Rattle.run.proofs.BelowLaws.{any-of-none}
use Rattle.run.proofs.Parts.{on-site, zone-on, channel-on, SoundRun, parts}
use Rattle.run.proofs.SetBounds.{has-lt, targets-deps, targets-other}
use Rattle.run.specs.declared.SiteCall.{SiteCall}
use Rattle.run.specs.declared.SiteCall.TheVariants.{Receive, Send, Start}
use Rattle.rules.proofs.AskLaws.{AllYes, ask-yes}

accepted-if : (c : SiteCall) (r : Run) → AllYes (questions c r) → is_accepted c r ≡ true
accepted-if c r h = ap (λ (x : Answer). eqb x.refusal 0) (answer-is c r ∙ ask-yes (questions c r) (refused r) (granted c r) h)

no_items : (xs : List Item) → length xs ≡ 0 → xs ≡ []
no_items [] e = refl
no_items (x ∷ xs) e = absurd (omega arith)

not-of : {b : Bool} → b ≡ false → not b ≡ true
not-of e = rw e

module _ (r : Run) (w : WholeRun r) (s : SoundRun r) where
  -- The length of a channel of the site.
  pub len_is : (a b : ℕ) → Pair (count_of r.head) a b → length ((site_of r).channel a b) ≡ len_of r.channels (channel_index a b)
  len_is a b p =
      let o = on-site (count_of r.head) a b s.most p.from p.to p.apart in
      ap length (channel-on r a b o)
      ∙ items-length r.channels (channel_index a b) w.channels (omega (arith, p.from, p.to, s.most)) (s.lens a b o)

  -- A set of zones of the site, other than b, to each of which the channel has a free place.
  module _ (b to : ℕ) (h : b < count_of r.head) (d : (j : ℕ) → has to j ≡ true → (j < count_of r.head) × (j ≢ b))
      (room : (j : ℕ) → length ((site_of r).channel b j) < places) where
    one_free : (j : ℕ) (t : Bool) → has to j ≡ t → not t || is_free r.channels (channel_index b j) ≡ true
    one_free j true e =
        let (m, n) = d j e in
        let q = len_is b j (record { from = h; to = m; apart = λ x. n (sym x) }) in
        lt-ltb (len_of r.channels (channel_index b j)) places (omega (arith, room j))
    one_free j false e = refl

    free-to : (n : ℕ) → free_below n r.channels b to ≡ true
    free-to zero = refl
    free-to (suc n) = rw (free-to n) (one_free n (has to n) refl)

    all-free : all_free r.channels b to ≡ true
    unfolding all_free
    all-free = free-to 8

  targets-sited : (b set : ℕ) (z : Local) → z.deps < 2 ^ count_of r.head → (j : ℕ) → has (targets b set z) j ≡ true → (j < count_of r.head) × (j ≢ b)
  targets-sited b set z e j g = (has-lt z.deps (count_of r.head) j e (targets-deps b set z j g), targets-other b set z j g)

  nobody-sited : (b j : ℕ) → has nobody j ≡ true → (j < count_of r.head) × (j ≢ b)
  nobody-sited b j g = absurd (true≢false (sym g ∙ has-nobody j))

  received-sited : (edition a b : ℕ) (x : Item) (z : Local) → z.deps < 2 ^ count_of r.head → (j : ℕ) → has (item_received edition a b x z).to j ≡ true
      → (j < count_of r.head) × (j ≢ b)
  unfolding requested_by
  received-sited edition a b (message cars flag) z e j g = nobody-sited b j g
  received-sited edition a b (request set) z e j g = go (is_permanent z.checkpoint) refl
    where
      go : (p : Bool) → is_permanent z.checkpoint ≡ p → (j < count_of r.head) × (j ≢ b)
      go true q = nobody-sited b j (rw q at g)
      go false q = targets-sited b set z e j (rw q at g)

  deps-at : (k : ℕ) → k < count_of r.head → (zone_at r.head k).deps < 2 ^ count_of r.head
  deps-at k h = subst (λ (z : Local). z.deps < 2 ^ count_of r.head) (zone-on r k h) (s.deps k h)

-- A hand-over between zones of the site, below 1,000 records, with stock that covers it and a free place.
pub send-accepted : (r : Run) (from to cars : ℕ) → WholeRun r → is_sound r ≡ true → is_pair (count_of r.head) from to ≡ true
    → r.head.records < most_records → cars ≤ ((site_of r).zone (index from)).stock → length ((site_of r).channel (index from) (index to)) < places
    → is_accepted (Send from to cars) r ≡ true
send-accepted r from to cars w e p h c f =
    let s = parts r e in
    let q = pair (count_of r.head) from to p in
    let l = len_is r w s (index from) (index to) q in
    let v = subst (λ (z : Local). cars ≤ z.stock) (zone-on r (index from) q.from) c in
    accepted-if (Send from to cars) r
    (e, (p, (lt-ltb _ _ h, (le-leb _ _ v, (lt-ltb (len_of r.channels (channel_index (index from) (index to))) places (omega arith), tt)))))

-- A receipt from a channel that is not empty, where no channel from the receiver is full.
pub receive-accepted : (r : Run) (from to : ℕ) → WholeRun r → is_sound r ≡ true → is_pair (count_of r.head) from to ≡ true
    → r.head.records < most_records → ((site_of r).channel (index from) (index to) ≡ [] → ⊥)
    → ((j : ℕ) → length ((site_of r).channel (index to) j) < places) → is_accepted (Receive from to) r ≡ true
receive-accepted r from to w e p h n f =
    let s = parts r e in
    let q = pair (count_of r.head) from to p in
    let a = index from in
    let b = index to in
    let l = len_is r w s a b q in
    let x = item_of (first_of r.channels (channel_index a b)) in
    let z = zone_at r.head b in
    accepted-if (Receive from to) r (
      e,
      (
        p,
        (
          lt-ltb _ _ h,
          (
            not-of (ne_eqb (len_of r.channels (channel_index a b)) 0 (λ g. n (no_items _ (l ∙ g)))),
            (all-free r w s b (item_received (edition_of r.head) a b x z).to q.to (received-sited r w s (edition_of r.head) a b x z (deps-at r w s b q.to)) f, tt),
          ),
        ),
      ),
    )

-- A start while nobody has a permanent checkpoint, where no channel from the starter is full.
pub start-accepted : (r : Run) (zone : ℕ) → WholeRun r → is_sound r ≡ true → is_on (count_of r.head) zone ≡ true → r.head.records < most_records
    → ((k : ℕ) → is_permanent ((site_of r).zone k).checkpoint ≡ false) → ((j : ℕ) → length ((site_of r).channel (index zone) j) < places)
    → is_accepted (Start zone) r ≡ true
unfolding has_started started_by
start-accepted r zone w e p h n f =
    let s = parts r e in
    let a = index zone in
    let b = (zone-sited (count_of r.head) zone p).1 in
    let z = zone_at r.head a in
    accepted-if (Start zone) r (
      e,
      (
        p,
        (
          lt-ltb _ _ h,
          (
            not-of (any-of-none (count_of r.head) (λ i. is_permanent (zone_at r.head i).checkpoint)
                (λ i c. subst (λ (z : Local). is_permanent z.checkpoint ≡ false) (zone-on r i c) (n i))),
            (all-free r w s a (targets a nobody z) b (targets-sited r w s a nobody z (deps-at r w s a b)) f, tt),
          ),
        ),
      ),
    )
