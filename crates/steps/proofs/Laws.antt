-- What the answers of a call on parts rest on: readiness gives bounds, and the effect of a call gives the call's answer.
use mathlib.Core.Path.{◌≡◌, refl, sym, ◌∙◌, ap, subst}
use mathlib.Core.Bool.{Bool, true, false}
use mathlib.Core.Logic.{◌≢◌, ◌⊎◌, inl, inr}
use mathlib.Core.List.{List, ◌++◌}
use Prim.Native.Nat.{ℕ, ◌+◌, ◌<◌, ◌≤◌}
use native.Mathlib.Omega.{arith}
use borrow.Author.Tests.{leb-true, ltb-true, lt-ltb, le-ltb, le-leb, lt-leb, eq-eqb, ne_eqb}
use lib.ListN.{set}
use lib.Pow.{pow_mono}
use Rattle.rules.specs.Questions.{Question, ask, refusal, index, Among}
use Rattle.rules.specs.Edition.{has_gates}
use Rattle.rules.specs.Zone.{has_checkpoint, sent_under, needed, through, gated}
use Rattle.rules.specs.declared.Direction.{Direction}
use Rattle.rules.specs.declared.Direction.TheVariants.{In, Out}
use Rattle.rules.specs.declared.Local.{Local}
use Rattle.rules.proofs.Sums.{sum-at}
use Rattle.rules.proofs.AskLaws.{AllYes, numbers, lacks, not-among, yes_both, all_yes, ask-yes, ask-refused, ask-behind, ask-cases, ask-both}
use Rattle.channel.specs.Words.{item_of, cars_in, set_in, message_word}
use Rattle.channel.specs.Channels.{channels_as, is_channel, channel_index, len_of, pushed, popped, first_of, all_free, requested_all}
use Rattle.channel.specs.declared.Channels.{Channels}
use Rattle.channel.proofs.Search.{free-nobody}
use Rattle.channel.proofs.View.{requested-nobody, requested-other}
use Rattle.local.specs.Requesting.{started_by}
use Rattle.local.specs.declared.Requesting.{Requesting}
use Rattle.run.specs.Calls.{actor, is_named, item_received, edition_questions, own_gate_questions, zone_after, channels_after, remaining_on, refused, granted, answer, first_received, record_of, is_pair}
use Rattle.run.specs.State.{run_as, terms_of, parts_sound, count_of, zone_at, put_back, has_started, stocks, cars_on_channels}
use Rattle.run.specs.Answer.{Answer}
use Rattle.run.specs.declared.Head.{Head}
use Rattle.run.specs.declared.Run.{Run}
use Rattle.run.specs.declared.SiteCall.{SiteCall}
use Rattle.run.specs.declared.SiteCall.TheVariants.{Send, Receive, Start, Gate}
use Rattle.run.specs.declared.Terms.{Terms}
use Rattle.run.proofs.Facts.{channel-at, channel-index-lt, sound-high, sound-events, sound-first, sound-room, sound-total}
use Rattle.run.proofs.Outcome.{pair, zone-sited, named-wider}
use Rattle.steps.specs.InnerEffect.{Outcome, Effected, unchanged, outcome_of, own_effect, further_questions, effect}
use Rattle.steps.specs.InnerReady.{Stands, Ready, Weighed, Fits}

-- What readiness gives.
module _ (terms : Terms) (records at : ℕ) (z : Local) (l : Channels) (r : Ready terms records at z l) where
  same_count : count_of r.head ≡ terms.count
  same_count = ap (λ (t : Terms). t.count) r.stands.opened

  pub ready-high : terms.count ≤ 8
  ready-high = subst (λ (n : ℕ). n ≤ 8) same_count (sound-high r.head l r.stands.sound)

  ready-events : at < terms.count → z.events ≤ records
  ready-events i =
      subst (λ (y : Local). y.events ≤ records) r.stands.acting
      (subst (λ (n : ℕ). (zone_at r.head at).events ≤ n) r.stands.number (sound-events r.head l r.stands.sound at (subst (λ (n : ℕ). at < n) (sym same_count) i)))

  -- What stands first on a channel of the site: its set names zones of a site, and the zone has room for its cars.
  ready-first : (k : ℕ) → at < terms.count → k < 64 → is_channel terms.count k ≡ true → 0 < len_of l k
      → (z.stock + cars_in (item_of (first_of l k)) ≤ 65535) × (set_in (item_of (first_of l k)) < 256)
  ready-first k i k64 e n =
      let c : is_channel (count_of r.head) k ≡ true = ap (λ (m : ℕ). is_channel m k) same_count ∙ e in
      let f = sound-first r.head l r.stands.sound k k64 c n in
      let p = pow_mono {i = count_of r.head} {j = 8} (sound-high r.head l r.stands.sound) in
      let room = sound-room r.head l r.stands.sound at k (subst (λ (n : ℕ). at < n) (sym same_count) i) k64 c n in
      (subst (λ (y : Local). y.stock + cars_in (item_of (first_of l k)) ≤ 65535) r.stands.acting room, omega arith)

pub ready-fits : (terms : Terms) (records : ℕ) (c : SiteCall) (z : Local) (l : Channels) → Ready terms records (actor c) z l
    → is_named terms.count c ≡ true → records < 1000 → Fits c z l
ready-fits terms records (Send from to cars) z l r e room =
    let most = ready-high terms records (index from) z l r in
    let p = pair terms.count from to e in
    let m = ready-events terms records (index from) z l r p.from in
    (named-wider terms.count 8 (Send from to cars) most e, omega arith)
ready-fits terms records (Receive from to) z l r e room =
    let most = ready-high terms records (index to) z l r in
    let p = pair terms.count from to e in
    let m = ready-events terms records (index to) z l r p.to in (
      named-wider terms.count 8 (Receive from to) most e,
      omega arith,
      ready-first terms records (index to) z l r (channel_index (index from) (index to)) p.to
          (channel-index-lt terms.count (index from) (index to) most p.from p.to)
          (channel-at terms.count (index from) (index to) most p.from p.to p.apart),
    )
ready-fits terms records (Start zone) z l r e room =
    named-wider terms.count 8 (Start zone) (ready-high terms records (index zone) z l r) e
ready-fits terms records (Gate d zone cars) z l r e room =
    let m = ready-events terms records (index zone) z l r (zone-sited terms.count zone e).1 in
    omega arith

-- The stocks and the cars on lines are at most 65,535, and a zone of the site has no more.
module _ (terms : Terms) (records at : ℕ) (z : Local) (held : ℕ) (w : Weighed terms records at z held) where
  pub weighed-few : held ≤ 65535
  weighed-few = subst (λ (n : ℕ). n ≤ 65535) (sym w.sum) (sound-total w.ready.head w.channels w.ready.stands.sound)

  pub weighed-stock : at < terms.count → z.stock ≤ held
  unfolding stocks
  weighed-stock h =
      let c = subst (λ (n : ℕ). at < n) (sym (same_count terms records at z w.channels w.ready)) h in
      let m = subst (λ (y : Local). y.stock ≤ stocks w.ready.head) w.ready.stands.acting
      (sum-at (count_of w.ready.head) (λ i. (zone_at w.ready.head i).stock) at c) in
      let q = w.sum in
      omega arith

-- The effect of a hand-over, question by question.
module _ (terms : Terms) (from to cars : ℕ) (z : Local) (l : Channels) (started : Bool) (held : ℕ) where
  pub send-7 : (o : Outcome) → o ≡ unchanged 7 z → z.stock < cars
      → record { effect = o; channels = l } ≡ own_effect (Send from to cars) terms z l started held
  unfolding own_effect
  send-7 o g h = rw (g, lt-leb _ _ h)

  pub send-8 : (k : ℕ) (o : Outcome) → k ≡ channel_index (index from) (index to) → o ≡ unchanged 8 z → cars ≤ z.stock → 16 ≤ len_of l k
      → record { effect = o; channels = l } ≡ own_effect (Send from to cars) terms z l started held
  unfolding own_effect
  send-8 k o e g covers h = rw (g, le-leb _ _ covers, le-ltb _ _ (subst (λ (n : ℕ). 16 ≤ len_of l n) e h))

  -- Accepted: the message, with the flag of the sender's checkpoint, is pushed at the channel's index.
  pub send-0 : (k word : ℕ) (flag : Bool) (zone : Local) (after : Channels) → k ≡ channel_index (index from) (index to) → cars ≤ z.stock
      → len_of l k < 16 → flag ≡ has_checkpoint z.checkpoint → word ≡ message_word flag cars → after ≡ pushed l k word → zone ≡ sent_under terms.edition cars z
      → record { effect = record { refusal = 0; remaining = 0; zone = zone }; channels = after } ≡ own_effect (Send from to cars) terms z l started held
  unfolding own_effect
  send-0 k word flag zone after e covers h f g p q = rw (q, p, g, f, e, le-leb _ _ covers, lt-ltb _ _ (subst (λ (n : ℕ). len_of l n < 16) e h))

-- The effect of a receipt, by the channel's index k.
module _ (terms : Terms) (from to : ℕ) (z : Local) (l : Channels) (started : Bool) (held : ℕ) (k : ℕ) (e : k ≡ channel_index (index from) (index to)) where
  pub receive-9 : (o : Outcome) → o ≡ unchanged 9 z → len_of l k ≡ 0
      → record { effect = o; channels = l } ≡ own_effect (Receive from to) terms z l started held
  unfolding own_effect
  receive-9 o g h = rw (g, eq-eqb _ _ (subst (λ (n : ℕ). len_of l n ≡ 0) e h))

  -- The item that stands first makes `got` of the zone.
  module _ (holds : len_of l k ≢ 0) (got : Requesting) (takes : got ≡ item_received terms.edition (index from) (index to) (item_of (first_of l k)) z) where
    targets-free : (b : Bool) → all_free l (index to) got.to ≡ b → all_free l (index to) (first_received terms (index from) (index to) z l).to ≡ b
    targets-free b q =
        subst (λ (n : ℕ). all_free l (index to) (item_received terms.edition (index from) (index to) (item_of (first_of l n)) z).to ≡ b) e
        (subst (λ (g : Requesting). all_free l (index to) g.to ≡ b) takes q)

    here : len_of l (channel_index (index from) (index to)) ≢ 0
    here = subst (λ (n : ℕ). len_of l n ≢ 0) e holds

    pub receive-10 : (o : Outcome) → o ≡ unchanged 10 z → all_free l (index to) got.to ≡ false
        → record { effect = o; channels = l } ≡ own_effect (Receive from to) terms z l started held
    unfolding own_effect
    receive-10 o g h = rw (g, ne_eqb _ _ here, targets-free false h)

    -- Accepted: the item leaves its channel, and the requests join theirs, which are the receiver's: what remains is as it was before them.
    pub receive-0 : (popping after : Channels) (remaining : ℕ) → is_pair 8 from to ≡ true → all_free l (index to) got.to ≡ true
        → popping ≡ popped l k → remaining ≡ len_of popping k → after ≡ requested_all popping (index to) got.to got.carried
        → record { effect = record { refusal = 0; remaining = remaining; zone = got.local }; channels = after }
        ≡ own_effect (Receive from to) terms z l started held
    unfolding own_effect
    receive-0 popping after remaining named h p m q =
        let two = pair 8 from to named in
        let alone : len_of after (channel_index (index from) (index to)) ≡ remaining =
        ap (λ (c : Channels). len_of c (channel_index (index from) (index to))) q
        ∙ requested-other popping (index to) got.to got.carried (index from) (index to) two.apart two.to
        ∙ ap (len_of popping) (sym e) ∙ sym m in
        rw (← alone, q, p, takes, e, ne_eqb _ _ here, targets-free true h)

  -- The same where no request is sent: no channel is asked, and none but the item's own changes.
  pub receive-quiet : len_of l k ≢ 0 → (got : Requesting) → got ≡ item_received terms.edition (index from) (index to) (item_of (first_of l k)) z → got.to ≡ 0
      → (popping : Channels) (remaining : ℕ) → is_pair 8 from to ≡ true → popping ≡ popped l k → remaining ≡ len_of popping k
      → record { effect = record { refusal = 0; remaining = remaining; zone = got.local }; channels = popping }
      ≡ own_effect (Receive from to) terms z l started held
  receive-quiet holds got takes h popping remaining named p m =
      receive-0 holds got takes popping popping remaining named (rw (h) (free-nobody l (index to))) p m (rw (h, requested-nobody) refl)

-- The effect of a start.
module _ (terms : Terms) (zone : ℕ) (z : Local) (l : Channels) (started : Bool) (held : ℕ) where
  pub start-11 : (o : Outcome) → o ≡ unchanged 11 z → started ≡ true
      → record { effect = o; channels = l } ≡ own_effect (Start zone) terms z l started held
  unfolding own_effect
  start-11 o g h = rw (g, h)

  module _ (first : started ≡ false) (got : Requesting) (starts : got ≡ started_by (index zone) z) where
    pub start-10 : (o : Outcome) → o ≡ unchanged 10 z → all_free l (index zone) got.to ≡ false → record { effect = o; channels = l } ≡ own_effect (Start zone) terms z l started held
    unfolding own_effect
    start-10 o g h =
        rw (g, first, subst (λ (g : Requesting). all_free l (index zone) g.to ≡ false) starts h)

    -- Accepted: the requests join their channels.
    pub start-0 : (after : Channels) → all_free l (index zone) got.to ≡ true → after ≡ requested_all l (index zone) got.to got.carried
        → record { effect = record { refusal = 0; remaining = 0; zone = got.local }; channels = after } ≡ own_effect (Start zone) terms z l started held
    unfolding own_effect
    start-0 after h q =
        rw (q, starts, first, subst (λ (g : Requesting). all_free l (index zone) g.to ≡ true) starts h)

-- Behind question 1, a gate call asks 15.
pub gate-15 : (d : Direction) (zone cars : ℕ) (terms : Terms) (records : ℕ) (z : Local) (l : Channels) (started : Bool) (held : ℕ) (o : Outcome)
    → o ≡ unchanged 15 z → has_gates terms.edition ≡ false
    → record { effect = o; channels = l } ≡ effect (Gate d zone cars) terms records z l started held
unfolding effect
gate-15 d zone cars terms records z l started held o g e = rw (g, e)

-- Behind that, 5 and 6 are asked of every call alike.
module _ (c : SiteCall) (terms : Terms) (records : ℕ) (z : Local) (l : Channels) (started : Bool) (held : ℕ)
    (offered : AllYes (edition_questions c terms.edition)) where
  behind-15 : outcome_of (further_questions c terms records z l started held) c terms z l ≡ effect c terms records z l started held
  unfolding effect
  behind-15 = sym (ask-behind (edition_questions c terms.edition) _ _ _ offered)

  pub effect-5 : (o : Outcome) → o ≡ unchanged 5 z → is_named terms.count c ≡ false
      → record { effect = o; channels = l } ≡ effect c terms records z l started held
  effect-5 o g e = refused-5 ∙ behind-15
    where
      refused-5 : record { effect = o; channels = l } ≡ outcome_of (further_questions c terms records z l started held) c terms z l
      refused-5 = rw (g, e)

  module _ (named : is_named terms.count c ≡ true) where
    pub effect-6 : (o : Outcome) → o ≡ unchanged 6 z → 1000 ≤ records
        → record { effect = o; channels = l } ≡ effect c terms records z l started held
    effect-6 o g h = refused-6 ∙ behind-15
      where
        refused-6 : record { effect = o; channels = l } ≡ outcome_of (further_questions c terms records z l started held) c terms z l
        refused-6 = rw (g, named, le-ltb _ _ h)

    pub behind-6 : records < 1000 → own_effect c terms z l started held ≡ effect c terms records z l started held
    unfolding own_effect
    behind-6 h = roomy ∙ behind-15
      where
        roomy : own_effect c terms z l started held ≡ outcome_of (further_questions c terms records z l started held) c terms z l
        roomy = rw (named, lt-ltb _ _ h)

-- What 15, which gates alone ask, 5 and 6 leave of a call: what it takes fits, and its own questions decide, whatever the channels are.
pub record Behind (c : SiteCall) (terms : Terms) (records : ℕ) (z : Local) (l : Channels) : Type 0 where
  pub fits : Fits c z l
  pub own : (m : Channels) (started : Bool) (held : ℕ) → own_effect c terms z m started held ≡ effect c terms records z m started held

pub behind-both : (c : SiteCall) (terms : Terms) (records : ℕ) (z : Local) (l : Channels) → Ready terms records (actor c) z l
    → AllYes (edition_questions c terms.edition) → is_named terms.count c ≡ true → records < 1000 → Behind c terms records z l
behind-both c terms records z l ready offered named room = record {
  fits = ready-fits terms records c z l ready named room;
  own = λ m started held. behind-6 c terms records z m started held offered named room;
}

-- A gate call behind 6: its last question, and what is accepted.
module _ (terms : Terms) (d : Direction) (zone cars : ℕ) (z : Local) (l : Channels) (started : Bool) (held last : ℕ)
    (asks : last ≡ refusal (own_gate_questions d cars z.stock held)) where
  pub gate-refused : (o : Outcome) → o ≡ unchanged last z → last ≢ 0
      → record { effect = o; channels = l } ≡ own_effect (Gate d zone cars) terms z l started held
  unfolding own_effect
  gate-refused o g h =
      ap (λ (x : Outcome). record { effect = x; channels = l }) (g ∙ ap (λ (n : ℕ). unchanged n z) asks)
      ∙ sym (ask-refused (own_gate_questions d cars z.stock held) _ _ (λ e. h (asks ∙ e)))

  gate-yes : last ≡ 0 → AllYes (own_gate_questions d cars z.stock held)
  gate-yes e = all_yes (own_gate_questions d cars z.stock held) (nonzero d) (sym asks ∙ e)
    where
      nonzero : (d : Direction) → lacks 0 (numbers (own_gate_questions d cars z.stock held)) ≡ true
      nonzero In = refl
      nonzero Out = refl

  pub gate-0 : (after : Local) → last ≡ 0 → after ≡ gated d cars z
      → record { effect = record { refusal = 0; remaining = 0; zone = after }; channels = l } ≡ own_effect (Gate d zone cars) terms z l started held
  unfolding own_effect
  gate-0 after e g =
      ap (λ (x : Local). record { effect = record { refusal = 0; remaining = 0; zone = x }; channels = l }) g
      ∙ sym (ask-yes (own_gate_questions d cars z.stock held) _ _ (gate-yes e))

  -- The stock stays within 16 bits.
  pub gate-fits : last ≡ 0 → z.stock ≤ held → held ≤ 65535 → (needed d cars ≤ z.stock) × (through d cars z.stock ≤ 65535)
  gate-fits e h k = go d (gate-yes e)
    where
      go : (d : Direction) → AllYes (own_gate_questions d cars z.stock held) → (needed d cars ≤ z.stock) × (through d cars z.stock ≤ 65535)
      go In y = let m = leb-true (held + cars) 65535 y.0 in (omega arith, omega arith)
      go Out y = (leb-true cars z.stock y.0, omega arith)

-- 0 is no number of a question.
further-nonzero : (c : SiteCall) (terms : Terms) (records : ℕ) (z : Local) (l : Channels) (started : Bool) (held : ℕ)
    → lacks 0 (numbers (edition_questions c terms.edition ++ further_questions c terms records z l started held)) ≡ true
further-nonzero (Send from to cars) terms records z l started held = refl
further-nonzero (Receive from to) terms records z l started held = refl
further-nonzero (Start zone) terms records z l started held = refl
further-nonzero (Gate In zone cars) terms records z l started held = refl
further-nonzero (Gate Out zone cars) terms records z l started held = refl

-- The effect of a call on the parts of a run is the call's answer on the run.
module _ (h : Head) (terms : Terms) (records : ℕ) (c : SiteCall) (z : Local) (l : Channels) (journal : List ℕ) (s : Stands h terms records (actor c) z l)
    (held : ℕ) (sum : held ≡ stocks h + cars_on_channels (count_of h) l) where
  abbrev run : Run
  run = run_as h l journal

  abbrev further : List Question
  further = edition_questions c terms.edition ++ further_questions c terms records z l (has_started h) held

  nonzero : lacks 0 (numbers further) ≡ true
  nonzero = further-nonzero c terms records z l (has_started h) held

  -- Behind 1 these questions decide.
  rest : answer c run ≡ ask further (refused run) (granted c run)
  unfolding answer
  rest = rw (← s.opened, ← s.number, ← s.acting, s.sound, sum)

  abbrev granting : Effected
  granting = record {
    effect = record { refusal = 0; remaining = remaining_on c (channels_after c terms z l); zone = zone_after c terms z l };
    channels = channels_after c terms z l;
  }

  abbrev denied : ℕ → Effected
  denied n = record { effect = unchanged n z; channels = l }

  -- The effect and the answer are accepted together, or refused with the same number.
  abbrev Together : Type 0
  Together = ((effect c terms records z l (has_started h) held ≡ granting) × (answer c run ≡ granted c run))
      ⊎ ((n : ℕ) × (n ≢ 0) × (effect c terms records z l (has_started h) held ≡ denied n) × (answer c run ≡ refused run n))

  together : Together
  unfolding effect
  together = go (ask-both further denied granting (refused run) (granted c run))
    where
      go : ((ask further denied granting ≡ granting) × (ask further (refused run) (granted c run) ≡ granted c run))
          ⊎ ((n : ℕ) × Among n (numbers further) × (ask further denied granting ≡ denied n) × (ask further (refused run) (granted c run) ≡ refused run n))
          → Together
      go (inl (p, q)) = inl (p, rest ∙ q)
      go (inr (n, m, p, q)) = inr (n, not-among n 0 (numbers further) m nonzero, p, rest ∙ q)

  module _ (made : Outcome) (items lens : List ℕ) (e : record { effect = made; channels = channels_as items lens } ≡ effect c terms records z l (has_started h) held) where
    pub effect-refused : made.refusal ≢ 0 → record { refusal = made.refusal; remaining = 0; run = run_as h (channels_as items lens) journal } ≡ answer c run
    effect-refused d = go together
      where
        go : Together → record { refusal = made.refusal; remaining = 0; run = run_as h (channels_as items lens) journal } ≡ answer c run
        go (inl (p, q)) = absurd (d (ap (λ (x : Effected). x.effect.refusal) (e ∙ p)))
        go (inr (n, k, p, q)) = ap (λ (x : Effected). record { refusal = x.effect.refusal; remaining = 0; run = run_as h x.channels journal }) (e ∙ p) ∙ sym q

    -- An accepted call names its zones rightly, and there is room for its record.
    pub effect-asked : made.refusal ≡ 0 → (is_named terms.count c ≡ true) × (records < 1000)
    unfolding effect
    effect-asked d = go (ask-cases further denied granting)
      where
        go : (AllYes further × (ask further denied granting ≡ granting)) ⊎ ((n : ℕ) × Among n (numbers further) × (ask further denied granting ≡ denied n))
            → (is_named terms.count c ≡ true) × (records < 1000)
        go (inl (y, p)) = let v = (yes_both (edition_questions c terms.edition) _ y).1 in (v.0, ltb-true _ _ v.1.0)
        go (inr (n, m, p)) =
            absurd (not-among n 0 (numbers further) m nonzero (sym (ap (λ (x : Effected). x.effect.refusal) (e ∙ p)) ∙ d))

    -- The head after an accepted call, and its run with the call's record.
    abbrev after : Head
    after = put_back h (actor c) made.zone (records + 1)

    pub effect-accepted : made.refusal ≡ 0
        → record { refusal = 0; remaining = made.remaining; run = run_as after (channels_as items lens) (set journal records (record_of c)) } ≡ answer c run
    effect-accepted d = go together
      where
        go : Together → record { refusal = 0; remaining = made.remaining; run = run_as after (channels_as items lens) (set journal records (record_of c)) } ≡ answer c run
        go (inl (p, q)) =
            ap (λ (x : Effected). record { refusal = 0; remaining = x.effect.remaining; run = run_as (put_back h (actor c) x.effect.zone (records + 1)) x.channels (set journal records (record_of c)) }) (e ∙ p)
            ∙ rw (← s.opened, ← s.acting, ← s.number) (sym q)
        go (inr (n, k, p, q)) = absurd (k (sym (ap (λ (x : Effected). x.effect.refusal) (e ∙ p)) ∙ d))

-- The parts of a head that go into a call on the zone that acts, which stands at index k.
pub stood : (h : Head) (terms : Terms) (c : SiteCall) (z : Local) (l : Channels) (k : ℕ) → terms_of h ≡ terms → k ≡ actor c → z ≡ zone_at h k
    → parts_sound h l ≡ true → Stands h terms h.records (actor c) z l
stood h terms c z l k t e q s = record { opened = t; number = refl; acting = ap (zone_at h) (sym e) ∙ sym q; sound = s }

-- The answer on the run, once the zone that acted is put back at index k and the record is a word.
pub put : (h after : Head) (c : SiteCall) (z : Local) (k word remaining : ℕ) (items lens journal : List ℕ) (x : Answer) → k ≡ actor c → word ≡ record_of c
    → after ≡ put_back h k z (h.records + 1)
    → record { refusal = 0; remaining = remaining; run = run_as (put_back h (actor c) z (h.records + 1)) (channels_as items lens) (set journal h.records (record_of c)) } ≡ x
    → record { refusal = 0; remaining = remaining; run = run_as after (channels_as items lens) (set journal h.records word) } ≡ x
put h after c z k word remaining items lens journal x e w q s = rw (q, e, w) s

-- What holds of a call holds of the same call as an arm of a match has it.
module _ (terms : Terms) (records : ℕ) (z : Local) (l : Channels) (c d : SiteCall) (e : c ≡ d) where
  pub ready-as : (h : Head) → Stands h terms records (actor c) z l → Ready terms records (actor d) z l
  ready-as h s = record { head = h; stands = subst (λ (d : SiteCall). Stands h terms records (actor d) z l) e s }

  pub weighed-as : (h : Head) (held : ℕ) → Stands h terms records (actor c) z l → held ≡ stocks h + cars_on_channels (count_of h) l
      → Weighed terms records (actor d) z held
  unfolding ready-as
  weighed-as h held s q = record { channels = l; ready = ready-as h s; sum = q }

  pub effect-as : (started : Bool) (held : ℕ) (x : Effected) → x ≡ effect d terms records z l started held
      → x ≡ effect c terms records z l started held
  effect-as started held x q = q ∙ ap (λ (d : SiteCall). effect d terms records z l started held) (sym e)
