-- What an answer of a call says: a refusal hands back the run, and an acceptance means that every question was answered yes.
use mathlib.Core.Path.{◌≡◌, refl, sym, ◌∙◌, ap, subst}
use mathlib.Core.Bool.{true, false, ◌&&◌, not, true≢false}
use mathlib.Core.Logic.{◌≢◌, ◌⊎◌, inl, inr}
use Prim.Native.Nat.{ℕ, ◌+◌, ◌<◌, ◌≤◌}
use native.Mathlib.Omega.{arith}
use lib.Dec.{eqb, leb}
use borrow.Author.Tests.{leb-true, ltb-true, eqb-false, not-true, ne_eqb, le-leb}
use Rattle.rules.specs.Edition.{is_edition}
use Rattle.rules.specs.Limits.{most_cars, most_records, places}
use Rattle.rules.specs.Questions.{ask, index, is_count, is_on, Among}
use Rattle.rules.specs.Site.{Call, send, receive, start, gate}
use Rattle.rules.proofs.Tests.{and_left, and_right}
use Rattle.rules.proofs.Editions.{first-edition}
use Rattle.local.specs.Requesting.{started_by}
use Rattle.local.specs.declared.Requesting.{Requesting}
use Rattle.channel.specs.Channels.{channel_index, len_of, all_free}
use Rattle.rules.specs.Below.{sum}
use Rattle.run.specs.State.{zone_at, all_cars, is_sound, has_started, terms_of, edition_of, count_of}
use Rattle.run.specs.Calls.{refused, is_pair, answer, granted, questions, first_received, is_named, actor, edition_questions}
use Rattle.run.specs.Lists.{call_of, is_accepted}
use Rattle.run.specs.Claims.{call_refusals, open_refusals}
use Rattle.run.specs.declared.Run.{Run}
use Rattle.run.specs.Answer.{Answer}
use Rattle.run.specs.declared.SiteCall.{SiteCall}
use Rattle.run.specs.declared.SiteCall.TheVariants.{Receive, Send, Start, Gate}
use Rattle.rules.specs.declared.Direction.TheVariants.{In, Out}
use Rattle.run.specs.declared.Opening.{Opening}
use Rattle.run.specs.Opening.{fallback, is_stock_list, open_call, opened_run, open_questions}
use Rattle.rules.proofs.AskLaws.{not-among, lacks, AllYes, numbers, yes_both, ask-cases}

-- What the receipt of the first item on the channel from a to b, and what a start by a, makes of the zone of a run that acts.
abbrev pub got_by : ℕ → ℕ → Run → Requesting
got_by a b r = first_received (terms_of r.head) a b (zone_at r.head b) r.channels

abbrev pub start_by : ℕ → Run → Requesting
start_by a r = started_by a (zone_at r.head a)

-- Two different zones of the site, by index.
pub record Pair (count a b : ℕ) : Type 0 where
  pub from : a < count
  pub to : b < count
  pub apart : a ≢ b

-- The zones that a call names are zones of the site.
abbrev pub Sited : ℕ → Call → Type 0
Sited count (send a b cars) = Pair count a b
Sited count (receive a b) = Pair count a b
Sited count (start a) = a < count
Sited count (gate d a cars) = a < count

-- What the questions of a call asked, beside 1 and 6.
abbrev pub Asks : SiteCall → Run → Type 0
Asks (Send from to cars) r =
    Pair (count_of r.head) (index from) (index to) × (cars ≤ (zone_at r.head (index from)).stock)
    × (len_of r.channels (channel_index (index from) (index to)) < places)
Asks (Receive from to) r =
    Pair (count_of r.head) (index from) (index to) × (0 < len_of r.channels (channel_index (index from) (index to)))
    × (all_free r.channels (index to) (got_by (index from) (index to) r).to ≡ true)
Asks (Start zone) r =
    (index zone < count_of r.head) × (has_started r.head ≡ false)
    × (all_free r.channels (index zone) (start_by (index zone) r).to ≡ true)
Asks (Gate In zone cars) r = (index zone < count_of r.head) × (all_cars r + cars ≤ most_cars)
Asks (Gate Out zone cars) r = (index zone < count_of r.head) × (cars ≤ (zone_at r.head (index zone)).stock)

-- A call answered 0, and every question yes; or it was refused with one of its numbers and handed back the run.
pub record Passed (c : SiteCall) (r : Run) : Type 0 where
  pub said : is_accepted c r ≡ true
  pub yes : AllYes (questions c r)
  pub sound : is_sound r ≡ true
  pub offered : AllYes (edition_questions c (edition_of r.head))
  pub room : r.head.records < most_records
  pub asks : Asks c r
  pub result : answer c r ≡ granted c r

pub record Refused (c : SiteCall) (r : Run) : Type 0 where
  pub said : is_accepted c r ≡ false
  pub number : ℕ
  pub among : Among number (call_refusals c)
  pub kept : (answer c r).run ≡ r
  pub none : (answer c r).remaining ≡ 0

pub zone-sited : (count zone : ℕ) → is_on count zone ≡ true → (1 ≤ zone) × (index zone < count)
unfolding is_on
zone-sited count zone e =
    let l = leb-true 1 zone (and_left (leb 1 zone) (leb zone count) e) in
    let h = leb-true zone count (and_right (leb 1 zone) (leb zone count) e) in
    (l, omega arith)

pub pair : (count from to : ℕ) → is_pair count from to ≡ true → Pair count (index from) (index to)
unfolding is_pair
pair count from to e =
    let h = and_left (is_on count from && is_on count to) (not (eqb from to)) e in
    let p = zone-sited count from (and_left (is_on count from) (is_on count to) h) in
    let q = zone-sited count to (and_right (is_on count from) (is_on count to) h) in
    let d = eqb-false from to (not-true (eqb from to) (and_right (is_on count from && is_on count to) (not (eqb from to)) e)) in
    record { from = p.1; to = q.1; apart = λ e. d (omega arith) }

-- The numbers of two named zones are not 0.
pub pair-low : (count from to : ℕ) → is_pair count from to ≡ true → (1 ≤ from) × (1 ≤ to)
unfolding is_pair
pair-low count from to e =
    let h = and_left (is_on count from && is_on count to) (not (eqb from to)) e in
    ((zone-sited count from (and_left (is_on count from) (is_on count to) h)).0, (zone-sited count to (and_right (is_on count from) (is_on count to) h)).0)

-- Zones of a site are zones of a larger one.
on-wider : (count n zone : ℕ) → count ≤ n → is_on count zone ≡ true → is_on n zone ≡ true
unfolding is_on
on-wider count n zone h e =
    let (l, m) = zone-sited count zone e in
    rw (le-leb 1 zone l, le-leb zone n (omega arith))

pair-wider : (count n from to : ℕ) → count ≤ n → is_pair count from to ≡ true → is_pair n from to ≡ true
unfolding is_pair
pair-wider count n from to h e =
    let both = and_left (is_on count from && is_on count to) (not (eqb from to)) e in
    rw (
      on-wider count n from h (and_left (is_on count from) (is_on count to) both),
      on-wider count n to h (and_right (is_on count from) (is_on count to) both),
    ) (and_right (is_on count from && is_on count to) (not (eqb from to)) e)

pub named-wider : (count n : ℕ) (c : SiteCall) → count ≤ n → is_named count c ≡ true → is_named n c ≡ true
named-wider count n (Send from to cars) h e = pair-wider count n from to h e
named-wider count n (Receive from to) h e = pair-wider count n from to h e
named-wider count n (Start zone) h e = on-wider count n zone h e
named-wider count n (Gate d zone cars) h e = on-wider count n zone h e

positive : (n : ℕ) → not (eqb n 0) ≡ true → 0 < n
positive n e = let d = eqb-false n 0 (not-true (eqb n 0) e) in omega arith

pub answer-is : (c : SiteCall) (r : Run) → answer c r ≡ ask (questions c r) (refused r) (granted c r)
unfolding answer
answer-is c r = refl

asks : (c : SiteCall) (r : Run) → AllYes (questions c r) → Asks c r
asks (Send from to cars) r (s, (p, (h, (e, (f, u))))) = (pair (count_of r.head) from to p, leb-true _ _ e, ltb-true _ _ f)
asks (Receive from to) r (s, (p, (h, (e, (f, u))))) = (pair (count_of r.head) from to p, positive _ e, f)
asks (Start zone) r (s, (p, (h, (e, (f, u))))) = ((zone-sited (count_of r.head) zone p).1, not-true _ e, f)
asks (Gate In zone cars) r (s, (g, (p, (h, (e, u))))) = ((zone-sited (count_of r.head) zone p).1, leb-true _ _ e)
asks (Gate Out zone cars) r (s, (g, (p, (h, (e, u))))) = ((zone-sited (count_of r.head) zone p).1, leb-true _ _ e)

-- A call's questions have its numbers; 0 and 20 are none of them.
pub listed : (c : SiteCall) (r : Run) → numbers (questions c r) ≡ call_refusals c
listed (Send from to cars) r = refl
listed (Receive from to) r = refl
listed (Start zone) r = refl
listed (Gate In zone cars) r = refl
listed (Gate Out zone cars) r = refl

pub unlisted : (c : SiteCall) → (lacks 0 (call_refusals c) ≡ true) × (lacks 20 (call_refusals c) ≡ true)
unlisted (Send from to cars) = (refl, refl)
unlisted (Receive from to) = (refl, refl)
unlisted (Start zone) = (refl, refl)
unlisted (Gate In zone cars) = (refl, refl)
unlisted (Gate Out zone cars) = (refl, refl)

pub outcome : (c : SiteCall) (r : Run) → Passed c r ⊎ Refused c r
outcome c r = go (ask-cases (questions c r) (refused r) (granted c r))
  where
    go : (AllYes (questions c r) × (ask (questions c r) (refused r) (granted c r) ≡ granted c r))
        ⊎ ((n : ℕ) × Among n (numbers (questions c r)) × (ask (questions c r) (refused r) (granted c r) ≡ refused r n))
        → Passed c r ⊎ Refused c r
    go (inl h) =
        let e = answer-is c r ∙ h.1 in
        let y = yes_both (edition_questions c (edition_of r.head)) _ h.0.1 in
        inl (record {
          said = ap (λ (x : Answer). eqb x.refusal 0) e;
          yes = h.0;
          sound = h.0.0;
          offered = y.0;
          room = ltb-true _ _ y.1.1.0;
          asks = asks c r h.0;
          result = e;
        })
    go (inr h) =
        let e = answer-is c r ∙ h.2 in
        let m = subst (Among h.0) (listed c r) h.1 in
        inr (record {
          said = ap (λ (x : Answer). eqb x.refusal 0) e ∙ ne_eqb h.0 0 (not-among h.0 0 (call_refusals c) m (unlisted c).0);
          number = h.0;
          among = m;
          kept = ap (λ (x : Answer). x.run) e;
          none = ap (λ (x : Answer). x.remaining) e;
        })

pub sited : (c : SiteCall) (r : Run) → Passed c r → Sited (count_of r.head) (call_of c)
sited (Send from to cars) r p = p.asks.0
sited (Receive from to) r p = p.asks.0
sited (Start zone) r p = p.asks.0
sited (Gate In zone cars) r p = p.asks.0
sited (Gate Out zone cars) r p = p.asks.0

-- The zone that acts in an accepted call is on the site.
pub acts : (c : SiteCall) (r : Run) → Passed c r → actor c < count_of r.head
acts (Send from to cars) r p = p.asks.0.from
acts (Receive from to) r p = p.asks.0.to
acts (Start zone) r p = p.asks.0
acts (Gate In zone cars) r p = p.asks.0
acts (Gate Out zone cars) r p = p.asks.0

pub passed : (c : SiteCall) (r : Run) → is_accepted c r ≡ true → Passed c r
passed c r e = go (outcome c r)
  where
    go : Passed c r ⊎ Refused c r → Passed c r
    go (inl p) = p
    go (inr p) = absurd (true≢false (sym e ∙ p.said))

pub kept : (c : SiteCall) (r : Run) → is_accepted c r ≡ false → (answer c r).run ≡ r
kept c r e = go (outcome c r)
  where
    go : Passed c r ⊎ Refused c r → (answer c r).run ≡ r
    go (inl p) = absurd (true≢false (sym p.said ∙ e))
    go (inr p) = p.kept

-- An opening: accepted with every answer yes, or refused with one of its numbers.
abbrev pub opening : Opening → Answer
opening o = record { refusal = 0; remaining = 0; run = opened_run o }

-- What questions 15 and 2 to 4 ask of an opening.
pub record Fitting (o : Opening) : Type 0 where
  pub edition : is_edition o.terms.edition ≡ true
  pub fewest : 2 ≤ o.terms.count
  pub most : o.terms.count ≤ 8
  pub listed : is_stock_list o.terms.count o.stocks ≡ true
  pub cars : sum o.stocks ≤ most_cars

pub record Opened (o : Opening) : Type 0 where
  pub fits : Fitting o
  pub result : open_call o ≡ opening o

pub record NotOpened (o : Opening) : Type 0 where
  pub number : ℕ
  pub among : Among number open_refusals
  pub result : open_call o ≡ refused (opened_run fallback) number

pub open-outcome : (o : Opening) → Opened o ⊎ NotOpened o
unfolding open_call is_count
open-outcome o = go (ask-cases (open_questions o) (refused (opened_run fallback)) (opening o))
  where
    go : (AllYes (open_questions o) × (open_call o ≡ opening o))
        ⊎ ((n : ℕ) × Among n open_refusals × (open_call o ≡ refused (opened_run fallback) n))
        → Opened o ⊎ NotOpened o
    go (inl h) =
        inl (record {
          fits = record {
            edition = h.0.0;
            fewest = leb-true 2 o.terms.count (and_left (leb 2 o.terms.count) (leb o.terms.count 8) h.0.1.0);
            most = leb-true o.terms.count 8 (and_right (leb 2 o.terms.count) (leb o.terms.count 8) h.0.1.0);
            listed = h.0.1.1.0;
            cars = leb-true _ _ h.0.1.1.1.0;
          };
          result = h.1;
        })
    go (inr h) = inr (record { number = h.0; among = h.1; result = h.2 })

pub is_open : (o : Opening) → (open_call o).refusal ≡ 0 → Opened o
is_open o e = go (open-outcome o)
  where
    go : Opened o ⊎ NotOpened o → Opened o
    go (inl p) = p
    go (inr p) =
        absurd (not-among p.number 0 open_refusals p.among refl (sym (ap (λ (x : Answer). x.refusal) p.result) ∙ e))

-- The opening of the run that a refused opening hands back.
pub fallback-fits : Fitting fallback
fallback-fits = record { edition = first-edition; fewest = omega arith; most = omega arith; listed = refl; cars = omega arith }
