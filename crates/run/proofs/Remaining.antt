-- How many items remain (request 2.4): an accepted receipt answers the number of items on its channel in the run that it hands back, requests
-- too, every other answer 0; and over a list the last accepted receipt decides.
use mathlib.Core.Path.{◌≡◌, refl, sym, ◌∙◌, ap, subst}
use mathlib.Core.Bool.{Bool, true, false, cond, ◌&&◌, and-false, false≢true}
use mathlib.Core.List.{List, [], ◌∷◌, ◌++◌}
use mathlib.Core.Logic.{◌≢◌, ◌⊎◌, inl, inr}
use Prim.Native.Nat.{ℕ, ◌+◌, ◌<◌}
use native.Mathlib.Omega.{arith}
use lib.ListN.{length}
use borrow.Author.Tests.{eqb-true}
use Rattle.rules.specs.Limits.{places}
use Rattle.rules.specs.Questions.{index}
use Rattle.channel.specs.Channels.{channel_index, len_of, popped}
use Rattle.channel.proofs.View.{len-pop-same, requested-other}
use Rattle.run.specs.Calls.{answer, granted}
use Rattle.run.specs.Claims.{WholeRun, NoReceipt, LastReceipt}
use Rattle.run.specs.Lists.{is_accepted, is_receipt, after, last_remaining}
use Rattle.run.specs.Model.{site_of}
use Rattle.run.specs.Opening.{open_call}
use Rattle.run.specs.State.{count_of}
use Rattle.run.specs.Answer.{Answer}
use Rattle.run.specs.declared.Opening.{Opening}
use Rattle.run.specs.declared.Run.{Run}
use Rattle.run.specs.declared.SiteCall.{SiteCall}
use Rattle.run.specs.declared.SiteCall.TheVariants.{Receive, Send, Start, Gate}
use Rattle.run.proofs.Accepts.{len_is}
use Rattle.run.proofs.Outcome.{Pair, got_by, Passed, Refused, outcome, passed, open-outcome, Opened, NotOpened}
use Rattle.run.proofs.Parts.{parts, on-site}
use Rattle.run.proofs.Sound.{call-sound}
use Rattle.run.proofs.Whole.{call-whole}

-- Beside a refusal it is 0, and so is it of a call that is no receipt, and of an opening.
pub refused_none : (c : SiteCall) (r : Run) → (answer c r).refusal ≢ 0 → (answer c r).remaining ≡ 0
refused_none c r d = go (outcome c r)
  where
    go : Passed c r ⊎ Refused c r → (answer c r).remaining ≡ 0
    go (inl p) = absurd (d (eqb-true (answer c r).refusal 0 p.said))
    go (inr p) = p.none

pub other_none : (c : SiteCall) (r : Run) → ((from to : ℕ) → c ≢ Receive from to) → (answer c r).remaining ≡ 0
other_none c r d = go (outcome c r)
  where
    nothing : (c : SiteCall) → ((from to : ℕ) → c ≢ Receive from to) → (granted c r).remaining ≡ 0
    nothing (Send from to cars) d = refl
    nothing (Receive from to) d = absurd (d from to refl)
    nothing (Start zone) d = refl
    nothing (Gate direction zone cars) d = refl

    go : Passed c r ⊎ Refused c r → (answer c r).remaining ≡ 0
    go (inl p) = ap (λ (x : Answer). x.remaining) p.result ∙ nothing c d
    go (inr p) = p.none

pub open_none : (o : Opening) → (open_call o).remaining ≡ 0
open_none o = go (open-outcome o)
  where
    go : Opened o ⊎ NotOpened o → (open_call o).remaining ≡ 0
    go (inl p) = ap (λ (x : Answer). x.remaining) p.result
    go (inr p) = ap (λ (x : Answer). x.remaining) p.result

-- An accepted receipt, on any run, true or not.
module _ (from to : ℕ) (r : Run) (w : WholeRun r) (e : is_accepted (Receive from to) r ≡ true) where
  abbrev next : Run
  next = (answer (Receive from to) r).run

  abbrev own-channel : ℕ
  own-channel = channel_index (index from) (index to)

  taken : Passed (Receive from to) r
  taken = passed (Receive from to) r e

  between : Pair (count_of r.head) (index from) (index to)
  between = taken.asks.0

  same_count : count_of next.head ≡ count_of r.head
  same_count = ap (λ (x : Answer). count_of x.run.head) taken.result

  -- It answers the number of items on its channel, hand-overs and requests, in the run that it hands back.
  pub remaining-is : (answer (Receive from to) r).remaining ≡ length ((site_of (answer (Receive from to) r).run).channel (index from) (index to))
  remaining-is =
      let sound = parts next (call-sound (Receive from to) r w tt taken.sound) in
      let pair = subst (λ (n : ℕ). Pair n (index from) (index to)) (sym same_count) between in
      ap (λ (x : Answer). x.remaining) taken.result ∙ ap (λ (x : Answer). len_of x.run.channels own-channel) (sym taken.result)
      ∙ sym (len_is next (call-whole (Receive from to) r w) sound (index from) (index to) pair)

  -- One less than before it: the requests that it sends leave this channel alone.
  pub remaining-less : (answer (Receive from to) r).remaining + 1 ≡ length ((site_of r).channel (index from) (index to))
  remaining-less =
      let s = parts r taken.sound in
      let near : index to < 8 = omega (arith, between.to, s.most) in
      let k : own-channel < 64 = omega (arith, between.from, near, s.most) in
      let got = got_by (index from) (index to) r in
      let alone : (granted (Receive from to) r).remaining ≡ len_of (popped r.channels own-channel) own-channel =
      requested-other (popped r.channels own-channel) (index to) got.to got.carried (index from) (index to) between.apart near in
      omega (
        arith,
        ap (λ (x : Answer). x.remaining) taken.result,
        alone,
        len-pop-same r.channels own-channel w.channels k,
        taken.asks.1,
        len_is r w s (index from) (index to) between,
      )

  -- So it is at most 15.
  pub remaining-few : (answer (Receive from to) r).remaining < places
  remaining-few =
      let s = parts r taken.sound in
      omega (
        arith,
        remaining-less,
        len_is r w s (index from) (index to) between,
        s.lens (index from) (index to) (on-site (count_of r.head) (index from) (index to) s.most between.from between.to between.apart),
      )

-- Over a list of calls, refused ones included: without an accepted receipt it is what it was before, else what the last one answered; and every
-- list is of one of these two.
not-counted : (c : SiteCall) (r : Run) → ((from to : ℕ) → c ≡ Receive from to → is_accepted c r ≡ false) → is_accepted c r && is_receipt c ≡ false
not-counted (Send from to cars) r h = and-false (is_accepted (Send from to cars) r)
not-counted (Receive from to) r h = ap (λ (b : Bool). b && true) (h from to refl)
not-counted (Start zone) r h = and-false (is_accepted (Start zone) r)
not-counted (Gate direction zone cars) r h = and-false (is_accepted (Gate direction zone cars) r)

pub last_none : (last : ℕ) (cs : List SiteCall) (r : Run) → NoReceipt cs r → last_remaining last cs r ≡ last
last_none last [] r h = refl
last_none last (c ∷ cs) r h = rw (not-counted c r h.0) (last_none last cs (answer c r).run h.1)

last-behind : (before : List SiteCall) (last : ℕ) (behind : List SiteCall) (from to : ℕ) (r : Run) → let s = after before r in
    is_accepted (Receive from to) s ≡ true → NoReceipt behind (answer (Receive from to) s).run
    → last_remaining last (before ++ (Receive from to ∷ behind)) r ≡ (answer (Receive from to) s).remaining
last-behind [] last behind from to r e h =
    let t = answer (Receive from to) r in
    ap (λ (b : Bool). last_remaining (cond (b && true) t.remaining last) behind t.run) e ∙ last_none t.remaining behind t.run h
last-behind (c ∷ before) last behind from to r e h = last-behind before _ behind from to (answer c r).run e h

pub last-is : (last : ℕ) (cs : List SiteCall) (r : Run) (h : LastReceipt cs r)
    → last_remaining last cs r ≡ (answer (Receive h.from h.to) (after h.before r)).remaining
last-is last cs r h =
    ap (λ (xs : List SiteCall). last_remaining last xs r) h.split
    ∙ last-behind h.before last h.behind h.from h.to r h.accepted h.none

pub last_found : (cs : List SiteCall) (r : Run) → NoReceipt cs r ⊎ LastReceipt cs r
last_found [] r = inl tt
last_found (c ∷ cs) r = go (last_found cs (answer c r).run)
  where
    -- The first call is the last receipt, or none.
    first : (c : SiteCall) → NoReceipt cs (answer c r).run → NoReceipt (c ∷ cs) r ⊎ LastReceipt (c ∷ cs) r
    first (Send from to cars) n = inl (λ a b q. absurd (false≢true (ap is_receipt q)), n)
    first (Receive from to) n = by (is_accepted (Receive from to) r) refl
      where
        by : (b : Bool) → is_accepted (Receive from to) r ≡ b → NoReceipt (Receive from to ∷ cs) r ⊎ LastReceipt (Receive from to ∷ cs) r
        by true e = inr (record { before = []; from = from; to = to; behind = cs; split = refl; accepted = e; none = n })
        by false e = inl (λ a b q. e, n)
    first (Start zone) n = inl (λ a b q. absurd (false≢true (ap is_receipt q)), n)
    first (Gate direction zone cars) n = inl (λ a b q. absurd (false≢true (ap is_receipt q)), n)

    go : NoReceipt cs (answer c r).run ⊎ LastReceipt cs (answer c r).run → NoReceipt (c ∷ cs) r ⊎ LastReceipt (c ∷ cs) r
    go (inl n) = first c n
    go (inr h) = inr (record {
      before = c ∷ h.before;
      from = h.from;
      to = h.to;
      behind = h.behind;
      split = ap (λ (xs : List SiteCall). c ∷ xs) h.split;
      accepted = h.accepted;
      none = h.none;
    })
