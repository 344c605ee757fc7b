-- `steps::receive` meets its contract: 5, 6, 9, 10, then the item off its channel and the requests.
use Rattle.std.proofs.Common.{refl, ◌<◌, ℕ, sym, ◌∙◌, subst, arith}
use mathlib.Core.Logic.{◌≢◌}
use Rattle.channel.specs.Channels.{channels_as, len_of}
use Rattle.channel.proofs.Search.{some-full, none-full}
use Rattle.run.specs.declared.SiteCall.TheVariants.{Receive}
use Rattle.run.proofs.Outcome.{pair, pair-low}
use Rattle.steps.proofs.Laws.{effect-5, effect-6, Behind, behind-both, receive-9, receive-10, receive-0, receive-quiet}
use Rattle.steps.proofs.receive.Goals.{Else-records-ge-MOST_RECORDS}
use Rattle.steps.proofs.receive.Goals as goal

-- What 5 and 6 leave: the zones are named, what the call takes fits, and its own questions decide.
behind : (c : Else-records-ge-MOST_RECORDS) → let a = c.args in
    Behind (Receive c.args.from c.args.to) a.terms a.records a.z (channels_as a.items.now a.lens.now)
behind c =
    behind-both (Receive c.args.from c.args.to) _ _ _ _ c.requires tt (sym c.is_pair.ensures ∙ c.if-not-is_pair.false) c.if-records-ge-MOST_RECORDS.false

pos : (n : ℕ) → n ≢ 0 → 0 < n
pos n h = omega arith

pub returns-then-not-is_pair : goal.returns-then-not-is_pair
returns-then-not-is_pair c = λ started held.
    effect-5 (Receive c.args.from c.args.to) _ _ _ _ started held tt _ refl (sym c.is_pair.ensures ∙ c.if-not-is_pair.true)

pub returns-then-records-ge-MOST_RECORDS : goal.returns-then-records-ge-MOST_RECORDS
returns-then-records-ge-MOST_RECORDS c = λ started held.
    effect-6 (Receive c.args.from c.args.to) _ _ _ _ started held tt (sym c.is_pair.ensures ∙ c.if-not-is_pair.false) _ refl c.if-records-ge-MOST_RECORDS.true

pub overflow_sub-a : goal.overflow_sub-a
overflow_sub-a c = (pair-low 8 _ _ (behind (goal.at.overflow_sub-a c).Else-records-ge-MOST_RECORDS).fits.0).0

pub overflow_sub-b : goal.overflow_sub-b
overflow_sub-b c = (pair-low 8 _ _ (behind (goal.at.overflow_sub-b c).Else-records-ge-MOST_RECORDS).fits.0).1

pub channel_index-k-requires : goal.channel_index-k-requires
channel_index-k-requires c = let p = pair 8 _ _ (behind (goal.at.channel_index-k-requires c).Else-records-ge-MOST_RECORDS).fits.0 in (p.from, p.to)

pub returns-then-lens-k-eq0 : goal.returns-then-lens-k-eq0
returns-then-lens-k-eq0 c = λ started held.
    receive-9 _ _ _ _ _ started held _ c.channel_index-k.ensures.0 _ refl c.if-lens-k-eq0.true
    ∙ (behind (goal.at.returns-then-lens-k-eq0 c).Else-records-ge-MOST_RECORDS).own _ started held

pub take-got-requires : goal.take-got-requires
take-got-requires c =
    let f = (behind (goal.at.take-got-requires c).Else-records-ge-MOST_RECORDS).fits in
    let a = c.args in
    let q = pair 8 _ _ f.0 in
    let e = c.channel_index-k.ensures.0 in
    let l = channels_as a.items.now a.lens.now in
    let room = f.2 (pos _ (subst (λ (n : ℕ). len_of l n ≢ 0) e c.if-lens-k-eq0.false)) in
    rw e (q.from, q.to, f.1, room.0, room.1)

pub returns-then-got-eq0 : goal.returns-then-got-eq0
returns-then-got-eq0 c = λ started held.
    receive-quiet _ _ _ _ _ started held _ c.channel_index-k.ensures.0 c.if-lens-k-eq0.false _ c.take-got.ensures c.if-got-eq0.true _ _ (behind (goal.at.returns-then-got-eq0 c).Else-records-ge-MOST_RECORDS).fits.0 c.pop-taken.ensures.2 c.pop-taken.ensures.1
    ∙ (behind (goal.at.returns-then-got-eq0 c).Else-records-ge-MOST_RECORDS).own _ started held

pub highest_full-full-requires : goal.highest_full-full-requires
highest_full-full-requires c = (pair 8 _ _ (behind (goal.at.highest_full-full-requires c).Else-records-ge-MOST_RECORDS).fits.0).to

pub returns-then-is_some : goal.returns-then-is_some
returns-then-is_some c = λ started held.
    receive-10 _ _ _ _ _ started held _ c.channel_index-k.ensures.0 c.if-lens-k-eq0.false _ c.take-got.ensures _ refl
    (some-full _ _ _ _ (c.highest_full-full.ensures _) (sym c.is_some.ensures ∙ c.if-is_some.true))
    ∙ (behind (goal.at.returns-then-is_some c).Else-records-ge-MOST_RECORDS).own _ started held

pub request_all-requires : goal.request_all-requires
request_all-requires c = (pair 8 _ _ (behind (goal.at.request_all-requires c).Else-records-ge-MOST_RECORDS).fits.0).to

pub returns : goal.returns
returns c = λ started held.
    receive-0 _ _ _ _ _ started held _ c.channel_index-k.ensures.0 c.if-lens-k-eq0.false _ c.take-got.ensures _ _ _ (behind (goal.at.returns c).Else-records-ge-MOST_RECORDS).fits.0
    (none-full _ _ _ _ (c.highest_full-full.ensures _) (sym c.is_some.ensures ∙ c.if-is_some.false)) c.pop-taken-2.ensures.2 c.pop-taken-2.ensures.1 c.request_all.ensures
    ∙ (behind (goal.at.returns c).Else-records-ge-MOST_RECORDS).own _ started held
