-- `steps::send` meets its contract: 5, 6, 7, 8, then the message on its channel.
use Rattle.std.proofs.Common.{refl, sym, ◌∙◌}
use Rattle.channel.specs.Channels.{channels_as}
use Rattle.run.specs.declared.SiteCall.TheVariants.{Send}
use Rattle.run.proofs.Outcome.{pair, pair-low}
use Rattle.steps.proofs.Laws.{effect-5, effect-6, Behind, behind-both, send-7, send-8, send-0}
use Rattle.steps.proofs.send.Goals.{Else-records-ge-MOST_RECORDS}
use Rattle.steps.proofs.send.Goals as goal

-- What 5 and 6 leave: the zones are named, what the call takes fits, and its own questions decide.
behind : (c : Else-records-ge-MOST_RECORDS) → let a = c.args in
    Behind (Send c.args.from c.args.to c.args.cars) a.terms a.records a.z (channels_as a.items.now a.lens.now)
behind c =
    behind-both (Send c.args.from c.args.to c.args.cars) _ _ _ _ c.requires tt (sym c.is_pair.ensures ∙ c.if-not-is_pair.false) c.if-records-ge-MOST_RECORDS.false

pub returns-then-not-is_pair : goal.returns-then-not-is_pair
returns-then-not-is_pair c = λ started held.
    effect-5 (Send c.args.from c.args.to c.args.cars) _ _ _ _ started held tt _ refl (sym c.is_pair.ensures ∙ c.if-not-is_pair.true)

pub returns-then-records-ge-MOST_RECORDS : goal.returns-then-records-ge-MOST_RECORDS
returns-then-records-ge-MOST_RECORDS c = λ started held.
    effect-6 (Send c.args.from c.args.to c.args.cars) _ _ _ _ started held tt (sym c.is_pair.ensures ∙ c.if-not-is_pair.false) _ refl c.if-records-ge-MOST_RECORDS.true

pub returns-then-z-cars : goal.returns-then-z-cars
returns-then-z-cars c = λ started held.
    send-7 _ _ _ _ _ _ started held _ refl c.if-z-cars.true ∙ (behind (goal.at.returns-then-z-cars c).Else-records-ge-MOST_RECORDS).own _ started held

pub overflow_sub-from : goal.overflow_sub-from
overflow_sub-from c = (pair-low 8 _ _ (behind (goal.at.overflow_sub-from c).Else-records-ge-MOST_RECORDS).fits.0).0

pub overflow_sub-to : goal.overflow_sub-to
overflow_sub-to c = (pair-low 8 _ _ (behind (goal.at.overflow_sub-to c).Else-records-ge-MOST_RECORDS).fits.0).1

pub channel_index-k-requires : goal.channel_index-k-requires
channel_index-k-requires c = let p = pair 8 _ _ (behind (goal.at.channel_index-k-requires c).Else-records-ge-MOST_RECORDS).fits.0 in (p.from, p.to)

pub returns-then-lens-k-ge-MOST_ITEMS : goal.returns-then-lens-k-ge-MOST_ITEMS
returns-then-lens-k-ge-MOST_ITEMS c = λ started held.
    send-8 _ _ _ _ _ _ started held _ _ c.channel_index-k.ensures.0 refl c.if-z-cars.false c.if-lens-k-ge-MOST_ITEMS.true
    ∙ (behind (goal.at.returns-then-lens-k-ge-MOST_ITEMS c).Else-records-ge-MOST_RECORDS).own _ started held

pub send-zone-requires : goal.send-zone-requires
send-zone-requires c = (c.if-z-cars.false, (behind (goal.at.send-zone-requires c).Else-records-ge-MOST_RECORDS).fits.1)

pub returns : goal.returns
returns c = λ started held.
    send-0 _ _ _ _ _ _ started held _ _ _ _ _ c.channel_index-k.ensures.0 c.if-z-cars.false c.if-lens-k-ge-MOST_ITEMS.false c.has_checkpoint-flag.ensures
    c.message_word-word.ensures c.push.ensures c.send-zone.ensures
    ∙ (behind (goal.at.returns c).Else-records-ge-MOST_RECORDS).own _ started held
