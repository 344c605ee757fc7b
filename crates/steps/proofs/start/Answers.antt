-- `steps::start` meets its contract: 5, 6, 11, 10, then the requests.
use Rattle.std.proofs.Common.{refl, sym, ◌∙◌}
use Rattle.channel.proofs.Search.{some-full, none-full}
use Rattle.run.specs.declared.SiteCall.TheVariants.{Start}
use Rattle.run.proofs.Outcome.{zone-sited}
use Rattle.steps.proofs.Laws.{effect-5, effect-6, behind-both, start-11, start-10, start-0}
use Rattle.steps.proofs.start.Goals as goal

pub returns-then-not-is_on : goal.returns-then-not-is_on
returns-then-not-is_on c = λ held.
    effect-5 (Start c.args.zone) _ _ _ _ _ held tt _ refl (sym c.is_on.ensures ∙ c.if-not-is_on.true)

pub returns-then-records-ge-MOST_RECORDS : goal.returns-then-records-ge-MOST_RECORDS
returns-then-records-ge-MOST_RECORDS c = λ held.
    effect-6 (Start c.args.zone) _ _ _ _ _ held tt (sym c.is_on.ensures ∙ c.if-not-is_on.false) _ refl c.if-records-ge-MOST_RECORDS.true

pub returns-then-started : goal.returns-then-started
returns-then-started c = λ held.
    start-11 _ _ _ _ _ held _ refl c.if-started.true ∙ (behind-both (Start c.args.zone) _ _ _ _ c.requires tt (sym c.is_on.ensures ∙ c.if-not-is_on.false) c.if-records-ge-MOST_RECORDS.false).own _ _ held

pub overflow_sub-a : goal.overflow_sub-a
overflow_sub-a c = (zone-sited 8 _ (behind-both (Start c.args.zone) _ _ _ _ c.requires tt (sym c.is_on.ensures ∙ c.if-not-is_on.false) c.if-records-ge-MOST_RECORDS.false).fits).0

pub start-got-requires : goal.start-got-requires
start-got-requires c = (zone-sited 8 _ (behind-both (Start c.args.zone) _ _ _ _ c.requires tt (sym c.is_on.ensures ∙ c.if-not-is_on.false) c.if-records-ge-MOST_RECORDS.false).fits).1

pub highest_full-full-requires : goal.highest_full-full-requires
highest_full-full-requires c = (zone-sited 8 _ (behind-both (Start c.args.zone) _ _ _ _ c.requires tt (sym c.is_on.ensures ∙ c.if-not-is_on.false) c.if-records-ge-MOST_RECORDS.false).fits).1

pub returns-then-is_some : goal.returns-then-is_some
returns-then-is_some c = λ held.
    start-10 _ _ _ _ _ held c.if-started.false _ c.start-got.ensures _ refl
    (some-full _ _ _ _ (c.highest_full-full.ensures _) (sym c.is_some.ensures ∙ c.if-is_some.true))
    ∙ (behind-both (Start c.args.zone) _ _ _ _ c.requires tt (sym c.is_on.ensures ∙ c.if-not-is_on.false) c.if-records-ge-MOST_RECORDS.false).own _ _ held

pub request_all-requires : goal.request_all-requires
request_all-requires c = (zone-sited 8 _ (behind-both (Start c.args.zone) _ _ _ _ c.requires tt (sym c.is_on.ensures ∙ c.if-not-is_on.false) c.if-records-ge-MOST_RECORDS.false).fits).1

pub returns : goal.returns
returns c = λ held.
    let b = behind-both (Start c.args.zone) _ _ _ _ c.requires tt (sym c.is_on.ensures ∙ c.if-not-is_on.false) c.if-records-ge-MOST_RECORDS.false in
    start-0 _ _ _ _ _ held c.if-started.false _ c.start-got.ensures _ (none-full _ _ _ _ (c.highest_full-full.ensures _) (sym c.is_some.ensures ∙ c.if-is_some.false))
    c.request_all.ensures
    ∙ b.own _ _ held
