-- `steps::gate` meets its contract: 15, 5, 6, then 21 or 7, then the cars through the gate.
use Rattle.std.proofs.Common.{refl, true, sym, ◌∙◌}
use Rattle.std.proofs.lemmas.Result.{err_from_is_err_and}
use Rattle.questions.proofs.RefusalLaws.{number-nonzero}
use Rattle.run.specs.declared.SiteCall.TheVariants.{Gate}
use Rattle.run.proofs.Outcome.{zone-sited}
use Rattle.steps.proofs.Laws.{weighed-few, weighed-stock, gate-15, effect-5, effect-6, Behind, behind-both, gate-refused, gate-0, gate-fits}
use Rattle.steps.proofs.gate.Goals.{Else-records-ge-MOST_RECORDS}
use Rattle.steps.proofs.gate.Goals as goal

-- What 15, 5 and 6 leave: the zone is named, what the call takes fits, and its own question decides.
behind : (c : Else-records-ge-MOST_RECORDS) → let a = c.args in
    Behind (Gate a.direction a.zone a.cars) a.terms a.records a.z c.requires.channels
behind c =
    behind-both (Gate c.args.direction c.args.zone c.args.cars) _ _ _ _ c.requires.ready ((sym c.has_gates.ensures ∙ c.if-not-has_gates.false), tt)
    (sym c.is_on-named.ensures ∙ c.if-not-named.false) c.if-records-ge-MOST_RECORDS.false

pub returns-then-not-has_gates : goal.returns-then-not-has_gates
returns-then-not-has_gates c = λ l started.
    gate-15 _ _ _ _ _ _ l started _ _ refl (sym c.has_gates.ensures ∙ c.if-not-has_gates.true)

pub returns-then-not-named : goal.returns-then-not-named
returns-then-not-named c = λ l started.
    effect-5 (Gate c.args.direction c.args.zone c.args.cars) _ _ _ l started _ ((sym c.has_gates.ensures ∙ c.if-not-has_gates.false), tt) _ refl
    (sym c.is_on-named.ensures ∙ c.if-not-named.true)

pub returns-then-records-ge-MOST_RECORDS : goal.returns-then-records-ge-MOST_RECORDS
returns-then-records-ge-MOST_RECORDS c = λ l started.
    effect-6 (Gate c.args.direction c.args.zone c.args.cars) _ _ _ l started _ ((sym c.has_gates.ensures ∙ c.if-not-has_gates.false), tt) (sym c.is_on-named.ensures ∙ c.if-not-named.false) _ refl c.if-records-ge-MOST_RECORDS.true

pub pass-requires : goal.pass-requires
pass-requires c = weighed-few _ _ _ _ _ c.requires

pub returns-in_err-pass : goal.returns-in_err-pass
returns-in_err-pass c =
    let p = err_from_is_err_and c.from_residual.result c.from_residual.ensures.1 in
    rw (p.1, p.2) (λ l started.
    gate-refused _ _ _ _ _ l started _ _ c.in_err-pass.ensures _ refl (number-nonzero _)
    ∙ (behind (goal.at.returns-in_err-pass c).Else-records-ge-MOST_RECORDS).own l started _)

pub gate-zone-requires : goal.gate-zone-requires
gate-zone-requires c =
    let f = gate-fits c.args.terms c.args.direction c.args.zone c.args.cars c.args.z c.requires.channels true _ _ c.in_ok-pass.ensures refl (weighed-stock _ _ _ _ _ c.requires (zone-sited _ _ (sym c.is_on-named.ensures ∙ c.if-not-named.false)).1) (weighed-few _ _ _ _ _ c.requires) in
    (f.0, f.1, (behind (goal.at.gate-zone-requires c).Else-records-ge-MOST_RECORDS).fits)

pub returns : goal.returns
returns c = λ l started.
    gate-0 _ _ _ _ _ l started _ _ c.in_ok-pass.ensures _ refl c.gate-zone.ensures
    ∙ (behind (goal.at.returns c).Else-records-ge-MOST_RECORDS).own l started _
