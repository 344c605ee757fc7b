-- `scan::channels` meets its contract: no zone behind the last one sends on a channel.
use Rattle.std.proofs.Common.{◌≡◌, ◌*◌, sym, ◌∙◌, true, arith}
use Rattle.channel.specs.Channels.{lent_as}
use Rattle.run.specs.State.{channels_sound, cars_on_channels}
use Rattle.run.proofs.BelowLaws.{all-to, sum_to}
use Rattle.run.proofs.IndexLaws.{all-zone, all_none, sum-zone, sum-none, none_from, zone-out}
use Rattle.scan.specs.InnerAt.{sound_at, cars_at, sound_from, cars_from}
use Rattle.scan.proofs.Laws.{empty-sound, empty-cars, sound-end, cars-end, some-is, none-is, is-some, is-none}
use Rattle.scan.proofs.channels.Goals as goal
use Rattle.scan.proofs.channels.Goals.{then-not-is_empty_from+in_ok-cars, else-not-is_empty_from}

pub returns-in_err-cars-clause-held : goal.returns-in_err-cars-clause-held
unfolding channels_sound sound_from
returns-in_err-cars-clause-held c =
    let a = c.args in
    let e = none-is _ _ c.in_err-cars.ensures.held in
    c.from_residual.ensures ∙ is-none _ _ (zone-out (sound_at a.terms (lent_as a.channels)) c.loop-from.from (omega arith) e)

pub loop-from-preserved : goal.loop-from-preserved
unfolding sound_from cars_from
loop-from-preserved c =
    let b = c.loop-from in
    let t = c.args.terms in
    let l = lent_as c.args.channels in
    let e = c.is_empty_from.ensures in
    elim c.if-not-is_empty_from.branch [
      | then-not-is_empty_from+in_ok-cars w ↦
          let one = some-is _ _ _ w.in_ok-cars.ensures.held in (
            sym (all-zone (sound_at t l) b.from true true (sym b.invariant.0) (sym one.0)),
            w.cars-is ∙ sum-zone (cars_at t l) b.from _ _ b.invariant.1 one.1,
            omega (arith, w.cars-is, w.in_ok-cars.ensures.few, b.invariant.2),
          )
      | else-not-is_empty_from w ↦ (
        sym (all_none (sound_at t l) b.from true (sym b.invariant.0) (λ j h. empty-sound t l _ (none_from l.lens b.from (sym e ∙ w.if-not-is_empty_from.false) j h))),
        w.cars-is
            ∙ sum-none (cars_at t l) b.from _ b.invariant.1 (λ j h. empty-cars t l _ (none_from l.lens b.from (sym e ∙ w.if-not-is_empty_from.false) j h)),
        omega (arith, w.cars-is, b.invariant.2),
      )
    ]

pub returns-clause-held : goal.returns-clause-held
unfolding channels_sound cars_on_channels
returns-clause-held c =
    let b = c.loop-from in
    let t = c.args.terms in
    let l = lent_as c.args.channels in
    let e : b.from * 8 ≡ t.count * 8 = omega arith in
    is-some _ _ _ (sound-end t l c.requires ∙ sym (all-to (sound_at t l) e) ∙ b.invariant.0)
    (b.invariant.1 ∙ sum_to (cars_at t l) e ∙ sym (cars-end t l c.requires))
