-- `scan::channels_from` meets its contract: no channel goes to a zone behind the last one.
use Rattle.std.proofs.Common.{◌≡◌, ◌<◌, sym, ◌∙◌, ap, true, arith}
use Rattle.channel.specs.Channels.{lent_as, channel_index}
use Rattle.run.proofs.BelowLaws.{all-to, sum_to, one-out}
use Rattle.run.proofs.IndexLaws.{all-index, all-passed, sum-index, sum-passed}
use Rattle.scan.specs.InnerAt.{sound_at, cars_at, sound_from}
use Rattle.scan.proofs.Laws.{empty-sound, empty-cars, sound-to, cars-to, some-is, none-is, is-some, is-none}
use Rattle.scan.proofs.channels_from.Goals as goal
use Rattle.scan.proofs.channels_from.Goals.{then-channels-k-ne0+in_ok-cars, else-channels-k-ne0}

pub returns-in_err-cars-clause-held : goal.returns-in_err-cars-clause-held
unfolding sound_from
returns-in_err-cars-clause-held c =
    let a = c.args in
    let f = sound_at a.terms (lent_as a.channels) in
    let e = ap f (sym c.channel_index-k.ensures.0) ∙ none-is _ _ c.in_err-cars.ensures.held in
    let b : c.loop-to.to < 8 = omega arith in
    c.from_residual.ensures ∙ is-none _ _ (one-out 8 (λ j. f (channel_index a.from j)) c.loop-to.to b e)

pub loop-to-preserved : goal.loop-to-preserved
loop-to-preserved c =
    let a = c.args in
    let b = c.loop-to in
    let t = a.terms in
    let l = lent_as a.channels in
    let e = c.channel_index-k.ensures.0 in
    elim c.if-channels-k-ne0.branch [
      | then-channels-k-ne0+in_ok-cars w ↦
          let one = some-is _ _ _ w.in_ok-cars.ensures.held in (
            sym (all-index (sound_at t l) a.from true b.to _ e true (sym b.invariant.0) (sym one.0)),
            w.cars-is ∙ sum-index (cars_at t l) a.from _ b.to _ e _ b.invariant.1 one.1,
            omega (arith, w.cars-is, w.in_ok-cars.ensures.few, b.invariant.2),
          )
      | else-channels-k-ne0 w ↦ (
        sym (all-passed (sound_at t l) a.from true b.to _ e (sym b.invariant.0) (empty-sound t l _ w.if-channels-k-ne0.false)),
        w.cars-is ∙ sum-passed (cars_at t l) a.from _ b.to _ e b.invariant.1 (empty-cars t l _ w.if-channels-k-ne0.false),
        omega (arith, w.cars-is, b.invariant.2),
      )
    ]

pub returns-clause-held : goal.returns-clause-held
returns-clause-held c =
    let a = c.args in
    let b = c.loop-to in
    let t = a.terms in
    let n = a.from in
    let l = lent_as a.channels in
    let e : b.to ≡ t.count = omega arith in
    is-some _ _ _ (sound-to t l n c.requires.0 ∙ sym (all-to (λ j. sound_at t l (channel_index n j)) e) ∙ b.invariant.0)
    (b.invariant.1 ∙ sum_to (λ j. cars_at t l (channel_index n j)) e ∙ sym (cars-to t l n c.requires.0))
