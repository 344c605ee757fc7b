-- `scan::channel` meets its contract, by what the words before the next one add up to.
use Rattle.std.proofs.Common.{sym, refl, arith}
use mathlib.Core.Bool.{and-true}
use Rattle.channel.specs.Channels.{lent_as}
use Rattle.run.specs.State.{channel_sound}
use Rattle.scan.proofs.Laws.{then-sound, sets-next, cars-next, words_all, words-few}
use Rattle.scan.proofs.channel.Goals as goal

pub loop-word-init : goal.loop-word-init
loop-word-init c = (rw (c.on-words.ensures) (words-few (lent_as c.args.channels) c.args.k), sym (and-true _), refl, omega arith)

pub loop-word-preserved : goal.loop-word-preserved
loop-word-preserved c =
    let b = c.loop-word in
    let ws = c.on-words.result.now in (
      b.invariant.0,
      sets-next c.args.terms.count ws b.word-index _ _ _ b.invariant.1 c.is_item_sound-sound.ensures,
      cars-next ws b.word-index _ _ b.invariant.2 c.cars_in-cars.ensures.0,
      omega (arith, c.cars_in-cars.ensures.1, b.invariant.3),
    )

pub returns-clause-held : goal.returns-clause-held
unfolding channel_sound
returns-clause-held c =
    let b = c.loop-word in
    let e = words_all _ _ b.word-index c.on-words.ensures c.loop-word-test.false in
    then-sound _ _ _ _ _ c.then_some.ensures (rw (e) at b.invariant.1) (rw (e) at b.invariant.2)
