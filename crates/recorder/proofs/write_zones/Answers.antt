-- `recorder::write_zones` meets its contract: the words of the zones before the next one.
use Rattle.std.proofs.Common.{◌≡◌, ◌*◌, ℕ, List, ap, subst, arith, add-one}
use Rattle.rules.specs.declared.Local.{Local}
use Rattle.words.specs.InnerWrote.{Wrote}
use Rattle.run.specs.Opening.{stock_at}
use Rattle.run.specs.State.{count_of}
use Rattle.recorder.specs.InnerWords.{checkpoint_words, zones_words}
use Rattle.items.proofs.Writing.{more-wrote}
use Rattle.recorder.proofs.Shown.{zones-size}
use Rattle.recorder.proofs.write_zones.Goals as goal

-- The same words by another name.
wrote_as : {vs ws before after : List ℕ} {n : ℕ} → vs ≡ ws → Wrote vs before after n → Wrote ws before after n
wrote_as {before = before} {after} {n} e w = subst (λ (l : List ℕ). Wrote l before after n) e w

pub loop-i-preserved : goal.loop-i-preserved
loop-i-preserved c =
    let l = c.loop-i in
    let a = c.args in
    let s : l.at ≡ 4 * l.i = omega (arith, l.invariant.number, zones-size a.head l.i) in
    let e = c.write_zone-at.ensures in
    let q = ap (λ (z : Local). checkpoint_words z.checkpoint (stock_at a.head.opening l.i)) c.zone_at-checkpoint.ensures in
    rw (add-one l.i) (more-wrote _ _ _ _ _ _ _ l.invariant (omega (arith, s, e.number, c.requires.1)) (wrote_as q e))

pub returns : goal.returns
unfolding zones_words
returns c =
    let e : count_of c.args.head ≡ c.loop-i.i = omega arith in
    rw e c.loop-i.invariant
