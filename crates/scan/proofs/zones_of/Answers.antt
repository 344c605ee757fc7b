-- `scan::zones_of` meets its contract: the slice has the zones of the site.
use Rattle.std.proofs.Common.{◌≡◌, sym, ◌∙◌, ap, arith, length-take}
use Rattle.rules.specs.declared.Local.{Local}
use Rattle.run.specs.State.{count_of, locals_sound, stocks, zone_at, local_sound}
use Rattle.run.proofs.BelowLaws.{all-next, sum-next, all-to, sum_to, one-out}
use Rattle.scan.proofs.Laws.{zone-in, is-some, is-none}
use Rattle.scan.proofs.zones_of.Goals as goal

pub returns-then-not-zone-clause-held : goal.returns-then-not-zone-clause-held
unfolding locals_sound
returns-then-not-zone-clause-held c =
    let h = c.args.head in
    let i = c.loop-z.z-index in
    let b = c.loop-z-test.true in
    let e = zone-in h _ i c.locals-all.ensures b in
    is-none _ _
    (one-out (count_of h) (λ k. local_sound (count_of h) h.records (zone_at h k)) i (omega (arith, length-take (count_of h) c.locals-all.result))
    (ap (local_sound (count_of h) h.records) (sym e) ∙ sym c.zone.ensures ∙ c.if-not-zone.true))

pub loop-z-preserved : goal.loop-z-preserved
loop-z-preserved c =
    let h = c.args.head in
    let b = c.loop-z in
    let i = b.z-index in
    let e = zone-in h _ i c.locals-all.ensures c.loop-z-test.true in (
      sym (all-next (λ k. local_sound (count_of h) h.records (zone_at h k)) i (sym b.invariant.0) (sym (ap (local_sound (count_of h) h.records) (sym e) ∙ sym c.zone.ensures ∙ c.if-not-zone.false))),
      sum-next (λ k. (zone_at h k).stock) i b.invariant.1 (ap (λ (z : Local). z.stock) e),
      omega (arith, b.invariant.2),
    )

pub returns-clause-held : goal.returns-clause-held
unfolding locals_sound stocks
returns-clause-held c =
    let h = c.args.head in
    let b = c.loop-z in
    let e : b.z-index ≡ count_of h = omega (arith, length-take (count_of h) c.locals-all.result) in
    is-some _ _ _ (sym (all-to (λ k. local_sound (count_of h) h.records (zone_at h k)) e) ∙ b.invariant.0)
    (b.invariant.1 ∙ sum_to (λ k. (zone_at h k).stock) e)
