-- `site_c::plain_locals` meets its contract.
use Rattle.std.proofs.Common.{◌≡◌, ◌∙◌, ◌<◌, ℕ, sym, rules, arith, get_or}
use lib.Seq.{ext_get_or}
use Rattle.rules.specs.Below.{list_below}
use Rattle.run.specs.State.{no_local}
use Rattle.run.proofs.BelowLaws.{length-below, list_at}
use Rattle.site_c.specs.Plain.{plain_local, no_plain, plain_locals}
use Rattle.site_c.proofs.plain_locals.Goals as goal

pub returns : goal.returns
unfolding plain_locals
returns c =
    let f = λ (i : ℕ). plain_local (get_or c.args.zones i no_local) in
    let h = c.map.ensures.items in
    let at : (i : ℕ) → i < 8 → get_or c.map.result i no_plain ≡ f i = λ i b. let (p, q, k) = h.at i no_local no_plain b in search rules in
    ext_get_or no_plain c.map.result (list_below 8 f) (h.long ∙ sym (length-below 8 f))
    (λ i b. let b' : i < 8 = omega (arith, h.long) in at i b' ∙ sym (list_at 8 f no_plain i b'))
