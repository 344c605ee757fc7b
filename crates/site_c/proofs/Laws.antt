-- A call on lent arrays answers what the definition says of the whole plain run: refused, nothing of it has changed.
use mathlib.Core.Path.{◌≡◌, sym, ◌∙◌, ap}
use mathlib.Core.Bool.{true, false}
use mathlib.Core.Logic.{◌≢◌}
use mathlib.Core.List.{List}
use Prim.Native.Nat.{ℕ}
use lib.Dec.{eqb}
use borrow.Author.Tests.{ne_eqb}
use Rattle.run.specs.Calls.{answer}
use Rattle.run.specs.Answer.{Answer}
use Rattle.run.specs.declared.Head.{Head}
use Rattle.run.specs.declared.Run.{Run}
use Rattle.run.specs.declared.SiteCall.{SiteCall}
use Rattle.run.proofs.Outcome.{kept}
use Rattle.site.specs.Lent as lent
use Rattle.site_c.specs.Plain.{are_kinds, head_of, plain_head, plain_in, run_of, answer_plain, answer_in, call_plain}
use Rattle.site_c.specs.declared.PlainHead.{PlainHead}
use Rattle.site_c.specs.declared.PlainRun.{PlainRun}

-- A mark kind above 2.
pub call-unkind : (c : SiteCall) (p : PlainRun) → are_kinds p.head.zones ≡ false
    → record { run = p; refusal = 1; remaining = 0 } ≡ call_plain c p
unfolding call_plain
call-unkind c p e = rw e

-- The call of the engine on the run that the plain one stands for.
module _ (c : SiteCall) (h : PlainHead) (is ls js : List ℕ) (kinds : are_kinds h.zones ≡ true) (head : Head) (items lens journal : List ℕ)
    (q : head ≡ head_of h) where
  abbrev p : PlainRun
  p = plain_in h is ls js

  here : (a : Answer) → a ≡ answer c (lent.run_in head is ls js) → a ≡ answer c (run_of p)
  here a e = e ∙ ap (λ (x : Head). answer c (lent.run_in x is ls js)) q

  pub call-refused : (n : ℕ) → record { refusal = n; remaining = 0; run = lent.run_in head items lens journal } ≡ answer c (lent.run_in head is ls js)
      → n ≢ 0 → answer_in (record { head = h; refusal = n; remaining = 0 }) items lens journal ≡ call_plain c p
  unfolding call_plain answer_plain
  call-refused n e d =
      let told = here _ e in
      let k = kept c (run_of p) (ap (λ (a : Answer). eqb a.refusal 0) (sym told) ∙ ne_eqb _ _ d) in
      let same = ap (λ (a : Answer). a.run) told ∙ k in
      rw (
        kinds,
        ← told,
        ne_eqb _ _ d,
        ap (λ (r : Run). r.channels.items) same,
        ap (λ (r : Run). r.channels.lens) same,
        ap (λ (r : Run). r.journal) same,
      )

  pub call-accepted : (after : PlainHead) (t : Head) (remaining : ℕ)
      → record { refusal = 0; remaining = remaining; run = lent.run_in t items lens journal } ≡ answer c (lent.run_in head is ls js)
      → after ≡ plain_head t
      → answer_in (record { head = after; refusal = 0; remaining = remaining }) items lens journal ≡ call_plain c p
  unfolding call_plain answer_plain
  call-accepted after t remaining e f = rw (kinds, ← here _ e, f)
