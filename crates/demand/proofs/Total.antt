-- No car is held twice and none is dropped: below edition 3, where no car drives in or out, the recorded total is the opening's.
use mathlib.Core.Path.{◌≡◌, sym, ◌∙◌, ap, subst}
use mathlib.Core.List.{List}
use Prim.Native.Nat.{ℕ, ◌≤◌}
use native.Mathlib.Omega.{arith}
use lib.ListN.{take}
use Rattle.rules.specs.Below.{sum}
use Rattle.rules.specs.Cut.{Snapshot, moves}
use Rattle.rules.specs.Park.{total}
use Rattle.rules.specs.Site.{open_s}
use Rattle.rules.proofs.Ungated.{none-through, none_inside}
use Rattle.run.specs.Claims.{AllTyped, filled}
use Rattle.run.specs.Lists.{after, accepted_calls}
use Rattle.run.specs.Opening.{opening_of, opened_run, open_call}
use Rattle.run.specs.State.{edition_of}
use Rattle.run.specs.Answer.{Answer}
use Rattle.run.specs.declared.Opening.{Opening}
use Rattle.run.specs.declared.SiteCall.{SiteCall}
use Rattle.run.proofs.Filled.{sum-filled}
use Rattle.run.proofs.Gates.{all-ungated}
use Rattle.run.proofs.Outcome.{is_open}
use Rattle.recording.specs.Call.{record_call}
use Rattle.recording.specs.Shown.{shown_in}
use Rattle.demand.proofs.Recorded.{true-demand}

module _ (o : Opening) (low : o.terms.edition ≤ 2) (opened : (open_call o).refusal ≡ 0) (cs : List SiteCall) (typed : AllTyped cs) (lent : List ℕ)
    (answered : (record_call (after cs (open_call o).run) lent).answer.refusal ≡ 0) where
  abbrev shown : Snapshot
  shown = shown_in (take (record_call (after cs (open_call o).run) lent).answer.written (record_call (after cs (open_call o).run) lent).bytes)

  pub ungated-total : (record_call (after cs (open_call o).run) lent).answer.total ≡ sum o.stocks
  unfolding opened_run
  ungated-total =
      let r = (open_call o).run in
      let edition : edition_of r.head ≡ o.terms.edition = ap (λ (x : Answer). edition_of x.run.head) (is_open o opened).result in
      let calls = accepted_calls cs r in
      let fed = moves calls (open_s (opening_of (filled o))) in
      let none = none_inside shown.events (λ k. 0) fed
      (none-through calls (open_s (opening_of (filled o))) (all-ungated cs r (subst (λ (n : ℕ). n ≤ 2) (sym edition) low))) in
      omega (arith, (true-demand o opened cs typed lent).balances answered, sum-filled o, none.0, none.1)

  -- So have the stocks and lines that the bytes written show.
  pub ungated-shown : total o.terms.count shown.park ≡ sum o.stocks
  ungated-shown = sym ((true-demand o opened cs typed lent).shows-total answered) ∙ ungated-total
