-- Demand 3, whole, over the facts that the functions promise: the modules Site and Recording of crates/promises say that they keep them.
use mathlib.Core.Path.{◌≡◌, sym, ◌∙◌, ap, subst}
use mathlib.Core.List.{List}
use Prim.Native.Nat.{ℕ}
use Rattle.rules.specs.Site.{Call}
use Rattle.run.specs.Claims.{filled}
use Rattle.run.specs.Lists.{after, accepted_calls}
use Rattle.run.specs.Opening.{opening_as, open_call}
use Rattle.run.specs.Answer.{Answer}
use Rattle.run.specs.declared.Opening.{Opening}
use Rattle.run.specs.declared.Run.{Run}
use Rattle.run.specs.declared.SiteCall.{SiteCall}
use Rattle.run.specs.declared.Terms.{Terms}
use Rattle.recording.specs.Answers.{Recorded}
use Rattle.recording.specs.Call.{record_call}
use Rattle.promises.specs.Answers.{OpenAnswers, RecordAnswers}
use Rattle.demand.specs.Demand.{Demand}
use Rattle.demand.specs.Made.{Made}
use Rattle.demand.proofs.Calls.{Comes, made-comes}
use Rattle.demand.proofs.Recorded.{true-demand}

-- The same, where the answers are those of the definitions.
at-definitions : (o : Opening) (a : Answer) → a ≡ open_call o → a.refusal ≡ 0
    → (cs : List SiteCall) (accepted : List Call) (r : Run) → Comes a.run cs accepted r
    → (lent bytes : List ℕ) (w : Recorded) → w ≡ (record_call r lent).answer → bytes ≡ (record_call r lent).bytes
    → Demand (filled o) accepted r lent w bytes
at-definitions o a e z cs accepted r h lent bytes w f g =
    let opened : (open_call o).refusal ≡ 0 = subst (λ (x : Answer). x.refusal ≡ 0) e z in
    let k : accepted ≡ accepted_calls cs (open_call o).run = h.calls ∙ ap (λ (x : Answer). accepted_calls cs x.run) e in
    let q : r ≡ after cs (open_call o).run = h.result ∙ ap (λ (x : Answer). after cs x.run) e in
    subst (λ (x : List ℕ). Demand (filled o) accepted r lent w x) (sym g)
    (subst (λ (x : Recorded). Demand (filled o) accepted r lent x (record_call r lent).bytes) (sym f)
    (subst (λ (x : List Call). Demand (filled o) x r lent (record_call r lent).answer (record_call r lent).bytes) (sym k)
    (subst (λ (x : Run). Demand (filled o) (accepted_calls cs (open_call o).run) x lent (record_call x lent).answer (record_call x lent).bytes) (sym q)
    (true-demand o opened cs h.typed lent))))

-- An accepted opening; a list of calls, refused ones included, each on the run that the one before it handed back; then a recording call. An
-- opening with an empty stock list is that of an empty car park.
pub demand-three : (terms : Terms) (stocks : List ℕ) (a : Answer) → OpenAnswers terms stocks a → a.refusal ≡ 0
    → (cs : List SiteCall) (accepted : List Call) (r : Run) → Made a.run cs accepted r
    → (lent bytes : List ℕ) (w : Recorded) → RecordAnswers r lent w bytes
    → Demand (filled (opening_as terms stocks)) accepted r lent w bytes
demand-three terms stocks a e z cs accepted r m lent bytes w f =
    at-definitions (opening_as terms stocks) a e z cs accepted r (made-comes m) lent bytes w f.0 f.1
