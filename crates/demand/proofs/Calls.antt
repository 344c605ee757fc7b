-- Calls known by what they answer alone lead where the definitions lead.
use mathlib.Core.Path.{◌≡◌, refl, sym, ap, subst}
use mathlib.Core.List.{List, ◌∷◌, ◌++◌}
use lib.Dec.{eqb}
use Rattle.rules.specs.Change.{cons-if}
use Rattle.rules.specs.Site.{Call}
use Rattle.rules.proofs.Lists.{cons-append}
use Rattle.run.specs.Calls.{answer}
use Rattle.run.specs.Claims.{Typed, AllTyped}
use Rattle.run.specs.Lists.{call_of, after, accepted_calls}
use Rattle.run.specs.declared.Run.{Run}
use Rattle.run.specs.Answer.{Answer}
use Rattle.run.specs.declared.SiteCall.{SiteCall}
use Rattle.promises.specs.Answers.{Answers}
use Rattle.demand.specs.Made.{Made, done, then}

-- What a list of calls, made one after another, comes to.
pub record Comes (r : Run) (cs : List SiteCall) (accepted : List Call) (r' : Run) : Type 0 where
  pub typed : AllTyped cs
  pub calls : accepted ≡ accepted_calls cs r
  pub result : r' ≡ after cs r

comes-more : (r r' : Run) (c : SiteCall) (cs : List SiteCall) (accepted : List Call) (a : Answer) → Typed c → Answers c r a → Comes a.run cs accepted r'
    → Comes r (c ∷ cs) (cons-if (eqb a.refusal 0) (call_of c) accepted) r'
comes-more r r' c cs accepted a t e h =
    subst (λ (x : Answer). Comes x.run cs accepted r' → Comes r (c ∷ cs) (cons-if (eqb x.refusal 0) (call_of c) accepted) r') (sym e)
    (λ (w : Comes (answer c r).run cs accepted r'). record {
      typed = (t, w.typed);
      calls = ap (cons-if (eqb (answer c r).refusal 0) (call_of c)) w.calls;
      result = w.result;
    }) h

pub made-comes : {r r' : Run} {cs : List SiteCall} {accepted : List Call} → Made r cs accepted r' → Comes r cs accepted r'
made-comes done = record { typed = tt; calls = refl; result = refl }
made-comes (then {r} {r'} {c} {cs} {accepted} a t e m) = comes-more r r' c cs accepted a t e (made-comes m)

-- Two lists, one after the other.
pub made-append : {r s t : Run} {cs ds : List SiteCall} {xs ys : List Call} → Made r cs xs s → Made s ds ys t → Made r (cs ++ ds) (xs ++ ys) t
made-append done n = n
made-append {t = t} {ds = ds} {ys = ys} (then {r} {r'} {c} {cs} {accepted} a w e m) n =
    subst (λ (l : List Call). Made r (c ∷ cs ++ ds) l t) (sym (cons-append (eqb a.refusal 0) (call_of c) accepted ys))
    (then a w e (made-append m n))
