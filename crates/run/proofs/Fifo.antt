-- First in, first out: on each channel the messages received, followed by those still on it, are the messages sent, in order, each
-- with the cars and the flag that it was sent with.
use mathlib.Core.Path.{◌≡◌, refl, sym, ◌∙◌, ap}
use mathlib.Core.Bool.{Bool, true, false, cond, ◌&&◌, not}
use mathlib.Core.List.{List, [], ◌∷◌, ◌++◌, append-nil, append_assoc, tail}
use Prim.Native.Nat.{ℕ}
use lib.Dec.{eqb}
use Rattle.rules.specs.Change.{on, join}
use Rattle.rules.specs.Questions.{index}
use Rattle.rules.specs.Sets.{has}
use Rattle.rules.specs.Zone.{has_checkpoint, is_permanent, requested, started, targets, carried}
use Rattle.rules.specs.Site.{Item, message, request, Site, pop_s, request_all_s, turn_s, take_s, step_s}
use Rattle.rules.specs.Cut.{May}
use Rattle.rules.specs.declared.Local.{Local}
use Rattle.rules.proofs.Guarded.{on_same}
use Rattle.rules.proofs.Tests.{both_true}
use Rattle.run.specs.Calls.{answer}
use Rattle.run.specs.Model.{site_of}
use Rattle.run.specs.Lists.{call_of, is_accepted, after, messages, first_message, puts, takes_off, sent_on, received_on}
use Rattle.run.specs.Claims.{WholeRun, AllTyped}
use Rattle.run.specs.declared.Run.{Run}
use Rattle.run.proofs.Outcome.{kept}
use Rattle.run.proofs.Whole.{call-whole}
use Rattle.run.proofs.Refine.{refine, open-refines}
use Rattle.run.specs.declared.SiteCall.{SiteCall}
use Rattle.run.specs.declared.SiteCall.TheVariants.{Receive, Send, Start, Gate}
use Rattle.run.specs.declared.Opening.{Opening}
use Rattle.run.specs.Opening.{open_call}

messages-join : (x : Item) (xs : List Item) → messages (join x xs) ≡ messages xs ++ messages (x ∷ [])
messages-join x [] = refl
messages-join x (message cars flag ∷ ys) = ap (λ (l : List Item). message cars flag ∷ l) (messages-join x ys)
messages-join x (request set ∷ ys) = messages-join x ys

messages-first : (xs : List Item) → messages xs ≡ first_message xs ++ messages (tail xs)
messages-first [] = refl
messages-first (message cars flag ∷ xs) = refl
messages-first (request set ∷ xs) = refl

-- Requests are no messages.
requests-messages : (b to set : ℕ) (g : Local → Local) (s : Site) (i j : ℕ)
    → messages ((request_all_s b g to set s).channel i j) ≡ messages (s.channel i j)
requests-messages b to set g s i j =
    on_same messages (eqb i b && has to j) (join (request set)) (s.channel i j)
    (messages-join (request set) (s.channel i j) ∙ append-nil (messages (s.channel i j)))

pop-messages : (a b : ℕ) (s : Site) (i j : ℕ)
    → messages (s.channel i j)
    ≡ cond (eqb i a && eqb j b) (first_message (s.channel i j)) [] ++ messages ((pop_s a b s).channel i j)
pop-messages a b s i j = go (eqb i a && eqb j b)
  where
    go : (t : Bool) → messages (s.channel i j) ≡ cond t (first_message (s.channel i j)) [] ++ messages (on t tail (s.channel i j))
    go true = messages-first (s.channel i j)
    go false = refl

take-messages : (a b : ℕ) (s : Site) (i j : ℕ) (xs : List Item) → (xs ≡ [] → ⊥)
    → messages ((take_s a b xs s).channel i j) ≡ messages ((pop_s a b s).channel i j)
take-messages a b s i j [] n = absurd (n refl)
take-messages a b s i j (message cars flag ∷ xs) n = refl
take-messages a b s i j (request set ∷ xs) n =
    on_same (λ (t : Site). messages (t.channel i j)) (not (is_permanent (s.zone b).checkpoint)) (turn_s b set) (pop_s a b s)
    (requests-messages b (targets b set (s.zone b)) (carried set (s.zone b)) requested (pop_s a b s) i j)

-- One call: what was on the channel and what it puts there are what it takes off and what is left.
step-messages : (c : SiteCall) (r : Run) (i j : ℕ) → May (call_of c) (site_of r)
    → messages ((site_of r).channel i j) ++ puts i j c r ≡ takes_off i j c r ++ messages ((step_s (call_of c) (site_of r)).channel i j)
step-messages (Send from to cars) r i j m = go (eqb i (index from) && eqb j (index to)) refl
  where
    a : ℕ
    a = index from

    go : (t : Bool) → eqb i a && eqb j (index to) ≡ t
        → messages ((site_of r).channel i j) ++ cond t (message cars (has_checkpoint ((site_of r).zone i).checkpoint) ∷ []) []
        ≡ messages (on t (join (message cars (has_checkpoint ((site_of r).zone a).checkpoint))) ((site_of r).channel i j))
    go true e =
        let (x, y) = both_true i a j (index to) e in
        ap (λ (k : ℕ). messages ((site_of r).channel i j) ++ (message cars (has_checkpoint ((site_of r).zone k).checkpoint) ∷ [])) x
        ∙ sym (messages-join _ ((site_of r).channel i j))
    go false e = append-nil (messages ((site_of r).channel i j))
step-messages (Receive from to) r i j m =
    let a = index from in
    let b = index to in
    append-nil (messages ((site_of r).channel i j)) ∙ pop-messages a b (site_of r) i j
    ∙ ap (λ (l : List Item). takes_off i j (Receive from to) r ++ l) (sym (take-messages a b (site_of r) i j ((site_of r).channel a b) m))
step-messages (Start zone) r i j m =
    append-nil (messages ((site_of r).channel i j)) ∙ sym (requests-messages (index zone) _ _ started (site_of r) i j)
step-messages (Gate d zone cars) r i j m = append-nil (messages ((site_of r).channel i j))

-- Any run, any list of calls.
pub fifo-from : (i j : ℕ) (cs : List SiteCall) (r : Run) → WholeRun r → AllTyped cs
    → messages ((site_of r).channel i j) ++ sent_on i j cs r ≡ received_on i j cs r ++ messages ((site_of (after cs r)).channel i j)
fifo-from i j [] r w t = append-nil (messages ((site_of r).channel i j))
fifo-from i j (c ∷ cs) r w t =
    sym (append_assoc (on-now r) put later)
    ∙ ap (λ (l : List Item). l ++ later) (one (is_accepted c r) refl)
    ∙ append_assoc off (on-now next) later
    ∙ ap (λ (l : List Item). off ++ l) (fifo-from i j cs next (call-whole c r w) t.1)
    ∙ sym (append_assoc off (received_on i j cs next) (on-now (after cs next)))
  where
    next : Run
    next = (answer c r).run

    on-now : Run → List Item
    on-now r = messages ((site_of r).channel i j)

    put : List Item
    put = cond (is_accepted c r) (puts i j c r) []

    off : List Item
    off = cond (is_accepted c r) (takes_off i j c r) []

    later : List Item
    later = sent_on i j cs next

    one : (b : Bool) → is_accepted c r ≡ b → on-now r ++ cond b (puts i j c r) [] ≡ cond b (takes_off i j c r) [] ++ on-now next
    one true e =
        let (q, m) = refine c r w t.0 e in
        step-messages c r i j m ∙ ap (λ (s : Site). takes_off i j c r ++ messages (s.channel i j)) (sym q)
    one false e = append-nil (on-now r) ∙ ap on-now (sym (kept c r e))

-- From an accepted opening.
pub fifo : (o : Opening) (cs : List SiteCall) (i j : ℕ) → (open_call o).refusal ≡ 0 → AllTyped cs
    → received_on i j cs (open_call o).run ++ messages ((site_of (after cs (open_call o).run)).channel i j)
    ≡ sent_on i j cs (open_call o).run
fifo o cs i j e t =
    let r = (open_call o).run in
    let (q, w) = open-refines o e in
    sym (fifo-from i j cs r w t) ∙ ap (λ (s : Site). messages (s.channel i j) ++ sent_on i j cs r) q
