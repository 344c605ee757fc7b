-- The numbers that calls answer: each is 0 or of the call's list, and a sound run answers a hand-over by four numbers of it alone.
use mathlib.Core.Path.{◌≡◌, refl, sym, ◌∙◌, ap, subst}
use mathlib.Core.Bool.{Bool, true, false, cond}
use mathlib.Core.Logic.{◌≢◌}
use mathlib.Core.List.{List, [], ◌∷◌}
use Prim.Native.Nat.{ℕ}
use Rattle.rules.specs.Questions.{Question, question, ask, refusal, index, Among}
use Rattle.channel.specs.Channels.{channel_index, len_of}
use Rattle.run.specs.State.{zone_at, all_cars, is_sound, edition_of, count_of}
use Rattle.run.specs.Calls.{refused, answer, granted, questions}
use Rattle.run.specs.Claims.{send_questions, send_refusal, gate_questions, gate_refusal, gate_refusals, open_refusals, possible_answers}
use Rattle.run.specs.declared.Run.{Run}
use Rattle.run.specs.Answer.{Answer}
use Rattle.run.proofs.Outcome.{answer-is, listed, unlisted}
use Rattle.run.specs.declared.SiteCall.{SiteCall}
use Rattle.run.specs.Opening.{open_call, open_questions}
use Rattle.run.specs.declared.SiteCall.TheVariants.{Send, Gate}
use Rattle.rules.specs.declared.Direction.{Direction}
use Rattle.rules.specs.declared.Direction.TheVariants.{In, Out}
use Rattle.run.specs.declared.Opening.{Opening}
use Rattle.rules.proofs.AskLaws.{not-among, refusal-among}

ask-refusal : (qs : List Question) (r : Run) (x : Answer) → x.refusal ≡ 0 → (ask qs (refused r) x).refusal ≡ refusal qs
ask-refusal [] r x e = e
ask-refusal (q ∷ qs) r x e = go q.yes (ask-refusal qs r x e)
  where
    go : (b : Bool) → (ask qs (refused r) x).refusal ≡ refusal qs
        → (cond b (ask qs (refused r) x) (refused r q.number)).refusal ≡ cond b (refusal qs) q.number
    go true h = h
    go false h = refl

pub refusal_is : (c : SiteCall) (r : Run) → (answer c r).refusal ≡ refusal (questions c r)
refusal_is c r = ap (λ (x : Answer). x.refusal) (answer-is c r) ∙ ask-refusal (questions c r) r (granted c r) refl

-- "Hand-over: 1, 5, 6, 7, 8.": a sound run answers 5 to 8 or 0, by its zone count, its number of records, the sender's stock and the
-- channel's length.
pub send-answer : (r : Run) (from to cars : ℕ) → is_sound r ≡ true
    → (answer (Send from to cars) r).refusal
    ≡ send_refusal (count_of r.head) r.head.records (zone_at r.head (index from)).stock (len_of r.channels (channel_index (index from) (index to)))
    from to cars
unfolding answer
send-answer r from to cars e =
    let stock = (zone_at r.head (index from)).stock in
    let len = len_of r.channels (channel_index (index from) (index to)) in
    ask-refusal (question 1 (is_sound r) ∷ send_questions (count_of r.head) r.head.records stock len from to cars) r (granted (Send from to cars) r)
    refl
    ∙ rw e

pub send-among : (count records stock len from to cars : ℕ)
    → Among (send_refusal count records stock len from to cars) (0 ∷ 5 ∷ 6 ∷ 7 ∷ 8 ∷ [])
send-among count records stock len from to cars = refusal-among (send_questions count records stock len from to cars)

-- "1, then 15 .., 5, 6, then 7 for an exit", 21 for an entry: a sound run answers a gate call by its edition, its zone count, its number of
-- records, the zone's stock, and its stocks plus cars on lines, whether a recording is started or not.
pub gate-answer : (r : Run) (d : Direction) (zone cars : ℕ) → is_sound r ≡ true
    → (answer (Gate d zone cars) r).refusal
    ≡ gate_refusal d (edition_of r.head) (count_of r.head) r.head.records (zone_at r.head (index zone)).stock (all_cars r) zone cars
unfolding answer
gate-answer r d zone cars e =
    let stock = (zone_at r.head (index zone)).stock in
    ask-refusal (question 1 (is_sound r) ∷ gate_questions d (edition_of r.head) (count_of r.head) r.head.records stock (all_cars r) zone cars) r
    (granted (Gate d zone cars) r) refl
    ∙ rw e

pub gate-among : (d : Direction) (edition count records stock held zone cars : ℕ)
    → Among (gate_refusal d edition count records stock held zone cars) (0 ∷ 15 ∷ 5 ∷ 6 ∷ gate_refusals d)
gate-among In edition count records stock held zone cars = refusal-among (gate_questions In edition count records stock held zone cars)
gate-among Out edition count records stock held zone cars = refusal-among (gate_questions Out edition count records stock held zone cars)

-- Of any run, sound or not: each call answers 0 or a number of its list.
pub call-among : (c : SiteCall) (r : Run) → Among (answer c r).refusal (possible_answers c)
call-among c r =
    subst (λ (n : ℕ). Among n (possible_answers c)) (sym (refusal_is c r))
    (subst (λ (ns : List ℕ). Among (refusal (questions c r)) (0 ∷ ns)) (listed c r) (refusal-among (questions c r)))

pub open-among : (o : Opening) → Among (open_call o).refusal (0 ∷ open_refusals)
unfolding open_call
open-among o =
    subst (λ (n : ℕ). Among n (0 ∷ open_refusals)) (sym (ask-refusal (open_questions o) _ _ refl))
    (refusal-among (open_questions o))

-- No call answers 20.
pub call-never-20 : (c : SiteCall) (r : Run) → (answer c r).refusal ≢ 20
call-never-20 c r = not-among (answer c r).refusal 20 (possible_answers c) (call-among c r) (unlisted c).1

pub open-never-20 : (o : Opening) → (open_call o).refusal ≢ 20
open-never-20 o = not-among (open_call o).refusal 20 (0 ∷ open_refusals) (open-among o) refl
