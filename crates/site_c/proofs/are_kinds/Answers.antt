-- `site_c::are_kinds` meets its contract: every zone's mark kind, at all eight indices.
use Rattle.std.proofs.Common.{◌≡◌, ◌∙◌, ◌≤◌, ◌&&◌, ℕ, zero, suc, Bool, List, length, take, refl, sym, ap, rules, arith, add-one}
use lib.Dec.{leb}
use lib.Seq.{take_all}
use borrow.Author.Tests.{tests}
use Rattle.std.specs.List.{list_all}
use Rattle.std.proofs.lemmas.Iterator.{YieldsList-from_slice}
use Rattle.std.proofs.lemmas.Iterator.Search.{all_from_yields_List}
use Rattle.std.proofs.lemmas.List.Folds.{list_all_more}
use Rattle.rules.specs.Below.{all_below}
use Rattle.site_c.specs.declared.PlainLocal.{PlainLocal}
use Rattle.site_c.specs.Plain.{no_plain, plain_at, are_kinds}
use Rattle.site_c.proofs.are_kinds.Goals as goal

-- The first n zones pass a test.
front : (test : PlainLocal → Bool) (zones : List PlainLocal) (n : ℕ) → n ≤ length zones
    → list_all test (take n zones) ≡ all_below n (λ i. test (plain_at zones i))
front test zones zero h = refl
front test zones (suc n) h =
    ap (λ (m : ℕ). list_all test (take m zones)) (sym (add-one n)) ∙ list_all_more test zones n no_plain h
    ∙ ap (λ (b : Bool). b && test (plain_at zones n)) (front test zones n (omega arith))

pub returns : goal.returns
unfolding are_kinds
returns c =
    let zones = c.args.zones in
    let test = λ (z : PlainLocal). leb z.mark 2 in
    let l : length zones ≡ 8 = search rules in
    all_from_yields_List test _ _ c.all.result c.all.ensures.ran (YieldsList-from_slice zones (search rules)) (λ x b q k. search (rules, tests))
    ∙ ap (list_all test) (sym (take_all 8 zones (omega arith))) ∙ front test zones 8 (omega arith)
