-- What it is for a function to keep a promise: it may be called with everything that its types can hold, it returns, and the promised
-- fact holds of what was passed, of what it left of what was lent, and of the answer. Nothing is read of the function's own contract: from its
-- module comes `ended`, which has the types of the parameters and of the answer, and no clause.
use Rattle.std.specs.Prelude.{ℕ, List, [], ◌∷◌}
use seplogic.Ra.Ura.{Ura}
use base.Logic.{emp}
use mir.Syntax.{Callee}
use prog.Model.{Model}
use prog.Wired.{Code, Wired}
use types.Logic.{Logic}
use contract.Lifetimes.{Lfts}
use contract.Monad.{fact}
use contract.Running.{Running}
use denote.Exit.{Exit, unchanged, leaves, Seen}
use denote.RattleType.{Denots}
use denote.Signature.{Slot, types_at}
use denote.Triple.Both.{Both}
use denote.Triple.Clauses.{Ended, closing}
use denote.Triple.End.{Kepts, Outs}
use denote.Triple.Entry.{Res}
use denote.Triple.Spec.{Meets}

-- A fact of one parameter more: of its value, and where it was lent, of its value at entry and at exit.
abbrev Of : {D : Type 0} → Exit D → Type 1 → Type 1
Of {D} unchanged X = D → X
Of {D} (leaves L l S s r₀) X = Both D S → X

abbrev at : {D : Type 0} (e : Exit D) {X : Type 1} → Of e X → D → Seen e → X
at unchanged f x y = f x
at (leaves L l S s r₀) f x y = f (record { entry = x; exit = y })

module _ {n : ℕ} (κs : Lfts n) (R : Type 0) where
  -- A fact of the parameters and the answer.
  abbrev Fact : (ss : List (Slot n)) → Kepts ss → Type 1
  Fact [] ks = R → Type 0
  Fact (s ∷ ss) ks = Of ((s.row κs).exit ks.0) (Fact ss ks.1)

  abbrev holds : (ss : List (Slot n)) (ks : Kepts ss) → Fact ss ks → Denots (types_at ss κs) → Outs κs ss ks → R → Type 0
  holds [] ks P a e r = P r
  holds (s ∷ ss) ks P a e r = holds ss ks.1 (at ((s.row κs).exit ks.0) P a.0 e.0) a.1 e.1 r

-- A function whose parameters and answer are those of T, which is called by `name`, and whose code is `code`, keeps the promise P. What a name
-- means is the environment's to say, and it may be any that has this code, and that of all that is called in it, under its names (`Wired`).
abbrev pub Keeps : (T : Ended) → Callee → Code → ((κs : Lfts T.signature.lifetimes) → Fact κs (Res T.signature κs) T.signature.params T.kept) → Type 2
Keeps T name code P = (M : Type 1) (𝓤 : Ura M) (𝓛 : Logic 𝓤) (𝓜 : Model 𝓤 𝓛.H) (𝓡 : Running 𝓤 𝓛.H 𝓜) → Wired 𝓡.env code
    → Meets 𝓛 T.signature (𝓡.run (𝓡.env name))
    (closing 𝓛 T (λ κs a. record { ghost = Unit {0}; requires = λ _. emp 𝓤; ensures = λ _ r e. fact 𝓤 (holds κs (Res T.signature κs) T.signature.params T.kept (P κs) a e r) }))
