-- Two results of one call: what 01, "Nothing vague in a contract", asks to agree.
use Rattle.std.specs.Prelude.{◌≡◌, List, ℕ}
use contract.Lifetimes.{Lfts}
use denote.Triple.Clauses.{AtExit}
use borrow.Fn.Kinds.{ParamKind, ResultKind, Out, Dens, res_t, ended_of}

-- two results x and y, with the parameters at exit d and e, that a contract allows on the same arguments
pub record TwoResults (n : ℕ) (ps : List (ParamKind n)) (r : ResultKind n) (contract : Out n ps r) : Type 0 where
  pub lifetimes : Lfts n
  pub args : Dens lifetimes ps
  pub x : (res_t r lifetimes).Denot
  pub y : (res_t r lifetimes).Denot
  pub d : AtExit (ended_of n ps r) lifetimes
  pub e : AtExit (ended_of n ps r) lifetimes
  pub first : contract lifetimes args x d
  pub second : contract lifetimes args y e

-- any two results agree
abbrev pub Settled : (n : ℕ) (ps : List (ParamKind n)) (r : ResultKind n) → Out n ps r → Type 0
Settled n ps r contract = (t : TwoResults n ps r contract) → t.x ≡ t.y

-- a contract that is one equation, of the result with a meaning of the arguments, and says nothing else
abbrev pub Equation : (n : ℕ) (ps : List (ParamKind n)) (r : ResultKind n) → ((κs : Lfts n) → Dens κs ps → (res_t r κs).Denot) → Out n ps r
Equation n ps r meaning = λ κs args x d. x ≡ meaning κs args
