-- Document 01, "Holding answers to account": "show that no second answer fits". The claims below are about the contracts themselves, as the
-- prover reads them off the source: `Post` is what a function's `ensures` says of its arguments, its result and what it leaves.
-- Assumes nothing.
use Rattle.std.specs.Prelude.{◌≡◌, List, ℕ}
use contract.Lifetimes.{Lfts}
use denote.Triple.Clauses.{AtExit}
use borrow.Fn.Kinds.{ParamKind, ResultKind, Out, Dens, res_t, ended_of}

module _ (n : ℕ) (params : List (ParamKind n)) (result : ResultKind n) (Post : Out n params result) where
  -- two results that meet the contract for the same arguments, with what they leave, agree in this sense
  abbrev pub Agree : ((κs : Lfts n) → (res_t result κs).Denot → (res_t result κs).Denot → AtExit (ended_of n params result) κs → AtExit (ended_of n params result) κs → Type 0) → Type 0
  Agree Same =
      (κs : Lfts n) (args : Dens κs params) (r s : (res_t result κs).Denot) (x y : AtExit (ended_of n params result) κs)
      → Post κs args r x → Post κs args s y → Same κs r s x y

  -- they are equal
  abbrev pub OneAnswer : Type 0
  OneAnswer = Agree (λ κs r s x y. r ≡ s)

  -- they are equal, and so are the bytes that are left in what was lent
  abbrev pub OneOutcome : ((κs : Lfts n) → AtExit (ended_of n params result) κs → List ℕ) → Type 0
  OneOutcome left = Agree (λ κs r s x y. (r ≡ s) × (left κs x ≡ left κs y))
