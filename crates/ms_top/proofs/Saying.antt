-- What was written of an answer, by what is known of it.
use Rattle.std.proofs.Common.{ℕ, Result, Ok, Err, sym, subst, inl, inr}
use Rattle.std.specs.Prelude.{IfOk}
use Rattle.ms_top.specs.declared.output.Output.{Output}
use Rattle.ms_top.specs.Said.{Written, IsTold, IsPartlyTold, IsWritten, IsPartlyWritten}

module _ {E : Type 0} (Is : Output → Type 0) (w : Written) where
  pub told : (r : Result Output E) (status : ℕ) → IfOk r Is → IsTold r w status → IsWritten Is w status
  told (Ok b) status h (a, (same, at, whole)) = (a, (inl (subst Is (sym same) h), at, whole))
  told (Err e) status h (a, (same, at, whole)) = (a, (inr same, at, whole))

  pub partly_told : (r : Result Output E) → IfOk r Is → IsPartlyTold r w → IsPartlyWritten Is w
  partly_told (Ok b) h (a, (same, part)) = (a, (inl (subst Is (sym same) h), part))
  partly_told (Err e) h (a, (same, part)) = (a, (inr same, part))

-- what is known of an answer says more of it
module _ (P Q : Output → Type 0) (more : (a : Output) → P a → Q a) (w : Written) where
  pub written_more : (status : ℕ) → IsWritten P w status → IsWritten Q w status
  written_more status (a, (inl is, at, whole)) = (a, (inl (more a is), at, whole))
  written_more status (a, (inr none, at, whole)) = (a, (inr none, at, whole))

  pub partly_more : IsPartlyWritten P w → IsPartlyWritten Q w
  partly_more (a, (inl is, part)) = (a, (inl (more a is), part))
  partly_more (a, (inr none, part)) = (a, (inr none, part))
