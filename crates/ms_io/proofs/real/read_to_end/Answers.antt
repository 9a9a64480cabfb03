use Rattle.std.proofs.Common.{ℕ, List, All, ◌<◌, ◌^◌, Err, subst}
use Rattle.ms_io.specs.declared.traits.FileError.{FileError}
use Rattle.ms_io.specs.declared.traits.FileError.TheVariants.{Failed, Absent, TooLong, NoMemory}
use Rattle.ms_io.specs.Reading.{IfTooLong}
use Rattle.ms_io.proofs.real.read_to_end.Goals as goal

never_long : (error : FileError) (P : ℕ → Type 0) → IfTooLong {A = ℕ} (Err error) (λ n. ⊥) → IfTooLong {A = ℕ} (Err error) P
never_long Failed P never = tt
never_long Absent P never = tt
never_long (TooLong taken) P never = absurd never
never_long NoMemory P never = tt

pub returns-in-Err-clause-too_long : goal.returns-in-Err-clause-too_long
returns-in-Err-clause-too_long g c = never_long c.in-Err.error _ c.in-Err.ensures.never_too_long

pub returns-in-Ok-eq0-clause-bytes : goal.returns-in-Ok-eq0-clause-bytes
returns-in-Ok-eq0-clause-bytes g c = subst (λ (bs : List ℕ). All (λ b. b < 2 ^ 8) bs) c.deref.ensures.value c.law_in_range.ensures
