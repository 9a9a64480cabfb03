-- The origins of words and of what they come to are numbers of 32 bits.
use Rattle.std.proofs.Common.{ℕ, zero, suc, ◌+◌, ◌^◌, ◌<◌, List, [], ◌∷◌, Bool, true, false, Option, Some, None, eqb, arith}
use Rattle.std.specs.Prelude.{if◌then◌else◌}
use Rattle.ms_ir.specs.declared.syntax.Name.{Name}
use Rattle.ms_ir.specs.declared.syntax.Ty.{Ty}
use Rattle.ms_ir.specs.declared.syntax.Operand.{Operand}
use Rattle.ms_ir.specs.declared.syntax.Operand.TheVariants as operand
use Rattle.ms_ir.specs.declared.calls.External.{External}
use Rattle.ms_ir.specs.declared.calls.External.TheVariants.{Word}
use Rattle.ms_ir.specs.Instructions.{one_undef, count_undefs}
use Rattle.ms_runs.specs.World.{Setting}
use Rattle.ms_runs.specs.Poisoned.{Poisoned}
use Rattle.ms_runs.specs.Control.{read_all}
use Rattle.ms_runs.specs.Masks.{word_at, last_origin, answer_origin}
use Rattle.ms_runs.specs.Shadow.{read_poisoned, operand_origin}
use Rattle.ms_pass_tasks.specs.Match.{RangedValues}

-- the origins of words
abbrev pub AreRanged : List Poisoned → Type 0
AreRanged [] = Unit {0}
AreRanged (p ∷ ps) = (p.origin < 2 ^ 32) × AreRanged ps

pub operand_ranged : (values : Name → Poisoned) (root : ℕ) (o : Operand) → RangedValues values → root + one_undef o < 2 ^ 32 → operand_origin values root o < 2 ^ 32
operand_ranged values root operand.Undef r lt = lt
operand_ranged values root operand.Poison r lt = lt
operand_ranged values root (operand.Local x) r lt = r x
operand_ranged values root (operand.Int n) r lt = omega arith
operand_ranged values root operand.Null r lt = omega arith
operand_ranged values root (operand.Global x) r lt = omega arith
operand_ranged values root (operand.Offset x steps) r lt = omega arith

pub words_ranged : (s : Setting) (values : Name → Poisoned) (os : List (Ty × Operand)) (root : ℕ) → RangedValues values → root + count_undefs os < 2 ^ 32 → AreRanged (read_all (read_poisoned s values) os root)
words_ranged s values [] root r lt = tt
words_ranged s values (o ∷ os) root r lt =
    (operand_ranged values root o.1 r (omega (arith, lt)), words_ranged s values os (root + one_undef o.1) r (omega (arith, lt)))

pub at_ranged : (k : ℕ) (ps : List Poisoned) → AreRanged ps → (word_at k ps).origin < 2 ^ 32
at_ranged k [] r = omega arith
at_ranged zero (p ∷ ps) r = r.0
at_ranged (suc k) (p ∷ ps) r = at_ranged k ps r.1

pub last_ranged : (ps : List Poisoned) (best : ℕ) → AreRanged ps → best < 2 ^ 32 → last_origin ps best < 2 ^ 32
last_ranged [] best r lt = lt
last_ranged (p ∷ ps) best r lt = last_ranged ps _ r.1 (go (eqb p.mask 0))
  where
    go : (b : Bool) → (if b then best else p.origin) < 2 ^ 32
    go true = lt
    go false = r.0

pub answer_ranged : (e : Option External) (ps : List Poisoned) → AreRanged ps → answer_origin e ps < 2 ^ 32
answer_ranged None ps r = omega arith
answer_ranged (Some (Word f n)) ps r = last_ranged ps _ r (at_ranged 0 ps r)
answer_ranged (Some e) ps r = omega arith
