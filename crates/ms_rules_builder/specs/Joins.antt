-- The steps that join the masks of operands.
use Rattle.std.specs.Prelude.{ℕ, zero, suc, List, [], ◌∷◌, ◌++◌, length, replicate, if◌then◌else◌}
use Rattle.ms_ir.specs.declared.syntax.Ty.{Int}
use Rattle.ms_ir.specs.Layout.{width_of}
use Rattle.ms_pass_tasks.specs.Tasks.{Expr}
use Rattle.ms_pass_tasks.specs.Environments.{Tracked, is_zero, unknown, mask_of, widened_mask, extended_mask, joined}
use Rattle.ms_rules_builder.specs.declared.steps.Operation.TheVariants as operation
use Rattle.ms_rules_builder.specs.declared.steps.Width.{Width}
use Rattle.ms_rules_builder.specs.declared.steps.Width.TheVariants as width
use Rattle.ms_rules_builder.specs.declared.steps.StackOp.{StackOp}
use Rattle.ms_rules_builder.specs.declared.steps.StackOp.TheVariants as step
use Rattle.ms_rules_builder.specs.declared.unions.Widening.{Widening}
use Rattle.ms_rules_builder.specs.declared.unions.Widening.TheVariants as widening
use Rattle.ms_rules_builder.specs.Steps.{Inputs, bits_in}

-- the width of the words of a union
abbrev pub width_in : Widening → Width
width_in widening.Own = width.Own
width_in widening.Zeros = width.Bits 64
width_in widening.Sign = width.Bits 64

-- the word of a union that is made of an operand's mask
abbrev pub word_in : Widening → Tracked → Expr
word_in widening.Own = mask_of
word_in widening.Zeros = widened_mask
word_in widening.Sign = extended_mask

-- the union of the masks of operands
abbrev pub union_in : Inputs → Widening → List Tracked → Expr
union_in i how ts = joined (Int (bits_in i (width_in how))) (word_in how) (unknown ts)

-- the steps of the word of the operand with a place, whose mask has so many bits
abbrev pub mask_steps : Widening → (place bits : ℕ) → List StackOp
mask_steps widening.Own k w = step.Mask k ∷ []
mask_steps widening.Zeros k w = step.Mask k ∷ step.Widen w ∷ []
mask_steps widening.Sign k w = step.Mask k ∷ step.Extend w ∷ []

-- those of the operands whose masks aren't known to be 0, of which the first has a place
abbrev pub masks_from : Widening → ℕ → List Tracked → List StackOp
masks_from how k [] = []
masks_from how k (t ∷ ts) =
    if is_zero t.mask then masks_from how (suc k) ts else mask_steps how k (width_of t.ty) ++ masks_from how (suc k) ts

-- the steps that make one word of so many
abbrev pub joins : Widening → ℕ → List StackOp
joins how zero = step.Constant 0 ∷ []
joins how (suc n) = replicate n (step.Two operation.Or (width_in how))

abbrev pub union_steps : Widening → List Tracked → List StackOp
union_steps how ts = masks_from how 0 ts ++ joins how (length (unknown ts))
