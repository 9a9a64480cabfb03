-- What code shows of its uses agrees with the table of them.
use Rattle.std.proofs.Common.{◌≡◌, ℕ, Bool, true, false, eqb, List, [], ◌∷◌, if◌then◌else◌, Option, Some, None, refl, sym, ap, ◌∙◌, true≢false}
use Rattle.ms_bits.specs.declared.operations.BinOp.{BinOp}
use Rattle.ms_bits.specs.declared.operations.BinOp.TheVariants.{Udiv, Sdiv, Urem, Srem}
use Rattle.ms_ir.specs.declared.syntax.Inst.{Inst}
use Rattle.ms_runs.specs.World.{World}
use Rattle.ms_runs.specs.Poisoned.{Poisoned}
use Rattle.ms_runs.specs.Uses.{binary_uses}
use Rattle.ms_machine_code.specs.declared.code.Code.{Code}
use Rattle.ms_machine_code.specs.declared.code.Code.TheVariants as code
use Rattle.ms_machine_code.specs.Words.{word_of}
use Rattle.ms_machine_code.specs.Encodes.{Where, Encodes}
use Rattle.ms_trail_masks.specs.Shades.{mask_of}
use Rattle.ms_trail_masks.specs.Results.{bare}
use Rattle.ms_trail_uses.specs.declared.used.Used.{Used}
use Rattle.ms_trail_uses.specs.declared.used.Used.TheVariants as read
use Rattle.ms_trail_uses.specs.Used.{or_used, first_read, op_read, seen, code_read}
use Rattle.ms_trail_uses.specs.CleanUses.{is_checked, uses_clean}

-- the only use, of a clean word
one_clean : (clean : Bool) (k : ℕ) → clean ≡ true → or_used (if clean then None else Some (read.Operand k)) None ≡ None
one_clean clean k e = ap (λ (b : Bool). or_used (if b then None else Some (read.Operand k)) None) e

divisor_clean : (b : BinOp) (w : World) (p q : Poisoned) → (if is_checked b then eqb q.mask 0 else true) ≡ true → first_read w (p ∷ q ∷ []) (binary_uses b) ≡ None
divisor_clean Udiv w p q e = one_clean (eqb q.mask 0) 1 e
divisor_clean Sdiv w p q e = one_clean (eqb q.mask 0) 1 e
divisor_clean Urem w p q e = one_clean (eqb q.mask 0) 1 e
divisor_clean Srem w p q e = one_clean (eqb q.mask 0) 1 e
divisor_clean b w p q e = refl

module _ (fill xs ms : List ℕ) (at : Where) (world : World) where
  pub clean_unused : (k : Code) (inst : Inst) → Encodes at k inst → uses_clean ms k ≡ true → code_read fill xs ms world inst.op k ≡ None
  clean_unused (code.Binary b flags w x y to) inst (t, p, q, (is, wide, rx, ry, res)) clean =
      ap (op_read world (seen fill xs ms (x ∷ y ∷ [])) false None) is ∙ divisor_clean b world (bare (word_of fill xs x) (mask_of ms x)) (bare (word_of fill xs y) (mask_of ms y)) clean
  clean_unused (code.Alloca size count to) inst (t, v, p, (is, sized, reads, res, plain)) clean = ap (op_read world (seen fill xs ms (count ∷ [])) false None) is ∙ one_clean (eqb (mask_of ms count) 0) 0 clean
  clean_unused (code.Load size mask addr to) inst (t, p, (is, sized, cut, reads, res, plain)) clean = ap (op_read world (seen fill xs ms (addr ∷ [])) false None) is ∙ one_clean (eqb (mask_of ms addr) 0) 0 clean
  clean_unused (code.Store size value addr) inst (t, p, q, (is, sized, first, reads, res, plain)) clean = ap (op_read world (seen fill xs ms (value ∷ addr ∷ [])) false None) is ∙ one_clean (eqb (mask_of ms addr) 0) 1 clean
  clean_unused (code.Branch c taken other) inst (k, to, to', (is, reads, leads, others, plain)) clean = ap (op_read world (seen fill xs ms (c ∷ [])) false None) is ∙ one_clean (eqb (mask_of ms c) 0) 0 clean
  clean_unused (code.Switch v cases other) inst (t, k, to, named, (is, reads, leads, others, plain)) clean = ap (op_read world (seen fill xs ms (v ∷ [])) false None) is ∙ one_clean (eqb (mask_of ms v) 0) 0 clean
  clean_unused (code.Exit v) inst (value, (is, returns, main, plain)) clean = ap (op_read world (seen fill xs ms (v ∷ [])) true None) is ∙ one_clean (eqb (mask_of ms v) 0) 0 clean
  clean_unused (code.External e args types to) inst encodes clean = absurd (true≢false (sym clean))
  clean_unused k inst encodes clean = refl
