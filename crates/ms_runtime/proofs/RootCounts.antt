-- How many roots a formed module has.
use Rattle.std.proofs.Common.{◌≡◌, ◌<◌, ◌≤◌, ◌+◌, ◌^◌, ℕ, suc, List, [], ◌∷◌, ◌++◌, length, Bool, true, false, refl, ap, ◌∙◌, arith, if◌then◌else◌, Option, Some}
use Rattle.std.proofs.lemmas.List.{length-append}
use Rattle.ms_ir.specs.declared.syntax.Name.{Name}
use Rattle.ms_ir.specs.declared.syntax.Ty.{Ty}
use Rattle.ms_ir.specs.declared.syntax.Operand.{Operand}
use Rattle.ms_ir.specs.declared.syntax.Operand.TheVariants as operand
use Rattle.ms_ir.specs.declared.syntax.Op.{Op}
use Rattle.ms_ir.specs.declared.syntax.Op.TheVariants as op
use Rattle.ms_ir.specs.declared.syntax.Inst.{Inst}
use Rattle.ms_ir.specs.declared.syntax.Block.{Block}
use Rattle.ms_ir.specs.declared.syntax.Func.{Func}
use Rattle.ms_ir.specs.declared.syntax.Module.{Module}
use Rattle.ms_ir.specs.declared.calls.External.{External}
use Rattle.ms_ir.specs.declared.calls.External.TheVariants.{Malloc, Realloc, LifetimeStart}
use Rattle.ms_ir.specs.Instructions.{operands, count_undefs, makes_unset, external_named, is_root, roots_in, one_unmarked, func_index, over_insts, over_blocks, over_funcs, count_roots}
use Rattle.ms_ir.specs.Roots.{undef_roots, call_roots, own_roots, inst_roots, insts_roots, blocks_roots, funcs_roots, roots_of}
use Rattle.ms_check_valid.specs.Formed.{Formed, count_written}
use Rattle.ms_runs_good_laws.proofs.Starting.{roots_few}

undefs_counted : (site : ℕ) (os : List (Ty × Operand)) → length (undef_roots site os) ≡ count_undefs os
undefs_counted site [] = refl
undefs_counted site ((t, operand.Undef) ∷ rest) = ap suc (undefs_counted site rest) ∙ (let e : suc (count_undefs rest) ≡ 1 + count_undefs rest = omega arith in e)
undefs_counted site ((t, operand.Poison) ∷ rest) = ap suc (undefs_counted site rest) ∙ (let e : suc (count_undefs rest) ≡ 1 + count_undefs rest = omega arith in e)
undefs_counted site ((t, o) ∷ rest) = undefs_counted site rest ∙ (let e : count_undefs rest ≡ 0 + count_undefs rest = omega arith in e)

call_counted : (site : ℕ) (e : Option External) → length (call_roots site e) ≡ (if makes_unset e then 1 else 0)
call_counted site (Some Malloc) = refl
call_counted site (Some Realloc) = refl
call_counted site (Some LifetimeStart) = refl
call_counted site e = refl

own_counted : (func : Name → Option ℕ) (site : ℕ) (o : Op) → length (own_roots func site o) ≡ (if is_root func o then 1 else 0)
own_counted func site (op.Alloca t u count) = refl
own_counted func site (op.Call ret callee args) = call_counted site (external_named func callee)
own_counted func site o = refl

inst_counted : (func : Name → Option ℕ) (site : ℕ) (i : Inst) → length (inst_roots func site i) ≡ roots_in func i
inst_counted func site i = by_mark i.marked
  where
    by_mark : (b : Bool) → length (if b then [] else (undef_roots site (operands i.op) ++ own_roots func site i.op)) ≡ (if b then 0 else (count_undefs (operands i.op) + (if is_root func i.op then 1 else 0)))
    by_mark true = refl
    by_mark false =
        length-append (undef_roots site (operands i.op)) (own_roots func site i.op)
        ∙ ap (λ (k : ℕ). k + length (own_roots func site i.op)) (undefs_counted site (operands i.op))
        ∙ ap (λ (k : ℕ). count_undefs (operands i.op) + k) (own_counted func site i.op)

insts_counted : (func : Name → Option ℕ) (site : ℕ) (is : List Inst) → length (insts_roots func site is) ≡ over_insts (roots_in func) is
insts_counted func site [] = refl
insts_counted func site (i ∷ is) =
    length-append (inst_roots func site i) (insts_roots func (site + one_unmarked i) is)
    ∙ ap (λ (k : ℕ). k + length (insts_roots func (site + one_unmarked i) is)) (inst_counted func site i)
    ∙ ap (λ (k : ℕ). roots_in func i + k) (insts_counted func (site + one_unmarked i) is)

blocks_counted : (func : Name → Option ℕ) (site : ℕ) (bs : List Block) → length (blocks_roots func site bs) ≡ over_blocks (roots_in func) bs
blocks_counted func site [] = refl
blocks_counted func site (b ∷ bs) =
    length-append (insts_roots func site b.insts) (blocks_roots func (site + over_insts one_unmarked b.insts) bs)
    ∙ ap (λ (k : ℕ). k + length (blocks_roots func (site + over_insts one_unmarked b.insts) bs)) (insts_counted func site b.insts)
    ∙ ap (λ (k : ℕ). over_insts (roots_in func) b.insts + k) (blocks_counted func (site + over_insts one_unmarked b.insts) bs)

funcs_counted : (func : Name → Option ℕ) (site : ℕ) (fs : List Func) → length (funcs_roots func site fs) ≡ over_funcs (roots_in func) fs
funcs_counted func site [] = refl
funcs_counted func site (f ∷ fs) =
    length-append (blocks_roots func site f.blocks) (funcs_roots func (site + over_blocks one_unmarked f.blocks) fs)
    ∙ ap (λ (k : ℕ). k + length (funcs_roots func (site + over_blocks one_unmarked f.blocks) fs)) (blocks_counted func site f.blocks)
    ∙ ap (λ (k : ℕ). over_blocks (roots_in func) f.blocks + k) (funcs_counted func (site + over_blocks one_unmarked f.blocks) fs)

-- the roots are as many as their number says
pub roots_counted : (m : Module) → length (roots_of m) ≡ count_roots m
roots_counted m = funcs_counted (func_index m.funcs) 1 m.funcs

-- ---- and how few

module _ (c d : Inst → ℕ) (each : (i : Inst) → c i ≤ d i) where
  less_insts : (is : List Inst) → over_insts c is ≤ over_insts d is
  less_insts [] = omega arith
  less_insts (i ∷ is) = omega (arith, each i, less_insts is)

  less_blocks : (bs : List Block) → over_blocks c bs ≤ over_blocks d bs
  less_blocks [] = omega arith
  less_blocks (b ∷ bs) = omega (arith, less_insts b.insts, less_blocks bs)

  pub less_funcs : (fs : List Func) → over_funcs c fs ≤ over_funcs d fs
  less_funcs [] = omega arith
  less_funcs (f ∷ fs) = omega (arith, less_blocks f.blocks, less_funcs fs)

pub few_roots : (m : Module) → Formed m → count_roots m < 2 ^ 30
few_roots m formed = omega (arith, less_funcs (roots_in (func_index m.funcs)) count_written (roots_few (func_index m.funcs)) m.funcs, formed.few_operands)

-- a formed module has fewer than 2 to the 30 instructions
pub few_insts : (m : Module) → Formed m → over_funcs (λ inst. 1) m.funcs < 2 ^ 30
few_insts m formed = omega (arith, less_funcs (λ inst. 1) count_written (λ i. omega arith) m.funcs, formed.few_operands)
