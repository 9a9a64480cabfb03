-- A call of a function of whole words in a valid module: its types, and its flag.
use Rattle.std.proofs.Common.{◌≡◌, ℕ, List, [], ◌∷◌, map, Bool, true, false, Option, Some, None, option_map, unwrap_or, slice_get, is_some, refl, sym, ap, ◌∙◌, if◌then◌else◌, true≢false}
use Rattle.std.specs.List.{list_all}
use Rattle.ms_bits.specs.declared.word_functions.WordFn.{WordFn}
use Rattle.ms_bits.specs.declared.word_functions.WordWidth.{WordWidth}
use Rattle.ms_bits.specs.WordFunctions.{bits_of}
use Rattle.ms_ir.specs.declared.syntax.Name.{Name}
use Rattle.ms_ir.specs.declared.syntax.Ty.{Ty, Int}
use Rattle.ms_ir.specs.declared.syntax.Operand.{Operand}
use Rattle.ms_ir.specs.declared.syntax.Op.TheVariants as op
use Rattle.ms_ir.specs.declared.syntax.Inst.{Inst}
use Rattle.ms_ir.specs.declared.syntax.Func.{Func}
use Rattle.ms_ir.specs.declared.syntax.Module.{Module}
use Rattle.ms_ir.specs.declared.calls.External.TheVariants.{Word}
use Rattle.ms_ir.specs.Names.{lookup, externals}
use Rattle.ms_ir.specs.Layout.{width_of}
use Rattle.ms_ir.specs.Instructions.{func_index, func_at, insts_at}
use Rattle.ms_ir.specs.Equal.{result_type_eq}
use Rattle.ms_ir.specs.Signatures.{word_params}
use Rattle.ms_check_valid.specs.ExternalsFit.{name_unless, flag_fits, flagged_callees}
use Rattle.ms_check_valid.specs.Paths.{insts_of}
use Rattle.ms_check_valid.specs.Valid.{Valid}
use Rattle.ms_check_valid.proofs.AtInstructions.{fits_at}
use Rattle.ms_runs_good_laws.proofs.CallTypes.{same_width, external_call}

-- a result is that of a function of words of so many bits
abbrev pub IsWord : Option Ty → ℕ → Type 0
IsWord None w = ⊥
IsWord (Some t) w = width_of t ≡ w

-- a call of a function of whole words has its widths, and a flag that is a number
pub record WordCall (ret : Option Ty) (args : List (Ty × Operand)) (f : WordFn) (n : WordWidth) : Type 0 where
  pub answer : IsWord ret (bits_of n)
  pub widths : map (λ a. width_of a.0) args ≡ map width_of (word_params f (bits_of n))
  pub flags : list_all (flag_fits (Some (Word f n))) args ≡ true

answer_is : (r d : Option Ty) (t : Ty) → result_type_eq r d ≡ true → result_type_eq d (Some t) ≡ true → IsWord r (width_of t)
answer_is (Some a) (Some b) t e h = same_width a b e ∙ same_width b t h
answer_is None (Some b) t e h = absurd (true≢false (sym e))
answer_is r None t e h = absurd (true≢false (sym h))

-- a name that no list has
pub none_named : (b : Bool) (x : Name) → name_unless b x ≡ [] → b ≡ true
none_named true x e = refl
none_named false x e = absurd cc

module _ (m : Module) (valid : Valid m) (k b p : ℕ) (func : Func) (inst : Inst) (at : func_at m k ≡ Some func) (due : slice_get (insts_of func b) p ≡ Some inst) where
  pub word_call : (ret : Option Ty) (callee : Name) (args : List (Ty × Operand)) → inst.op ≡ op.Call ret callee args → (f : WordFn) (n : WordWidth)
      → func_index m.funcs callee ≡ None → lookup externals callee ≡ Some (Word f n) → WordCall ret args f n
  word_call ret callee args calls f n none found =
      let as_declared = external_call m valid k b p func inst at due ret callee args calls (Word f n) none found in
      let there : slice_get (insts_at m k b) p ≡ Some inst =
      ap (λ o. slice_get (unwrap_or (option_map (λ j. j.insts) (slice_get (unwrap_or (option_map (λ g. g.blocks) o) []) b)) []) p) at ∙ due in
      record {
        answer = answer_is ret as_declared.declared_ret (Int (bits_of n)) as_declared.first as_declared.second;
        widths = as_declared.widths;
        flags = none_named (list_all (flag_fits (Some (Word f n))) args) callee
            (ap (λ e. name_unless (list_all (flag_fits e) args) callee) (sym (ap (λ o. if is_some o then None else lookup externals callee) none ∙ found))
            ∙ ap (flagged_callees m) (sym calls) ∙ (fits_at m valid k b p func inst at there).externals_fit);
      }
