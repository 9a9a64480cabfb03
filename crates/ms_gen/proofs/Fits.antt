-- A generated function breaks no clause of a valid module, where the functions that it calls may be called.
use Rattle.std.proofs.Common.{◌≡◌, ◌-◌, ℕ, suc, true, false, List, [], ◌∷◌, refl}
use Rattle.std.specs.Prelude.{All, if◌then◌else◌}
use Rattle.ms_ir.specs.declared.syntax.Func.{Func}
use Rattle.ms_ir.specs.declared.syntax.Inst.{Inst}
use Rattle.ms_ir.specs.declared.syntax.Module.{Module}
use Rattle.ms_ir.specs.Names.{bit_moves, is_kept}
use Rattle.ms_ir.specs.Locals.{Spelled, locals, value_type}
use Rattle.ms_ir.specs.Spots.{Spot, over_block_spots}
use Rattle.ms_ir.specs.Written.{mentions}
use Rattle.ms_ir.specs.Declarations.{putchar}
use Rattle.ms_ir.specs.Builders.{int, local}
use Rattle.ms_check_valid.specs.NamesOnce.{percent_sign, repeats}
use Rattle.ms_check_valid.specs.NamesKnown.{unknown_of}
use Rattle.ms_check_valid.specs.TypesAgree.{operand_fits, op_fault, at_site}
use Rattle.ms_check_valid.specs.PhisFit.{edges_fit}
use Rattle.ms_check_valid.specs.ExternalsFit.{flagged_callees}
use Rattle.ms_check_valid.specs.UsesDefined.{SiteUse, IsUseDefined, inst_uses}
use Rattle.ms_check_valid.specs.MarksFit.{mark_fits}
use Rattle.ms_check_valid.specs.SizesFit.{sized, func_types}
use Rattle.ms_check_valid.proofs.TestedPaths.{all_passed}
use Rattle.ms_gen.specs.Generator.{function_of, name_of, operations, main_of}
use Rattle.ms_gen.proofs.Callable.{IsCallable}

-- what is looked at of each instruction
abbrev pub unknown_at : Module → Spot → Inst → List (ℕ × Spelled)
unknown_at m at inst = unknown_of m (locals at.func) at.site (mentions inst.op)

abbrev pub mismatch_at : Module → Spot → Inst → List (ℕ × ℕ)
mismatch_at m at inst = at_site at.site (op_fault m at.func (λ o. operand_fits m (value_type at.func) o.0 o.1) inst.op)

abbrev pub bad_edge_at : Spot → Inst → List ℕ
bad_edge_at at inst = if edges_fit at inst.op then [] else at.site ∷ []

abbrev pub bad_mark_at : Spot → Inst → List ℕ
bad_mark_at at inst = if mark_fits at.func inst then [] else at.site ∷ []

abbrev pub uses_at : Spot → Inst → List SiteUse
uses_at at inst = inst_uses at inst.op

-- a function of a module breaks no clause, at whichever site it begins
pub record Fits (m : Module) (f : Func) : Type 0 where
  pub free : is_kept f.name ≡ false
  pub names_once : percent_sign (repeats [] (locals f)) ≡ []
  pub names_known : (site : ℕ) → over_block_spots (unknown_at m) f 0 site f.blocks ≡ []
  pub types_agree : (site : ℕ) → over_block_spots (mismatch_at m) f 0 site f.blocks ≡ []
  pub phis_fit : (site : ℕ) → over_block_spots bad_edge_at f 0 site f.blocks ≡ []
  pub externals_fit : (site : ℕ) → over_block_spots (λ at inst. flagged_callees m inst.op) f 0 site f.blocks ≡ []
  pub uses_defined : (site : ℕ) → All IsUseDefined (over_block_spots uses_at f 0 site f.blocks)
  pub marks_fit : (site : ℕ) → over_block_spots bad_mark_at f 0 site f.blocks ≡ []
  pub sizes_fit : sized [] (func_types f) ≡ true

pub first_fits : (m : Module) (state : ℕ) → Fits m (function_of 0 state)
unfolding operations is_kept bit_moves
first_fits m state = record {
  free = refl;
  names_once = refl;
  names_known = λ site. refl;
  types_agree = λ site. refl;
  phis_fit = λ site. refl;
  externals_fit = λ site. refl;
  uses_defined = λ site. all_passed (over_block_spots uses_at (function_of 0 state) 0 site (function_of 0 state).blocks) refl;
  marks_fit = λ site. refl;
  sizes_fit = refl;
}

pub later_fits : (m : Module) (before state : ℕ) → IsCallable m (name_of before) → Fits m (function_of (suc before) state)
unfolding operations is_kept bit_moves
later_fits m before state callee = record {
  free = refl;
  names_once = refl;
  names_known = λ site. rw callee.known refl;
  types_agree = λ site. rw callee.typed refl;
  phis_fit = λ site. refl;
  externals_fit = λ site. rw (callee.quiet (local 11)) refl;
  uses_defined = λ site. all_passed (over_block_spots uses_at (function_of (suc before) state) 0 site (function_of (suc before) state).blocks) refl;
  marks_fit = λ site. refl;
  sizes_fit = refl;
}

pub main_fits : (m : Module) (count : ℕ) → IsCallable m (name_of (count - 1)) → IsCallable m putchar.name → Fits m (main_of count)
unfolding is_kept bit_moves
main_fits m count callee printer = record {
  free = refl;
  names_once = refl;
  names_known = λ site. rw (callee.known, printer.known) refl;
  types_agree = λ site. rw (callee.typed, printer.typed) refl;
  phis_fit = λ site. refl;
  externals_fit = λ site. rw (callee.quiet (int 1), printer.quiet (local 1)) refl;
  uses_defined = λ site. all_passed (over_block_spots uses_at (main_of count) 0 site (main_of count).blocks) refl;
  marks_fit = λ site. refl;
  sizes_fit = refl;
}
