-- What a valid module has outside its instructions, and at each of them.
use Rattle.std.specs.Prelude.{◌≡◌, ℕ, [], flat_map, All, IsTrue, IsFalse, Some, None, slice_get}
use Rattle.ms_ir.specs.declared.syntax.Inst.{Inst}
use Rattle.ms_ir.specs.declared.syntax.Func.{Func}
use Rattle.ms_ir.specs.declared.syntax.Module.{Module}
use Rattle.ms_ir.specs.Names.{is_kept}
use Rattle.ms_ir.specs.Instructions.{func_at, insts_at, site_at}
use Rattle.ms_ir.specs.Written.{type_mentions, mentions}
use Rattle.ms_ir.specs.Spots.{Spot, spot}
use Rattle.ms_ir.specs.Locals.{locals, value_type}
use Rattle.ms_check_valid.specs.NamesOnce.{duplicates}
use Rattle.ms_check_valid.specs.NamesKnown.{unknown_of, global_mentions}
use Rattle.ms_check_valid.specs.TypesAgree.{operand_fits, op_fault, init_faults}
use Rattle.ms_check_valid.specs.PhisFit.{edges_fit}
use Rattle.ms_check_valid.specs.HasMain.{defines_main}
use Rattle.ms_check_valid.specs.ExternalsFit.{name_unless, global_fits, called_names, decl_fits, flagged_callees}
use Rattle.ms_check_valid.specs.UsesDefined.{IsUseDefined, inst_uses}
use Rattle.ms_check_valid.specs.MarksFit.{mark_fits}
use Rattle.ms_check_valid.specs.SizesFit.{unsized}

-- an instruction at a spot breaks no clause
pub record FitsAt (m : Module) (at : Spot) (inst : Inst) : Type 0 where
  pub names_known : unknown_of m (locals at.func) at.site (mentions inst.op) ≡ []
  pub types_agree : op_fault m at.func (λ o. operand_fits m (value_type at.func) o.0 o.1) inst.op ≡ None
  pub phis_fit : IsTrue (edges_fit at inst.op)
  pub externals_fit : flagged_callees m inst.op ≡ []
  pub uses_defined : All IsUseDefined (inst_uses at inst.op)
  pub marks_fit : IsTrue (mark_fits at.func inst)

-- outside its instructions a module breaks no clause
pub record FitsOutside (m : Module) : Type 0 where
  pub names_once : duplicates m ≡ []
  pub types_known : unknown_of m [] 0 (flat_map (λ t. type_mentions t.1) m.types) ≡ []
  pub globals_known : unknown_of m [] 0 (flat_map global_mentions m.globals) ≡ []
  pub initialisers_agree : init_faults m 0 m.globals ≡ []
  pub has_main : IsTrue (defines_main m)
  pub globals_fit : flat_map (λ g. name_unless (global_fits g) g.name) m.globals ≡ []
  pub declarations_fit : flat_map (λ d. name_unless (decl_fits (called_names m) d) d.name) m.decls ≡ []
  pub functions_fit : (n : ℕ) (f : Func) → func_at m n ≡ Some f → IsFalse (is_kept f.name)
  pub sizes_fit : unsized m ≡ []

-- each instruction breaks none
abbrev pub FitsWithin : Module → Type 0
FitsWithin m = (n b p : ℕ) (f : Func) (inst : Inst) → func_at m n ≡ Some f → slice_get (insts_at m n b) p ≡ Some inst → FitsAt m (spot f b p (site_at m n b p)) inst
