-- The names that don't fit, in three lists.
use Rattle.std.proofs.Common.{◌≡◌, ℕ, ◌+◌, Bool, true, false, not, List, [], ◌∷◌, ◌++◌, append_assoc, is_some, if◌then◌else◌, Option, None, refl, sym, ap, ◌∙◌}
use Rattle.std.specs.Prelude.{◌||◌, ◌&&◌, flat_map, slice_get}
use Rattle.std.specs.Option.{option_or}
use Rattle.std.specs.List.{list_all}
use Rattle.std.proofs.Math.Path.{ap₂}
use Rattle.ms_ir.specs.declared.syntax.Name.{Name}
use Rattle.ms_ir.specs.declared.syntax.Ty.{Ty}
use Rattle.ms_ir.specs.declared.syntax.Operand.{Operand}
use Rattle.ms_ir.specs.declared.syntax.Op.{Op}
use Rattle.ms_ir.specs.declared.syntax.Op.TheVariants as op
use Rattle.ms_ir.specs.declared.syntax.Inst.{Inst}
use Rattle.ms_ir.specs.declared.syntax.Block.{Block}
use Rattle.ms_ir.specs.declared.syntax.Func.{Func}
use Rattle.ms_ir.specs.declared.syntax.Module.{Module}
use Rattle.ms_ir.specs.Instructions.{one_unmarked, over_insts, over_blocks}
use Rattle.ms_ir.specs.Names.{lookup, externals, is_kept}
use Rattle.ms_ir.specs.Equal.{has_name}
use Rattle.ms_ir.specs.Locals.{function_names}
use Rattle.ms_ir.specs.Spots.{Spot, spot, next_spot, over_spots, over_block_spots, over_func_spots}
use Rattle.ms_check_valid.specs.ExternalsFit.{name_unless, global_fits, decl_fits, called_names, flag_fits, flagged_callees, bad_externals}
use Rattle.ms_check_tables.proofs.Places.{place_tells}
use Rattle.ms_check_tables.proofs.Tied.{func_index_is}
use Rattle.ms_check_externals.specs.Outside.{flagged_in, flagged_among, flagged_within, func_faults}
use Rattle.ms_check_tables.proofs.Items.{first-append}

-- the first name at fault among the globals, the declarations and the functions
abbrev pub of_globals : Module → Option Name
of_globals m = slice_get (flat_map (λ g. name_unless (global_fits g) g.name) m.globals) 0

abbrev pub of_decls : Module → Option Name
of_decls m = slice_get (flat_map (λ d. name_unless (decl_fits (called_names m) d) d.name) m.decls) 0

abbrev pub of_funcs : Module → Option Name
of_funcs m = slice_get (flat_map (func_faults (function_names m)) m.funcs) 0

-- ---- flags

module _ (m : Module) where
  all_fit : (args : List (Ty × Operand)) → list_all (flag_fits None) args ≡ true
  all_fit [] = refl
  all_fit (a ∷ rest) = all_fit rest

  flagged_is : (o : Op) → flagged_callees m o ≡ flagged_in (function_names m) o
  flagged_is (op.Call ret callee args) =
      ap (λ b. name_unless (list_all (flag_fits (if b then None else lookup externals callee)) args) callee) (ap is_some (func_index_is m.funcs callee) ∙ place_tells (function_names m) callee)
      ∙ ap (λ b. name_unless b callee) (split (has_name (function_names m) callee))
    where
      kept : (b : Bool) → b ≡ not (not b && true)
      kept true = refl
      kept false = refl

      never : (b : Bool) → true ≡ not (not b && false)
      never true = refl
      never false = refl

      split : (defined : Bool) → list_all (flag_fits (if defined then None else lookup externals callee)) args ≡ not (not (list_all (flag_fits (lookup externals callee)) args) && not defined)
      split true = all_fit args ∙ never (list_all (flag_fits (lookup externals callee)) args)
      split false = kept (list_all (flag_fits (lookup externals callee)) args)
  flagged_is (op.Binary o flags t a b) = refl
  flagged_is (op.Icmp p flags t a b) = refl
  flagged_is (op.Cast o flags from a to) = refl
  flagged_is (op.Select c t a b) = refl
  flagged_is (op.Freeze t a) = refl
  flagged_is (op.Phi t edges) = refl
  flagged_is (op.Alloca t u count) = refl
  flagged_is (op.Load t addr) = refl
  flagged_is (op.Store t v addr) = refl
  flagged_is (op.Gep t base indices) = refl
  flagged_is (op.Br to) = refl
  flagged_is (op.CondBr c to other) = refl
  flagged_is (op.Switch t v other cases) = refl
  flagged_is (op.Ret v) = refl
  flagged_is op.Unreachable = refl

  -- ---- functions

  abbrev head : Func → List Name
  head f = name_unless (not (is_kept f.name)) f.name

  abbrev look : Spot → Inst → List Name
  look at inst = flagged_callees m inst.op

  in_insts : (at : Spot) (insts : List Inst) → over_spots look at insts ≡ flagged_among (function_names m) insts
  in_insts at [] = refl
  in_insts at (inst ∷ rest) = ap₂ (λ a b. a ++ b) (flagged_is inst.op) (in_insts (next_spot at inst) rest)

  in_blocks : (f : Func) (b site : ℕ) (blocks : List Block) → over_block_spots look f b site blocks ≡ flagged_within (function_names m) blocks
  in_blocks f b site [] = refl
  in_blocks f b site (k ∷ rest) = ap₂ (λ a c. a ++ c) (in_insts (spot f b 0 site) k.insts) (in_blocks f (b + 1) (site + over_insts one_unmarked k.insts) rest)

  in_funcs : (site : ℕ) (funcs : List Func) → over_func_spots head look site funcs ≡ flat_map (func_faults (function_names m)) funcs
  in_funcs site [] = refl
  in_funcs site (f ∷ rest) =
      ap₂ (λ a c. head f ++ (a ++ c)) (in_blocks f 0 site f.blocks) (in_funcs (site + over_blocks one_unmarked f.blocks) rest)
      ∙ sym (append_assoc (head f) (flagged_within (function_names m) f.blocks) (flat_map (func_faults (function_names m)) rest))

  -- ---- the definition

  pub callees_are : slice_get (flat_map (λ d. name_unless (decl_fits (called_names m) d) d.name) m.decls ++ flat_map (func_faults (function_names m)) m.funcs) 0 ≡ option_or (of_decls m) (of_funcs m)
  callees_are = first-append (flat_map (λ d. name_unless (decl_fits (called_names m) d) d.name) m.decls) (flat_map (func_faults (function_names m)) m.funcs)

  pub outside_is : slice_get (bad_externals m) 0 ≡ option_or (of_globals m) (option_or (of_decls m) (of_funcs m))
  outside_is =
      let globals = flat_map (λ g. name_unless (global_fits g) g.name) m.globals in
      let decls = flat_map (λ d. name_unless (decl_fits (called_names m) d) d.name) m.decls in
      let funcs = over_func_spots head look 1 m.funcs in
      first-append globals (decls ++ funcs)
      ∙ ap (option_or (slice_get globals 0)) (first-append decls funcs)
      ∙ ap (λ r. option_or (slice_get globals 0) (option_or (slice_get decls 0) (slice_get r 0))) (in_funcs 1 m.funcs)
