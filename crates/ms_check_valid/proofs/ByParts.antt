-- A module is valid exactly where it breaks no clause outside its instructions, and none at each of them.
use Rattle.std.proofs.Common.{◌≡◌, ℕ, List, [], ◌∷◌, ◌++◌, Bool, true, false, refl, ap, arith}
use Rattle.std.specs.Prelude.{All, not, flat_map, Option, Some, None, if◌then◌else◌}
use Rattle.std.proofs.Math.Path.{ap₂}
use Rattle.std.proofs.lemmas.List.Elements.{All-nil, All-append}
use Rattle.ms_ir.specs.declared.syntax.Name.{Name}
use Rattle.ms_ir.specs.declared.syntax.Inst.{Inst}
use Rattle.ms_ir.specs.declared.syntax.Func.{Func}
use Rattle.ms_ir.specs.declared.syntax.Module.{Module}
use Rattle.ms_ir.specs.Names.{is_kept}
use Rattle.ms_ir.specs.Instructions.{func_at}
use Rattle.ms_ir.specs.Written.{type_mentions, mentions}
use Rattle.ms_ir.specs.Spots.{Spot, found, found_at_insts}
use Rattle.ms_ir.specs.Locals.{Spelled, locals, value_type}
use Rattle.ms_check_valid.specs.NamesKnown.{unknown_of, global_mentions}
use Rattle.ms_check_valid.specs.TypesAgree.{operand_fits, op_fault, at_site, init_faults}
use Rattle.ms_check_valid.specs.PhisFit.{edges_fit}
use Rattle.ms_check_valid.specs.ExternalsFit.{name_unless, global_fits, called_names, decl_fits, flagged_callees}
use Rattle.ms_check_valid.specs.UsesDefined.{IsUseDefined, inst_uses}
use Rattle.ms_check_valid.specs.MarksFit.{mark_fits}
use Rattle.ms_check_valid.specs.Valid.{Valid}
use Rattle.ms_check_valid.specs.ValidAt.{FitsAt, FitsOutside, FitsWithin}
use Rattle.ms_check_valid.proofs.Finding.{both_empty, none_at_heads}
use Rattle.ms_check_valid.proofs.Joining.{from_module}

-- two empty lists in a row are empty
empty_both : {A : Type 0} (xs ys : List A) → xs ≡ [] → ys ≡ [] → xs ++ ys ≡ []
empty_both xs ys e h = ap₂ (λ l r. l ++ r) e h

-- where a look finds nothing at each instruction, and nothing at each function, it finds nothing
nothing : {A : Type 0} (head : Func → List A) (look : Spot → Inst → List A) (m : Module) → ((n : ℕ) (f : Func) → func_at m n ≡ Some f → head f ≡ [])
    → ((at : Spot) (inst : Inst) → FitsAt m at inst → look at inst ≡ []) → FitsWithin m → found head look m ≡ []
nothing head look m heads h within = from_module look (λ l. l ≡ []) refl empty_both head m heads (λ n b p f inst at due. h _ inst (within n b p f inst at due))

-- a fault that isn't there is not listed, nor is a site whose test passes
not_listed : (site : ℕ) (o : Option ℕ) → o ≡ None → at_site site o ≡ []
not_listed site o e = ap (at_site site) e

not_named : (t : Bool) (site : ℕ) → t ≡ true → (if t then [] else site ∷ []) ≡ []
not_named t site e = ap (λ b. if b then [] else site ∷ []) e

reserves_nothing : (t : Bool) (x : Name) → t ≡ false → name_unless (not t) x ≡ []
reserves_nothing t x e = ap (λ b. name_unless (not b) x) e

is_not_reserved : (t : Bool) (x : Name) → name_unless (not t) x ≡ [] → t ≡ false
is_not_reserved true x e = grind arith
is_not_reserved false x e = refl

pub valid_by_parts : (m : Module) → FitsOutside m → FitsWithin m → Valid m
valid_by_parts m out within = record {
  names_once = out.names_once;
  names_known = empty_both _ _ out.types_known (empty_both _ _ out.globals_known
      (nothing (λ f. []) (λ at inst. unknown_of m (locals at.func) at.site (mentions inst.op)) m (λ n f at. refl) (λ at inst h. h.names_known) within));
  types_agree = empty_both _ _ out.initialisers_agree
      (nothing (λ f. []) (λ at inst. at_site at.site (op_fault m at.func (λ o. operand_fits m (value_type at.func) o.0 o.1) inst.op)) m (λ n f at. refl)
      (λ at inst h. not_listed at.site _ h.types_agree) within);
  phis_fit = nothing (λ f. []) (λ at inst. if edges_fit at inst.op then [] else at.site ∷ []) m (λ n f at. refl) (λ at inst h. not_named _ at.site h.phis_fit) within;
  has_main = out.has_main;
  externals_fit = empty_both _ _ out.globals_fit (empty_both _ _ out.declarations_fit
      (nothing (λ f. name_unless (not (is_kept f.name)) f.name) (λ at inst. flagged_callees m inst.op) m
      (λ n f at. reserves_nothing _ f.name (out.functions_fit n f at)) (λ at inst h. h.externals_fit) within));
  uses_defined = from_module (λ at inst. inst_uses at inst.op) (All IsUseDefined) (All-nil IsUseDefined) (λ xs ys h k. All-append IsUseDefined xs ys h k) (λ f. []) m
      (λ n f at. All-nil IsUseDefined) (λ n b p f inst at due. (within n b p f inst at due).uses_defined);
  marks_fit = nothing (λ f. []) (λ at inst. if mark_fits at.func inst then [] else at.site ∷ []) m (λ n f at. refl) (λ at inst h. not_named _ at.site h.marks_fit) within;
  sizes_fit = out.sizes_fit;
}

pub fits_outside : (m : Module) → Valid m → FitsOutside m
fits_outside m v = record {
  names_once = v.names_once;
  types_known = names.0;
  globals_known = (both_empty (unknown_of m [] 0 (flat_map global_mentions m.globals)) (found_at_insts looks_at_names m) names.1).0;
  initialisers_agree = (both_empty (init_faults m 0 m.globals) (found_at_insts looks_at_types m) v.types_agree).0;
  has_main = v.has_main;
  globals_fit = externals.0;
  declarations_fit = later.0;
  functions_fit = λ n f at. is_not_reserved _ f.name (none_at_heads head (λ s i. flagged_callees m i.op) 1 m.funcs n f later.1 at);
  sizes_fit = v.sizes_fit;
}
  where
    looks_at_names : Spot → Inst → List (ℕ × Spelled)
    looks_at_names = λ at inst. unknown_of m (locals at.func) at.site (mentions inst.op)

    looks_at_types : Spot → Inst → List (ℕ × ℕ)
    looks_at_types = λ at inst. at_site at.site (op_fault m at.func (λ o. operand_fits m (value_type at.func) o.0 o.1) inst.op)

    head : Func → List Name
    head = λ f. name_unless (not (is_kept f.name)) f.name

    names : (unknown_of m [] 0 (flat_map (λ t. type_mentions t.1) m.types) ≡ [])
        × ((unknown_of m [] 0 (flat_map global_mentions m.globals) ++ found_at_insts looks_at_names m) ≡ [])
    names = both_empty (unknown_of m [] 0 (flat_map (λ t. type_mentions t.1) m.types))
        (unknown_of m [] 0 (flat_map global_mentions m.globals) ++ found_at_insts looks_at_names m) v.names_known

    of_globals : List Name
    of_globals = flat_map (λ g. name_unless (global_fits g) g.name) m.globals

    of_decls : List Name
    of_decls = flat_map (λ d. name_unless (decl_fits (called_names m) d) d.name) m.decls

    externals : (of_globals ≡ []) × ((of_decls ++ found head (λ s i. flagged_callees m i.op) m) ≡ [])
    externals = both_empty of_globals (of_decls ++ found head (λ s i. flagged_callees m i.op) m) v.externals_fit

    later : (of_decls ≡ []) × (found head (λ s i. flagged_callees m i.op) m ≡ [])
    later = both_empty of_decls (found head (λ s i. flagged_callees m i.op) m) externals.1
