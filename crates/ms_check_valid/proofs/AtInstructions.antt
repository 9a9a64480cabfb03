-- A valid module breaks no clause at any instruction.
use Rattle.std.proofs.Common.{◌≡◌, ℕ, suc, List, [], ◌∷◌, ◌++◌, Bool, true, false, refl, arith}
use Rattle.std.specs.Prelude.{All, not, Option, Some, None, slice_get, flat_map, if◌then◌else◌}
use Rattle.std.proofs.lemmas.List.Elements.{All-nil, All-cons}
use Rattle.ms_ir.specs.declared.syntax.Inst.{Inst}
use Rattle.ms_ir.specs.declared.syntax.Func.{Func}
use Rattle.ms_ir.specs.declared.syntax.Module.{Module}
use Rattle.ms_ir.specs.Names.{is_kept}
use Rattle.ms_ir.specs.Instructions.{func_at, insts_at, site_at}
use Rattle.ms_ir.specs.Written.{type_mentions, mentions}
use Rattle.ms_ir.specs.Spots.{Spot, spot, found, found_at_insts}
use Rattle.ms_ir.specs.Locals.{Spelled, locals, value_type}
use Rattle.ms_check_valid.specs.NamesKnown.{unknown_of, global_mentions}
use Rattle.ms_check_valid.specs.TypesAgree.{operand_fits, op_fault, at_site, init_faults}
use Rattle.ms_check_valid.specs.PhisFit.{edges_fit}
use Rattle.ms_check_valid.specs.ExternalsFit.{name_unless, global_fits, called_names, decl_fits, flagged_callees}
use Rattle.ms_check_valid.specs.UsesDefined.{IsUseDefined, inst_uses}
use Rattle.ms_check_valid.specs.MarksFit.{mark_fits}
use Rattle.ms_check_valid.specs.Valid.{Valid}
use Rattle.ms_check_valid.specs.ValidAt.{FitsAt}
use Rattle.ms_check_valid.proofs.Finding.{both_empty, at_insts}

-- what holds of each of two lists in a row holds of each of both
pub all_parts : {A : Type 0} (P : A → Type 0) (xs ys : List A) → All P (xs ++ ys) → All P xs × All P ys
all_parts P [] ys h = (All-nil P, h)
all_parts P (x ∷ xs) ys h =
    let rest = all_parts P xs ys (λ k d l. h (suc k) d (omega (arith, l))) in
    (All-cons P x xs (h 0 x (omega arith)) rest.0, rest.1)

-- no fault is listed where there is none
pub no_fault : (site : ℕ) (o : Option ℕ) → at_site site o ≡ [] → o ≡ None
no_fault site None e = refl
no_fault site (Some k) e = grind arith

-- no site is listed where a test passes
pub passes_test : (t : Bool) (site : ℕ) → (if t then [] else site ∷ []) ≡ [] → t ≡ true
passes_test true site e = refl
passes_test false site e = grind arith

-- an instruction of a valid module breaks no clause
pub fits_at : (m : Module) → Valid m → (n b p : ℕ) (f : Func) (inst : Inst) → func_at m n ≡ Some f → slice_get (insts_at m n b) p ≡ Some inst
    → FitsAt m (spot f b p (site_at m n b p)) inst
fits_at m v n b p f inst at due = record {
  names_known = in_names;
  types_agree = no_fault (site_at m n b p) (op_fault m f (λ o. operand_fits m (value_type f) o.0 o.1) inst.op) in_types;
  phis_fit = passes_test (edges_fit (spot f b p (site_at m n b p)) inst.op) (site_at m n b p) in_phis;
  externals_fit = in_externals;
  uses_defined = in_uses;
  marks_fit = passes_test (mark_fits f inst) (site_at m n b p) in_marks;
}
  where
    names : Spot → Inst → List (ℕ × Spelled)
    names = λ s i. unknown_of m (locals s.func) s.site (mentions i.op)

    types : Spot → Inst → List (ℕ × ℕ)
    types = λ s i. at_site s.site (op_fault m s.func (λ o. operand_fits m (value_type s.func) o.0 o.1) i.op)

    in_names : names (spot f b p (site_at m n b p)) inst ≡ []
    in_names =
        let later = (both_empty (unknown_of m [] 0 (flat_map (λ t. type_mentions t.1) m.types))
        (unknown_of m [] 0 (flat_map global_mentions m.globals) ++ found_at_insts names m) v.names_known).1 in
        at_insts names (λ l. l ≡ []) both_empty (λ g. []) m (both_empty (unknown_of m [] 0 (flat_map global_mentions m.globals)) (found_at_insts names m) later).1
        n b p f inst at due

    in_types : types (spot f b p (site_at m n b p)) inst ≡ []
    in_types = at_insts types (λ l. l ≡ []) both_empty (λ g. []) m (both_empty (init_faults m 0 m.globals) (found_at_insts types m) v.types_agree).1 n b p f inst at due

    in_phis : (if edges_fit (spot f b p (site_at m n b p)) inst.op then [] else site_at m n b p ∷ []) ≡ []
    in_phis = at_insts (λ s i. if edges_fit s i.op then [] else s.site ∷ []) (λ l. l ≡ []) both_empty (λ g. []) m v.phis_fit n b p f inst at due

    in_externals : flagged_callees m inst.op ≡ []
    in_externals =
        let look = λ (s : Spot) (i : Inst). flagged_callees m i.op in
        let head = λ (g : Func). name_unless (not (is_kept g.name)) g.name in
        let globals = flat_map (λ g. name_unless (global_fits g) g.name) m.globals in
        let decls = flat_map (λ d. name_unless (decl_fits (called_names m) d) d.name) m.decls in
        let later = (both_empty globals (decls ++ found head look m) v.externals_fit).1 in
        at_insts look (λ l. l ≡ []) both_empty head m (both_empty decls (found head look m) later).1 n b p f inst at due

    in_uses : All IsUseDefined (inst_uses (spot f b p (site_at m n b p)) inst.op)
    in_uses = at_insts (λ s i. inst_uses s i.op) (All IsUseDefined) (all_parts IsUseDefined) (λ g. []) m v.uses_defined n b p f inst at due

    in_marks : (if mark_fits f inst then [] else site_at m n b p ∷ []) ≡ []
    in_marks = at_insts (λ s i. if mark_fits s.func i then [] else s.site ∷ []) (λ l. l ≡ []) both_empty (λ g. []) m v.marks_fit n b p f inst at due
