-- A module that can be instrumented has nothing that is stripped.
use Rattle.std.proofs.Common.{◌≡◌, ℕ, suc, List, [], ◌∷◌, ◌++◌, Bool, true, refl, ap, ◌∙◌}
use Rattle.std.specs.Prelude.{not, map, filter, cond, drop, option_map, unwrap_or, slice_get}
use Rattle.std.specs.List.{list_all}
use Rattle.std.proofs.Math.Path.{ap₂}
use Rattle.std.proofs.lemmas.Bool.{and_parts}
use Rattle.ms_ir.specs.declared.syntax.Name.{Name}
use Rattle.ms_ir.specs.declared.syntax.Inst.{Inst}
use Rattle.ms_ir.specs.declared.syntax.Block.{Block}
use Rattle.ms_ir.specs.declared.syntax.Func.{Func}
use Rattle.ms_ir.specs.declared.syntax.Decl.{Decl}
use Rattle.ms_ir.specs.declared.syntax.GlobalVar.{GlobalVar}
use Rattle.ms_ir.specs.declared.syntax.Module.{Module}
use Rattle.ms_ir.specs.Names.{is_reserved}
use Rattle.ms_ir.specs.Instructions.{is_unmarked, strip_block, strip_func, strip, HeadUnmarked}
use Rattle.ms_ir.specs.Locals.{symbols, type_names, global_names, declared_names, function_names}
use Rattle.ms_check_valid.specs.Uninstrumented.{CanInstrument}
use Rattle.ms_pass_laws.proofs.NumberedValues.{all_append}

insts_same : (is : List Inst) → ((p : ℕ) → HeadUnmarked (drop p is)) → filter is_unmarked is ≡ is
insts_same [] h = refl
insts_same (i ∷ is) h =
    ap (λ k. cond (not k) (i ∷ filter is_unmarked is) (filter is_unmarked is)) (h 0) ∙ ap (λ l. i ∷ l) (insts_same is (λ p. h (suc p)))

blocks_same : (bs : List Block) → ((b p : ℕ) → HeadUnmarked (drop p (unwrap_or (option_map (λ (k : Block). k.insts) (slice_get bs b)) []))) → map strip_block bs ≡ bs
blocks_same [] h = refl
blocks_same (b ∷ bs) h = ap₂ (λ x y. record b { insts = x } ∷ y) (insts_same b.insts (h 0)) (blocks_same bs (λ k. h (suc k)))

funcs_same : (fs : List Func)
    → ((f b p : ℕ) → HeadUnmarked (drop p (unwrap_or (option_map (λ (k : Block). k.insts) (slice_get (unwrap_or (option_map (λ (g : Func). g.blocks) (slice_get fs f)) []) b)) []))) → map strip_func fs ≡ fs
funcs_same [] h = refl
funcs_same (f ∷ fs) h = ap₂ (λ x y. record f { blocks = x } ∷ y) (blocks_same f.blocks (h 0)) (funcs_same fs (λ k. h (suc k)))

free_kept : {X : Type 0} (name_of : X → Name) (xs : List X) → list_all (λ x. not (is_reserved x)) (map name_of xs) ≡ true → filter (λ x. not (is_reserved (name_of x))) xs ≡ xs
free_kept name_of [] h = refl
free_kept name_of (x ∷ xs) h =
    let a = and_parts (not (is_reserved (name_of x))) (list_all (λ x. not (is_reserved x)) (map name_of xs)) h in
    ap (λ k. cond k (x ∷ filter (λ y. not (is_reserved (name_of y))) xs) (filter (λ y. not (is_reserved (name_of y))) xs)) a.0 ∙ ap (λ l. x ∷ l) (free_kept name_of xs a.1)

pub module_strips : (m : Module) → CanInstrument m → strip m ≡ m
module_strips m can = λ i. record {
  types = m.types;
  globals = free_kept (λ (g : GlobalVar). g.name) m.globals globals i;
  decls = free_kept (λ (d : Decl). d.name) m.decls decls i;
  funcs = funcs_same m.funcs can.plain.unmarked i;
}
  where
    P : Name → Bool
    P x = not (is_reserved x)

    front : list_all (λ x. not (is_reserved x)) (type_names m ++ symbols m) ≡ true
    front = (all_append (λ x. not (is_reserved x)) (type_names m ++ symbols m) _ can.plain.free).0

    syms : list_all (λ x. not (is_reserved x)) (symbols m) ≡ true
    syms = (all_append (λ x. not (is_reserved x)) (type_names m) (symbols m) front).1

    globals : list_all (λ x. not (is_reserved x)) (map (λ (g : GlobalVar). g.name) m.globals) ≡ true
    globals = (all_append (λ x. not (is_reserved x)) (global_names m) (declared_names m ++ function_names m) syms).0

    decls : list_all (λ x. not (is_reserved x)) (map (λ (d : Decl). d.name) m.decls) ≡ true
    decls = (all_append (λ x. not (is_reserved x)) (declared_names m) (function_names m) (all_append (λ x. not (is_reserved x)) (global_names m) (declared_names m ++ function_names m) syms).1).0
