-- Which instructions have sites.
use Rattle.std.proofs.Common.{◌≡◌, ◌∙◌, ℕ, Bool, true, false, cond, List, [], ◌∷◌, ◌++◌, map, refl, sym, ap}
use Rattle.std.specs.Prelude.{filter, flat_map}
use Rattle.std.specs.List.{zip}
use Rattle.std.proofs.lemmas.List.{map-append}
use Rattle.ms_ir.specs.declared.syntax.Block.{Block}
use Rattle.ms_ir.specs.declared.syntax.Func.{Func}
use Rattle.ms_ir.specs.declared.syntax.Module.{Module}
use Rattle.ms_ir.specs.Instructions.{is_unmarked}
use Rattle.ms_ir.specs.Locals.{func_insts}
use Rattle.ms_where_places.specs.declared.marks.Mark.{Mark}
use Rattle.ms_where_places.specs.Instructions.{module_insts}
use Rattle.ms_where.specs.Sites.{instruction_places, site_places, block_sites, func_sites}

of_blocks : (bs : List Block) → flat_map block_sites bs ≡ map is_unmarked (flat_map (λ b. b.insts) bs)
of_blocks [] = refl
of_blocks (b ∷ bs) = ap (λ xs. block_sites b ++ xs) (of_blocks bs) ∙ sym (map-append is_unmarked b.insts (flat_map (λ b. b.insts) bs))

of_funcs : (fs : List Func) → flat_map func_sites fs ≡ map is_unmarked (flat_map func_insts fs)
of_funcs [] = refl
of_funcs (f ∷ fs) =
    ap (λ xs. xs ++ flat_map func_sites fs) (of_blocks f.blocks) ∙ ap (λ xs. map is_unmarked (func_insts f) ++ xs) (of_funcs fs)
    ∙ sym (map-append is_unmarked (func_insts f) (flat_map func_insts fs))

pub sites_of_module : (m : Module) → flat_map func_sites m.funcs ≡ map is_unmarked (module_insts m)
sites_of_module m = of_funcs m.funcs

-- the places by whether each element passes are those of the elements that pass
by_tests : {X : Type 0} (p : X → Bool) (xs : List X) (ps : List ℕ) → map (λ q. q.1) (filter (λ q. q.0) (zip (map p xs) ps)) ≡ map (λ q. q.1) (filter (λ q. p q.0) (zip xs ps))
by_tests p [] ps = refl
by_tests p (x ∷ xs) [] = refl
by_tests p (x ∷ xs) (n ∷ ns) = elim (p x) as (λ t. map (λ q. q.1) (cond t ((t, n) ∷ filter (λ q. q.0) (zip (map p xs) ns)) (filter (λ q. q.0) (zip (map p xs) ns)))
    ≡ map (λ q. q.1) (cond t ((x, n) ∷ filter (λ q. p q.0) (zip xs ns)) (filter (λ q. p q.0) (zip xs ns)))) [
      | true ↦ ap (λ ms. n ∷ ms) (by_tests p xs ns)
      | false ↦ by_tests p xs ns
    ]

-- those of a module's instructions are the places of its sites
pub of_module : (m : Module) (marks : List Mark) (tests : List Bool) (places : List ℕ) → tests ≡ map is_unmarked (module_insts m) → places ≡ instruction_places marks
    → map (λ q. q.1) (filter (λ q. q.0) (zip tests places)) ≡ site_places m marks
of_module m marks tests places e f =
    ap (λ (ts : List Bool). map (λ q. q.1) (filter (λ q. q.0) (zip ts places))) e
    ∙ ap (λ (ps : List ℕ). map (λ q. q.1) (filter (λ q. q.0) (zip (map is_unmarked (module_insts m)) ps))) f
    ∙ by_tests is_unmarked (module_insts m) (instruction_places marks)
