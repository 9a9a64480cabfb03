-- The places of a function's values are those of their names.
use Rattle.std.proofs.Common.{◌≡◌, List, [], ◌∷◌, ◌++◌, Option, Some, None, map, filter_map, option_map, refl, ap, ◌∙◌}
use Rattle.std.specs.Prelude.{flat_map, suc, if◌then◌else◌}
use Rattle.std.specs.List.{cons_option}
use Rattle.std.proofs.Math.Path.{ap₂}
use Rattle.std.proofs.lemmas.List.Elements.{filter_map-append}
use Rattle.std.proofs.lemmas.List.{map-append}
use Rattle.ms_ir.specs.declared.syntax.Name.{Name}
use Rattle.ms_ir.specs.declared.syntax.Ty.{Ty}
use Rattle.ms_ir.specs.declared.syntax.Inst.{Inst}
use Rattle.ms_ir.specs.declared.syntax.Block.{Block}
use Rattle.ms_ir.specs.declared.syntax.Func.{Func}
use Rattle.ms_ir.specs.Names.{name_eq}
use Rattle.ms_ir.specs.Locals.{typed_result, values}
use Rattle.ms_check_tables.specs.FirstPlace.{first_place}
use Rattle.ms_pass_laws.specs.Numbers.{value_index}
use Rattle.ms_rules.specs.Valued.{result_names, block_results, value_names}

-- the place of a name among values
pub value_place : (vs : List (Name × Ty)) (x : Name) → value_index vs x ≡ first_place (map (λ v. v.0) vs) x
value_place [] x = refl
value_place (v ∷ vs) x = ap (λ place. if name_eq v.0 x then Some 0 else option_map suc place) (value_place vs x)

swapped : (ps : List (Ty × Name)) → map {B = Name} (λ v. v.0) (map {B = Name × Ty} (λ p. (p.1, p.0)) ps) ≡ map (λ p. p.1) ps
swapped [] = refl
swapped (p ∷ ps) = ap (λ l. p.1 ∷ l) (swapped ps)

results_named : (is : List Inst) → map (λ v. v.0) (filter_map typed_result is) ≡ result_names is
results_named [] = refl
results_named (i ∷ is) = by_result (typed_result i) (results_named is)
  where
    by_result : (o : Option (Name × Ty)) → map (λ v. v.0) (filter_map typed_result is) ≡ result_names is
        → map (λ v. v.0) (cons_option o (filter_map typed_result is)) ≡ cons_option (option_map (λ v. v.0) o) (result_names is)
    by_result (Some v) e = ap (λ l. v.0 ∷ l) e
    by_result None e = e

blocks_named : (bs : List Block) → map (λ v. v.0) (filter_map typed_result (flat_map (λ b. b.insts) bs)) ≡ block_results bs
blocks_named [] = refl
blocks_named (b ∷ bs) =
    let rest = flat_map (λ k. k.insts) bs in
    ap (map (λ v. v.0)) (filter_map-append typed_result b.insts rest) ∙ map-append (λ v. v.0) (filter_map typed_result b.insts) (filter_map typed_result rest)
    ∙ ap₂ (λ l k. l ++ k) (results_named b.insts) (blocks_named bs)

-- the names of a function's values
pub names_are : (f : Func) → map (λ v. v.0) (values f) ≡ value_names f
names_are f =
    let params = map {B = Name × Ty} (λ p. (p.1, p.0)) f.params in let results = filter_map typed_result (flat_map (λ b. b.insts) f.blocks) in
    map-append (λ v. v.0) params results ∙ ap₂ (λ l k. l ++ k) (swapped f.params) (blocks_named f.blocks)
