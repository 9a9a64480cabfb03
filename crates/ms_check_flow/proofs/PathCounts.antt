-- A formed module has few names, and few uses are noted.
use Rattle.std.proofs.Common.{◌≡◌, ℕ, zero, suc, ◌+◌, ◌*◌, ◌<◌, ◌≤◌, List, [], ◌∷◌, ◌++◌, Bool, true, false, Some, subst, arith, length, if◌then◌else◌}
use Rattle.std.specs.Prelude.{◌&&◌, nat_lt, flat_map, Option, None, option_to_list, slice_get}
use Rattle.std.specs.List.{list_all, cons_option}
use Rattle.std.proofs.lemmas.Bool.{and_parts}
use Rattle.std.proofs.lemmas.List.{length-append, length-map}
use Rattle.std.proofs.lemmas.Option.{none-some, same_Some}
use Rattle.ms_ir.specs.declared.syntax.Name.{Name}
use Rattle.ms_ir.specs.declared.syntax.Ty.{Ty}
use Rattle.ms_ir.specs.declared.syntax.Operand.{Operand}
use Rattle.ms_ir.specs.declared.syntax.Operand.TheVariants as operand
use Rattle.ms_ir.specs.declared.syntax.Op.{Op}
use Rattle.ms_ir.specs.declared.syntax.Op.TheVariants as op
use Rattle.ms_ir.specs.declared.syntax.Inst.{Inst}
use Rattle.ms_ir.specs.declared.syntax.Block.{Block}
use Rattle.ms_ir.specs.declared.syntax.Func.{Func}
use Rattle.ms_ir.specs.Instructions.{operands, one_unmarked, over_insts, over_blocks}
use Rattle.ms_ir.specs.Equal.{has_name}
use Rattle.ms_check_valid.specs.FlowGraph.{name_place, value_names}
use Rattle.ms_check_valid.specs.Formed.{count_written, block_formed, func_formed}
use Rattle.ms_check_valid.specs.FormedCode.{is_value_type, result_formed, inst_formed, is_body}
use Rattle.ms_check_valid.specs.FormedNames.{is_local_name, is_global_name, are_numbered}
use Rattle.ms_ir.specs.Locals.{results, locals, block_locals}
use Rattle.ms_check_flow.specs.declared.numbers.Numbers.{Numbers}
use Rattle.ms_check_flow.specs.declared.inst_uses.NotedUse.{NotedUse}
use Rattle.ms_check_flow.specs.Noted.{value_noted, operand_noted, last_noted, edge_noted, op_noted, insts_noted, blocks_noted}

-- ---- names

result_counted : (o : Option Name) (names : List Name) → length (cons_option o names) ≤ suc (length names)
result_counted None names = omega arith
result_counted (Some x) names = omega arith

results_counted : (xs : List Inst) → length (results xs) ≤ over_insts count_written xs
results_counted [] = omega arith
results_counted (i ∷ xs) = omega (arith, results_counted xs, result_counted i.result (results xs))

some_written : (xs : List Inst) → is_body xs ≡ true → 0 < over_insts count_written xs
some_written [] e = absurd (no e)
  where
    no : false ≡ true → ⊥
    no e = search arith
some_written (i ∷ xs) e = omega arith

names_counted : (bs : List Block) → list_all block_formed bs ≡ true → length (flat_map block_locals bs) ≤ 2 * over_blocks count_written bs
names_counted [] e = omega arith
names_counted (b ∷ bs) e =
    let parts = and_parts (block_formed b) (list_all block_formed bs) e in
    let body = (and_parts (is_local_name b.name) (is_body b.insts) (and_parts (is_local_name b.name && is_body b.insts) (list_all inst_formed b.insts) parts.0).0).1 in
    omega (arith, names_counted bs parts.1, results_counted b.insts, some_written b.insts body, length-append (results b.insts) (flat_map block_locals bs))

blocks_formed : (f : Func) → func_formed f ≡ true → list_all block_formed f.blocks ≡ true
blocks_formed f e =
    let front : Bool = is_global_name f.name && result_formed f.ret && list_all (λ p. is_value_type p.0 && is_local_name p.1) f.params && nat_lt 0 (length f.blocks) in
    (and_parts front (list_all block_formed f.blocks) (and_parts (front && list_all block_formed f.blocks) (are_numbered (locals f)) e).0).1

-- a function of a formed module has few names
pub func_names : (fs : List Func) (n : ℕ) (f : Func) → list_all func_formed fs ≡ true → slice_get fs n ≡ Some f → length (value_names f) ≤ 2 * over_blocks count_written f.blocks
func_names [] n f e at = absurd (none-some f at)
func_names (g ∷ fs) zero f e at =
    let parts = and_parts (func_formed g) (list_all func_formed fs) e in
    let mine : func_formed f ≡ true = subst (λ h. func_formed h ≡ true) (same_Some g f at) parts.0 in
    names_counted f.blocks (blocks_formed f mine)
func_names (g ∷ fs) (suc n) f e at = func_names fs n f (and_parts (func_formed g) (list_all func_formed fs) e).1 at

-- ---- noted uses

one_or_none : {A : Type 0} (own : Bool) (x : A) → length (if own then [] else x ∷ []) ≤ 1
one_or_none true x = omega arith
one_or_none false x = omega arith

value_counted : (n : Numbers) (site block : ℕ) (after : Bool) (x : Name) → length (value_noted n site block after x) ≤ 1
value_counted n site block after x =
    let noted : NotedUse = record { site = site; place = record { block = block; value = name_place n.values x; after = after } } in
    one_or_none (has_name n.parameters x) noted

operand_counted : (n : Numbers) (seen : List Name) (block site : ℕ) (o : Operand) → length (operand_noted n seen block site o) ≤ 1
operand_counted n seen block site (operand.Local x) = value_counted n site block (has_name seen x) x
operand_counted n seen block site o = omega arith

last_counted : (n : Numbers) (site block : ℕ) (o : Operand) → length (last_noted n site block o) ≤ 1
last_counted n site block (operand.Local x) = value_counted n site block true x
last_counted n site block o = omega arith

each_counted : {A B : Type 0} (h : A → List B) → ((a : A) → length (h a) ≤ 1) → (xs : List A) → length (flat_map h xs) ≤ length xs
each_counted h one [] = omega arith
each_counted h one (x ∷ xs) = omega (arith, one x, each_counted h one xs, length-append (h x) (flat_map h xs))

op_counted : (n : Numbers) (seen : List Name) (block site : ℕ) (o : Op) → length (op_noted n seen block site o) ≤ length (operands o)
op_counted n seen block site (op.Phi t edges) =
    omega (arith, each_counted (edge_noted n site) (λ e. last_counted n site (name_place n.blocks e.1) e.0) edges, length-map {B = Ty × Operand} edges (λ e. (t, e.0)))
op_counted n seen block site o = each_counted (λ a. operand_noted n seen block site a.1) (λ a. operand_counted n seen block site a.1) (operands o)

insts_few : (n : Numbers) (seen : List Name) (block site : ℕ) (xs : List Inst) → length (insts_noted n seen block site xs) ≤ over_insts count_written xs
insts_few n seen block site [] = omega arith
insts_few n seen block site (i ∷ xs) =
    let rest = insts_noted n (seen ++ option_to_list i.result) block (site + one_unmarked i) xs in
    omega (arith, op_counted n seen block site i.op, insts_few n (seen ++ option_to_list i.result) block (site + one_unmarked i) xs, length-append (op_noted n seen block site i.op) rest)

pub blocks_few : (n : Numbers) (block site : ℕ) (bs : List Block) → length (blocks_noted n block site bs) ≤ over_blocks count_written bs
blocks_few n block site [] = omega arith
blocks_few n block site (b ∷ bs) =
    let rest = blocks_noted n (block + 1) (site + over_insts one_unmarked b.insts) bs in
    omega (arith, insts_few n [] block site b.insts, blocks_few n (block + 1) (site + over_insts one_unmarked b.insts) bs, length-append (insts_noted n [] block site b.insts) rest)
