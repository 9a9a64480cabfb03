-- The walk over a function notes its uses of values that are no parameters.
use Rattle.std.proofs.Common.{◌≡◌, ℕ, ◌+◌, ◌<◌, List, [], ◌∷◌, ◌++◌, Bool, true, false, cond, not, refl, sym, ap, ◌∙◌, arith, append_assoc, length, take, map, if◌then◌else◌}
use Rattle.std.specs.Prelude.{slice_get, Option, Some, None, option_map, option_to_list, unwrap_or}
use Rattle.std.specs.List.{cons_option}
use Rattle.std.proofs.Math.Path.{ap₂}
use Rattle.std.proofs.Math.Seq.{take-append_seam}
use Rattle.std.proofs.lemmas.List.{length-append, length_push}
use Rattle.std.proofs.lemmas.List.Elements.{filter_map-append}
use Rattle.ms_ir.specs.declared.syntax.Name.{Name}
use Rattle.ms_ir.specs.declared.syntax.Operand.{Operand}
use Rattle.ms_ir.specs.declared.syntax.Operand.TheVariants as operand
use Rattle.ms_ir.specs.declared.syntax.Op.{Op}
use Rattle.ms_ir.specs.declared.syntax.Op.TheVariants as op
use Rattle.ms_ir.specs.declared.syntax.Inst.{Inst}
use Rattle.ms_ir.specs.declared.syntax.Block.{Block}
use Rattle.ms_ir.specs.declared.syntax.Func.{Func}
use Rattle.ms_ir.specs.Instructions.{operands, block_index, one_unmarked, over_insts}
use Rattle.ms_ir.specs.Equal.{has_name}
use Rattle.ms_ir.specs.Locals.{results, parameter_names}
use Rattle.ms_check_valid.specs.Paths.{ValueUse, insts_of}
use Rattle.ms_ir.specs.Spots.{Spot, spot, over_spots, over_block_spots}
use Rattle.ms_check_valid.specs.UsesDefined.{SiteUse, operand_use, edge_use, inst_uses}
use Rattle.ms_check_valid.specs.FlowGraph.{stands_after, flow_use}
use Rattle.ms_check_valid.proofs.NamePlaces.{index_is}
use Rattle.ms_check_valid.proofs.StandsAfter.{stands_at_end, stands_within}
use Rattle.ms_check_flow.specs.declared.inst_uses.NotedUse.{NotedUse}
use Rattle.ms_check_flow.specs.Noted.{numbers_in, value_noted, operand_noted, last_noted, edge_noted, op_noted, insts_noted, blocks_noted}
use Rattle.ms_check_flow.specs.Asked.{func_uses}
use Rattle.ms_check_flow.proofs.Kept.{kept, kept-append, kept_of_each}

-- a use of a value that is no parameter
abbrev pub is_asked : SiteUse → Bool
is_asked u = not (has_name (parameter_names u.func) u.value.name)

-- a use as it is noted
abbrev pub noted_of : SiteUse → NotedUse
noted_of u = record { site = u.site; place = flow_use u.func u.value }

abbrev pub asked : List SiteUse → List NotedUse
asked us = kept is_asked noted_of us

-- ---- one use

one_asked : (own : Bool) (u : SiteUse) → map noted_of (cond (not own) (u ∷ []) []) ≡ (if own then [] else noted_of u ∷ [])
one_asked true u = refl
one_asked false u = refl

value_tied : (f : Func) (u : ValueUse) (site : ℕ) (after : Bool) → stands_after f u ≡ after
    → value_noted (numbers_in f) site u.block after u.name ≡ asked (record { func = f; site = site; value = u } ∷ [])
value_tied f u site after flag =
    ap (λ t. value_noted (numbers_in f) site u.block t u.name) (sym flag)
    ∙ sym (one_asked (has_name (parameter_names f) u.name) (record { func = f; site = site; value = u }))

-- ---- one instruction

operand_tied : (f : Func) (b p site : ℕ) (seen : List Name) → p < length (insts_of f b) → seen ≡ results (take p (insts_of f b)) → (o : Operand)
    → operand_noted (numbers_in f) seen b site o ≡ asked (operand_use (spot f b p site) b p o)
operand_tied f b p site seen l is (operand.Local x) =
    let u : ValueUse = record { block = b; place = p; name = x } in
    value_tied f u site (has_name seen x) (stands_within f u l ∙ ap (λ names. has_name names x) (sym is))
operand_tied f b p site seen l is o = refl

last_tied : (f : Func) (b p site from : ℕ) (o : Operand) → last_noted (numbers_in f) site from o ≡ asked (operand_use (spot f b p site) from (length (insts_of f from)) o)
last_tied f b p site from (operand.Local x) =
    let u : ValueUse = record { block = from; place = length (insts_of f from); name = x } in
    value_tied f u site true (stands_at_end f u (omega arith))
last_tied f b p site from o = refl

edge_tied : (f : Func) (b p site : ℕ) (e : Operand × Name) → edge_noted (numbers_in f) site e ≡ asked (edge_use (spot f b p site) e)
edge_tied f b p site e = ap (λ n. last_noted (numbers_in f) site n e.0) (index_is f.blocks e.1) ∙ last_tied f b p site (block_index f.blocks e.1) e.0

op_tied : (f : Func) (b p site : ℕ) (seen : List Name) → p < length (insts_of f b) → seen ≡ results (take p (insts_of f b)) → (o : Op)
    → op_noted (numbers_in f) seen b site o ≡ asked (inst_uses (spot f b p site) o)
op_tied f b p site seen l is (op.Phi t edges) =
    kept_of_each is_asked noted_of (edge_use (spot f b p site)) (edge_noted (numbers_in f) site) (edge_tied f b p site) edges
op_tied f b p site seen l is o =
    kept_of_each is_asked noted_of (λ a. operand_use (spot f b p site) b p a.1) (λ a. operand_noted (numbers_in f) seen b site a.1)
    (λ a. operand_tied f b p site seen l is a.1) (operands o)

-- ---- instructions and blocks in turn

one_result : (o : Option Name) → cons_option o [] ≡ option_to_list o
one_result None = refl
one_result (Some x) = refl

results_more : (insts : List Inst) (inst : Inst) → results (insts ++ inst ∷ []) ≡ results insts ++ option_to_list inst.result
results_more insts inst = filter_map-append (λ i. i.result) insts (inst ∷ []) ∙ ap (λ r. results insts ++ r) (one_result inst.result)

abbrev look : Spot → Inst → List SiteUse
look at inst = inst_uses at inst.op

insts_tied : (f : Func) (b site : ℕ) (seen : List Name) (p : ℕ) (front insts : List Inst) → insts_of f b ≡ front ++ insts → p ≡ length front → seen ≡ results front
    → insts_noted (numbers_in f) seen b site insts ≡ asked (over_spots look (spot f b p site) insts)
insts_tied f b site seen p front [] is len from = refl
insts_tied f b site seen p front (inst ∷ rest) is len from =
    let within : p < length (insts_of f b) = omega (arith, len, ap length is, length-append front (inst ∷ rest)) in
    let so_far : seen ≡ results (take p (insts_of f b)) =
    from ∙ ap results (sym (take-append_seam front (inst ∷ rest)) ∙ ap₂ take (sym len) (sym is)) in
    let split : insts_of f b ≡ (front ++ inst ∷ []) ++ rest = is ∙ sym (append_assoc front (inst ∷ []) rest) in
    let more : p + 1 ≡ length (front ++ inst ∷ []) = omega (arith, len, length_push front inst) in
    ap₂ (λ l r. l ++ r) (op_tied f b p site seen within so_far inst.op)
    (insts_tied f b (site + one_unmarked inst) (seen ++ option_to_list inst.result) (p + 1) (front ++ inst ∷ []) rest split more
    (ap (λ s. s ++ option_to_list inst.result) from ∙ sym (results_more front inst)))
    ∙ sym (kept-append is_asked noted_of (inst_uses (spot f b p site) inst.op) (over_spots look (spot f b (p + 1) (site + one_unmarked inst)) rest))

-- what stands after the front of a list
at_seam : (front : List Block) (b : Block) (rest : List Block) → slice_get (front ++ b ∷ rest) (length front) ≡ Some b
at_seam [] b rest = refl
at_seam (k ∷ front) b rest = at_seam front b rest

blocks_tied : (f : Func) (site n : ℕ) (front blocks : List Block) → f.blocks ≡ front ++ blocks → n ≡ length front
    → blocks_noted (numbers_in f) n site blocks ≡ asked (over_block_spots look f n site blocks)
blocks_tied f site n front [] is len = refl
blocks_tied f site n front (b ∷ rest) is len =
    let at : slice_get f.blocks n ≡ Some b = ap₂ slice_get is len ∙ at_seam front b rest in
    let there : insts_of f n ≡ b.insts = ap (λ (o : Option Block). unwrap_or (option_map (λ k. k.insts) o) []) at in
    let split : f.blocks ≡ (front ++ b ∷ []) ++ rest = is ∙ sym (append_assoc front (b ∷ []) rest) in
    let more : n + 1 ≡ length (front ++ b ∷ []) = omega (arith, len, length_push front b) in
    ap₂ (λ l r. l ++ r) (insts_tied f n site [] 0 [] b.insts there refl refl)
    (blocks_tied f (site + over_insts one_unmarked b.insts) (n + 1) (front ++ b ∷ []) rest split more)
    ∙ sym (kept-append is_asked noted_of (over_spots look (spot f n 0 site) b.insts) (over_block_spots look f (n + 1) (site + over_insts one_unmarked b.insts) rest))

-- what is noted of a function
pub func_tied : (f : Func) (site : ℕ) → blocks_noted (numbers_in f) 0 site f.blocks ≡ asked (func_uses f site)
func_tied f site = blocks_tied f site 0 [] f.blocks refl refl
