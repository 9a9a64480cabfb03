-- The branches of a function go to its blocks, where the types of its module agree.
use Rattle.std.proofs.Common.{◌≡◌, ℕ, ◌<◌, List, [], ◌∷◌, Bool, true, Some, refl, ap, ◌∙◌, arith, length, map, get_or, false}
use Rattle.std.specs.Prelude.{◌&&◌, All, None, Option, option_map, unwrap_or, flat_map, slice_get}
use Rattle.std.specs.List.{list_all}
use Rattle.std.specs.Option.{option_or}
use Rattle.std.proofs.lemmas.Bool.{and_parts}
use Rattle.std.proofs.lemmas.List.{length-map}
use Rattle.std.proofs.lemmas.List.Elements.{All-nil, All-head, All-tail, All-append, All-map, All-weaker}
use Rattle.std.proofs.lemmas.List.Sums.{AllPass-from_list_all}
use Rattle.std.proofs.lemmas.Option.{slice_get-get_or}
use Rattle.ms_flow.specs.Search.{StaysIn}
use Rattle.ms_ir.specs.declared.syntax.Name.{Name}
use Rattle.ms_ir.specs.declared.syntax.Ty.{Ty}
use Rattle.ms_ir.specs.declared.syntax.Operand.{Operand}
use Rattle.ms_ir.specs.declared.syntax.Op.{Op}
use Rattle.ms_ir.specs.declared.syntax.Op.TheVariants as op
use Rattle.ms_ir.specs.declared.syntax.Inst.{Inst}
use Rattle.ms_ir.specs.declared.syntax.Block.{Block}
use Rattle.ms_ir.specs.declared.syntax.Func.{Func}
use Rattle.ms_ir.specs.declared.syntax.Module.{Module}
use Rattle.ms_ir.specs.Instructions.{operands, block_index, func_at, insts_at, site_at}
use Rattle.ms_ir.specs.Equal.{has_name}
use Rattle.ms_check_valid.specs.FlowGraph.{graph_of}
use Rattle.ms_check_valid.specs.Paths.{block_successors}
use Rattle.ms_ir.specs.Locals.{block_names, value_type}
use Rattle.ms_ir.specs.Spots.{Spot, found_at_insts}
use Rattle.ms_check_valid.specs.TypesAgree.{first_misfit, fault_unless, differ, operand_fits, op_fault, at_site, init_faults, mismatches}
use Rattle.ms_ir.specs.Written.{targets, block_targets}
use Rattle.ms_check_valid.proofs.Finding.{both_empty, at_insts}
use Rattle.ms_check_valid.proofs.NamePlaces.{index_below}
use Rattle.ms_check_valid.proofs.AtInstructions.{no_fault}

-- ---- one instruction

second_none : (a b : Option ℕ) → option_or a b ≡ None → b ≡ None
second_none None b e = e
second_none (Some k) b e = grind arith

holds : (t : Bool) → fault_unless t ≡ None → t ≡ true
holds true e = refl
holds false e = grind arith

-- an instruction without a fault goes to blocks
targets_known : (m : Module) (f : Func) (fits : Ty × Operand → Bool) (o : Op) → op_fault m f fits o ≡ None → list_all (has_name (block_names f)) (targets o) ≡ true
targets_known m f fits (op.Cast o flags from a to) e = refl
targets_known m f fits (op.Gep t base indices) e = refl
targets_known m f fits (op.Call ret callee args) e = refl
targets_known m f fits (op.Ret v) e = refl
targets_known m f fits (op.Switch t v other cases) e =
    let known = list_all (has_name (block_names f)) (targets (op.Switch t v other cases)) in
    (and_parts (differ cases) known (holds (differ cases && known) (second_none (first_misfit fits 0 ((t, v) ∷ [])) (fault_unless (differ cases && known)) e))).1
targets_known m f fits o e =
    holds (list_all (has_name (block_names f)) (targets o)) (second_none (first_misfit fits 0 (operands o)) (fault_unless (list_all (has_name (block_names f)) (targets o))) e)

-- the number of a known target is a block's
target_below : (f : Func) (x : Name) → has_name (block_names f) x ≡ true → block_index f.blocks x < length (map (block_successors f) f.blocks)
target_below f x e = omega (arith, index_below f.blocks x e, length-map f.blocks (block_successors f))

-- ---- a function

all_flat : {A B : Type 0} (P : B → Type 0) (h : A → List B) (xs : List A) → All (λ a. All P (h a)) xs → All P (flat_map h xs)
all_flat P h [] all = All-nil P
all_flat P h (x ∷ xs) all =
    All-append P (h x) (flat_map h xs) (All-head (λ a. All P (h a)) x xs all) (all_flat P h xs (All-tail (λ a. All P (h a)) x xs all))

-- the instructions of a block of a function
insts_there : (m : Module) (n b : ℕ) (f : Func) (k : Block) → func_at m n ≡ Some f → slice_get f.blocks b ≡ Some k → insts_at m n b ≡ k.insts
insts_there m n b f k at is =
    ap (λ (bs : List Block). unwrap_or (option_map (λ g. g.insts) (slice_get bs b)) []) (ap (λ (o : Option Func). unwrap_or (option_map (λ g. g.blocks) o) []) at)
    ∙ ap (λ (o : Option Block). unwrap_or (option_map (λ g. g.insts) o) []) is

-- a number of a block
abbrev IsBlock : Func → ℕ → Type 0
IsBlock f b = b < length (map (block_successors f) f.blocks)

-- the targets of an instruction of a function have numbers of blocks
inst_stays : (m : Module) → mismatches m ≡ [] → (n b p : ℕ) (f : Func) (k : Block) (inst : Inst) → func_at m n ≡ Some f → slice_get f.blocks b ≡ Some k
    → slice_get k.insts p ≡ Some inst → All (λ x. IsBlock f (block_index f.blocks x)) (targets inst.op)
inst_stays m agree n b p f k inst at is due =
    let look = λ (s : Spot) (i : Inst). at_site s.site (op_fault m s.func (λ o. operand_fits m (value_type s.func) o.0 o.1) i.op) in
    let there : slice_get (insts_at m n b) p ≡ Some inst = ap (λ (is : List Inst). slice_get is p) (insts_there m n b f k at is) ∙ due in
    let none = at_insts look (λ l. l ≡ []) both_empty (λ g. []) m (both_empty (init_faults m 0 m.globals) (found_at_insts look m) agree).1 n b p f inst at there in
    let fits = λ (o : Ty × Operand). operand_fits m (value_type f) o.0 o.1 in
    let known = targets_known m f fits inst.op (no_fault (site_at m n b p) (op_fault m f fits inst.op) none) in
    All-weaker (λ x. has_name (block_names f) x ≡ true) (λ x. IsBlock f (block_index f.blocks x)) (target_below f) (targets inst.op)
    (AllPass-from_list_all (has_name (block_names f)) (targets inst.op) known)

-- the same for a block
block_stays : (m : Module) → mismatches m ≡ [] → (n b : ℕ) (f : Func) (k : Block) → func_at m n ≡ Some f → slice_get f.blocks b ≡ Some k
    → All (IsBlock f) (block_successors f k)
block_stays m agree n b f k at is =
    All-map (IsBlock f) (block_index f.blocks) (block_targets k)
    (all_flat (λ x. IsBlock f (block_index f.blocks x)) (λ inst. targets inst.op) k.insts
    (λ p d l. inst_stays m agree n b p f k (get_or k.insts p d) at is (slice_get-get_or k.insts p d l)))

pub stays_in : (m : Module) → mismatches m ≡ [] → (n : ℕ) (f : Func) → func_at m n ≡ Some f → StaysIn (graph_of f)
stays_in m agree n f at =
    All-map (All (IsBlock f)) (block_successors f) f.blocks
    (λ b d l. block_stays m agree n b f (get_or f.blocks b d) at (slice_get-get_or f.blocks b d l))
