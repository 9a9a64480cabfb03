-- What form, validity and freedom of marks give at each instruction.
use Rattle.std.proofs.Common.{◌≡◌, ℕ, zero, suc, List, [], ◌∷◌, ◌++◌, Bool, true, false, Option, Some, None, refl, sym, ap, subst, ◌∙◌, arith, inl, inr, true≢false}
use Rattle.std.specs.Prelude.{◌&&◌, not, map, flat_map, length, nat_lt, nat_le, slice_get, unwrap_or, option_map}
use Rattle.std.specs.List.{list_all}
use Rattle.ms_ir.specs.declared.syntax.Name.{Name}
use Rattle.ms_ir.specs.declared.syntax.Inst.{Inst}
use Rattle.ms_ir.specs.declared.syntax.Block.{Block}
use Rattle.ms_ir.specs.declared.syntax.Func.{Func}
use Rattle.ms_ir.specs.declared.syntax.Module.{Module}
use Rattle.ms_ir.specs.Names.{is_reserved}
use Rattle.ms_ir.specs.Instructions.{operands, func_at, insts_at}
use Rattle.ms_ir.specs.declared.syntax.Ty.{Ty}
use Rattle.ms_ir.specs.declared.syntax.Operand.{Operand}
use Rattle.ms_ir.specs.declared.syntax.Op.TheVariants as op
use Rattle.std.proofs.Math.Path.{ap₂}
use Rattle.std.proofs.lemmas.Bool.{leb-true, and_parts}
use Rattle.ms_pass_form_laws.proofs.Emitted.{CallGood}
use Rattle.ms_pass_form_laws.proofs.PassPaths.{Filled}
use Rattle.ms_pass_form_laws.proofs.Within.{given_by}
use Rattle.ms_pass_form_laws.proofs.CallArguments.{call_good}
use Rattle.ms_ir.specs.Layout.{Types}
use Rattle.ms_ir.specs.Written.{type_mentions, mentions, op_types}
use Rattle.ms_ir.specs.Locals.{locals, func_insts, type_names, symbols}
use Rattle.ms_check_valid.specs.NamesKnown.{global_mentions}
use Rattle.ms_check_valid.specs.Formed.{Formed, func_formed, block_formed}
use Rattle.ms_check_valid.specs.FormedNames.{is_local_name, is_global_name, are_numbered}
use Rattle.ms_check_valid.specs.FormedCode.{is_value_type, result_formed, operand_formed, shape_formed, op_formed, inst_formed}
use Rattle.ms_check_valid.specs.Paths.{insts_of}
use Rattle.ms_check_valid.specs.SizesFit.{sized, spelled_unless, func_types}
use Rattle.ms_check_valid.specs.ReadLimits.{mentioned, func_names}
use Rattle.ms_check_valid.specs.Uninstrumented.{IsUninstrumented, CanInstrument}
use Rattle.ms_check_valid.specs.Valid.{Valid}
use Rattle.ms_check_valid.proofs.Finding.{both_empty}
use Rattle.ms_check_valid.proofs.SmallNumbers.{blocks_of}
use Rattle.ms_runs_good_laws.proofs.Starts.{all_get, formed_insts}
use Rattle.ms_runs_good_laws.proofs.CallTypes.{not_true}
use Rattle.ms_runs_good_laws.proofs.Frames.{unmarked_at}
use Rattle.ms_pass_form_laws.proofs.Paths.{In}
use Rattle.ms_pass_form_laws.proofs.ReadyInsts.{sized_split}
use Rattle.ms_pass_form_laws.proofs.AllReady.{Plain}

-- an instruction of a module stands in a block of a function
record Where (m : Module) (n b p : ℕ) (i : Inst) : Type 0 where
  pub func : Func
  pub block : Block
  pub at : func_at m n ≡ Some func
  pub block_at : slice_get func.blocks b ≡ Some block
  pub due : slice_get block.insts p ≡ Some i

where_is : (m : Module) (n b p : ℕ) (i : Inst) → slice_get (insts_at m n b) p ≡ Some i → Where m n b p i
where_is m n b p i e = by_func (func_at m n) refl e
  where
    by_block : (f : Func) → func_at m n ≡ Some f → (o : Option Block) → slice_get f.blocks b ≡ o → slice_get (unwrap_or (option_map (λ k. k.insts) o) []) p ≡ Some i → Where m n b p i
    by_block f at None s h = grind arith
    by_block f at (Some k) s h = record { func = f; block = k; at = at; block_at = s; due = h }

    by_func : (o : Option Func) → func_at m n ≡ o → slice_get (unwrap_or (option_map (λ k. k.insts) (slice_get (unwrap_or (option_map (λ x. x.blocks) o) []) b)) []) p ≡ Some i → Where m n b p i
    by_func None s h = grind arith
    by_func (Some f) s h = by_block f s (slice_get f.blocks b) refl h

pub formed_at : (m : Module) → Formed m → (n b p : ℕ) (i : Inst) → slice_get (insts_at m n b) p ≡ Some i → inst_formed i ≡ true
formed_at m w n b p i e =
    let x = where_is m n b p i e in
    let f = all_get func_formed m.funcs n x.func w.functions x.at in
    let k = all_get block_formed x.func.blocks b x.block (blocks_of x.func f).1 x.block_at in
    all_get inst_formed x.block.insts p i (formed_insts x.block k).1 x.due

-- ---- sizes

sized_name : (c : Bool) (x : Name) → spelled_unless c true x ≡ [] → c ≡ true
sized_name true x e = refl
sized_name false x e = grind arith

sized_func : (types : Types) (fs : List Func) (n : ℕ) (f : Func) → flat_map (λ k. spelled_unless (sized types (func_types k)) true k.name) fs ≡ [] → slice_get fs n ≡ Some f → sized types (func_types f) ≡ true
sized_func types [] n f e at = grind arith
sized_func types (k ∷ fs) zero f e at =
    subst (λ x. sized types (func_types x) ≡ true) (ap (λ o. unwrap_or o k) at)
    (sized_name (sized types (func_types k)) k.name (both_empty (spelled_unless (sized types (func_types k)) true k.name) _ e).0)
sized_func types (k ∷ fs) (suc n) f e at = sized_func types fs n f (both_empty (spelled_unless (sized types (func_types k)) true k.name) _ e).1 at

sized_insts : (types : Types) (is more : List Inst) (p : ℕ) (i : Inst) → sized types (flat_map (λ k. op_types k.op) (is ++ more)) ≡ true → slice_get is p ≡ Some i → sized types (op_types i.op) ≡ true
sized_insts types [] more p i e at = grind arith
sized_insts types (k ∷ is) more zero i e at =
    subst (λ x. sized types (op_types x.op) ≡ true) (ap (λ o. unwrap_or o k) at) (sized_split types (op_types k.op) (flat_map (λ k. op_types k.op) (is ++ more)) e).0
sized_insts types (k ∷ is) more (suc p) i e at = sized_insts types is more p i (sized_split types (op_types k.op) (flat_map (λ k. op_types k.op) (is ++ more)) e).1 at

past_insts : (types : Types) (is more : List Inst) → sized types (flat_map (λ k. op_types k.op) (is ++ more)) ≡ true → sized types (flat_map (λ k. op_types k.op) more) ≡ true
past_insts types [] more e = e
past_insts types (k ∷ is) more e = past_insts types is more (sized_split types (op_types k.op) (flat_map (λ k. op_types k.op) (is ++ more)) e).1

sized_blocks : (types : Types) (bs : List Block) (b p : ℕ) (k : Block) (i : Inst) → sized types (flat_map (λ x. op_types x.op) (flat_map (λ x. x.insts) bs)) ≡ true → slice_get bs b ≡ Some k
    → slice_get k.insts p ≡ Some i → sized types (op_types i.op) ≡ true
sized_blocks types [] b p k i e at due = grind arith
sized_blocks types (x ∷ bs) zero p k i e at due =
    sized_insts types x.insts (flat_map (λ x. x.insts) bs) p i e (ap (λ o. slice_get (unwrap_or o x).insts p) at ∙ due)
sized_blocks types (x ∷ bs) (suc b) p k i e at due = sized_blocks types bs b p k i (past_insts types x.insts (flat_map (λ x. x.insts) bs) e) at due

sizes_at : (m : Module) → Valid m → (n b p : ℕ) (i : Inst) → slice_get (insts_at m n b) p ≡ Some i → sized m.types (op_types i.op) ≡ true
sizes_at m v n b p i e =
    let x = where_is m n b p i e in
    let later = (both_empty _ _ (both_empty _ _ v.sizes_fit).1).1 in
    sized_blocks m.types x.func.blocks b p x.block i (sized_func m.types m.funcs n x.func later x.at) x.block_at x.due

-- ---- marks and names

pub all_right : (q : Name → Bool) (a b : List Name) → list_all q (a ++ b) ≡ true → list_all q b ≡ true
all_right q [] b e = e
all_right q (x ∷ a) b e = all_right q a b (and_parts (q x) (list_all q (a ++ b)) e).1

pub all_left : (q : Name → Bool) (a b : List Name) (x : Name) → list_all q (a ++ b) ≡ true → In a x → q x ≡ true
all_left q [] b x e i = absurd i
all_left q (y ∷ a) b x e (inl s) = subst (λ z. q z ≡ true) s (and_parts (q y) (list_all q (a ++ b)) e).0
all_left q (y ∷ a) b x e (inr i) = all_left q a b x (and_parts (q y) (list_all q (a ++ b)) e).1 i

func_free : (q : Name → Bool) (fs : List Func) (n : ℕ) (f : Func) (x : Name) → list_all q (flat_map func_names fs) ≡ true → slice_get fs n ≡ Some f → In (locals f) x → q x ≡ true
func_free q [] n f x e at i = grind arith
func_free q (k ∷ fs) zero f x e at i =
    all_left q (func_names k) (flat_map func_names fs) x e
    (within (locals k) (map mentioned (flat_map (λ inst. mentions inst.op) (func_insts k))) x (subst (λ y. In (locals y) x) (sym (ap (λ o. unwrap_or o k) at)) i))
  where
    within : (a b : List Name) (y : Name) → In a y → In (a ++ b) y
    within [] b y h = absurd h
    within (z ∷ a) b y (inl s) = inl s
    within (z ∷ a) b y (inr h) = inr (within a b y h)
func_free q (k ∷ fs) (suc n) f x e at i = func_free q fs n f x (all_right q (func_names k) (flat_map func_names fs) e) at i

free_at : (m : Module) → IsUninstrumented m → (n : ℕ) (f : Func) → func_at m n ≡ Some f → (x : Name) → In (locals f) x → is_reserved x ≡ false
free_at m u n f at x i =
    let q = λ (y : Name). not (is_reserved y) in
    let outer = map mentioned (flat_map (λ t. type_mentions t.1) m.types ++ flat_map global_mentions m.globals) in
    not_true (is_reserved x) (func_free q m.funcs n f x (all_right q outer (flat_map func_names m.funcs) (all_right q (type_names m ++ symbols m) (outer ++ flat_map func_names m.funcs) u.free)) at i)

-- ---- the entry

filled_from : (bs : List Block) → nat_lt 0 (length bs) ≡ true → Filled bs
filled_from [] e = absurd (true≢false (sym e))
filled_from (b ∷ bs) e = tt

values_from : (ps : List (Ty × Name)) → list_all (λ p. is_value_type p.0 && is_local_name p.1) ps ≡ true → list_all (λ p. is_value_type p.0) ps ≡ true
values_from [] e = refl
values_from (p ∷ ps) e =
    let h = and_parts (is_value_type p.0 && is_local_name p.1) (list_all (λ p. is_value_type p.0 && is_local_name p.1) ps) e in
    ap₂ (λ a b. a && b) (and_parts (is_value_type p.0) (is_local_name p.1) h.0).0 (values_from ps h.1)

formed_params : (f : Func) → func_formed f ≡ true → list_all (λ p. is_value_type p.0 && is_local_name p.1) f.params ≡ true
formed_params f e =
    let front = is_global_name f.name && result_formed f.ret && list_all (λ p. is_value_type p.0 && is_local_name p.1) f.params in
    let some = front && nat_lt 0 (length f.blocks) in
    let blocks = some && list_all block_formed f.blocks in
    (and_parts (is_global_name f.name && result_formed f.ret) _ (and_parts front _ (and_parts some _ (and_parts blocks (are_numbered (locals f)) e).0).0).0).1

pub plain_module : (m : Module) → Formed m → Valid m → CanInstrument m → Plain m
plain_module m w v can = record {
  formed = formed_at m w;
  sizes = sizes_at m v;
  unmarked = unmarked_at m can.plain.unmarked;
  free = free_at m can.plain;
  few = w.few_operands;
  calls = calls_at;
  filled = λ n f at. filled_from f.blocks (blocks_of f (all_get func_formed m.funcs n f w.functions at)).0;
  values = λ n f at. values_from f.params (formed_params f (all_get func_formed m.funcs n f w.functions at));
  params = λ n f at. leb-true (length f.params) 100 (all_get (λ (g : Func). nat_le (length g.params) 100) m.funcs n f can.parameters at);
}
  where
    calls_at : (n b p : ℕ) (f : Func) (i : Inst) → func_at m n ≡ Some f → slice_get (insts_of f b) p ≡ Some i → (r : Option Ty) (x : Name) (as' : List (Ty × Operand)) → i.op ≡ op.Call r x as'
        → CallGood (given_by m) r x as'
    calls_at n b p f i at due r x as' calls =
        let there : slice_get (insts_at m n b) p ≡ Some i = ap (λ o. slice_get (unwrap_or (option_map (λ k. k.insts) (slice_get (unwrap_or (option_map (λ x. x.blocks) o) []) b)) []) p) at ∙ due in
        let formed = (and_parts (op_formed i.op) _ (formed_at m w n b p i there)).0 in
        call_good m w v can n b p f i at due (unmarked_at m can.plain.unmarked n b p i there) r x as' calls
        (and_parts (shape_formed i.op) _ (and_parts (shape_formed i.op && list_all (λ a. operand_formed a.0 a.1) (operands i.op)) _ formed).0).0
