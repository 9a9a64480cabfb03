-- A name of a formed function that has a type is among the function's names, and its type is one of values.
use Rattle.std.proofs.Common.{◌≡◌, ◌<◌, ℕ, suc, ◌%◌, ◌^◌, List, [], ◌∷◌, ◌++◌, Option, Some, None, Bool, true, false, nat_le, leb-true, refl, sym, ap, subst, ◌∙◌, arith, map, length, get_or, true≢false}
use Rattle.std.specs.Prelude.{◌&&◌, not, nat_lt, filter_map, flat_map, option_map, if◌then◌else◌}
use Rattle.std.specs.List.{list_all, cons_option}
use Rattle.std.proofs.lemmas.Bool.{and_parts}
use Rattle.std.proofs.lemmas.Option.{same_Some, none-some}
use Rattle.std.proofs.lemmas.List.Elements.{filter_map-append}
use Rattle.ms_bits.specs.Numeral.{Numeral}
use Rattle.ms_ir.specs.declared.syntax.Name.{Name}
use Rattle.ms_ir.specs.declared.syntax.Ty.{Ty, Int, Ptr}
use Rattle.ms_ir.specs.declared.syntax.Op.{Op}
use Rattle.ms_ir.specs.declared.syntax.Op.TheVariants as op
use Rattle.ms_ir.specs.declared.syntax.Inst.{Inst}
use Rattle.ms_ir.specs.declared.syntax.Block.{Block}
use Rattle.ms_ir.specs.declared.syntax.Func.{Func}
use Rattle.ms_ir.specs.Names.{name_eq, main_name, lookup}
use Rattle.ms_ir.specs.Layout.{width_of}
use Rattle.ms_ir.specs.Locals.{block_locals, locals, results, typed_result, value_type}
use Rattle.ms_ir.specs.Written.{result_type}
use Rattle.ms_check_valid.specs.FlowGraph.{name_place}
use Rattle.ms_check_valid.specs.FormedNames.{is_local_name, is_global_name, are_numbered}
use Rattle.ms_check_valid.specs.FormedCode.{is_int_type, is_value_type, result_formed, shape_formed, inst_formed, is_body}
use Rattle.ms_check_valid.specs.Formed.{block_formed, func_formed}
use Rattle.ms_machine_code.specs.Reads.{Holds}
use Rattle.ms_machine_operands.specs.Words.{IsWord}
use Rattle.ms_machine.specs.WordsNamed.{word_named}
use Rattle.ms_machine.proofs.Naming.{lookup_hit, lookup_miss, place_hit, counts}
use Rattle.ms_runs_good_laws.proofs.Starts.{formed_shape}

-- ---- types of results

int_value : (t : Ty) → is_int_type t ≡ true → is_value_type t ≡ true
int_value (Int n) e = e
int_value Ptr e = refl
int_value t e = absurd (true≢false (sym e))

value_of : (o : Op) (u : Ty) → shape_formed o ≡ true → result_type o ≡ Some u → is_value_type u ≡ true
value_of (op.Binary o flags t a b) u f e = subst (λ (v : Ty). is_value_type v ≡ true) (same_Some t u e) (int_value t (and_parts (is_int_type t) _ f).0)
value_of (op.Icmp p flags t a b) u f e = subst (λ (v : Ty). is_value_type v ≡ true) (same_Some (Int 1) u e) refl
value_of (op.Cast o flags from a to) u f e =
    subst (λ (v : Ty). is_value_type v ≡ true) (same_Some to u e) (and_parts (is_value_type from) (is_value_type to) (and_parts (is_value_type from && is_value_type to) _ f).0).1
value_of (op.Select c t a b) u f e = subst (λ (v : Ty). is_value_type v ≡ true) (same_Some t u e) f
value_of (op.Freeze t a) u f e = subst (λ (v : Ty). is_value_type v ≡ true) (same_Some t u e) f
value_of (op.Phi t edges) u f e = subst (λ (v : Ty). is_value_type v ≡ true) (same_Some t u e) (and_parts (is_value_type t) _ f).0
value_of (op.Alloca t v count) u f e = subst (λ (v : Ty). is_value_type v ≡ true) (same_Some Ptr u e) refl
value_of (op.Load t addr) u f e = subst (λ (v : Ty). is_value_type v ≡ true) (same_Some t u e) f
value_of (op.Store t v addr) u f e = absurd (none-some u e)
value_of (op.Gep t base indices) u f e = subst (λ (v : Ty). is_value_type v ≡ true) (same_Some Ptr u e) refl
value_of (op.Call ret callee args) u f e =
    let three = and_parts ((result_formed ret && is_global_name callee) && not (name_eq callee main_name)) _ f in
    let two = and_parts (result_formed ret && is_global_name callee) (not (name_eq callee main_name)) three.0 in
    subst (λ (r : Option Ty). result_formed r ≡ true) e (and_parts (result_formed ret) (is_global_name callee) two.0).0
value_of (op.Br to) u f e = absurd (none-some u e)
value_of (op.CondBr c to other) u f e = absurd (none-some u e)
value_of (op.Switch t v other cases) u f e = absurd (none-some u e)
value_of (op.Ret v) u f e = absurd (none-some u e)
value_of op.Unreachable u f e = absurd (none-some u e)

-- ---- names with a type

-- a name is among some, and its type is one of values
pub record Known (names : List Name) (x : Name) (t : Ty) : Type 0 where
  pub listed : name_place names x < length names
  pub value : is_value_type t ≡ true

one_more : (y : Name) (names : List Name) (x : Name) (t : Ty) → Known names x t → Known (y ∷ names) x t
one_more y names x t k = record { listed = by_test (name_eq y x) k.listed; value = k.value }
  where
    by_test : (hit : Bool) → name_place names x < length names → (if hit then 0 else suc (name_place names x)) < suc (length names)
    by_test true l = omega arith
    by_test false l = omega (arith, l)

first_known : (y : Name) (names : List Name) (x : Name) (t : Ty) → name_eq y x ≡ true → is_value_type t ≡ true → Known (y ∷ names) x t
first_known y names x t hit value =
    let e : name_place (y ∷ names) x ≡ 0 = ap (λ (b : Bool). if b then 0 else suc (name_place names x)) hit in
    record { listed = omega (arith, e); value = value }

part_known : (part rest : List Name) (x : Name) (t : Ty) → Known part x t → Known (part ++ rest) x t
part_known part rest x t k =
    let e = place_hit part rest x k.listed in
    let n = counts part rest in
    let l = k.listed in
    record { listed = omega (arith, e, n, l); value = k.value }

rest_known : (part rest : List Name) (x : Name) (t : Ty) → Known rest x t → Known (part ++ rest) x t
rest_known [] rest x t k = k
rest_known (y ∷ part) rest x t k = one_more y (part ++ rest) x t (rest_known part rest x t k)

params_known : (ps : List (Ty × Name)) (x : Name) (t : Ty) → list_all (λ p. is_value_type p.0 && is_local_name p.1) ps ≡ true → lookup (map (λ p. (p.1, p.0)) ps) x ≡ Some t → Known (map (λ p. p.1) ps) x t
params_known [] x t f e = absurd (none-some t e)
params_known (p ∷ ps) x t f e =
    let parts = and_parts (is_value_type p.0 && is_local_name p.1) (list_all (λ q. is_value_type q.0 && is_local_name q.1) ps) f in
    by_test (name_eq p.1 x) refl (and_parts (is_value_type p.0) (is_local_name p.1) parts.0).0 e (params_known ps x t parts.1)
  where
    by_test : (hit : Bool) → name_eq p.1 x ≡ hit → is_value_type p.0 ≡ true → (if hit then Some p.0 else lookup (map (λ q. (q.1, q.0)) ps) x) ≡ Some t
        → (lookup (map (λ q. (q.1, q.0)) ps) x ≡ Some t → Known (map (λ q. q.1) ps) x t) → Known (p.1 ∷ map (λ q. q.1) ps) x t
    by_test true s value h later = first_known p.1 (map (λ q. q.1) ps) x t s (subst (λ (v : Ty). is_value_type v ≡ true) (same_Some p.0 t h) value)
    by_test false s value h later = one_more p.1 (map (λ q. q.1) ps) x t (later h)

one_typed : Option Name → Option Ty → Option (Name × Ty)
one_typed None t = None
one_typed (Some x) t = option_map (λ u. (x, u)) t

typed_is : (i : Inst) → typed_result i ≡ one_typed i.result (result_type i.op)
unfolding one_typed
typed_is i = by_result i.result
  where
    by_result : (o : Option Name) → typed_result (record i { result = o }) ≡ one_typed o (result_type i.op)
    by_result None = refl
    by_result (Some x) = refl

one_known : (r : Option Name) (o : Option Ty) (rows : List (Name × Ty)) (names : List Name) (x : Name) (t : Ty) → ((u : Ty) → o ≡ Some u → is_value_type u ≡ true)
    → lookup (cons_option (one_typed r o) rows) x ≡ Some t → (lookup rows x ≡ Some t → Known names x t) → Known (cons_option r names) x t
unfolding one_typed
one_known None o rows names x t g h later = later h
one_known (Some y) None rows names x t g h later = one_more y names x t (later h)
one_known (Some y) (Some u) rows names x t g h later = by_test (name_eq y x) refl h
  where
    by_test : (hit : Bool) → name_eq y x ≡ hit → (if hit then Some u else lookup rows x) ≡ Some t → Known (y ∷ names) x t
    by_test true s h = first_known y names x t s (subst (λ (v : Ty). is_value_type v ≡ true) (same_Some u t h) (g u refl))
    by_test false s h = one_more y names x t (later h)

insts_known : (is : List Inst) (x : Name) (t : Ty) → list_all inst_formed is ≡ true → lookup (filter_map typed_result is) x ≡ Some t → Known (results is) x t
insts_known [] x t f e = absurd (none-some t e)
insts_known (i ∷ is) x t f e =
    let parts = and_parts (inst_formed i) (list_all inst_formed is) f in
    one_known i.result (result_type i.op) (filter_map typed_result is) (results is) x t (λ u g. value_of i.op u (formed_shape i parts.0) g)
    (ap (λ o. lookup (cons_option o (filter_map typed_result is)) x) (sym (typed_is i)) ∙ e) (insts_known is x t parts.1)

-- a name with a type in one of two lists
either_known : (a b : List (Name × Ty)) (names more : List Name) (x : Name) (t : Ty) → (lookup a x ≡ Some t → Known names x t) → (lookup b x ≡ Some t → Known more x t)
    → lookup (a ++ b) x ≡ Some t → Known (names ++ more) x t
either_known a b names more x t one two e = by_found (lookup a x) refl
  where
    by_found : (o : Option Ty) → lookup a x ≡ o → Known (names ++ more) x t
    by_found None s = rest_known names more x t (two (sym (lookup_miss a b x s) ∙ e))
    by_found (Some u) s = part_known names more x t (one (s ∙ sym (lookup_hit a b x u s) ∙ e))

blocks_known : (bs : List Block) (x : Name) (t : Ty) → list_all block_formed bs ≡ true → lookup (filter_map typed_result (flat_map (λ b. b.insts) bs)) x ≡ Some t → Known (flat_map block_locals bs) x t
blocks_known [] x t f e = absurd (none-some t e)
blocks_known (b ∷ bs) x t f e =
    let parts = and_parts (block_formed b) (list_all block_formed bs) f in
    let body = (and_parts (is_local_name b.name && is_body b.insts) (list_all inst_formed b.insts) parts.0).1 in
    either_known (filter_map typed_result b.insts) (filter_map typed_result (flat_map (λ k. k.insts) bs)) (block_locals b) (flat_map block_locals bs) x t
    (λ h. one_more b.name (results b.insts) x t (insts_known b.insts x t body h)) (blocks_known bs x t parts.1)
    (ap (λ rows. lookup rows x) (sym (filter_map-append typed_result b.insts (flat_map (λ k. k.insts) bs))) ∙ e)

pub func_known : (f : Func) (x : Name) (t : Ty) → func_formed f ≡ true → value_type f x ≡ Some t → Known (locals f) x t
func_known f x t formed e =
    let front : Bool = is_global_name f.name && result_formed f.ret in
    let params : Bool = list_all (λ p. is_value_type p.0 && is_local_name p.1) f.params in
    let four = (and_parts (((front && params) && nat_lt 0 (length f.blocks)) && list_all block_formed f.blocks) (are_numbered (locals f)) formed).0 in
    let three = and_parts ((front && params) && nat_lt 0 (length f.blocks)) (list_all block_formed f.blocks) four in
    let two = and_parts (front && params) (nat_lt 0 (length f.blocks)) three.0 in
    either_known (map (λ p. (p.1, p.0)) f.params) (filter_map typed_result (flat_map (λ b. b.insts) f.blocks)) (map (λ p. p.1) f.params) (flat_map block_locals f.blocks) x t
    (params_known f.params x t (and_parts front params two.0).1) (blocks_known f.blocks x t three.1) e

-- ---- words

pub word_type : (t : Ty) → is_value_type t ≡ true → IsWord t
word_type (Int n) e = let parts = and_parts (nat_le 1 n) (nat_le n 64) e in (leb-true 1 n parts.0, leb-true n 64 parts.1)
word_type Ptr e = tt
word_type t e = absurd (true≢false (sym e))

-- the word of a name with a type is what stands at the name's number, cut to the type's width
pub word_some : (f : Func) (values : List ℕ) (x : Name) (t : Ty) (w v : ℕ) (r : Numeral) → func_formed f ≡ true → Some t ≡ value_type f x → w ≡ width_of t → v ≡ get_or values (name_place (locals f) x) 0
    → r ≡ record { width = w; value = v % 2 ^ w } → (meant : Name → ℕ) → Holds (locals f) values meant → Some r ≡ word_named f meant x
word_some f values x t w v r formed typed wide reads is meant holds =
    let same : v ≡ meant x = reads ∙ holds.same x (func_known f x t formed (sym typed)).listed in
    ap Some (is ∙ (λ j. record { width = wide j; value = same j % 2 ^ wide j })) ∙ ap (option_map (λ u. record { width = width_of u; value = meant x % 2 ^ width_of u })) typed

pub word_none : (f : Func) (x : Name) → None ≡ value_type f x → (meant : Name → ℕ) → None ≡ word_named f meant x
word_none f x typed meant = ap (option_map (λ u. record { width = width_of u; value = meant x % 2 ^ width_of u })) typed
