-- What the pass asks of functions: their parameters, their phis, where their jumps go, and `main`.
use Rattle.std.proofs.Common.{◌≡◌, ◌≢◌, ℕ, zero, suc, ◌+◌, ◌≤◌, ◌<◌, List, [], ◌∷◌, ◌++◌, length, Bool, true, false, Option, Some, None, refl, sym, ap, ◌∙◌, subst, arith, inl, inr, true≢false}
use Rattle.std.specs.Prelude.{◌||◌, ◌&&◌, map, flat_map, filter_map, nat_lt, nat_eq, if◌then◌else◌, option_map, unwrap_or, slice_get}
use Rattle.std.specs.List.{list_all}
use Rattle.std.proofs.lemmas.Bool.{and_parts, eqb-true}
use Rattle.ms_ir.specs.declared.syntax.Name.{Name}
use Rattle.ms_ir.specs.declared.syntax.Name.TheVariants.{Number}
use Rattle.ms_ir.specs.declared.syntax.Ty.{Ty, Int}
use Rattle.ms_ir.specs.declared.syntax.Operand.{Operand}
use Rattle.ms_ir.specs.declared.syntax.Op.{Op}
use Rattle.ms_ir.specs.declared.syntax.Op.TheVariants as op
use Rattle.ms_ir.specs.declared.syntax.Inst.{Inst}
use Rattle.ms_ir.specs.declared.syntax.Block.{Block}
use Rattle.ms_ir.specs.declared.syntax.Func.{Func}
use Rattle.ms_ir.specs.declared.syntax.Module.{Module}
use Rattle.ms_ir.specs.Names.{name_eq, is_reserved, main_name}
use Rattle.ms_ir.specs.Layout.{width_of}
use Rattle.ms_ir.specs.Instructions.{operands, func_index, func_at, blocks_at, block_index}
use Rattle.ms_runs.specs.Control.{params_at}
use Rattle.ms_ir.specs.Equal.{has_name, result_type_eq}
use Rattle.ms_ir.specs.Written.{targets, result_type}
use Rattle.ms_ir.specs.Locals.{block_locals, parameter_names, locals, entry_name, values, typed_result, func_insts, global_names, declared_names, type_names}
use Rattle.ms_check_valid.specs.NamesOnce.{repeats, at_sign, percent_sign, function_duplicates}
use Rattle.ms_check_valid.specs.PhisFit.{edges_fit}
use Rattle.ms_ir.specs.Spots.{Spot}
use Rattle.ms_ir.proofs.RootKinds.{name_same as name_sound}
use Rattle.ms_check_valid.specs.Formed.{Formed, func_formed}
use Rattle.ms_check_valid.specs.FormedNames.{is_local_name, are_numbered}
use Rattle.ms_check_valid.specs.FormedCode.{is_value_type, name_formed}
use Rattle.ms_check_valid.specs.Valid.{Valid}
use Rattle.ms_check_valid.proofs.Finding.{both_empty}
use Rattle.ms_check_valid.proofs.NameTests.{name_same}
use Rattle.ms_runs_good_laws.proofs.Starts.{all_get, main_found, not_to_entry}
use Rattle.ms_check_valid.proofs.TypedValues.{names_stand_once, param_listed}
use Rattle.ms_check_valid.proofs.SmallNumbers.{blocks_of}
use Rattle.ms_runs_good_laws.proofs.OpEffects.{value_width}
use Rattle.ms_runs_good_laws.proofs.InstructionEffects.{case_target}
use Rattle.ms_pass_tasks.specs.Environments.{Env}
use Rattle.ms_pass_tasks.specs.Known.{KnownOperands, KnownResult, KnownEdges, KnownPhi, KnownPhis, KnownParams}
use Rattle.ms_pass_laws.specs.Known.{GoesTo}
use Rattle.ms_pass_laws.specs.Numbers.{value_index, values_at, numbering}
use Rattle.ms_pass_laws.proofs.NumberedValues.{few_index}
use Rattle.ms_pass_laws.proofs.Apart.{occurs, occurs_append, once}

-- ---- `main`

pub main_params : (m : Module) → Valid m → params_at m (unwrap_or (func_index m.funcs main_name) 0) ≡ []
main_params m v =
    let symbols = global_names m ++ declared_names m in
    let start = main_found symbols m.funcs
    (both_empty (at_sign (repeats [] symbols)) (function_duplicates symbols m.funcs)
    (both_empty (percent_sign (repeats [] (type_names m))) (at_sign (repeats [] symbols) ++ function_duplicates symbols m.funcs) v.names_once).1).1 v.has_main in
    ap (λ o. params_at m (unwrap_or o 0)) start.found ∙ ap (λ o. unwrap_or (option_map (λ (g : Func). g.params) o) []) start.at
    ∙ none_left start.func.params (eqb-true (length start.func.params) 0 (and_parts (name_eq start.func.name main_name && result_type_eq start.func.ret (Some (Int 32))) (nat_eq (length start.func.params) 0) start.main).1)
  where
    none_left : (ps : List (Ty × Name)) → length ps ≡ 0 → ps ≡ []
    none_left [] e = refl
    none_left (p ∷ ps) e = absurd (grind arith)

-- ---- parameters

param_index : (ps : List (Ty × Name)) (more : List (Name × Ty)) (k : ℕ) (t : Ty) (x : Name) → slice_get ps k ≡ Some (t, x) → occurs x (map (λ p. p.1) ps) ≤ 1
    → value_index (map (λ p. (p.1, p.0)) ps ++ more) x ≡ Some k
unfolding occurs
param_index [] more k t x e o = absurd (grind arith)
param_index (p ∷ ps) more zero t x e o =
    let same : p.1 ≡ x = ap (λ q. (unwrap_or q p).1) e in
    ap (λ b. if b then Some 0 else option_map suc (value_index (map (λ p. (p.1, p.0)) ps ++ more) x)) (ap (λ z. name_eq z x) same ∙ name_same x)
param_index (p ∷ ps) more (suc k) t x e o = by_name (name_eq p.1 x) refl o (λ h. param_index ps more k t x e h) (stands ps k e)
  where
    stands : (ps : List (Ty × Name)) (k : ℕ) → slice_get ps k ≡ Some (t, x) → 1 ≤ occurs x (map (λ p. p.1) ps)
    stands [] k e = absurd (grind arith)
    stands (q ∷ ps) zero e =
        let same : q.1 ≡ x = ap (λ o. (unwrap_or o q).1) e in
        let one : name_eq q.1 x ≡ true = ap (λ z. name_eq z x) same ∙ name_same x in
        let n : ◌≡◌ {A = ℕ} (if name_eq q.1 x then 1 else 0) 1 = ap (λ b. if b then 1 else 0) one in omega (arith, n)
    stands (q ∷ ps) (suc k) e = let r = stands ps k e in omega (arith, r)

    by_name : (b : Bool) → name_eq p.1 x ≡ b → (if b then 1 else 0) + occurs x (map (λ p. p.1) ps) ≤ 1
        → (occurs x (map (λ p. p.1) ps) ≤ 1 → value_index (map (λ p. (p.1, p.0)) ps ++ more) x ≡ Some k) → 1 ≤ occurs x (map (λ p. p.1) ps)
        → (if b then Some 0 else option_map suc (value_index (map (λ p. (p.1, p.0)) ps ++ more) x)) ≡ Some (suc k)
    by_name true q o later s = absurd (omega (arith, o, s))
    by_name false q o later s = ap (option_map suc) (later (omega (arith, o)))

params_known : (env : Env) (size k : ℕ) (ps : List (Ty × Name))
    → ((j : ℕ) (t : Ty) (x : Name) → slice_get ps j ≡ Some (t, x) → (is_reserved x ≡ false) × (env.number x ≡ Some (k + j)) × (k + j < size) × (width_of t ≤ 64)) → KnownParams env size k ps
params_known env size k [] h = tt
params_known env size k (p ∷ ps) h =
    let a = h 0 p.0 p.1 refl in
    let z : k + 0 ≡ k = omega arith in (
      a.0,
      a.1 ∙ ap Some z,
      subst (λ n. n < size) z a.2,
      a.3,
      params_known env size (suc k) ps (λ j t x e.
          let b = h (suc j) t x e in
          let s : k + suc j ≡ suc k + j = omega arith in (b.0, b.1 ∙ ap Some s, subst (λ n. n < size) s b.2, b.3)),
    )

has_first : (xs ys : List Name) (x : Name) → has_name xs x ≡ true → has_name (xs ++ ys) x ≡ true
has_first [] ys x h = absurd (true≢false (sym h))
has_first (y ∷ xs) ys x h = by_name (name_eq y x) h (λ k. has_first xs ys x k)
  where
    by_name : (b : Bool) → (b || has_name xs x) ≡ true → (has_name xs x ≡ true → has_name (xs ++ ys) x ≡ true) → (b || has_name (xs ++ ys) x) ≡ true
    by_name true h later = refl
    by_name false h later = later h

module _ (m : Module) (formed : Formed m) (valid : Valid m) where
  formed_params : (f : Func) → func_formed f ≡ true → list_all (λ (p : Ty × Name). is_value_type p.0 && is_local_name p.1) f.params ≡ true
  formed_params f e = (and_parts _ (list_all (λ (p : Ty × Name). is_value_type p.0 && is_local_name p.1) f.params) (and_parts _ (nat_lt 0 (length f.blocks)) (and_parts _ _ (and_parts _ (are_numbered (locals f)) e).0).0).0).1

  pub function_params : ((n : ℕ) (f : Func) → func_at m n ≡ Some f → (x : Name) → has_name (locals f) x ≡ true → is_reserved x ≡ false)
      → (n : ℕ) → KnownParams (numbering m n).env (numbering m n).size 0 (params_at m n)
  function_params own n = by_func (func_at m n) refl
    where
      by_func : (o : Option Func) → func_at m n ≡ o → KnownParams (numbering m n).env (numbering m n).size 0 (unwrap_or (option_map (λ (g : Func). g.params) o) [])
      by_func None e = tt
      by_func (Some f) e = params_known (numbering m n).env (numbering m n).size 0 f.params (λ j t x at.
          let h = once x [] (locals f) (names_stand_once m valid n f e) in
          let r = occurs_append x (parameter_names f) (flat_map block_locals f.blocks) in
          let few : occurs x (parameter_names f) ≤ 1 = omega (arith, h, r) in
          let index = param_index f.params (filter_map typed_result (func_insts f)) j t x at few in
          let vals : values_at m n ≡ values f = ap (λ o. unwrap_or (option_map values o) []) e in
          let zero_plus : j ≡ 0 + j = omega arith in
          let numbered : value_index (values_at m n) x ≡ Some (0 + j) = ap (λ vs. value_index vs x) vals ∙ index ∙ ap Some zero_plus in
          let ps = formed_params f (all_get func_formed m.funcs n f formed.functions e) in
          let one = all_get (λ (p : Ty × Name). is_value_type p.0 && is_local_name p.1) f.params j (t, x) ps at in (
            own n f e x (has_first (parameter_names f) (flat_map block_locals f.blocks) x (param_listed f.params j t x at)),
            numbered,
            few_index (values_at m n) x (0 + j) numbered,
            (value_width t (and_parts (is_value_type t) (is_local_name x) one).0).1,
          ))

  pub function_bodies : (n : ℕ) → blocks_at m n ≡ [] → params_at m n ≡ []
  function_bodies n = by_func (func_at m n) refl
    where
      by_func : (o : Option Func) → func_at m n ≡ o → unwrap_or (option_map (λ (g : Func). g.blocks) o) [] ≡ [] → unwrap_or (option_map (λ (g : Func). g.params) o) [] ≡ []
      by_func None e h = refl
      by_func (Some f) e h =
          absurd (true≢false (sym (blocks_of f (all_get func_formed m.funcs n f formed.functions e)).0 ∙ ap (λ (l : List Block). nat_lt 0 (length l)) h))

-- ---- marks and phis

edges_known : (env : Env) (size : ℕ) (t : Ty) (es : List (Operand × Name)) → KnownOperands env size (map (λ e. (t, e.0)) es) → KnownEdges env size es
edges_known env size t [] h = tt
edges_known env size t (e ∷ es) h = (h.1, edges_known env size t es h.2)

pub phi_known : (env : Env) (size : ℕ) (x : Option Name) (o : Op) → name_formed (result_type o) x ≡ true → KnownResult env size x → KnownOperands env size (operands o) → KnownPhi env size x o
phi_known env size (Some x) (op.Phi t es) f r h = (r, edges_known env size t es h)
phi_known env size None (op.Phi t es) f r h = absurd (true≢false (sym f))
phi_known env size (Some x) (op.Binary o flags t a b) f r h = tt
phi_known env size (Some x) (op.Icmp o flags t a b) f r h = tt
phi_known env size (Some x) (op.Cast o flags t a b) f r h = tt
phi_known env size (Some x) (op.Select c t a b) f r h = tt
phi_known env size (Some x) (op.Freeze t a) f r h = tt
phi_known env size (Some x) (op.Alloca t u c) f r h = tt
phi_known env size (Some x) (op.Load t a) f r h = tt
phi_known env size (Some x) (op.Store t v a) f r h = tt
phi_known env size (Some x) (op.Gep t a is) f r h = tt
phi_known env size (Some x) (op.Call ret callee args) f r h = tt
phi_known env size (Some x) (op.Br to) f r h = tt
phi_known env size (Some x) (op.CondBr c to other) f r h = tt
phi_known env size (Some x) (op.Switch t v other cases) f r h = tt
phi_known env size (Some x) (op.Ret v) f r h = tt
phi_known env size (Some x) op.Unreachable f r h = tt
phi_known env size None _ f r h = tt

pub list_known : (env : Env) (size : ℕ) (l : List Inst) → ((p : ℕ) (i : Inst) → slice_get l p ≡ Some i → (i.marked ≡ false) × KnownPhi env size i.result i.op) → KnownPhis env size l
list_known env size [] h = tt
list_known env size (i ∷ l) h = ((h 0 i refl).0, (h 0 i refl).1, list_known env size l (λ p j e. h (suc p) j e))

-- ---- jumps

goes_there : (o : Op) (to : Name) → GoesTo o to → has_name (targets o) to ≡ true
goes_there (op.Br a) to g = ap (λ b. b || false) (ap (λ z. name_eq a z) g ∙ name_same a)
goes_there (op.CondBr c a b) to (inl g) = ap (λ k. k || (name_eq b to || false)) (ap (λ z. name_eq a z) g ∙ name_same a)
goes_there (op.CondBr c a b) to (inr g) = second (name_eq a to) (name_eq b to) (ap (λ z. name_eq b z) g ∙ name_same b)
  where
    second : (x y : Bool) → y ≡ true → (x || (y || false)) ≡ true
    second true y h = refl
    second false true h = refl
    second false false h = absurd (true≢false (sym h))
goes_there (op.Switch t v other cases) to g = subst (λ z. has_name (other ∷ map (λ c. c.1) cases) z ≡ true) (sym g.1) (case_target cases g.0 other)
goes_there _ to g = absurd g

-- a block that stands first has the entry's name
first_block : (f : Func) (to : Name) → nat_lt 0 (length f.blocks) ≡ true → block_index f.blocks to ≡ 0 → entry_name f ≡ to
first_block f to some e = by_blocks f.blocks some e
  where
    by_blocks : (bs : List Block) → nat_lt 0 (length bs) ≡ true → block_index bs to ≡ 0 → unwrap_or (option_map (λ (k : Block). k.name) (slice_get bs 0)) (Number 0) ≡ to
    by_blocks [] some e = absurd (true≢false (sym some))
    by_blocks (b ∷ bs) some e = by_name (name_eq b.name to) refl e
      where
        by_name : (t : Bool) → name_eq b.name to ≡ t → (if t then 0 else suc (block_index bs to)) ≡ 0 → b.name ≡ to
        by_name true s e = name_sound b.name to s
        by_name false s e = absurd (grind arith)

pub inner_jump : (at : Spot) (o : Op) (to : Name) → edges_fit at o ≡ true → nat_lt 0 (length at.func.blocks) ≡ true → GoesTo o to → block_index at.func.blocks to ≢ 0
inner_jump at o to fits some g e =
    true≢false (sym (ap (has_name (targets o)) (first_block at.func to some e) ∙ goes_there o to g) ∙ not_to_entry at o fits)
