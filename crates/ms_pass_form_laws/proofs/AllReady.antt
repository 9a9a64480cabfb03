-- The functions of a formed and valid module without marks and reserved names are ready to be instrumented.
use Rattle.std.proofs.Common.{◌≡◌, ℕ, suc, ◌+◌, ◌*◌, ◌^◌, ◌<◌, ◌≤◌, List, [], ◌∷◌, Bool, true, false, Option, Some, None, refl, sym, ap, subst, ◌∙◌, arith, true≢false}
use Rattle.std.specs.Prelude.{◌&&◌, All, map, flat_map, length, slice_get, unwrap_or, option_map, if◌then◌else◌, codes}
use Rattle.ms_ir.specs.declared.syntax.Name.{Name}
use Rattle.ms_ir.specs.declared.syntax.Ty.{Ty, Int, Ptr}
use Rattle.ms_ir.specs.declared.syntax.Operand.{Operand}
use Rattle.ms_ir.specs.declared.syntax.Op.{Op}
use Rattle.ms_ir.specs.declared.syntax.Op.TheVariants as op
use Rattle.ms_ir.specs.declared.syntax.Inst.{Inst}
use Rattle.ms_ir.specs.declared.syntax.Func.{Func}
use Rattle.ms_ir.specs.declared.syntax.Module.{Module}
use Rattle.ms_ir.specs.Names.{bit_moves, name_eq, is_reserved, main_name}
use Rattle.ms_runs.specs.World.{Here}
use Rattle.ms_ir.specs.Instructions.{operands, count_undefs, roots_in, is_root, func_at, insts_at, site_at, over_funcs, one_unmarked, is_phi}
use Rattle.ms_ir.specs.Written.{op_types, result_type, OfGlobal}
use Rattle.ms_ir.specs.Locals.{locals}
use Rattle.ms_check_valid.specs.Paths.{insts_of}
use Rattle.ms_ir.specs.Spots.{spot}
use Rattle.ms_check_valid.specs.UsesDefined.{IsUseDefined, operand_use, inst_uses}
use Rattle.ms_check_valid.specs.Formed.{count_written}
use Rattle.ms_check_valid.specs.FormedCode.{shape_formed, op_formed, inst_formed, name_formed, is_int_type, is_value_type, number_formed}
use Rattle.ms_ir.specs.Layout.{Types}
use Rattle.std.specs.List.{list_all}
use Rattle.std.proofs.Math.Path.{ap₂}
use Rattle.ms_check_valid.specs.SizesFit.{sized}
use Rattle.ms_check_valid.specs.Valid.{Valid}
use Rattle.ms_check_valid.specs.ValidAt.{FitsAt}
use Rattle.ms_check_valid.proofs.AtInstructions.{fits_at}
use Rattle.ms_check_valid.proofs.TypedValues.{names_stand_once}
use Rattle.ms_pass_tasks.specs.Known.{OneName, FewNumbers}
use Rattle.ms_pass_laws.specs.Pass.{Numbering, pass}
use Rattle.ms_pass_form_laws.specs.Numbers.{GoodNumbers}
use Rattle.ms_pass_form_laws.proofs.Emitted.{CallGood}
use Rattle.ms_ir.specs.Signatures.{slot_globals}
use Rattle.ms_ir.specs.declared.syntax.Operand.TheVariants as operand
use Rattle.ms_ir.specs.declared.syntax.Name.TheVariants.{Text}
use Rattle.ms_ir.specs.Equal.{has_name}
use Rattle.ms_check_valid.specs.FormedNames.{is_global_name}
use Rattle.ms_check_valid.proofs.SmallNumbers.{funcs_written}
use Rattle.ms_pass_form_laws.proofs.Moves.{moves_good}
use Rattle.ms_pass_form_laws.proofs.Rounds.{SlotsGood}
use Rattle.ms_pass_form_laws.proofs.Paths.{In}
use Rattle.ms_pass_form_laws.proofs.PassPaths.{Filled, Masks, HasMask, code_at}
use Rattle.ms_pass_form_laws.proofs.Words.{number_fits}
use Rattle.ms_pass_form_laws.proofs.Placed.{here_at}
use Rattle.ms_pass_form_laws.proofs.Inserted.{ConstFits, ConstGood, unknown_one}
use Rattle.ms_pass_form_laws.proofs.FuncFits.{PlainGood, PhiGood}
use Rattle.ms_pass_form_laws.proofs.FuncClauses.{FuncReady, ModuleReady}
use Rattle.ms_pass_form_laws.proofs.Within.{FromFunc, from_func, given_by, AllReady}
use Rattle.ms_pass_form_laws.proofs.Bounds.{Small, small_at, code_small}
use Rattle.ms_pass_form_laws.proofs.Ready.{AllFound, operands_good, edges_good, undefs_same, small_uses, has_mask}
use Rattle.ms_pass_form_laws.proofs.ReadyInsts.{op_found, op_good}
use Rattle.ms_pass_form_laws.proofs.Shown.{shown, shown_good, shown_moves, shown_uses, shown_undefs}
use Rattle.std.proofs.lemmas.Bool.{and_parts}
use Rattle.ms_runs_good_laws.proofs.Starting.{funcs_few}

-- ---- what is taken of a module's form, sizes and names at an instruction (each is a fact of lists)

-- a formed and valid module without marks and reserved names, as the code round each instruction needs it
pub record Plain (m : Module) : Type 0 where
  pub formed : (n b p : ℕ) (i : Inst) → slice_get (insts_at m n b) p ≡ Some i → inst_formed i ≡ true
  pub sizes : (n b p : ℕ) (i : Inst) → slice_get (insts_at m n b) p ≡ Some i → sized m.types (op_types i.op) ≡ true
  pub unmarked : (n b p : ℕ) (i : Inst) → slice_get (insts_at m n b) p ≡ Some i → i.marked ≡ false
  pub free : (n : ℕ) (f : Func) → func_at m n ≡ Some f → (x : Name) → In (locals f) x → is_reserved x ≡ false
  pub few : over_funcs count_written m.funcs < 2 ^ 30
  pub calls : (n b p : ℕ) (f : Func) (i : Inst) → func_at m n ≡ Some f → slice_get (insts_of f b) p ≡ Some i → (r : Option Ty) (x : Name) (as' : List (Ty × Operand)) → i.op ≡ op.Call r x as'
      → CallGood (given_by m) r x as'
  pub filled : (n : ℕ) (f : Func) → func_at m n ≡ Some f → Filled f.blocks
  pub values : (n : ℕ) (f : Func) → func_at m n ≡ Some f → list_all (λ p. is_value_type p.0) f.params ≡ true
  pub params : (n : ℕ) (f : Func) → func_at m n ≡ Some f → length f.params ≤ 100

-- the operands of an instruction that is no phi are used at its own place
plain_uses : (f : Func) (b p s : ℕ) (o : Op) → is_phi o ≡ false → inst_uses (spot f b p s) o ≡ flat_map (λ a. operand_use (spot f b p s) b p a.1) (operands o)
plain_uses f b p s (op.Phi t es) e = absurd (true≢false e)
plain_uses f b p s _ e = refl

unmarked_roots : (func : Name → Option ℕ) (i : Inst) → i.marked ≡ false → count_undefs (operands i.op) ≤ roots_in func i
unmarked_roots func i e = subst (λ k. count_undefs (operands i.op) ≤ k) (sym (ap (λ c. if c then 0 else (count_undefs (operands i.op) + (if is_root func i.op then 1 else 0))) e)) (by_root (is_root func i.op))
  where
    by_root : (c : Bool) → count_undefs (operands i.op) ≤ count_undefs (operands i.op) + (if c then 1 else 0)
    by_root true = omega arith
    by_root false = omega arith

-- the result's slots are variables of the instrumented module
slot_good : (m j : Module) → ModuleReady m j → (x : Name) → has_name (map (λ g. g.name) slot_globals) x ≡ true → is_global_name x ≡ true → ConstFits j Ptr (operand.Global x)
slot_good m j a x e g = record {
  fits = λ typed. (a.slot x e).0;
  known = λ names site. unknown_one j names site (OfGlobal x) (a.slot x e).1;
  formed = g;
  sized_in = refl;
}

-- an item of the slots of parameters
item_good : (m j : Module) → ModuleReady m j → (w : ℕ) → is_int_type (Int w) ≡ true → (x : Name) → has_name (map (λ g. g.name) slot_globals) x ≡ true → is_global_name x ≡ true
    → ((types : Types) → sized types (Ptr ∷ Int w ∷ Int 64 ∷ []) ≡ true) → (k : ℕ) → k < 100 → ConstFits j Ptr (operand.Offset x ((Int w, (Int 64, k) ∷ []) ∷ []))
item_good m j a w i x e g z k l = record {
  fits = λ typed. ap (λ b. true && b && true) (a.slot x e).0;
  known = λ names site. unknown_one j names site (OfGlobal x) (a.slot x e).1;
  formed = ap₂ (λ c d. c && (d && (number_formed (Int 64) k && true) && true)) g i ∙ ap (λ b. true && (true && (b && true) && true)) (number_fits 64 k refl (small k l));
  sized_in = z j.types;
}
  where
    small : (n : ℕ) → n < 100 → n < 2 ^ 64
    small n h = omega (arith, h)

slots_good : (m j : Module) → ModuleReady m j → SlotsGood (ConstGood m j)
unfolding bit_moves
slots_good m j a = record {
  mask = slot_good m j a (Text (codes "__msan_retval_tls")) refl refl;
  origin = slot_good m j a (Text (codes "__msan_retval_origin_tls")) refl refl;
  masks = item_good m j a 64 refl (Text (codes "__msan_param_tls")) refl refl (λ types. refl);
  origins = item_good m j a 32 refl (Text (codes "__msan_param_origin_tls")) refl refl (λ types. refl);
}

masks_all : (x : Name) (is : List Inst) → ((p : ℕ) (i : Inst) → slice_get is p ≡ Some i → i.result ≡ Some x → HasMask i.op) → Masks x is
masks_all x [] h = tt
masks_all x (i ∷ is) h = (h 0 i refl, masks_all x is (λ p k e. h (suc p) k e))

typed_result_of : (o : Option Ty) (r : Option Name) (x : Name) → name_formed o r ≡ true → r ≡ Some x → (t : Ty) × (o ≡ Some t)
typed_result_of None None x e q = grind arith
typed_result_of None (Some y) x e q = grind arith
typed_result_of (Some t) r x e q = (t, refl)

module _ (numbers : ℕ → Numbering) (m : Module) (v : Valid m) (w : Plain m) (good : GoodNumbers numbers) (a : ModuleReady m (pass numbers m)) where
  abbrev j : Module
  j = pass numbers m

  module _ (n : ℕ) (g : Func) (e : func_at (pass numbers m) n ≡ Some g) where
    abbrev r : FromFunc (given_by m) numbers m.funcs n 1 0 g
    r = from_func (given_by m) numbers m.funcs 1 0 n g e

    abbrev start : Here
    start = record { site = r.site_here; root = r.root_here; main = name_eq r.func.name main_name }

    abbrev first : ℕ
    first = 2 * r.numbering.size + 1

    there : (b p : ℕ) (i : Inst) → slice_get (insts_of r.func b) p ≡ Some i → slice_get (insts_at m n b) p ≡ Some i
    there b p i at = ap (λ o. slice_get (unwrap_or (option_map (λ k. k.insts) (slice_get (unwrap_or (option_map (λ x. x.blocks) o) []) b)) []) p) r.at ∙ at

    fits : (b p : ℕ) (i : Inst) → slice_get (insts_of r.func b) p ≡ Some i → FitsAt m (spot r.func b p (site_at m n b p)) i
    fits b p i at = fits_at m v n b p r.func i r.at (there b p i at)

    op_is_formed : (b p : ℕ) (i : Inst) → slice_get (insts_of r.func b) p ≡ Some i → op_formed i.op ≡ true
    op_is_formed b p i at = (and_parts (op_formed i.op) (name_formed (result_type i.op) i.result) (w.formed n b p i (there b p i at))).0

    has_masks : (b p : ℕ) (i : Inst) (x : Name) → slice_get (insts_of r.func b) p ≡ Some i → i.result ≡ Some x → HasMask i.op
    has_masks b p i x at named =
        let t = typed_result_of (result_type i.op) i.result x (and_parts (op_formed i.op) (name_formed (result_type i.op) i.result) (w.formed n b p i (there b p i at))).1 named in
        has_mask i.op t.0 t.1

    block_small : (b : ℕ) → Small (given_by m) r.numbering.env (2 ^ 30) (code_at (given_by m) r.numbering.env r.func start first b).here (insts_of r.func b)
    block_small b =
        code_small (given_by m) r.numbering.env (2 ^ 30) r.func start first b
        (limit r.site_here _ (over_funcs one_unmarked m.funcs) (over_funcs count_written m.funcs) r.sites (funcs_written m.funcs) w.few)
        (limit_0 r.root_here _ (over_funcs (roots_in (given_by m).func) m.funcs) (over_funcs count_written m.funcs) r.roots (funcs_few (given_by m).func m.funcs) w.few)
      where
        limit : (x y c d : ℕ) → x + y ≤ 1 + c → c ≤ d → d < 2 ^ 30 → x + y ≤ 2 ^ 30
        limit x y c d l k q = omega (arith, l, k, q)

        limit_0 : (x y c d : ℕ) → x + y ≤ 0 + c → c ≤ d → d < 2 ^ 30 → x + y ≤ 2 ^ 30
        limit_0 x y c d l k q = omega (arith, l, k, q)

    plain_good : (b p : ℕ) (i : Inst) → slice_get (insts_of r.func b) p ≡ Some i → is_phi i.op ≡ false
        → PlainGood (given_by m) r.func (ConstGood m j) b p (here_at (given_by m) r.numbering.env (insts_of r.func b) p (code_at (given_by m) r.numbering.env r.func start first b).here) i
    plain_good b p i at plain =
        let s = site_at m n b p in
        let x = fits b p i at in
        let small = small_at (given_by m) r.numbering.env (2 ^ 30) (insts_of r.func b) p (code_at (given_by m) r.numbering.env r.func start first b).here i at (block_small b) in
        let sizes = w.sizes n b p i (there b p i at) in
        let formed = op_is_formed b p i at in
        let good_op = op_good m j a r.func b p s (given_by m) refl i.op (w.calls n b p r.func i r.at at) plain (and_parts (shape_formed i.op) _ (and_parts _ _ formed).0).0 x.types_agree sizes in
        let told = shown_good (given_by m) i.op good_op in
        record {
          good = good_op;
          told = told;
          moves = shown_moves (given_by m) (ConstGood m j) i.op (moves_good m j v a n b p r.func i r.at at);
          slots = slots_good m j a;
          reads = operands_good m j a r.func b p s (operands (shown i.op)) (op_found m j a r.func b p s i.op formed x.types_agree x.names_known sizes)
              (subst (All IsUseDefined) (plain_uses r.func b p s i.op plain ∙ sym (shown_uses (spot r.func b p s) b p i.op)) x.uses_defined);
          small = small_uses (given_by m) _ (shown i.op) told;
          site = few _ small.0;
          root = roots _ _ _ small.1
              (subst (λ k. k ≤ roots_in (given_by m).func i) (sym (shown_undefs i.op)) (unmarked_roots (given_by m).func i (w.unmarked n b p i (there b p i at))));
          masked = λ y named. has_masks b p i y at named;
        }
      where
        few : (k : ℕ) → k ≤ 2 ^ 30 → k < 2 ^ 32
        few k l = omega (arith, l)

        roots : (k c d : ℕ) → k + d ≤ 2 ^ 30 → c ≤ d → k + c + 1 < 2 ^ 32
        roots k c d l q = omega (arith, l, q)

    phis_good : (b p : ℕ) (i : Inst) (t : Ty) (es : List (Operand × Name)) → slice_get (insts_of r.func b) p ≡ Some i → i.op ≡ op.Phi t es
        → PhiGood r.func (ConstGood m j) (here_at (given_by m) r.numbering.env (insts_of r.func b) p (code_at (given_by m) r.numbering.env r.func start first b).here) t es
    phis_good b p i t es at is =
        let s = site_at m n b p in
        let x = fits b p i at in
        let small = small_at (given_by m) r.numbering.env (2 ^ 30) (insts_of r.func b) p (code_at (given_by m) r.numbering.env r.func start first b).here i at (block_small b) in
        let formed : op_formed (op.Phi t es) ≡ true = subst (λ o. op_formed o ≡ true) is (op_is_formed b p i at) in
        let found = op_found m j a r.func b p s i.op (op_is_formed b p i at) x.types_agree x.names_known (w.sizes n b p i (there b p i at)) in
        record {
          value = (and_parts (is_value_type t) _ (and_parts (shape_formed (op.Phi t es)) _ (and_parts _ _ formed).0).0).0;
          edges = edges_good m j a r.func b p s t es (subst (λ o. AllFound m j a r.func b p s (operands (shown o))) is found) (subst (λ o. All IsUseDefined (inst_uses (spot r.func b p s) o)) is x.uses_defined);
          root = roots _ _ _ small.1
              (subst (λ k. k ≤ roots_in (given_by m).func i) (ap (λ o. count_undefs (operands o)) is ∙ sym (undefs_same t es)) (unmarked_roots (given_by m).func i (w.unmarked n b p i (there b p i at))));
        }
      where
        roots : (k c d : ℕ) → k + d ≤ 2 ^ 30 → c ≤ d → k + c < 2 ^ 32
        roots k c d l q = omega (arith, l, q)

    func_ready : FuncReady (given_by m) r.numbering.env r.numbering.size r.func start first (ConstGood m j)
    func_ready = record {
      one = subst (λ x. OneName x.env) (sym r.numbered) (good.one n);
      few = subst (λ x. FewNumbers x.env x.size) (sym r.numbered) (good.few n);
      room = omega arith;
      once = names_stand_once m v n r.func r.at;
      free = w.free n r.func r.at;
      entry = record { filled = w.filled n r.func r.at; slots = slots_good m j a; values = w.values n r.func r.at; few = w.params n r.func r.at };
      good = plain_good;
      masked = λ b x. masks_all x (insts_of r.func b) (λ p i at named. has_masks b p i x at named);
      phi_good = phis_good;
      unmarked = λ b p i at. w.unmarked n b p i (there b p i at);
    }

  pub all_ready : AllReady numbers m
  all_ready = λ n g e. func_ready n g e
