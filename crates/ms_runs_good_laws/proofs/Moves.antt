-- The frames of a formed and valid module stay good by every effect that its instructions may have.
use Rattle.std.proofs.Common.{◌≡◌, ◌⊎◌, ℕ, zero, suc, ◌+◌, List, [], ◌∷◌, Bool, true, false, refl, sym, ap, subst, ◌∙◌, arith, true≢false}
use Rattle.std.specs.Prelude.{◌≤◌, ◌^◌, length, map, get_or, Option, Some, None, option_map, option_and_then, unwrap_or, slice_get, leb, if◌then◌else◌}
use Rattle.std.specs.Option.{option_or}
use Rattle.std.proofs.lemmas.Option.{same_Some}
use Rattle.ms_ir.specs.declared.syntax.Name.{Name}
use Rattle.ms_ir.specs.declared.syntax.Ty.{Ty}
use Rattle.ms_ir.specs.declared.syntax.Operand.{Operand}
use Rattle.ms_ir.specs.declared.syntax.Inst.{Inst}
use Rattle.ms_ir.specs.declared.syntax.Func.{Func}
use Rattle.ms_ir.specs.declared.syntax.Module.{Module}
use Rattle.ms_ir.specs.Names.{name_eq, lookup}
use Rattle.ms_ir.specs.Layout.{width_of}
use Rattle.ms_runs.specs.World.{World, Setting, Effect, Gives, Does, Goes, Enters, Leaves, Ends}
use Rattle.ms_ir.specs.Instructions.{func_index, func_at, insts_at}
use Rattle.ms_bits.specs.declared.traps.Trap.TheVariants as trap
use Rattle.ms_runs.specs.declared.runs.End.TheVariants as «end»
use Rattle.ms_runs.specs.Control.{On, Over, Frame, Reading, put, one_on, bind, params_at, entered, result_at, jumped, after_effect}
use Rattle.ms_ir.specs.Equal.{result_type_eq}
use Rattle.ms_ir.specs.Written.{result_type}
use Rattle.ms_ir.specs.Locals.{value_type}
use Rattle.ms_ir.specs.Signatures.{Signature, func_signature, defined_signature}
use Rattle.ms_ir.proofs.RootKinds.{name_same}
use Rattle.ms_check_valid.specs.TypesAgree.{operand_fits, op_fault, call_fault, argument_fault, fits_call, printf_fault, is_printf}
use Rattle.ms_check_valid.specs.Paths.{insts_of}
use Rattle.ms_check_valid.specs.FormedCode.{is_terminator}
use Rattle.ms_check_valid.specs.Formed.{Formed}
use Rattle.ms_runs_good_laws.specs.GoodStates.{GoodFrame, StandsAtCall, GoodFrames, IsMain, IsStart}
use Rattle.ms_runs_good_laws.specs.GoodEffects.{FitsEffect, GoodMoved}
use Rattle.ms_check_valid.specs.Valid.{Valid}
use Rattle.ms_check_valid.proofs.AtInstructions.{fits_at}
use Rattle.ms_runs_good_laws.proofs.Starts.{Entry, entry_of, place_within, no_leading}
use Rattle.ms_check_valid.proofs.TypedValues.{param_typed}
use Rattle.ms_runs_good_laws.proofs.NextFrames.{one_type, put_good}
use Rattle.ms_runs_good_laws.proofs.JumpFrames.{jump_good, no_second}
use Rattle.ms_runs_good_laws.proofs.CallTypes.{same_width, holds_unless}
use Rattle.ms_runs_good_laws.proofs.Frames.{top_good}

-- ---- functions by name

-- the function that a name finds stands at its place
func_there : (funcs : List Func) (x : Name) (n : ℕ) → func_index funcs x ≡ Some n → (f : Func) × (slice_get funcs n ≡ Some f) × (lookup (map (λ g. (g.name, func_signature g)) funcs) x ≡ Some (func_signature f))
func_there [] x n e = grind arith
func_there (g ∷ rest) x n e = by_test (name_eq g.name x) n e (λ k h. func_there rest x k h)
  where
    by_test : (t : Bool) → (n : ℕ) → (if t then Some 0 else option_map suc (func_index rest x)) ≡ Some n
        → ((k : ℕ) → func_index rest x ≡ Some k → (f : Func) × (slice_get rest k ≡ Some f) × (lookup (map (λ h. (h.name, func_signature h)) rest) x ≡ Some (func_signature f)))
        → (f : Func) × (slice_get (g ∷ rest) n ≡ Some f) × ((if t then Some (func_signature g) else lookup (map (λ h. (h.name, func_signature h)) rest) x) ≡ Some (func_signature f))
    by_test true zero h later = (g, refl, refl)
    by_test true (suc n) h later = grind arith
    by_test false n h later = by_index (func_index rest x) refl n h
      where
        by_index : (o : Option ℕ) → func_index rest x ≡ o → (n : ℕ) → option_map suc o ≡ Some n
            → (f : Func) × (slice_get (g ∷ rest) n ≡ Some f) × (lookup (map (λ h. (h.name, func_signature h)) rest) x ≡ Some (func_signature f))
        by_index None is n k = grind arith
        by_index (Some j) is zero k = grind arith
        by_index (Some j) is (suc n) k = later n (is ∙ ap Some {x = j} {y = n} (grind arith))

-- ---- types of results

-- a type of a result that is the same as another is one of as many bits
same_result : (t : Ty) (r : Option Ty) → result_type_eq (Some t) r ≡ true → (u : Ty) × (r ≡ Some u) × (width_of t ≡ width_of u)
same_result t None e = absurd (true≢false (sym e))
same_result t (Some u) e = (u, refl, same_width t u e)

-- a call without a fault answers what its callee does
call_answers : (m : Module) (fits : Ty × Operand → Bool) (s : Signature) (ret : Option Ty) (callee : Name) (args : List (Ty × Operand))
    → call_fault m fits (Some s) ret callee args ≡ None → result_type_eq ret s.ret ≡ true
call_answers m fits s ret callee args e =
    holds_unless (result_type_eq ret s.ret) (no_second (if is_printf m callee then printf_fault fits args else argument_fault (fits_call m fits callee) 0 s.params args) _ e)

defined_first : (o p : Option Signature) (s : Signature) → o ≡ Some s → option_or o p ≡ Some s
defined_first o p s e = ap (λ q. option_or q p) e

-- ---- lists of frames

-- another frame of the same function may stand innermost
with_top : {V : Type 0} (holds : V → ℕ → Type 0) (m : Module) (frame other : Frame V) (below : List (Frame V)) → GoodFrames holds m (frame ∷ below) → GoodFrame holds m other
    → frame.func ≡ other.func → GoodFrames holds m (other ∷ below)
with_top holds m frame other [] frames good same = (good, subst (λ f. IsMain m f ⊎ IsStart m f) same frames.1)
with_top holds m frame other (caller ∷ below) frames good same = (good, subst (StandsAtCall m caller) same frames.1, frames.2)

pub put_func : {V : Type 0} (frame : Frame V) (r : Option Name) (v : V) → frame.func ≡ (put frame r v).func
put_func frame None v = refl
put_func frame (Some x) v = refl

-- ---- calls

-- a parameter gets a word in range
bind_holds : {V : Type 0} (P : V → Type 0) (unset : V) (x : Name) (ps : List (Ty × Name)) (words : List V) → P unset
    → ((k : ℕ) (t : Ty) (y : Name) → slice_get ps k ≡ Some (t, y) → name_eq x y ≡ true → P (get_or words k unset)) → P (bind unset ps words x)
bind_holds P unset x [] words none h = none
bind_holds P unset x (p ∷ ps) [] words_none h = words_none
bind_holds {V} P unset x (p ∷ ps) (v ∷ words) none h = by_test (name_eq x p.1) refl (bind_holds P unset x ps words none (λ k t y e same. h (suc k) t y e same))
  where
    by_test : (t : Bool) → name_eq x p.1 ≡ t → P (bind unset ps words x) → P (if t then v else bind unset ps words x)
    by_test true e rest = h 0 p.0 p.1 refl e
    by_test false e rest = rest

-- the frame of a call with words in range is good
pub entered_good : {V : Type 0} (holds : V → ℕ → Type 0) (reading : Reading V) (m : Module) → Formed m → Valid m → (n : ℕ) (words : List V) (world : World) (f : Func) → func_at m n ≡ Some f
    → ((t : Ty) → holds reading.unset (2 ^ width_of t)) → ((k : ℕ) (t : Ty) (x : Name) → slice_get f.params k ≡ Some (t, x) → holds (get_or words k reading.unset) (2 ^ width_of t))
    → GoodFrame holds m (entered reading m n words world)
entered_good {V} holds reading m formed valid n words world f at none fits = record {
  func = f;
  stands = at;
  before = [];
  path = (refl, tt);
  place = place_within (insts_of f 0) 0 entry.inst due;
  after_phis = subst (λ c. c ≤ 0) (sym (no_leading (insts_of f 0) entry.inst due entry.plain)) (omega arith);
  words = λ x t set typed. bind_holds (λ w. holds w (2 ^ width_of t)) reading.unset x (params_at m n) words (none t)
      (λ k u y e same. subst (λ z. holds (get_or words k reading.unset) (2 ^ width_of z)) (same_type x t k u y typed e same) (fits k u y (param k u y e)));
}
  where
    entry : Entry f
    entry = entry_of m formed valid n f at

    due : slice_get (insts_of f 0) 0 ≡ Some entry.inst
    due = ap (λ o. slice_get (unwrap_or (option_map (λ k. k.insts) o) []) 0) entry.at ∙ entry.due

    param : (k : ℕ) (u : Ty) (y : Name) → slice_get (params_at m n) k ≡ Some (u, y) → slice_get f.params k ≡ Some (u, y)
    param k u y e = sym (ap (λ o. slice_get (unwrap_or (option_map (λ g. g.params) o) []) k) at) ∙ e

    same_type : (x : Name) (t : Ty) (k : ℕ) (u : Ty) (y : Name) → value_type f x ≡ Some t → slice_get (params_at m n) k ≡ Some (u, y) → name_eq x y ≡ true → u ≡ t
    same_type x t k u y typed e same =
        one_type u t (value_type f y) (param_typed m valid n f at k u y (param k u y e)) (ap (value_type f) (sym (name_same x y same)) ∙ typed)

-- the caller of a good frame that returns a word in range goes on in a good frame
left_good : {V : Type 0} (holds : V → ℕ → Type 0) (m : Module) → Formed m → Valid m → (frame caller : Frame V) (v : V) (good : GoodFrame holds m frame) (from : GoodFrame holds m caller)
    → StandsAtCall m caller frame.func → ((t : Ty) → good.func.ret ≡ Some t → holds v (2 ^ width_of t)) → GoodFrame holds m (put caller (result_at m caller) v)
left_good {V} holds m formed valid frame caller v good from s fits =
    subst (λ r. GoodFrame holds m (put caller r v)) (sym result) (put_good holds m formed valid caller from s.inst due (ap is_terminator s.calls) v in_range)
  where
    due : slice_get (insts_of from.func caller.block) caller.place ≡ Some s.inst
    due = ap (λ g. slice_get (insts_of g caller.block) caller.place) (same_Some from.func s.func (sym from.stands ∙ s.stands)) ∙ s.due

    there : slice_get (insts_at m caller.func caller.block) caller.place ≡ Some s.inst
    there = ap (λ o. slice_get (unwrap_or (option_map (λ k. k.insts) (slice_get (unwrap_or (option_map (λ g. g.blocks) o) []) caller.block)) []) caller.place) s.stands ∙ s.due

    result : result_at m caller ≡ s.inst.result
    result = ap (λ o. option_and_then (λ i. i.result) o) there

    callee : (g : Func) × (slice_get m.funcs frame.func ≡ Some g) × (lookup (map (λ h. (h.name, func_signature h)) m.funcs) s.callee ≡ Some (func_signature g))
    callee = func_there m.funcs s.callee frame.func s.found

    fitted : Ty × Operand → Bool
    fitted = λ o. operand_fits m (value_type s.func) o.0 o.1

    answers : result_type_eq s.ret callee.0.ret ≡ true
    answers = call_answers m fitted (func_signature callee.0) s.ret s.callee s.args
        (ap (λ o. call_fault m fitted o s.ret s.callee s.args) (sym (defined_first (defined_signature m.funcs s.callee) _ (func_signature callee.0) callee.2))
        ∙ ap (op_fault m s.func fitted) (sym s.calls) ∙ (fits_at m valid caller.func caller.block caller.place s.func s.inst s.stands there).types_agree)

    in_range : (x : Name) (t : Ty) → s.inst.result ≡ Some x → result_type s.inst.op ≡ Some t → holds v (2 ^ width_of t)
    in_range x t named gives =
        let ret : s.ret ≡ Some t = sym (ap result_type s.calls) ∙ gives in
        let found = same_result t callee.0.ret (ap (λ r. result_type_eq r callee.0.ret) (sym ret) ∙ answers) in
        let same : good.func ≡ callee.0 = same_Some good.func callee.0 (sym good.stands ∙ callee.1) in
        subst (λ w. holds v (2 ^ w)) (sym found.2) (fits found.0 (ap (λ g. g.ret) same ∙ found.1))

-- frames stay good by every effect that an instruction may have
pub moves_good : {V : Type 0} (holds : V → ℕ → Type 0) (reading : Reading V) (setting : Setting) (m : Module) → Formed m → Valid m
    → (frame : Frame V) (below : List (Frame V)) (frames : GoodFrames holds m (frame ∷ below)) (good : GoodFrame holds m frame)
    → ((t : Ty) → holds reading.unset (2 ^ width_of t)) → ((n : ℕ) (t : Ty) (o : Operand) → holds (reading.read setting frame.values n t o) (2 ^ width_of t))
    → (inst : Inst) → slice_get (insts_of good.func frame.block) frame.place ≡ Some inst → (site : ℕ) (words : List V) (lift : ℕ → World → V) (after : ℕ → World → World) (effect : Effect)
    → FitsEffect holds reading.unset m good.func inst words lift effect → GoodMoved holds m (after_effect reading setting m site inst.result words lift after frame below effect)
moves_good holds reading setting m formed valid frame below frames good none reads inst due site words lift after (Gives v world) fits =
    with_top holds m frame (put frame inst.result (lift v world)) below frames (put_good holds m formed valid frame good inst due fits.0 (lift v world) fits.1) (put_func frame inst.result (lift v world))
moves_good holds reading setting m formed valid frame below frames good none reads inst due site words lift after (Does world) fits =
    with_top holds m frame (one_on frame) below frames
    (subst (λ r. GoodFrame holds m (put frame r reading.unset)) fits.1 (put_good holds m formed valid frame good inst due fits.0 reading.unset (λ x t named gives. none t))) refl
moves_good holds reading setting m formed valid frame below frames good none reads inst due site words lift after (Goes to world) fits =
    with_top holds m frame (jumped reading setting m to frame) below frames (jump_good holds reading setting m formed valid frame good none reads inst due fits.0 to fits.1) refl
moves_good holds reading setting m formed valid frame below frames good none reads inst due site words lift after (Enters n world) fits = by_test (leb 1024 (length below + 1))
  where
    callee : (g : Func) × (slice_get m.funcs n ≡ Some g) × (lookup (map (λ h. (h.name, func_signature h)) m.funcs) fits.callee ≡ Some (func_signature g))
    callee = func_there m.funcs fits.callee n fits.found

    by_test : (t : Bool) → GoodMoved holds m (if t then Over («end».Trap trap.Depth site) world else On (entered reading m n words world ∷ frame ∷ below) world)
    by_test true = tt
    by_test false = (
      entered_good holds reading m formed valid n words world callee.0 callee.1 none (λ k t x e. fits.in_range callee.0 k t x callee.1 e),
      record {
        func = good.func;
        stands = good.stands;
        inst = inst;
        due = due;
        callee = fits.callee;
        ret = fits.ret;
        args = fits.args;
        calls = fits.calls;
        found = fits.found;
      },
      frames,
    )
moves_good holds reading setting m formed valid frame [] frames good none reads inst due site words lift after (Leaves world) fits = tt
moves_good holds reading setting m formed valid frame (caller ∷ below) frames good none reads inst due site words lift after (Leaves world) fits =
    with_top holds m caller (put caller (result_at m caller) (get_or words 0 reading.unset)) below frames.2
    (left_good holds m formed valid frame caller (get_or words 0 reading.unset) good (top_good holds m caller below frames.2) frames.1 fits)
    (put_func caller (result_at m caller) (get_or words 0 reading.unset))
moves_good holds reading setting m formed valid frame below frames good none reads inst due site words lift after (Ends e world) fits = tt
