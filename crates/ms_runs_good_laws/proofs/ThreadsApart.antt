-- A module without thread calls calls none.
use Rattle.std.proofs.Common.{◌≡◌, ℕ, zero, suc, List, [], ◌∷◌, Bool, false, Option, Some, None, option_map, unwrap_or, slice_get, refl, ap, sym, ◌∙◌}
use Rattle.std.specs.List.{list_any}
use Rattle.std.proofs.lemmas.Bool.{or_parts}
use Rattle.ms_ir.specs.declared.syntax.Name.{Name}
use Rattle.ms_ir.specs.declared.syntax.Op.{Op}
use Rattle.ms_ir.specs.declared.syntax.Op.TheVariants as op
use Rattle.ms_ir.specs.declared.syntax.Inst.{Inst}
use Rattle.ms_ir.specs.declared.syntax.Block.{Block}
use Rattle.ms_ir.specs.declared.syntax.Func.{Func}
use Rattle.ms_ir.specs.declared.syntax.Module.{Module}
use Rattle.ms_ir.specs.declared.calls.External.{External}
use Rattle.ms_ir.specs.Signatures.{is_thread_call}
use Rattle.ms_ir.specs.ThreadCalls.{is_asked, calls_thread, is_block_threaded, is_func_threaded, is_threaded}
use Rattle.ms_ir.specs.Instructions.{func_index, func_at, insts_at, external_named}
use Rattle.ms_check_valid.specs.Paths.{insts_of}
use Rattle.ms_runs_good_laws.proofs.Frames.{same_insts}

-- a callee is no thread call
abbrev pub NoThread : Option External → Type 0
NoThread None = Unit {0}
NoThread (Some e) = is_thread_call e ≡ false

-- nor does an instruction call one
abbrev pub CallsNoThread : (Name → Option ℕ) → Op → Type 0
CallsNoThread func (op.Call ret callee args) = NoThread (external_named func callee)
CallsNoThread func o = Unit {0}

none_is : {A : Type 0} (test : A → Bool) (xs : List A) (k : ℕ) (x : A) → list_any test xs ≡ false → slice_get xs k ≡ Some x → test x ≡ false
none_is test [] k x none e = absurd (cc)
none_is test (y ∷ xs) zero x none e = ap (λ o. test (unwrap_or o y)) (sym e) ∙ (or_parts (test y) (list_any test xs) none).0
none_is test (y ∷ xs) (suc k) x none e = none_is test xs k x (or_parts (test y) (list_any test xs) none).1 e

pub none_called : (m : Module) → is_threaded m ≡ false → (n b p : ℕ) (f : Func) (i : Inst) → func_at m n ≡ Some f → slice_get (insts_of f b) p ≡ Some i → calls_thread (func_index m.funcs) i.op ≡ false
none_called m calm n b p f i at due = by_block (slice_get f.blocks b) refl
  where
    calm_func : is_func_threaded (func_index m.funcs) f ≡ false
    calm_func = none_is (is_func_threaded (func_index m.funcs)) m.funcs n f calm at

    nothing : (k : ℕ) → slice_get {X = Inst} [] k ≡ Some i → ⊥
    nothing k e = cc

    by_block : (o : Option Block) → slice_get f.blocks b ≡ o → calls_thread (func_index m.funcs) i.op ≡ false
    by_block None e = absurd (nothing p (ap (λ o. slice_get (unwrap_or (option_map (λ k. k.insts) o) []) p) (sym e) ∙ due))
    by_block (Some k) e =
        none_is (λ j. calls_thread (func_index m.funcs) j.op) k.insts p i (none_is (is_block_threaded (func_index m.funcs)) f.blocks b k calm_func e)
        (ap (λ o. slice_get (unwrap_or (option_map (λ g. g.insts) o) []) p) (sym e) ∙ due)

-- the same of an instruction by its place
pub none_due : (m : Module) → is_threaded m ≡ false → (n b p : ℕ) (i : Inst) → slice_get (insts_at m n b) p ≡ Some i → calls_thread (func_index m.funcs) i.op ≡ false
none_due m calm n b p i due = by_func (func_at m n) refl
  where
    no_block : (k : ℕ) → slice_get {X = Block} [] k ≡ None
    no_block zero = refl
    no_block (suc k) = refl

    no_inst : (k : ℕ) → slice_get {X = Inst} [] k ≡ Some i → ⊥
    no_inst k e = cc

    by_func : (o : Option Func) → func_at m n ≡ o → calls_thread (func_index m.funcs) i.op ≡ false
    by_func None e =
        absurd (no_inst p (sym (ap (λ o. slice_get (unwrap_or (option_map (λ k. k.insts) o) []) p) (no_block b))
        ∙ sym (ap (λ o. slice_get (unwrap_or (option_map (λ k. k.insts) (slice_get (unwrap_or (option_map (λ g. g.blocks) o) []) b)) []) p) e) ∙ due))
    by_func (Some f) e = none_called m calm n b p f i e (ap (λ xs. slice_get xs p) (sym (same_insts m n f b e)) ∙ due)

-- what isn't asked of the fibers is no thread call
pub asked_alone : (q : Option External) → is_asked q ≡ false → NoThread q
asked_alone None none = tt
asked_alone (Some e) none = none

pub no_thread_called : (m : Module) → is_threaded m ≡ false → (n b p : ℕ) (f : Func) (i : Inst) → func_at m n ≡ Some f → slice_get (insts_of f b) p ≡ Some i → CallsNoThread (func_index m.funcs) i.op
no_thread_called m calm n b p f i at due = by_op i.op (none_called m calm n b p f i at due)
  where
    by_op : (o : Op) → calls_thread (func_index m.funcs) o ≡ false → CallsNoThread (func_index m.funcs) o
    by_op (op.Call ret callee args) none = asked_alone (external_named (func_index m.funcs) callee) none
    by_op o none = tt
