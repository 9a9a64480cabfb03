-- A module has thread calls where it has them without what is inserted: no marked instruction is one.
use Rattle.std.proofs.Common.{◌≡◌, ◌∙◌, ◌&&◌, ◌||◌, ℕ, suc, Bool, true, false, not, List, [], ◌∷◌, map, filter, Option, Some, None, is_some, option_map, unwrap_or, slice_get, if◌then◌else◌, refl, sym, ap, subst}
use Rattle.std.specs.List.{list_any}
use Rattle.std.proofs.Math.Path.{ap₂}
use Rattle.std.proofs.lemmas.Bool.{and_parts}
use Rattle.ms_ir.specs.declared.syntax.Op.{Op}
use Rattle.ms_ir.specs.declared.syntax.Op.TheVariants as op
use Rattle.ms_ir.specs.declared.syntax.Inst.{Inst}
use Rattle.ms_ir.specs.declared.syntax.Block.{Block}
use Rattle.ms_ir.specs.declared.syntax.Func.{Func}
use Rattle.ms_ir.specs.declared.syntax.Module.{Module}
use Rattle.ms_ir.specs.declared.calls.External.{External}
use Rattle.ms_ir.specs.Names.{lookup, externals, is_inserted_name}
use Rattle.ms_ir.specs.Written.{mentions}
use Rattle.ms_ir.specs.ThreadCalls.{is_asked, calls_thread, is_block_threaded, is_func_threaded, is_threaded}
use Rattle.ms_ir.specs.Instructions.{func_index, func_at, insts_at, is_unmarked, strip_block, strip_func, strip}
use Rattle.ms_check_valid.specs.Paths.{insts_of}
use Rattle.ms_check_valid.specs.MarksFit.{may_be_marked, all_results, is_inserted, marked_results, mark_fits}
use Rattle.ms_check_valid.specs.Valid.{Valid}
use Rattle.ms_check_valid.proofs.AtInstructions.{fits_at}
use Rattle.ms_runs_laws.proofs.Stripped.{func_kept}
use Rattle.ms_runs_good_laws.proofs.Frames.{same_insts}
use Rattle.ms_threads.proofs.Apart.{runtime_apart}

-- ---- marked instructions

marked_quiet : (m : Module) → Valid m → (n b p : ℕ) (f : Func) (i : Inst) → func_at m n ≡ Some f → slice_get (insts_of f b) p ≡ Some i → i.marked ≡ true → calls_thread (func_index m.funcs) i.op ≡ false
marked_quiet m valid n b p f i at due marked = by_op i.op may_be
  where
    may_be : may_be_marked i.op ≡ true
    may_be =
        let there : slice_get (insts_at m n b) p ≡ Some i = subst (λ l. slice_get l p ≡ Some i) (sym (same_insts m n f b at)) due in
        let fits : mark_fits f i ≡ true = (fits_at m valid n b p f i at there).marks_fit in
        (and_parts (may_be_marked i.op) (all_results is_inserted_name i.result)
        (sym (ap (λ t. if t then may_be_marked i.op && all_results is_inserted_name i.result
        else all_results (λ x. not (is_inserted_name x)) i.result && not (list_any (is_inserted (marked_results f)) (mentions i.op))) marked) ∙ fits)).0

    by_index : (o : Option ℕ) (q : Option External) → is_asked q ≡ false → is_asked (if is_some o then None else q) ≡ false
    by_index (Some k) q e = refl
    by_index None q e = e

    by_op : (o : Op) → may_be_marked o ≡ true → calls_thread (func_index m.funcs) o ≡ false
    by_op (op.Call ret callee args) e = by_index (func_index m.funcs callee) (lookup externals callee) (runtime_apart callee e)
    by_op o e = refl

-- ---- lists

-- what is left out is not so
filtered : (test : Inst → Bool) (insts : List Inst) → ((p : ℕ) (i : Inst) → slice_get insts p ≡ Some i → i.marked ≡ true → test i ≡ false) → list_any test (filter is_unmarked insts) ≡ list_any test insts
filtered test [] quiet = refl
filtered test (i ∷ insts) quiet = by_mark (filtered test insts (λ p j e. quiet (suc p) j e)) i.marked refl
  where
    by_mark : list_any test (filter is_unmarked insts) ≡ list_any test insts → (b : Bool) → i.marked ≡ b → list_any test (filter is_unmarked (i ∷ insts)) ≡ list_any test (i ∷ insts)
    by_mark rest true e =
        ap (λ (t : Bool). list_any test (if not t then i ∷ filter is_unmarked insts else filter is_unmarked insts)) e ∙ rest
        ∙ sym (ap (λ (t : Bool). t || list_any test insts) (quiet 0 i refl e))
    by_mark rest false e =
        ap (λ (t : Bool). list_any test (if not t then i ∷ filter is_unmarked insts else filter is_unmarked insts)) e ∙ ap (λ (t : Bool). test i || t) rest

-- items that are as they were before
mapped : {A : Type 0} (after before : A → Bool) (change : A → A) (xs : List A) → ((k : ℕ) (x : A) → slice_get xs k ≡ Some x → after (change x) ≡ before x) → list_any after (map change xs) ≡ list_any before xs
mapped after before change [] same = refl
mapped after before change (x ∷ xs) same = ap₂ (λ s t. s || t) (same 0 x refl) (mapped after before change xs (λ k y e. same (suc k) y e))

-- ---- modules

pub stripped_threads : (m : Module) → Valid m → is_threaded (strip m) ≡ is_threaded m
stripped_threads m valid =
    let func = func_index m.funcs in
    ap (λ g. list_any (is_func_threaded g) (map strip_func m.funcs)) (λ j x. func_kept m.funcs x j)
    ∙ mapped (is_func_threaded func) (is_func_threaded func) strip_func m.funcs
    (λ n f at. mapped (is_block_threaded func) (is_block_threaded func) strip_block f.blocks
    (λ b k is. filtered (λ i. calls_thread func i.op) k.insts
    (λ p i due marked. marked_quiet m valid n b p f i at (ap (λ o. slice_get (unwrap_or (option_map (λ (g : Block). g.insts) o) []) p) is ∙ due) marked)))

-- so the instrumented form has them where its module has
pub same_threads : (m j : Module) → Valid j → strip j ≡ m → is_threaded j ≡ is_threaded m
same_threads m j valid strips = sym (stripped_threads j valid) ∙ ap is_threaded strips
