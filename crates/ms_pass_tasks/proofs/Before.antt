-- The law of what is inserted before an instruction.
use Rattle.std.proofs.Common.{◌≡◌, ℕ, zero, suc, ◌+◌, ◌^◌, ◌<◌, ◌≤◌, List, [], ◌∷◌, ◌++◌, length, refl, sym, ap, ◌∙◌, subst, arith, Bool, true, false, Option, Some, None}
use Rattle.std.specs.Prelude.{◌-◌, ◌/◌, if◌then◌else◌, map, drop, eqb, leb, get_or, is_some, unwrap_or}
use Rattle.ms_bits.specs.declared.operations.BinOp.TheVariants as binary
use Rattle.ms_ir.specs.declared.syntax.Name.{Name}
use Rattle.ms_ir.specs.declared.syntax.Ty.{Ty, Ptr}
use Rattle.ms_ir.specs.Equal.{type_eq}
use Rattle.ms_ir.specs.declared.syntax.Operand.{Operand}
use Rattle.ms_ir.specs.declared.syntax.Op.{Op}
use Rattle.ms_ir.specs.declared.syntax.Op.TheVariants as op
use Rattle.ms_ir.specs.declared.syntax.Inst.{Inst}
use Rattle.ms_runs.specs.declared.runs.End.{End}
use Rattle.ms_runs.specs.declared.runs.End.TheVariants as «end»
use Rattle.ms_runs.specs.declared.runs.Report.{Report}
use Rattle.ms_ir.specs.Names.{name_eq}
use Rattle.ms_ir.specs.Layout.{width_of}
use Rattle.ms_runs.specs.World.{World, Setting, Here, Effect, Gives, Does, Goes, Enters, Leaves, Ends, then_does}
use Rattle.ms_runs.specs.Origins.{check, check_byte, check_memory, check_string, asks_string_at, is_hidden, add_report, trail, count_blind, first_in_string}
use Rattle.ms_runs.specs.Memory.{bytes_left, is_good, heap_size}
use Rattle.ms_runs.specs.Act.{operand_word}
use Rattle.ms_ir.specs.Instructions.{operands, one_undef, count_undefs, external_named}
use Rattle.ms_runs.specs.Control.{read_all, with_value}
use Rattle.ms_runs.specs.Poisoned.{Poisoned}
use Rattle.ms_runs.specs.Masks.{by_formulas, union, word_at}
use Rattle.ms_runs.specs.Uses.{CheckedUse, Word, Bytes, Line, Asked, uses, type_at, check_use, check_uses, value_uses, string_uses, external_uses, callee_uses}
use Rattle.ms_runs.specs.Shadow.{read_poisoned, poisoned_result}
use Rattle.ms_pass_tasks.specs.Tasks.{msan_name, Task, target, parts}
use Rattle.ms_pass_tasks.specs.Meaning.{Values, Reach, Went, Over, Reaches, Same, Below, run_marked, do_tasks, set_result, marked_next, task_slots, task_effect, evaluate_all}
use Rattle.ms_pass_tasks.specs.Environments.{Env, Tracked, tracked, tracked_at}
use Rattle.ms_pass_tasks.specs.CheckTasks.{blinded_of, blind_tasks, check_tasks}
use Rattle.ms_pass_tasks.specs.ResultTasks.{result_tasks}
use Rattle.ms_pass_tasks.specs.PlaneTasks.{save_tasks, saved_tasks, saved_by, saves}
use Rattle.ms_pass_tasks.specs.Emit.{before_tasks, start}
use Rattle.ms_pass_tasks.specs.Known.{external_widths, FitsCallee, IsBuilt, KnownOperands}
use Rattle.ms_pass_tasks.specs.Match.{Handed, SavedSize, Saved, Matches, RangedWorld, RangedValues}
use Rattle.ms_pass_tasks.specs.InstructionLaw.{Stands, given_of, words_at, checked_at, counted_at, acted_at, after_result, before_code, BeforeLaw, Checked, Failed, Due}
use Rattle.ms_pass_tasks.proofs.InsertedNames.{own_below, msan_below, below_more, with_here, with_other}
use Rattle.ms_pass_tasks.proofs.Flatten.{went_inv, over_inv, tasks_run, same_refl}
use Rattle.ms_pass_tasks.proofs.TaskNames.{before_low}
use Rattle.ms_pass_tasks.proofs.OperandWords.{Own, value_known, tracked_holds, words_known}
use Rattle.ms_pass_tasks.proofs.MatchedNames.{matches_same}
use Rattle.ms_pass_tasks.proofs.CheckTasks.{AreFit, check_on, checks_done}
use Rattle.ms_pass_tasks.proofs.Externals.{width_at}
use Rattle.ms_pass_tasks.proofs.Slots.{HandDone, hand_done, given_all}
use Rattle.ms_ir.specs.declared.calls.External.{External}
use Rattle.ms_ir.specs.declared.calls.External.TheVariants.{Malloc, Calloc, Realloc, Free, Memcpy, Memmove, Memset, Memcmp, Strlen, Putchar, Puts, Getchar, Read, Write, Exit, Abort, LlvmMemcpy, LlvmMemmove, LlvmMemset, LifetimeStart, LifetimeEnd, Printf, LlvmTrap, LlvmAssume, LlvmObjectSize, PthreadCreate, PthreadJoin, SchedYield}
use Rattle.ms_ir.specs.declared.calls.External.TheVariants as called
use Rattle.ms_bits.specs.Maps.{first_nonzero}
use Rattle.ms_pass_tasks.proofs.BlindTasks.{blinded_same, masks_hold, masks_blinded, blind_done}
use Rattle.ms_pass_tasks.proofs.Defined.{Defined, Fine, Fails}
use Rattle.ms_pass_tasks.proofs.DefineResults.{result_done}
use Rattle.ms_pass_tasks.proofs.After.{numbers_low, few_undefs}

-- ---- what is tracked of operands

tracked_ty : (env : Env) (root : ℕ) (os : List (Ty × Operand)) (k : ℕ) → (tracked_at k (tracked env root os)).ty ≡ type_at k os
tracked_ty env root [] k = refl
tracked_ty env root (o ∷ os) zero = refl
tracked_ty env root (o ∷ os) (suc k) = tracked_ty env (root + one_undef o.1) os k

tracked_narrow : (env : Env) (size root : ℕ) (os : List (Ty × Operand)) → KnownOperands env size os → (k : ℕ) → width_of (tracked_at k (tracked env root os)).ty ≤ 64
tracked_narrow env size root [] known k = omega arith
tracked_narrow env size root (o ∷ os) known zero = known.0
tracked_narrow env size root (o ∷ os) known (suc k) = tracked_narrow env size (root + one_undef o.1) os known.2 k

-- ---- the checks of what is built

-- those of the arguments of `printf`, whose numbers are small
values_fit : (ts : List Tracked) (k : ℕ) (args : List (Ty × Operand)) (us : List CheckedUse) → k + length args < 2 ^ 32 → AreFit ts us → AreFit ts (value_uses k args ++ us)
values_fit ts k [] us l h = h
values_fit ts k (a ∷ args) us l h = (omega arith, omega (arith, l), values_fit ts (suc k) args us (omega (arith, l)) h)

-- a pointer among them has 64 bits
strings_fit : (ts : List Tracked) (k : ℕ) (args : List (Ty × Operand)) → k + length args < 2 ^ 32 → width_of (tracked_at 0 ts).ty ≡ 64
    → ((j : ℕ) → width_of (tracked_at (k + j) ts).ty ≡ get_or (map (λ a. width_of a.0) args) j 64) → AreFit ts (string_uses k args)
strings_fit ts k [] l f w = tt
strings_fit ts k (a ∷ args) l f w =
    by_type a.0 first (strings_fit ts (suc k) args (omega (arith, l)) f (λ j. subst (λ n. width_of (tracked_at n ts).ty ≡ get_or (map (λ b. width_of b.0) args) j 64) (moved k j) (w (suc j))))
  where
    moved : (m j : ℕ) → m + suc j ≡ suc m + j
    moved m j = omega arith

    none : (m : ℕ) → m + 0 ≡ m
    none m = omega arith

    first : width_of (tracked_at k ts).ty ≡ width_of a.0
    first = subst (λ n. width_of (tracked_at n ts).ty ≡ width_of a.0) (none k) (w 0)

    by_type : (t : Ty) → width_of (tracked_at k ts).ty ≡ width_of t → AreFit ts (string_uses (suc k) args)
        → AreFit ts (if type_eq t Ptr then Asked k ∷ string_uses (suc k) args else string_uses (suc k) args)
    by_type Ptr e later = (f, e, omega (arith, l), later)
    by_type t e later = later

external_fit : (ts : List Tracked) (e : External) (args : List (Ty × Operand)) → length args < 2 ^ 32
    → ((k : ℕ) → width_of (tracked_at k ts).ty ≡ get_or (external_widths e (map (λ a. a.0) args)) k 64) → AreFit ts (external_uses e args)
external_fit ts Malloc args l w = (omega arith, omega arith, tt)
external_fit ts Calloc args l w = (omega arith, omega arith, (omega arith, omega arith, tt))
external_fit ts Realloc args l w = (omega arith, omega arith, (omega arith, omega arith, tt))
external_fit ts Free args l w = (omega arith, omega arith, tt)
external_fit ts Memcpy args l w = (omega arith, omega arith, (omega arith, omega arith, (omega arith, omega arith, tt)))
external_fit ts Memmove args l w = (omega arith, omega arith, (omega arith, omega arith, (omega arith, omega arith, tt)))
external_fit ts Memset args l w = (omega arith, omega arith, (omega arith, omega arith, tt))
external_fit ts Memcmp args l w = (omega arith, omega arith, (omega arith, omega arith, (omega arith, omega arith, (omega arith, w 0, w 2, (omega arith, w 1, w 2, tt)))))
external_fit ts Strlen args l w = (omega arith, omega arith, (w 0, tt))
external_fit ts Putchar args l w = (omega arith, omega arith, tt)
external_fit ts Puts args l w = (omega arith, omega arith, (w 0, tt))
external_fit ts Getchar args l w = tt
external_fit ts Read args l w = (omega arith, omega arith, (omega arith, omega arith, (omega arith, omega arith, tt)))
external_fit ts Write args l w = (omega arith, omega arith, (omega arith, omega arith, (omega arith, omega arith, (omega arith, w 1, w 2, tt))))
external_fit ts Exit args l w = (omega arith, omega arith, tt)
external_fit ts Abort args l w = tt
external_fit ts LlvmMemcpy args l w = (omega arith, omega arith, (omega arith, omega arith, (omega arith, omega arith, tt)))
external_fit ts LlvmMemmove args l w = (omega arith, omega arith, (omega arith, omega arith, (omega arith, omega arith, tt)))
external_fit ts LlvmMemset args l w = (omega arith, omega arith, (omega arith, omega arith, tt))
external_fit ts LifetimeStart args l w = (omega arith, omega arith, (omega arith, omega arith, tt))
external_fit ts LifetimeEnd args l w = (omega arith, omega arith, (omega arith, omega arith, tt))
external_fit ts LlvmTrap args l w = tt
external_fit ts LlvmAssume args l w = (omega arith, omega arith, tt)
external_fit ts LlvmObjectSize args l w = (omega arith, omega arith, tt)
external_fit ts PthreadCreate args l w = (omega arith, omega arith, (omega arith, omega arith, (omega arith, omega arith, tt)))
external_fit ts PthreadJoin args l w = (omega arith, omega arith, (omega arith, omega arith, tt))
external_fit ts SchedYield args l w = tt
external_fit ts (called.Word f n) args l w = tt
external_fit ts Printf args l w = (omega arith, omega arith, (w 0, values_fit ts 1 (drop 1 args) (string_uses 1 (drop 1 args)) (fewer args l) (strings_fit ts 1 (drop 1 args) (fewer args l) (w 0) (λ j. subst (λ n. width_of (tracked_at n ts).ty ≡ get_or (map (λ a. width_of a.0) (drop 1 args)) j 64) (next j) (w (suc j) ∙ ap (λ ws. get_or ws j 64) (widths args))))))
  where
    next : (j : ℕ) → suc j ≡ 1 + j
    next j = omega arith

    fewer : (args : List (Ty × Operand)) → length args < 2 ^ 32 → 1 + length (drop 1 args) < 2 ^ 32
    fewer [] l = omega arith
    fewer (a ∷ rest) l = omega (arith, l)

    widths : (args : List (Ty × Operand)) → map width_of (drop 1 (map (λ a. a.0) args)) ≡ map (λ a. width_of a.0) (drop 1 args)
    widths [] = refl
    widths (a ∷ rest) = all rest
      where
        all : (rest : List (Ty × Operand)) → map width_of (map (λ a. a.0) rest) ≡ map (λ a. width_of a.0) rest
        all [] = refl
        all (b ∷ rest) = ap (λ ws. width_of b.0 ∷ ws) (all rest)

callee_fit : (env : Env) (root : ℕ) (x : Option Name) (args : List (Ty × Operand)) (e : Option External) → FitsCallee e x args → AreFit (tracked env root args) (callee_uses e args)
callee_fit env root x args None built = tt
callee_fit env root x args (Some e) built = external_fit (tracked env root args) e args built.2 (λ k. width_at env root args k ∙ ap (λ l. get_or l k 64) built.0)

uses_fit : (env : Env) (root : ℕ) (func : Name → Option ℕ) (main : Bool) (x : Option Name) (o : Op) → IsBuilt func x o → AreFit (tracked env root (operands o)) (uses func main o)
uses_fit env root func main x (op.Binary binary.Udiv f t a b) built = (omega arith, omega arith, tt)
uses_fit env root func main x (op.Binary binary.Sdiv f t a b) built = (omega arith, omega arith, tt)
uses_fit env root func main x (op.Binary binary.Urem f t a b) built = (omega arith, omega arith, tt)
uses_fit env root func main x (op.Binary binary.Srem f t a b) built = (omega arith, omega arith, tt)
uses_fit env root func main x (op.Alloca t u c) built = (omega arith, omega arith, tt)
uses_fit env root func main x (op.Load t a) built = (omega arith, omega arith, tt)
uses_fit env root func main x (op.Store t v a) built = (omega arith, omega arith, tt)
uses_fit env root func main x (op.CondBr c to other) built = (omega arith, omega arith, tt)
uses_fit env root func main x (op.Switch t v other cases) built = (omega arith, omega arith, tt)
uses_fit env root func true x (op.Ret v) built = (omega arith, omega arith, tt)
uses_fit env root func false x (op.Ret v) built = tt
uses_fit env root func main x (op.Call ret callee args) built = callee_fit env root x args (external_named func callee) built.0
uses_fit env root func main _ _ built = tt

-- a blind count keeps memory
count_ranged : (n : ℕ) (w : World) → RangedWorld w → RangedWorld (count_blind n w)
count_ranged n w r = by_mask (eqb n 0)
  where
    by_mask : (b : Bool) → RangedWorld (if b then w else record w { blind = w.blind + 1 })
    by_mask true = r
    by_mask false = record { placed = r.placed; origins = r.origins; pairs = r.pairs; answers = r.answers }

-- checks go on in a world whose allocations and origins are as they were, or end the run
abbrev IsLeft : Effect → Type 0
IsLeft (Does w) = RangedWorld w
IsLeft (Ends e w) = Unit {0}
IsLeft _ = ⊥

check_left : (s : Setting) (mask width o kind part site : ℕ) (w : World) → RangedWorld w → IsLeft (check s mask width o kind part site w)
check_left s mask width o kind part site w r = by_mask (eqb mask 0)
  where
    added : (report : Report) → IsLeft (add_report s report w)
    added report = by_tests (is_hidden s report w) (leb s.limit (length (w.reports ++ report ∷ [])))
      where
        by_tests : (h b : Bool)
            → IsLeft (if h then Does w else if b then Ends «end».Reported (record w { reports = w.reports ++ report ∷ [] }) else Does (record w { reports = w.reports ++ report ∷ [] }))
        by_tests true b = r
        by_tests false true = tt
        by_tests false false = record { placed = r.placed; origins = r.origins; pairs = r.pairs; answers = r.answers }

    by_mask : (b : Bool) → IsLeft (if b then Does w else add_report s (record { site = site; kind = kind; part = part; width = width; mask = mask; origin = o; chain = trail s w o }) w)
    by_mask true = r
    by_mask false = added (record { site = site; kind = kind; part = part; width = width; mask = mask; origin = o; chain = trail s w o })

then_left : (e : Effect) (f : World → Effect) → IsLeft e → ((w : World) → RangedWorld w → IsLeft (f w)) → IsLeft (then_does e f)
then_left (Does w) f l next = next w l
then_left (Ends e w) f l next = tt
then_left (Gives k w) f l next = absurd l
then_left (Goes b w) f l next = absurd l
then_left (Enters b w) f l next = absurd l
then_left (Leaves w) f l next = absurd l

byte_left : (s : Setting) (kind site start : ℕ) (x : Option ℕ) (w : World) → RangedWorld w → IsLeft (check_byte s kind site start x w)
byte_left s kind site start None w r = r
byte_left s kind site start (Some x) w r = check_left s (w.shadow x) 8 (w.origins (x / 4)) kind (x - start) site w r

memory_left : (s : Setting) (a n kind site : ℕ) (w : World) → RangedWorld w → IsLeft (check_memory s a n kind site w)
memory_left s a n kind site w r = by_good (is_good w a n)
  where
    by_good : (b : Bool) → IsLeft (if b then check_byte s kind site a (first_nonzero w.shadow a n) w else Does w)
    by_good true = byte_left s kind site a (first_nonzero w.shadow a n) w r
    by_good false = r

checks_left : (s : Setting) (site : ℕ) (os : List (Ty × Operand)) (ps : List Poisoned) (us : List CheckedUse) → (w : World) → RangedWorld w
    → IsLeft (check_uses s site os ps us w)
checks_left s site os ps [] w r = r
checks_left s site os ps (Word kind k ∷ us) w r =
    then_left (check_use s site os ps (Word kind k) w) (check_uses s site os ps us)
    (check_left s (word_at k ps).mask (width_of (type_at k os)) (word_at k ps).origin kind k site w r) (λ u q. checks_left s site os ps us u q)
checks_left s site os ps (Bytes kind a n ∷ us) w r =
    then_left (check_use s site os ps (Bytes kind a n) w) (check_uses s site os ps us)
    (memory_left s (word_at a ps).value (word_at n ps).value kind site w r) (λ u q. checks_left s site os ps us u q)
checks_left s site os ps (Line a ∷ us) w r =
    then_left (check_use s site os ps (Line a) w) (check_uses s site os ps us)
    (byte_left s 10 site (word_at a ps).value (first_in_string w (word_at a ps).value (bytes_left w (word_at a ps).value)) w r) (λ u q. checks_left s site os ps us u q)
checks_left s site os ps (Asked a ∷ us) w r =
    then_left (check_use s site os ps (Asked a) w) (check_uses s site os ps us) (by_asked (asks_string_at w (word_at 0 ps).value a)) (λ u q. checks_left s site os ps us u q)
  where
    by_asked : (b : Bool) → IsLeft (if b then check_string s (word_at a ps).value site w else Does w)
    by_asked true = byte_left s 10 site (word_at a ps).value (first_in_string w (word_at a ps).value (bytes_left w (word_at a ps).value)) w r
    by_asked false = r

-- ---- tasks in two parts

then_reach : Reach → (Values → World → Reach) → Reach
then_reach (Went v w) f = f v w
then_reach (Over e w) f = Over e w

next_append : (x : Option Name) (names : Name → ℕ) (cells : ℕ → ℕ) (e : Effect) (go one : Values → World → Reach) (f : Values → World → Reach) → ((v : Values) (w : World) → go v w ≡ then_reach (one v w) f)
    → marked_next x names cells e go ≡ then_reach (marked_next x names cells e one) f
unfolding then_reach
next_append x names cells (Gives v w) go one f h = h _ w
next_append x names cells (Does w) go one f h = h _ w
next_append x names cells (Goes to w) go one f h = refl
next_append x names cells (Enters k w) go one f h = refl
next_append x names cells (Leaves w) go one f h = refl
next_append x names cells (Ends e w) go one f h = refl

do_append : (s : Setting) (h : Here) (a b : List Task) (v : Values) (w : World) → do_tasks s h (a ++ b) v w ≡ then_reach (do_tasks s h a v w) (do_tasks s h b)
unfolding then_reach
do_append s h [] b v w = refl
do_append s h (t ∷ a) b v w =
    next_append (target t) v.names (task_slots t (evaluate_all s v.names (parts t)) v.slots) (task_effect s h v.names t (evaluate_all s v.names (parts t)) v.slots w)
    (do_tasks s h (a ++ b)) (do_tasks s h a) (do_tasks s h b) (λ u z. do_append s h a b u z)

do_went : (s : Setting) (h : Here) (a b : List Task) (v u : Values) (w z : World) → do_tasks s h a v w ≡ Went u z → do_tasks s h (a ++ b) v w ≡ do_tasks s h b u z
unfolding then_reach
do_went s h a b v u w z e = do_append s h a b v w ∙ ap (λ r. then_reach r (do_tasks s h b)) e

do_over : (s : Setting) (h : Here) (a b : List Task) (v : Values) (w z : World) (x : End) → do_tasks s h a v w ≡ Over x z → do_tasks s h (a ++ b) v w ≡ Over x z
unfolding then_reach
do_over s h a b v w z x e = do_append s h a b v w ∙ ap (λ r. then_reach r (do_tasks s h b)) e

-- ---- the old block's size

value_at : (s : Setting) (env : Env) (size : ℕ) (values : Name → Poisoned) (names : Name → ℕ) → Own values names → (os : List (Ty × Operand)) (root : ℕ) → KnownOperands env size os → (k : ℕ)
    → operand_word s names (width_of (tracked_at k (tracked env root os)).ty) (tracked_at k (tracked env root os)).operand ≡ (word_at k (read_all (read_poisoned s values) os root)).value
value_at s env size values names own [] root known k = refl
value_at s env size values names own (o ∷ os) root known zero = value_known s env size values names own (width_of o.0) o.1 known.1
value_at s env size values names own (o ∷ os) root known (suc k) = value_at s env size values names own os (root + one_undef o.1) known.2 k

-- what saving before a call of an external comes to: the words stay but for that number, and the size stands as long as
-- it does
record SaveDone (s : Setting) (h : Here) (env : Env) (root saved : ℕ) (e : Option External) (args : List (Ty × Operand)) (ps : List Poisoned) (v : Values) (w : World) : Type 0 where
  pub after : Values
  pub runs : do_tasks s h (elim e [ Some e ↦ saved_tasks saved e (tracked env root args) | None ↦ [] ]) v w ≡ Went after w
  pub same : Same saved v after
  pub holds : (names : Name → ℕ) → ((x : Name) → Below (saved + elim e [ Some e ↦ saved_by e | None ↦ 0 ]) x → after.names x ≡ names x) → SavedSize e saved ps w names

saved_done : (s : Setting) (h : Here) (env : Env) (root saved : ℕ) (x : Option Name) (e : Option External) (args : List (Ty × Operand)) → FitsCallee e x args → (ps : List Poisoned) (v : Values) (w : World)
    → operand_word s v.names (width_of (tracked_at 0 (tracked env root args)).ty) (tracked_at 0 (tracked env root args)).operand ≡ (word_at 0 ps).value
    → SaveDone s h env root saved e args ps v w
saved_done s h env root saved x (Some Realloc) args fits ps v w value =
    let wide : width_of (tracked_at 0 (tracked env root args)).ty ≡ 64 = width_at env root args 0 ∙ ap (λ l. get_or l 0 64) fits.0 in
    let word : operand_word s v.names 64 (tracked_at 0 (tracked env root args)).operand ≡ (word_at 0 ps).value =
    ap (λ i. operand_word s v.names i (tracked_at 0 (tracked env root args)).operand) (sym wide) ∙ value in
    let old = unwrap_or (heap_size w (word_at 0 ps).value) 0 in
    record {
      after = record { names = with_value v.names (msan_name saved) old; slots = v.slots };
      runs = ap (λ i. Went (record { names = with_value v.names (msan_name saved) (unwrap_or (heap_size w i) 0); slots = v.slots }) w) word;
      same = record { names = λ y low. sym (with_other v.names (msan_name saved) y old (λ g. not_low (low saved g))); slots = refl };
      holds = λ names agree. sym (agree (msan_name saved) (msan_below (saved + 1) saved (omega arith))) ∙ with_here v.names (msan_name saved) old;
    }
  where
    not_low : saved < saved → ⊥
    not_low l = omega arith
saved_done s h env root saved x None args fits ps v w value = record { after = v; runs = refl; same = same_refl saved v; holds = λ names agree. tt }
saved_done s h env root saved x (Some Malloc) args fits ps v w value = record { after = v; runs = refl; same = same_refl saved v; holds = λ names agree. tt }
saved_done s h env root saved x (Some Calloc) args fits ps v w value = record { after = v; runs = refl; same = same_refl saved v; holds = λ names agree. tt }
saved_done s h env root saved x (Some e) args fits ps v w value = record { after = v; runs = refl; same = same_refl saved v; holds = λ names agree. tt }

-- ---- the law

-- words that are the same stay so where a result is set
same_result : (base : ℕ) (x : Option Name) (k : ℕ) (v u : Values) → Same base v u
    → Same base (record { names = set_result v.names x k; slots = v.slots }) (record { names = set_result u.names x k; slots = u.slots })
same_result base None k v u s = s
same_result base (Some x) k v u s = record { names = λ y low. by_name y low (name_eq y x); slots = s.slots }
  where
    by_name : (y : Name) → Below base y → (b : Bool) → (if b then k else v.names y) ≡ (if b then k else u.names y)
    by_name y low true = refl
    by_name y low false = s.names y low

-- the same before any instruction
record OpSaved (s : Setting) (h : Here) (env : Env) (saved : ℕ) (o : Op) (ps : List Poisoned) (v : Values) (w : World) : Type 0 where
  pub after : Values
  pub runs : do_tasks s h (save_tasks s.func saved o (tracked env h.root (operands o))) v w ≡ Went after w
  pub same : Same saved v after
  pub holds : (names : Name → ℕ) → ((x : Name) → Below (saved + saves s.func o) x → after.names x ≡ names x) → Saved s.func saved o ps w names

op_saved : (s : Setting) (h : Here) (env : Env) (size saved : ℕ) (values : Name → Poisoned) (x : Option Name) (o : Op) → IsBuilt s.func x o → KnownOperands env size (operands o) → (v : Values) (w : World)
    → Own values v.names → OpSaved s h env saved o (read_all (read_poisoned s values) (operands o) h.root) v w
op_saved s h env size saved values x (op.Call ret callee args) built known v w own =
    let r = saved_done s h env h.root saved x (external_named s.func callee) args built.0 (read_all (read_poisoned s values) args h.root) v w (value_at s env size values v.names own args h.root known 0) in
    record { after = r.after; runs = r.runs; same = r.same; holds = r.holds }
op_saved s h env size saved values x _ built known v w own = record { after = v; runs = refl; same = same_refl saved v; holds = λ names agree. tt }

module _ (s : Setting) (env : Env) (size saved : ℕ) (h : Here) (i : Inst) (values : Name → Poisoned) (v : Values) (w : World)
    (st : Stands s env size saved h i) (m : Matches env values v.names) where
  -- the first number of a temporary
  abbrev base : ℕ
  base = start (given_of s) i saved

  -- the list ends where its tasks end, and else goes on as they do
  ended : (e : End) (z : World) → do_tasks s h (before_tasks (given_of s) env h i saved) v w ≡ Over e z → run_marked s h (before_code s env h i saved) v w ≡ Over e z
  ended e z f =
      let t = tasks_run s h base (before_tasks (given_of s) env h i saved) (before_low s env size saved h i st) base (omega arith) v v w (same_refl base v) in
      over_inv base e z (run_marked s h (before_code s env h i saved) v w) (subst (λ q. Reaches base q (run_marked s h (before_code s env h i saved) v w)) f t)

  went : (after : Values) (z : World) → do_tasks s h (before_tasks (given_of s) env h i saved) v w ≡ Went after z
      → (u : Values) × (run_marked s h (before_code s env h i saved) v w ≡ Went u z) × Same base after u
  went after z f =
      let t = tasks_run s h base (before_tasks (given_of s) env h i saved) (before_low s env size saved h i st) base (omega arith) v v w (same_refl base v) in
      went_inv base after z (run_marked s h (before_code s env h i saved) v w) (subst (λ q. Reaches base q (run_marked s h (before_code s env h i saved) v w)) f t)

  -- the checks passed, with the slots filled
  passed : (v1 : Values) → v1.names ≡ v.names → Handed s.func h.main i.op (words_at s values h i) v1.slots → (w1 : World) → checked_at s values h i w ≡ Does w1
      → do_tasks s h (before_tasks (given_of s) env h i saved) v w
      ≡ do_tasks s h (result_tasks s.func env i.result i.op (tracked env h.root (operands i.op)) ++ save_tasks s.func saved i.op (tracked env h.root (operands i.op))) v1 (counted_at s values h i w1)
      → Defined s env h values v1 i.result i.op (result_tasks s.func env i.result i.op (tracked env h.root (operands i.op))) (counted_at s values h i w1)
      → BeforeLaw s env saved h i values v w
  passed v1 names_same handed w1 c f (Fails e inside run fails) = Failed e w1 (counted_at s values h i w1) inside (ended e (counted_at s values h i w1) (f ∙ do_over s h (result_tasks s.func env i.result i.op (tracked env h.root (operands i.op))) (save_tasks s.func saved i.op (tracked env h.root (operands i.op))) v1 (counted_at s values h i w1) (counted_at s values h i w1) e run)) c fails
  passed v1 names_same handed w1 c f (Fine after run slots kept gives answers does) =
      let z = counted_at s values h i w1 in
      let own1 : Own values after.names = λ y o. kept y o ∙ ap (λ n. n y) names_same ∙ m.value y o in
      let sv = op_saved s h env size saved values i.result i.op st.known.built st.known.reads after z own1 in
      let r = went sv.after z (f ∙ do_went s h (result_tasks s.func env i.result i.op (tracked env h.root (operands i.op))) (save_tasks s.func saved i.op (tracked env h.root (operands i.op))) v1 after z z run ∙ sv.runs) in
      let low = numbers_low env size saved st.few st.room in
      let all : Same saved after r.0 = record { names = λ y l. sv.same.names y l ∙ r.2.names y (below_more saved base (omega arith) y l); slots = sv.same.slots ∙ r.2.slots } in
      let own : Own values r.0.names = λ y o. sym (all.names y (own_below saved y o)) ∙ own1 y o in
      Due r.0 w1 r.1 c (subst (Handed s.func h.main i.op (words_at s values h i)) (sym slots ∙ all.slots) handed)
      (sv.holds r.0.names (λ y l. r.2.names y l))
      (words_known s env size values r.0.names own (operands i.op) h.root st.known.reads)
      (λ x z e.
      matches_same env saved low (after_result values i.result (poisoned_result by_formulas i.op (words_at s values h i) x z))
      (record { names = set_result after.names i.result x; slots = after.slots }) (record { names = set_result r.0.names i.result x; slots = r.0.slots })
      (gives x z e) (same_result saved i.result x after r.0 all))
      (λ outside x z.
      matches_same env saved low (after_result values i.result (poisoned_result by_formulas i.op (words_at s values h i) x z))
      (record { names = set_result after.names i.result x; slots = after.slots }) (record { names = set_result r.0.names i.result x; slots = r.0.slots })
      (answers outside x z) (same_result saved i.result x after r.0 all))
      (λ g. matches_same env saved low values after r.0 (does g) all)

-- the list before an instruction
pub before_law : (s : Setting) (env : Env) (size saved : ℕ) (h : Here) (i : Inst) (values : Name → Poisoned) (v : Values) (w : World)
    → Stands s env size saved h i → Matches env values v.names → RangedWorld w → RangedValues values
    → ((r : Name) (x : ℕ) (w1 w2 : World) → i.result ≡ Some r → env.clean r ≡ true → checked_at s values h i w ≡ Does w1
    → acted_at s values h i (counted_at s values h i w1) ≡ Gives x w2
    → (poisoned_result by_formulas i.op (words_at s values h i) x w2).mask ≡ 0)
    → BeforeLaw s env saved h i values v w
before_law s env size saved h i values v w st m rn rv sound = by_checks (checked_at s values h i w) refl (checks_left s h.site (operands i.op) (words_at s values h i) (uses s.func h.main i.op) w rn)
  where
    few : h.root + count_undefs (operands i.op) < 2 ^ 32
    few = few_undefs s env size saved h i st

    args_few : (o : Op) → IsBuilt s.func i.result o → (ret : Option Ty) (callee : Name) (args : List (Ty × Operand)) → o ≡ op.Call ret callee args → is_some (s.func callee) ≡ true → length args ≤ 100
    args_few o built ret callee args e own = (subst (IsBuilt s.func i.result) e built).1 own

    hand : HandDone s st.slots h v.names h.main i.op (tracked env h.root (operands i.op)) (words_at s values h i) v.slots
    hand = hand_done s st.slots h v.names h.main i.op (args_few i.op st.known.built) (tracked env h.root (operands i.op)) (words_at s values h i)
        (given_all s st.slots h v.names env size values m rv (operands i.op) h.root st.known.reads few) v.slots

    first : do_tasks s h (before_tasks (given_of s) env h i saved) v w ≡ check_on (checked_at s values h i w) (do_tasks s h (blind_tasks (blinded_of s.func i.op (tracked env h.root (operands i.op))) ++ (result_tasks s.func env i.result i.op (tracked env h.root (operands i.op)) ++ save_tasks s.func saved i.op (tracked env h.root (operands i.op)))) (let q : Values = record { names = v.names; slots = hand.after } in q))
    first =
        hand.runs (check_tasks h.site (tracked env h.root (operands i.op)) (uses s.func h.main i.op) ++ (blind_tasks (blinded_of s.func i.op (tracked env h.root (operands i.op))) ++ (result_tasks s.func env i.result i.op (tracked env h.root (operands i.op)) ++ save_tasks s.func saved i.op (tracked env h.root (operands i.op))))) w
        ∙ checks_done s h (let q : Values = record { names = v.names; slots = hand.after } in q) (tracked env h.root (operands i.op)) (operands i.op) (words_at s values h i) st.ranged.site
        (tracked_holds s env size values v.names m rv (operands i.op) h.root st.known.reads few)
        (tracked_ty env h.root (operands i.op)) (tracked_narrow env size h.root (operands i.op) st.known.reads)
        (uses s.func h.main i.op) (uses_fit env h.root s.func h.main i.result i.op st.known.built) (blind_tasks (blinded_of s.func i.op (tracked env h.root (operands i.op))) ++ (result_tasks s.func env i.result i.op (tracked env h.root (operands i.op)) ++ save_tasks s.func saved i.op (tracked env h.root (operands i.op)))) w

    counted : (w1 : World) → do_tasks s h (blind_tasks (blinded_of s.func i.op (tracked env h.root (operands i.op))) ++ (result_tasks s.func env i.result i.op (tracked env h.root (operands i.op)) ++ save_tasks s.func saved i.op (tracked env h.root (operands i.op)))) (let q : Values = record { names = v.names; slots = hand.after } in q) w1 ≡ do_tasks s h (result_tasks s.func env i.result i.op (tracked env h.root (operands i.op)) ++ save_tasks s.func saved i.op (tracked env h.root (operands i.op))) (let q : Values = record { names = v.names; slots = hand.after } in q) (counted_at s values h i w1)
    counted w1 =
        blind_done s h (let q : Values = record { names = v.names; slots = hand.after } in q) (blinded_of s.func i.op (tracked env h.root (operands i.op))) (blinded_of s.func i.op (words_at s values h i))
        (masks_blinded s v.names s.func i.op (tracked env h.root (operands i.op)) (words_at s values h i) (masks_hold s env size values v.names m (operands i.op) h.root st.known.reads)) (result_tasks s.func env i.result i.op (tracked env h.root (operands i.op)) ++ save_tasks s.func saved i.op (tracked env h.root (operands i.op))) w1
        ∙ ap (λ l. do_tasks s h (result_tasks s.func env i.result i.op (tracked env h.root (operands i.op)) ++ save_tasks s.func saved i.op (tracked env h.root (operands i.op))) (let q : Values = record { names = v.names; slots = hand.after } in q) (count_blind (union (map (λ p. p.mask) l)) w1)) (sym (blinded_same s.func i.op (words_at s values h i)))

    over : (e : Effect) → checked_at s values h i w ≡ e → do_tasks s h (before_tasks (given_of s) env h i saved) v w ≡ check_on e (do_tasks s h (blind_tasks (blinded_of s.func i.op (tracked env h.root (operands i.op))) ++ (result_tasks s.func env i.result i.op (tracked env h.root (operands i.op)) ++ save_tasks s.func saved i.op (tracked env h.root (operands i.op)))) (let q : Values = record { names = v.names; slots = hand.after } in q))
    over e f = first ∙ ap (λ z. check_on z (do_tasks s h (blind_tasks (blinded_of s.func i.op (tracked env h.root (operands i.op))) ++ (result_tasks s.func env i.result i.op (tracked env h.root (operands i.op)) ++ save_tasks s.func saved i.op (tracked env h.root (operands i.op)))) (let q : Values = record { names = v.names; slots = hand.after } in q))) f

    by_checks : (e : Effect) → checked_at s values h i w ≡ e → IsLeft (checked_at s values h i w) → BeforeLaw s env saved h i values v w
    by_checks (Ends e z) f l = Checked e z (ended s env size saved h i values v w st m e z (over (Ends e z) f)) f
    by_checks (Does w1) f l =
        passed s env size saved h i values v w st m (let q : Values = record { names = v.names; slots = hand.after } in q) refl hand.held w1 f
        (over (Does w1) f ∙ counted w1)
        (result_done s env size h values (let q : Values = record { names = v.names; slots = hand.after } in q) m rv st.one_name i.result i.op st.known.built st.known.named st.known.reads
        few (counted_at s values h i w1) (count_ranged _ w1 (subst IsLeft f l))
        (λ y k u e c g. sound y k w1 u e c f g))
    by_checks (Gives k z) f l = absurd (subst IsLeft f l)
    by_checks (Goes b z) f l = absurd (subst IsLeft f l)
    by_checks (Enters b z) f l = absurd (subst IsLeft f l)
    by_checks (Leaves z) f l = absurd (subst IsLeft f l)
