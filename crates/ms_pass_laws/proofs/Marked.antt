-- Inserted instructions: they are marked, they go on to the next one, and a stretch of them within a step.
use Rattle.std.proofs.Common.{◌≡◌, ℕ, ◌+◌, List, [], ◌∷◌, ◌++◌, length, Bool, true, false, Option, Some, None, Result, Ok, Err, inl, inr, refl, ap, ◌∙◌, arith}
use Rattle.std.specs.Prelude.{bit_xor, if◌then◌else◌, eqb, leb, ◌⊎◌}
use Rattle.std.proofs.Math.Path.{ap₂}
use Rattle.ms_bits.specs.declared.traps.Trap.{Trap}
use Rattle.ms_ir.specs.declared.syntax.Name.{Name}
use Rattle.ms_ir.specs.declared.syntax.Ty.{Ty}
use Rattle.ms_ir.specs.declared.syntax.Operand.{Operand}
use Rattle.ms_ir.specs.declared.syntax.Op.{Op}
use Rattle.ms_ir.specs.declared.syntax.Op.TheVariants as op
use Rattle.ms_ir.specs.declared.syntax.Inst.{Inst}
use Rattle.ms_ir.specs.declared.syntax.Module.{Module}
use Rattle.ms_ir.specs.declared.calls.RuntimeFn.{RuntimeFn}
use Rattle.ms_ir.specs.declared.calls.RuntimeFn.TheVariants as function
use Rattle.ms_runs.specs.declared.runs.Report.{Report}
use Rattle.ms_runs.specs.declared.runs.End.TheVariants as «end»
use Rattle.ms_bits.specs.Maps.{first_nonzero}
use Rattle.ms_ir.specs.Names.{lookup, runtime_functions, slots}
use Rattle.ms_ir.specs.Layout.{width_of, stored_size}
use Rattle.ms_runs.specs.World.{World, Setting, Here, Effect, Gives, Does, Goes, Enters, Leaves, Ends, stuck, word, gives}
use Rattle.ms_runs.specs.Origins.{trail, is_hidden, add_report, check, check_byte, check_memory, check_string, asks_string_at, check_format}
use Rattle.ms_runs.specs.Memory.{is_good}
use Rattle.ms_ir.specs.Instructions.{operands, is_phi}
use Rattle.ms_runs.specs.Act.{act, operand_word, plain_reading}
use Rattle.ms_runs.specs.Runtime.{runtime}
use Rattle.ms_runs.specs.Control.{Frame, here, rest_of, read_all, local_block, keeping, after_effect}
use Rattle.ms_runs.specs.Plain.{PlainState, Stepped, More, Stop, and_then, plain_state, shadow_bits, in_slots, slots_after, act_marked, through}
use Rattle.ms_pass_tasks.specs.Tasks.{Expr, Leaf, Two, Turn, Test, Pick, Task, Sets, Tries, Fetches, Puts, Calls, Last, Is, By, close, half, set_op, flatten, flatten_all, parts, task_code, tasks_code}
use Rattle.ms_pass_tasks.specs.Meaning.{Values, Reach, Went, Over, set_result, marked_next, words_of, run_marked, AllMarked}
use Rattle.ms_pass_tasks.specs.InstructionLaw.{given_of}
use Rattle.ms_pass_tasks.specs.PassLists.{next_here}
use Rattle.ms_runs.proofs.HeapBlocks.{keeps_none}
use Rattle.ms_pass_laws.specs.Law.{MakesNoBlock}
use Rattle.ms_pass_laws.proofs.Places.{frame_at, drop_step, put_plain, here_step, marked_here}

-- ---- what is inserted

-- an operation that inserted code uses
abbrev pub is_inserted : Op → Bool
is_inserted (op.Binary o flags t a b) = true
is_inserted (op.Icmp p flags t a b) = true
is_inserted (op.Cast o flags t a u) = true
is_inserted (op.Select c t a b) = true
is_inserted (op.Load t a) = true
is_inserted (op.Store t v a) = true
is_inserted (op.Call ret callee args) = true
is_inserted _ = false

-- all instructions are inserted ones
abbrev pub AllInserted : List Inst → Type 0
AllInserted [] = Unit {0}
AllInserted (i ∷ is) = (i.marked ≡ true) × (is_inserted i.op ≡ true) × AllInserted is

no_phi : (o : Op) → is_inserted o ≡ true → is_phi o ≡ false
no_phi (op.Phi t edges) e = grind arith
no_phi _ e = refl

pub inserted_marked : (is : List Inst) → AllInserted is → AllMarked is
inserted_marked [] h = tt
inserted_marked (i ∷ is) h = (h.0, no_phi i.op h.1, inserted_marked is h.2)

no_room : (o : Op) → is_inserted o ≡ true → (v : ℕ) → local_block o v ≡ []
no_room (op.Alloca t u c) e v = absurd (grind arith)
no_room _ e v = refl

pub inserted_no_block : (is : List Inst) → AllInserted is → MakesNoBlock is
inserted_no_block [] h = tt
inserted_no_block (i ∷ is) h = (no_room i.op h.1, inserted_no_block is h.2)

pub inserted_append : (a b : List Inst) → AllInserted a → AllInserted b → AllInserted (a ++ b)
inserted_append [] b h g = g
inserted_append (i ∷ a) b h g = (h.0, h.1, inserted_append a b h.2 g)

-- what is left of a word is an operand or an inserted operation
abbrev InsertedLast : Last → Type 0
InsertedLast (Is o) = Unit {0}
InsertedLast (By o) = is_inserted o ≡ true

close_inserted : (code : List Inst) (l : Last) (n : ℕ) → AllInserted code → InsertedLast l → AllInserted (close code l n).code
close_inserted code (Is o) n h g = h
close_inserted code (By o) n h g = inserted_append code _ h (refl, g, tt)

last_half : (e : Expr) (n : ℕ) → InsertedLast (half e n).last
last_half (Leaf o) n = tt
last_half (Two o t a b) n = refl
last_half (Turn o t a u) n = refl
last_half (Test p t a b) n = refl
last_half (Pick c t a b) n = refl

half_inserted : (e : Expr) (n : ℕ) → AllInserted (half e n).code
half_inserted (Leaf o) n = tt
half_inserted (Two o t a b) n =
    inserted_append _ _ (close_inserted (half a n).code (half a n).last (half a n).next (half_inserted a n) (last_half a n))
    (close_inserted (half b (flatten a n).next).code (half b (flatten a n).next).last (half b (flatten a n).next).next (half_inserted b (flatten a n).next) (last_half b (flatten a n).next))
half_inserted (Turn o t a u) n = close_inserted (half a n).code (half a n).last (half a n).next (half_inserted a n) (last_half a n)
half_inserted (Test p t a b) n =
    inserted_append _ _ (close_inserted (half a n).code (half a n).last (half a n).next (half_inserted a n) (last_half a n))
    (close_inserted (half b (flatten a n).next).code (half b (flatten a n).next).last (half b (flatten a n).next).next (half_inserted b (flatten a n).next) (last_half b (flatten a n).next))
half_inserted (Pick c t a b) n =
    let z = flatten c n in let x = flatten a z.next in
    inserted_append _ _ (close_inserted (half c n).code (half c n).last (half c n).next (half_inserted c n) (last_half c n))
    (inserted_append _ _ (close_inserted (half a z.next).code (half a z.next).last (half a z.next).next (half_inserted a z.next) (last_half a z.next))
    (close_inserted (half b x.next).code (half b x.next).last (half b x.next).next (half_inserted b x.next) (last_half b x.next)))

flatten_inserted : (e : Expr) (n : ℕ) → AllInserted (flatten e n).code
flatten_inserted e n = close_inserted (half e n).code (half e n).last (half e n).next (half_inserted e n) (last_half e n)

all_inserted : (es : List (Ty × Expr)) (n : ℕ) → AllInserted (flatten_all es n).code
all_inserted [] n = tt
all_inserted (e ∷ es) n = inserted_append _ _ (flatten_inserted e.1 n) (all_inserted es (flatten e.1 n).next)

set_inserted : (t : Ty) (l : Last) → InsertedLast l → is_inserted (set_op t l) ≡ true
set_inserted t (Is o) g = refl
set_inserted t (By o) g = g

task_inserted : (t : Task) (n : ℕ) → AllInserted (task_code t n).code
task_inserted (Sets x t e) n = inserted_append _ _ (half_inserted e n) (refl, set_inserted t (half e n).last (last_half e n), tt)
task_inserted (Tries x o t a b) n = inserted_append _ _ (all_inserted (parts (Tries x o t a b)) n) (refl, refl, tt)
task_inserted (Fetches x t a) n = inserted_append _ _ (all_inserted (parts (Fetches x t a)) n) (refl, refl, tt)
task_inserted (Puts t a b) n = inserted_append _ _ (all_inserted (parts (Puts t a b)) n) (refl, refl, tt)
task_inserted (Calls x f args) n = inserted_append _ _ (all_inserted (parts (Calls x f args)) n) (refl, refl, tt)

pub tasks_inserted : (ts : List Task) (n : ℕ) → AllInserted (tasks_code ts n).code
tasks_inserted [] n = tt
tasks_inserted (t ∷ ts) n = inserted_append _ _ (task_inserted t n) (tasks_inserted ts (task_code t n).next)

-- ---- what an inserted instruction comes to

-- an effect that leaves the frame where it is, or ends the run
abbrev pub IsQuiet : Effect → Type 0
IsQuiet (Gives v w) = Unit {0}
IsQuiet (Does w) = Unit {0}
IsQuiet (Ends e w) = Unit {0}
IsQuiet (Goes to w) = ⊥
IsQuiet (Enters f w) = ⊥
IsQuiet (Leaves w) = ⊥

-- two tests with quiet effects
either_quiet : (b c : Bool) (e f g : Effect) → IsQuiet e → IsQuiet f → IsQuiet g → IsQuiet (if b then e else (if c then f else g))
either_quiet true c e f g h k l = h
either_quiet false true e f g h k l = k
either_quiet false false e f g h k l = l

pub gives_quiet : (site : ℕ) (r : Result ℕ Trap) (w : World) → IsQuiet (gives site r w)
gives_quiet site (Ok v) w = tt
gives_quiet site (Err t) w = tt

report_quiet : (s : Setting) (r : Report) (w : World) → IsQuiet (add_report s r w)
report_quiet s r w = by_tests (is_hidden s r w) (leb s.limit (length (w.reports ++ r ∷ [])))
  where
    by_tests : (h b : Bool)
        → IsQuiet (if h then Does w else if b then Ends «end».Reported (record w { reports = w.reports ++ r ∷ [] }) else Does (record w { reports = w.reports ++ r ∷ [] }))
    by_tests true b = tt
    by_tests false true = tt
    by_tests false false = tt

check_quiet : (s : Setting) (mask width origin kind part site : ℕ) (w : World) → IsQuiet (check s mask width origin kind part site w)
check_quiet s mask width origin kind part site w = by_mask (eqb mask 0)
  where
    by_mask : (b : Bool) → IsQuiet (if b then Does w else add_report s (record { site = site; kind = kind; part = part; width = width; mask = mask; origin = origin; chain = trail s w origin }) w)
    by_mask true = tt
    by_mask false = report_quiet s _ w

byte_quiet : (s : Setting) (kind site start : ℕ) (x : Option ℕ) (w : World) → IsQuiet (check_byte s kind site start x w)
byte_quiet s kind site start None w = tt
byte_quiet s kind site start (Some x) w = check_quiet s _ _ _ _ _ _ w

memory_quiet : (s : Setting) (a n kind site : ℕ) (w : World) → IsQuiet (check_memory s a n kind site w)
memory_quiet s a n kind site w = by_good (is_good w a n)
  where
    by_good : (b : Bool) → IsQuiet (if b then check_byte s kind site a (first_nonzero w.shadow a n) w else Does w)
    by_good true = byte_quiet s kind site a (first_nonzero w.shadow a n) w
    by_good false = tt

format_quiet : (s : Setting) (format index a site : ℕ) (w : World) → IsQuiet (check_format s format index a site w)
format_quiet s format index a site w = by_asked (asks_string_at w format index)
  where
    by_asked : (b : Bool) → IsQuiet (if b then check_string s a site w else Does w)
    by_asked true = byte_quiet s _ _ _ _ w
    by_asked false = tt

runtime_quiet : (s : Setting) (f : RuntimeFn) (words : List ℕ) (w : World) → IsQuiet (runtime s f words w)
runtime_quiet s function.Check words w = check_quiet s _ _ _ _ _ _ w
runtime_quiet s function.CheckMemory words w = memory_quiet s (word 0 words) (word 1 words) (word 2 words) (word 3 words) w
runtime_quiet s function.CheckString words w = byte_quiet s _ _ _ _ w
runtime_quiet s function.CheckFormat words w = format_quiet s (word 0 words) (word 1 words) (word 2 words) (word 3 words) w
runtime_quiet s function.Blind words w = tt
runtime_quiet s function.Poison words w = tt
runtime_quiet s function.Unpoison words w = tt
runtime_quiet s function.Copy words w = tt
runtime_quiet s function.Fill words w = tt
runtime_quiet s function.StoreOrigin words w = tt
runtime_quiet s function.LoadOrigin words w = tt
runtime_quiet s function.Size words w = tt
runtime_quiet s function.ThreadResult words w = tt
runtime_quiet s (function.Move k) words w = tt

called_quiet : (s : Setting) (f : Option RuntimeFn) (words : List ℕ) (w : World) → IsQuiet (elim f [ Some f ↦ runtime s f words w | None ↦ Ends stuck w ])
called_quiet s None words w = tt
called_quiet s (Some f) words w = runtime_quiet s f words w

pub inserted_quiet : (s : Setting) (h : Here) (o : Op) (words : List ℕ) (cells : ℕ → ℕ) (w : World) → is_inserted o ≡ true → IsQuiet (act_marked s h o words cells w)
inserted_quiet s h (op.Binary o flags t a b) words cells w e = gives_quiet h.site _ w
inserted_quiet s h (op.Icmp p flags t a b) words cells w e = gives_quiet h.site _ w
inserted_quiet s h (op.Cast o flags t a u) words cells w e = gives_quiet h.site _ w
inserted_quiet s h (op.Select c t a b) words cells w e = tt
inserted_quiet s h (op.Load t a) words cells w e =
    either_quiet (in_slots (word 0 words) (stored_size t) slots) (is_good w (bit_xor (word 0 words) shadow_bits) (stored_size t)) (Gives _ w) (Gives _ w) (Ends _ w) tt tt tt
inserted_quiet s h (op.Store t v a) words cells w e =
    either_quiet (in_slots (word 1 words) (stored_size t) slots) (is_good w (bit_xor (word 1 words) shadow_bits) (stored_size t)) (Does w) (Does _) (Ends _ w) tt tt tt
inserted_quiet s h (op.Call ret callee args) words cells w e = called_quiet s (lookup runtime_functions callee) words w
inserted_quiet s h (op.Freeze t a) words cells w e = grind arith
inserted_quiet s h (op.Phi t edges) words cells w e = grind arith
inserted_quiet s h (op.Alloca t u c) words cells w e = grind arith
inserted_quiet s h (op.Gep t a is) words cells w e = grind arith
inserted_quiet s h (op.Br to) words cells w e = grind arith
inserted_quiet s h (op.CondBr c to other) words cells w e = grind arith
inserted_quiet s h (op.Switch t v other cases) words cells w e = grind arith
inserted_quiet s h (op.Ret v) words cells w e = grind arith
inserted_quiet s h op.Unreachable words cells w e = grind arith

-- ---- a stretch of marked instructions within a step

-- goes on from where a stretch of marked instructions comes
abbrev pub reach_step : Reach → (Values → World → Stepped PlainState) → Stepped PlainState
reach_step (Went v w) go = go v w
reach_step (Over e w) go = Stop e w

-- a stretch of marked instructions does not end the run
abbrev pub GetsThrough : Reach → Type 0
GetsThrough (Went v w) = Unit {0}
GetsThrough (Over e w) = ⊥

-- the state with a frame above others
abbrev pub state_of : Frame ℕ → List (Frame ℕ) → (ℕ → ℕ) → World → PlainState
state_of g gs cells w = record { frames = g ∷ gs; slots = cells; world = w }

pub read_words : (s : Setting) (names : Name → ℕ) (os : List (Ty × Operand)) (root : ℕ) → read_all (plain_reading.read s names) os root ≡ words_of s names os
read_words s names [] root = refl
read_words s names (o ∷ os) root = ap (λ l. operand_word s names (width_of o.0) o.1 ∷ l) (read_words s names os _)

-- one instruction in a state, with or without a mark
abbrev inst_at : Setting → Module → Inst → List Inst → Here → List ℕ → Frame ℕ → List (Frame ℕ) → (ℕ → ℕ) → World → Bool → Stepped PlainState
inst_at s j i is h words g gs cells w k =
    and_then (plain_state (if k then slots_after i.op words cells else cells)
    (after_effect plain_reading s j h.site i.result words (λ v w. v) (λ v w. w) (keeping i.op (if k then act_marked s h i.op words cells w else act s h i.op words w) g) gs
    (if k then act_marked s h i.op words cells w else act s h i.op words w)))
    (if k then through s j is else More)

pub through_inst : (s : Setting) (j : Module) (i : Inst) (is : List Inst) (h : Here) (g : Frame ℕ) (gs : List (Frame ℕ)) (cells : ℕ → ℕ) (w : World) (k : Bool)
    → i.marked ≡ k → here s j g ≡ h → through s j (i ∷ is) (state_of g gs cells w) ≡ inst_at s j i is h (words_of s g.values (operands i.op)) g gs cells w k
through_inst s j i is h g gs cells w k e f =
    ap₂ (λ x y. inst_at s j i is (here s j g) x g gs cells w y) (read_words s g.values (operands i.op) (here s j g).root) e
    ∙ ap (λ x. inst_at s j i is x (words_of s g.values (operands i.op)) g gs cells w k) f

-- from the first of the marked instructions on: more is what holds of those after it
marked_first : (s : Setting) (j : Module) (site : ℕ) (x : Option Name) (words : List ℕ) (g : Frame ℕ) (gs : List (Frame ℕ)) (cells : ℕ → ℕ) (e : Effect)
    (go : PlainState → Stepped PlainState) (k : Values → World → Reach) (f : Values → World → Stepped PlainState) (rest : Type 0)
    → (IsQuiet e × rest) ⊎ GetsThrough (marked_next x g.values cells e k)
    → ((names : Name → ℕ) (w : World) → rest ⊎ GetsThrough (k (record { names = names; slots = cells }) w)
    → go (state_of (frame_at g (g.place + 1) names) gs cells w) ≡ reach_step (k (record { names = names; slots = cells }) w) f)
    → and_then (plain_state cells (after_effect plain_reading s j site x words (λ v w. v) (λ v w. w) g gs e)) go ≡ reach_step (marked_next x g.values cells e k) f
marked_first s j site x words g gs cells (Gives v w) go k f rest q h = ap (λ z. go (state_of z gs cells w)) (put_plain g x v) ∙ h (set_result g.values x v) w (fewer q)
  where
    fewer : {A B : Type 0} → (Unit {0} × A) ⊎ B → A ⊎ B
    fewer (inl a) = inl a.1
    fewer (inr b) = inr b
marked_first s j site x words g gs cells (Does w) go k f rest q h = h g.values w (fewer q)
  where
    fewer : {A B : Type 0} → (Unit {0} × A) ⊎ B → A ⊎ B
    fewer (inl a) = inl a.1
    fewer (inr b) = inr b
marked_first s j site x words g gs cells (Goes to w) go k f rest (inl q) h = absurd q.0
marked_first s j site x words g gs cells (Goes to w) go k f rest (inr q) h = absurd q
marked_first s j site x words g gs cells (Enters n w) go k f rest (inl q) h = absurd q.0
marked_first s j site x words g gs cells (Enters n w) go k f rest (inr q) h = absurd q
marked_first s j site x words g gs cells (Leaves w) go k f rest (inl q) h = absurd q.0
marked_first s j site x words g gs cells (Leaves w) go k f rest (inr q) h = absurd q
marked_first s j site x words g gs cells (Ends e w) go k f rest q h = refl

-- a stretch of marked instructions, where the way of going on takes each of them as a step does
pub marked_through : (s : Setting) (j : Module) (go : List Inst → PlainState → Stepped PlainState)
    → ((i : Inst) (is : List Inst) (h : Here) (g : Frame ℕ) (gs : List (Frame ℕ)) (cells : ℕ → ℕ) (w : World) → i.marked ≡ true → here s j g ≡ h → go (i ∷ is) (state_of g gs cells w)
    ≡ and_then (plain_state (slots_after i.op (words_of s g.values (operands i.op)) cells)
    (after_effect plain_reading s j h.site i.result (words_of s g.values (operands i.op)) (λ v w. v) (λ v w. w) (keeping i.op (act_marked s h i.op (words_of s g.values (operands i.op)) cells w) g) gs
    (act_marked s h i.op (words_of s g.values (operands i.op)) cells w))) (go is)) → (h : Here) (a b : List Inst) → AllMarked a → MakesNoBlock a → (g : Frame ℕ) (gs : List (Frame ℕ)) (cells : ℕ → ℕ) (w : World)
    → here s j g ≡ h → rest_of j g ≡ a ++ b → AllInserted a ⊎ GetsThrough (run_marked s h a (record { names = g.values; slots = cells }) w)
    → go (a ++ b) (state_of g gs cells w)
    ≡ reach_step (run_marked s h a (record { names = g.values; slots = cells }) w) (λ u z. go b (state_of (frame_at g (g.place + length a) u.names) gs u.slots z))
marked_through s j go each h [] b m blocks g gs cells w f r q = let p : g.place ≡ g.place + 0 = omega arith in ap (λ n. go b (state_of (frame_at g n g.values) gs cells w)) p
marked_through s j go each h (i ∷ a) b m blocks g gs cells w f r q =
    each i (a ++ b) h g gs cells w m.0 f
    ∙ ap (λ k. and_then (plain_state (slots_after i.op (words_of s g.values (operands i.op)) cells)
    (after_effect plain_reading s j h.site i.result (words_of s g.values (operands i.op)) (λ v w. v) (λ v w. w) k gs (act_marked s h i.op (words_of s g.values (operands i.op)) cells w))) (go (a ++ b)))
    (keeps_none i.op blocks.0 (act_marked s h i.op (words_of s g.values (operands i.op)) cells w) g)
    ∙ marked_first s j h.site i.result (words_of s g.values (operands i.op)) g gs (slots_after i.op (words_of s g.values (operands i.op)) cells)
    (act_marked s h i.op (words_of s g.values (operands i.op)) cells w) (go (a ++ b)) (run_marked s h a)
    (λ u z. go b (state_of (frame_at g (g.place + length (i ∷ a)) u.names) gs u.slots z)) (AllInserted a) (first q)
    (λ names z more.
    marked_through s j go each h a b m.2 blocks.1 (frame_at g (g.place + 1) names) gs (slots_after i.op (words_of s g.values (operands i.op)) cells) z
    (here_step s j g names i (a ++ b) r ∙ ap (λ x. next_here (given_of s) x i) f ∙ marked_here s h i m.0) (drop_step _ g.place i (a ++ b) r) more
    ∙ ap (λ n. reach_step (run_marked s h a (record { names = names; slots = slots_after i.op (words_of s g.values (operands i.op)) cells }) z) (λ u z. go b (state_of (frame_at g n u.names) gs u.slots z))) places)
  where
    places : g.place + 1 + length a ≡ g.place + length (i ∷ a)
    places = omega arith

    first : AllInserted (i ∷ a) ⊎ GetsThrough (run_marked s h (i ∷ a) (record { names = g.values; slots = cells }) w)
        → (IsQuiet (act_marked s h i.op (words_of s g.values (operands i.op)) cells w) × AllInserted a)
        ⊎ GetsThrough (run_marked s h (i ∷ a) (record { names = g.values; slots = cells }) w)
    first (inl all) = inl (inserted_quiet s h i.op _ cells w all.1, all.2)
    first (inr on) = inr on

pub through_marked : (s : Setting) (j : Module) (h : Here) (a b : List Inst) → AllMarked a → MakesNoBlock a → (g : Frame ℕ) (gs : List (Frame ℕ)) (cells : ℕ → ℕ) (w : World)
    → here s j g ≡ h → rest_of j g ≡ a ++ b → AllInserted a ⊎ GetsThrough (run_marked s h a (record { names = g.values; slots = cells }) w)
    → through s j (a ++ b) (state_of g gs cells w)
    ≡ reach_step (run_marked s h a (record { names = g.values; slots = cells }) w) (λ u z. through s j b (state_of (frame_at g (g.place + length a) u.names) gs u.slots z))
through_marked s j h a b = marked_through s j (through s j) (λ i is k g gs cells w m f. through_inst s j i is k g gs cells w true m f) h a b
