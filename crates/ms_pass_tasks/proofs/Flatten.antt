-- Inserted code does what its tasks say, whatever stands in the names of its temporaries.
use Rattle.std.proofs.Common.{◌≡◌, ℕ, ◌+◌, ◌%◌, ◌^◌, ◌<◌, ◌≤◌, List, [], ◌∷◌, ◌++◌, refl, sym, ap, ◌∙◌, subst, arith, Bool, true, false}
use Rattle.std.proofs.Math.Path.{fun_ext, ap₂}
use Rattle.std.proofs.Math.Nat.{zero-mod}
use Rattle.std.proofs.lemmas.List.{append_assoc}
use Rattle.std.specs.Prelude.{if◌then◌else◌, bit_or, Option, Some, None}
use Rattle.std.specs.Int.Bits.{or_zero_r}
use Rattle.ms_ir.specs.declared.syntax.Name.{Name}
use Rattle.ms_ir.specs.declared.syntax.Ty.{Ty, Int}
use Rattle.ms_ir.specs.declared.syntax.Operand.{Operand}
use Rattle.ms_ir.specs.declared.syntax.Operand.TheVariants as operand
use Rattle.ms_ir.specs.declared.syntax.Op.{Op}
use Rattle.ms_ir.specs.declared.syntax.Op.TheVariants as op
use Rattle.ms_ir.specs.declared.syntax.Inst.{Inst}
use Rattle.ms_runs.specs.declared.runs.End.{End}
use Rattle.ms_bits.specs.NoFlags.{no_flags}
use Rattle.ms_ir.specs.Layout.{width_of}
use Rattle.ms_ir.specs.Names.{name_eq}
use Rattle.ms_runs.specs.World.{World, Setting, Here, Effect, Gives, Does, Goes, Enters, Leaves, Ends}
use Rattle.ms_ir.specs.Instructions.{operands}
use Rattle.ms_runs.specs.Control.{with_value}
use Rattle.ms_runs.specs.Act.{operand_word}
use Rattle.ms_runs.specs.Plain.{slots_after, act_marked}
use Rattle.ms_pass_tasks.specs.Tasks.{msan_name, Or, Expr, Leaf, Two, Turn, Test, Pick, Task, Sets, Tries, Fetches, Puts, Calls, Flat, Last, Is, By, Half, inserted, binop_of, binary, close, half, flatten, flatten_all, parts, target, set_op, last_op, InsertedCode, plain_code, task_code, tasks_code}
use Rattle.ms_pass_tasks.specs.Meaning.{Values, Reach, Went, Over, set_result, marked_next, words_of, run_marked, evaluate, evaluate_all, task_effect, task_slots, do_tasks, Below, Same, Reaches, BelowOperand, BelowExpr, BelowExprs, BelowTask, BelowTasks, whole}
use Rattle.ms_pass_tasks.proofs.InsertedNames.{msan_below, below_more, with_here, with_other}
use Rattle.ms_pass_tasks.proofs.Effects.{arith_gives, cast_gives, test_gives, TakesWords, last_operands, last_slots, last_effect}

-- ---- stretches

-- goes on from where a stretch has come
abbrev pub reach_on : Reach → (Values → World → Reach) → Reach
reach_on (Went v w) go = go v w
reach_on (Over e w) go = Over e w

next_on : (x : Option Name) (names : Name → ℕ) (cells : ℕ → ℕ) (e : Effect) (f : Values → World → Reach) (g : Values → World → Reach) → marked_next x names cells e (λ v w. reach_on (f v w) g) ≡ reach_on (marked_next x names cells e f) g
next_on x names cells (Gives v w) f g = refl
next_on x names cells (Does w) f g = refl
next_on x names cells (Goes to w) f g = refl
next_on x names cells (Enters k w) f g = refl
next_on x names cells (Leaves w) f g = refl
next_on x names cells (Ends e w) f g = refl

module _ (s : Setting) (h : Here) where
  pub run_marked_append : (a b : List Inst) (v : Values) (w : World) → run_marked s h (a ++ b) v w ≡ reach_on (run_marked s h a v w) (run_marked s h b)
  run_marked_append [] b v w = refl
  run_marked_append (i ∷ a) b v w =
      let words = words_of s v.names (operands i.op) in
      let cells = slots_after i.op words v.slots in
      let e = act_marked s h i.op words v.slots w in
      ap (marked_next i.result v.names cells e) (fun_ext λ v. fun_ext λ w. run_marked_append a b v w)
      ∙ next_on i.result v.names cells e (run_marked s h a) (run_marked s h b)

  pub do_tasks_append : (a b : List Task) (v : Values) (w : World) → do_tasks s h (a ++ b) v w ≡ reach_on (do_tasks s h a v w) (do_tasks s h b)
  do_tasks_append [] b v w = refl
  do_tasks_append (t ∷ a) b v w =
      let words = evaluate_all s v.names (parts t) in
      let cells = task_slots t words v.slots in
      let e = task_effect s h v.names t words v.slots w in
      ap (marked_next (target t) v.names cells e) (fun_ext λ v. fun_ext λ w. do_tasks_append a b v w)
      ∙ next_on (target t) v.names cells e (do_tasks s h a) (do_tasks s h b)

-- ---- the same words below a number

pub same_refl : (base : ℕ) (v : Values) → Same base v v
same_refl base v = record { names = λ x b. refl; slots = refl }

pub same_trans : (base n : ℕ) (v v1 v2 : Values) → base ≤ n → Same base v v1 → Same n v1 v2 → Same base v v2
same_trans base n v v1 v2 le p q = record { names = λ x b. p.names x b ∙ q.names x (below_more base n le x b); slots = p.slots ∙ q.slots }

pub went_inv : (base : ℕ) (v : Values) (w : World) (r : Reach) → Reaches base (Went v w) r → (u : Values) × (r ≡ Went u w) × Same base v u
went_inv base v w (Went u z) q = (u, ap (λ x. Went u x) (sym q.0), q.1)
went_inv base v w (Over e z) q = absurd q

pub over_inv : (base : ℕ) (e : End) (w : World) (r : Reach) → Reaches base (Over e w) r → r ≡ Over e w
over_inv base e w (Went u z) q = absurd q
over_inv base e w (Over f z) q = ap₂ (λ x y. Over x y) (sym q.0) (sym q.1)

operand_more : (a b : ℕ) → a ≤ b → (o : Operand) → BelowOperand a o → BelowOperand b o
operand_more a b le (operand.Local x) q = below_more a b le x q
operand_more a b le _ q = tt

same_word : (s : Setting) (base : ℕ) (v u : Values) → Same base v u → (o : Operand) → BelowOperand base o → (width : ℕ) → operand_word s u.names width o ≡ operand_word s v.names width o
same_word s base v u q (operand.Local x) b width = ap (λ k. k % 2 ^ width) (sym (q.names x b))
same_word s base v u q _ b width = refl

-- a temporary gets a word
abbrev set_temporary : Values → ℕ → ℕ → Values
set_temporary v k x = record { names = with_value v.names (msan_name k) x; slots = v.slots }

same_temporary : (k : ℕ) (v : Values) (x : ℕ) → Same k v (set_temporary v k x)
same_temporary k v x = record { names = λ y b. sym (with_other v.names (msan_name k) y x (λ e. let less : k < k = b k e in omega (arith, less))); slots = refl }

module _ (s : Setting) (h : Here) where
  -- what the code of a word does, which has a value at each type
  record Runs (n : ℕ) (f : Flat) (value : Ty → ℕ) (u : Values) (w : World) : Type 0 where
    pub after : Values
    pub runs : (rest : List Inst) → run_marked s h (f.code ++ rest) u w ≡ run_marked s h rest after w
    pub kept : Same n u after
    pub holds : (t : Ty) → operand_word s after.names (width_of t) f.operand ≡ value t
    pub low : BelowOperand f.next f.operand
    pub more : n ≤ f.next

  -- the same for a list of words
  record RunAll (n : ℕ) (es : List (Ty × Expr)) (v u : Values) (w : World) : Type 0 where
    pub after : Values
    pub runs : (rest : List Inst) → run_marked s h ((flatten_all es n).code ++ rest) u w ≡ run_marked s h rest after w
    pub kept : Same n u after
    pub holds : words_of s after.names (flatten_all es n).operands ≡ evaluate_all s v.names es
    pub more : n ≤ (flatten_all es n).next

  -- what the parts of a word do: what is left is an operand that holds it, or an operation that gives it
  abbrev Gets : Last → (ℕ → Type 0) → (Ty → ℕ) → (Ty → ℕ) → Values → World → Type 0
  Gets (Is o) low value raw after w = ((t : Ty) → operand_word s after.names (width_of t) o ≡ value t) × ((t : Ty) → value t ≡ raw t)
  Gets (By o) low value raw after w =
      ((cells : ℕ → ℕ) → slots_after o (words_of s after.names (operands o)) cells ≡ cells)
      × ((t : Ty) (cells : ℕ → ℕ) → act_marked s h o (words_of s after.names (operands o)) cells w ≡ Gives (raw t) w)
      × ((t : Ty) → value t ≡ raw t % 2 ^ width_of t)

  -- what is left of a word reads no name from a number on
  abbrev IsLow : ℕ → Last → Type 0
  IsLow n (Is o) = BelowOperand n o
  IsLow n (By o) = Unit {0}

  -- what the instructions of the parts of a word come to
  record HalfRuns (n : ℕ) (f : Half) (value raw : Ty → ℕ) (u : Values) (w : World) : Type 0 where
    pub after : Values
    pub runs : (rest : List Inst) → run_marked s h (f.code ++ rest) u w ≡ run_marked s h rest after w
    pub kept : Same n u after
    pub gets : Gets f.last (λ k. Unit {0}) value raw after w
    pub low : IsLow f.next f.last
    pub more : n ≤ f.next

  -- the instructions of a word come to its value, whatever stands in the names of temporaries
  abbrev CanRun : ℕ → Expr → Values → World → Type 0
  CanRun base e v w = (n : ℕ) (u : Values) → base ≤ n → Same base v u → Runs n (flatten e n) (evaluate s v.names e) u w

  -- the same of its parts
  abbrev CanRunHalf : ℕ → Expr → Values → World → Type 0
  CanRunHalf base e v w = (n : ℕ) (u : Values) → base ≤ n → Same base v u → HalfRuns n (half e n) (evaluate s v.names e) (whole s v.names e) u w

  -- the same of words
  abbrev CanRunAll : ℕ → List (Ty × Expr) → Values → World → Type 0
  CanRunAll base [] v w = Unit {0}
  CanRunAll base (e ∷ es) v w = CanRun base e.1 v w × CanRunAll base es v w

  -- words that stand stay
  words_kept : (n : ℕ) (v u : Values) → Same n v u → (o : Operand) → BelowOperand n o → (t : Ty) → operand_word s u.names (width_of t) o ≡ operand_word s v.names (width_of t) o
  words_kept n v u q o b t = same_word s n v u q o b (width_of t)

  all_run : (base : ℕ) (es : List (Ty × Expr)) (v : Values) (w : World) → CanRunAll base es v w → (n : ℕ) (u : Values) → base ≤ n → Same base v u → RunAll n es v u w
  all_run base [] v w can n u le q = record { after = u; runs = λ rest. refl; kept = same_refl n u; holds = refl; more = omega arith }
  all_run base (e ∷ es) v w can n u le q =
      let x = can.0 n u le q in
      let n1 = (flatten e.1 n).next in
      let y = all_run base es v w can.1 n1 x.after (omega (arith, x.more)) (same_trans base n v u x.after le q x.kept) in
      record {
        after = y.after;
        runs = λ rest. ap (λ l. run_marked s h l u w) (append_assoc (flatten e.1 n).code (flatten_all es n1).code rest) ∙ x.runs ((flatten_all es n1).code ++ rest) ∙ y.runs rest;
        kept = same_trans n n1 u x.after y.after x.more x.kept y.kept;
        holds = ap₂ (λ k ks. k ∷ ks) (words_kept n1 x.after y.after y.kept (flatten e.1 n).operand x.low e.0 ∙ x.holds e.0) y.holds;
        more = omega (arith, x.more, y.more);
      }

  -- what is left becomes an operand
  close_runs : (n : ℕ) (code : List Inst) (l : Last) (next : ℕ) (value raw : Ty → ℕ) (u : Values) (w : World)
      → HalfRuns n (record { code = code; last = l; next = next }) value raw u w → Runs n (close code l next) value u w
  close_runs n code (Is o) next value raw u w r = record { after = r.after; runs = r.runs; kept = r.kept; holds = r.gets.0; low = r.low; more = r.more }
  close_runs n code (By o) next value raw u w r = record {
    after = after;
    runs = λ rest. ap (λ l. run_marked s h l u w) (append_assoc code (i ∷ []) rest) ∙ r.runs (i ∷ rest) ∙ last rest;
    kept = same_trans n next u r.after after r.more r.kept (same_temporary next r.after x);
    holds = λ t. ap (λ z. z % 2 ^ width_of t) (with_here r.after.names (msan_name next) x ∙ x_is t) ∙ sym (r.gets.2 t);
    low = msan_below (next + 1) next (omega arith);
    more = omega (arith, r.more);
  }
    where
      i : Inst
      i = inserted (Some (msan_name next)) o

      x : ℕ
      x = raw (Int 0)

      after : Values
      after = set_temporary r.after next (raw (Int 0))

      gives_value : Effect → ℕ
      gives_value (Gives k z) = k
      gives_value _ = 0

      x_is : (t : Ty) → raw (Int 0) ≡ raw t
      x_is t = ap gives_value (sym (r.gets.1 (Int 0) r.after.slots) ∙ r.gets.1 t r.after.slots)

      last : (rest : List Inst) → run_marked s h (inserted (Some (msan_name next)) o ∷ rest) r.after w ≡ run_marked s h rest (set_temporary r.after next (raw (Int 0))) w
      last rest = ap₂ (λ c e. marked_next (Some (msan_name next)) r.after.names c e (run_marked s h rest)) (r.gets.0 r.after.slots) (r.gets.1 (Int 0) r.after.slots)

  expr_runs : (base : ℕ) (e : Expr) (v : Values) (w : World) → CanRunHalf base e v w → CanRun base e v w
  expr_runs base e v w can n u le q = close_runs n (half e n).code (half e n).last (half e n).next (evaluate s v.names e) (whole s v.names e) u w (can n u le q)

  -- an operation on words that stand
  made : (base n : ℕ) (es : List (Ty × Expr)) (o : Op) (raw value : Ty → ℕ) (code : List Inst) (v u : Values) (w : World) → RunAll n es v u w
      → ((rest : List Inst) → code ++ rest ≡ (flatten_all es n).code ++ rest)
      → operands o ≡ (flatten_all es n).operands
      → ((words : List ℕ) (cells : ℕ → ℕ) → slots_after o words cells ≡ cells)
      → ((t : Ty) (cells : ℕ → ℕ) → act_marked s h o (evaluate_all s v.names es) cells w ≡ Gives (raw t) w)
      → ((t : Ty) → value t ≡ raw t % 2 ^ width_of t)
      → HalfRuns n (record { code = code; last = By o; next = (flatten_all es n).next }) value raw u w
  made base n es o raw value code v u w r shape same_operands cells acts cut = record {
    after = r.after;
    runs = λ rest. ap (λ l. run_marked s h l u w) (shape rest) ∙ r.runs rest;
    kept = r.kept;
    gets = (λ c. cells (words_of s r.after.names (operands o)) c, λ t c. ap (λ l. act_marked s h o l c w) words ∙ acts t c, cut);
    low = tt;
    more = r.more;
  }
    where
      words : words_of s r.after.names (operands o) ≡ evaluate_all s v.names es
      words = ap (words_of s r.after.names) same_operands ∙ r.holds

  shape1 : (x rest : List Inst) → x ++ rest ≡ (x ++ []) ++ rest
  shape1 [] rest = refl
  shape1 (i ∷ x) rest = ap (λ l. i ∷ l) (shape1 x rest)

  shape2 : (x y rest : List Inst) → (x ++ y) ++ rest ≡ (x ++ (y ++ [])) ++ rest
  shape2 [] y rest = shape1 y rest
  shape2 (i ∷ x) y rest = ap (λ l. i ∷ l) (shape2 x y rest)

  shape3 : (x y z rest : List Inst) → (x ++ (y ++ z)) ++ rest ≡ (x ++ (y ++ (z ++ []))) ++ rest
  shape3 [] y z rest = shape2 y z rest
  shape3 (i ∷ x) y z rest = ap (λ l. i ∷ l) (shape3 x y z rest)

  half_runs : (base : ℕ) (e : Expr) → BelowExpr base e → (v : Values) (w : World) → CanRunHalf base e v w
  half_runs base (Leaf o) low v w n u le q = record {
    after = u;
    runs = λ rest. refl;
    kept = same_refl n u;
    gets = (λ t. same_word s base v u q o low (width_of t), λ t. refl);
    low = operand_more base n le o low;
    more = omega arith;
  }
  half_runs base (Two o t a b) low v w n u le q =
      let es : List (Ty × Expr) = (t, a) ∷ (t, b) ∷ [] in
      let r = all_run base es v w (expr_runs base a v w (half_runs base a low.0 v w), (expr_runs base b v w (half_runs base b low.1 v w), tt)) n u le q in
      let x = flatten a n in let y = flatten b x.next in
      made base n es (binary (binop_of o) t x.operand y.operand) (whole s v.names (Two o t a b)) (evaluate s v.names (Two o t a b)) (half (Two o t a b) n).code v u w r
      (λ rest. shape2 x.code y.code rest) refl (λ words cells. refl)
      (λ k cells. arith_gives h.site o (width_of t) (evaluate s v.names a t) (evaluate s v.names b t) w) (λ k. refl)
  half_runs base (Turn o t a to) low v w n u le q =
      let es : List (Ty × Expr) = (t, a) ∷ [] in
      let r = all_run base es v w (expr_runs base a v w (half_runs base a low v w), tt) n u le q in
      let x = flatten a n in
      made base n es (op.Cast o no_flags t x.operand to) (whole s v.names (Turn o t a to)) (evaluate s v.names (Turn o t a to)) (half (Turn o t a to) n).code v u w r
      (λ rest. shape1 x.code rest) refl (λ words cells. refl)
      (λ k cells. cast_gives h.site o (width_of t) (evaluate s v.names a t) (width_of to) w) (λ k. refl)
  half_runs base (Test p t a b) low v w n u le q =
      let es : List (Ty × Expr) = (t, a) ∷ (t, b) ∷ [] in
      let r = all_run base es v w (expr_runs base a v w (half_runs base a low.0 v w), (expr_runs base b v w (half_runs base b low.1 v w), tt)) n u le q in
      let x = flatten a n in let y = flatten b x.next in
      made base n es (op.Icmp p no_flags t x.operand y.operand) (whole s v.names (Test p t a b)) (evaluate s v.names (Test p t a b)) (half (Test p t a b) n).code v u w r
      (λ rest. shape2 x.code y.code rest) refl (λ words cells. refl)
      (λ k cells. test_gives h.site p (width_of t) (evaluate s v.names a t) (evaluate s v.names b t) w) (λ k. refl)
  half_runs base (Pick c t a b) low v w n u le q =
      let es : List (Ty × Expr) = (Int 1, c) ∷ (t, a) ∷ (t, b) ∷ [] in
      let r = all_run base es v w
      (expr_runs base c v w (half_runs base c low.0 v w), (expr_runs base a v w (half_runs base a low.1 v w), (expr_runs base b v w (half_runs base b low.2 v w), tt))) n u le q in
      let z = flatten c n in let x = flatten a z.next in let y = flatten b x.next in
      made base n es (op.Select z.operand t x.operand y.operand) (whole s v.names (Pick c t a b)) (evaluate s v.names (Pick c t a b)) (half (Pick c t a b) n).code v u w r
      (λ rest. shape3 z.code x.code y.code rest) refl (λ words cells. refl) (λ k cells. refl) (λ k. refl)

  can_run_all : (base : ℕ) (es : List (Ty × Expr)) → BelowExprs base es → (v : Values) (w : World) → CanRunAll base es v w
  can_run_all base [] low v w = tt
  can_run_all base (e ∷ es) low v w = (expr_runs base e.1 v w (half_runs base e.1 low.0 v w), can_run_all base es low.1 v w)

  -- ---- tasks

  -- what a task's code does: its effect, from the same words
  record CodeRuns (base n : ℕ) (c : InsertedCode) (t : Task) (v u : Values) (w : World) : Type 0 where
    pub after : Values
    pub kept : Same base v after
    pub more : n ≤ c.next
    pub runs : (rest : List Inst)
        → run_marked s h (c.code ++ rest) u w
        ≡ marked_next (target t) after.names (task_slots t (evaluate_all s v.names (parts t)) v.slots) (task_effect s h v.names t (evaluate_all s v.names (parts t)) v.slots w) (run_marked s h rest)

  -- the instructions of a task come to what the task does
  abbrev TaskRuns : ℕ → ℕ → Task → Values → Values → World → Type 0
  TaskRuns base n t v u w = CodeRuns base n (task_code t n) t v u w

  plain_runs : (base : ℕ) (t : Task) → TakesWords t → BelowExprs base (parts t) → (n : ℕ) → base ≤ n → (v u : Values) (w : World) → Same base v u → CodeRuns base n (plain_code t n) t v u w
  plain_runs base t takes low n le v u w q = record {
    after = r.after;
    kept = kept;
    more = r.more;
    runs = λ rest. ap (λ l. run_marked s h l u w) (append_assoc (flatten_all (parts t) n).code (inserted (target t) o ∷ []) rest) ∙ r.runs (inserted (target t) o ∷ rest) ∙ last rest;
  }
    where
      o : Op
      o = last_op t (flatten_all (parts t) n).operands

      r : RunAll n (parts t) v u w
      r = all_run base (parts t) v w (can_run_all base (parts t) low v w) n u le q

      kept : Same base v r.after
      kept = same_trans base n v u r.after le q r.kept

      words : words_of s r.after.names (operands o) ≡ evaluate_all s v.names (parts t)
      words = ap (words_of s r.after.names) (last_operands t takes n) ∙ r.holds

      last : (rest : List Inst)
          → run_marked s h (inserted (target t) o ∷ rest) r.after w
          ≡ marked_next (target t) r.after.names (task_slots t (evaluate_all s v.names (parts t)) v.slots) (task_effect s h v.names t (evaluate_all s v.names (parts t)) v.slots w) (run_marked s h rest)
      last rest = ap₂ (λ c e. marked_next (target t) r.after.names c e (run_marked s h rest))
          (ap₂ (λ l c. slots_after o l c) words (sym kept.slots) ∙ last_slots t (flatten_all (parts t) n).operands (evaluate_all s v.names (parts t)) v.slots)
          (ap₂ (λ l c. act_marked s h o l c w) words (sym kept.slots) ∙ last_effect s h v.names t takes (flatten_all (parts t) n).operands (evaluate_all s v.names (parts t)) v.slots w)

  -- what is left of a word is put under a name
  set_runs : (base n : ℕ) (x : Name) (t : Ty) (e : Expr) → base ≤ n → (v u : Values) (w : World) → Same base v u → HalfRuns n (half e n) (evaluate s v.names e) (whole s v.names e) u w
      → TaskRuns base n (Sets x t e) v u w
  set_runs base n x t e le v u w q r = record {
    after = r.after;
    kept = same_trans base n v u r.after le q r.kept;
    more = r.more;
    runs = λ rest. ap (λ l. run_marked s h l u w) (append_assoc (half e n).code (inserted (Some x) (set_op t (half e n).last) ∷ []) rest)
        ∙ r.runs (inserted (Some x) (set_op t (half e n).last) ∷ rest)
        ∙ ap₂ (λ c z. marked_next (Some x) r.after.names c z (run_marked s h rest))
        (by_slots (half e n).last r.gets ∙ sym (same_trans base n v u r.after le q r.kept).slots) (by_last (half e n).last r.gets);
  }
    where
      by_slots : (l : Last) → Gets l (λ k. Unit {0}) (evaluate s v.names e) (whole s v.names e) r.after w
          → slots_after (set_op t l) (words_of s r.after.names (operands (set_op t l))) r.after.slots ≡ r.after.slots
      by_slots (Is o) g = refl
      by_slots (By o) g = g.0 r.after.slots

      by_last : (l : Last) → Gets l (λ k. Unit {0}) (evaluate s v.names e) (whole s v.names e) r.after w
          → act_marked s h (set_op t l) (words_of s r.after.names (operands (set_op t l))) r.after.slots w ≡ Gives (whole s v.names e t) w
      by_last (Is o) g =
          let a = operand_word s r.after.names (width_of t) o in
          arith_gives h.site Or (width_of t) a (0 % 2 ^ width_of t) w
          ∙ ap (λ z. Gives z w) (ap (bit_or a) (zero-mod (2 ^ width_of t)) ∙ or_zero_r a ∙ g.0 t ∙ g.1 t)
      by_last (By o) g = g.1 t r.after.slots

  task_runs : (base : ℕ) (t : Task) → BelowTask base t → (n : ℕ) → base ≤ n → (v u : Values) (w : World) → Same base v u → TaskRuns base n t v u w
  task_runs base (Sets x t e) low n le v u w q = set_runs base n x t e le v u w q (half_runs base e low v w n u le q)
  task_runs base (Tries x o t a b) low n le v u w q = plain_runs base (Tries x o t a b) tt low n le v u w q
  task_runs base (Fetches x t a) low n le v u w q = plain_runs base (Fetches x t a) tt low n le v u w q
  task_runs base (Puts t a b) low n le v u w q = plain_runs base (Puts t a b) tt low n le v u w q
  task_runs base (Calls x f args) low n le v u w q = plain_runs base (Calls x f args) tt low n le v u w q

  same_set : (base : ℕ) (x : Option Name) (k : ℕ) (c : ℕ → ℕ) (v u : Values) → Same base v u → Same base (record { names = set_result v.names x k; slots = c }) (record { names = set_result u.names x k; slots = c })
  same_set base None k c v u q = record { names = q.names; slots = refl }
  same_set base (Some x) k c v u q = record { names = λ y b. by_test y b (name_eq y x); slots = refl }
    where
      by_test : (y : Name) → Below base y → (b : Bool) → (if b then k else v.names y) ≡ (if b then k else u.names y)
      by_test y b true = refl
      by_test y b false = q.names y b

  next_reaches : (base : ℕ) (x : Option Name) (c : ℕ → ℕ) (v u : Values) (e : Effect) (f : Values → World → Reach) (g : Values → World → Reach) → Same base v u
      → ((v1 u1 : Values) (w1 : World) → Same base v1 u1 → Reaches base (f v1 w1) (g u1 w1))
      → Reaches base (marked_next x v.names c e f) (marked_next x u.names c e g)
  next_reaches base x c v u (Gives k w) f g q go = go _ _ w (same_set base x k c v u q)
  next_reaches base x c v u (Does w) f g q go = go (record { names = v.names; slots = c }) (record { names = u.names; slots = c }) w (record { names = q.names; slots = refl })
  next_reaches base x c v u (Goes to w) f g q go = (refl, refl)
  next_reaches base x c v u (Enters k w) f g q go = (refl, refl)
  next_reaches base x c v u (Leaves w) f g q go = (refl, refl)
  next_reaches base x c v u (Ends e w) f g q go = (refl, refl)

  pub tasks_run : (base : ℕ) (ts : List Task) → BelowTasks base ts → (n : ℕ) → base ≤ n → (v u : Values) (w : World) → Same base v u → Reaches base (do_tasks s h ts v w) (run_marked s h (tasks_code ts n).code u w)
  tasks_run base [] low n le v u w q = (refl, q)
  tasks_run base (t ∷ ts) low n le v u w q =
      let r = task_runs base t low.1 n le v u w q in
      let n1 = (task_code t n).next in
      subst (Reaches base (do_tasks s h (t ∷ ts) v w)) (sym (r.runs (tasks_code ts n1).code))
      (next_reaches base (target t) (task_slots t (evaluate_all s v.names (parts t)) v.slots) v r.after (task_effect s h v.names t (evaluate_all s v.names (parts t)) v.slots w) (do_tasks s h ts) (run_marked s h (tasks_code ts n1).code) r.kept
      (λ v1 u1 w1 q1. tasks_run base ts low.2 n1 (omega (arith, r.more)) v1 u1 w1 q1))
