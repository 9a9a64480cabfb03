-- Tasks that fit become instructions that fit.
use Rattle.std.proofs.Common.{◌≡◌, ℕ, List, [], ◌∷◌, ◌++◌, true, Option, Some, None, refl, sym, ap, subst, ◌∙◌, arith, inl, inr, Bool}
use Rattle.std.specs.Prelude.{◌⊎◌, suc, ◌^◌, ◌&&◌, map, nat_lt, slice_get}
use Rattle.std.proofs.lemmas.Nat.{pow_pos}
use Rattle.std.proofs.lemmas.Bool.{lt-ltb}
use Rattle.ms_ir.specs.declared.syntax.Name.{Name}
use Rattle.ms_ir.specs.declared.syntax.Ty.{Ty, Int, Ptr, Array', Struct', Named}
use Rattle.ms_ir.specs.declared.syntax.Operand.{Operand}
use Rattle.ms_ir.specs.declared.syntax.Operand.TheVariants as operand
use Rattle.ms_ir.specs.declared.syntax.Op.{Op}
use Rattle.ms_ir.specs.declared.syntax.Inst.{Inst}
use Rattle.ms_ir.specs.Instructions.{operands}
use Rattle.ms_ir.specs.Written.{result_type}
use Rattle.ms_check_valid.specs.FormedCode.{number_formed}
use Rattle.ms_pass_tasks.specs.Tasks.{msan_name, Expr, Leaf, Two, Turn, Test, Pick, Task, Sets, Tries, Fetches, Puts, Calls, Last, Is, By, inserted, close, half, set_op, flatten, flatten_all, parts, target, last_op, task_code, tasks_code}
use Rattle.ms_pass_form_laws.proofs.Checked.{Allowed, IsInt, OperandFits, OperandsFit, OpFits, MayAsk, ResultFits, InstFits, grow, grows, Fits, Typed, AllTyped, target_type, TaskFits, sets, TasksFit}
use Rattle.std.proofs.lemmas.List.Folds.{list_all-append}
use Rattle.std.specs.List.{list_all}
use Rattle.std.proofs.Math.Path.{ap₂}

-- ---- tests of lists

pub both_all : {A : Type 0} (p : A → Bool) (a b : List A) → list_all p a ≡ true → list_all p b ≡ true → list_all p (a ++ b) ≡ true
both_all p a b q r = list_all-append p a b ∙ ap₂ (λ c d. c && d) q r

-- ---- what is known grows

pub grow_more : (K L : Name → Ty → Type 0) (i : Inst) → ((x : Name) (t : Ty) → K x t → L x t) → (x : Name) (t : Ty) → grow K i x t → grow L i x t
grow_more K L i h x t (inl k) = inl (h x t k)
grow_more K L i h x t (inr k) = inr k

pub grows_keep : (K : Name → Ty → Type 0) (is : List Inst) (x : Name) (t : Ty) → K x t → grows K is x t
grows_keep K [] x t k = k
grows_keep K (i ∷ is) x t k = grows_keep (grow K i) is x t (inl k)

pub grows_append : (K : Name → Ty → Type 0) (a b : List Inst) (x : Name) (t : Ty) → grows (grows K a) b x t → grows K (a ++ b) x t
grows_append K [] b x t k = k
grows_append K (i ∷ a) b x t k = grows_append (grow K i) a b x t k

-- a result with its type stands in a list
abbrev pub TypedIn : List Inst → Name → Ty → Type 0
TypedIn [] x u = ⊥
TypedIn (i ∷ is) x u = ((i.result ≡ Some x) × (result_type i.op ≡ Some u)) ⊎ TypedIn is x u

pub typed_left : (a b : List Inst) (x : Name) (u : Ty) → TypedIn a x u → TypedIn (a ++ b) x u
typed_left [] b x u p = absurd p
typed_left (i ∷ a) b x u (inl p) = inl p
typed_left (i ∷ a) b x u (inr p) = inr (typed_left a b x u p)

pub typed_right : (a b : List Inst) (x : Name) (u : Ty) → TypedIn b x u → TypedIn (a ++ b) x u
typed_right [] b x u p = p
typed_right (i ∷ a) b x u p = inr (typed_right a b x u p)

pub typed_at : (is : List Inst) (x : Name) (u : Ty) → TypedIn is x u
    → (k : ℕ) × (i : Inst) × (slice_get is k ≡ Some i) × (i.result ≡ Some x) × (result_type i.op ≡ Some u)
typed_at [] x u p = absurd p
typed_at (i ∷ is) x u (inl p) = (0, i, refl, p.0, p.1)
typed_at (i ∷ is) x u (inr p) = let r = typed_at is x u p in (suc r.0, r.1, r.2, r.3, r.4)

-- a task gives a name, with its type
abbrev pub Targets : List Task → Name → Ty → Type 0
Targets [] x u = ⊥
Targets (t ∷ ts) x u = ((target t ≡ Some x) × (target_type t ≡ Some u)) ⊎ Targets ts x u

pub targets_right : (a b : List Task) (x : Name) (u : Ty) → Targets b x u → Targets (a ++ b) x u
targets_right [] b x u p = p
targets_right (t ∷ a) b x u p = inr (targets_right a b x u p)

pub targets_left : (a b : List Task) (x : Name) (u : Ty) → Targets a x u → Targets (a ++ b) x u
targets_left [] b x u p = absurd p
targets_left (t ∷ a) b x u (inl p) = inl p
targets_left (t ∷ a) b x u (inr p) = inr (targets_left a b x u p)

module _ (C : Allowed) where
  pub operand_more : (K L : Name → Ty → Type 0) → ((x : Name) (t : Ty) → K x t → L x t) → (t : Ty) (o : Operand) → OperandFits K C t o → OperandFits L C t o
  operand_more K L h t (operand.Local x) p = h x t p
  operand_more K L h t (operand.Int k) p = p
  operand_more K L h t operand.Null p = p
  operand_more K L h t operand.Undef p = p
  operand_more K L h t operand.Poison p = p
  operand_more K L h t (operand.Global x) p = p
  operand_more K L h t (operand.Offset x steps) p = p

  pub operands_more : (K L : Name → Ty → Type 0) → ((x : Name) (t : Ty) → K x t → L x t) → (os : List (Ty × Operand)) → OperandsFit K C os → OperandsFit L C os
  operands_more K L h [] p = tt
  operands_more K L h (o ∷ os) p = (operand_more K L h o.0 o.1 p.0, operands_more K L h os p.1)

  pub inst_more : (K L : Name → Ty → Type 0) → ((x : Name) (t : Ty) → K x t → L x t) → (i : Inst) → InstFits K C i → InstFits L C i
  inst_more K L h i p = record { marked = p.marked; shaped = p.shaped; calls = p.calls; reads = operands_more K L h (operands i.op) p.reads; gives = p.gives }

  pub fits_more : (K L : Name → Ty → Type 0) → ((x : Name) (t : Ty) → K x t → L x t) → (is : List Inst) → Fits K C is → Fits L C is
  fits_more K L h [] p = tt
  fits_more K L h (i ∷ is) p = (inst_more K L h i p.0, fits_more (grow K i) (grow L i) (grow_more K L i h) is p.1)

  pub fits_append : (K : Name → Ty → Type 0) (a b : List Inst) → Fits K C a → Fits (grows K a) C b → Fits K C (a ++ b)
  fits_append K [] b p q = q
  fits_append K (i ∷ a) b p q = (p.0, fits_append (grow K i) a b p.1 q)

  pub typed_more : (K L : Name → Ty → Type 0) → ((x : Name) (t : Ty) → K x t → L x t) → (t : Ty) (e : Expr) → Typed K C t e → Typed L C t e
  typed_more K L h t (Leaf o) p = operand_more K L h t o p
  typed_more K L h t (Two o u a b) p = (p.0, p.1, typed_more K L h u a p.2, typed_more K L h u b p.3)
  typed_more K L h t (Turn o u a v) p = (p.0, p.1, typed_more K L h u a p.2)
  typed_more K L h t (Test q u a b) p = (p.0, p.1, typed_more K L h u a p.2, typed_more K L h u b p.3)
  typed_more K L h t (Pick c u a b) p = (p.0, p.1, typed_more K L h (Int 1) c p.2, typed_more K L h u a p.3, typed_more K L h u b p.4)

  pub all_more : (K L : Name → Ty → Type 0) → ((x : Name) (t : Ty) → K x t → L x t) → (es : List (Ty × Expr)) → AllTyped K C es → AllTyped L C es
  all_more K L h [] p = tt
  all_more K L h (e ∷ es) p = (typed_more K L h e.0 e.1 p.0, all_more K L h es p.1)

  -- ---- words

  abbrev LastFits : (Name → Ty → Type 0) → Ty → Last → Type 0
  LastFits L t (Is o) = OperandFits L C t o
  LastFits L t (By o) = (s : OpFits o) × OperandsFit L C (operands o) × (result_type o ≡ Some t) × MayAsk C o s

  -- an inserted instruction after others
  after : (K : Name → Ty → Type 0) (code : List Inst) (r : Option Name) (o : Op) → Fits K C code → (s : OpFits o) → MayAsk C o s → OperandsFit (grows K code) C (operands o)
      → ResultFits r (result_type o) → Fits K C (code ++ inserted r o ∷ [])
  after K code r o f s c reads g = fits_append K code (inserted r o ∷ []) f (record { marked = refl; shaped = s; calls = c; reads = reads; gives = g }, tt)

  close_fits : (K : Name → Ty → Type 0) (t : Ty) (code : List Inst) (l : Last) (n : ℕ) → Fits K C code → LastFits (grows K code) t l
      → Fits K C (close code l n).code × OperandFits (grows K (close code l n).code) C t (close code l n).operand
  close_fits K t code (Is o) n f l = (f, l)
  close_fits K t code (By o) n f l = (
    after K code (Some (msan_name n)) o f l.0 l.3 l.1 (subst (ResultFits (Some (msan_name n))) (sym l.2) (n, refl)),
    grows_append K code (inserted (Some (msan_name n)) o ∷ []) (msan_name n) t (inr (refl, l.2)),
  )

  -- two words in a row: what the first becomes is still there after the second
  first_still : (K : Name → Ty → Type 0) (a b : List Inst) (t : Ty) (o : Operand) → OperandFits (grows K a) C t o → OperandFits (grows K (a ++ b)) C t o
  first_still K a b t o p =
      operand_more (grows K a) (grows K (a ++ b)) (λ x u k. grows_append K a b x u (grows_keep (grows K a) b x u k)) t o p

  second_still : (K : Name → Ty → Type 0) (a b : List Inst) (t : Ty) (o : Operand) → OperandFits (grows (grows K a) b) C t o → OperandFits (grows K (a ++ b)) C t o
  second_still K a b t o p = operand_more (grows (grows K a) b) (grows K (a ++ b)) (grows_append K a b) t o p

  half_fits : (e : Expr) (K : Name → Ty → Type 0) (t : Ty) (n : ℕ) → Typed K C t e → Fits K C (half e n).code × LastFits (grows K (half e n).code) t (half e n).last
  half_fits (Leaf o) K t n p = (tt, p)
  half_fits (Two o u a b) K t n p =
      let x = flatten a n in let y = flatten b x.next in
      let ha = half_fits a K u n p.2 in
      let fa = close_fits K u (half a n).code (half a n).last (half a n).next ha.0 ha.1 in
      let hb = half_fits b (grows K x.code) u x.next (typed_more K (grows K x.code) (grows_keep K x.code) u b p.3) in
      let fb = close_fits (grows K x.code) u (half b x.next).code (half b x.next).last (half b x.next).next hb.0 hb.1 in (
        fits_append K x.code y.code fa.0 fb.0,
        ((refl, p.1), (first_still K x.code y.code u x.operand fa.1, (second_still K x.code y.code u y.operand fb.1, tt)), ap Some p.0, tt),
      )
  half_fits (Turn o u a v) K t n p =
      let ha = half_fits a K u n p.2 in
      let fa = close_fits K u (half a n).code (half a n).last (half a n).next ha.0 ha.1 in
      (fa.0, ((refl, p.1), (fa.1, tt), ap Some p.0, tt))
  half_fits (Test q u a b) K t n p =
      let x = flatten a n in let y = flatten b x.next in
      let ha = half_fits a K u n p.2 in
      let fa = close_fits K u (half a n).code (half a n).last (half a n).next ha.0 ha.1 in
      let hb = half_fits b (grows K x.code) u x.next (typed_more K (grows K x.code) (grows_keep K x.code) u b p.3) in
      let fb = close_fits (grows K x.code) u (half b x.next).code (half b x.next).last (half b x.next).next hb.0 hb.1 in (
        fits_append K x.code y.code fa.0 fb.0,
        ((refl, p.1), (first_still K x.code y.code u x.operand fa.1, (second_still K x.code y.code u y.operand fb.1, tt)), ap Some p.0, tt),
      )
  half_fits (Pick c u a b) K t n p =
      let z = flatten c n in let x = flatten a z.next in let y = flatten b x.next in
      let hc = half_fits c K (Int 1) n p.2 in
      let fc = close_fits K (Int 1) (half c n).code (half c n).last (half c n).next hc.0 hc.1 in
      let L = grows K z.code in
      let ha = half_fits a L u z.next (typed_more K L (grows_keep K z.code) u a p.3) in
      let fa = close_fits L u (half a z.next).code (half a z.next).last (half a z.next).next ha.0 ha.1 in
      let hb = half_fits b (grows L x.code) u x.next
      (typed_more K (grows L x.code) (λ w v k. grows_keep L x.code w v (grows_keep K z.code w v k)) u b p.4) in
      let fb = close_fits (grows L x.code) u (half b x.next).code (half b x.next).last (half b x.next).next hb.0 hb.1 in (
        fits_append K z.code (x.code ++ y.code) fc.0 (fits_append L x.code y.code fa.0 fb.0),
        (
          p.1,
          (
            first_still K z.code (x.code ++ y.code) (Int 1) z.operand fc.1,
            (
              second_still K z.code (x.code ++ y.code) u x.operand (first_still L x.code y.code u x.operand fa.1),
              (second_still K z.code (x.code ++ y.code) u y.operand (second_still L x.code y.code u y.operand fb.1), tt),
            ),
          ),
          ap Some p.0,
          tt,
        ),
      )

  word_fits : (e : Expr) (K : Name → Ty → Type 0) (t : Ty) (n : ℕ) → Typed K C t e
      → Fits K C (flatten e n).code × OperandFits (grows K (flatten e n).code) C t (flatten e n).operand
  word_fits e K t n p = let h = half_fits e K t n p in close_fits K t (half e n).code (half e n).last (half e n).next h.0 h.1

  words_fit : (es : List (Ty × Expr)) (K : Name → Ty → Type 0) (n : ℕ) → AllTyped K C es
      → Fits K C (flatten_all es n).code × OperandsFit (grows K (flatten_all es n).code) C (flatten_all es n).operands
  words_fit [] K n p = (tt, tt)
  words_fit (e ∷ es) K n p =
      let x = flatten e.1 n in let y = flatten_all es x.next in
      let f = word_fits e.1 K e.0 n p.0 in
      let g = words_fit es (grows K x.code) x.next (all_more K (grows K x.code) (grows_keep K x.code) es p.1) in (
        fits_append K x.code y.code f.0 g.0,
        (first_still K x.code y.code e.0 x.operand f.1, operands_more (grows (grows K x.code) y.code) (grows K (x.code ++ y.code)) (grows_append K x.code y.code) y.operands g.1),
      )

  words_types : (es : List (Ty × Expr)) (n : ℕ) → map (λ o. o.0) (flatten_all es n).operands ≡ map (λ e. e.0) es
  words_types [] n = refl
  words_types (e ∷ es) n = ap (λ l. e.0 ∷ l) (words_types es (flatten e.1 n).next)

  -- ---- tasks

  zero_fits : (t : Ty) → IsInt t → number_formed t 0 ≡ true
  zero_fits (Int w) p = ap (λ b. b && nat_lt 0 (2 ^ w)) p ∙ lt-ltb 0 (2 ^ w) (pow_pos w)
  zero_fits Ptr p = grind arith
  zero_fits (Array' n s t) p = grind arith
  zero_fits (Struct' q s t) p = grind arith
  zero_fits (Named x) p = grind arith

  set_fits : (L : Name → Ty → Type 0) (t : Ty) (l : Last) → IsInt t → LastFits L t l
      → (s : OpFits (set_op t l)) × OperandsFit L C (operands (set_op t l)) × (result_type (set_op t l) ≡ Some t) × MayAsk C (set_op t l) s
  set_fits L t (Is o) i p = ((refl, i), (p, (zero_fits t i, tt)), refl, tt)
  set_fits L t (By o) i p = p

  -- what a task is to become
  abbrev CodeFits : (Name → Ty → Type 0) → Task → List Inst → Type 0
  CodeFits K t code = Fits K C code × ((x : Name) (u : Ty) → sets K t x u → grows K code x u)

  -- the last instruction sets the target
  last_sets : (K : Name → Ty → Type 0) (t : Task) (code : List Inst) (o : Op) → result_type o ≡ target_type t
      → (x : Name) (u : Ty) → sets K t x u → grows K (code ++ inserted (target t) o ∷ []) x u
  last_sets K t code o e x u (inl k) = grows_keep K (code ++ inserted (target t) o ∷ []) x u k
  last_sets K t code o e x u (inr k) = grows_append K code (inserted (target t) o ∷ []) x u (inr (k.0, e ∙ k.1))

  ends_fit : (K : Name → Ty → Type 0) (t : Task) (code : List Inst) (o : Op) → Fits K C code → (s : OpFits o) → MayAsk C o s → OperandsFit (grows K code) C (operands o)
      → ResultFits (target t) (target_type t) → result_type o ≡ target_type t → CodeFits K t (code ++ inserted (target t) o ∷ [])
  ends_fit K t code o f s c reads g e = (after K code (target t) o f s c reads (subst (ResultFits (target t)) (sym e) g), last_sets K t code o e)

  task_fits : (t : Task) (K : Name → Ty → Type 0) (n : ℕ) → TaskFits K C t → CodeFits K t (task_code t n).code
  task_fits (Sets x t e) K n p =
      let h = half_fits e K t n p.words in
      let s = set_fits (grows K (half e n).code) t (half e n).last p.shape h.1 in
      ends_fit K (Sets x t e) (half e n).code (set_op t (half e n).last) h.0 s.0 s.3 s.1 p.gives s.2
  task_fits (Tries x o t a b) K n p =
      let f = words_fit (parts (Tries x o t a b)) K n p.words in
      ends_fit K (Tries x o t a b) (flatten_all (parts (Tries x o t a b)) n).code _ f.0 (refl, p.shape) tt f.1 p.gives refl
  task_fits (Fetches x t a) K n p =
      let f = words_fit (parts (Fetches x t a)) K n p.words in
      ends_fit K (Fetches x t a) (flatten_all (parts (Fetches x t a)) n).code _ f.0 p.shape tt f.1 p.gives refl
  task_fits (Puts t a b) K n p =
      let f = words_fit (parts (Puts t a b)) K n p.words in
      ends_fit K (Puts t a b) (flatten_all (parts (Puts t a b)) n).code _ f.0 p.shape tt f.1 p.gives refl
  task_fits (Calls x f args) K n p =
      let w = words_fit args K n p.words in
      ends_fit K (Calls x f args) (flatten_all args n).code (last_op (Calls x f args) (flatten_all args n).operands) w.0
      (record { function = f; named = refl; gives = refl; takes = words_types args n ∙ p.shape }) p.calls w.1 p.gives refl

  pub task_more : (K L : Name → Ty → Type 0) → ((x : Name) (t : Ty) → K x t → L x t) → (t : Task) → TaskFits K C t → TaskFits L C t
  task_more K L h (Sets x t e) p = record { shape = p.shape; calls = p.calls; words = typed_more K L h t e p.words; gives = p.gives }
  task_more K L h (Tries x o t a b) p = record { shape = p.shape; calls = p.calls; words = all_more K L h (parts (Tries x o t a b)) p.words; gives = p.gives }
  task_more K L h (Fetches x t a) p = record { shape = p.shape; calls = p.calls; words = all_more K L h (parts (Fetches x t a)) p.words; gives = p.gives }
  task_more K L h (Puts t a b) p = record { shape = p.shape; calls = p.calls; words = all_more K L h (parts (Puts t a b)) p.words; gives = p.gives }
  task_more K L h (Calls x f args) p = record { shape = p.shape; calls = p.calls; words = all_more K L h args p.words; gives = p.gives }

  pub sets_more : (K L : Name → Ty → Type 0) (t : Task) → ((x : Name) (u : Ty) → K x u → L x u) → (x : Name) (u : Ty) → sets K t x u → sets L t x u
  sets_more K L t h x u (inl k) = inl (h x u k)
  sets_more K L t h x u (inr k) = inr k

  pub tasks_more : (K L : Name → Ty → Type 0) → ((x : Name) (t : Ty) → K x t → L x t) → (ts : List Task) → TasksFit K C ts → TasksFit L C ts
  tasks_more K L h [] p = tt
  tasks_more K L h (t ∷ ts) p = (task_more K L h t p.0, tasks_more (sets K t) (sets L t) (sets_more K L t h) ts p.1)

  -- tasks that fit become instructions that fit
  pub tasks_fit : (ts : List Task) (K : Name → Ty → Type 0) (n : ℕ) → TasksFit K C ts → Fits K C (tasks_code ts n).code
  tasks_fit [] K n p = tt
  tasks_fit (t ∷ ts) K n p =
      let x = task_code t n in
      let f = task_fits t K n p.0 in
      fits_append K x.code (tasks_code ts x.next).code f.0 (tasks_fit ts (grows K x.code) x.next (tasks_more (sets K t) (grows K x.code) f.1 ts p.1))

  -- what is known after tasks
  abbrev pub after_tasks_known : (Name → Ty → Type 0) → List Task → Name → Ty → Type 0
  after_tasks_known K [] = K
  after_tasks_known K (t ∷ ts) = after_tasks_known (sets K t) ts

  known_more : (K L : Name → Ty → Type 0) (ts : List Task) → ((x : Name) (t : Ty) → K x t → L x t) → (x : Name) (t : Ty) → after_tasks_known K ts x t → after_tasks_known L ts x t
  known_more K L [] h x u k = h x u k
  known_more K L (t ∷ ts) h x u k = known_more (sets K t) (sets L t) ts (sets_more K L t h) x u k

  pub tasks_known : (ts : List Task) (K : Name → Ty → Type 0) (n : ℕ) → TasksFit K C ts → (x : Name) (u : Ty) → after_tasks_known K ts x u → grows K (tasks_code ts n).code x u
  tasks_known [] K n p x u k = k
  tasks_known (t ∷ ts) K n p x u k =
      let c = task_code t n in
      let f = task_fits t K n p.0 in
      grows_append K c.code (tasks_code ts c.next).code x u
      (tasks_known ts (grows K c.code) c.next (tasks_more (sets K t) (grows K c.code) f.1 ts p.1) x u (known_more (sets K t) (grows K c.code) ts f.1 x u k))

  -- ---- what a task gives stands in its code with its type

  last_typed : (code : List Inst) (r : Option Name) (o : Op) (x : Name) (u : Ty) → r ≡ Some x → result_type o ≡ Some u → TypedIn (code ++ inserted r o ∷ []) x u
  last_typed code r o x u e g = typed_right code (inserted r o ∷ []) x u (inl (e, g))

  task_typed : (t : Task) (K : Name → Ty → Type 0) (n : ℕ) → TaskFits K C t → (x : Name) (u : Ty) → target t ≡ Some x → target_type t ≡ Some u → TypedIn (task_code t n).code x u
  task_typed (Sets y t e) K n p x u r g =
      let h = half_fits e K t n p.words in
      let s = set_fits (grows K (half e n).code) t (half e n).last p.shape h.1 in
      last_typed (half e n).code (Some y) (set_op t (half e n).last) x u r (s.2 ∙ g)
  task_typed (Tries y o t a b) K n p x u r g = let l = flatten_all (parts (Tries y o t a b)) n in last_typed l.code (Some y) (last_op (Tries y o t a b) l.operands) x u r g
  task_typed (Fetches y t a) K n p x u r g = let l = flatten_all (parts (Fetches y t a)) n in last_typed l.code (Some y) (last_op (Fetches y t a) l.operands) x u r g
  task_typed (Puts t a b) K n p x u r g = let l = flatten_all (parts (Puts t a b)) n in last_typed l.code None (last_op (Puts t a b) l.operands) x u r g
  task_typed (Calls y f args) K n p x u r g = let l = flatten_all args n in last_typed l.code y (last_op (Calls y f args) l.operands) x u r g

  pub tasks_typed : (ts : List Task) (K : Name → Ty → Type 0) (n : ℕ) → TasksFit K C ts → (x : Name) (u : Ty) → Targets ts x u → TypedIn (tasks_code ts n).code x u
  tasks_typed [] K n p x u q = absurd q
  tasks_typed (t ∷ ts) K n p x u (inl q) = typed_left (task_code t n).code (tasks_code ts (task_code t n).next).code x u (task_typed t K n p.0 x u q.0 q.1)
  tasks_typed (t ∷ ts) K n p x u (inr q) =
      typed_right (task_code t n).code (tasks_code ts (task_code t n).next).code x u (tasks_typed ts (sets K t) (task_code t n).next p.1 x u q)
