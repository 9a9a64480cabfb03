-- No name stands twice in the instrumented form of a function.
use Rattle.std.proofs.Common.{◌≡◌, ℕ, ◌+◌, ◌<◌, ◌≤◌, List, [], ◌∷◌, ◌++◌, Bool, true, false, Option, Some, None, refl, sym, ap, subst, ◌∙◌, arith, inl, inr, ⊎_elim}
use Rattle.std.specs.Prelude.{◌⊎◌, filter_map, if◌then◌else◌}
use Rattle.std.specs.List.{cons_option}
use Rattle.ms_ir.specs.declared.syntax.Name.{Name}
use Rattle.ms_ir.specs.declared.syntax.Ty.{Ty}
use Rattle.ms_ir.specs.declared.syntax.Op.{Op}
use Rattle.ms_ir.specs.declared.syntax.Inst.{Inst}
use Rattle.ms_ir.specs.Equal.{has_name}
use Rattle.ms_ir.specs.Locals.{results}
use Rattle.ms_check_valid.specs.NamesOnce.{repeats}
use Rattle.ms_check_valid.proofs.NameTests.{name_within, within_name}
use Rattle.ms_pass_tasks.specs.Tasks.{msan_name, inserted, Expr, Leaf, Two, Turn, Test, Pick, Task, Sets, Tries, Fetches, Puts, Calls, Last, Is, By, close, half, flatten, flatten_all, parts, target, last_op, set_op, task_code, tasks_code}
use Rattle.ms_pass_tasks.specs.Meaning.{Below}
use Rattle.ms_pass_tasks.proofs.InsertedNames.{msan_name_one, below_more}
use Rattle.ms_pass_tasks.proofs.Marked.{half_more, word_more, words_more, tasks_more, task_more}
use Rattle.ms_pass_form_laws.proofs.Paths.{In, to_in, from_in, in_left, in_right, in_either, results_append}

-- ---- names that stand once

abbrev pub Distinct : List Name → Type 0
Distinct [] = Unit {0}
Distinct (x ∷ xs) = ¬ In xs x × Distinct xs

pub distinct_join : (a b : List Name) → Distinct a → Distinct b → ((x : Name) → In a x → In b x → ⊥) → Distinct (a ++ b)
distinct_join [] b p q h = q
distinct_join (x ∷ a) b p q h = (λ i. ⊎_elim p.0 (h x (inl refl)) (in_either a b x i), distinct_join a b p.1 q (λ y i j. h y (inr i) j))

pub distinct_both : (a b : List Name) → Distinct (a ++ b) → Distinct a × Distinct b × ((x : Name) → In a x → In b x → ⊥)
distinct_both [] b d = (tt, d, λ x i j. i)
distinct_both (y ∷ a) b d =
    let r = distinct_both a b d.1 in
    ((λ i. d.0 (in_left a b y i), r.0), r.1, λ x i j. ⊎_elim (λ e. d.0 (subst (In (a ++ b)) (sym e) (in_right a b x j))) (λ k. r.2 x k j) i)

unless : (t : Bool) (x : Name) (xs : List Name) → (if t then x ∷ xs else xs) ≡ [] → (t ≡ false) × (xs ≡ [])
unless true x xs e = grind arith
unless false x xs e = (refl, e)

pub distinct_from : (seen names : List Name) → repeats seen names ≡ [] → Distinct names × ((x : Name) → In names x → has_name seen x ≡ false)
distinct_from seen [] e = (tt, λ x i. absurd i)
distinct_from seen (y ∷ names) e =
    let u = unless (has_name seen y) y (repeats (y ∷ seen) names) e in
    let r = distinct_from (y ∷ seen) names u.1 in
    ((λ i. clash (r.1 y i), r.0), λ x i. ⊎_elim (λ q. ap (has_name seen) (sym q) ∙ u.0) (λ k. later x (r.1 x k)) i)
  where
    clash : has_name (y ∷ seen) y ≡ false → ⊥
    clash q = let c : true ≡ false = sym (within_name (y ∷ seen) y (from_in (y ∷ seen) y (inl refl))) ∙ q in grind arith

    later : (x : Name) → has_name (y ∷ seen) x ≡ false → has_name seen x ≡ false
    later x q = by_test (has_name seen x) refl
      where
        by_test : (t : Bool) → has_name seen x ≡ t → has_name seen x ≡ false
        by_test true k = let c : true ≡ false = sym (within_name (y ∷ seen) x (from_in (y ∷ seen) x (inr (to_in seen x (name_within seen x k))))) ∙ q in grind arith
        by_test false k = k

pub once_from : (seen names : List Name) → Distinct names → ((x : Name) → In names x → ¬ In seen x) → repeats seen names ≡ []
once_from seen [] d h = refl
once_from seen (y ∷ names) d h = by_test (has_name seen y) refl (once_from (y ∷ seen) names d.1 (λ x i j. ⊎_elim (λ e. d.0 (subst (In names) (sym e) i)) (λ k. h x (inr i) k) j))
  where
    by_test : (t : Bool) → has_name seen y ≡ t → repeats (y ∷ seen) names ≡ [] → (if t then y ∷ repeats (y ∷ seen) names else repeats (y ∷ seen) names) ≡ []
    by_test true e r = absurd (h y (inl refl) (to_in seen y (name_within seen y e)))
    by_test false e r = r

pub to_distinct : (names : List Name) → repeats [] names ≡ [] → Distinct names
to_distinct names e = (distinct_from [] names e).0

pub to_once : (names : List Name) → Distinct names → repeats [] names ≡ []
to_once names d = once_from [] names d (λ x i j. j)

-- ---- names of inserted code: some of a set, and else numbers from one to another

pub record Named (from to : ℕ) (T : Name → Type 0) (names : List Name) : Type 0 where
  pub once : Distinct names
  pub known : (y : Name) → In names y → T y ⊎ ((k : ℕ) × (from ≤ k) × (k < to) × (y ≡ msan_name k))

abbrev pub AllBelow : ℕ → (Name → Type 0) → Type 0
AllBelow n T = (y : Name) → T y → Below n y

abbrev pub NoName : Name → Type 0
NoName y = ⊥

named_nothing : (n : ℕ) (T : Name → Type 0) → Named n n T []
named_nothing n T = record { once = tt; known = λ y i. absurd i }

pub named_more : (n k : ℕ) (T U : Name → Type 0) (names : List Name) → ((y : Name) → T y → U y) → Named n k T names → Named n k U names
named_more n k T U names h a = record { once = a.once; known = λ y i. ⊎_elim (λ t. inl (h y t)) (λ q. inr q) (a.known y i) }

pub named_join : (n m k : ℕ) (T U V : Name → Type 0) (a b : List Name) → n ≤ m → m ≤ k → ((y : Name) → T y → V y) → ((y : Name) → U y → V y)
    → AllBelow n T → AllBelow n U → ((y : Name) → T y → U y → ⊥) → Named n m T a → Named m k U b → Named n k V (a ++ b)
named_join n m k T U V a b l r tv uv lt lu apart p q = record {
  once = distinct_join a b p.once q.once (λ y i j. clash y (p.known y i) (q.known y j));
  known = λ y i. ⊎_elim (λ e. first y (p.known y e)) (λ e. second y (q.known y e)) (in_either a b y i);
}
  where
    clash : (y : Name) → T y ⊎ ((j : ℕ) × (n ≤ j) × (j < m) × (y ≡ msan_name j)) → U y ⊎ ((j : ℕ) × (m ≤ j) × (j < k) × (y ≡ msan_name j)) → ⊥
    clash y (inl t) (inl u) = apart y t u
    clash y (inl t) (inr u) = omega (arith, lt y t u.0 u.3, u.1, l)
    clash y (inr t) (inl u) = omega (arith, lu y u t.0 t.3, t.1)
    clash y (inr t) (inr u) = omega (arith, msan_name_one t.0 u.0 (sym t.3 ∙ u.3), t.2, u.1)

    first : (y : Name) → T y ⊎ ((j : ℕ) × (n ≤ j) × (j < m) × (y ≡ msan_name j)) → V y ⊎ ((j : ℕ) × (n ≤ j) × (j < k) × (y ≡ msan_name j))
    first y (inl t) = inl (tv y t)
    first y (inr t) = inr (t.0, t.1, omega (arith, t.2, r), t.3)

    second : (y : Name) → U y ⊎ ((j : ℕ) × (m ≤ j) × (j < k) × (y ≡ msan_name j)) → V y ⊎ ((j : ℕ) × (n ≤ j) × (j < k) × (y ≡ msan_name j))
    second y (inl u) = inl (uv y u)
    second y (inr u) = inr (u.0, omega (arith, u.1, l), u.2, u.3)

-- two stretches of temporaries
temps_join : (n m k : ℕ) (a b : List Inst) → n ≤ m → m ≤ k → Named n m NoName (results a) → Named m k NoName (results b) → Named n k NoName (results (a ++ b))
temps_join n m k a b l r p q =
    subst (Named n k NoName) (sym (results_append a b))
    (named_join n m k NoName NoName NoName (results a) (results b) l r (λ y t. t) (λ y t. t) (λ y t. absurd t) (λ y t. absurd t) (λ y t u. t) p q)

one_temp : (n : ℕ) → Named n (n + 1) NoName (msan_name n ∷ [])
one_temp n = record { once = (λ i. i, tt); known = λ y i. inr (n, omega arith, omega arith, only y i) }
  where
    only : (y : Name) → In (msan_name n ∷ []) y → y ≡ msan_name n
    only y (inl e) = sym e
    only y (inr e) = absurd e

close_named : (from : ℕ) (code : List Inst) (l : Last) (n : ℕ) → from ≤ n → Named from n NoName (results code) → Named from (close code l n).next NoName (results (close code l n).code)
close_named from code (Is o) n h p = p
close_named from code (By o) n h p = temps_join from n (n + 1) code (inserted (Some (msan_name n)) o ∷ []) h (omega arith) p (one_temp n)

half_named : (e : Expr) (n : ℕ) → Named n (half e n).next NoName (results (half e n).code)
half_named (Leaf o) n = named_nothing n NoName
half_named (Two o t a b) n =
    let x = flatten a n in let y = flatten b x.next in
    temps_join n x.next y.next x.code y.code (word_more a n) (word_more b x.next)
    (close_named n (half a n).code (half a n).last (half a n).next (half_more a n) (half_named a n))
    (close_named x.next (half b x.next).code (half b x.next).last (half b x.next).next (half_more b x.next) (half_named b x.next))
half_named (Turn o t a u) n = close_named n (half a n).code (half a n).last (half a n).next (half_more a n) (half_named a n)
half_named (Test q t a b) n =
    let x = flatten a n in let y = flatten b x.next in
    temps_join n x.next y.next x.code y.code (word_more a n) (word_more b x.next)
    (close_named n (half a n).code (half a n).last (half a n).next (half_more a n) (half_named a n))
    (close_named x.next (half b x.next).code (half b x.next).last (half b x.next).next (half_more b x.next) (half_named b x.next))
half_named (Pick c t a b) n =
    let z = flatten c n in let x = flatten a z.next in let y = flatten b x.next in
    temps_join n z.next y.next z.code (x.code ++ y.code) (word_more c n) (omega (arith, word_more a z.next, word_more b x.next))
    (close_named n (half c n).code (half c n).last (half c n).next (half_more c n) (half_named c n))
    (temps_join z.next x.next y.next x.code y.code (word_more a z.next) (word_more b x.next)
    (close_named z.next (half a z.next).code (half a z.next).last (half a z.next).next (half_more a z.next) (half_named a z.next))
    (close_named x.next (half b x.next).code (half b x.next).last (half b x.next).next (half_more b x.next) (half_named b x.next)))

word_named : (e : Expr) (n : ℕ) → Named n (flatten e n).next NoName (results (flatten e n).code)
word_named e n = close_named n (half e n).code (half e n).last (half e n).next (half_more e n) (half_named e n)

words_named : (es : List (Ty × Expr)) (n : ℕ) → Named n (flatten_all es n).next NoName (results (flatten_all es n).code)
words_named [] n = named_nothing n NoName
words_named (e ∷ es) n =
    let x = flatten e.1 n in let y = flatten_all es x.next in
    temps_join n x.next y.next x.code y.code (word_more e.1 n) (words_more es x.next) (word_named e.1 n) (words_named es x.next)

-- ---- tasks

-- one instruction, whose result is in a set
one_named : (n : ℕ) (T : Name → Type 0) (r : Option Name) → ((y : Name) → r ≡ Some y → T y) → Named n n T (cons_option r [])
one_named n T None h = named_nothing n T
one_named n T (Some x) h = record { once = (λ i. i, tt); known = λ y i. inl (only y i) }
  where
    only : (y : Name) → In (x ∷ []) y → T y
    only y (inl e) = h y (ap Some e)
    only y (inr e) = absurd e

ends_named : (n m : ℕ) (code : List Inst) (r : Option Name) (o : Op) → n ≤ m → ((y : Name) → r ≡ Some y → Below n y) → Named n m NoName (results code)
    → Named n m (λ y. r ≡ Some y) (results (code ++ inserted r o ∷ []))
ends_named n m code r o l h p =
    subst (Named n m (λ y. r ≡ Some y)) (sym (results_append code (inserted r o ∷ [])))
    (named_join n m m NoName (λ y. r ≡ Some y) (λ y. r ≡ Some y) (results code) (cons_option r []) l (omega arith) (λ y t. absurd t) (λ y t. t) (λ y t. absurd t) h (λ y t u. t) p
    (one_named m (λ y. r ≡ Some y) r (λ y e. e)))

task_named : (t : Task) (n : ℕ) → ((y : Name) → target t ≡ Some y → Below n y) → Named n (task_code t n).next (λ y. target t ≡ Some y) (results (task_code t n).code)
task_named (Sets x t e) n h = ends_named n (half e n).next (half e n).code (Some x) (set_op t (half e n).last) (half_more e n) h (half_named e n)
task_named (Tries x o t a b) n h =
    let l = flatten_all (parts (Tries x o t a b)) n in
    ends_named n l.next l.code (Some x) (last_op (Tries x o t a b) l.operands) (words_more (parts (Tries x o t a b)) n) h (words_named (parts (Tries x o t a b)) n)
task_named (Fetches x t a) n h =
    let l = flatten_all (parts (Fetches x t a)) n in
    ends_named n l.next l.code (Some x) (last_op (Fetches x t a) l.operands) (words_more (parts (Fetches x t a)) n) h (words_named (parts (Fetches x t a)) n)
task_named (Puts t a b) n h =
    let l = flatten_all (parts (Puts t a b)) n in
    ends_named n l.next l.code None (last_op (Puts t a b) l.operands) (words_more (parts (Puts t a b)) n) h (words_named (parts (Puts t a b)) n)
task_named (Calls x f args) n h =
    let l = flatten_all args n in
    ends_named n l.next l.code x (last_op (Calls x f args) l.operands) (words_more args n) h (words_named args n)

abbrev pub set_by : List Task → List Name
set_by ts = filter_map target ts

in_option : (r : Option Name) (names : List Name) (y : Name) → r ≡ Some y → In (cons_option r names) y
in_option r names y e = subst (λ o. In (cons_option o names) y) (sym e) (inl refl)

in_rest : (r : Option Name) (names : List Name) (y : Name) → In names y → In (cons_option r names) y
in_rest None names y i = i
in_rest (Some x) names y i = inr i

option_apart : (r : Option Name) (names : List Name) → Distinct (cons_option r names) → Distinct names × ((y : Name) → r ≡ Some y → In names y → ⊥)
option_apart None names d = (d, λ y e i. grind arith)
option_apart (Some x) names d = (d.1, λ y e i. d.0 (subst (In names) (same y e) i))
  where
    same : (y : Name) → Some x ≡ Some y → y ≡ x
    same y e = sym (ap (λ o. elim o as (λ w. Name) [ Some z ↦ z | None ↦ x ]) e)

pub tasks_named : (ts : List Task) (n : ℕ) → Distinct (set_by ts) → AllBelow n (In (set_by ts)) → Named n (tasks_code ts n).next (In (set_by ts)) (results (tasks_code ts n).code)
tasks_named [] n d b = named_nothing n (In [])
tasks_named (t ∷ ts) n d b =
    let c = task_code t n in
    let apart = option_apart (target t) (set_by ts) d in
    let more = λ (y : Name) (i : In (set_by ts) y). b y (in_rest (target t) (set_by ts) y i) in
    subst (Named n (tasks_code ts c.next).next (In (set_by (t ∷ ts)))) (sym (results_append c.code (tasks_code ts c.next).code))
    (named_join n c.next (tasks_code ts c.next).next (λ y. target t ≡ Some y) (In (set_by ts)) (In (set_by (t ∷ ts))) (results c.code) (results (tasks_code ts c.next).code)
    (task_more t n) (tasks_more ts c.next) (λ y e. in_option (target t) (set_by ts) y e) (λ y i. in_rest (target t) (set_by ts) y i)
    (λ y e. b y (in_option (target t) (set_by ts) y e)) more apart.1
    (task_named t n (λ y e. b y (in_option (target t) (set_by ts) y e)))
    (tasks_named ts c.next apart.0 (λ y i. below_more n c.next (task_more t n) y (more y i))))
