-- Own instructions and inserted phis are formed, and so are the numbers of a function's names.
use Rattle.std.proofs.Common.{◌≡◌, ℕ, List, [], ◌∷◌, ◌++◌, true, Option, Some, None, refl, sym, subst}
use Rattle.std.specs.Prelude.{◌&&◌, nat_lt, map, filter_map, length}
use Rattle.std.specs.List.{list_all, cons_option}
use Rattle.std.proofs.Math.Path.{ap₂}
use Rattle.ms_ir.specs.declared.syntax.Name.{Name}
use Rattle.ms_ir.specs.declared.syntax.Ty.{Ty}
use Rattle.ms_ir.specs.declared.syntax.Operand.{Operand}
use Rattle.ms_ir.specs.declared.syntax.Operand.TheVariants as operand
use Rattle.ms_ir.specs.declared.syntax.Op.{Op}
use Rattle.ms_ir.specs.declared.syntax.Op.TheVariants as op
use Rattle.ms_ir.specs.declared.syntax.Inst.{Inst}
use Rattle.ms_ir.specs.declared.syntax.Func.{Func}
use Rattle.ms_ir.specs.Locals.{value_type, results}
use Rattle.ms_check_valid.specs.FormedNames.{is_local_name, name_number}
use Rattle.ms_check_valid.specs.FormedCode.{is_int_type, operand_formed, inst_formed}
use Rattle.ms_pass_tasks.specs.Tasks.{msan_name, inserted, Expr, Leaf, Two, Turn, Test, Pick, Task, Sets, Tries, Fetches, Puts, Calls, Last, Is, By, close, half, flatten, flatten_all, parts, target, last_op, set_op, task_code, tasks_code}
use Rattle.ms_pass_form_laws.proofs.Paths.{results_append}
use Rattle.ms_pass_form_laws.proofs.Words.{int_value}
use Rattle.ms_pass_form_laws.proofs.Once.{set_by}
use Rattle.ms_pass_form_laws.proofs.FuncFits.{EdgeFits, EdgesFit}
use Rattle.ms_pass_form_laws.proofs.Numerals.{msan_formed}

-- ---- inserted phis

module _ (g : Func) (named : (x : Name) (t : Ty) → value_type g x ≡ Some t → is_local_name x ≡ true) where
  edges_formed : (u : Ty) (es : List (Operand × Name)) → EdgesFit g u es → list_all (λ a. operand_formed a.0 a.1) (map {B = Ty × Operand} (λ e. (u, e.0)) es) ≡ true
  edges_formed u [] k = refl
  edges_formed u (e ∷ es) k = ap₂ (λ a b. a && b) (by_operand e.0 k.0) (edges_formed u es k.1)
    where
      by_operand : (o : Operand) → EdgeFits g u o e.1 → operand_formed u o ≡ true
      by_operand (operand.Local y) q = named y u q.0
      by_operand (operand.Int n) q = q
      by_operand _ q = absurd q

  -- an inserted phi is formed where it has edges, whose labels are formed
  pub phi_formed : (u : Ty) (es : List (Operand × Name)) (k : ℕ) → is_int_type u ≡ true → nat_lt 0 (length es) ≡ true → list_all is_local_name (map (λ e. e.1) es) ≡ true → EdgesFit g u es
      → inst_formed (inserted (Some (msan_name k)) (op.Phi u es)) ≡ true
  phi_formed u es k i some names fits =
      ap₂ (λ a b. a && b) (ap₂ (λ a b. a && b) (ap₂ (λ a b. a && b) (ap₂ (λ a b. a && b) (int_value u i) some) (edges_formed u es fits)) names) (msan_formed k)

-- ---- numbers of names

-- names that are no numbers
abbrev pub Texts : List Name → Type 0
Texts [] = Unit {0}
Texts (x ∷ xs) = (name_number x ≡ None) × Texts xs

pub no_numbers : (names : List Name) → Texts names → filter_map name_number names ≡ []
no_numbers [] t = refl
no_numbers (x ∷ xs) t = ap₂ (λ o l. cons_option o l) t.0 (no_numbers xs t.1)

pub texts_append : (a b : List Name) → Texts a → Texts b → Texts (a ++ b)
texts_append [] b p q = q
texts_append (x ∷ a) b p q = (p.0, texts_append a b p.1 q)

result_texts : (a b : List Inst) → Texts (results a) → Texts (results b) → Texts (results (a ++ b))
result_texts a b p q = subst Texts (sym (results_append a b)) (texts_append (results a) (results b) p q)

close_texts : (code : List Inst) (l : Last) (n : ℕ) → Texts (results code) → Texts (results (close code l n).code)
close_texts code (Is o) n p = p
close_texts code (By o) n p = result_texts code (inserted (Some (msan_name n)) o ∷ []) p (refl, tt)

half_texts : (e : Expr) (n : ℕ) → Texts (results (half e n).code)
half_texts (Leaf o) n = tt
half_texts (Two o t a b) n =
    let x = flatten a n in let y = flatten b x.next in
    result_texts x.code y.code (close_texts (half a n).code (half a n).last (half a n).next (half_texts a n))
    (close_texts (half b x.next).code (half b x.next).last (half b x.next).next (half_texts b x.next))
half_texts (Turn o t a u) n = close_texts (half a n).code (half a n).last (half a n).next (half_texts a n)
half_texts (Test q t a b) n =
    let x = flatten a n in let y = flatten b x.next in
    result_texts x.code y.code (close_texts (half a n).code (half a n).last (half a n).next (half_texts a n))
    (close_texts (half b x.next).code (half b x.next).last (half b x.next).next (half_texts b x.next))
half_texts (Pick c t a b) n =
    let z = flatten c n in let x = flatten a z.next in let y = flatten b x.next in
    result_texts z.code (x.code ++ y.code) (close_texts (half c n).code (half c n).last (half c n).next (half_texts c n))
    (result_texts x.code y.code (close_texts (half a z.next).code (half a z.next).last (half a z.next).next (half_texts a z.next))
    (close_texts (half b x.next).code (half b x.next).last (half b x.next).next (half_texts b x.next)))

words_texts : (es : List (Ty × Expr)) (n : ℕ) → Texts (results (flatten_all es n).code)
words_texts [] n = tt
words_texts (e ∷ es) n =
    let x = flatten e.1 n in let y = flatten_all es x.next in
    result_texts x.code y.code (close_texts (half e.1 n).code (half e.1 n).last (half e.1 n).next (half_texts e.1 n)) (words_texts es x.next)

ends_texts : (code : List Inst) (r : Option Name) (o : Op) → Texts (results code) → Texts (cons_option r []) → Texts (results (code ++ inserted r o ∷ []))
ends_texts code r o p q = result_texts code (inserted r o ∷ []) p q

task_texts : (t : Task) (n : ℕ) → Texts (cons_option (target t) []) → Texts (results (task_code t n).code)
task_texts (Sets x t e) n q = ends_texts (half e n).code (Some x) (set_op t (half e n).last) (half_texts e n) q
task_texts (Tries x o t a b) n q = let l = flatten_all (parts (Tries x o t a b)) n in ends_texts l.code (Some x) (last_op (Tries x o t a b) l.operands) (words_texts (parts (Tries x o t a b)) n) q
task_texts (Fetches x t a) n q = let l = flatten_all (parts (Fetches x t a)) n in ends_texts l.code (Some x) (last_op (Fetches x t a) l.operands) (words_texts (parts (Fetches x t a)) n) q
task_texts (Puts t a b) n q = let l = flatten_all (parts (Puts t a b)) n in ends_texts l.code None (last_op (Puts t a b) l.operands) (words_texts (parts (Puts t a b)) n) q
task_texts (Calls x f args) n q = let l = flatten_all args n in ends_texts l.code x (last_op (Calls x f args) l.operands) (words_texts args n) q

-- the results of inserted tasks are no numbers, where what the tasks set are none
pub tasks_texts : (ts : List Task) (n : ℕ) → Texts (set_by ts) → Texts (results (tasks_code ts n).code)
tasks_texts [] n q = tt
tasks_texts (t ∷ ts) n q =
    let p = split (target t) (set_by ts) q in
    result_texts (task_code t n).code (tasks_code ts (task_code t n).next).code (task_texts t n p.0) (tasks_texts ts (task_code t n).next p.1)
  where
    split : (o : Option Name) (l : List Name) → Texts (cons_option o l) → Texts (cons_option o []) × Texts l
    split None l h = (tt, h)
    split (Some x) l h = ((h.0, tt), h.1)
