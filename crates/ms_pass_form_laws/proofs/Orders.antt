-- The instrumented form of a block is phis, other instructions and one terminator.
use Rattle.std.proofs.Common.{◌≡◌, ℕ, List, [], ◌∷◌, ◌++◌, Bool, true, false, Option, Some, None, refl, sym, ap, subst, ◌∙◌, true≢false}
use Rattle.std.specs.Prelude.{◌&&◌, not, if◌then◌else◌}
use Rattle.std.proofs.Math.Path.{ap₂}
use Rattle.ms_ir.specs.declared.syntax.Name.{Name}
use Rattle.ms_ir.specs.declared.syntax.Ty.{Ty}
use Rattle.ms_ir.specs.declared.syntax.Operand.{Operand}
use Rattle.ms_ir.specs.declared.syntax.Op.{Op}
use Rattle.ms_ir.specs.declared.syntax.Op.TheVariants as op
use Rattle.ms_ir.specs.declared.syntax.Inst.{Inst}
use Rattle.ms_runs.specs.World.{Here}
use Rattle.ms_ir.specs.Instructions.{operands, is_phi}
use Rattle.ms_check_valid.specs.FormedCode.{is_terminator, ends_well, is_body}
use Rattle.ms_pass_tasks.specs.Tasks.{tasks_code}
use Rattle.ms_pass_tasks.specs.Environments.{Env, Given, Tracked, tracked}
use Rattle.ms_pass_tasks.specs.Emit.{before_tasks, after_tasks, start}
use Rattle.ms_pass_tasks.specs.PlaneTasks.{plane_tasks}
use Rattle.ms_pass_tasks.specs.PassLists.{phi_pair, phi_code, next_here, pass_insts, emit_op}
use Rattle.ms_pass_laws.proofs.Marked.{is_inserted, AllInserted, tasks_inserted}
use Rattle.ms_pass_form_laws.proofs.PassPaths.{plain_emit}
use Rattle.std.proofs.lemmas.Bool.{and_parts}

abbrev Plains : List Inst → Type 0
Plains [] = Unit {0}
Plains (i ∷ is) = (is_terminator i.op ≡ false) × (is_phi i.op ≡ false) × Plains is

inserted_plain : (o : Op) → is_inserted o ≡ true → (is_terminator o ≡ false) × (is_phi o ≡ false)
inserted_plain (op.Binary o f t a b) e = (refl, refl)
inserted_plain (op.Icmp o f t a b) e = (refl, refl)
inserted_plain (op.Cast o f t a u) e = (refl, refl)
inserted_plain (op.Select c t a b) e = (refl, refl)
inserted_plain (op.Load t a) e = (refl, refl)
inserted_plain (op.Store t v a) e = (refl, refl)
inserted_plain (op.Call r c as') e = (refl, refl)
inserted_plain _ e = absurd (true≢false (sym e))

all_plain : (is : List Inst) → AllInserted is → Plains is
all_plain [] h = tt
all_plain (i ∷ is) h = let p = inserted_plain i.op h.1 in (p.0, p.1, all_plain is h.2)

one_more : (i : Inst) (l : List Inst) → is_terminator i.op ≡ false → is_phi i.op ≡ false → ends_well l ≡ true → ends_well (i ∷ l) ≡ true
one_more i [] t p e = absurd (true≢false (sym e))
one_more i (x ∷ xs) t p e = ap₂ (λ a b. a && b) (ap₂ (λ a b. not a && not b) t p) e

some_more : (a l : List Inst) → Plains a → ends_well l ≡ true → ends_well (a ++ l) ≡ true
some_more [] l p e = e
some_more (i ∷ a) l p e = one_more i (a ++ l) p.0 p.1 (some_more a l p.2 e)

-- nothing is inserted after a terminator
plane_none : (given : Given) (env : Env) (h : Here) (saved : ℕ) (r : Option Name) (o : Op) (ts : List Tracked) → is_terminator o ≡ true → plane_tasks given env h saved r o ts ≡ []
plane_none given env h saved (Some x) (op.Alloca t u c) ts e = absurd (true≢false (sym e))
plane_none given env h saved None (op.Alloca t u c) ts e = refl
plane_none given env h saved r (op.Store t v a) ts e = absurd (true≢false (sym e))
plane_none given env h saved r (op.Call q x as') ts e = absurd (true≢false (sym e))
plane_none given env h saved r _ ts e = refl

module _ (given : Given) (env : Env) where
  no_phi : (i : Inst) (is : List Inst) → ends_well (i ∷ is) ≡ true → is_phi i.op ≡ false
  no_phi i [] e = terminator_plain i.op e
    where
      terminator_plain : (o : Op) → is_terminator o ≡ true → is_phi o ≡ false
      terminator_plain (op.Phi t es) h = absurd (true≢false (sym h))
      terminator_plain _ h = refl
  no_phi i (k ∷ is) e = by_test (is_terminator i.op) (is_phi i.op) refl e
    where
      by_test : (c d : Bool) → is_phi i.op ≡ d → (not c && not d && ends_well (k ∷ is)) ≡ true → is_phi i.op ≡ false
      by_test c true s h = absurd (true≢false (sym (and_parts (not c) false (and_parts (not c && false) (ends_well (k ∷ is)) h).0).1))
      by_test c false s h = s

  no_terminator : (i k : Inst) (is : List Inst) → ends_well (i ∷ k ∷ is) ≡ true → (is_terminator i.op ≡ false) × (ends_well (k ∷ is) ≡ true)
  no_terminator i k is e = by_test (is_terminator i.op) refl e
    where
      by_test : (c : Bool) → is_terminator i.op ≡ c → (not c && not (is_phi i.op) && ends_well (k ∷ is)) ≡ true → (is_terminator i.op ≡ false) × (ends_well (k ∷ is) ≡ true)
      by_test true s h = absurd (true≢false (sym h))
      by_test false s h = (s, (and_parts (not (is_phi i.op)) (ends_well (k ∷ is)) h).1)

  plain_round : (i : Inst) (h : Here) (n : ℕ) → is_phi i.op ≡ false → Plains (emit_op given env h i n i.op).before × Plains (emit_op given env h i n i.op).after
  plain_round i h n p =
      let a = tasks_code (before_tasks given env h i n) (start given i n) in
      subst (λ e. Plains e.before × Plains e.after) (sym (plain_emit given env h i n i.op p))
      (all_plain a.code (tasks_inserted (before_tasks given env h i n) (start given i n)), all_plain (tasks_code (after_tasks given env h i n) a.next).code (tasks_inserted (after_tasks given env h i n) a.next))

  last_round : (i : Inst) (h : Here) (n : ℕ) → is_phi i.op ≡ false → is_terminator i.op ≡ true → (emit_op given env h i n i.op).after ≡ []
  last_round i h n p t =
      ap (λ e. e.after) (plain_emit given env h i n i.op p)
      ∙ ap (λ ts. (tasks_code ts (tasks_code (before_tasks given env h i n) (start given i n)).next).code) (plane_none given env h n i.result i.op (tracked env h.root (operands i.op)) t)

  ends_kept : (i : Inst) (is : List Inst) (h : Here) (n : ℕ) → ends_well (i ∷ is) ≡ true → ends_well (pass_insts given env (i ∷ is) h n).code ≡ true
  ends_kept i [] h n e =
      let x = emit_op given env h i n i.op in
      some_more x.before (i ∷ (x.after ++ [])) (plain_round i h n (no_phi i [] e)).0
      (subst (λ l. ends_well (i ∷ (l ++ [])) ≡ true) (sym (last_round i h n (no_phi i [] e) e)) e)
  ends_kept i (k ∷ is) h n e =
      let x = emit_op given env h i n i.op in
      let p = no_phi i (k ∷ is) e in
      let t = no_terminator i k is e in
      let rest = (pass_insts given env (k ∷ is) (next_here given h i) x.next).code in
      some_more x.before (i ∷ (x.after ++ rest)) (plain_round i h n p).0
      (one_more i (x.after ++ rest) t.0 p (some_more x.after rest (plain_round i h n p).1 (ends_kept k is (next_here given h i) x.next t.1)))

  skip_phis : (root : ℕ) (r : Option Name) (t : Ty) (es : List (Operand × Name)) (l : List Inst) → is_body l ≡ true → is_body (phi_code env root r t es ++ l) ≡ true
  skip_phis root None t es l e = e
  skip_phis root (Some x) t es l e = by_number (env.number x)
    where
      by_clean : (v : ℕ) (c : Bool) → is_body ((if c then [] else phi_pair env v root t es) ++ l) ≡ true
      by_clean v true = e
      by_clean v false = e

      by_number : (o : Option ℕ) → is_body ((elim o as (λ w. List Inst) [ Some v ↦ if env.clean x then [] else phi_pair env v root t es | None ↦ [] ]) ++ l) ≡ true
      by_number None = e
      by_number (Some v) = by_clean v (env.clean x)

  starts_plain : (l : List Inst) → ends_well l ≡ true → is_body l ≡ true
  starts_plain [] e = e
  starts_plain (i ∷ is) e = ap (λ c. if c then is_body is else ends_well (i ∷ is)) (no_phi i is e) ∙ e

  -- a block's instrumented form is a body
  pub body_kept : (is : List Inst) (h : Here) (n : ℕ) → is_body is ≡ true → is_body (pass_insts given env is h n).code ≡ true
  body_kept [] h n e = e
  body_kept (i ∷ is) h n e = by_op i.op refl e (body_kept is (next_here given h i) (emit_op given env h i n i.op).next)
    where
      phi_case : (t : Ty) (es : List (Operand × Name)) → i.op ≡ op.Phi t es → (m : ℕ) → is_body (pass_insts given env is (next_here given h i) m).code ≡ true
          → is_body (i ∷ (phi_code env h.root i.result t es ++ (pass_insts given env is (next_here given h i) m).code)) ≡ true
      phi_case t es s m go =
          let l = phi_code env h.root i.result t es ++ (pass_insts given env is (next_here given h i) m).code in
          ap (λ o. if is_phi o then is_body l else ends_well (i ∷ l)) s ∙ skip_phis h.root i.result t es (pass_insts given env is (next_here given h i) m).code go

      by_op : (o : Op) → i.op ≡ o → (if is_phi i.op then is_body is else ends_well (i ∷ is)) ≡ true
          → (is_body is ≡ true → is_body (pass_insts given env is (next_here given h i) (emit_op given env h i n i.op).next).code ≡ true)
          → is_body (pass_insts given env (i ∷ is) h n).code ≡ true
      by_op (op.Phi t es) s q go =
          subst (λ x. is_body (x.before ++ (i ∷ (x.after ++ (pass_insts given env is (next_here given h i) x.next).code))) ≡ true) (ap (emit_op given env h i n) (sym s))
          (phi_case t es s n (subst (λ x. is_body (pass_insts given env is (next_here given h i) x.next).code ≡ true) (ap (emit_op given env h i n) s)
          (go (sym (ap (λ o. if is_phi o then is_body is else ends_well (i ∷ is)) s) ∙ q))))
      by_op o s q go =
          starts_plain (pass_insts given env (i ∷ is) h n).code (ends_kept i is h n (sym (ap (λ c. if c then is_body is else ends_well (i ∷ is)) (ap is_phi s)) ∙ q))

  -- a block without phis stays one after inserted code
  pub entry_body : (code is : List Inst) (h : Here) (n : ℕ) → AllInserted code → ends_well is ≡ true → is_body (code ++ (pass_insts given env is h n).code) ≡ true
  entry_body code [] h n a e = absurd (true≢false (sym e))
  entry_body code (i ∷ is) h n a e =
      let l = (pass_insts given env (i ∷ is) h n).code in starts_plain (code ++ l) (some_more code l (all_plain code a) (ends_kept i is h n e))
