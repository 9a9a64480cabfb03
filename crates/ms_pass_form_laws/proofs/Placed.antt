-- Places in the instrumented form of a block.
use Rattle.std.proofs.Common.{◌≡◌, ℕ, zero, suc, ◌+◌, List, [], ◌∷◌, ◌++◌, Some, refl, sym, ap, subst, ◌∙◌, arith, inl, inr, ⊎_elim, length-append}
use Rattle.std.specs.Prelude.{◌⊎◌, length, take, slice_get, unwrap_or}
use Rattle.std.proofs.lemmas.List.{append_assoc}
use Rattle.ms_ir.specs.declared.syntax.Name.{Name}
use Rattle.ms_ir.specs.declared.syntax.Ty.{Ty}
use Rattle.ms_ir.specs.declared.syntax.Inst.{Inst}
use Rattle.ms_ir.specs.declared.syntax.Func.{Func}
use Rattle.ms_runs.specs.World.{Here}
use Rattle.ms_ir.specs.Written.{result_type}
use Rattle.ms_ir.specs.Locals.{locals, value_type, results}
use Rattle.ms_check_valid.specs.NamesOnce.{repeats}
use Rattle.ms_check_valid.specs.Paths.{insts_of, IsDefined}
use Rattle.ms_pass_tasks.specs.Environments.{Env, Given}
use Rattle.ms_pass_tasks.specs.Emit.{Emitted}
use Rattle.ms_pass_tasks.specs.PassLists.{next_here, pass_insts, emit_op}
use Rattle.ms_pass_form_laws.proofs.Checked.{Allowed, InstFits, grow, Fits}
use Rattle.ms_pass_form_laws.proofs.Lists.{fits_more}
use Rattle.ms_pass_form_laws.proofs.Paths.{In, result_in, defined_before, defined_later}
use Rattle.ms_pass_form_laws.proofs.OnceTyped.{result_typed}
use Rattle.ms_runs_good_laws.proofs.NextFrames.{block_there}

-- ---- places in lists

pub slice_left : {A : Type 0} (a b : List A) (k : ℕ) (x : A) → slice_get a k ≡ Some x → slice_get (a ++ b) k ≡ Some x
slice_left [] b k x e = grind arith
slice_left (y ∷ a) b zero x e = e
slice_left (y ∷ a) b (suc k) x e = slice_left a b k x e

pub slice_right : {A : Type 0} (a b : List A) (k : ℕ) (x : A) → slice_get b k ≡ Some x → slice_get (a ++ b) (length a + k) ≡ Some x
slice_right [] b k x e = ap (slice_get b) {x = 0 + k} {y = k} (omega arith) ∙ e
slice_right (y ∷ a) b k x e = ap (slice_get (y ∷ (a ++ b))) {x = suc (length a) + k} {y = suc (length a + k)} (omega arith) ∙ slice_right a b k x e

pub slice_either : {A : Type 0} (a b : List A) (k : ℕ) (x : A) → slice_get (a ++ b) k ≡ Some x
    → (slice_get a k ≡ Some x) ⊎ ((j : ℕ) × (k ≡ length a + j) × (slice_get b j ≡ Some x))
slice_either [] b k x e = inr (k, omega arith, e)
slice_either (y ∷ a) b zero x e = inl e
slice_either (y ∷ a) b (suc k) x e = ⊎_elim (λ l. inl l) (λ r. inr (r.0, omega (arith, r.1), r.2)) (slice_either a b k x e)

-- ---- a stretch of inserted code at a place

-- a name is known at a place of a function
abbrev pub KnownAt : Func → ℕ → ℕ → Name → Ty → Type 0
KnownAt g b q x t = (value_type g x ≡ Some t) × IsDefined g (record { block = b; place = q; name = x })

take_here : (is : List Inst) (q : ℕ) (i : Inst) (x : Name) → slice_get is q ≡ Some i → i.result ≡ Some x → In (results (take (q + 1) is)) x
take_here is q i x e named = subst (λ n. In (results (take n is)) x) {x = suc q} {y = q + 1} (omega arith) (result_in (take (suc q) is) q i x (still is q i e) named)
  where
    still : {A : Type 0} (l : List A) (k : ℕ) (y : A) → slice_get l k ≡ Some y → slice_get (take (suc k) l) k ≡ Some y
    still [] k y h = grind arith
    still (z ∷ l) zero y h = h
    still (z ∷ l) (suc k) y h = still l k y h

module _ (g : Func) (once : repeats [] (locals g) ≡ []) (b : ℕ) where
  -- a result has its type
  pub typed_result_at : (c q : ℕ) (i : Inst) (x : Name) (t : Ty) → slice_get (insts_of g c) q ≡ Some i → i.result ≡ Some x → result_type i.op ≡ Some t → value_type g x ≡ Some t
  typed_result_at c q i x t e named gives = let k = block_there g c q i e in result_typed g once c q k.0 i x t k.1 k.2 named gives

  -- one instruction further
  pub known_next : (q : ℕ) (i : Inst) → slice_get (insts_of g b) q ≡ Some i → (x : Name) (t : Ty) → grow (KnownAt g b q) i x t → KnownAt g b (q + 1) x t
  known_next q i e x t (inl k) = (k.0, defined_later g b q 1 x k.1)
  known_next q i e x t (inr r) = (typed_result_at b q i x t e r.0 r.1, defined_before g b (q + 1) x (take_here (insts_of g b) q i x e r.0))

  pub known_later : (q r : ℕ) (x : Name) (t : Ty) → KnownAt g b q x t → KnownAt g b (q + r) x t
  known_later q r x t k = (k.0, defined_later g b q r x k.1)

  module _ (C : Allowed) where
    -- each instruction of a list that fits at its place fits at its own
    pub placed : (code : List Inst) (q : ℕ) → Fits (KnownAt g b q) C code → ((k : ℕ) (j : Inst) → slice_get code k ≡ Some j → slice_get (insts_of g b) (q + k) ≡ Some j)
        → (k : ℕ) (j : Inst) → slice_get code k ≡ Some j → InstFits (KnownAt g b (q + k)) C j
    placed [] q f at k j e = grind arith
    placed (i ∷ code) q f at zero j e =
        subst (λ n. InstFits (KnownAt g b n) C j) {x = q} {y = q + 0} (omega arith) (subst (InstFits (KnownAt g b q) C) (ap (λ o. unwrap_or o i) e) f.0)
    placed (i ∷ code) q f at (suc k) j e =
        subst (λ n. InstFits (KnownAt g b n) C j) {x = q + 1 + k} {y = q + suc k} (omega arith)
        (placed code (q + 1) (fits_more C (grow (KnownAt g b q) i) (KnownAt g b (q + 1)) (known_next q i first) code f.1)
        (λ l h d. ap (slice_get (insts_of g b)) {x = q + 1 + l} {y = q + suc l} (omega arith) ∙ at (suc l) h d) k j e)
      where
        first : slice_get (insts_of g b) q ≡ Some i
        first = ap (slice_get (insts_of g b)) {x = q} {y = q + 0} (omega arith) ∙ at 0 i refl

-- ---- the lists round one instruction of a block

module _ (given : Given) (env : Env) where
  abbrev pub here_at : List Inst → ℕ → Here → Here
  here_at is zero h = h
  here_at [] (suc p) h = h
  here_at (i ∷ is) (suc p) h = here_at is p (next_here given h i)

  abbrev pub next_at : List Inst → ℕ → Here → ℕ → ℕ
  next_at is zero h n = n
  next_at [] (suc p) h n = n
  next_at (i ∷ is) (suc p) h n = next_at is p (next_here given h i) (emit_op given env h i n i.op).next

  abbrev pub emit_at : List Inst → ℕ → Here → ℕ → Inst → Emitted
  emit_at is p h n i = emit_op given env (here_at is p h) i (next_at is p h n) i.op

  abbrev pub round_of : Emitted → Inst → List Inst
  round_of e i = e.before ++ i ∷ e.after

  abbrev pub code_of : List Inst → Here → ℕ → List Inst
  code_of is h n = (pass_insts given env is h n).code

  first_round : (i : Inst) (is : List Inst) (h : Here) (n : ℕ)
      → code_of (i ∷ is) h n ≡ round_of (emit_op given env h i n i.op) i ++ code_of is (next_here given h i) (emit_op given env h i n i.op).next
  first_round i is h n =
      let e = emit_op given env h i n i.op in sym (append_assoc e.before (i ∷ e.after) (code_of is (next_here given h i) e.next))

  -- where the lists round instruction p stand
  pub round_at : (is : List Inst) (p : ℕ) (i : Inst) (h : Here) (n : ℕ) → slice_get is p ≡ Some i
      → (rest : List Inst) × (code_of is h n ≡ code_of (take p is) h n ++ (round_of (emit_at is p h n i) i ++ rest))
  round_at [] p i h n at = grind arith
  round_at (j ∷ is) zero i h n at =
      let same : j ≡ i = ap (λ o. unwrap_or o j) at in
      let r = code_of is (next_here given h j) (emit_op given env h j n j.op).next in
      (r, first_round j is h n ∙ ap (λ k. round_of (emit_op given env h k n k.op) k ++ r) same)
  round_at (j ∷ is) (suc p) i h n at =
      let e = emit_op given env h j n j.op in
      let r = round_at is p i (next_here given h j) e.next at in
      let first = code_of (take p is) (next_here given h j) e.next in
      let here = round_of (emit_at is p (next_here given h j) e.next i) i ++ r.0 in (
        r.0,
        first_round j is h n ∙ ap (λ l. round_of e j ++ l) r.1 ∙ sym (append_assoc (round_of e j) first here)
            ∙ ap (λ l. l ++ here) (sym (first_round j (take p is) h n)),
      )

  -- each instruction stands in the lists round one
  pub in_round : (is : List Inst) (h : Here) (n q : ℕ) (j : Inst) → slice_get (code_of is h n) q ≡ Some j
      → (p : ℕ) × (i : Inst) × (r : ℕ) × (slice_get is p ≡ Some i) × (slice_get (round_of (emit_at is p h n i) i) r ≡ Some j) × (q ≡ length (code_of (take p is) h n) + r)
  in_round [] h n q j e = grind arith
  in_round (i ∷ is) h n q j e =
      let x = emit_op given env h i n i.op in
      ⊎_elim
      (λ l. (0, i, q, refl, l, omega arith))
      (λ r. let s = in_round is (next_here given h i) x.next r.0 j r.2 in
      (suc s.0, s.1, s.2, s.3, s.4, place (take s.0 is) r.0 s.2 r.1 s.5))
      (slice_either (round_of x i) (code_of is (next_here given h i) x.next) q j (ap (λ l. slice_get l q) (sym (first_round i is h n)) ∙ e))
    where
      place : (front : List Inst) (r s : ℕ) → q ≡ length (round_of (emit_op given env h i n i.op) i) + r
          → r ≡ length (code_of front (next_here given h i) (emit_op given env h i n i.op).next) + s → q ≡ length (code_of (i ∷ front) h n) + s
      place front r s a b =
          let x = emit_op given env h i n i.op in
          let c = code_of front (next_here given h i) x.next in
          let l : length (code_of (i ∷ front) h n) ≡ length (round_of x i) + length c = ap length (first_round i front h n) ∙ length-append (round_of x i) c in
          omega (arith, a, b, l)
