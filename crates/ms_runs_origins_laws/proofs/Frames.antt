-- Words of frames whose origins lead back.
use Rattle.std.proofs.Common.{◌≡◌, ℕ, zero, suc, ◌+◌, ◌%◌, ◌^◌, ◌<◌, ◌≤◌, List, [], ◌∷◌, map, take, length, get_or, Contains, Bool, true, false, Option, Some, None, unwrap_or, slice_get, refl, ap, subst, arith, if◌then◌else◌}
use Rattle.ms_ir.specs.declared.syntax.Name.{Name}
use Rattle.ms_ir.specs.declared.syntax.Name.TheVariants.{Number}
use Rattle.ms_ir.specs.declared.syntax.Ty.{Ty}
use Rattle.ms_ir.specs.declared.syntax.Operand.{Operand}
use Rattle.ms_ir.specs.declared.syntax.Operand.TheVariants as operand
use Rattle.ms_ir.specs.declared.syntax.Op.{Op}
use Rattle.ms_ir.specs.declared.syntax.Op.TheVariants as op
use Rattle.ms_ir.specs.declared.syntax.Inst.{Inst}
use Rattle.ms_ir.specs.Names.{name_eq}
use Rattle.ms_ir.specs.Layout.{width_of}
use Rattle.ms_runs.specs.World.{Setting}
use Rattle.ms_ir.specs.Instructions.{one_undef, count_undefs, over_insts, roots_in}
use Rattle.ms_runs.specs.Control.{Frame, read_all, with_value, put, read_edge, phis, count_phis, bind}
use Rattle.ms_runs.specs.Poisoned.{Poisoned, clean}
use Rattle.ms_runs.specs.Masks.{word_at}
use Rattle.ms_runs.specs.Shadow.{read_poisoned}
use Rattle.ms_runs_good_laws.specs.Reached.{edge_root}

-- ---- words

-- a word with a poisoned bit has an origin of a kind
abbrev pub Holds : (ℕ → Type 0) → Poisoned → Type 0
Holds back p = ¬ (p.mask ≡ 0) → back p.origin

-- so have all results of a frame
abbrev pub ValuesHold : (ℕ → Type 0) → (Name → Poisoned) → Type 0
ValuesHold back values = (x : Name) → Holds back (values x)

clean_holds : (back : ℕ → Type 0) → Holds back clean
clean_holds back ne = absurd (ne refl)

uncut : (m w : ℕ) → ¬ (m % 2 ^ w ≡ 0) → ¬ (m ≡ 0)
uncut m w ne e = ne (zero_cut m (2 ^ w) e)
  where
    zero_cut : (m n : ℕ) → m ≡ 0 → m % n ≡ 0
    zero_cut m n e = grind (arith, e)

module _ (s : Setting) (values : Name → Poisoned) (back : ℕ → Type 0) (hold : ValuesHold back values) where
  -- what is read of an operand; an undefined one is the root after the n before it
  pub read_holds : (n : ℕ) (t : Ty) (o : Operand) → (one_undef o ≡ 1 → back (n + 1)) → Holds back (read_poisoned s values n t o)
  read_holds n t operand.Undef h ne = h refl
  read_holds n t operand.Poison h ne = h refl
  read_holds n t (operand.Local x) h ne = hold x (uncut (values x).mask (width_of t) ne)
  read_holds n t (operand.Int v) h ne = absurd (ne refl)
  read_holds n t operand.Null h ne = absurd (ne refl)
  read_holds n t (operand.Global x) h ne = absurd (ne refl)
  read_holds n t (operand.Offset x steps) h ne = absurd (ne refl)

  -- the words of an instruction's operands, whose undefined ones are roots of this kind
  pub all_hold : (os : List (Ty × Operand)) (n : ℕ) → ((id : ℕ) → n < id → id ≤ n + count_undefs os → back id) → (k : ℕ) → Holds back (word_at k (read_all (read_poisoned s values) os n))
  all_hold [] n h k = clean_holds back
  all_hold (o ∷ os) n h zero = read_holds n o.0 o.1 (λ e. h (n + 1) (omega arith) (omega (arith, e)))
  all_hold (o ∷ os) n h (suc k) = all_hold os (n + one_undef o.1) (λ id l g. h id (omega (arith, l)) (omega (arith, g))) k

  -- the word of a phi, or the root that its edge is
  pub edge_holds : (t : Ty) (from : Name) (es : List (Operand × Name)) (n : ℕ)
      → ((id : ℕ) → 0 < id → id ≡ read_edge (λ j u o. edge_root j o) 0 t from es n → n < id → id ≤ n + count_undefs (map (λ e. (t, e.0)) es) → back id)
      → Holds back (read_edge (read_poisoned s values) clean t from es n)
  edge_holds t from [] n h = clean_holds back
  edge_holds t from (e ∷ es) n h =
      by_test (name_eq e.1 from) h (λ g. edge_holds t from es (n + one_undef e.0) g)
    where
      root_is : (o : Operand) → one_undef o ≡ 1 → n + 1 ≡ edge_root n o
      root_is operand.Undef e = refl
      root_is operand.Poison e = refl
      root_is (operand.Local x) e = grind arith
      root_is (operand.Int v) e = grind arith
      root_is operand.Null e = grind arith
      root_is (operand.Global x) e = grind arith
      root_is (operand.Offset x steps) e = grind arith

      by_test : (b : Bool)
          → ((id : ℕ) → 0 < id → id ≡ (if b then edge_root n e.0 else read_edge (λ j u o. edge_root j o) 0 t from es (n + one_undef e.0)) → n < id → id ≤ n + (one_undef e.0 + count_undefs (map (λ d. (t, d.0)) es)) → back id)
          → (((id : ℕ) → 0 < id → id ≡ read_edge (λ j u o. edge_root j o) 0 t from es (n + one_undef e.0) → n + one_undef e.0 < id → id ≤ n + one_undef e.0 + count_undefs (map (λ d. (t, d.0)) es) → back id)
          → Holds back (read_edge (read_poisoned s values) clean t from es (n + one_undef e.0)))
          → Holds back (if b then read_poisoned s values n t e.0 else read_edge (read_poisoned s values) clean t from es (n + one_undef e.0))
      by_test true g later = read_holds n t e.0 (λ u. g (n + 1) (omega arith) (root_is e.0 u) (omega arith) (omega (arith, u)))
      by_test false g later = later (λ id a c l k. g id a c (omega (arith, l)) (omega (arith, k)))

set_holds : (back : ℕ → Type 0) (values : Name → Poisoned) (x : Name) (v : Poisoned) → ValuesHold back values → Holds back v → ValuesHold back (with_value values x v)
set_holds back values x v h g y = by_test (name_eq y x)
  where
    by_test : (t : Bool) → Holds back (if t then v else values y)
    by_test true = g
    by_test false = h y

-- a result that is put
pub put_holds : (back : ℕ → Type 0) (frame : Frame Poisoned) (x : Option Name) (v : Poisoned) → ValuesHold back frame.values → Holds back v → ValuesHold back (put frame x v).values
put_holds back frame None v h g = h
put_holds back frame (Some x) v h g = set_holds back frame.values x v h g

-- parameters
pub bind_holds : (back : ℕ → Type 0) (params : List (Ty × Name)) (words : List Poisoned) → ((k : ℕ) → Holds back (word_at k words)) → ValuesHold back (bind clean params words)
bind_holds back [] words h = λ x. clean_holds back
bind_holds back (p ∷ ps) [] h = λ x. clean_holds back
bind_holds back (p ∷ ps) (v ∷ words) h = set_holds back (bind clean ps words) p.1 v (bind_holds back ps words (λ k. h (suc k))) (h 0)

-- the word that is returned
pub first_holds : (back : ℕ → Type 0) (words : List Poisoned) → ((k : ℕ) → Holds back (word_at k words)) → Holds back (get_or words 0 clean)
first_holds back [] h = clean_holds back
first_holds back (p ∷ ps) h = h 0

-- the results of phis
pub phis_hold : (back : ℕ → Type 0) (read : ℕ → Ty → Operand → Poisoned) (func : Name → Option ℕ) (from : Name) (is : List Inst) (n : ℕ) (values : Name → Poisoned)
    → ((p : ℕ) (i : Inst) (t : Ty) (edges : List (Operand × Name)) → slice_get is p ≡ Some i → p < count_phis is → i.op ≡ op.Phi t edges → Holds back (read_edge read clean t from edges (n + over_insts (roots_in func) (take p is))))
    → ValuesHold back values → ValuesHold back (phis read clean func from is n values)
phis_hold back read func from [] n values h g = g
phis_hold back read func from (i ∷ is) n values h g = by_op i.op refl (λ k v a b. phis_hold back read func from is k v a b)
  where
    nothing : (n : ℕ) → n + 0 ≡ n
    nothing n = omega arith

    more : (a b : ℕ) → n + (a + b) ≡ n + a + b
    more a b = omega arith

    counts : (o : Op) (t : Ty) (edges : List (Operand × Name)) → o ≡ op.Phi t edges → elim o [ op.Phi u es ↦ suc (count_phis is) | _ ↦ 0 ] ≡ suc (count_phis is)
    counts o t edges e = ap (λ q. elim q [ op.Phi u es ↦ suc (count_phis is) | _ ↦ 0 ]) e

    by_op : (o : Op) → i.op ≡ o
        → ((k : ℕ) (v : Name → Poisoned) → ((p : ℕ) (j : Inst) (t : Ty) (edges : List (Operand × Name)) → slice_get is p ≡ Some j → p < count_phis is → j.op ≡ op.Phi t edges → Holds back (read_edge read clean t from edges (k + over_insts (roots_in func) (take p is))))
        → ValuesHold back v → ValuesHold back (phis read clean func from is k v))
        → ValuesHold back (elim o [
          | op.Phi t edges ↦ phis read clean func from is (n + roots_in func i) (with_value values (unwrap_or i.result (Number 0)) (read_edge read clean t from edges n))
          | _ ↦ values
        ])
    by_op (op.Phi t edges) e rest =
        rest (n + roots_in func i) (with_value values (unwrap_or i.result (Number 0)) (read_edge read clean t from edges n))
        (λ p j u es at l is_phi. subst (λ k. Holds back (read_edge read clean u from es k)) (more (roots_in func i) (over_insts (roots_in func) (take p is))) (h (suc p) j u es at (omega (arith, l, counts i.op t edges e)) is_phi))
        (set_holds back values (unwrap_or i.result (Number 0)) (read_edge read clean t from edges n) g
        (subst (λ k. Holds back (read_edge read clean t from edges k)) (nothing n) (h 0 i t edges refl (omega (arith, counts i.op t edges e)) e)))
    by_op _ e rest = g

-- ---- frames

-- all frames have results with origins of a kind
abbrev pub FramesHold : (ℕ → Type 0) → List (Frame Poisoned) → Type 0
FramesHold back [] = Unit {0}
FramesHold back (frame ∷ below) = ValuesHold back frame.values × FramesHold back below

-- and of a wider kind
pub frames_weaker : (back more : ℕ → Type 0) → ((id : ℕ) → back id → more id) → (fs : List (Frame Poisoned)) → FramesHold back fs → FramesHold more fs
frames_weaker back more f [] h = tt
frames_weaker back more f (frame ∷ below) h = (λ x ne. f (frame.values x).origin (h.0 x ne), frames_weaker back more f below h.1)

-- so has each frame that a state contains
pub each_holds : (back : ℕ → Type 0) (fs : List (Frame Poisoned)) → FramesHold back fs → (frame : Frame Poisoned) → Contains fs frame → ValuesHold back frame.values
each_holds back [] h x within = absurd (omega (arith, within.1))
each_holds back (frame ∷ below) h x within = by_place within.0 within.1 within.2 (λ k. each_holds back below h.1 x k)
  where
    by_place : (k : ℕ) → k < length (frame ∷ below) → get_or (frame ∷ below) k x ≡ x → (Contains below x → ValuesHold back x.values) → ValuesHold back x.values
    by_place zero l e later = subst (λ f. ValuesHold back f.values) e h.0
    by_place (suc k) l e later = later (k, omega (arith, l), e)
