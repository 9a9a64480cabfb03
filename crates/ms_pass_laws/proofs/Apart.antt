-- An instruction that is due in a good state uses no result of its own: each name of a function stands once, and what
-- is used is set on the path to the instruction.
use Rattle.std.proofs.Common.{◌≡◌, ◌≢◌, ℕ, zero, suc, ◌+◌, ◌≤◌, ◌<◌, List, [], ◌∷◌, ◌++◌, length, Bool, true, false, Option, Some, None, refl, sym, ap, ◌∙◌, subst, arith, inl, inr, true≢false}
use Rattle.std.specs.Prelude.{◌||◌, Contains, flat_map, take, eqb, if◌then◌else◌, unwrap_or, slice_get, slice_index_or}
use Rattle.std.specs.List.{cons_option}
use Rattle.ms_ir.specs.declared.syntax.Name.{Name}
use Rattle.ms_ir.specs.declared.syntax.Ty.{Ty}
use Rattle.ms_ir.specs.declared.syntax.Operand.{Operand}
use Rattle.ms_ir.specs.declared.syntax.Operand.TheVariants as operand
use Rattle.ms_ir.specs.declared.syntax.Op.{Op}
use Rattle.ms_ir.specs.declared.syntax.Op.TheVariants as op
use Rattle.ms_ir.specs.declared.syntax.Inst.{Inst}
use Rattle.ms_ir.specs.declared.syntax.Block.{Block}
use Rattle.ms_ir.specs.declared.syntax.Func.{Func}
use Rattle.ms_ir.specs.declared.syntax.Module.{Module}
use Rattle.ms_ir.specs.Names.{name_eq}
use Rattle.ms_ir.specs.Instructions.{operands, func_at, is_phi}
use Rattle.ms_runs.specs.Control.{Frame, rest_of}
use Rattle.ms_runs.specs.Poisoned.{Poisoned}
use Rattle.ms_ir.specs.Equal.{has_name}
use Rattle.ms_ir.specs.Locals.{results, block_locals, parameter_names, locals}
use Rattle.ms_ir.proofs.RootKinds.{name_same as name_sound}
use Rattle.ms_check_valid.specs.Paths.{insts_of, successors, Leads, Path, block_results, IsSet}
use Rattle.ms_check_valid.specs.NamesOnce.{repeats}
use Rattle.ms_check_valid.specs.Valid.{Valid}
use Rattle.ms_runs_good_laws.specs.GoodStates.{GoodFrames, PoisonedBelow}
use Rattle.ms_check_valid.proofs.NameTests.{name_same, within_name}
use Rattle.ms_check_valid.proofs.TypedValues.{names_stand_once}
use Rattle.ms_check_valid.proofs.SetValues.{operand_set}
use Rattle.ms_runs_good_laws.proofs.Frames.{top_good, due_first, same_insts}
use Rattle.ms_pass_tasks.specs.Known.{Apart, AllApart}
use Rattle.ms_pass_laws.specs.Known.{ApartFrames}
use Rattle.ms_pass_laws.proofs.Places.{insts_in}

-- ---- how often a name stands

-- how often a name stands in a list
unfoldable pub occurs : Name → List Name → ℕ
occurs x [] = 0
occurs x (y ∷ ys) = (if name_eq y x then 1 else 0) + occurs x ys

-- 1 where a test passes
unfoldable pub one_if : Bool → ℕ
one_if b = if b then 1 else 0

pub once : (x : Name) (seen xs : List Name) → repeats seen xs ≡ [] → occurs x xs + one_if (has_name seen x) ≤ 1
unfolding occurs one_if
once x seen [] e = by_seen (has_name seen x)
  where
    by_seen : (b : Bool) → 0 + (if b then 1 else 0) ≤ 1
    by_seen true = omega arith
    by_seen false = omega arith
once x seen (y ∷ rest) e = by_test (has_name seen y) refl e (λ r. once x (y ∷ seen) rest r)
  where
    by_name : has_name seen y ≡ false → (b : Bool) → name_eq y x ≡ b → occurs x rest + one_if (b || has_name seen x) ≤ 1 → (if b then 1 else 0) + occurs x rest + one_if (has_name seen x) ≤ 1
    by_name unseen true same h =
        let z : has_name seen x ≡ false = ap (has_name seen) (sym (name_sound y x same)) ∙ unseen in
        let k : one_if (has_name seen x) ≡ 0 = ap one_if z in omega (arith, h, k)
    by_name unseen false same h = omega (arith, h)

    by_test : (t : Bool) → has_name seen y ≡ t → (if t then y ∷ repeats (y ∷ seen) rest else repeats (y ∷ seen) rest) ≡ []
        → (repeats (y ∷ seen) rest ≡ [] → occurs x rest + one_if (has_name (y ∷ seen) x) ≤ 1) → (if name_eq y x then 1 else 0) + occurs x rest + one_if (has_name seen x) ≤ 1
    by_test true s e h = absurd (grind arith)
    by_test false s e h = by_name s (name_eq y x) refl (h e)

pub occurs_append : (x : Name) (xs ys : List Name) → occurs x (xs ++ ys) ≡ occurs x xs + occurs x ys
unfolding occurs
occurs_append x [] ys = omega arith
occurs_append x (y ∷ xs) ys = let r = occurs_append x xs ys in omega (arith, r)

has_occurs : (x : Name) (xs : List Name) → has_name xs x ≡ true → 1 ≤ occurs x xs
unfolding occurs
has_occurs x [] h = absurd (true≢false (sym h))
has_occurs x (y ∷ xs) h = by_name (name_eq y x) h (λ k. has_occurs x xs k)
  where
    by_name : (b : Bool) → (b || has_name xs x) ≡ true → (has_name xs x ≡ true → 1 ≤ occurs x xs) → 1 ≤ (if b then 1 else 0) + occurs x xs
    by_name true h later = omega arith
    by_name false h later = let r = later h in omega (arith, r)

contains_occurs : (x : Name) (xs : List Name) → Contains xs x → 1 ≤ occurs x xs
contains_occurs x xs h = has_occurs x xs (within_name xs x h)

-- ---- in a block

before_due : (x : Name) (l : List Inst) (p : ℕ) (i : Inst) → slice_get l p ≡ Some i → i.result ≡ Some x → occurs x (results (take p l)) + 1 ≤ occurs x (results l)
unfolding occurs
before_due x [] p i e r = absurd (grind arith)
before_due x (j ∷ l) zero i e r =
    let same : j.result ≡ Some x = ap (λ o. (unwrap_or o j).result) e ∙ r in
    subst (λ o. 0 + 1 ≤ occurs x (cons_option o (results l))) (sym same) (one (name_eq x x) (name_same x))
  where
    one : (b : Bool) → b ≡ true → 0 + 1 ≤ (if b then 1 else 0) + occurs x (results l)
    one true e = omega arith
    one false e = absurd (true≢false (sym e))
before_due x (j ∷ l) (suc p) i e r = by_result j.result (before_due x l p i e r)
  where
    by_result : (o : Option Name) → occurs x (results (take p l)) + 1 ≤ occurs x (results l) → occurs x (cons_option o (results (take p l))) + 1 ≤ occurs x (cons_option o (results l))
    by_result None h = h
    by_result (Some y) h = omega (arith, h)

-- ---- in a function

one_block : (x : Name) (bs : List Block) (b : ℕ) → occurs x (results (insts_in bs b)) ≤ occurs x (flat_map block_locals bs)
unfolding occurs
one_block x [] b = omega arith
one_block x (k ∷ bs) zero = let r = occurs_append x (results k.insts) (flat_map block_locals bs) in omega (arith, r)
one_block x (k ∷ bs) (suc b) =
    let r = occurs_append x (results k.insts) (flat_map block_locals bs) in let h = one_block x bs b in omega (arith, r, h)

two_blocks : (x : Name) (bs : List Block) (b c : ℕ) → b ≢ c → occurs x (results (insts_in bs b)) + occurs x (results (insts_in bs c)) ≤ occurs x (flat_map block_locals bs)
unfolding occurs
two_blocks x [] b c ne = omega arith
two_blocks x (k ∷ bs) zero zero ne = absurd (ne refl)
two_blocks x (k ∷ bs) zero (suc c) ne =
    let r = occurs_append x (results k.insts) (flat_map block_locals bs) in let h = one_block x bs c in omega (arith, r, h)
two_blocks x (k ∷ bs) (suc b) zero ne =
    let r = occurs_append x (results k.insts) (flat_map block_locals bs) in let h = one_block x bs b in omega (arith, r, h)
two_blocks x (k ∷ bs) (suc b) (suc c) ne =
    let r = occurs_append x (results k.insts) (flat_map block_locals bs) in let h = two_blocks x bs b c (λ e. ne (ap suc e)) in omega (arith, r, h)

-- ---- paths

leads_prefix : (f : Func) (from : ℕ) (rest : List ℕ) (last k c : ℕ) → Leads f from (rest ++ last ∷ []) → k < length rest → slice_index_or rest k c ≡ c → Leads f from (take k rest ++ c ∷ [])
leads_prefix f from [] last k c l lt e = absurd (omega (arith, lt))
leads_prefix f from (r ∷ rest) last zero c l lt e = (subst (Contains (successors f from)) e l.0, tt)
leads_prefix f from (r ∷ rest) last (suc k) c l lt e = (l.0, leads_prefix f r rest last k c l.1 (omega (arith, lt)) e)

path_prefix : (f : Func) (before : List ℕ) (last k c : ℕ) → Path f (before ++ last ∷ []) → k < length before → slice_index_or before k c ≡ c → Path f (take k before ++ c ∷ [])
path_prefix f [] last k c p lt e = absurd (omega (arith, lt))
path_prefix f (b ∷ rest) last zero c p lt e = (sym e ∙ p.0, tt)
path_prefix f (b ∷ rest) last (suc k) c p lt e = (p.0, leads_prefix f b rest last k c p.1 (omega (arith, lt)) e)

take_short : (k : ℕ) (l : List ℕ) → k < length l → length (take k l) ≤ k
take_short zero l lt = omega arith
take_short (suc k) [] lt = omega arith
take_short (suc k) (x ∷ l) lt = let r = take_short k l (omega (arith, lt)) in omega (arith, r)

-- ---- an instruction that is due

module _ (m : Module) (valid : Valid m) (n b p : ℕ) (f : Func) (i : Inst) (at : func_at m n ≡ Some f) (due : slice_get (insts_of f b) p ≡ Some i) (plain : is_phi i.op ≡ false)
    (x : Name) (named : i.result ≡ Some x) where
  all_once : occurs x (parameter_names f) + occurs x (flat_map block_locals f.blocks) ≤ 1
  all_once =
      let h = once x [] (locals f) (names_stand_once m valid n f at) in
      let r = occurs_append x (parameter_names f) (flat_map block_locals f.blocks) in omega (arith, h, r)

  own_one : occurs x (results (take p (insts_of f b))) + 1 ≤ occurs x (results (insts_of f b))
  own_one = before_due x (insts_of f b) p i due named

  no_parameter : Contains (parameter_names f) x → ⊥
  no_parameter h =
      let c = contains_occurs x (parameter_names f) h in let o = one_block x f.blocks b in let a = all_once in let w = own_one in omega (arith, c, o, a, w)

  not_before : Contains (results (take p (insts_of f b))) x → ⊥
  not_before h =
      let c = contains_occurs x (results (take p (insts_of f b))) h in let o = one_block x f.blocks b in let a = all_once in let w = own_one in omega (arith, c, o, a, w)

  one_place : (c : ℕ) → Contains (block_results f c) x → c ≡ b
  one_place c h = by_test (eqb c b) refl
    where
      by_test : (t : Bool) → eqb c b ≡ t → c ≡ b
      by_test true e = grind arith
      by_test false e =
          let ne : c ≢ b = λ q. true≢false (sym (ap (λ k. eqb k b) q ∙ self b) ∙ e) in
          let k = contains_occurs x (block_results f c) h in let o = two_blocks x f.blocks c b ne in let a = all_once in let w = own_one in absurd (omega (arith, k, o, a, w))
        where
          self : (k : ℕ) → eqb k k ≡ true
          self k = grind arith

  no_own : (t : Ty) → Contains (operands i.op) (t, operand.Local x) → (bound : ℕ) (before : List ℕ) → length before ≤ bound → Path f (before ++ b ∷ []) → ⊥
  no_own t has zero before le path = by_set (operand_set m valid n b p f i at (ap (λ l. slice_get l p) (same_insts m n f b at) ∙ due) plain t x has before path)
    where
      by_set : IsSet f before b p x → ⊥
      by_set (inl own) = no_parameter own
      by_set (inr (inr here)) = not_before here
      by_set (inr (inl a)) = omega (arith, le, a.2)
  no_own t has (suc bound) before le path =
      by_set (λ l q path. no_own t has bound l q path) (operand_set m valid n b p f i at (ap (λ l. slice_get l p) (same_insts m n f b at) ∙ due) plain t x has before path)
    where
      by_set : ((l : List ℕ) → length l ≤ bound → Path f (l ++ b ∷ []) → ⊥) → IsSet f before b p x → ⊥
      by_set again (inl own) = no_parameter own
      by_set again (inr (inr here)) = not_before here
      by_set again (inr (inl a)) =
          let same : a.1 ≡ b = one_place a.1 a.4 in
          let short = take_short a.0 before a.2 in
          again (take a.0 before) (omega (arith, le, short, a.2)) (subst (λ c. Path f (take a.0 before ++ c ∷ [])) same (path_prefix f before b a.0 a.1 path a.2 a.3))

-- no operand is the result
all_apart : (x : Name) (os : List (Ty × Operand)) → ((t : Ty) → Contains os (t, operand.Local x) → ⊥) → AllApart (Some x) os
all_apart x [] h = tt
all_apart x (o ∷ os) h = (one o.1 refl, all_apart x os (λ t c. h t (suc c.0, omega (arith, c.1), c.2)))
  where
    one : (q : Operand) → o.1 ≡ q → Apart x q
    one (operand.Local y) e = λ same. h o.0 (0, omega arith, λ j. (o.0, (e ∙ ap operand.Local same) j))
    one _ e = tt

no_phi : (o : Op) → is_phi o ≡ false → is_phi o ≡ false
no_phi (op.Phi t es) e = absurd (true≢false e)
no_phi _ e = refl

-- so in a good state what is due doesn't use its own result
pub good_apart : (m : Module) → Valid m → (fs : List (Frame Poisoned)) → GoodFrames PoisonedBelow m fs → ApartFrames m fs
good_apart m valid [] good = tt
good_apart m valid (fr ∷ below) good = λ i is e plain. by_result i is e plain
  where
    by_result : (i : Inst) (is : List Inst) → rest_of m fr ≡ i ∷ is → is_phi i.op ≡ false → AllApart i.result (operands i.op)
    by_result i is e plain = named i.result refl
      where
        named : (x : Option Name) → i.result ≡ x → AllApart x (operands i.op)
        named None e2 = tt
        named (Some x) e2 =
            let g = top_good PoisonedBelow m fr below good in
            all_apart x (operands i.op) (λ t has.
            no_own m valid fr.func fr.block fr.place g.func i g.stands (due_first PoisonedBelow m fr g i is e) (no_phi i.op plain) x e2 t has (length g.before) g.before (omega arith) g.path)
