-- An ordinary instruction of a formed and valid module keeps its frame good.
use Rattle.std.proofs.Common.{◌≡◌, ℕ, zero, suc, ◌+◌, List, [], ◌∷◌, Bool, true, false, refl, sym, ap, subst, ◌∙◌, arith, inl, inr, ⊎_elim, true≢false, add-one}
use Rattle.std.specs.Prelude.{◌⊎◌, ◌<◌, ◌^◌, ◌||◌, ◌&&◌, not, Contains, length, take, Option, Some, None, option_map, unwrap_or, slice_get, if◌then◌else◌}
use Rattle.std.specs.List.{cons_option}
use Rattle.std.proofs.lemmas.Bool.{and_parts, or_cases}
use Rattle.ms_ir.specs.declared.syntax.Name.{Name}
use Rattle.ms_ir.specs.declared.syntax.Ty.{Ty}
use Rattle.ms_ir.specs.declared.syntax.Inst.{Inst}
use Rattle.ms_ir.specs.declared.syntax.Block.{Block}
use Rattle.ms_ir.specs.declared.syntax.Func.{Func}
use Rattle.ms_ir.specs.declared.syntax.Module.{Module}
use Rattle.ms_ir.specs.Names.{name_eq}
use Rattle.ms_ir.specs.Layout.{width_of}
use Rattle.ms_ir.specs.Instructions.{func_at, is_phi}
use Rattle.ms_runs.specs.Control.{Frame, put}
use Rattle.ms_ir.specs.Equal.{has_name}
use Rattle.ms_ir.specs.Written.{result_type}
use Rattle.ms_ir.specs.Locals.{results, value_type}
use Rattle.ms_ir.proofs.RootKinds.{name_same as name_sound}
use Rattle.ms_check_valid.specs.Paths.{insts_of, IsSet}
use Rattle.ms_check_valid.specs.FormedCode.{is_terminator, ends_well, is_body, name_formed, op_formed, inst_formed}
use Rattle.ms_check_valid.specs.Formed.{block_formed, func_formed, Formed}
use Rattle.ms_runs_good_laws.specs.GoodStates.{GoodFrame}
use Rattle.ms_check_valid.specs.Valid.{Valid}
use Rattle.ms_check_valid.proofs.NameTests.{name_same, name_within, within_name}
use Rattle.ms_runs_good_laws.proofs.Starts.{all_get, formed_insts}
use Rattle.ms_check_valid.proofs.TypedValues.{result_typed}
use Rattle.ms_check_valid.proofs.SmallNumbers.{some_inst, blocks_of}

-- ---- bodies

-- after an instruction that is no terminator stands another one
ends_later : (insts : List Inst) (p : ℕ) (i : Inst) → ends_well insts ≡ true → slice_get insts p ≡ Some i → is_terminator i.op ≡ false → suc p < length insts
ends_later [] p i w e t = grind arith
ends_later (j ∷ []) zero i w e t = absurd (true≢false (sym (ap (λ o. is_terminator (unwrap_or o j).op) (sym e) ∙ w) ∙ t))
ends_later (j ∷ []) (suc p) i w e t = grind arith
ends_later (j ∷ next ∷ rest) zero i w e t = omega arith
ends_later (j ∷ next ∷ rest) (suc p) i w e t = let later : suc p < length (next ∷ rest) = ends_later (next ∷ rest) p i (and_parts (not (is_terminator j.op) && not (is_phi j.op)) (ends_well (next ∷ rest)) w).1 e t in omega (arith, later)

body_later : (insts : List Inst) (p : ℕ) (i : Inst) → is_body insts ≡ true → slice_get insts p ≡ Some i → is_terminator i.op ≡ false → suc p < length insts
body_later [] p i w e t = grind arith
body_later (j ∷ rest) p i w e t = by_phi (is_phi j.op) w p e (λ h q d. body_later rest q i h d t)
  where
    by_phi : (b : Bool) → (if b then is_body rest else ends_well (j ∷ rest)) ≡ true → (q : ℕ) → slice_get (j ∷ rest) q ≡ Some i
        → (is_body rest ≡ true → (r : ℕ) → slice_get rest r ≡ Some i → suc r < length rest) → suc q < length (j ∷ rest)
    by_phi false h q d later = ends_later (j ∷ rest) q i h d t
    by_phi true h zero d later = omega (arith, some_inst rest h)
    by_phi true h (suc q) d later = omega (arith, later h q d)

-- ---- what is set

-- one instruction more has one result more
pub one_result_more : (insts : List Inst) (p : ℕ) (i : Inst) (x : Name) → slice_get insts p ≡ Some i → has_name (results (take (suc p) insts)) x ≡ true
    → (has_name (cons_option i.result []) x ≡ true) ⊎ (has_name (results (take p insts)) x ≡ true)
one_result_more [] p i x e h = grind arith
one_result_more (j ∷ rest) zero i x e h = inl (ap (λ o. has_name (cons_option (unwrap_or o j).result []) x) (sym e) ∙ h)
one_result_more (j ∷ rest) (suc p) i x e h = by_result j.result h (one_result_more rest p i x e)
  where
    by_result : (o : Option Name) → has_name (cons_option o (results (take (suc p) rest))) x ≡ true
        → (has_name (results (take (suc p) rest)) x ≡ true → (has_name (cons_option i.result []) x ≡ true) ⊎ (has_name (results (take p rest)) x ≡ true))
        → (has_name (cons_option i.result []) x ≡ true) ⊎ (has_name (cons_option o (results (take p rest))) x ≡ true)
    by_result None k later = later k
    by_result (Some y) k later = ⊎_elim
        (λ same. inr (ap (λ b. b || has_name (results (take p rest)) x) same))
        (λ d. ⊎_elim (λ l. inl l) (λ l. inr (ap (λ b. name_eq y x || b) l ∙ or_true (name_eq y x))) (later d))
        (or_cases (name_eq y x) (has_name (results (take (suc p) rest)) x) k)
      where
        or_true : (b : Bool) → (b || true) ≡ true
        or_true true = refl
        or_true false = refl

-- what is set after an instruction is its result, or was set before
set_before : (f : Func) (before : List ℕ) (b p : ℕ) (i : Inst) (x : Name) → slice_get (insts_of f b) p ≡ Some i → IsSet f before b (p + 1) x
    → (has_name (cons_option i.result []) x ≡ true) ⊎ IsSet f before b p x
set_before f before b p i x e set = ⊎_elim (λ h. inr (inl h)) (λ h. ⊎_elim (λ d. inr (inr (inl d)))
    (λ d. ⊎_elim (λ l. inl l) (λ l. inr (inr (inr (name_within (results (take p (insts_of f b))) x l))))
    (one_result_more (insts_of f b) p i x e (within_name (results (take (suc p) (insts_of f b))) x (subst (λ q. Contains (results (take q (insts_of f b))) x) (add-one p) d)))) h) set

-- ---- frames

-- a result has a name exactly where it has a type
pub named_typed : (t : Option Ty) (x : Name) → name_formed t (Some x) ≡ true → (u : Ty) × (t ≡ Some u)
named_typed None x e = absurd (true≢false (sym e))
named_typed (Some u) x e = (u, refl)

-- the block of an instruction
pub block_there : (f : Func) (b p : ℕ) (i : Inst) → slice_get (insts_of f b) p ≡ Some i → (k : Block) × (slice_get f.blocks b ≡ Some k) × (slice_get k.insts p ≡ Some i)
block_there f b p i e = by_block (slice_get f.blocks b) refl e
  where
    by_block : (o : Option Block) → slice_get f.blocks b ≡ o → slice_get (unwrap_or (option_map (λ k. k.insts) o) []) p ≡ Some i
        → (k : Block) × (slice_get f.blocks b ≡ Some k) × (slice_get k.insts p ≡ Some i)
    by_block None is h = grind arith
    by_block (Some k) is h = (k, is, h)

-- a word that is set is in range, and so is another that was set before
pub held : {V : Type 0} (holds : V → ℕ → Type 0) (t : Bool) (bound : ℕ) (v w : V) → (t ≡ true → holds v bound) → (t ≡ false → holds w bound) → holds (if t then v else w) bound
held holds true bound v w here there = here refl
held holds false bound v w here there = there refl

-- where an instruction of a good frame stands, as the form of its module has it
pub record Stands (m : Module) (f : Func) (b p : ℕ) (i : Inst) : Type 0 where
  pub block : Block
  pub at : slice_get f.blocks b ≡ Some block
  pub due : slice_get block.insts p ≡ Some i
  pub body : is_body (insts_of f b) ≡ true
  pub named : name_formed (result_type i.op) i.result ≡ true

pub stands_formed : (m : Module) → Formed m → (n : ℕ) (f : Func) → func_at m n ≡ Some f → (b p : ℕ) (i : Inst) → slice_get (insts_of f b) p ≡ Some i → Stands m f b p i
stands_formed m formed n f at b p i due =
    let there = block_there f b p i due in
    let blocks = blocks_of f (all_get func_formed m.funcs n f formed.functions at) in
    let insts = formed_insts there.0 (all_get block_formed f.blocks b there.0 blocks.1 there.1) in
    record {
      block = there.0;
      at = there.1;
      due = there.2;
      body = ap (λ o. is_body (unwrap_or (option_map (λ k. k.insts) o) [])) there.1 ∙ insts.0;
      named = (and_parts (op_formed i.op) (name_formed (result_type i.op) i.result) (all_get inst_formed there.0.insts p i insts.1 there.2)).1;
    }

-- two types of one value are the same
pub one_type : (a b : Ty) (o : Option Ty) → o ≡ Some a → o ≡ Some b → a ≡ b
one_type a b o e h = ap (λ q. unwrap_or q a) (sym e ∙ h)

-- a frame one instruction on, with the result of an instruction that is no terminator, is good where the result is in range
pub put_good : {V : Type 0} (holds : V → ℕ → Type 0) (m : Module) → Formed m → Valid m → (frame : Frame V) (good : GoodFrame holds m frame)
    → (i : Inst) → slice_get (insts_of good.func frame.block) frame.place ≡ Some i → is_terminator i.op ≡ false → (v : V)
    → ((x : Name) (t : Ty) → i.result ≡ Some x → result_type i.op ≡ Some t → holds v (2 ^ width_of t)) → GoodFrame holds m (put frame i.result v)
put_good {V} holds m formed valid frame good i due ends v fits = by_result i.result refl
  where
    f : Func
    f = good.func

    there : Stands m f frame.block frame.place i
    there = stands_formed m formed frame.func f good.stands frame.block frame.place i due

    later : suc frame.place < length (insts_of f frame.block)
    later = body_later (insts_of f frame.block) frame.place i there.body due ends

    by_result : (r : Option Name) → i.result ≡ r → GoodFrame holds m (put frame r v)
    by_result None e = record {
      func = f;
      stands = good.stands;
      before = good.before;
      path = good.path;
      place = omega (arith, later);
      after_phis = omega (arith, good.after_phis);
      words = λ x t set typed. ⊎_elim
          (λ h. absurd (true≢false (sym h ∙ ap (λ o. has_name (cons_option o []) x) e)))
          (λ s. good.words x t s typed) (set_before f good.before frame.block frame.place i x due set);
    }
    by_result (Some y) e = record {
      func = f;
      stands = good.stands;
      before = good.before;
      path = good.path;
      place = omega (arith, later);
      after_phis = omega (arith, good.after_phis);
      words = λ x t set typed. held holds (name_eq x y) (2 ^ width_of t) v (frame.values x)
          (λ same. result_holds x t same typed)
          (λ apart. ⊎_elim
          (λ h. absurd (true≢false (sym (is_result x (sym (ap (λ o. has_name (cons_option o []) x) e) ∙ h)) ∙ apart)))
          (λ s. good.words x t s typed) (set_before f good.before frame.block frame.place i x due set));
    }
      where
        is_result : (x : Name) → has_name (y ∷ []) x ≡ true → name_eq x y ≡ true
        is_result x h = ap (λ z. name_eq z y) (sym (name_sound y x (⊎_elim (λ k. k) (λ k. absurd (true≢false (sym k))) (or_cases (name_eq y x) false h)))) ∙ name_same y

        gives : (u : Ty) × (result_type i.op ≡ Some u)
        gives = named_typed (result_type i.op) y (ap (name_formed (result_type i.op)) (sym e) ∙ there.named)

        result_holds : (x : Name) (t : Ty) → name_eq x y ≡ true → value_type f x ≡ Some t → holds v (2 ^ width_of t)
        result_holds x t same typed =
            let type : gives.0 ≡ t = one_type gives.0 t (value_type f y)
            (result_typed m valid frame.func f good.stands frame.block frame.place there.block i y gives.0 there.at there.due e gives.1)
            (ap (value_type f) (sym (name_sound x y same)) ∙ typed) in
            subst (λ u. holds v (2 ^ width_of u)) type (fits y gives.0 e gives.1)
