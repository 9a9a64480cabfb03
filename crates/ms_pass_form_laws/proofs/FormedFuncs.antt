-- The instrumented form of a formed function is formed.
use Rattle.std.proofs.Common.{◌≡◌, ℕ, suc, List, [], ◌∷◌, ◌++◌, Bool, true, Option, Some, None, refl, sym, ap, subst, ◌∙◌, arith, inl, inr, ⊎_elim, true≢false}
use Rattle.std.specs.Prelude.{◌&&◌, nat_lt, map, flat_map, length, slice_get, unwrap_or, option_map}
use Rattle.std.specs.List.{list_all, cons_option}
use Rattle.std.proofs.Math.Path.{ap₂}
use Rattle.ms_ir.specs.declared.syntax.Name.{Name}
use Rattle.ms_ir.specs.declared.syntax.Ty.{Ty}
use Rattle.ms_ir.specs.declared.syntax.Operand.{Operand}
use Rattle.ms_ir.specs.declared.syntax.Op.TheVariants as op
use Rattle.ms_ir.specs.declared.syntax.Inst.{Inst}
use Rattle.ms_ir.specs.declared.syntax.Block.{Block}
use Rattle.ms_ir.specs.declared.syntax.Func.{Func}
use Rattle.ms_ir.specs.declared.syntax.Module.{Module}
use Rattle.ms_runs.specs.World.{Here}
use Rattle.ms_ir.specs.Instructions.{operands}
use Rattle.ms_ir.specs.Written.{result_type}
use Rattle.ms_ir.specs.Locals.{results, block_locals, parameter_names, locals, value_type}
use Rattle.ms_check_valid.specs.Paths.{insts_of}
use Rattle.ms_check_valid.specs.Formed.{block_formed, func_formed}
use Rattle.ms_check_valid.specs.FormedNames.{is_local_name, is_global_name, are_numbered}
use Rattle.ms_check_valid.specs.FormedCode.{is_value_type, result_formed, operand_formed, shape_formed, op_formed, name_formed, inst_formed, is_body, ends_well}
use Rattle.ms_check_valid.proofs.NameTests.{name_within}
use Rattle.ms_pass_tasks.specs.Environments.{Env, Given}
use Rattle.ms_pass_laws.specs.Pass.{here_after, pass_blocks, enter_block}
use Rattle.ms_pass_laws.proofs.Marked.{AllInserted}
use Rattle.ms_pass_laws.proofs.NumberedValues.{value_local}
use Rattle.ms_pass_tasks.specs.PassLists.{pass_insts}
use Rattle.ms_ir.specs.Layout.{width_of}
use Rattle.ms_pass_form_laws.proofs.Paths.{In, to_in, in_either}
use Rattle.ms_pass_form_laws.proofs.PassPaths.{taken, entry_inserted, passed}
use Rattle.ms_pass_form_laws.proofs.OncePass.{names_known}
use Rattle.ms_pass_form_laws.proofs.Placed.{KnownAt}
use Rattle.ms_pass_form_laws.proofs.PhiClauses.{mask_labels, origin_labels}
use Rattle.ms_pass_form_laws.proofs.Numerals.{msan_formed}
use Rattle.ms_pass_form_laws.proofs.Inserted.{ConstGood}
use Rattle.ms_pass_form_laws.proofs.FuncFits.{PhiFits, StandsAt, all_stand}
use Rattle.ms_pass_form_laws.proofs.FuncClauses.{FuncReady}
use Rattle.ms_pass_form_laws.proofs.Orders.{body_kept, entry_body}
use Rattle.ms_pass_form_laws.proofs.FormedInsts.{inserted_formed}
use Rattle.ms_pass_form_laws.proofs.FormedRest.{phi_formed}
use Rattle.ms_pass_form_laws.proofs.Numbered.{numbered_kept}
use Rattle.std.proofs.lemmas.List.{length-map}
use Rattle.std.proofs.lemmas.Bool.{and_parts}

-- ---- names of a formed function

param_named : (ps : List (Ty × Name)) (x : Name) → list_all (λ p. is_value_type p.0 && is_local_name p.1) ps ≡ true → In (map (λ p. p.1) ps) x → is_local_name x ≡ true
param_named [] x e i = absurd i
param_named (p ∷ ps) x e (inl s) =
    let h = and_parts (is_value_type p.0 && is_local_name p.1) (list_all (λ p. is_value_type p.0 && is_local_name p.1) ps) e in
    subst (λ y. is_local_name y ≡ true) s (and_parts (is_value_type p.0) (is_local_name p.1) h.0).1
param_named (p ∷ ps) x e (inr i) =
    param_named ps x (and_parts (is_value_type p.0 && is_local_name p.1) (list_all (λ p. is_value_type p.0 && is_local_name p.1) ps) e).1 i

result_named : (t : Option Ty) (r : Option Name) (x : Name) → name_formed t r ≡ true → r ≡ Some x → is_local_name x ≡ true
result_named None None x e s = grind arith
result_named None (Some y) x e s = absurd (true≢false (sym e))
result_named (Some t) None x e s = absurd (true≢false (sym e))
result_named (Some t) (Some y) x e s = ap is_local_name (sym (ap (λ o. unwrap_or o y) s)) ∙ e

insts_named : (is : List Inst) (x : Name) → list_all inst_formed is ≡ true → In (results is) x → is_local_name x ≡ true
insts_named [] x e i = absurd i
insts_named (k ∷ is) x e i = by_result k.result refl i (insts_named is x (and_parts (inst_formed k) (list_all inst_formed is) e).1)
  where
    by_result : (o : Option Name) → k.result ≡ o → In (cons_option o (results is)) x → (In (results is) x → is_local_name x ≡ true) → is_local_name x ≡ true
    by_result None s h go = go h
    by_result (Some y) s (inl q) go =
        result_named (result_type k.op) k.result x (and_parts (op_formed k.op) (name_formed (result_type k.op) k.result) (and_parts (inst_formed k) (list_all inst_formed is) e).0).1 (s ∙ ap Some q)
    by_result (Some y) s (inr h) go = go h

blocks_named : (bs : List Block) (x : Name) → list_all block_formed bs ≡ true → In (flat_map block_locals bs) x → is_local_name x ≡ true
blocks_named [] x e i = absurd i
blocks_named (b ∷ bs) x e i =
    let h = and_parts (block_formed b) (list_all block_formed bs) e in
    let k = and_parts (is_local_name b.name && is_body b.insts) (list_all inst_formed b.insts) h.0 in
    let n = and_parts (is_local_name b.name) (is_body b.insts) k.0 in
    ⊎_elim (λ own. by_own own n.0 (insts_named b.insts x k.1)) (λ later. blocks_named bs x h.1 later) (in_either (b.name ∷ results b.insts) (flat_map block_locals bs) x i)
  where
    by_own : In (b.name ∷ results b.insts) x → is_local_name b.name ≡ true → (In (results b.insts) x → is_local_name x ≡ true) → is_local_name x ≡ true
    by_own (inl s) q go = subst (λ y. is_local_name y ≡ true) s q
    by_own (inr r) q go = go r

all_from : (p : Inst → Bool) (is : List Inst) → ((q : ℕ) (i : Inst) → slice_get is q ≡ Some i → p i ≡ true) → list_all p is ≡ true
all_from p [] h = refl
all_from p (i ∷ is) h = ap₂ (λ a b. a && b) (h 0 i refl) (all_from p is (λ q k e. h (suc q) k e))

module _ (m j : Module) (given : Given) (env : Env) (size : ℕ) (f : Func) (h : Here) (n : ℕ) (r : FuncReady given env size f h n (ConstGood m j)) (w : func_formed f ≡ true)
    (ends : (k : Block) → slice_get f.blocks 0 ≡ Some k → ends_well k.insts ≡ true)
    (own : (b p : ℕ) (i : Inst) → slice_get (insts_of f b) p ≡ Some i → inst_formed i ≡ true) where
  abbrev g : Func
  g = passed given env f h n

  numbered : are_numbered (locals f) ≡ true
  numbered = (and_parts _ (are_numbered (locals f)) w).1

  with_blocks : (is_global_name f.name && result_formed f.ret && list_all (λ p. is_value_type p.0 && is_local_name p.1) f.params && nat_lt 0 (length f.blocks)) ≡ true
  with_blocks = (and_parts (is_global_name f.name && result_formed f.ret && list_all (λ p. is_value_type p.0 && is_local_name p.1) f.params && nat_lt 0 (length f.blocks)) (list_all block_formed f.blocks)
      (and_parts _ (are_numbered (locals f)) w).0).0

  formed_all : list_all block_formed f.blocks ≡ true
  formed_all = (and_parts (is_global_name f.name && result_formed f.ret && list_all (λ p. is_value_type p.0 && is_local_name p.1) f.params && nat_lt 0 (length f.blocks)) (list_all block_formed f.blocks)
      (and_parts _ (are_numbered (locals f)) w).0).1

  front : (is_global_name f.name && result_formed f.ret && list_all (λ p. is_value_type p.0 && is_local_name p.1) f.params) ≡ true
  front = (and_parts _ (nat_lt 0 (length f.blocks)) with_blocks).0

  own_named : (x : Name) → In (locals f) x → is_local_name x ≡ true
  own_named x i =
      ⊎_elim (λ l. param_named f.params x (and_parts (is_global_name f.name && result_formed f.ret) _ front).1 l) (λ k. blocks_named f.blocks x formed_all k)
      (in_either (parameter_names f) (flat_map block_locals f.blocks) x i)

  value_named : (x : Name) (t : Ty) → value_type g x ≡ Some t → is_local_name x ≡ true
  value_named x t e =
      ⊎_elim (λ i. own_named x i) (λ k. ap is_local_name k.1 ∙ msan_formed k.0)
      (names_known given env size r.one r.few f h n r.room r.once r.free x (to_in (locals g) x (name_within (locals g) x (value_local g x t e))))

  labels_same : (b : ℕ) (i : Inst) (k : PhiFits env f g b i) → map (λ e. e.1) k.edges ≡ map (λ e. e.1) k.own_edges
  labels_same b i k =
      ⊎_elim (λ e. ap (λ l. map (λ e. e.1) l) e ∙ mask_labels env (width_of k.own_ty) k.own_edges) (λ e. ap (λ l. map (λ e. e.1) l) e ∙ origin_labels env k.root k.own_edges k.own_edges) k.made

  phi_is_formed : (b : ℕ) (i : Inst) → PhiFits env f g b i → inst_formed i ≡ true
  phi_is_formed b i k =
      let e = subst (λ o. op_formed o ≡ true) k.own (and_parts (op_formed k.phi.op) _ (own b k.place k.phi k.at)).0 in
      let two = and_parts (shape_formed (op.Phi k.own_ty k.own_edges) && list_all (λ a. operand_formed a.0 a.1) (operands (op.Phi k.own_ty k.own_edges))) (list_all is_local_name (map (λ e. e.1) k.own_edges)) e in
      let shape = (and_parts (shape_formed (op.Phi k.own_ty k.own_edges)) _ two.0).0 in
      let some = (and_parts (is_value_type k.own_ty) (nat_lt 0 (length k.own_edges)) shape).1 in
      let lengths : length k.edges ≡ length k.own_edges =
      sym (length-map k.edges (λ (e : Operand × Name). e.1)) ∙ ap length (labels_same b i k) ∙ length-map k.own_edges (λ (e : Operand × Name). e.1) in
      ap inst_formed k.is
      ∙ phi_formed g value_named k.ty k.edges k.number k.typed (ap (λ l. nat_lt 0 l) lengths ∙ some) (ap (list_all is_local_name) (labels_same b i k) ∙ two.1) k.fits

  each_formed : (b q : ℕ) (i : Inst) → slice_get (insts_of g b) q ≡ Some i → inst_formed i ≡ true
  each_formed b q i e = by_stand (all_stand given env size r.one r.few f h n (ConstGood m j) r.entry r.room r.once r.free r.good r.masked r.phi_good b q i e)
    where
      by_stand : StandsAt given env size r.one r.few f h n (ConstGood m j) r.entry r.room r.once r.free r.good r.masked r.phi_good b q i → inst_formed i ≡ true
      by_stand (inl k) = inserted_formed m j (KnownAt (passed given env f h n) b q) (λ x t d. value_named x t d.0) i k
      by_stand (inr (inl k)) = phi_is_formed b i k
      by_stand (inr (inr k)) = own b k.place i k.at

  blocks_formed : (bs : List Block) (k : Here) (m : ℕ) → list_all block_formed bs ≡ true
      → ((b q : ℕ) (i : Inst) → slice_get (unwrap_or (option_map (λ x. x.insts) (slice_get (pass_blocks given env bs k m) b)) []) q ≡ Some i → inst_formed i ≡ true)
      → list_all block_formed (pass_blocks given env bs k m) ≡ true
  blocks_formed [] k m e each = refl
  blocks_formed (b ∷ bs) k m e each =
      let y = pass_insts given env b.insts k m in
      let p = and_parts (block_formed b) (list_all block_formed bs) e in
      let q = and_parts (is_local_name b.name) (is_body b.insts) (and_parts (is_local_name b.name && is_body b.insts) (list_all inst_formed b.insts) p.0).0 in
      ap₂ (λ c d. c && d) (ap₂ (λ c d. c && d) (ap₂ (λ c d. c && d) q.0 (body_kept given env b.insts k m q.1)) (all_from inst_formed y.code (each 0)))
      (blocks_formed bs (here_after given k b.insts) y.next p.1 (λ c a i s. each (suc c) a i s))

  -- the first block stands after what is taken at the entry
  entered_formed : (code : List Inst) (bs : List Block) (k : Here) (m : ℕ) → AllInserted code → list_all block_formed bs ≡ true → ((b : Block) → slice_get bs 0 ≡ Some b → ends_well b.insts ≡ true)
      → ((b q : ℕ) (i : Inst) → slice_get (unwrap_or (option_map (λ x. x.insts) (slice_get (enter_block code (pass_blocks given env bs k m)) b)) []) q ≡ Some i → inst_formed i ≡ true)
      → list_all block_formed (enter_block code (pass_blocks given env bs k m)) ≡ true
  entered_formed code [] k m a e first each = refl
  entered_formed code (b ∷ bs) k m a e first each =
      let y = pass_insts given env b.insts k m in
      let p = and_parts (block_formed b) (list_all block_formed bs) e in
      let q = and_parts (is_local_name b.name) (is_body b.insts) (and_parts (is_local_name b.name && is_body b.insts) (list_all inst_formed b.insts) p.0).0 in
      ap₂ (λ c d. c && d) (ap₂ (λ c d. c && d) (ap₂ (λ c d. c && d) q.0 (entry_body given env code b.insts k m a (first b refl))) (all_from inst_formed (code ++ y.code) (each 0)))
      (blocks_formed bs (here_after given k b.insts) y.next p.1 (λ c a i s. each (suc c) a i s))

  entered_many : (code : List Inst) (bs : List Block) → length (enter_block code bs) ≡ length bs
  entered_many code [] = refl
  entered_many code (b ∷ bs) = refl

  blocks_many : (bs : List Block) (k : Here) (m : ℕ) → length (pass_blocks given env bs k m) ≡ length bs
  blocks_many [] k m = refl
  blocks_many (b ∷ bs) k m = let e = blocks_many bs (here_after given k b.insts) (pass_insts given env b.insts k m).next in omega (arith, e)

  -- a function's instrumented form is formed
  pub func_stays_formed : func_formed (passed given env f h n) ≡ true
  func_stays_formed =
      ap₂ (λ c d. c && d)
      (ap₂ (λ c d. c && d)
      (ap (λ l. is_global_name f.name && result_formed f.ret && list_all (λ p. is_value_type p.0 && is_local_name p.1) f.params && nat_lt 0 l) (entered_many (taken given env f n) (pass_blocks given env f.blocks h n) ∙ blocks_many f.blocks h n) ∙ with_blocks)
      (entered_formed (taken given env f n) f.blocks h n (entry_inserted given env f n) formed_all ends each_formed))
      (numbered_kept given env size r.one r.few f h n r.room numbered)
