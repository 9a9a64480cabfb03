-- A jump of a formed and valid module leads to a good frame.
use Rattle.std.proofs.Common.{◌≡◌, ℕ, zero, suc, ◌+◌, List, [], ◌∷◌, ◌++◌, Bool, true, false, refl, sym, ap, subst, ◌∙◌, arith, inl, inr, ⊎_elim, true≢false}
use Rattle.std.specs.Prelude.{◌⊎◌, ◌<◌, ◌^◌, ◌||◌, ◌&&◌, not, Any, Contains, length, map, flat_map, take, Option, Some, None, option_map, unwrap_or, slice_get, slice_index_or, if◌then◌else◌}
use Rattle.std.specs.List.{list_all, cons_option}
use Rattle.std.specs.Option.{option_or}
use Rattle.std.proofs.lemmas.Bool.{and_parts, or_cases}
use Rattle.std.proofs.lemmas.List.Folds.{list_any-append}
use Rattle.std.proofs.lemmas.List.Sums.{AllPass-from_list_all}
use Rattle.ms_ir.specs.declared.syntax.Name.{Name}
use Rattle.ms_ir.specs.declared.syntax.Name.TheVariants.{Number}
use Rattle.ms_ir.specs.declared.syntax.Ty.{Ty}
use Rattle.ms_ir.specs.declared.syntax.Operand.{Operand}
use Rattle.ms_ir.specs.declared.syntax.Op.{Op}
use Rattle.ms_ir.specs.declared.syntax.Op.TheVariants as op
use Rattle.ms_ir.specs.declared.syntax.Inst.{Inst}
use Rattle.ms_ir.specs.declared.syntax.Block.{Block}
use Rattle.ms_ir.specs.declared.syntax.Func.{Func}
use Rattle.ms_ir.specs.declared.syntax.Module.{Module}
use Rattle.ms_ir.specs.Names.{name_eq}
use Rattle.ms_ir.specs.Layout.{width_of}
use Rattle.ms_runs.specs.World.{Setting}
use Rattle.ms_ir.specs.Instructions.{operands, blocks_at, block_index, root_at, roots_in, one_undef, is_phi}
use Rattle.ms_runs.specs.Control.{Frame, Reading, with_value, read_edge, phis, count_phis, block_name, jumped}
use Rattle.ms_ir.specs.Equal.{has_name}
use Rattle.ms_ir.specs.Written.{targets, block_targets, result_type}
use Rattle.ms_ir.specs.Locals.{results, value_type, block_names}
use Rattle.ms_ir.proofs.RootKinds.{name_same as name_sound}
use Rattle.ms_check_valid.specs.TypesAgree.{first_misfit, op_fault, differ, operand_fits}
use Rattle.ms_check_valid.specs.Paths.{insts_of, block_results, block_successors, successors, Leads, Path, IsSet}
use Rattle.ms_check_valid.specs.FormedCode.{is_terminator, ends_well, is_body, name_formed}
use Rattle.ms_check_valid.specs.Formed.{block_formed, func_formed, Formed}
use Rattle.ms_runs_good_laws.specs.GoodStates.{GoodFrame}
use Rattle.ms_check_valid.specs.Valid.{Valid}
use Rattle.ms_check_valid.proofs.NameTests.{name_same, name_within, within_name}
use Rattle.ms_check_valid.proofs.AtInstructions.{fits_at}
use Rattle.ms_check_valid.proofs.FlowPaths.{numbered}
use Rattle.ms_runs_good_laws.proofs.Starts.{all_get, formed_insts, due_at}
use Rattle.ms_check_valid.proofs.TypedValues.{result_typed, or_true}
use Rattle.ms_check_valid.proofs.SmallNumbers.{blocks_of}
use Rattle.ms_runs_good_laws.proofs.NextFrames.{one_result_more, Stands, stands_formed, one_type}
use Rattle.ms_runs_good_laws.proofs.CallTypes.{holds_unless}

-- ---- paths

leads_on : (f : Func) (a : ℕ) (rest : List ℕ) (b c : ℕ) → Leads f a (rest ++ b ∷ []) → Contains (successors f b) c → Leads f a ((rest ++ b ∷ []) ++ c ∷ [])
leads_on f a [] b c h edge = (h.0, (edge, tt))
leads_on f a (d ∷ rest) b c h edge = (h.0, leads_on f d rest b c h.1 edge)

-- a path goes on along an edge
path_on : (f : Func) (before : List ℕ) (b c : ℕ) → Path f (before ++ b ∷ []) → Contains (successors f b) c → Path f ((before ++ b ∷ []) ++ c ∷ [])
path_on f [] b c h edge = (h.0, (edge, tt))
path_on f (a ∷ rest) b c h edge = (h.0, leads_on f a rest b c h.1 edge)

-- ---- targets

-- a target of an instruction is one of its block
target_of_block : (insts : List Inst) (p : ℕ) (i : Inst) (to : Name) → slice_get insts p ≡ Some i → has_name (targets i.op) to ≡ true → has_name (flat_map (λ j. targets j.op) insts) to ≡ true
target_of_block [] p i to e h = grind arith
target_of_block (j ∷ rest) zero i to e h =
    list_any-append (λ y. name_eq y to) (targets j.op) (flat_map (λ k. targets k.op) rest)
    ∙ ap (λ b. b || has_name (flat_map (λ k. targets k.op) rest) to) (ap (λ o. has_name (targets (unwrap_or o j).op) to) e ∙ h)
target_of_block (j ∷ rest) (suc p) i to e h =
    list_any-append (λ y. name_eq y to) (targets j.op) (flat_map (λ k. targets k.op) rest)
    ∙ ap (λ b. has_name (targets j.op) to || b) (target_of_block rest p i to e h) ∙ or_true (has_name (targets j.op) to)

item_mapped : {A B : Type 0} (g : A → B) (xs : List A) (b : ℕ) (k : A) (d : B) → slice_get xs b ≡ Some k → slice_index_or (map g xs) b d ≡ g k
item_mapped g [] b k d e = grind arith
item_mapped g (x ∷ rest) zero k d e = ap (λ o. g (unwrap_or o x)) e
item_mapped g (x ∷ rest) (suc b) k d e = item_mapped g rest b k d e

-- and so an edge
target_edge : (f : Func) (b p : ℕ) (k : Block) (i : Inst) (to : Name) → slice_get f.blocks b ≡ Some k → slice_get k.insts p ≡ Some i → has_name (targets i.op) to ≡ true
    → Contains (successors f b) (block_index f.blocks to)
target_edge f b p k i to is due h =
    subst (λ l. Contains l (block_index f.blocks to)) (sym (item_mapped (block_successors f) f.blocks b k [] is))
    (numbered (block_index f.blocks) to (block_targets k) (name_within (block_targets k) to (target_of_block k.insts p i to due h)))

-- each target of an instruction without a fault is a block
pub no_second : (a b : Option ℕ) → option_or a b ≡ None → b ≡ None
no_second None b e = e
no_second (Some x) b e = grind arith

targets_known : (m : Module) (f : Func) (fits : Ty × Operand → Bool) (o : Op) → op_fault m f fits o ≡ None → list_all (has_name (block_names f)) (targets o) ≡ true
targets_known m f fits (op.Cast c flags from a to) e = refl
targets_known m f fits (op.Gep t base indices) e = refl
targets_known m f fits (op.Call ret callee args) e = refl
targets_known m f fits (op.Ret v) e = refl
targets_known m f fits (op.Switch t v other cases) e =
    (and_parts (differ cases) (list_all (has_name (block_names f)) (targets (op.Switch t v other cases))) (holds_unless _ (no_second (first_misfit fits 0 ((t, v) ∷ [])) _ e))).1
targets_known m f fits o e = holds_unless _ (no_second (first_misfit fits 0 (operands o)) _ e)

-- what all names of a list pass one of them passes
pub passes_too : (p : Name → Bool) (xs : List Name) (x : Name) → list_all p xs ≡ true → has_name xs x ≡ true → p x ≡ true
passes_too p xs x all has = let h = name_within xs x has in ap p (sym h.2) ∙ AllPass-from_list_all p xs all h.0 x h.1

-- the block with a name that a block has
block_found : (blocks : List Block) (to : Name) → has_name (map (λ b. b.name) blocks) to ≡ true → (k : Block) × (slice_get blocks (block_index blocks to) ≡ Some k)
block_found [] to e = absurd (true≢false (sym e))
block_found (g ∷ rest) to e = by_test (name_eq g.name to) e (block_found rest to)
  where
    by_test : (t : Bool) → (t || has_name (map (λ b. b.name) rest) to) ≡ true
        → (has_name (map (λ b. b.name) rest) to ≡ true → (k : Block) × (slice_get rest (block_index rest to) ≡ Some k))
        → (k : Block) × (slice_get (g ∷ rest) (if t then 0 else suc (block_index rest to)) ≡ Some k)
    by_test true h later = (g, refl)
    by_test false h later = later h

-- ---- bodies

-- a body has an instruction after its phis
after_phis : (insts : List Inst) → is_body insts ≡ true → count_phis insts < length insts
after_phis [] e = absurd (true≢false (sym e))
after_phis (i ∷ rest) e = by_op i.op e (after_phis rest)
  where
    by_op : (o : Op) → is_body (record i { op = o } ∷ rest) ≡ true → (is_body rest ≡ true → count_phis rest < length rest) → count_phis (record i { op = o } ∷ rest) < suc (length rest)
    by_op (op.Phi t edges) h later = omega (arith, later h)
    by_op o h later = omega arith

-- a test doesn't pass and fail
not_both : (b : Bool) → b ≡ true → not b ≡ true → ⊥
not_both true e h = true≢false (sym h)
not_both false e h = true≢false (sym e)

-- a terminator is the last instruction
last_ends : (insts : List Inst) (p : ℕ) (i : Inst) → ends_well insts ≡ true → slice_get insts p ≡ Some i → is_terminator i.op ≡ true → take (suc p) insts ≡ insts
last_ends [] p i w e t = grind arith
last_ends (j ∷ []) zero i w e t = refl
last_ends (j ∷ []) (suc p) i w e t = grind arith
last_ends (j ∷ next ∷ rest) zero i w e t =
    absurd (not_both (is_terminator j.op) (ap (λ o. is_terminator (unwrap_or o j).op) e ∙ t)
    (and_parts (not (is_terminator j.op)) (not (is_phi j.op)) (and_parts (not (is_terminator j.op) && not (is_phi j.op)) (ends_well (next ∷ rest)) w).0).0)
last_ends (j ∷ next ∷ rest) (suc p) i w e t =
    ap (λ l. j ∷ l) (last_ends (next ∷ rest) p i (and_parts (not (is_terminator j.op) && not (is_phi j.op)) (ends_well (next ∷ rest)) w).1 e t)

last_of_body : (insts : List Inst) (p : ℕ) (i : Inst) → is_body insts ≡ true → slice_get insts p ≡ Some i → is_terminator i.op ≡ true → take (suc p) insts ≡ insts
last_of_body [] p i w e t = grind arith
last_of_body (j ∷ rest) p i w e t = by_op j.op w p e (λ h q d. last_of_body rest q i h d t)
  where
    by_op : (o : Op) → is_body (record j { op = o } ∷ rest) ≡ true → (q : ℕ) → slice_get (record j { op = o } ∷ rest) q ≡ Some i
        → (is_body rest ≡ true → (r : ℕ) → slice_get rest r ≡ Some i → take (suc r) rest ≡ rest) → take (suc q) (record j { op = o } ∷ rest) ≡ record j { op = o } ∷ rest
    by_op (op.Phi u edges) h zero d later =
        absurd (true≢false (sym t ∙ sym (ap (λ o. is_terminator (unwrap_or o (record j { op = op.Phi u edges })).op) d)))
    by_op (op.Phi u edges) h (suc q) d later = ap (λ l. record j { op = op.Phi u edges } ∷ l) (later h q d)
    by_op o h q d later = last_ends (record j { op = o } ∷ rest) q i h d t

-- a terminator answers nothing
ends_without : (o : Op) → is_terminator o ≡ true → result_type o ≡ None
ends_without (op.Br to) e = refl
ends_without (op.CondBr c to other) e = refl
ends_without (op.Switch t v other cases) e = refl
ends_without (op.Ret v) e = refl
ends_without op.Unreachable e = refl
ends_without o e = absurd (true≢false (sym e))

pub unnamed : (r : Option Name) → name_formed None r ≡ true → r ≡ None
unnamed None e = refl
unnamed (Some x) e = absurd (true≢false (sym e))

-- so each result of its block stands before it
before_end : (insts : List Inst) (p : ℕ) (i : Inst) (x : Name) → is_body insts ≡ true → slice_get insts p ≡ Some i → is_terminator i.op ≡ true → i.result ≡ None
    → Contains (results insts) x → Contains (results (take p insts)) x
before_end insts p i x body e t none h = ⊎_elim
    (λ d. absurd (true≢false (sym d ∙ ap (λ o. has_name (cons_option o []) x) none)))
    (λ d. name_within (results (take p insts)) x d)
    (one_result_more insts p i x e (ap (λ l. has_name (results l) x) (last_of_body insts p i body e t) ∙ within_name (results insts) x h))

-- ---- phis

-- one result more is set
put_phi : {V : Type 0} (P : V → Type 0) (x y : Name) (values : Name → V) (word : V) (names : List Name) → (name_eq x y ≡ true → P word)
    → P (values x) ⊎ (has_name (y ∷ names) x ≡ true) → P (with_value values y word x) ⊎ (has_name names x ≡ true)
put_phi {V} P x y values word names here d = by_test (name_eq x y) refl
  where
    by_test : (t : Bool) → name_eq x y ≡ t → P (if t then word else values x) ⊎ (has_name names x ≡ true)
    by_test true e = inl (here e)
    by_test false e = ⊎_elim (λ h. inl h) (λ h. ⊎_elim
        (λ s. absurd (true≢false (sym (ap (λ z. name_eq z y) (sym (name_sound y x s)) ∙ name_same y) ∙ e)))
        (λ l. inr l) (or_cases (name_eq y x) (has_name names x) h)) d

module _ {V : Type 0} (read : ℕ → Ty → Operand → V) (unset : V) (func : Name → Option ℕ) (from : Name) where
  -- what is read for an edge is in range
  edge_holds : (P : V → Type 0) (t : Ty) → P unset → ((n : ℕ) (o : Operand) → P (read n t o)) → (edges : List (Operand × Name)) (n : ℕ) → P (read_edge read unset t from edges n)
  edge_holds P t none reads [] n = none
  edge_holds P t none reads (e ∷ es) n = by_test (name_eq e.1 from) (edge_holds P t none reads es (n + one_undef e.0))
    where
      by_test : (b : Bool) → P (read_edge read unset t from es (n + one_undef e.0)) → P (if b then read n t e.0 else read_edge read unset t from es (n + one_undef e.0))
      by_test true h = reads n e.0
      by_test false h = h

  -- a value is in range after phis, where it was before or is one of theirs
  phi_holds : (P : V → Type 0) (x : Name) → P unset → (insts : List Inst)
      → ((q : ℕ) (i : Inst) (t : Ty) (edges : List (Operand × Name)) → slice_get insts q ≡ Some i → i.op ≡ op.Phi t edges
      → (y : Name) × (i.result ≡ Some y) × (name_eq x y ≡ true → (n : ℕ) → P (read_edge read unset t from edges n)))
      → (n : ℕ) (values : Name → V) → P (values x) ⊎ (has_name (results (take (count_phis insts) insts)) x ≡ true) → P (phis read unset func from insts n values x)
  phi_holds P x none [] all n values h = ⊎_elim (λ d. d) (λ d. absurd (true≢false (sym d))) h
  phi_holds P x none (i ∷ rest) all n values h = by_op i.op (λ t edges e. all 0 i t edges refl e) h
      (λ k w d. phi_holds P x none rest (λ q j t edges e is. all (suc q) j t edges e is) k w d)
    where
      by_op : (o : Op) → ((t : Ty) (edges : List (Operand × Name)) → o ≡ op.Phi t edges → (y : Name) × (i.result ≡ Some y) × (name_eq x y ≡ true → (k : ℕ) → P (read_edge read unset t from edges k)))
          → P (values x) ⊎ (has_name (results (take (count_phis (record i { op = o } ∷ rest)) (record i { op = o } ∷ rest))) x ≡ true)
          → ((k : ℕ) (w : Name → V) → P (w x) ⊎ (has_name (results (take (count_phis rest) rest)) x ≡ true) → P (phis read unset func from rest k w x))
          → P (phis read unset func from (record i { op = o } ∷ rest) n values x)
      by_op (op.Phi t edges) here d later =
          let one = here t edges refl in
          let names = results (take (count_phis rest) rest) in
          let word = read_edge read unset t from edges n in
          later (n + roots_in func (record i { op = op.Phi t edges })) (with_value values (unwrap_or i.result (Number 0)) word)
          (subst (λ o. P (with_value values (unwrap_or o (Number 0)) word x) ⊎ (has_name names x ≡ true)) (sym one.1)
          (put_phi P x one.0 values word names (λ same. one.2 same n) (⊎_elim (λ k. inl k) (λ k. inr (sym (ap (λ o. has_name (cons_option o names) x) one.1) ∙ k)) d)))
      by_op o here d later = ⊎_elim (λ k. k) (λ k. absurd (true≢false (sym k))) d

-- ---- frames

-- some item of a list with one more
any_split : {A : Type 0} (P : A → Type 0) (xs : List A) (y : A) → Any P (xs ++ y ∷ []) → Any P xs ⊎ P y
any_split P [] y (zero, x, l, e, h) = inr (subst P (sym e) h)
any_split P [] y (suc k, x, l, e, h) = absurd (omega (arith, l))
any_split P (z ∷ rest) y (zero, x, l, e, h) = inl (0, x, omega arith, e, h)
any_split P (z ∷ rest) y (suc k, x, l, e, h) = ⊎_elim (λ d. inl (suc d.0, d.1, omega (arith, d.2), d.3, d.4)) (λ d. inr d) (any_split P rest y (k, x, omega (arith, l), e, h))

-- what answers a value has a name
some_named : (t : Ty) (r : Option Name) → name_formed (Some t) r ≡ true → (y : Name) × (r ≡ Some y)
some_named t None e = absurd (true≢false (sym e))
some_named t (Some y) e = (y, refl)

-- what a block has after a jump to it
target_good : {V : Type 0} (holds : V → ℕ → Type 0) (reading : Reading V) (setting : Setting) (m : Module) → Formed m → Valid m → (frame : Frame V) (good : GoodFrame holds m frame)
    → ((t : Ty) → holds reading.unset (2 ^ width_of t)) → ((n : ℕ) (t : Ty) (o : Operand) → holds (reading.read setting frame.values n t o) (2 ^ width_of t))
    → (i : Inst) → slice_get (insts_of good.func frame.block) frame.place ≡ Some i → is_terminator i.op ≡ true → (to : Name) → has_name (targets i.op) to ≡ true
    → (from : Name) (n : ℕ) → let b = block_index good.func.blocks to in GoodFrame holds m (record frame {
      block = b;
      place = count_phis (insts_of good.func b);
      values = phis (reading.read setting frame.values) reading.unset setting.func from (insts_of good.func b) n frame.values;
    })
target_good {V} holds reading setting m formed valid frame good none reads i due ends to has from n = record {
  func = f;
  stands = good.stands;
  before = good.before ++ frame.block ∷ [];
  path = path_on f good.before frame.block b good.path (target_edge f frame.block frame.place there.block i to there.at there.due has);
  place = after_phis (insts_of f b) body;
  after_phis = omega arith;
  words = λ x t set typed. phi_holds (reading.read setting frame.values) reading.unset setting.func from (λ w. holds w (2 ^ width_of t)) x (none t) (insts_of f b)
      (phi_at x t typed) n frame.values (old_or_new x t set typed);
}
  where
    f : Func
    f = good.func

    b : ℕ
    b = block_index f.blocks to

    there : Stands m f frame.block frame.place i
    there = stands_formed m formed frame.func f good.stands frame.block frame.place i due

    known : has_name (block_names f) to ≡ true
    known = passes_too (has_name (block_names f)) (targets i.op) to
        (targets_known m f (λ o. operand_fits m (value_type f) o.0 o.1) i.op
        (fits_at m valid frame.func frame.block frame.place f i good.stands (due_at m frame.func f good.stands frame.block frame.place there.block i there.at there.due)).types_agree) has

    target : (k : Block) × (slice_get f.blocks b ≡ Some k)
    target = block_found f.blocks to known

    body : is_body (insts_of f b) ≡ true
    body = ap (λ o. is_body (unwrap_or (option_map (λ k. k.insts) o) [])) target.1
        ∙ (formed_insts target.0 (all_get block_formed f.blocks b target.0 (blocks_of f (all_get func_formed m.funcs frame.func f formed.functions good.stands)).1 target.1)).0

    phi_at : (x : Name) (t : Ty) → value_type f x ≡ Some t → (q : ℕ) (j : Inst) (u : Ty) (edges : List (Operand × Name)) → slice_get (insts_of f b) q ≡ Some j → j.op ≡ op.Phi u edges
        → (y : Name) × (j.result ≡ Some y) × (name_eq x y ≡ true → (k : ℕ) → holds (read_edge (reading.read setting frame.values) reading.unset u from edges k) (2 ^ width_of t))
    phi_at x t typed q j u edges e is =
        let at = stands_formed m formed frame.func f good.stands b q j e in
        let gives : result_type j.op ≡ Some u = ap result_type is in
        let named = some_named u j.result (ap (λ z. name_formed z j.result) (sym gives) ∙ at.named) in (
          named.0,
          named.1,
          λ same k.
              let type : u ≡ t = one_type u t (value_type f named.0)
              (result_typed m valid frame.func f good.stands b q at.block j named.0 u at.at at.due named.1 gives)
              (ap (value_type f) (sym (name_sound x named.0 same)) ∙ typed) in
              subst (λ z. holds (read_edge (reading.read setting frame.values) reading.unset u from edges k) (2 ^ width_of z)) type
              (edge_holds (reading.read setting frame.values) reading.unset setting.func from (λ w. holds w (2 ^ width_of u)) u (none u) (λ l o. reads l u o) edges k),
        )

    without : i.result ≡ None
    without = unnamed i.result (ap (λ z. name_formed z i.result) (sym (ends_without i.op ends)) ∙ there.named)

    old_or_new : (x : Name) (t : Ty) → IsSet f (good.before ++ frame.block ∷ []) b (count_phis (insts_of f b)) x → value_type f x ≡ Some t
        → holds (frame.values x) (2 ^ width_of t) ⊎ (has_name (results (take (count_phis (insts_of f b)) (insts_of f b))) x ≡ true)
    old_or_new x t set typed = ⊎_elim (λ own. inl (good.words x t (inl own) typed)) (λ h. ⊎_elim
        (λ passed. ⊎_elim (λ d. inl (good.words x t (inr (inl d)) typed))
        (λ d. inl (good.words x t (inr (inr (before_end (insts_of f frame.block) frame.place i x there.body due ends without d))) typed))
        (any_split (λ a. Contains (block_results f a) x) good.before frame.block passed))
        (λ new. inr (within_name (results (take (count_phis (insts_of f b)) (insts_of f b))) x new)) h) set

-- a jump to a target of the terminator at which a good frame stands leads to a good frame, where what is read is in range
pub jump_good : {V : Type 0} (holds : V → ℕ → Type 0) (reading : Reading V) (setting : Setting) (m : Module) → Formed m → Valid m → (frame : Frame V) (good : GoodFrame holds m frame)
    → ((t : Ty) → holds reading.unset (2 ^ width_of t)) → ((n : ℕ) (t : Ty) (o : Operand) → holds (reading.read setting frame.values n t o) (2 ^ width_of t))
    → (i : Inst) → slice_get (insts_of good.func frame.block) frame.place ≡ Some i → is_terminator i.op ≡ true → (to : Name) → has_name (targets i.op) to ≡ true
    → GoodFrame holds m (jumped reading setting m to frame)
jump_good {V} holds reading setting m formed valid frame good none reads i due ends to has =
    subst (λ blocks. GoodFrame holds m (jumped_with blocks)) (sym same)
    (target_good holds reading setting m formed valid frame good none reads i due ends to has (block_name m frame.func frame.block) (root_at setting.func m frame.func (block_index good.func.blocks to) 0))
  where
    same : blocks_at m frame.func ≡ good.func.blocks
    same = ap (λ o. unwrap_or (option_map (λ g. g.blocks) o) []) good.stands

    jumped_with : List Block → Frame V
    jumped_with blocks = let b = block_index blocks to in let insts = unwrap_or (option_map (λ k. k.insts) (slice_get blocks b)) [] in record frame {
      block = b;
      place = count_phis insts;
      values = phis (reading.read setting frame.values) reading.unset setting.func (block_name m frame.func frame.block) insts (root_at setting.func m frame.func b 0) frame.values;
    }
