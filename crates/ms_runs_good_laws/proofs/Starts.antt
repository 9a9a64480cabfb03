-- The state in which a run of a valid module starts is good.
use Rattle.std.proofs.Common.{◌≡◌, ℕ, zero, suc, ◌+◌, List, [], ◌∷◌, ◌++◌, Bool, true, false, refl, sym, ap, subst, ◌∙◌, arith, inl, ⊎_elim, true≢false, eqb-true}
use Rattle.std.specs.Prelude.{◌<◌, ◌≤◌, ◌||◌, not, nat_eq, nat_lt, Contains, length, map, flat_map, cond, Some, option_map, unwrap_or, slice_get, if◌then◌else◌}
use Rattle.std.specs.List.{list_any, list_all}
use Rattle.std.proofs.lemmas.Bool.{and_parts, or_cases}
use Rattle.std.proofs.Math.Path.{ap₂}
use Rattle.std.proofs.lemmas.List.Folds.{list_any-append}
use Rattle.std.proofs.lemmas.List.Sums.{sum_by-cons}
use Rattle.ms_ir.specs.declared.syntax.Name.{Name}
use Rattle.ms_ir.specs.declared.syntax.Ty.{Ty}
use Rattle.ms_ir.specs.declared.syntax.Op.{Op}
use Rattle.ms_ir.specs.declared.syntax.Op.TheVariants as op
use Rattle.ms_ir.specs.declared.syntax.Inst.{Inst}
use Rattle.ms_ir.specs.declared.syntax.Block.{Block}
use Rattle.ms_ir.specs.declared.syntax.Func.{Func}
use Rattle.ms_ir.specs.declared.syntax.Module.{Module}
use Rattle.ms_ir.specs.Names.{name_eq, main_name}
use Rattle.ms_ir.specs.Instructions.{func_index, func_at, blocks_at, insts_at, site_at, is_phi}
use Rattle.ms_runs.specs.Control.{Frame, Reading, count_phis}
use Rattle.ms_runs.specs.Plain.{start_frame}
use Rattle.ms_ir.specs.Equal.{has_name}
use Rattle.ms_ir.specs.Written.{targets, block_targets}
use Rattle.ms_ir.specs.Spots.{Spot, spot}
use Rattle.ms_ir.specs.Locals.{block_names, entry_name, locals, type_names, global_names, declared_names}
use Rattle.ms_ir.proofs.RootKinds.{name_same as name_sound}
use Rattle.ms_check_valid.specs.NamesOnce.{repeats, at_sign, percent_sign, function_duplicates}
use Rattle.ms_check_valid.specs.PhisFit.{count_name, edges_between, edges_agree, edges_fit}
use Rattle.ms_check_valid.specs.HasMain.{is_main}
use Rattle.ms_check_valid.specs.Paths.{insts_of, IsSet}
use Rattle.ms_check_valid.specs.FormedCode.{shape_formed, inst_formed, is_body}
use Rattle.ms_check_valid.specs.Formed.{block_formed, func_formed, Formed}
use Rattle.ms_runs_good_laws.specs.GoodStates.{GoodFrame, GoodFrames, IsMain}
use Rattle.ms_check_valid.specs.Valid.{Valid}
use Rattle.ms_check_valid.proofs.NameTests.{name_same}
use Rattle.ms_check_valid.proofs.Finding.{both_empty}
use Rattle.ms_check_valid.proofs.AtInstructions.{fits_at}
use Rattle.ms_check_valid.proofs.SmallNumbers.{blocks_of}

-- ---- tests of lists

-- an item of a list passes what all pass
pub all_get : {A : Type 0} (p : A → Bool) (xs : List A) (k : ℕ) (x : A) → list_all p xs ≡ true → slice_get xs k ≡ Some x → p x ≡ true
all_get p [] k x all e = grind arith
all_get p (y ∷ rest) zero x all e = ap p (sym (ap (λ o. unwrap_or o y) e)) ∙ (and_parts (p y) (list_all p rest) all).0
all_get p (y ∷ rest) (suc k) x all e = all_get p rest k x (and_parts (p y) (list_all p rest) all).1 e

-- what isn't true is false
false_of_not : (b : Bool) → not b ≡ true → b ≡ false
false_of_not true e = grind arith
false_of_not false e = refl

-- ---- `main`

-- a function whose name was seen is a duplicate
not_seen : (seen : List Name) (x : Name) → at_sign (repeats seen (x ∷ [])) ≡ [] → has_name seen x ≡ false
not_seen seen x e = by_test (has_name seen x) e
  where
    by_test : (t : Bool) → at_sign (if t then x ∷ repeats (x ∷ seen) [] else repeats (x ∷ seen) []) ≡ [] → t ≡ false
    by_test true h = grind arith
    by_test false h = refl

-- a function is named so
named_main : (f : Func) → is_main f ≡ true → name_eq f.name main_name ≡ true
named_main f e = (and_parts (name_eq f.name main_name) _ (and_parts _ _ e).0).0

-- where no function is a duplicate and the name of `main` was seen, no function is `main`
pub no_second : (seen : List Name) (funcs : List Func) → function_duplicates seen funcs ≡ [] → has_name seen main_name ≡ true → list_any is_main funcs ≡ true → ⊥
no_second seen [] none has any = true≢false (sym any)
no_second seen (f ∷ rest) none has any =
    let parts = both_empty (at_sign (repeats seen (f.name ∷ []))) (percent_sign (repeats [] (locals f)) ++ function_duplicates (f.name ∷ seen) rest) none in
    let later = (both_empty (percent_sign (repeats [] (locals f))) (function_duplicates (f.name ∷ seen) rest) parts.1).1 in
    ⊎_elim
    (λ h. true≢false (sym (ap (has_name seen) (name_sound f.name main_name (named_main f h)) ∙ has) ∙ not_seen seen f.name parts.0))
    (λ h. no_second (f.name ∷ seen) rest later (ap (λ b. name_eq f.name main_name || b) has ∙ or_true (name_eq f.name main_name)) h)
    (or_cases (is_main f) (list_any is_main rest) any)
  where
    or_true : (b : Bool) → (b || true) ≡ true
    or_true true = refl
    or_true false = refl

-- where `main` stands
pub record Main (funcs : List Func) : Type 0 where
  pub place : ℕ
  pub func : Func
  pub found : func_index funcs main_name ≡ Some place
  pub at : slice_get funcs place ≡ Some func
  pub main : is_main func ≡ true

pub main_found : (seen : List Name) (funcs : List Func) → function_duplicates seen funcs ≡ [] → list_any is_main funcs ≡ true → Main funcs
main_found seen [] none any = absurd (true≢false (sym any))
main_found seen (f ∷ rest) none any =
    by_test (name_eq f.name main_name) refl (main_found (f.name ∷ seen) rest later)
  where
    later : function_duplicates (f.name ∷ seen) rest ≡ []
    later = (both_empty (percent_sign (repeats [] (locals f))) (function_duplicates (f.name ∷ seen) rest)
        (both_empty (at_sign (repeats seen (f.name ∷ []))) (percent_sign (repeats [] (locals f)) ++ function_duplicates (f.name ∷ seen) rest) none).1).1

    here : name_eq f.name main_name ≡ true → is_main f ≡ true
    here e = ⊎_elim (λ h. h) (λ h. absurd (no_second (f.name ∷ seen) rest later (ap (λ b. b || has_name seen main_name) e) h)) (or_cases (is_main f) (list_any is_main rest) any)

    there : name_eq f.name main_name ≡ false → list_any is_main rest ≡ true
    there e = ⊎_elim (λ h. absurd (true≢false (sym (named_main f h) ∙ e))) (λ h. h) (or_cases (is_main f) (list_any is_main rest) any)

    by_test : (t : Bool) → name_eq f.name main_name ≡ t → (list_any is_main rest ≡ true → Main rest) → Main (f ∷ rest)
    by_test true e more = record {
      place = 0;
      func = f;
      found = ap (λ b. if b then Some 0 else option_map suc (func_index rest main_name)) e;
      at = refl;
      main = here e;
    }
    by_test false e more = let m = more (there e) in record {
      place = suc m.place;
      func = m.func;
      found = ap (λ b. if b then Some 0 else option_map suc (func_index rest main_name)) e ∙ ap (option_map suc) m.found;
      at = m.at;
      main = m.main;
    }

-- ---- no edge goes to the entry block

-- a name that isn't in a list is counted 0 times
count_none : (x : Name) (names : List Name) → has_name names x ≡ false → count_name x names ≡ 0
count_none x [] e = refl
count_none x (y ∷ rest) e = by_test (name_eq y x) refl e (count_none x rest)
  where
    by_test : (t : Bool) → name_eq y x ≡ t → (t || has_name rest x) ≡ false → (has_name rest x ≡ false → count_name x rest ≡ 0) → count_name x (y ∷ rest) ≡ 0
    by_test true e h more = grind arith
    by_test false e h more = sum_by-cons (λ z. cond (name_eq z x) 1 0) y rest ∙ ap₂ (λ b n. cond b 1 0 + n) e (more h)

-- a name that is the first of a list is counted
counted : (x : Name) (rest : List Name) → 1 ≤ count_name x (x ∷ rest)
counted x rest =
    let first : count_name x (x ∷ rest) ≡ 1 + count_name x rest =
    sum_by-cons (λ z. cond (name_eq z x) 1 0) x rest ∙ ap (λ b. cond b 1 0 + count_name x rest) (name_same x) in
    omega (arith, first)

-- a block none of whose instructions goes to a block has no edge there
no_target_of : (to : Name) (insts : List Inst) → ((p : ℕ) (i : Inst) → slice_get insts p ≡ Some i → has_name (targets i.op) to ≡ false)
    → has_name (flat_map (λ i. targets i.op) insts) to ≡ false
no_target_of to [] h = refl
no_target_of to (i ∷ rest) h =
    list_any-append (λ y. name_eq y to) (targets i.op) (flat_map (λ j. targets j.op) rest)
    ∙ ap₂ (λ a b. a || b) (h 0 i refl) (no_target_of to rest (λ p j e. h (suc p) j e))

-- and where this holds of all blocks, there is no edge from any
no_edges : (blocks : List Block) (from to : Name) → ((b p : ℕ) (k : Block) (i : Inst) → slice_get blocks b ≡ Some k → slice_get k.insts p ≡ Some i → has_name (targets i.op) to ≡ false)
    → edges_between blocks from to ≡ 0
no_edges [] from to h = refl
no_edges (k ∷ rest) from to h =
    ap₂ (λ n l. (if name_eq k.name from then n else 0) + l)
    (count_none to (block_targets k) (no_target_of to k.insts (λ p i e. h 0 p k i refl e)))
    (no_edges rest from to (λ b p g i at e. h (suc b) p g i at e))
    ∙ by_test (name_eq k.name from)
  where
    by_test : (t : Bool) → ((if t then 0 else 0) + 0) ≡ 0
    by_test true = refl
    by_test false = refl

-- an instruction that fits doesn't go to the entry block
pub not_to_entry : (at : Spot) (o : Op) → edges_fit at o ≡ true → has_name (targets o) (entry_name at.func) ≡ false
not_to_entry at (op.Phi t edges) e = refl
not_to_entry at o e = false_of_not _ e

-- so a phi doesn't fit in the entry block
no_phi : (f : Func) (site : ℕ) (o : Op) → ((from : Name) → edges_between f.blocks from (entry_name f) ≡ 0) → shape_formed o ≡ true → edges_fit (spot f 0 0 site) o ≡ true → is_phi o ≡ false
no_phi f site (op.Phi t []) none formed fits = absurd (true≢false (sym (and_parts _ _ formed).1))
no_phi f site (op.Phi t (e ∷ rest)) none formed fits =
    let all = (and_parts (list_all (λ from. nat_eq (count_name from (map (λ d. d.1) (e ∷ rest))) (edges_between f.blocks from (entry_name f))) (map (λ d. d.1) (e ∷ rest) ++ block_names f))
    (edges_agree (e ∷ rest)) fits).0 in
    let same : count_name e.1 (e.1 ∷ map (λ d. d.1) rest) ≡ edges_between f.blocks e.1 (entry_name f) = eqb-true _ _ (and_parts _ _ all).0 in
    absurd (omega (arith, same, none e.1, counted e.1 (map (λ d. d.1) rest)))
no_phi f site o none formed fits = refl

-- ---- the entry block

-- a list that isn't empty has a first item
first_of_some : {A : Type 0} (xs : List A) → nat_lt 0 (length xs) ≡ true → (x : A) × (slice_get xs 0 ≡ Some x)
first_of_some [] e = absurd (true≢false (sym e))
first_of_some (x ∷ rest) e = (x, refl)

-- and a body has a first instruction
first_of_body : (insts : List Inst) → is_body insts ≡ true → (i : Inst) × (slice_get insts 0 ≡ Some i)
first_of_body [] e = absurd (true≢false (sym e))
first_of_body (i ∷ rest) e = (i, refl)

-- an item at a place shows that the list goes on there
pub place_within : {A : Type 0} (xs : List A) (p : ℕ) (x : A) → slice_get xs p ≡ Some x → p < length xs
place_within [] p x e = grind arith
place_within (y ∷ rest) zero x e = omega arith
place_within (y ∷ rest) (suc p) x e = omega (arith, place_within rest p x e)

-- instructions whose first is no phi have no leading phis
pub no_leading : (insts : List Inst) (i : Inst) → slice_get insts 0 ≡ Some i → is_phi i.op ≡ false → count_phis insts ≡ 0
no_leading [] i at e = refl
no_leading (j ∷ rest) i at e = by_op j.op (ap (λ o. is_phi (unwrap_or o j).op) at ∙ e)
  where
    by_op : (o : Op) → is_phi o ≡ false → count_phis (record j { op = o } ∷ rest) ≡ 0
    by_op (op.Phi t edges) h = absurd (true≢false h)
    by_op o h = refl

-- nothing is set at the start of a function without parameters
nothing_set : (f : Func) (x : Name) → length f.params ≡ 0 → IsSet f [] 0 0 x → ⊥
nothing_set f x none set = ⊎_elim (λ h. no_parameter f.params none h) (λ h. ⊎_elim (λ d. absurd (omega (arith, d.2))) (λ d. absurd (omega (arith, d.1))) h) set
  where
    no_parameter : (ps : List (Ty × Name)) → length ps ≡ 0 → Contains (map (λ p. p.1) ps) x → ⊥
    no_parameter [] e h = absurd (omega (arith, h.1))
    no_parameter (p ∷ ps) e h = grind arith

pub formed_insts : (k : Block) → block_formed k ≡ true → (is_body k.insts ≡ true) × (list_all inst_formed k.insts ≡ true)
formed_insts k e = let parts = and_parts _ _ e in ((and_parts _ _ parts.0).1, parts.1)

pub formed_shape : (i : Inst) → inst_formed i ≡ true → shape_formed i.op ≡ true
formed_shape i e = (and_parts _ _ (and_parts _ _ (and_parts _ _ e).0).0).0

-- an instruction of a block of a function is one of the module
pub due_at : (m : Module) (n : ℕ) (f : Func) → func_at m n ≡ Some f → (b p : ℕ) (k : Block) (i : Inst) → slice_get f.blocks b ≡ Some k → slice_get k.insts p ≡ Some i
    → slice_get (insts_at m n b) p ≡ Some i
due_at m n f at b p k i is e =
    let blocks : blocks_at m n ≡ f.blocks = ap (λ o. unwrap_or (option_map (λ g. g.blocks) o) []) at in
    ap (λ l. slice_get (unwrap_or (option_map (λ g. g.insts) (slice_get l b)) []) p) blocks
    ∙ ap (λ o. slice_get (unwrap_or (option_map (λ g. g.insts) o) []) p) is ∙ e

-- where a run enters a function: its first instruction, which is no phi
pub record Entry (f : Func) : Type 0 where
  pub block : Block
  pub at : slice_get f.blocks 0 ≡ Some block
  pub inst : Inst
  pub due : slice_get block.insts 0 ≡ Some inst
  pub plain : is_phi inst.op ≡ false

pub entry_of : (m : Module) → Formed m → Valid m → (n : ℕ) (f : Func) → func_at m n ≡ Some f → Entry f
entry_of m formed v n f at =
    let blocks = blocks_of f (all_get func_formed m.funcs n f formed.functions at) in
    let k = first_of_some f.blocks blocks.0 in
    let insts = formed_insts k.0 (all_get block_formed f.blocks 0 k.0 blocks.1 k.1) in
    let i = first_of_body k.0.insts insts.0 in
    let fits = λ (b p : ℕ) (g : Block) (j : Inst) (is : slice_get f.blocks b ≡ Some g) (e : slice_get g.insts p ≡ Some j).
    (fits_at m v n b p f j at (due_at m n f at b p g j is e)).phis_fit in
    record {
      block = k.0;
      at = k.1;
      inst = i.0;
      due = i.1;
      plain = no_phi f (site_at m n 0 0) i.0.op
          (λ from. no_edges f.blocks from (entry_name f) (λ b p g j is e. not_to_entry (spot f b p (site_at m n b p)) j.op (fits b p g j is e)))
          (formed_shape i.0 (all_get inst_formed k.0.insts 0 i.0 insts.1 i.1)) (fits 0 0 k.0 i.0 k.1 i.1);
    }

-- `main` has no parameters
no_parameters : (f : Func) → is_main f ≡ true → length f.params ≡ 0
no_parameters f e = eqb-true (length f.params) 0 (and_parts _ _ e).1

-- a frame at the beginning of a function without parameters is good
pub entry_good : {V : Type 0} (holds : V → ℕ → Type 0) (m : Module) (frame : Frame V) (f : Func) → func_at m frame.func ≡ Some f → frame.block ≡ 0 → frame.place ≡ 0
    → length f.params ≡ 0 → Entry f → GoodFrame holds m frame
entry_good holds m frame f at b p none e = record {
  func = f;
  stands = at;
  before = [];
  path = (b, tt);
  place = subst (λ q. q < length (insts_of f frame.block)) (sym p) (subst (λ c. 0 < length (insts_of f c)) (sym b) (place_within (insts_of f 0) 0 e.inst due));
  after_phis = subst (λ q. count_phis (insts_of f frame.block) ≤ q) (sym p) (subst (λ c. count_phis (insts_of f c) ≤ 0) (sym b)
      (subst (λ n. n ≤ 0) (sym (no_leading (insts_of f 0) e.inst due e.plain)) (omega arith)));
  words = λ x t set typed. absurd (nothing_set f x none (subst (λ q. IsSet f [] 0 q x) p (subst (λ c. IsSet f [] c frame.place x) b set)));
}
  where
    due : slice_get (insts_of f 0) 0 ≡ Some e.inst
    due = ap (λ o. slice_get (unwrap_or (option_map (λ k. k.insts) o) []) 0) e.at ∙ e.due

-- the frame in which a run starts is `main`'s
pub start_is_main : (m : Module) → Valid m → IsMain m (unwrap_or (func_index m.funcs main_name) 0)
start_is_main m v =
    let symbols = global_names m ++ declared_names m in
    let start = main_found symbols m.funcs
    (both_empty (at_sign (repeats [] symbols)) (function_duplicates symbols m.funcs)
    (both_empty (percent_sign (repeats [] (type_names m))) (at_sign (repeats [] symbols) ++ function_duplicates symbols m.funcs) v.names_once).1).1 v.has_main in
    start.found ∙ ap (λ o. Some (unwrap_or o 0)) (sym start.found)

-- that frame is good, and is `main`'s
pub start_good : {V : Type 0} (holds : V → ℕ → Type 0) (reading : Reading V) (m : Module) → Formed m → Valid m → GoodFrames holds m (start_frame reading m ∷ [])
start_good holds reading m formed v =
    let symbols = global_names m ++ declared_names m in
    let start = main_found symbols m.funcs
    (both_empty (at_sign (repeats [] symbols)) (function_duplicates symbols m.funcs)
    (both_empty (percent_sign (repeats [] (type_names m))) (at_sign (repeats [] symbols) ++ function_duplicates symbols m.funcs) v.names_once).1).1 v.has_main in (
      entry_good holds m (start_frame reading m) start.func (ap (λ o. func_at m (unwrap_or o 0)) start.found ∙ start.at) refl refl
          (no_parameters start.func start.main) (entry_of m formed v start.place start.func start.at),
      inl (start_is_main m v),
    )
