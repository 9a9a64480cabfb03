-- The program's own instructions break no clause in the instrumented form, if they break none in the program.
use Rattle.std.proofs.Common.{◌≡◌, ℕ, zero, suc, ◌+◌, List, [], ◌∷◌, ◌++◌, Bool, true, false, Option, Some, None, refl, sym, ap, subst, ◌∙◌, arith, inl, inr, ⊎_elim, true≢false}
use Rattle.std.specs.Prelude.{◌&&◌, not, nat_eq, map, flat_map, filter, take, drop, slice_get, unwrap_or, option_map, if◌then◌else◌, cond}
use Rattle.std.specs.List.{list_all}
use Rattle.std.specs.Option.{option_or}
use Rattle.std.proofs.Math.Path.{ap₂}
use Rattle.ms_ir.specs.declared.syntax.Name.{Name}
use Rattle.ms_ir.specs.declared.syntax.Name.TheVariants.{Number}
use Rattle.ms_ir.specs.declared.syntax.Ty.{Ty, Int, Ptr}
use Rattle.ms_ir.specs.declared.syntax.Operand.{Operand}
use Rattle.ms_ir.specs.declared.syntax.Operand.TheVariants as operand
use Rattle.ms_ir.specs.declared.syntax.Op.{Op}
use Rattle.ms_ir.specs.declared.syntax.Op.TheVariants as op
use Rattle.ms_ir.specs.declared.syntax.Block.{Block}
use Rattle.ms_ir.specs.declared.syntax.Func.{Func}
use Rattle.ms_ir.specs.declared.syntax.Module.{Module}
use Rattle.ms_ir.specs.Names.{name_eq}
use Rattle.ms_ir.specs.Layout.{resolved, part_type}
use Rattle.ms_runs.specs.World.{Here}
use Rattle.ms_ir.specs.Instructions.{operands}
use Rattle.ms_ir.specs.Equal.{has_name, type_eq, result_type_eq}
use Rattle.ms_ir.specs.Written.{Mention, targets}
use Rattle.ms_ir.specs.Locals.{Spelled, locals, block_locals, results, value_type, block_names, block_name_at}
use Rattle.ms_check_valid.specs.NamesKnown.{knows, spelled, unknown_of}
use Rattle.ms_ir.specs.Spots.{spot}
use Rattle.ms_check_valid.specs.TypesAgree.{operand_fits, is_type, is_variable, first_misfit, first_misstep, leads_into, number_or_zero, step_fits, fault_unless, cast_allows, differ, returns_fit, op_fault, argument_fault, is_start, is_create, fits_call, printf_fault, is_printable, is_printf, call_fault}
use Rattle.ms_check_valid.specs.PhisFit.{count_name, edges_between, edges_agree, edges_fit}
use Rattle.ms_pass_tasks.specs.Environments.{Env, Given}
use Rattle.ms_ir.specs.declared.syntax.Inst.{Inst}
use Rattle.ms_pass_laws.specs.Pass.{here_after, pass_blocks, enter_block}
use Rattle.ms_pass_tasks.specs.PassLists.{pass_insts}
use Rattle.ms_ir.specs.Signatures.{Signature, signature_of}
use Rattle.ms_pass_form_laws.proofs.Paths.{In, in_left, in_right, in_either, results_append}
use Rattle.ms_pass_form_laws.proofs.PassPaths.{taken, passed, goes, goes_past, entry_goes, code_goes, own_with, set_with}
use Rattle.ms_runs_good_laws.proofs.CallTypes.{both_none, holds_unless}
use Rattle.ms_pass_form_laws.proofs.Inserted.{unknown_append, unknown_one}

-- ---- names that stay known

pub unknown_split : (m : Module) (names : List Name) (site : ℕ) (x : Mention) (xs : List Mention) → unknown_of m names site (x ∷ xs) ≡ [] → (knows m names x ≡ true) × (unknown_of m names site xs ≡ [])
unknown_split m names site x xs e = by_test (knows m names x) refl e
  where
    by_test : (c : Bool) → knows m names x ≡ c
        → map {B = ℕ × Spelled} (λ y. (site, spelled y)) (cond (not c) (x ∷ filter (λ y. not (knows m names y)) xs) (filter (λ y. not (knows m names y)) xs)) ≡ []
        → (knows m names x ≡ true) × (unknown_of m names site xs ≡ [])
    by_test true k h = (k, h)
    by_test false k h = grind arith

pub unknown_kept : (m j : Module) (names more : List Name) (site s : ℕ) (xs : List Mention) → ((x : Mention) → knows m names x ≡ true → knows j more x ≡ true)
    → unknown_of m names site xs ≡ [] → unknown_of j more s xs ≡ []
unknown_kept m j names more site s [] k e = refl
unknown_kept m j names more site s (x ∷ xs) k e =
    let p = unknown_split m names site x xs e in
    ap (λ c. map {B = ℕ × Spelled} (λ y. (s, spelled y)) (cond (not c) (x ∷ filter (λ y. not (knows j more y)) xs) (filter (λ y. not (knows j more y)) xs))) (k x p.0)
    ∙ unknown_kept m j names more site s xs k p.1

pub unknown_parts : (m : Module) (names : List Name) (s : ℕ) (xs ys : List Mention) → unknown_of m names s (xs ++ ys) ≡ [] → (unknown_of m names s xs ≡ []) × (unknown_of m names s ys ≡ [])
unknown_parts m names s [] ys e = (refl, e)
unknown_parts m names s (x ∷ xs) ys e =
    let p = unknown_split m names s x (xs ++ ys) e in
    let q = unknown_parts m names s xs ys p.1 in
    (unknown_append m names s (x ∷ []) xs (unknown_one m names s x p.0) q.0, q.1)

-- ---- blocks

module _ (given : Given) (env : Env) where
  blocks_named : (bs : List Block) (h : Here) (n : ℕ) → map (λ b. b.name) (pass_blocks given env bs h n) ≡ map (λ b. b.name) bs
  blocks_named [] h n = refl
  blocks_named (b ∷ bs) h n = ap (λ l. b.name ∷ l) (blocks_named bs (here_after given h b.insts) (pass_insts given env b.insts h n).next)

  enter_named : (code : List Inst) (bs : List Block) → map (λ b. b.name) (enter_block code bs) ≡ map (λ b. b.name) bs
  enter_named code [] = refl
  enter_named code (b ∷ bs) = refl

  pub names_same : (f : Func) (h : Here) (n : ℕ) → map (λ b. b.name) (passed given env f h n).blocks ≡ map (λ b. b.name) f.blocks
  names_same f h n = enter_named (taken given env f n) (pass_blocks given env f.blocks h n) ∙ blocks_named f.blocks h n

  abbrev name_in : List Block → ℕ → Name
  name_in bs b = unwrap_or (option_map (λ k. k.name) (slice_get bs b)) (Number 0)

  blocks_name_at : (bs : List Block) (h : Here) (n b : ℕ) → name_in (pass_blocks given env bs h n) b ≡ name_in bs b
  blocks_name_at [] h n b = refl
  blocks_name_at (k ∷ bs) h n zero = refl
  blocks_name_at (k ∷ bs) h n (suc b) = blocks_name_at bs (here_after given h k.insts) (pass_insts given env k.insts h n).next b

  enter_name_at : (code : List Inst) (bs : List Block) (b : ℕ) → name_in (enter_block code bs) b ≡ name_in bs b
  enter_name_at code [] b = refl
  enter_name_at code (k ∷ bs) zero = refl
  enter_name_at code (k ∷ bs) (suc b) = refl

  name_same_at : (f : Func) (h : Here) (n b : ℕ) → name_in (passed given env f h n).blocks b ≡ name_in f.blocks b
  name_same_at f h n b = enter_name_at (taken given env f n) (pass_blocks given env f.blocks h n) b ∙ blocks_name_at f.blocks h n b

  between_same : (bs : List Block) (h : Here) (n : ℕ) (from to : Name) → edges_between (pass_blocks given env bs h n) from to ≡ edges_between bs from to
  between_same [] h n from to = refl
  between_same (b ∷ bs) h n from to =
      ap₂ (λ x y. (if name_eq b.name from then count_name to x else 0) + y) (code_goes given env b.insts h n)
      (between_same bs (here_after given h b.insts) (pass_insts given env b.insts h n).next from to)

  enter_between : (code : List Inst) (bs : List Block) → goes code ≡ [] → (from to : Name) → edges_between (enter_block code bs) from to ≡ edges_between bs from to
  enter_between code [] e from to = refl
  enter_between code (b ∷ bs) e from to = ap (λ x. (if name_eq b.name from then count_name to x else 0) + edges_between bs from to) (goes_past code b.insts e)

  -- the function's locals are among those of its instrumented form
  blocks_kept : (bs : List Block) (h : Here) (n : ℕ) (x : Name) → In (flat_map block_locals bs) x → In (flat_map block_locals (pass_blocks given env bs h n)) x
  blocks_kept [] h n x i = i
  blocks_kept (b ∷ bs) h n x i =
      let y = pass_insts given env b.insts h n in
      ⊎_elim
      (λ own. in_left (b.name ∷ results y.code) (flat_map block_locals (pass_blocks given env bs (here_after given h b.insts) y.next)) x (by_own own))
      (λ later. in_right (b.name ∷ results y.code) (flat_map block_locals (pass_blocks given env bs (here_after given h b.insts) y.next)) x (blocks_kept bs (here_after given h b.insts) y.next x later))
      (in_either (b.name ∷ results b.insts) (flat_map block_locals bs) x i)
    where
      by_own : In (b.name ∷ results b.insts) x → In (b.name ∷ results (pass_insts given env b.insts h n).code) x
      by_own (inl e) = inl e
      by_own (inr r) = inr (set_with given env x x b.insts (own_with given env x b.insts) h n r)

  enter_kept : (code : List Inst) (bs : List Block) (x : Name) → In (flat_map block_locals bs) x → In (flat_map block_locals (enter_block code bs)) x
  enter_kept code [] x i = i
  enter_kept code (b ∷ bs) x i =
      ⊎_elim (λ own. in_left (b.name ∷ results (code ++ b.insts)) (flat_map block_locals bs) x (by_own own)) (λ later. in_right (b.name ∷ results (code ++ b.insts)) (flat_map block_locals bs) x later)
      (in_either (b.name ∷ results b.insts) (flat_map block_locals bs) x i)
    where
      by_own : In (b.name ∷ results b.insts) x → In (b.name ∷ results (code ++ b.insts)) x
      by_own (inl e) = inl e
      by_own (inr r) = inr (subst (λ l. In l x) (sym (results_append code b.insts)) (in_right (results code) (results b.insts) x r))

  pub locals_kept : (f : Func) (h : Here) (n : ℕ) (x : Name) → In (locals f) x → In (locals (passed given env f h n)) x
  locals_kept f h n x i =
      let params = map (λ p. p.1) f.params in
      let blocks = (passed given env f h n).blocks in
      ⊎_elim (λ l. in_left params (flat_map block_locals blocks) x l)
      (λ r. in_right params (flat_map block_locals blocks) x (enter_kept (taken given env f n) (pass_blocks given env f.blocks h n) x (blocks_kept f.blocks h n x r)))
      (in_either params (flat_map block_locals f.blocks) x i)

  -- phis and branches fit as before
  pub edges_same : (f : Func) (h : Here) (n b p q s t : ℕ) (o : Op) → edges_fit (spot (passed given env f h n) b q t) o ≡ edges_fit (spot f b p s) o
  edges_same f h n b p q s t (op.Phi u es) =
      let g = passed given env f h n in
      let counts = λ (e : Name → Name → ℕ) (names : List Name) (to : Name).
      list_all (λ from. nat_eq (count_name from (map (λ e. e.1) es)) (e from to)) (map (λ e. e.1) es ++ names) && edges_agree es in
      let between : edges_between g.blocks ≡ edges_between f.blocks = λ i from to. (enter_between (taken given env f n) (pass_blocks given env f.blocks h n) (entry_goes given env f n) from to ∙ between_same f.blocks h n from to) i in
      ap (λ e. counts e (block_names g) (block_name_at g b)) between
      ∙ ap₂ (λ names to. counts (edges_between f.blocks) names to) (names_same f h n) (name_same_at f h n b)
  edges_same f h n b p q s t o = ap (λ x. not (has_name (targets o) x)) (name_same_at f h n 0)

-- ---- types

module _ (m j : Module) (f g : Func) (types : j.types ≡ m.types) (names : block_names g ≡ block_names f) (ret : g.ret ≡ f.ret)
    (fits more : Ty × Operand → Bool) (keeps : (o : Ty × Operand) → fits o ≡ true → more o ≡ true) (starts : (o : Operand) → is_start j o ≡ is_start m o) where
  misfit_kept : (k : ℕ) (os : List (Ty × Operand)) → first_misfit fits k os ≡ None → first_misfit more k os ≡ None
  misfit_kept k [] e = refl
  misfit_kept k (o ∷ os) e = by_test (fits o) refl e (misfit_kept (suc k) os)
    where
      by_test : (c : Bool) → fits o ≡ c → (if c then first_misfit fits (suc k) os else Some k) ≡ None → (first_misfit fits (suc k) os ≡ None → first_misfit more (suc k) os ≡ None)
          → (if more o then first_misfit more (suc k) os else Some k) ≡ None
      by_test true s h go = ap (λ d. if d then first_misfit more (suc k) os else Some k) (keeps o s) ∙ go h
      by_test false s h go = grind arith

  misstep_kept : (t : Ty) (k : ℕ) (os : List (Ty × Operand)) → first_misstep fits m.types t k os ≡ None → first_misstep more m.types t k os ≡ None
  misstep_kept t k [] e = refl
  misstep_kept t k (o ∷ os) e = by_test (fits o) (leads_into (resolved m.types t) o) refl refl e (misstep_kept (part_type (resolved m.types t) (number_or_zero o.1)) (suc k) os)
    where
      by_test : (c d : Bool) → fits o ≡ c → leads_into (resolved m.types t) o ≡ d
          → (if c && d then first_misstep fits m.types (part_type (resolved m.types t) (number_or_zero o.1)) (suc k) os else Some k) ≡ None
          → (first_misstep fits m.types (part_type (resolved m.types t) (number_or_zero o.1)) (suc k) os ≡ None
          → first_misstep more m.types (part_type (resolved m.types t) (number_or_zero o.1)) (suc k) os ≡ None)
          → (if more o && leads_into (resolved m.types t) o then first_misstep more m.types (part_type (resolved m.types t) (number_or_zero o.1)) (suc k) os else Some k) ≡ None
      by_test true true s l h go =
          ap₂ (λ a b. if a && b then first_misstep more m.types (part_type (resolved m.types t) (number_or_zero o.1)) (suc k) os else Some k) (keeps o s) l ∙ go h
      by_test true false s l h go = grind arith
      by_test false d s l h go = grind arith

  none_both : (x y : Option ℕ) → x ≡ None → y ≡ None → option_or x y ≡ None
  none_both x y e h = ap₂ option_or e h

  returns_kept : (r : Option Ty) (v : Option (Ty × Operand)) → returns_fit fits r v ≡ true → returns_fit more r v ≡ true
  returns_kept None None e = refl
  returns_kept None (Some v) e = grind arith
  returns_kept (Some t) None e = grind arith
  returns_kept (Some t) (Some v) e = by_test (type_eq v.0 t) (fits v) refl refl e
    where
      by_test : (c d : Bool) → type_eq v.0 t ≡ c → fits v ≡ d → (c && d) ≡ true → (type_eq v.0 t && more v) ≡ true
      by_test true true s l h = ap₂ (λ a b. a && b) s (keeps v l)
      by_test true false s l h = grind arith
      by_test false d s l h = grind arith

  plain_kept : (os : List (Ty × Operand)) (ts : List Name) → option_or (first_misfit fits 0 os) (fault_unless (list_all (has_name (block_names f)) ts)) ≡ None
      → option_or (first_misfit more 0 os) (fault_unless (list_all (has_name (block_names g)) ts)) ≡ None
  plain_kept os ts e =
      let b = both_none (first_misfit fits 0 os) (fault_unless (list_all (has_name (block_names f)) ts)) e in
      none_both (first_misfit more 0 os) (fault_unless (list_all (has_name (block_names g)) ts)) (misfit_kept 0 os b.0)
      (ap (λ l. fault_unless (list_all (has_name l) ts)) names ∙ b.1)

  -- arguments that fit by their places fit in both modules
  arguments_kept : (fit also : ℕ → Ty × Operand → Bool) → ((n : ℕ) (o : Ty × Operand) → fit n o ≡ true → also n o ≡ true) → (k : ℕ) (ts : List Ty) (os : List (Ty × Operand))
      → argument_fault fit k ts os ≡ None → argument_fault also k ts os ≡ None
  arguments_kept fit also keep k [] [] e = refl
  arguments_kept fit also keep k (t ∷ ts) [] e = e
  arguments_kept fit also keep k [] (o ∷ os) e = e
  arguments_kept fit also keep k (t ∷ ts) (o ∷ os) e = by_test (type_eq o.0 t) (fit k o) refl refl e (arguments_kept fit also keep (suc k) ts os)
    where
      by_test : (c d : Bool) → type_eq o.0 t ≡ c → fit k o ≡ d → (if c && d then argument_fault fit (suc k) ts os else Some k) ≡ None
          → (argument_fault fit (suc k) ts os ≡ None → argument_fault also (suc k) ts os ≡ None) → (if type_eq o.0 t && also k o then argument_fault also (suc k) ts os else Some k) ≡ None
      by_test true true s l h go = ap₂ (λ a b. if a && b then argument_fault also (suc k) ts os else Some k) s (keep k o l) ∙ go h
      by_test true false s l h go = grind arith
      by_test false d s l h go = grind arith

  printed_kept : (k : ℕ) (os : List (Ty × Operand)) → first_misfit (λ b. is_printable b.0 && fits b) k os ≡ None → first_misfit (λ b. is_printable b.0 && more b) k os ≡ None
  printed_kept k [] e = refl
  printed_kept k (o ∷ os) e = by_test (is_printable o.0) (fits o) refl refl e (printed_kept (suc k) os)
    where
      by_test : (c d : Bool) → is_printable o.0 ≡ c → fits o ≡ d → (if c && d then first_misfit (λ b. is_printable b.0 && fits b) (suc k) os else Some k) ≡ None
          → (first_misfit (λ b. is_printable b.0 && fits b) (suc k) os ≡ None → first_misfit (λ b. is_printable b.0 && more b) (suc k) os ≡ None)
          → (if is_printable o.0 && more o then first_misfit (λ b. is_printable b.0 && more b) (suc k) os else Some k) ≡ None
      by_test true true s l h go = ap₂ (λ a b. if a && b then first_misfit (λ b. is_printable b.0 && more b) (suc k) os else Some k) s (keeps o l) ∙ go h
      by_test true false s l h go = grind arith
      by_test false d s l h go = grind arith

  printf_kept : (os : List (Ty × Operand)) → printf_fault fits os ≡ None → printf_fault more os ≡ None
  printf_kept [] e = e
  printf_kept (o ∷ os) e = by_test (type_eq o.0 Ptr) (fits o) refl refl e
    where
      by_test : (c d : Bool) → type_eq o.0 Ptr ≡ c → fits o ≡ d → (if c && d then first_misfit (λ b. is_printable b.0 && fits b) 1 os else Some 0) ≡ None
          → (if type_eq o.0 Ptr && more o then first_misfit (λ b. is_printable b.0 && more b) 1 os else Some 0) ≡ None
      by_test true true s l h = ap₂ (λ a b. if a && b then first_misfit (λ b. is_printable b.0 && more b) 1 os else Some 0) s (keeps o l) ∙ printed_kept 1 os h
      by_test true false s l h = grind arith
      by_test false d s l h = grind arith

  pub op_kept : (o : Op) → ((r : Option Ty) (x : Name) (as' : List (Ty × Operand)) → o ≡ op.Call r x as' → (signature_of j x ≡ signature_of m x) × (is_printf j x ≡ is_printf m x) × (is_create j x ≡ is_create m x)) → op_fault m f fits o ≡ None → op_fault j g more o ≡ None
  op_kept (op.Cast o fl from a to) c e =
      let b = both_none (first_misfit fits 0 ((from, a) ∷ [])) (fault_unless (cast_allows o from to)) e in
      none_both (first_misfit more 0 ((from, a) ∷ [])) (fault_unless (cast_allows o from to)) (misfit_kept 0 ((from, a) ∷ []) b.0) b.1
  op_kept (op.Gep t base is) c e =
      let b = both_none (first_misfit fits 0 ((Ptr, base) ∷ take 1 is)) (first_misstep fits m.types t 2 (drop 1 is)) e in
      none_both (first_misfit more 0 ((Ptr, base) ∷ take 1 is)) (first_misstep more j.types t 2 (drop 1 is)) (misfit_kept 0 ((Ptr, base) ∷ take 1 is) b.0)
      (ap (λ ts. first_misstep more ts t 2 (drop 1 is)) types ∙ misstep_kept t 2 (drop 1 is) b.1)
  op_kept (op.Call r x as') c e =
      let same = c r x as' refl in
      ap (λ g. call_fault j more g r x as') same.0 ∙ by_signature (signature_of m x) e
    where
      by_signature : (q : Option Signature) → call_fault m fits q r x as' ≡ None → call_fault j more q r x as' ≡ None
      by_signature None h = let b = both_none (first_misfit fits 0 as') (Some 0) h in none_both (first_misfit more 0 as') (Some 0) (misfit_kept 0 as' b.0) b.1
      by_signature (Some q) h =
          let b = both_none (if is_printf m x then printf_fault fits as' else argument_fault (fits_call m fits x) 0 q.params as') (fault_unless (result_type_eq r q.ret)) h in
          none_both (if is_printf j x then printf_fault more as' else argument_fault (fits_call j more x) 0 q.params as') (fault_unless (result_type_eq r q.ret))
          (ap (λ c. if c then printf_fault more as' else argument_fault (fits_call j more x) 0 q.params as') (c r x as' refl).1 ∙ by_printf (is_printf m x) b.0) b.1
        where
          by_start : (c : Bool) (n : ℕ) (o : Ty × Operand) → (if c && nat_eq n 2 then is_start m o.1 else fits o) ≡ true → (if c && nat_eq n 2 then is_start j o.1 else more o) ≡ true
          by_start true n o k = by_second (nat_eq n 2) k
            where
              by_second : (t : Bool) → (if t then is_start m o.1 else fits o) ≡ true → (if t then is_start j o.1 else more o) ≡ true
              by_second true k = starts o.1 ∙ k
              by_second false k = keeps o k
          by_start false n o k = keeps o k

          by_place : (n : ℕ) (o : Ty × Operand) → fits_call m fits x n o ≡ true → fits_call j more x n o ≡ true
          by_place n o k = ap (λ c. if c && nat_eq n 2 then is_start j o.1 else more o) (c r x as' refl).2 ∙ by_start (is_create m x) n o k

          by_printf : (d : Bool) → (if d then printf_fault fits as' else argument_fault (fits_call m fits x) 0 q.params as') ≡ None → (if d then printf_fault more as' else argument_fault (fits_call j more x) 0 q.params as') ≡ None
          by_printf true k = printf_kept as' k
          by_printf false k = arguments_kept (fits_call m fits x) (fits_call j more x) by_place 0 q.params as' k
  op_kept (op.Switch t v other cases) c e =
      let b = both_none (first_misfit fits 0 ((t, v) ∷ [])) (fault_unless (differ cases && list_all (has_name (block_names f)) (targets (op.Switch t v other cases)))) e in
      none_both (first_misfit more 0 ((t, v) ∷ [])) (fault_unless (differ cases && list_all (has_name (block_names g)) (targets (op.Switch t v other cases)))) (misfit_kept 0 ((t, v) ∷ []) b.0)
      (ap (λ l. fault_unless (differ cases && list_all (has_name l) (targets (op.Switch t v other cases)))) names ∙ b.1)
  op_kept (op.Ret v) c e = ap fault_unless (ap (λ r. returns_fit more r v) ret ∙ returns_kept f.ret v (holds_unless (returns_fit fits f.ret v) e))
  op_kept (op.Binary o fl t a b) c e = plain_kept ((t, a) ∷ (t, b) ∷ []) [] e
  op_kept (op.Icmp o fl t a b) c e = plain_kept ((t, a) ∷ (t, b) ∷ []) [] e
  op_kept (op.Select d t a b) c e = plain_kept ((Int 1, d) ∷ (t, a) ∷ (t, b) ∷ []) [] e
  op_kept (op.Freeze t a) c e = plain_kept ((t, a) ∷ []) [] e
  op_kept (op.Phi t es) c e = plain_kept (operands (op.Phi t es)) [] e
  op_kept (op.Alloca t u d) c e = plain_kept ((u, d) ∷ []) [] e
  op_kept (op.Load t a) c e = plain_kept ((Ptr, a) ∷ []) [] e
  op_kept (op.Store t v a) c e = plain_kept ((t, v) ∷ (Ptr, a) ∷ []) [] e
  op_kept (op.Br to) c e = plain_kept [] (to ∷ []) e
  op_kept (op.CondBr d to other) c e = plain_kept ((Int 1, d) ∷ []) (to ∷ other ∷ []) e
  op_kept op.Unreachable c e = plain_kept [] [] e

-- ---- operands

pub fits_kept_by : (m j : Module) (typed more : Name → Option Ty) → j.types ≡ m.types → ((x : Name) → is_variable m x ≡ true → is_variable j x ≡ true)
    → ((x : Name) (t : Ty) → typed x ≡ Some t → more x ≡ Some t) → (t : Ty) (o : Operand) → operand_fits m typed t o ≡ true → operand_fits j more t o ≡ true
fits_kept_by m j typed more types variables values t (operand.Local x) e = by_type (typed x) refl e
  where
    by_type : (r : Option Ty) → typed x ≡ r → is_type r t ≡ true → is_type (more x) t ≡ true
    by_type None s h = absurd (true≢false (sym h))
    by_type (Some u) s h = ap (λ r. is_type r t) (values x u s) ∙ h
fits_kept_by m j typed more types variables values t (operand.Global x) e = by_tests (type_eq t Ptr) (is_variable m x) refl refl e
  where
    by_tests : (c d : Bool) → type_eq t Ptr ≡ c → is_variable m x ≡ d → (c && d) ≡ true → (type_eq t Ptr && is_variable j x) ≡ true
    by_tests true true s l h = ap₂ (λ a b. a && b) s (variables x l)
    by_tests true false s l h = grind arith
    by_tests false d s l h = grind arith
fits_kept_by m j typed more types variables values t (operand.Offset x steps) e = by_tests (type_eq t Ptr) (is_variable m x) refl refl e
  where
    by_tests : (c d : Bool) → type_eq t Ptr ≡ c → is_variable m x ≡ d → (c && d && list_all (step_fits m.types) steps) ≡ true
        → (type_eq t Ptr && is_variable j x && list_all (step_fits j.types) steps) ≡ true
    by_tests true true s l h = ap₂ (λ a b. a && b && list_all (step_fits j.types) steps) s (variables x l) ∙ ap (λ ts. list_all (step_fits ts) steps) types ∙ h
    by_tests true false s l h = grind arith
    by_tests false d s l h = grind arith
fits_kept_by m j typed more types variables values t _ e = refl

pub fits_kept : (m j : Module) (f g : Func) → j.types ≡ m.types → ((x : Name) → is_variable m x ≡ true → is_variable j x ≡ true)
    → ((x : Name) (t : Ty) → value_type f x ≡ Some t → value_type g x ≡ Some t) → (t : Ty) (o : Operand) → operand_fits m (value_type f) t o ≡ true → operand_fits j (value_type g) t o ≡ true
fits_kept m j f g types variables values t o e = fits_kept_by m j (value_type f) (value_type g) types variables values t o e
