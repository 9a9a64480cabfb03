-- Each instruction of a function's instrumented form breaks no clause.
use Rattle.std.proofs.Common.{◌≡◌, ℕ, suc, ◌+◌, ◌*◌, ◌≤◌, List, [], ◌∷◌, ◌++◌, Bool, true, false, Option, Some, None, refl, sym, ap, subst, ◌∙◌, inl, inr, ⊎_elim, true≢false}
use Rattle.std.specs.Prelude.{◌⊎◌, ◌&&◌, ◌||◌, not, nat_eq, All, map, flat_map, filter, length, slice_get, unwrap_or, option_map, if◌then◌else◌, cond}
use Rattle.std.specs.List.{list_any, list_all, cons_option}
use Rattle.std.specs.Option.{option_or}
use Rattle.std.proofs.Math.Path.{ap₂}
use Rattle.std.proofs.lemmas.List.Elements.{All-nil, All-cons, All-append}
use Rattle.ms_ir.specs.declared.syntax.Name.{Name}
use Rattle.ms_ir.specs.declared.syntax.Ty.{Ty}
use Rattle.ms_ir.specs.declared.syntax.Operand.{Operand}
use Rattle.ms_ir.specs.declared.syntax.Operand.TheVariants as operand
use Rattle.ms_ir.specs.declared.syntax.Op.{Op}
use Rattle.ms_ir.specs.declared.syntax.Op.TheVariants as op
use Rattle.ms_ir.specs.declared.syntax.Inst.{Inst}
use Rattle.ms_ir.specs.declared.syntax.Block.{Block}
use Rattle.ms_ir.specs.declared.syntax.Func.{Func}
use Rattle.ms_ir.specs.declared.syntax.Module.{Module}
use Rattle.ms_ir.specs.declared.calls.RuntimeFn.{RuntimeFn}
use Rattle.ms_ir.specs.Names.{is_reserved, is_inserted_name, runtime_name}
use Rattle.ms_runs.specs.World.{Here}
use Rattle.ms_ir.specs.Instructions.{operands, block_index, external_named, func_index, is_phi}
use Rattle.ms_ir.specs.Equal.{has_name}
use Rattle.ms_ir.specs.Written.{Mention, OfType, OfLocal, OfGlobal, operand_mentions, mentions, result_type, operands_mentions}
use Rattle.ms_ir.specs.Locals.{locals, results, symbols, value_type, type_names, block_name_at, func_insts}
use Rattle.ms_check_valid.specs.NamesKnown.{knows, unknown_of}
use Rattle.ms_check_valid.specs.NamesOnce.{repeats}
use Rattle.ms_ir.specs.Spots.{spot}
use Rattle.ms_check_valid.specs.Paths.{insts_of, IsDefined}
use Rattle.ms_check_valid.specs.TypesAgree.{operand_fits, is_variable, is_printf, is_start, is_create}
use Rattle.ms_check_valid.specs.PhisFit.{edges_agree, edges_fit, count_name, edges_between}
use Rattle.ms_ir.specs.Layout.{width_of}
use Rattle.ms_ir.specs.Signatures.{runtime_signature, signature_of, slot_globals}
use Rattle.ms_check_valid.specs.ExternalsFit.{flagged_callees, name_unless, flag_fits}
use Rattle.ms_check_valid.specs.UsesDefined.{IsUseDefined, operand_use, edge_use, inst_uses}
use Rattle.ms_check_valid.specs.MarksFit.{may_be_marked, all_results, marked_results, is_inserted, mark_fits}
use Rattle.ms_check_valid.specs.ValidAt.{FitsAt}
use Rattle.ms_check_valid.proofs.NameTests.{name_within, within_name}
use Rattle.ms_pass_tasks.specs.Tasks.{msan_name, inserted}
use Rattle.ms_pass_tasks.specs.Environments.{Env, Given}
use Rattle.ms_pass_tasks.specs.Known.{OneName, FewNumbers}
use Rattle.ms_pass_tasks.proofs.InsertedNames.{msan_reserved}
use Rattle.ms_pass_form_laws.proofs.Checked.{MayCall, Allowed, ResultFits}
use Rattle.ms_pass_form_laws.proofs.Paths.{In, to_in, from_in, defined_later}
use Rattle.ms_pass_form_laws.proofs.PassPaths.{passed, code_at, Masks, begins, own_defined, own_defined_end, index_same}
use Rattle.ms_pass_form_laws.proofs.Placed.{here_at}
use Rattle.ms_pass_form_laws.proofs.Numerals.{msan_inserted}
use Rattle.ms_pass_form_laws.proofs.Inserted.{ConstGood, inserted_fits, marked_fits}
use Rattle.ms_pass_form_laws.proofs.Own.{unknown_split, unknown_kept, edges_same, names_same, locals_kept, op_kept, fits_kept, unknown_parts}
use Rattle.ms_pass_form_laws.proofs.PhiClauses.{mask_labels, origin_labels, masks_agree, origins_agree, phi_same, LabelsKnown, edges_agree_types, edges_known, edges_defined}
use Rattle.ms_pass_form_laws.proofs.Shown.{shown, shown_uses}
use Rattle.ms_pass_form_laws.proofs.FuncFits.{OperandGood, OperandsGood, PlainGood, EntryGood, EdgeGood, EdgesGood, PhiGood, PhiFits, OwnAt, StandsAt, all_stand, value_kept}
use Rattle.std.proofs.lemmas.Bool.{and_parts}
use Rattle.ms_pass_laws.proofs.NumberedValues.{value_local}

-- ---- values are locals

-- ---- marked results

abbrev MarkedIn : List Inst → Name → Type 0
MarkedIn [] x = ⊥
MarkedIn (i ∷ is) x = ((i.marked ≡ true) × (i.result ≡ Some x)) ⊎ MarkedIn is x

marked_in : (is : List Inst) (x : Name) → In (results (filter (λ i. i.marked) is)) x → MarkedIn is x
marked_in [] x p = p
marked_in (i ∷ is) x p = by_mark i.marked refl p (marked_in is x)
  where
    by_result : (o : Option Name) → i.marked ≡ true → i.result ≡ o → In (cons_option o (results (filter (λ k. k.marked) is))) x → (In (results (filter (λ k. k.marked) is)) x → MarkedIn is x) → MarkedIn (i ∷ is) x
    by_result None m r q go = inr (go q)
    by_result (Some y) m r (inl e) go = inl (m, r ∙ ap Some e)
    by_result (Some y) m r (inr q) go = inr (go q)

    by_mark : (c : Bool) → i.marked ≡ c → In (results (cond c (i ∷ filter (λ k. k.marked) is) (filter (λ k. k.marked) is))) x → (In (results (filter (λ k. k.marked) is)) x → MarkedIn is x) → MarkedIn (i ∷ is) x
    by_mark true m q go = by_result i.result m refl q go
    by_mark false m q go = inr (go q)

marked_either : (a b : List Inst) (x : Name) → MarkedIn (a ++ b) x → MarkedIn a x ⊎ MarkedIn b x
marked_either [] b x p = inr p
marked_either (i ∷ a) b x (inl p) = inl (inl p)
marked_either (i ∷ a) b x (inr p) = ⊎_elim (λ l. inl (inr l)) (λ r. inr r) (marked_either a b x p)

marked_block : (bs : List Block) (x : Name) → MarkedIn (flat_map (λ k. k.insts) bs) x → (b : ℕ) × MarkedIn (unwrap_or (option_map (λ k. k.insts) (slice_get bs b)) []) x
marked_block [] x p = absurd p
marked_block (k ∷ bs) x p = ⊎_elim (λ l. (0, l)) (λ r. let s = marked_block bs x r in (suc s.0, s.1)) (marked_either k.insts (flat_map (λ k. k.insts) bs) x p)

marked_place : (is : List Inst) (x : Name) → MarkedIn is x → (q : ℕ) × (i : Inst) × (slice_get is q ≡ Some i) × (i.marked ≡ true) × (i.result ≡ Some x)
marked_place [] x p = absurd p
marked_place (i ∷ is) x (inl p) = (0, i, refl, p.0, p.1)
marked_place (i ∷ is) x (inr p) = let s = marked_place is x p in (suc s.0, s.1, s.2, s.3, s.4)

-- ---- all that is asked of a function

pub record FuncReady (given : Given) (env : Env) (size : ℕ) (f : Func) (h : Here) (n : ℕ) (C : Allowed) : Type 0 where
  pub one : OneName env
  pub few : FewNumbers env size
  pub room : 2 * size + 1 ≤ n
  pub once : repeats [] (locals f) ≡ []
  pub free : (x : Name) → In (locals f) x → is_reserved x ≡ false
  pub entry : EntryGood f C
  pub good : (b p : ℕ) (i : Inst) → slice_get (insts_of f b) p ≡ Some i → is_phi i.op ≡ false
      → PlainGood given f C b p (here_at given env (insts_of f b) p (code_at given env f h n b).here) i
  pub masked : (b : ℕ) (x : Name) → Masks x (insts_of f b)
  pub phi_good : (b p : ℕ) (i : Inst) (t : Ty) (es : List (Operand × Name)) → slice_get (insts_of f b) p ≡ Some i → i.op ≡ op.Phi t es
      → PhiGood f C (here_at given env (insts_of f b) p (code_at given env f h n b).here) t es
  pub unmarked : (b p : ℕ) (i : Inst) → slice_get (insts_of f b) p ≡ Some i → i.marked ≡ false

-- what the instrumented module has beside the program's
pub record ModuleReady (m j : Module) : Type 0 where
  pub types : j.types ≡ m.types
  pub type_known : (x : Name) → has_name (type_names m) x ≡ true → has_name (type_names j) x ≡ true
  pub variable : (x : Name) → is_variable m x ≡ true → is_variable j x ≡ true
  pub symbol : (x : Name) → has_name (symbols m) x ≡ true → has_name (symbols j) x ≡ true
  pub declared : (fn : RuntimeFn) → MayCall (ConstGood m j) fn → signature_of j (runtime_name fn) ≡ Some (runtime_signature fn)
  pub runtime_symbol : (fn : RuntimeFn) → MayCall (ConstGood m j) fn → has_name (symbols j) (runtime_name fn) ≡ true
  pub own_call : (x : Name) → has_name (symbols m) x ≡ true → (signature_of j x ≡ signature_of m x) × (is_printf j x ≡ is_printf m x) × (is_create j x ≡ is_create m x)
  pub starts : (o : Operand) → is_start j o ≡ is_start m o
  pub own_external : (x : Name) → external_named (func_index j.funcs) x ≡ external_named (func_index m.funcs) x
  pub slot : (x : Name) → has_name (map (λ g. g.name) slot_globals) x ≡ true → (is_variable j x ≡ true) × (has_name (symbols j) x ≡ true)

module _ (m j : Module) (given : Given) (env : Env) (size : ℕ) (f : Func) (h : Here) (n : ℕ) (r : FuncReady given env size f h n (ConstGood m j)) (a : ModuleReady m j)
    (own_fits : (b p : ℕ) (i : Inst) → slice_get (insts_of f b) p ≡ Some i → (s : ℕ) × FitsAt m (spot f b p s) i) where
  abbrev g : Func
  g = passed given env f h n

  stands : (b q : ℕ) (i : Inst) → slice_get (insts_of g b) q ≡ Some i
      → StandsAt given env size r.one r.few f h n (ConstGood m j) r.entry r.room r.once r.free r.good r.masked r.phi_good b q i
  stands b q i e = all_stand given env size r.one r.few f h n (ConstGood m j) r.entry r.room r.once r.free r.good r.masked r.phi_good b q i e

  values : (x : Name) (t : Ty) → value_type f x ≡ Some t → value_type g x ≡ Some t
  values x t e = value_kept given env size r.one r.few f h n (ConstGood m j) r.entry r.room r.once r.free r.good r.masked r.phi_good x t e

  local : (x : Name) → has_name (locals f) x ≡ true → has_name (locals g) x ≡ true
  local x e = within_name (locals g) x (from_in (locals g) x (locals_kept given env f h n x (to_in (locals f) x (name_within (locals f) x e))))

  knows_too : (x : Mention) → knows m (locals f) x ≡ true → knows j (locals g) x ≡ true
  knows_too (OfType x) e = a.type_known x e
  knows_too (OfLocal x) e = local x e
  knows_too (OfGlobal x) e = a.symbol x e

  -- ---- marks

  fits_reserved : (x : Name) (o : Option Ty) → ResultFits (Some x) o → is_reserved x ≡ true
  fits_reserved x (Some t) k = ap is_reserved k.1 ∙ msan_reserved k.0
  fits_reserved x None k = absurd k

  marked_reserved : (x : Name) → has_name (marked_results g) x ≡ true → is_reserved x ≡ true
  marked_reserved x e =
      let w = marked_block g.blocks x (marked_in (func_insts g) x (to_in (marked_results g) x (name_within (marked_results g) x e))) in
      let p = marked_place (insts_of g w.0) x w.1 in
      by_stand w.0 p.0 p.1 p.3 p.4 (stands w.0 p.0 p.1 p.2)
    where
      by_stand : (b q : ℕ) (i : Inst) → i.marked ≡ true → i.result ≡ Some x
          → StandsAt given env size r.one r.few f h n (ConstGood m j) r.entry r.room r.once r.free r.good r.masked r.phi_good b q i → is_reserved x ≡ true
      by_stand b q i mk named (inl k) = fits_reserved x (result_type i.op) (subst (λ o. ResultFits o (result_type i.op)) named k.gives)
      by_stand b q i mk named (inr (inl k)) =
          let same : msan_name k.number ≡ x = ap (λ o. unwrap_or o x) (sym (ap (λ y. y.result) k.is) ∙ named) in ap is_reserved (sym same) ∙ msan_reserved k.number
      by_stand b q i mk named (inr (inr k)) = absurd (true≢false (sym mk ∙ r.unmarked b k.place i k.at))

  mention_kept : (x : Mention) → is_inserted (marked_results f) x ≡ false → is_inserted (marked_results g) x ≡ false
  mention_kept (OfType x) e = e
  mention_kept (OfGlobal x) e = e
  mention_kept (OfLocal x) e = by_tests (is_reserved x) (has_name (marked_results g) x) refl refl e
    where
      by_tests : (c d : Bool) → is_reserved x ≡ c → has_name (marked_results g) x ≡ d → (c || has_name (marked_results f) x) ≡ false → (is_reserved x || has_name (marked_results g) x) ≡ false
      by_tests true d s l q = absurd (true≢false q)
      by_tests false true s l q = absurd (true≢false (sym (marked_reserved x l) ∙ s))
      by_tests false false s l q = ap₂ (λ c d. c || d) s l

  none_kept : (xs : List Mention) → list_any (is_inserted (marked_results f)) xs ≡ false → list_any (is_inserted (marked_results g)) xs ≡ false
  none_kept [] e = refl
  none_kept (x ∷ xs) e = by_test (is_inserted (marked_results f) x) refl e (none_kept xs)
    where
      by_test : (c : Bool) → is_inserted (marked_results f) x ≡ c → (c || list_any (is_inserted (marked_results f)) xs) ≡ false
          → (list_any (is_inserted (marked_results f)) xs ≡ false → list_any (is_inserted (marked_results g)) xs ≡ false)
          → (is_inserted (marked_results g) x || list_any (is_inserted (marked_results g)) xs) ≡ false
      by_test true s q go = absurd (true≢false q)
      by_test false s q go = ap₂ (λ c d. c || d) (mention_kept x s) (go q)

  mark_kept : (i : Inst) → i.marked ≡ false → mark_fits f i ≡ true → mark_fits g i ≡ true
  mark_kept i u e =
      ap (choice g) u ∙ by_parts (all_results (λ x. not (is_inserted_name x)) i.result) (list_any (is_inserted (marked_results f)) (mentions i.op)) refl refl (sym (ap (choice f) u) ∙ e)
    where
      choice : Func → Bool → Bool
      choice k c =
          if c then may_be_marked i.op && all_results is_inserted_name i.result
          else all_results (λ x. not (is_inserted_name x)) i.result && not (list_any (is_inserted (marked_results k)) (mentions i.op))

      by_parts : (c d : Bool) → all_results (λ x. not (is_inserted_name x)) i.result ≡ c → list_any (is_inserted (marked_results f)) (mentions i.op) ≡ d → (c && not d) ≡ true
          → (all_results (λ x. not (is_inserted_name x)) i.result && not (list_any (is_inserted (marked_results g)) (mentions i.op))) ≡ true
      by_parts true false s l q = ap₂ (λ c d. c && not d) s (none_kept (mentions i.op) l)
      by_parts true true s l q = absurd (true≢false (sym q))
      by_parts false d s l q = absurd (true≢false (sym q))

  -- ---- uses

  own_use : (b p front s : ℕ) (t : Ty) (o : Operand) → OperandGood f (ConstGood m j) b p t o
      → All IsUseDefined (operand_use (spot g b (begins given env f h n b p + front) s) b (begins given env f h n b p + front) o)
  own_use b p front s t (operand.Local x) k =
      let q = begins given env f h n b p + front in
      All-cons IsUseDefined (record { func = g; site = s; value = record { block = b; place = q; name = x } }) []
      (defined_later g b (begins given env f h n b p) front x (own_defined given env f h n b p x k.1)) (All-nil IsUseDefined)
  own_use b p front s t (operand.Int k) e = All-nil IsUseDefined
  own_use b p front s t operand.Null e = All-nil IsUseDefined
  own_use b p front s t operand.Undef e = All-nil IsUseDefined
  own_use b p front s t operand.Poison e = All-nil IsUseDefined
  own_use b p front s t (operand.Global x) e = All-nil IsUseDefined
  own_use b p front s t (operand.Offset x steps) e = All-nil IsUseDefined

  own_uses : (b p front s : ℕ) (os : List (Ty × Operand)) → OperandsGood f (ConstGood m j) b p os
      → All IsUseDefined (flat_map (λ o. operand_use (spot g b (begins given env f h n b p + front) s) b (begins given env f h n b p + front) o.1) os)
  own_uses b p front s [] k = All-nil IsUseDefined
  own_uses b p front s (o ∷ os) k =
      let q = begins given env f h n b p + front in
      All-append IsUseDefined (operand_use (spot g b q s) b q o.1) (flat_map (λ o. operand_use (spot g b q s) b q o.1) os) (own_use b p front s o.0 o.1 k.1) (own_uses b p front s os k.2)

  own_edge : (b q s : ℕ) (t : Ty) (o : Operand) (from : Name) → EdgeGood f (ConstGood m j) t o from → All IsUseDefined (edge_use (spot g b q s) (o, from))
  own_edge b q s t (operand.Local x) from k =
      let c = block_index g.blocks from in
      All-cons IsUseDefined (record { func = g; site = s; value = record { block = c; place = length (insts_of g c); name = x } }) []
      (subst (λ d. IsDefined g (record { block = d; place = length (insts_of g d); name = x })) (sym (index_same given env f h n from))
      (own_defined_end given env f h n (block_index f.blocks from) x k.1)) (All-nil IsUseDefined)
  own_edge b q s t (operand.Int k) from e = All-nil IsUseDefined
  own_edge b q s t operand.Null from e = All-nil IsUseDefined
  own_edge b q s t operand.Undef from e = All-nil IsUseDefined
  own_edge b q s t operand.Poison from e = All-nil IsUseDefined
  own_edge b q s t (operand.Global x) from e = All-nil IsUseDefined
  own_edge b q s t (operand.Offset x steps) from e = All-nil IsUseDefined

  own_edges : (b q s : ℕ) (t : Ty) (es : List (Operand × Name)) → EdgesGood f (ConstGood m j) t es → All IsUseDefined (flat_map (edge_use (spot g b q s)) es)
  own_edges b q s t [] k = All-nil IsUseDefined
  own_edges b q s t (e ∷ es) k = All-append IsUseDefined (edge_use (spot g b q s) e) (flat_map (edge_use (spot g b q s)) es) (own_edge b q s t e.0 e.1 k.0) (own_edges b q s t es k.1)

  -- the uses of an own instruction are defined
  own_defined_uses : (b p q front s : ℕ) (i : Inst) (o : Op) → i.op ≡ o → slice_get (insts_of f b) p ≡ Some i → q ≡ begins given env f h n b p + front
      → All IsUseDefined (inst_uses (spot g b q s) o)
  own_defined_uses b p q front s i (op.Phi t es) is at e = own_edges b q s t es (r.phi_good b p i t es at is).edges
  own_defined_uses b p q front s i o is at e =
      subst (λ k. All IsUseDefined (inst_uses (spot g b k s) o)) (sym e)
      (subst (All IsUseDefined) (shown_uses (spot g b (begins given env f h n b p + front) s) b (begins given env f h n b p + front) o)
      (own_uses b p front s (operands (shown o)) (subst (λ x. OperandsGood f (ConstGood m j) b p (operands (shown x))) is (r.good b p i at (ap is_phi is)).reads)))

  -- ---- own instructions

  flags_kept : (o : Op) → flagged_callees m o ≡ [] → flagged_callees j o ≡ []
  flags_kept (op.Call t x as') e = ap (λ k. name_unless (list_all (flag_fits k) as') x) (a.own_external x) ∙ e
  flags_kept _ e = refl

  own_stands : (b q site : ℕ) (i : Inst) → OwnAt given env size r.one r.few f h n (ConstGood m j) r.entry r.room r.once r.free r.good r.masked r.phi_good b q i → FitsAt j (spot g b q site) i
  own_stands b q site i k =
      let o = own_fits b k.place i k.at in
      let fits = λ (x : Ty × Operand). operand_fits m (value_type f) x.0 x.1 in
      let more = λ (x : Ty × Operand). operand_fits j (value_type g) x.0 x.1 in
      record {
        names_known = unknown_kept m j (locals f) (locals g) o.0 site (mentions i.op) knows_too o.1.names_known;
        types_agree = op_kept m j f g a.types (names_same given env f h n) refl fits more (λ x e. fits_kept m j f g a.types a.variable values x.0 x.1 e) a.starts i.op
            (λ q x as' is. a.own_call x (unknown_split m (locals f) o.0 (OfGlobal x) (operands_mentions as') (subst (λ z. unknown_of m (locals f) o.0 (mentions z) ≡ []) is o.1.names_known)).0)
            o.1.types_agree;
        phis_fit = edges_same given env f h n b k.place q o.0 site i.op ∙ o.1.phis_fit;
        externals_fit = flags_kept i.op o.1.externals_fit;
        uses_defined = own_defined_uses b k.place q k.front site i i.op refl k.at k.stands;
        marks_fit = mark_kept i (r.unmarked b k.place i k.at) o.1.marks_fit;
      }

  -- ---- inserted phis

  labels_known : (s : ℕ) (t : Ty) (es : List (Operand × Name)) → unknown_of m (locals f) s (mentions (op.Phi t es)) ≡ [] → LabelsKnown j g 0 0 0 (λ x u e. value_local g x u e) (map (λ e. e.1) es)
  labels_known s t [] e = tt
  labels_known s t (d ∷ es) e =
      let p = unknown_parts m (locals f) s (operand_mentions d.0 ++ OfLocal d.1 ∷ []) (mentions (op.Phi t es)) e in
      let q = unknown_parts m (locals f) s (operand_mentions d.0) (OfLocal d.1 ∷ []) p.0 in
      (local d.1 (unknown_split m (locals f) s (OfLocal d.1) [] q.1).0, labels_known s t es p.1)

  pub same_labels : (b : ℕ) (i : Inst) (k : PhiFits env f g b i) → map (λ e. e.1) k.edges ≡ map (λ e. e.1) k.own_edges
  same_labels b i k =
      ⊎_elim (λ e. ap (λ l. map (λ e. e.1) l) e ∙ mask_labels env (width_of k.own_ty) k.own_edges)
      (λ e. ap (λ l. map (λ e. e.1) l) e ∙ origin_labels env k.root k.own_edges k.own_edges) k.made

  labels_moved : (xs ys : List Name) → ys ≡ xs → LabelsKnown j g 0 0 0 (λ x u e. value_local g x u e) xs → LabelsKnown j g 0 0 0 (λ x u e. value_local g x u e) ys
  labels_moved xs ys e l = subst (LabelsKnown j g 0 0 0 (λ x u e. value_local g x u e)) (sym e) l

  phi_breaks_none : (b q site : ℕ) (i : Inst) → PhiFits env f g b i → FitsAt j (spot g b q site) i
  phi_breaks_none b q site i k =
      let o = own_fits b k.place k.phi k.at in
      let own_known = subst (λ x. unknown_of m (locals f) o.0 (mentions x) ≡ []) k.own o.1.names_known in
      let own_edges_fit = edges_same given env f h n b k.place q o.0 site (op.Phi k.own_ty k.own_edges) ∙ subst (λ x. edges_fit (spot f b k.place o.0) x ≡ true) k.own o.1.phis_fit in
      let own_agree = (and_parts (list_all (λ from. nat_eq (count_name from (map (λ e. e.1) k.own_edges)) (edges_between g.blocks from (block_name_at g b))) (map (λ e. e.1) k.own_edges ++ map (λ b. b.name) g.blocks))
      (edges_agree k.own_edges) own_edges_fit).1 in
      let agree : edges_agree k.edges ≡ true =
      ⊎_elim (λ e. ap edges_agree e ∙ masks_agree env (width_of k.own_ty) k.own_edges own_agree) (λ e. ap edges_agree e ∙ origins_agree env k.root k.own_edges k.own_edges) k.made in
      let done : FitsAt j (spot g b q site) (inserted (Some (msan_name k.number)) (op.Phi k.ty k.edges)) = record {
        names_known = edges_known j g b q site (λ x u e. value_local g x u e) k.ty k.edges k.fits
            (labels_moved (map (λ e. e.1) k.own_edges) (map (λ e. e.1) k.edges) (same_labels b i k) (labels_known o.0 k.own_ty k.own_edges own_known));
        types_agree = ap (λ x. option_or x None) (edges_agree_types j g b q site (λ x u e. value_local g x u e) 0 k.ty k.edges k.fits);
        phis_fit = phi_same g (block_name_at g b) k.own_edges k.edges (same_labels b i k) agree own_edges_fit;
        externals_fit = refl;
        uses_defined = edges_defined j g b q site (λ x u e. value_local g x u e) k.ty k.edges k.fits;
        marks_fit = marked_fits m j g b q site a.declared a.runtime_symbol (λ x u e. value_local g x u e) (inserted (Some (msan_name k.number)) (op.Phi k.ty k.edges)) refl refl (msan_inserted k.number);
      } in
      subst (FitsAt j (spot g b q site)) (sym k.is) done

  -- each instruction of the instrumented form breaks no clause
  pub func_fits : (b q site : ℕ) (i : Inst) → slice_get (insts_of g b) q ≡ Some i → FitsAt j (spot g b q site) i
  func_fits b q site i e =
      ⊎_elim
      (λ k. inserted_fits m j g b q site a.declared a.runtime_symbol (λ x u e. value_local g x u e) i k)
      (λ k. ⊎_elim (λ p. phi_breaks_none b q site i p) (λ o. own_stands b q site i o) k)
      (stands b q i e)
