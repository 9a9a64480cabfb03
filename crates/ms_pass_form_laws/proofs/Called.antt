-- The instrumented module calls runtime functions alone.
use Rattle.std.proofs.Common.{◌≡◌, ℕ, zero, suc, List, [], ◌∷◌, ◌++◌, Bool, true, false, Some, refl, sym, ap, subst, ◌∙◌, arith, inl, inr, ⊎_elim, true≢false}
use Rattle.std.specs.Prelude.{◌⊎◌, ◌||◌, not, map, flat_map, slice_get, unwrap_or, option_map, if◌then◌else◌}
use Rattle.std.proofs.Math.Path.{ap₂}
use Rattle.ms_ir.specs.declared.syntax.Name.{Name}
use Rattle.ms_ir.specs.declared.syntax.Op.{Op}
use Rattle.ms_ir.specs.declared.syntax.Op.TheVariants as op
use Rattle.ms_ir.specs.declared.syntax.Inst.{Inst}
use Rattle.ms_ir.specs.declared.syntax.Block.{Block}
use Rattle.ms_ir.specs.declared.syntax.Func.{Func}
use Rattle.ms_ir.specs.declared.syntax.Decl.{Decl}
use Rattle.ms_ir.specs.declared.syntax.Module.{Module}
use Rattle.ms_ir.specs.declared.calls.RuntimeFn.{RuntimeFn}
use Rattle.ms_ir.specs.declared.calls.RuntimeFn.TheVariants as function
use Rattle.ms_ir.specs.Names.{is_reserved, runtime_name}
use Rattle.ms_runs.specs.World.{Here}
use Rattle.ms_ir.specs.Equal.{has_name}
use Rattle.ms_ir.specs.Locals.{func_insts}
use Rattle.ms_check_valid.specs.Paths.{insts_of}
use Rattle.ms_check_valid.specs.ExternalsFit.{name_unless, callees, called_names, is_external, is_runtime, decl_fits}
use Rattle.ms_check_valid.proofs.Finding.{both_empty}
use Rattle.ms_check_valid.proofs.NameTests.{name_within, within_name}
use Rattle.ms_pass_tasks.specs.Environments.{Env, Given}
use Rattle.ms_ir.specs.Signatures.{runtime_declarations}
use Rattle.ms_pass_form_laws.proofs.Checked.{OpFits, MayCall, MayAsk}
use Rattle.ms_pass_form_laws.proofs.Paths.{In, to_in, from_in, in_left, in_right, in_either}
use Rattle.ms_pass_form_laws.proofs.PassPaths.{passed}
use Rattle.ms_pass_form_laws.proofs.FuncFits.{StandsAt, all_stand}
use Rattle.ms_pass_form_laws.proofs.FuncClauses.{FuncReady}
use Rattle.ms_pass_form_laws.proofs.Inserted.{ConstGood}
use Rattle.ms_runs_good_laws.proofs.WordCallTypes.{none_named}

-- an instruction of a list has a property
abbrev pub Somewhere : (Inst → Type 0) → List Inst → Type 0
Somewhere P [] = ⊥
Somewhere P (i ∷ is) = P i ⊎ Somewhere P is

some_either : (P : Inst → Type 0) (a b : List Inst) → Somewhere P (a ++ b) → Somewhere P a ⊎ Somewhere P b
some_either P [] b p = inr p
some_either P (i ∷ a) b (inl p) = inl (inl p)
some_either P (i ∷ a) b (inr p) = ⊎_elim (λ l. inl (inr l)) (λ r. inr r) (some_either P a b p)

some_block : (P : Inst → Type 0) (bs : List Block) → Somewhere P (flat_map (λ k. k.insts) bs) → (b : ℕ) × Somewhere P (unwrap_or (option_map (λ k. k.insts) (slice_get bs b)) [])
some_block P [] p = absurd p
some_block P (k ∷ bs) p = ⊎_elim (λ l. (0, l)) (λ r. let s = some_block P bs r in (suc s.0, s.1)) (some_either P k.insts (flat_map (λ k. k.insts) bs) p)

some_place : (P : Inst → Type 0) (is : List Inst) → Somewhere P is → (q : ℕ) × (i : Inst) × (slice_get is q ≡ Some i) × P i
some_place P [] p = absurd p
some_place P (i ∷ is) (inl p) = (0, i, refl, p)
some_place P (i ∷ is) (inr p) = let s = some_place P is p in (suc s.0, s.1, s.2, s.3)

called_in : (is : List Inst) (x : Name) → In (flat_map (λ i. callees i.op) is) x → Somewhere (λ i. In (callees i.op) x) is
called_in [] x p = p
called_in (i ∷ is) x p = ⊎_elim (λ l. inl l) (λ r. inr (called_in is x r)) (in_either (callees i.op) (flat_map (λ i. callees i.op) is) x p)

call_known : (m j : Module) (fn : RuntimeFn) → MayCall (ConstGood m j) fn → (is_reserved (runtime_name fn) ≡ true) ⊎ In (called_names m) (runtime_name fn)
call_known m j (function.Move k) c = inr (to_in (called_names m) (runtime_name (function.Move k)) (name_within (called_names m) (runtime_name (function.Move k)) c.called))
call_known m j fn c = inl refl

fits_known : (m j : Module) (o : Op) (x : Name) (s : OpFits o) → MayAsk (ConstGood m j) o s → In (callees o) x → (is_reserved x ≡ true) ⊎ In (called_names m) x
fits_known m j (op.Call r y as') x s c (inl e) = subst (λ z. (is_reserved z ≡ true) ⊎ In (called_names m) z) (sym s.named ∙ e) (call_known m j s.function c)
fits_known m j (op.Call r y as') x s c (inr e) = absurd e
fits_known m j _ x s c e = absurd e

abbrev Called : List Inst → Name → Type 0
Called is x = In (flat_map (λ i. callees i.op) is) x

called_left : (a b : List Inst) (x : Name) → Called a x → Called (a ++ b) x
called_left [] b x p = absurd p
called_left (i ∷ a) b x p =
    ⊎_elim (λ l. in_left (callees i.op) (flat_map (λ i. callees i.op) (a ++ b)) x l) (λ r. in_right (callees i.op) (flat_map (λ i. callees i.op) (a ++ b)) x (called_left a b x r))
    (in_either (callees i.op) (flat_map (λ i. callees i.op) a) x p)

called_right : (a b : List Inst) (x : Name) → Called b x → Called (a ++ b) x
called_right [] b x p = p
called_right (i ∷ a) b x p = in_right (callees i.op) (flat_map (λ i. callees i.op) (a ++ b)) x (called_right a b x p)

called_place : (is : List Inst) (q : ℕ) (i : Inst) (x : Name) → slice_get is q ≡ Some i → In (callees i.op) x → Called is x
called_place [] q i x e p = grind arith
called_place (k ∷ is) zero i x e p = in_left (callees k.op) (flat_map (λ i. callees i.op) is) x (subst (λ y. In (callees y.op) x) (sym (ap (λ o. unwrap_or o k) e)) p)
called_place (k ∷ is) (suc q) i x e p = in_right (callees k.op) (flat_map (λ i. callees i.op) is) x (called_place is q i x e p)

called_block : (bs : List Block) (b q : ℕ) (i : Inst) (x : Name) → slice_get (unwrap_or (option_map (λ k. k.insts) (slice_get bs b)) []) q ≡ Some i → In (callees i.op) x
    → Called (flat_map (λ k. k.insts) bs) x
called_block [] b q i x e p = grind arith
called_block (k ∷ bs) zero q i x e p = called_left k.insts (flat_map (λ k. k.insts) bs) x (called_place k.insts q i x e p)
called_block (k ∷ bs) (suc b) q i x e p = called_right k.insts (flat_map (λ k. k.insts) bs) x (called_block bs b q i x e p)

pub called_func : (fs : List Func) (n : ℕ) (f : Func) (x : Name) → slice_get fs n ≡ Some f → In (flat_map (λ i. callees i.op) (func_insts f)) x
    → In (flat_map (λ f. flat_map (λ i. callees i.op) (func_insts f)) fs) x
called_func [] n f x e p = grind arith
called_func (k ∷ fs) zero f x e p =
    in_left (flat_map (λ i. callees i.op) (func_insts k)) (flat_map (λ f. flat_map (λ i. callees i.op) (func_insts f)) fs) x
    (subst (λ y. In (flat_map (λ i. callees i.op) (func_insts y)) x) (sym (ap (λ o. unwrap_or o k) e)) p)
called_func (k ∷ fs) (suc n) f x e p =
    in_right (flat_map (λ i. callees i.op) (func_insts k)) (flat_map (λ f. flat_map (λ i. callees i.op) (func_insts f)) fs) x (called_func fs n f x e p)

-- an instrumented function calls reserved names, what its module calls and what the function calls
pub func_calls : (m j : Module) (given : Given) (env : Env) (size : ℕ) (f : Func) (h : Here) (n : ℕ) → FuncReady given env size f h n (ConstGood m j)
    → (x : Name) → In (flat_map (λ i. callees i.op) (func_insts (passed given env f h n))) x → ((is_reserved x ≡ true) ⊎ In (called_names m) x) ⊎ In (flat_map (λ i. callees i.op) (func_insts f)) x
func_calls m j given env size f h n r x p =
    let g = passed given env f h n in
    let w = some_block (λ i. In (callees i.op) x) g.blocks (called_in (func_insts g) x p) in
    let s = some_place (λ i. In (callees i.op) x) (insts_of g w.0) w.1 in
    by_stand w.0 s.0 s.1 s.3 (all_stand given env size r.one r.few f h n (ConstGood m j) r.entry r.room r.once r.free r.good r.masked r.phi_good w.0 s.0 s.1 s.2)
  where
    by_stand : (b q : ℕ) (i : Inst) → In (callees i.op) x → StandsAt given env size r.one r.few f h n (ConstGood m j) r.entry r.room r.once r.free r.good r.masked r.phi_good b q i → ((is_reserved x ≡ true) ⊎ In (called_names m) x) ⊎ In (flat_map (λ i. callees i.op) (func_insts f)) x
    by_stand b q i c (inl k) = inl (fits_known m j i.op x k.shaped k.calls c)
    by_stand b q i c (inr (inl k)) = absurd (subst (λ y. In (callees y.op) x) k.is c)
    by_stand b q i c (inr (inr k)) = inr (called_block f.blocks b k.place i x k.at c)

-- so a module whose functions all do
pub module_calls : (P : Name → Type 0) (fs : List Func) → ((n : ℕ) (g : Func) → slice_get fs n ≡ Some g → (x : Name) → In (flat_map (λ i. callees i.op) (func_insts g)) x → P x)
    → (x : Name) → In (flat_map (λ f. flat_map (λ i. callees i.op) (func_insts f)) fs) x → P x
module_calls P [] h x p = absurd p
module_calls P (f ∷ fs) h x p =
    ⊎_elim (λ l. h 0 f refl x l) (λ r. module_calls P fs (λ n g e. h (suc n) g e) x r)
    (in_either (flat_map (λ i. callees i.op) (func_insts f)) (flat_map (λ f. flat_map (λ i. callees i.op) (func_insts f)) fs) x p)

-- ---- declarations

pub decls_kept : (called more : List Name) → ((x : Name) → In more x → (is_reserved x ≡ true) ⊎ In called x) → (ds : List Decl) → ((d : Decl) → In (map (λ d. d.name) ds) d.name → is_reserved d.name ≡ false)
    → flat_map (λ d. name_unless (decl_fits called d) d.name) ds ≡ [] → flat_map (λ d. name_unless (decl_fits more d) d.name) ds ≡ []
decls_kept called more only [] free e = refl
decls_kept called more only (d ∷ ds) free e =
    let own = free d (inl refl) in
    ap₂ (λ c l. name_unless c d.name ++ l) (ap (λ c. if c then is_runtime d else (not (has_name more d.name) || is_external d)) own ∙ by_test (has_name more d.name) refl own)
    (decls_kept called more only ds (λ x i. free x (inr i)) (both_empty (name_unless (decl_fits called d) d.name) _ e).1)
  where
    fit : is_reserved d.name ≡ false → (name_unless (decl_fits called d) d.name ≡ []) → (not (has_name called d.name) || is_external d) ≡ true
    fit own q = sym (ap (λ c. if c then is_runtime d else (not (has_name called d.name) || is_external d)) own) ∙ none_named (decl_fits called d) d.name q

    by_test : (c : Bool) → has_name more d.name ≡ c → is_reserved d.name ≡ false → (not (has_name more d.name) || is_external d) ≡ true
    by_test true s own =
        ap (λ c. not c || is_external d) s
        ∙ ⊎_elim (λ k. absurd (true≢false (sym k ∙ own)))
        (λ i. sym (ap (λ c. not c || is_external d) (within_name called d.name (from_in called d.name i))) ∙ fit own (both_empty (name_unless (decl_fits called d) d.name) _ e).0)
        (only d.name (to_in more d.name (name_within more d.name s)))
    by_test false s own = ap (λ c. not c || is_external d) s

pub runtime_fits : (called : List Name) → flat_map (λ d. name_unless (decl_fits called d) d.name) runtime_declarations ≡ []
runtime_fits called = refl
