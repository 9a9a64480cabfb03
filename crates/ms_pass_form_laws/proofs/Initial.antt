-- Initialisers agree as before.
use Rattle.std.proofs.Common.{◌≡◌, ℕ, suc, List, [], ◌∷◌, ◌++◌, Bool, true, false, Option, Some, None, refl, sym, ap, ◌∙◌, arith, true≢false}
use Rattle.std.specs.Prelude.{◌&&◌, ◌||◌, if◌then◌else◌}
use Rattle.std.proofs.Math.Path.{ap₂}
use Rattle.ms_ir.specs.declared.syntax.Ty.{Ty}
use Rattle.ms_ir.specs.declared.syntax.Operand.{Operand}
use Rattle.ms_ir.specs.declared.syntax.Init.{Init, Row_of-Init-Array-0-2, end_of-Init-Array-0-2, more_of-Init-Array-0-2}
use Rattle.ms_ir.specs.declared.syntax.Init as initial
use Rattle.ms_ir.specs.declared.syntax.GlobalVar.{GlobalVar}
use Rattle.ms_ir.specs.declared.syntax.Module.{Module}
use Rattle.ms_ir.specs.Layout.{Types, resolved}
use Rattle.ms_ir.specs.Equal.{type_eq, is_undefined}
use Rattle.ms_check_valid.specs.Initialisers.{count_items, item_types, field_types, init_fits, items_fit}
use Rattle.ms_check_valid.specs.TypesAgree.{operand_fits, at_site, init_faults}
use Rattle.ms_check_valid.specs.Valid.{Valid}
use Rattle.ms_check_valid.specs.Uninstrumented.{IsUninstrumented}
use Rattle.ms_check_valid.proofs.Finding.{both_empty}
use Rattle.ms_ir.specs.Signatures.{slot_globals}
use Rattle.ms_pass_laws.specs.Pass.{Numbering, pass}
use Rattle.ms_pass_form_laws.proofs.Own.{fits_kept_by}
use Rattle.ms_pass_form_laws.proofs.FuncClauses.{ModuleReady}
use Rattle.ms_pass_form_laws.proofs.Outside.{module_ready}
use Rattle.std.proofs.lemmas.Bool.{and_parts}

module _ (fits more : Ty → Operand → Bool) (types : Types) (keeps : (t : Ty) (o : Operand) → fits t o ≡ true → more t o ≡ true) where
  value_more : (t : Ty) (o : Operand) (c : Bool) → (c || fits t o) ≡ true → (c || more t o) ≡ true
  value_more t o true e = refl
  value_more t o false e = keeps t o e

  mutual
    init_more : (t : Ty) (i : Init) → init_fits fits types t i ≡ true → init_fits more types t i ≡ true
    init_more t (initial.Value o) e = value_more t o (is_undefined o) e
    init_more t initial.Zero e = refl
    init_more t (initial.Text bytes) e = e
    init_more t (initial.Array' shape items) e = items_more (item_types t (count_items items)) items e
    init_more t (initial.Struct' packed shape fields) e = items_more (field_types (resolved types t) packed) fields e

    items_more : (asked : Option (List Ty)) {n : _} (row : Row_of-Init-Array-0-2 n) → items_fit fits types asked row ≡ true → items_fit more types asked row ≡ true
    items_more (Some []) end_of-Init-Array-0-2 e = refl
    items_more (Some (t ∷ ts)) (more_of-Init-Array-0-2 u i rest) e =
        let p = and_parts (type_eq u t && init_fits fits types t i) (items_fit fits types (Some ts) rest) e in
        let q = and_parts (type_eq u t) (init_fits fits types t i) p.0 in
        ap₂ (λ a b. a && b) (ap₂ (λ a b. a && b) q.0 (init_more t i q.1)) (items_more (Some ts) rest p.1)
    items_more (Some []) (more_of-Init-Array-0-2 u i rest) e = absurd (true≢false (sym e))
    items_more (Some (t ∷ ts)) end_of-Init-Array-0-2 e = absurd (true≢false (sym e))
    items_more None row e = absurd (true≢false (sym e))

no_fault : (c : Bool) (k : ℕ) → at_site 0 (if c then None else Some k) ≡ [] → c ≡ true
no_fault true k e = refl
no_fault false k e = grind arith

faults_kept : (m j : Module) → ModuleReady m j → (k : ℕ) (gs : List GlobalVar) → init_faults m k gs ≡ [] → init_faults j k (gs ++ slot_globals) ≡ []
faults_kept m j a k [] e = refl
faults_kept m j a k (g ∷ gs) e =
    let p = both_empty (at_site 0 (if init_fits (operand_fits m (λ x. None)) m.types g.ty g.init then None else Some k)) (init_faults m (suc k) gs) e in
    let fits = no_fault (init_fits (operand_fits m (λ x. None)) m.types g.ty g.init) k p.0 in
    let kept = init_more (operand_fits m (λ x. None)) (operand_fits j (λ x. None)) m.types (fits_kept_by m j (λ x. None) (λ x. None) a.types a.variable (λ x t h. h)) g.ty g.init fits in
    ap₂ (λ c l. at_site 0 (if c then None else Some k) ++ l) (ap (λ ts. init_fits (operand_fits j (λ x. None)) ts g.ty g.init) a.types ∙ kept) (faults_kept m j a (suc k) gs p.1)

pub initialisers_kept : (numbers : ℕ → Numbering) (m : Module) → Valid m → IsUninstrumented m → init_faults (pass numbers m) 0 (pass numbers m).globals ≡ []
initialisers_kept numbers m v u = faults_kept m (pass numbers m) (module_ready numbers m u) 0 m.globals (both_empty _ _ v.types_agree).0
