-- Edges of inserted phis: they name the blocks that the phi names, agree where those of the phi agree, and are defined.
use Rattle.std.proofs.Common.{◌≡◌, ℕ, suc, List, [], ◌∷◌, ◌++◌, Bool, true, false, Some, None, refl, sym, ap, ◌∙◌, true≢false}
use Rattle.std.specs.Prelude.{◌&&◌, ◌||◌, not, nat_eq, All, map, flat_map, length, if◌then◌else◌}
use Rattle.std.specs.List.{list_all}
use Rattle.std.proofs.Math.Path.{ap₂}
use Rattle.std.proofs.lemmas.Bool.{eq-eqb, and_parts}
use Rattle.std.proofs.lemmas.List.Elements.{All-nil, All-cons, All-append}
use Rattle.ms_ir.specs.declared.syntax.Name.{Name}
use Rattle.ms_ir.specs.declared.syntax.Ty.{Ty}
use Rattle.ms_ir.specs.declared.syntax.Operand.{Operand}
use Rattle.ms_ir.specs.declared.syntax.Operand.TheVariants as operand
use Rattle.ms_ir.specs.declared.syntax.Op.TheVariants as op
use Rattle.ms_ir.specs.declared.syntax.Func.{Func}
use Rattle.ms_ir.specs.declared.syntax.Module.{Module}
use Rattle.ms_ir.specs.Names.{name_eq}
use Rattle.ms_ir.specs.Instructions.{block_index}
use Rattle.ms_ir.specs.Equal.{AddressStep, has_name, indices_eq, steps_eq, operand_eq}
use Rattle.ms_ir.specs.Written.{OfLocal, operand_mentions, mentions}
use Rattle.ms_ir.specs.Locals.{locals, value_type, block_names}
use Rattle.ms_check_valid.specs.NamesKnown.{unknown_of}
use Rattle.ms_ir.specs.Spots.{spot}
use Rattle.ms_ir.proofs.RootKinds.{name_same as name_sound}
use Rattle.ms_check_valid.specs.TypesAgree.{operand_fits, is_type, first_misfit}
use Rattle.ms_check_valid.specs.PhisFit.{count_name, edges_between, edges_agree, phi_fits}
use Rattle.ms_check_valid.specs.UsesDefined.{IsUseDefined, edge_use, inst_uses}
use Rattle.ms_check_valid.specs.Paths.{insts_of}
use Rattle.ms_check_valid.proofs.NameTests.{name_same}
use Rattle.ms_pass_tasks.specs.Environments.{Env, mask_operand, local_mask}
use Rattle.ms_pass_tasks.specs.PassLists.{mask_edges, origin_from, origins_by}
use Rattle.ms_pass_form_laws.proofs.FuncFits.{EdgeFits, EdgesFit}
use Rattle.ms_pass_form_laws.proofs.Inserted.{type_same, unknown_append, unknown_one}

-- ---- labels

pub mask_labels : (env : Env) (w : ℕ) (es : List (Operand × Name)) → map (λ e. e.1) (mask_edges env w es) ≡ map (λ e. e.1) es
mask_labels env w [] = refl
mask_labels env w (e ∷ es) = ap (λ l. e.1 ∷ l) (mask_labels env w es)

pub origin_labels : (env : Env) (root : ℕ) (all es : List (Operand × Name)) → map (λ e. e.1) (origins_by env root all es) ≡ map (λ e. e.1) es
origin_labels env root all [] = refl
origin_labels env root all (e ∷ es) = ap (λ l. e.1 ∷ l) (origin_labels env root all es)

-- ---- equal operands

indices_same : (is : List (Ty × ℕ)) → indices_eq is is ≡ true
indices_same [] = refl
indices_same (i ∷ is) = ap₂ (λ a b. a && b) (ap₂ (λ a b. a && b) (type_same i.0) (eq-eqb i.1 i.1 refl)) (indices_same is)

steps_same : (ss : List AddressStep) → steps_eq ss ss ≡ true
steps_same [] = refl
steps_same (s ∷ ss) = ap₂ (λ a b. a && b) (ap₂ (λ a b. a && b) (type_same s.0) (indices_same s.1)) (steps_same ss)

pub operand_same : (o : Operand) → operand_eq o o ≡ true
operand_same (operand.Int n) = eq-eqb n n refl
operand_same operand.Null = refl
operand_same operand.Undef = refl
operand_same operand.Poison = refl
operand_same (operand.Local x) = name_same x
operand_same (operand.Global x) = name_same x
operand_same (operand.Offset x steps) = ap₂ (λ a b. a && b) (name_same x) (steps_same steps)

pub mask_same : (env : Env) (w : ℕ) (a b : Operand) → operand_eq a b ≡ true → mask_operand env w a ≡ mask_operand env w b
mask_same env w (operand.Local x) (operand.Local y) e = ap (local_mask env) (name_sound x y e)
mask_same env w operand.Undef operand.Undef e = refl
mask_same env w operand.Undef operand.Poison e = refl
mask_same env w operand.Poison operand.Undef e = refl
mask_same env w operand.Poison operand.Poison e = refl
mask_same env w (operand.Int m) (operand.Int k) e = refl
mask_same env w operand.Null operand.Null e = refl
mask_same env w (operand.Global x) (operand.Global y) e = refl
mask_same env w (operand.Offset x ss) (operand.Offset y ts) e = refl
mask_same env w a b e = absurd (true≢false (sym e))

masks_agree_with : (env : Env) (w : ℕ) (e : Operand × Name) (es : List (Operand × Name)) → list_all (λ d. not (name_eq d.1 e.1) || operand_eq d.0 e.0) es ≡ true
    → list_all (λ d. not (name_eq d.1 e.1) || operand_eq d.0 (mask_operand env w e.0)) (mask_edges env w es) ≡ true
masks_agree_with env w e [] h = refl
masks_agree_with env w e (d ∷ es) h =
    let p = and_parts (not (name_eq d.1 e.1) || operand_eq d.0 e.0) (list_all (λ d. not (name_eq d.1 e.1) || operand_eq d.0 e.0) es) h in
    ap₂ (λ a b. a && b) (by_test (name_eq d.1 e.1) p.0) (masks_agree_with env w e es p.1)
  where
    by_test : (c : Bool) → (not c || operand_eq d.0 e.0) ≡ true → (not c || operand_eq (mask_operand env w d.0) (mask_operand env w e.0)) ≡ true
    by_test true q = ap (λ o. operand_eq o (mask_operand env w e.0)) (mask_same env w d.0 e.0 q) ∙ operand_same (mask_operand env w e.0)
    by_test false q = refl

pub masks_agree : (env : Env) (w : ℕ) (es : List (Operand × Name)) → edges_agree es ≡ true → edges_agree (mask_edges env w es) ≡ true
masks_agree env w [] h = refl
masks_agree env w (e ∷ es) h =
    let p = and_parts (list_all (λ d. not (name_eq d.1 e.1) || operand_eq d.0 e.0) es) (edges_agree es) h in
    ap₂ (λ a b. a && b) (masks_agree_with env w e es p.0) (masks_agree env w es p.1)

-- the origin that is given for a block depends on the block alone
origins_agree_with : (env : Env) (root : ℕ) (all : List (Operand × Name)) (x : Name) (es : List (Operand × Name))
    → list_all (λ d. not (name_eq d.1 x) || operand_eq d.0 (origin_from env root all x)) (origins_by env root all es) ≡ true
origins_agree_with env root all x [] = refl
origins_agree_with env root all x (d ∷ es) = ap₂ (λ a b. a && b) (by_test (name_eq d.1 x) refl) (origins_agree_with env root all x es)
  where
    by_test : (c : Bool) → name_eq d.1 x ≡ c → (not c || operand_eq (origin_from env root all d.1) (origin_from env root all x)) ≡ true
    by_test true e = ap (λ y. operand_eq (origin_from env root all y) (origin_from env root all x)) (name_sound d.1 x e) ∙ operand_same (origin_from env root all x)
    by_test false e = refl

pub origins_agree : (env : Env) (root : ℕ) (all es : List (Operand × Name)) → edges_agree (origins_by env root all es) ≡ true
origins_agree env root all [] = refl
origins_agree env root all (e ∷ es) = ap₂ (λ a b. a && b) (origins_agree_with env root all e.1 es) (origins_agree env root all es)

-- edges with the same labels that agree fit where others do
pub phi_same : (g : Func) (to : Name) (es fs : List (Operand × Name)) → map (λ e. e.1) fs ≡ map (λ e. e.1) es → edges_agree fs ≡ true → phi_fits g to es ≡ true → phi_fits g to fs ≡ true
phi_same g to es fs labels agree h =
    let p = and_parts (list_all (λ from. nat_eq (count_name from (map (λ e. e.1) es)) (edges_between g.blocks from to)) (map (λ e. e.1) es ++ block_names g)) (edges_agree es) h in
    ap₂ (λ a b. a && b) (ap (λ l. list_all (λ from. nat_eq (count_name from l) (edges_between g.blocks from to)) (l ++ block_names g)) labels ∙ p.0) agree

-- ---- an inserted phi at a place

module _ (j : Module) (g : Func) (b q site : ℕ) (local : (x : Name) (t : Ty) → value_type g x ≡ Some t → has_name (locals g) x ≡ true) where
  edge_agrees : (u : Ty) (o : Operand) (from : Name) → EdgeFits g u o from → operand_fits j (value_type g) u o ≡ true
  edge_agrees u (operand.Local x) from k = ap (λ r. is_type r u) k.0 ∙ type_same u
  edge_agrees u (operand.Int m) from k = refl
  edge_agrees u _ from k = absurd k

  pub edges_agree_types : (k : ℕ) (u : Ty) (es : List (Operand × Name)) → EdgesFit g u es
      → first_misfit (λ o. operand_fits j (value_type g) o.0 o.1) k (map (λ e. (u, e.0)) es) ≡ None
  edges_agree_types k u [] p = refl
  edges_agree_types k u (e ∷ es) p =
      ap (λ c. if c then first_misfit (λ o. operand_fits j (value_type g) o.0 o.1) (suc k) (map (λ e. (u, e.0)) es) else Some k) (edge_agrees u e.0 e.1 p.0)
      ∙ edges_agree_types (suc k) u es p.1

  edge_known : (u : Ty) (o : Operand) (from : Name) → EdgeFits g u o from → unknown_of j (locals g) site (operand_mentions o) ≡ []
  edge_known u (operand.Local x) from k = unknown_one j (locals g) site (OfLocal x) (local x u k.0)
  edge_known u (operand.Int m) from k = refl
  edge_known u _ from k = absurd k

  -- labels are known
  abbrev pub LabelsKnown : List Name → Type 0
  LabelsKnown [] = Unit {0}
  LabelsKnown (x ∷ xs) = (has_name (locals g) x ≡ true) × LabelsKnown xs

  pub edges_known : (u : Ty) (es : List (Operand × Name)) → EdgesFit g u es → LabelsKnown (map (λ e. e.1) es) → unknown_of j (locals g) site (mentions (op.Phi u es)) ≡ []
  edges_known u [] p l = refl
  edges_known u (e ∷ es) p l =
      unknown_append j (locals g) site (operand_mentions e.0 ++ OfLocal e.1 ∷ []) (mentions (op.Phi u es))
      (unknown_append j (locals g) site (operand_mentions e.0) (OfLocal e.1 ∷ []) (edge_known u e.0 e.1 p.0) (unknown_one j (locals g) site (OfLocal e.1) l.0))
      (edges_known u es p.1 l.1)

  edge_defined : (u : Ty) (o : Operand) (from : Name) → EdgeFits g u o from → All IsUseDefined (edge_use (spot g b q site) (o, from))
  edge_defined u (operand.Local x) from k =
      let c = block_index g.blocks from in
      All-cons IsUseDefined (record { func = g; site = site; value = record { block = c; place = length (insts_of g c); name = x } }) [] k.1 (All-nil IsUseDefined)
  edge_defined u (operand.Int m) from k = All-nil IsUseDefined
  edge_defined u _ from k = absurd k

  pub edges_defined : (u : Ty) (es : List (Operand × Name)) → EdgesFit g u es → All IsUseDefined (inst_uses (spot g b q site) (op.Phi u es))
  edges_defined u [] p = All-nil IsUseDefined
  edges_defined u (e ∷ es) p =
      All-append IsUseDefined (edge_use (spot g b q site) e) (flat_map (edge_use (spot g b q site)) es) (edge_defined u e.0 e.1 p.0) (edges_defined u es p.1)
