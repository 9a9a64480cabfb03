-- Each instruction of a formed and valid module is ready for the code round it.
use Rattle.std.proofs.Common.{◌≡◌, ℕ, ◌^◌, ◌<◌, ◌≤◌, List, [], ◌∷◌, ◌++◌, Bool, true, false, Option, Some, None, refl, sym, ap, subst, ◌∙◌, arith, true≢false}
use Rattle.std.specs.Prelude.{◌&&◌, nat_le, map, flat_map, unwrap_or, option_map, option_and_then, is_some, if◌then◌else◌}
use Rattle.std.specs.List.{list_all}
use Rattle.std.proofs.lemmas.Bool.{leb-true, and_parts}
use Rattle.ms_ir.specs.declared.syntax.Name.{Name}
use Rattle.ms_ir.specs.declared.syntax.Ty.{Ty, Int, Ptr, Array', Struct', Named}
use Rattle.ms_ir.specs.declared.syntax.Operand.{Operand}
use Rattle.ms_ir.specs.declared.syntax.Op.{Op}
use Rattle.ms_ir.specs.declared.syntax.Op.TheVariants as op
use Rattle.ms_ir.specs.declared.syntax.Func.{Func}
use Rattle.ms_ir.specs.declared.syntax.Module.{Module}
use Rattle.ms_ir.specs.Layout.{Types, Extent, extent_in, size_of, size_in}
use Rattle.ms_ir.specs.Instructions.{operands, is_phi}
use Rattle.ms_ir.specs.Written.{OfLocal, type_mentions, operand_mentions, operands_mentions, labels, mentions, type_parts, operand_types, own_types, op_types, OfGlobal}
use Rattle.ms_ir.specs.Locals.{locals, value_type}
use Rattle.ms_check_valid.specs.NamesKnown.{unknown_of}
use Rattle.ms_check_valid.specs.TypesAgree.{operand_fits, first_misfit, fault_unless, cast_allows, op_fault}
use Rattle.ms_check_valid.specs.FormedCode.{is_int_type, is_value_type, type_formed, operand_formed, shape_formed, op_formed}
use Rattle.ms_check_valid.specs.FormedNames.{is_local_name}
use Rattle.ms_check_valid.specs.SizesFit.{sized}
use Rattle.ms_pass_tasks.specs.Environments.{Given}
use Rattle.ms_pass_form_laws.proofs.Emitted.{CallGood, OpGood}
use Rattle.ms_pass_form_laws.proofs.Inserted.{unknown_append}
use Rattle.ms_pass_form_laws.proofs.Ready.{AllFound}
use Rattle.ms_pass_form_laws.proofs.FuncClauses.{ModuleReady}
use Rattle.ms_runs_good_laws.proofs.CallTypes.{both_none, holds_unless}
use Rattle.ms_pass_form_laws.proofs.Own.{unknown_parts}
use Rattle.ms_pass_laws.proofs.KnownInstructions.{shape_types, plain_all}
use Rattle.ms_pass_laws.proofs.NumberedValues.{all_append}
use Rattle.ms_pass_form_laws.proofs.Lists.{both_all}
use Rattle.ms_pass_form_laws.proofs.Shown.{shown, shown_fit, shown_values, shown_formed, shown_known, shown_types}
use Rattle.ms_ir.specs.Signatures.{signature_of}

-- ---- lists

all_first : {A : Type 0} (p : A → Bool) (x : A) (xs : List A) → list_all p (x ∷ xs) ≡ true → p x ≡ true
all_first p x xs e = (and_parts (p x) (list_all p xs) e).0

part_first : (p : Ty → Bool) (t : Ty) → list_all p (type_parts t) ≡ true → p t ≡ true
part_first p (Int n) e = all_first p (Int n) [] e
part_first p Ptr e = all_first p Ptr [] e
part_first p (Array' n s items) e = (and_parts (p (Array' n s items)) _ e).0
part_first p (Struct' q s fields) e = (and_parts (p (Struct' q s fields)) _ e).0
part_first p (Named x) e = all_first p (Named x) [] e

pub sized_split : (types : Types) (xs ys : List Ty) → sized types (xs ++ ys) ≡ true → (sized types xs ≡ true) × (sized types ys ≡ true)
sized_split types [] ys e = (refl, e)
sized_split types (x ∷ xs) ys e =
    let p = λ (t : Ty). is_some (size_of types t) in
    let h = all_append p (type_parts x) (flat_map type_parts (xs ++ ys)) e in
    let r = sized_split types xs ys h.1 in
    (both_all p (type_parts x) (flat_map type_parts xs) h.0 r.0, r.1)

module _ (m j : Module) (a : ModuleReady m j) (f : Func) (b p s : ℕ) where
  abbrev fits : Ty × Operand → Bool
  fits o = operand_fits m (value_type f) o.0 o.1

  all_found : (os : List (Ty × Operand)) → list_all (λ a. is_value_type a.0) os ≡ true → list_all fits os ≡ true → list_all (λ o. operand_formed o.0 o.1) os ≡ true → unknown_of m (locals f) s (operands_mentions os) ≡ []
      → sized m.types (flat_map (λ o. o.0 ∷ operand_types o.1) os) ≡ true → AllFound m j a f b p s os
  all_found [] v q w k z = tt
  all_found (o ∷ os) v q w k z =
      let values = and_parts (is_value_type o.0) (list_all (λ a. is_value_type a.0) os) v in
      let fit = and_parts (fits o) (list_all fits os) q in
      let formed = and_parts (operand_formed o.0 o.1) (list_all (λ o. operand_formed o.0 o.1) os) w in
      let known = unknown_parts m (locals f) s (operand_mentions o.1) (operands_mentions os) k in
      let sizes = sized_split m.types (o.0 ∷ operand_types o.1) (flat_map (λ o. o.0 ∷ operand_types o.1) os) z in
      (record { value = values.0; fits = fit.0; formed = formed.0; known = known.0; sizes = sizes.0 }, all_found os values.1 fit.1 formed.1 known.1 sizes.1)

  -- ---- what an operation's names say of its operands

  edges_known : (t : Ty) (es : List (Operand × Name)) → unknown_of m (locals f) s (mentions (op.Phi t es)) ≡ [] → unknown_of m (locals f) s (operands_mentions (map (λ e. (t, e.0)) es)) ≡ []
  edges_known t [] e = refl
  edges_known t (d ∷ es) e =
      let h = unknown_parts m (locals f) s (operand_mentions d.0 ++ OfLocal d.1 ∷ []) (mentions (op.Phi t es)) e in
      let k = unknown_parts m (locals f) s (operand_mentions d.0) (OfLocal d.1 ∷ []) h.0 in
      unknown_append m (locals f) s (operand_mentions d.0) (operands_mentions (map (λ e. (t, e.0)) es)) k.0 (edges_known t es h.1)

  front_known : (os : List (Ty × Operand)) (ls : List Name) → unknown_of m (locals f) s (operands_mentions os ++ map OfLocal ls) ≡ [] → unknown_of m (locals f) s (operands_mentions os) ≡ []
  front_known os ls e = (unknown_parts m (locals f) s (operands_mentions os) (map OfLocal ls) e).0

  known_of : (o : Op) → unknown_of m (locals f) s (mentions o) ≡ [] → unknown_of m (locals f) s (operands_mentions (operands o)) ≡ []
  known_of (op.Phi t es) e = edges_known t es e
  known_of (op.Alloca t u d) e = unknown_append m (locals f) s (operand_mentions d) [] (unknown_parts m (locals f) s (type_mentions t) (operand_mentions d) e).1 refl
  known_of (op.Gep t x is) e = (unknown_parts m (locals f) s (type_mentions t) (operand_mentions x ++ operands_mentions is) e).1
  known_of (op.Call r x as') e = (unknown_parts m (locals f) s (OfGlobal x ∷ []) (operands_mentions as') e).1
  known_of (op.Binary o fl t x y) e = front_known ((t, x) ∷ (t, y) ∷ []) [] e
  known_of (op.Icmp o fl t x y) e = front_known ((t, x) ∷ (t, y) ∷ []) [] e
  known_of (op.Cast o fl t x u) e = front_known ((t, x) ∷ []) [] e
  known_of (op.Select d t x y) e = front_known ((Int 1, d) ∷ (t, x) ∷ (t, y) ∷ []) [] e
  known_of (op.Freeze t x) e = front_known ((t, x) ∷ []) [] e
  known_of (op.Load t x) e = front_known ((Ptr, x) ∷ []) [] e
  known_of (op.Store t x y) e = front_known ((t, x) ∷ (Ptr, y) ∷ []) [] e
  known_of (op.Br to) e = refl
  known_of (op.CondBr d to other) e = front_known ((Int 1, d) ∷ []) (to ∷ other ∷ []) e
  known_of (op.Switch t x other cases) e = front_known ((t, x) ∷ []) (labels (op.Switch t x other cases)) e
  known_of (op.Ret v) e = front_known (operands (op.Ret v)) [] e
  known_of op.Unreachable e = refl

  -- what fits of an instruction, as what is inserted sees it
  shown_fits : (o : Op) → list_all (λ x. is_value_type x.0) (operands o) ≡ true → op_fault m f fits o ≡ None → list_all fits (operands (shown o)) ≡ true
  shown_fits (op.Call r x as') v e = shown_fit m fits (λ t. refl) (λ t. refl) x (signature_of m x) r as' v e
  shown_fits o v e = plain_all fits m f o tt e

  -- an instruction's operands as validity and form have them
  pub op_found : (o : Op) → op_formed o ≡ true → op_fault m f fits o ≡ None → unknown_of m (locals f) s (mentions o) ≡ [] → sized m.types (op_types o) ≡ true
      → AllFound m j a f b p s (operands (shown o))
  op_found o w e k z =
      let parts = and_parts (shape_formed o && list_all (λ x. operand_formed x.0 x.1) (operands o)) (list_all is_local_name (labels o)) w in
      let two = and_parts (shape_formed o) (list_all (λ x. operand_formed x.0 x.1) (operands o)) parts.0 in
      let values = shape_types o two.0 in
      let sizes = (sized_split m.types (own_types o) (flat_map (λ x. x.0 ∷ operand_types x.1) (operands o)) z).1 in
      all_found (operands (shown o)) (shown_values o ∙ values) (shown_fits o values e) (shown_formed o values two.1) (shown_known m (locals f) s o (known_of o k))
      (ap (sized m.types) (shown_types o) ∙ sizes)

  -- ---- the operation itself

  small_size : (t : Ty) → is_some (size_of m.types t) ≡ true → size_in m.types t < 2 ^ 64
  small_size t e = by_extent (extent_in m.types t) e
    where
      by_test : (w : Extent) (c : Bool) → nat_le w.size (2 ^ 26) ≡ c → is_some (if c then Some w.size else None) ≡ true → w.size < 2 ^ 64
      by_test w true q h = less w.size (leb-true w.size (2 ^ 26) q)
        where
          less : (k : ℕ) → k ≤ 2 ^ 26 → k < 2 ^ 64
          less k l = omega (arith, l)
      by_test w false q h = grind arith

      by_extent : (x : Option Extent) → is_some (option_and_then (λ w. if nat_le w.size (2 ^ 26) then Some w.size else None) x) ≡ true → unwrap_or (option_map (λ w. w.size) x) 0 < 2 ^ 64
      by_extent None h = grind arith
      by_extent (Some w) h = by_test w (nat_le w.size (2 ^ 26)) refl h

  pub op_good : (given : Given) → given.types ≡ m.types → (o : Op) → ((r : Option Ty) (x : Name) (as' : List (Ty × Operand)) → o ≡ op.Call r x as' → CallGood given r x as') → is_phi o ≡ false → shape_formed o ≡ true → op_fault m f fits o ≡ None
      → sized m.types (op_types o) ≡ true → OpGood given o
  op_good given types (op.Binary o fl t x y) c q w e z = (and_parts (is_int_type t) _ w).0
  op_good given types (op.Icmp o fl t x y) c q w e z = (and_parts (is_value_type t) _ w).0
  op_good given types (op.Cast o fl t x u) c q w e z =
      let two = and_parts (is_value_type t) (is_value_type u) (and_parts (is_value_type t && is_value_type u) _ w).0 in
      (holds_unless (cast_allows o t u) (both_none (first_misfit fits 0 ((t, x) ∷ [])) (fault_unless (cast_allows o t u)) e).1, two.0, two.1)
  op_good given types (op.Select d t x y) c q w e z = w
  op_good given types (op.Freeze t x) c q w e z = w
  op_good given types (op.Alloca t u d) c q w e z = (
    subst (λ ts. size_in ts t < 2 ^ 64) (sym types)
        (small_size t (part_first (λ v. is_some (size_of m.types v)) t (all_append (λ v. is_some (size_of m.types v)) (type_parts t) _ z).0)),
    (and_parts (type_formed t) (is_int_type u) w).1,
  )
  op_good given types (op.Load t x) c q w e z = w
  op_good given types (op.Store t x y) c q w e z = w
  op_good given types (op.Call r x as') c q w e z = c r x as' refl
  op_good given types (op.Phi t es) c q w e z = absurd (true≢false q)
  op_good given types (op.Gep t x is) c q w e z = tt
  op_good given types (op.Br to) c q w e z = tt
  op_good given types (op.CondBr d to other) c q w e z = tt
  op_good given types (op.Switch t x other cases) c q w e z = tt
  op_good given types (op.Ret v) c q w e z = tt
  op_good given types op.Unreachable c q w e z = tt
