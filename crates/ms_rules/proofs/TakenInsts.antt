-- The instructions of a module that is formed, valid and can be instrumented.
use Rattle.std.proofs.Common.{◌≡◌, ℕ, ◌≤◌, List, [], ◌∷◌, ◌++◌, true, Some, All, sym, true≢false}
use Rattle.std.specs.Prelude.{◌&&◌, slice_get, nat_le}
use Rattle.std.specs.List.{list_all}
use Rattle.std.proofs.lemmas.Bool.{and_parts, leb-true}
use Rattle.std.proofs.lemmas.List.Elements.{All-nil, All-cons}
use Rattle.ms_ir.specs.declared.syntax.Ty.{Ty, Int}
use Rattle.ms_ir.specs.declared.syntax.Operand.{Operand}
use Rattle.ms_ir.specs.declared.syntax.Op.{Op}
use Rattle.ms_ir.specs.declared.syntax.Op.TheVariants as op
use Rattle.ms_ir.specs.declared.syntax.Inst.{Inst}
use Rattle.ms_ir.specs.declared.syntax.Module.{Module}
use Rattle.ms_ir.specs.Instructions.{operands, insts_at}
use Rattle.ms_ir.specs.Layout.{Types, width_of}
use Rattle.ms_ir.specs.Written.{labels, operand_types, op_types}
use Rattle.ms_check_valid.specs.FormedNames.{is_local_name}
use Rattle.ms_check_valid.specs.FormedCode.{is_int_type, is_value_type, operand_formed, shape_formed, op_formed}
use Rattle.ms_check_valid.specs.SizesFit.{sized}
use Rattle.ms_machine_operands.proofs.ValidSizes.{sized_first}
use Rattle.ms_pass_laws.proofs.KnownInstructions.{shape_types}
use Rattle.ms_pass_form_laws.proofs.AllReady.{Plain}
use Rattle.ms_rules.specs.Taken.{IsSizedAlloca, IsTaken}
use Rattle.ms_rules_tables.specs.Widths.{HasWidths}
use Rattle.ms_runs_good_laws.proofs.OpEffects.{value_width}

-- ---- widths

width_fits : (n : ℕ) → (nat_le 1 n && nat_le n 64) ≡ true → (1 ≤ n) × (n ≤ 64)
width_fits n e = let p = and_parts (nat_le 1 n) (nat_le n 64) e in (leb-true 1 n p.0, leb-true n 64 p.1)

int_fits : (t : Ty) → is_int_type t ≡ true → (1 ≤ width_of t) × (width_of t ≤ 64)
int_fits (Int n) e = width_fits n e
int_fits _ e = absurd (true≢false (sym e))

widths : (o : Op) → shape_formed o ≡ true → HasWidths o
widths (op.Binary o f t a b) e = int_fits t (and_parts (is_int_type t) _ e).0
widths (op.Icmp p f t a b) e = value_width t (and_parts (is_value_type t) _ e).0
widths _ e = tt

narrow : (os : List (Ty × Operand)) → list_all (λ a. is_value_type a.0) os ≡ true → All (λ o. width_of o.0 ≤ 64) os
narrow [] e = All-nil (λ o. width_of o.0 ≤ 64)
narrow (o ∷ os) e =
    let p = and_parts (is_value_type o.0) (list_all (λ a. is_value_type a.0) os) e in All-cons (λ o. width_of o.0 ≤ 64) o os (value_width o.0 p.0).1 (narrow os p.1)

sized_alloca : (types : Types) (o : Op) → sized types (op_types o) ≡ true → IsSizedAlloca types o
sized_alloca types (op.Alloca t u c) e = (sized_first types t (u ∷ (operand_types c ++ [])) e).0
sized_alloca types _ e = tt

-- ---- instructions

pub inst_taken : (m : Module) → Plain m → (n b p : ℕ) (i : Inst) → slice_get (insts_at m n b) p ≡ Some i → IsTaken m.types i
inst_taken m plain n b p i at =
    let formed = (and_parts (op_formed i.op) _ (plain.formed n b p i at)).0 in
    let shaped = (and_parts (shape_formed i.op && list_all (λ a. operand_formed a.0 a.1) (operands i.op)) (list_all is_local_name (labels i.op)) formed).0 in
    let shape = (and_parts (shape_formed i.op) (list_all (λ a. operand_formed a.0 a.1) (operands i.op)) shaped).0 in
    record {
      unmarked = plain.unmarked n b p i at;
      widths = widths i.op shape;
      narrow = narrow (operands i.op) (shape_types i.op shape);
      sized = sized_alloca m.types i.op (plain.sizes n b p i at);
    }
