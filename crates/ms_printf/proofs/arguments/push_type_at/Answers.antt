use Rattle.std.proofs.Common.{◌≡◌, ◌++◌, Option, Some, None, IfOk, sym, ap, ◌∙◌, subst, append-nil}
use Rattle.std.specs.Prelude.{option_map, option_to_list, slice_get}
use Rattle.ms_ir.specs.declared.syntax.Ty.{Ty}
use Rattle.ms_ir.specs.declared.value_types.ValueType.{ValueType}
use Rattle.ms_ir.specs.ValueTypes.{type_of}
use Rattle.ms_printf.specs.Walks.{types_of}
use Rattle.ms_printf.proofs.arguments.push_type_at.Goals as goal

pub returns-in-Some : goal.returns-in-Some
returns-in-Some c =
    let there : slice_get (types_of c.args.op.now) c.args.k ≡ Some (type_of c.in-Some.ty) = sym c.operand_type.ensures ∙ ap (λ (o : Option ValueType). option_map {U = Ty} type_of o) c.in-Some.is in
    subst (λ (o : Option Ty). IfOk c.push_type.result (λ u. c.push_type.new.types.items ≡ c.args.types.now.items ++ option_to_list o)) (sym there) c.push_type.ensures

pub returns-in-None : goal.returns-in-None
returns-in-None c =
    let none : slice_get (types_of c.args.op.now) c.args.k ≡ None = sym c.operand_type.ensures ∙ ap (λ (o : Option ValueType). option_map {U = Ty} type_of o) c.in-None.is in
    sym (ap (λ (o : Option Ty). c.args.types.now.items ++ option_to_list o) none ∙ append-nil c.args.types.now.items)
