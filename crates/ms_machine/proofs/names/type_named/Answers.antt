use Rattle.std.specs.Prelude.{option_map}
use Rattle.ms_ir.specs.ValueTypes.{type_of}
use Rattle.ms_machine.proofs.Naming.{param_hit, param_miss}
use Rattle.ms_machine.proofs.names.type_named.Goals as goal

pub returns-in-Some : goal.returns-in-Some
returns-in-Some c = param_hit c.args.func.now c.as_slice.result.now c.args.name.now (type_of c.in-Some.ty) c.as_slice.ensures c.in-Some.ensures

pub returns-in-None : goal.returns-in-None
returns-in-None c =
    param_miss c.args.func.now c.as_slice.result.now c.as_slice-in-None.result.now c.args.name.now (option_map type_of c.result_in_blocks.result) c.as_slice.ensures c.as_slice-in-None.ensures c.in-None.ensures
    c.result_in_blocks.ensures
