-- The names of a function's values, in the order in which they are numbered.
use Rattle.std.specs.Prelude.{List, ◌++◌, flat_map, filter_map, Option, option_map}
use Rattle.ms_ir.specs.declared.syntax.Name.{Name}
use Rattle.ms_ir.specs.declared.syntax.Inst.{Inst}
use Rattle.ms_ir.specs.declared.syntax.Block.{Block}
use Rattle.ms_ir.specs.declared.syntax.Func.{Func}
use Rattle.ms_ir.specs.Locals.{parameter_names, typed_result}

-- the name of the result of an instruction, where it has a type
abbrev pub valued : Inst → Option Name
valued i = option_map (λ v. v.0) (typed_result i)

-- the names of the results of instructions
abbrev pub result_names : List Inst → List Name
result_names is = filter_map valued is

-- the names of the results in blocks
abbrev pub block_results : List Block → List Name
block_results bs = flat_map (λ b. result_names b.insts) bs

-- the names of the values of a function: the parameters, and then the results in text order
abbrev pub value_names : Func → List Name
value_names f = parameter_names f ++ block_results f.blocks
