use Rattle.std.proofs.Common.{length, ap, arith}
use Rattle.std.specs.Prelude.{flat_map}
use Rattle.std.proofs.lemmas.List.{length-append}
use Rattle.ms_ir.specs.declared.syntax.Name.{Name}
use Rattle.ms_ir.specs.declared.syntax.Ty.{Ty}
use Rattle.ms_ir.specs.Locals.{block_locals, parameter_names}
use Rattle.ms_check_tables.proofs.Given.{given_is}
use Rattle.ms_check_tables.proofs.counted.count_locals.Goals as goal

pub returns : goal.returns
returns c =
    let func = c.args.func.now in
    let params = ap length (given_is (λ (p : Ty × Name). p.1) c.as_slice.result.now func.params c.as_slice.ensures) in
    let blocks = ap (λ bs. length (flat_map block_locals bs)) c.as_slice-2.ensures in
    let sum = length-append (parameter_names func) (flat_map block_locals func.blocks) in
    let none = ap length c.new-names.ensures.items in
    omega (arith, params, blocks, sum, none, ap length c.make_room.ensures, c.len.ensures, c.list_blocks.new.names.ok.0, c.in_ok-list_all.ensures, c.in_ok-list_blocks.ensures)
