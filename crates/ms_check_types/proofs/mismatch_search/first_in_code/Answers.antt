use Rattle.std.proofs.Common.{◌<◌, ◌^◌, refl, sym, ◌∙◌, arith}
use Rattle.ms_check_valid.proofs.SmallNumbers.{funcs_written}
use Rattle.ms_check_types.proofs.SmallFaults.{small_operand}
use Rattle.ms_check_types.proofs.mismatch_search.first_in_code.Goals as goal

pub first_fault-requires : goal.first_fault-requires
first_fault-requires c = λ k. ((refl, tt), (omega (arith, c.requires, funcs_written c.args.m.now.funcs), λ i f below. tt))

pub overflow_cast-result : goal.overflow_cast-result
overflow_cast-result c =
    let few : c.in-Some.operand < 2 ^ 30 =
    small_operand c.args.symbols.now.source.now c.args.m.now (c.in-Some.site, c.in-Some.operand) c.requires (sym c.in-Some.is ∙ c.in_ok-site.ensures) in
    omega arith
