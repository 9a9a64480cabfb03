-- How large the instrumented form may be.
use Rattle.std.proofs.Common.{◌≡◌, ◌≤◌, ◌+◌, ◌*◌, ℕ, length, sym, subst, arith}
use Rattle.ms_ir.specs.Instructions.{operands, over_funcs}
use Rattle.ms_ir.specs.declared.syntax.Module.{Module}
use Rattle.ms_check_valid.specs.Formed.{count_written}
use Rattle.ms_check_valid.specs.Uninstrumented.{CanInstrument}
use Rattle.ms_pass_form_laws.proofs.CostSum.{funcs_cost, funcs_bound}
use Rattle.ms_pass_form_laws.proofs.Within.{given_by}
use Rattle.ms_pass_form_laws.specs.Eliding.{eliding}
use Rattle.ms_pass_form_laws.specs.Elided.{IsElided}

sum_of : (a b c d k : ℕ) → a ≤ b + 1000 * k → b ≡ 200 * c + 55 * d → a ≤ 200 * c + 55 * d + 1000 * k
sum_of a b c d k l e = omega (arith, l, e)

pub bounded : (m j : Module) → CanInstrument m → IsElided m j
    → over_funcs count_written j.funcs ≤ 200 * over_funcs (λ inst. 1) m.funcs + 55 * over_funcs (λ inst. length (operands inst.op)) m.funcs + 1000 * length m.funcs
bounded m j can is =
    subst (λ (x : Module). over_funcs count_written x.funcs ≤ 200 * over_funcs (λ inst. 1) m.funcs + 55 * over_funcs (λ inst. length (operands inst.op)) m.funcs + 1000 * length m.funcs) (sym is.is_pass)
    (sum_of _ _ _ _ _ (funcs_cost (given_by m) (eliding is.clean m) m.funcs 1 0 can.parameters) (funcs_bound m.funcs))
