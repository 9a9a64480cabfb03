use Rattle.std.proofs.Common.{rules, ◌≡◌, ap, ◌∙◌, map, Ok}
use Rattle.std.specs.List.{zip}
use Rattle.std.proofs.lemmas.Iterator.{items_from_collect, YieldsList-from_slice, YieldsList-from_zip, YieldsList-from_map}
use Rattle.std.proofs.lemmas.Iterator.Adapters.{YieldsList-from_vec}
use Rattle.ms_ir.specs.declared.syntax.Operand.{Operand}
use Rattle.ms_rules_builder.specs.Arguments.{parameter_type}
use Rattle.ms_rules_builder.specs.declared.arguments.Parameter.{Parameter}
use Rattle.ms_rules_builder.proofs.Zips.{zip_of_map}
use Rattle.ms_rules_builder.proofs.arguments.arguments.Goals as goal

pub returns : goal.returns
returns c =
    let ps = c.parameters.result.now in
    let os = c.args.operands.items in
    let items : c.in_ok-typed.typed.items ≡ map (λ (p : Parameter × Operand). (parameter_type p.0, p.1)) (zip ps os) =
    items_from_collect {E = Unit {0}} (Ok c.in_ok-typed.typed) c.in_ok-typed.ensures.ran
    (YieldsList-from_map _ (λ (p : Parameter × Operand). (parameter_type p.0, p.1))
    (YieldsList-from_zip (YieldsList-from_slice ps cc) (YieldsList-from_vec os (cc) (cc)))
    c.map.ensures.closure (λ x r q k. search rules)) in
    c.from_vec.ensures ∙ items ∙ zip_of_map parameter_type ps os ∙ ap (λ ts. zip ts os) c.parameters.ensures
