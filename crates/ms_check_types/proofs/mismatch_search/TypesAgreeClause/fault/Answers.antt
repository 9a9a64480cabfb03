use Rattle.std.proofs.Common.{ap, sym, ◌∙◌}
use Rattle.std.specs.Prelude.{option_map, slice_get}
use Rattle.ms_check_valid.specs.TypesAgree.{at_site}
use Rattle.ms_check_types.specs.Bodies.{fault_within}
use Rattle.ms_check_types.proofs.Firsts.{at_first}
use Rattle.ms_check_types.proofs.mismatch_search.TypesAgreeClause.fault.Goals as goal

pub returns-in-Some-clause-first : goal.returns-in-Some-clause-first
returns-in-Some-clause-first c =
    let m = c.args.self.now.symbols.now.source.now in
    let here = c.args.here.now in
    ap (option_map (λ k. (here.site, k))) (sym c.in-Some.is ∙ c.in_ok-operand.ensures)
    ∙ at_first here.site (fault_within m c.args.tables.now.func.now c.args.inst.now.op)
    ∙ ap (λ f. slice_get (at_site here.site (fault_within m f c.args.inst.now.op)) 0) c.requires.tables

pub returns-in-None-clause-first : goal.returns-in-None-clause-first
returns-in-None-clause-first c =
    let m = c.args.self.now.symbols.now.source.now in
    let here = c.args.here.now in
    ap (option_map (λ k. (here.site, k))) (sym c.in-None.is ∙ c.in_ok-operand.ensures)
    ∙ at_first here.site (fault_within m c.args.tables.now.func.now c.args.inst.now.op)
    ∙ ap (λ f. slice_get (at_site here.site (fault_within m f c.args.inst.now.op)) 0) c.requires.tables
