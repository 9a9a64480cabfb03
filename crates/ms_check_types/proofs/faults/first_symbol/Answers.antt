use Rattle.std.proofs.Common.{ap, sym, ◌∙◌}
use Rattle.std.specs.Prelude.{slice_get, flat_map}
use Rattle.ms_check_valid.specs.SizesFit.{unsized_globals}
use Rattle.ms_check_types.specs.SizedParts.{func_faults}
use Rattle.ms_check_types.proofs.FirstFaults.{first_of_two, first_of_first}
use Rattle.ms_check_types.proofs.faults.first_symbol.Goals as goal

pub returns-in-Some : goal.returns-in-Some
returns-in-Some c =
    let types = c.args.extents.now in
    let m = c.args.m.now in
    sym (first_of_first (unsized_globals types 0 m.globals) (flat_map (func_faults types) m.funcs) c.in-Some.fault
    (sym (c.in-Some.ensures ∙ ap (λ gs. slice_get (unsized_globals types 0 gs) 0) c.as_slice-globals.ensures)))

pub returns-in-None : goal.returns-in-None
returns-in-None c =
    let types = c.args.extents.now in
    let m = c.args.m.now in
    c.first_func.ensures ∙ ap (λ fs. slice_get (flat_map (func_faults types) fs) 0) c.as_slice-funcs.ensures
    ∙ sym (first_of_two (unsized_globals types 0 m.globals) (flat_map (func_faults types) m.funcs)
    (sym (c.in-None.ensures ∙ ap (λ gs. slice_get (unsized_globals types 0 gs) 0) c.as_slice-globals.ensures)))
