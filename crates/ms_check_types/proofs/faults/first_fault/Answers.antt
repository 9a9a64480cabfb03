use Rattle.std.proofs.Common.{◌++◌, ap, sym, ◌∙◌}
use Rattle.std.specs.Prelude.{slice_get, flat_map}
use Rattle.std.proofs.Math.Path.{ap₂}
use Rattle.ms_check_valid.specs.SizesFit.{unsized_globals}
use Rattle.ms_check_types.specs.SizedParts.{type_faults, func_faults}
use Rattle.ms_check_types.proofs.FirstFaults.{first_of_two, first_of_first}
use Rattle.ms_check_types.proofs.faults.first_fault.Goals as goal

pub returns-in-Some : goal.returns-in-Some
returns-in-Some c =
    let m = c.args.m.now in
    sym (first_of_first (flat_map (type_faults m.types) m.types) (unsized_globals m.types 0 m.globals ++ flat_map (func_faults m.types) m.funcs) c.in-Some.fault
    (sym (c.in-Some.ensures ∙ ap₂ (λ e ts. slice_get (flat_map (type_faults e) ts) 0) c.requires c.as_slice-types.ensures)))

pub returns-in-None : goal.returns-in-None
returns-in-None c =
    let m = c.args.m.now in
    c.first_symbol.ensures
    ∙ ap (λ e. slice_get (unsized_globals e 0 m.globals ++ flat_map (func_faults e) m.funcs) 0) c.requires
    ∙ sym (first_of_two (flat_map (type_faults m.types) m.types) (unsized_globals m.types 0 m.globals ++ flat_map (func_faults m.types) m.funcs)
    (sym (c.in-None.ensures ∙ ap₂ (λ e ts. slice_get (flat_map (type_faults e) ts) 0) c.requires c.as_slice-types.ensures)))
