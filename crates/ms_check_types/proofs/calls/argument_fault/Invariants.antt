use Rattle.std.proofs.Common.{◌≡◌, ◌≤◌, length, drop}
use Rattle.ms_check_valid.specs.TypesAgree.{argument_fault, fits_call}
use Rattle.ms_check_types.specs.Bodies.{fits_in, module_of}
use Rattle.ms_check_types.specs.Callees.{callee_signature}
use Rattle.ms_check_types.proofs.calls.argument_fault.Given as goal

abbrev pub invariant-loop-place : goal.invariant-loop-place
invariant-loop-place l = record {
  known : l.place ≤ length (callee_signature l.callee).params;
  is : argument_fault (fits_call (module_of l.body) (fits_in l.body) l.name) l.place (drop l.place (callee_signature l.callee).params) (drop l.place l.args) ≡ argument_fault (fits_call (module_of l.body) (fits_in l.body) l.name) 0 (callee_signature l.callee).params l.args;
}
