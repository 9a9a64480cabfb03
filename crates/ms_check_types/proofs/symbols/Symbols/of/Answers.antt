use Rattle.ms_check_types.proofs.symbols.Symbols.of.Goals as goal

pub invariant_of-result : goal.invariant_of-result
invariant_of-result c = record {
  types_are = c.in_ok-types.ensures.types;
  globals_are = c.in_ok-types.ensures.globals;
  callees_are = c.in_ok-callees.ensures;
}
