use Rattle.ms_check_types.proofs.callees.FuncTable.of.Goals as goal

pub invariant_of-result : goal.invariant_of-result
invariant_of-result c = record {
  decls_are = c.in_ok-decls.ensures;
  funcs_are = c.in_ok-funcs.ensures;
}
