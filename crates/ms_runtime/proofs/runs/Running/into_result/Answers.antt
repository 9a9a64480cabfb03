use Rattle.std.proofs.Common.{sym, ◌∙◌}
use Rattle.ms_runtime.proofs.runs.Running.into_result.Goals as goal

pub returns : goal.returns
returns c = λ answer o. λ i. record {
  output = (c.into_output.ensures o.beside o.world o.shows ∙ sym o.output) i;
  «end» = sym o.last i;
  reports = sym o.reports i;
  blind = sym o.blind i;
}
