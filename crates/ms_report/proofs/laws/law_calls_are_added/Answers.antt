use Rattle.std.proofs.Common.{◌∙◌}
use Rattle.ms_report.proofs.CallLines.{none_called}
use Rattle.ms_report.proofs.Uncalled.{reports_left, closing_left, trail_left}
use Rattle.ms_report.proofs.WithoutLines.{reports_alone, closing_alone}
use Rattle.ms_report.specs.WithLines.{no_lines}
use Rattle.ms_report.proofs.laws.law_calls_are_added.Goals as goal

pub returns-clause-taken_out : goal.returns-clause-taken_out
returns-clause-taken_out c = λ m r calls. reports_left m calls r.reports ∙ none_called no_lines m 0 r.reports ∙ reports_alone m 1 r.reports

pub returns-clause-closings : goal.returns-clause-closings
returns-clause-closings c = λ m r calls verdict. closing_left m r calls verdict ∙ closing_alone m r verdict

pub returns-clause-trails : goal.returns-clause-trails
returns-clause-trails c = λ m moves at hops calls. trail_left m moves at hops calls
