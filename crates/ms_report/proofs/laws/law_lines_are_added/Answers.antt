use Rattle.ms_report.proofs.WithoutLines.{reports_alone, closing_alone, refusal_alone}
use Rattle.ms_report.proofs.Unindented.{reports_left, closing_left, refusal_left}
use Rattle.ms_report.proofs.TrailLines.{trail_left, trail_calling_left, none_called_first}
use Rattle.ms_report.proofs.CallLines.{none_called, none_called_last, calling_left, closing_calling_left}
use Rattle.ms_report.proofs.BlindLines.{places_left}
use Rattle.ms_report.proofs.laws.law_lines_are_added.Goals as goal

pub returns-clause-none_in_reports : goal.returns-clause-none_in_reports
returns-clause-none_in_reports c = λ m r. reports_alone m 1 r.reports

pub returns-clause-none_in_closings : goal.returns-clause-none_in_closings
returns-clause-none_in_closings c = λ m r verdict. closing_alone m r verdict

pub returns-clause-none_in_refusals : goal.returns-clause-none_in_refusals
returns-clause-none_in_refusals c = λ cause. refusal_alone cause

pub returns-clause-taken_out_of_reports : goal.returns-clause-taken_out_of_reports
returns-clause-taken_out_of_reports c = λ under m r all. reports_left under all m 1 r.reports

pub returns-clause-taken_out_of_closings : goal.returns-clause-taken_out_of_closings
returns-clause-taken_out_of_closings c = λ under m r verdict all. closing_left under all m r verdict

pub returns-clause-taken_out_of_refusals : goal.returns-clause-taken_out_of_refusals
returns-clause-taken_out_of_refusals c = λ under cause all. refusal_left under all cause

pub returns-clause-taken_out_of_trails : goal.returns-clause-taken_out_of_trails
returns-clause-taken_out_of_trails c = λ under m moves at hops all. trail_left under all m moves at hops

pub returns-clause-none_in_calls : goal.returns-clause-none_in_calls
returns-clause-none_in_calls c = λ under m r. none_called under m 0 r.reports

pub returns-clause-taken_out_of_calls : goal.returns-clause-taken_out_of_calls
returns-clause-taken_out_of_calls c = λ under m r calls all. calling_left under all m calls r.reports

pub returns-clause-none_in_closing_calls : goal.returns-clause-none_in_closing_calls
returns-clause-none_in_closing_calls c = λ under m r verdict. none_called_last under m r verdict

pub returns-clause-taken_out_of_closing_calls : goal.returns-clause-taken_out_of_closing_calls
returns-clause-taken_out_of_closing_calls c = λ under m r calls verdict all. closing_calling_left under all m r calls verdict

pub returns-clause-none_in_trail_calls : goal.returns-clause-none_in_trail_calls
returns-clause-none_in_trail_calls c = λ under m moves at hops. none_called_first under m moves at hops

pub returns-clause-taken_out_of_trail_calls : goal.returns-clause-taken_out_of_trail_calls
returns-clause-taken_out_of_trail_calls c = λ under m moves at hops calls all. trail_calling_left under all m moves at hops calls

pub returns-clause-taken_out_of_places : goal.returns-clause-taken_out_of_places
returns-clause-taken_out_of_places c = λ under m places all. places_left under all m places
