use Rattle.ms_runs_fills_laws.proofs.Whole.{first_of, clean_shown, first_reported}
use Rattle.ms_runs_fills_laws.proofs.fills.first_reports.Goals as goal

pub returns-clause-first : goal.returns-clause-first
returns-clause-first c = first_of

pub returns-clause-clean : goal.returns-clause-clean
returns-clause-clean c = λ m formed valid calm bare setup bytes quiet. clean_shown m formed valid calm bare setup bytes quiet

pub returns-clause-reported : goal.returns-clause-reported
returns-clause-reported c = λ m formed valid calm bare setup bytes quiet. first_reported m formed valid calm bare setup bytes quiet
