use Rattle.ms_top.proofs.Faithful.{shadow_answer, corpus_shown, corpus_holds, summary_shown, under_fills, calls_under_fills, places_count, once_each, fair_default, fair_options}
use Rattle.ms_top.proofs.GeneratedRuns.{generated_shown}
use Rattle.ms_top.proofs.laws.law_checks_show_the_shadow_run.Goals as goal

pub returns-clause-shadow : goal.returns-clause-shadow
returns-clause-shadow c = shadow_answer

pub returns-clause-under_fills : goal.returns-clause-under_fills
returns-clause-under_fills c = under_fills

pub returns-clause-calls_under_fills : goal.returns-clause-calls_under_fills
returns-clause-calls_under_fills c = calls_under_fills

pub returns-clause-sections : goal.returns-clause-sections
returns-clause-sections c = corpus_shown

pub returns-clause-sections_under_fills : goal.returns-clause-sections_under_fills
returns-clause-sections_under_fills c = corpus_holds

pub returns-clause-summary : goal.returns-clause-summary
returns-clause-summary c = summary_shown

pub returns-clause-generated : goal.returns-clause-generated
returns-clause-generated c = generated_shown

pub returns-clause-fair : goal.returns-clause-fair
returns-clause-fair c = fair_options

pub returns-clause-defaults : goal.returns-clause-defaults
returns-clause-defaults c = fair_default

pub returns-clause-places : goal.returns-clause-places
returns-clause-places c = places_count

pub returns-clause-once : goal.returns-clause-once
returns-clause-once c = once_each
