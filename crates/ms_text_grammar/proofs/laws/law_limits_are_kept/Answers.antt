use Rattle.ms_text_grammar.proofs.Bounds as bounds
use Rattle.ms_text_grammar.proofs.laws.law_limits_are_kept.Goals as goal

pub returns-clause-of_a_module : goal.returns-clause-of_a_module
returns-clause-of_a_module c = bounds.module_within

pub returns-clause-of_a_function : goal.returns-clause-of_a_function
returns-clause-of_a_function c = bounds.function_bound
