use Rattle.ms_text_grammar.proofs.WiderBodies as wider
use Rattle.ms_text_grammar.proofs.laws.law_plain_is_instrumented.Goals as goal

pub returns : goal.returns
returns c = record { same_module = wider.plain_is_instrumented }
