use Rattle.ms_text_grammar.proofs.Answering.{reads_answer, stops_answer, answer_reads, answer_stops}
use Rattle.ms_text_grammar.proofs.laws.law_answers_are_exact.Goals as goal

pub returns-clause-read : goal.returns-clause-read
returns-clause-read c = λ form text m short. (reads_answer form text short m, answer_reads form text m)

pub returns-clause-stopped : goal.returns-clause-stopped
returns-clause-stopped c = λ form text k cause short. (stops_answer form text short k cause, answer_stops form text k cause)
