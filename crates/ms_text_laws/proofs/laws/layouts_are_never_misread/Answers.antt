use Rattle.ms_text_laws.proofs.WrittenTexts.{written_reads, written_stops, written_cut}
use Rattle.ms_text_laws.proofs.laws.layouts_are_never_misread.Goals as goal

pub returns-clause-reads : goal.returns-clause-reads
returns-clause-reads c = written_reads

pub returns-clause-stops : goal.returns-clause-stops
returns-clause-stops c = written_stops

pub returns-clause-tokens : goal.returns-clause-tokens
returns-clause-tokens c = written_cut
