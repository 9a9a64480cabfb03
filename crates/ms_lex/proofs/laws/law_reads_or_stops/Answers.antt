use Rattle.ms_lex.proofs.Exact.{sound, complete, stop_sound, stop_complete}
use Rattle.ms_lex.proofs.Relations.{one_stop, either}
use Rattle.ms_lex.proofs.laws.law_reads_or_stops.Goals as goal

pub returns-clause-one_stop : goal.returns-clause-one_stop
returns-clause-one_stop g c = λ ts x y d e. one_stop (g.G.HasGrammar.end c.args.grammar.now) (g.G.HasGrammar.grammar c.args.grammar.now) ts d e x y

pub returns-clause-always_either : goal.returns-clause-always_either
returns-clause-always_either g c = λ ts. either (g.G.HasGrammar.end c.args.grammar.now) (g.G.HasGrammar.grammar c.args.grammar.now) ts

pub returns-clause-runs_to_value : goal.returns-clause-runs_to_value
returns-clause-runs_to_value g c = λ ts x a. (
  sound (g.G.HasGrammar.end c.args.grammar.now) (g.G.HasGrammar.grammar c.args.grammar.now) ts a x,
  complete (g.G.HasGrammar.end c.args.grammar.now) (g.G.HasGrammar.grammar c.args.grammar.now) ts a x,
)

pub returns-clause-runs_to_stop : goal.returns-clause-runs_to_stop
returns-clause-runs_to_stop g c = λ ts x e. (
  stop_sound (g.G.HasGrammar.end c.args.grammar.now) (g.G.HasGrammar.grammar c.args.grammar.now) ts e x,
  stop_complete (g.G.HasGrammar.end c.args.grammar.now) (g.G.HasGrammar.grammar c.args.grammar.now) ts e x,
)
