use Rattle.ms_bits_laws.proofs.Agreement.{agrees_itself, turned_round, agrees_through, defined_words}
use Rattle.ms_bits_laws.proofs.completions.agreement.Goals as goal

pub returns-clause-itself : goal.returns-clause-itself
returns-clause-itself c = λ w m a. agrees_itself w m a

pub returns-clause-turned_round : goal.returns-clause-turned_round
returns-clause-turned_round c = λ w m a c h. turned_round w m a c h

pub returns-clause-through : goal.returns-clause-through
returns-clause-through c = λ w m a v c p q. agrees_through w m a v c p (turned_round w m v c q)

pub returns-clause-defined : goal.returns-clause-defined
returns-clause-defined c = λ w a c p q h. defined_words w a c p q h
