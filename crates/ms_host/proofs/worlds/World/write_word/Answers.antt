use Rattle.std.proofs.Common.{ℕ, List, get_or, ap, subst}
use Rattle.ms_runs.specs.Memory.{store_number}
use Rattle.ms_host.specs.Shows.{Shows}
use Rattle.ms_host.proofs.InitParts.{words-left}
use Rattle.ms_host.proofs.worlds.World.write_word.Goals as goal

pub returns-clause-written : goal.returns-clause-written
returns-clause-written c = λ v rest is. (
  words-left c.args.words.now v rest is,
  λ a beside world reach shows.
      subst (λ (x : ℕ). Shows c.initialise_number.new.self beside (store_number a c.args.n x world)) (ap (λ (l : List ℕ). get_or l 0 0) is) (c.initialise_number.ensures.written a beside world reach shows),
)
