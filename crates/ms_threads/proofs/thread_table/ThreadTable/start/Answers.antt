use Rattle.std.proofs.Common.{Option, option_map, unwrap_or, sym, ap, ◌∙◌}
use Rattle.ms_threads.specs.declared.thread_table.Thread.{Thread as Guest}
use Rattle.ms_threads.proofs.Threading.{start_there}
use Rattle.ms_threads.proofs.thread_table.ThreadTable.start.Goals as goal

pub returns-in-Some : goal.returns-in-Some
returns-in-Some c =
    sym (start_there c.args.self.now.turn c.args.self.now.threads.items ∙ ap (λ (o : Option Guest). unwrap_or (option_map (λ (t : Guest). t.start) o) 0) (sym c.thread.ensures ∙ c.in-Some.is))

pub returns-in-None : goal.returns-in-None
returns-in-None c =
    sym (start_there c.args.self.now.turn c.args.self.now.threads.items ∙ ap (λ (o : Option Guest). unwrap_or (option_map (λ (t : Guest). t.start) o) 0) (sym c.thread.ensures ∙ c.in-None.is))
