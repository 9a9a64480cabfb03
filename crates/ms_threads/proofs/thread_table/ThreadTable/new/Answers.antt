use Rattle.std.proofs.Common.{List, [], ◌∷◌, ◌++◌, refl, ap, ◌∙◌}
use Rattle.ms_threads.specs.declared.thread_table.Parked.{Parked}
use Rattle.ms_threads.proofs.thread_table.ThreadTable.new.Goals as goal

pub returns : goal.returns
returns c = record {
  turn = refl;
  threads = c.new.ensures.items;
  stands = (c.empty.result, (c.empty.ensures, c.in_ok-push.ensures.items ∙ ap (λ (xs : List Parked). xs ++ c.empty.result ∷ []) c.new-parked.ensures.items));
  place = refl;
  recorder = c.new-2.ensures;
}
