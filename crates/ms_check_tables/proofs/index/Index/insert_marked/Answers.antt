use Rattle.std.proofs.Common.{◌≡◌, Some, subst, nat_eq}
use Rattle.std.specs.Box.{with_value}
use Rattle.std.specs.HashMap as hash
use Rattle.ms_check_tables.specs.Index.{Marked}
use Rattle.ms_check_tables.proofs.Marked.{marked_placed}
use Rattle.ms_check_tables.proofs.index.Index.insert_marked.Goals as goal

pub returns-in_ok-insert-in-Some-clause-placed : goal.returns-in_ok-insert-in-Some-clause-placed
returns-in_ok-insert-in-Some-clause-placed c =
    let held : c.args.self.now.marked ≡ Some c.in-Some.marked = search in
    let updates = subst (λ (m : Marked). hash.Updates nat_eq m c.insert.new.self c.args.mark (Some (c.args.text, c.args.place))) c.deref_mut.ensures.value c.in_ok-insert-in-Some.ensures.updates in
    marked_placed c.args.self.now c.in-Some.marked (with_value c.in-Some.marked c.insert.new.self) c.args.mark c.args.text c.args.place held c.requires.mark c.requires.first updates
