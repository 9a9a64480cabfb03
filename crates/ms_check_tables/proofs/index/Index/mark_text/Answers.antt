use Rattle.std.proofs.Common.{◌≡◌, ◌<◌, Some, false, length, sym, ap, subst, ◌∙◌, arith, nat_eq}
use Rattle.std.specs.Prelude.{IsSome}
use Rattle.std.specs.Option.{is_some}
use Rattle.std.specs.Box.{with_value}
use Rattle.std.specs.HashMap as hash
use Rattle.ms_check_tables.specs.Index.{Marked}
use Rattle.ms_check_tables.proofs.Marked.{marked_moved}
use Rattle.ms_check_tables.proofs.index.Index.mark_text.Goals as goal

pub returns-in_ok-insert-in-Some : goal.returns-in_ok-insert-in-Some
returns-in_ok-insert-in-Some c =
    let index = c.args.self.now in
    let mark = c.mark_of-mark.result in
    let held : index.marked ≡ Some c.in-Some.marked = search in
    let free : is_some (hash.get nat_eq c.in-Some.marked.value mark) ≡ false =
    ap (λ (m : Marked). is_some (hash.get nat_eq m mark)) (sym c.deref.ensures) ∙ sym c.contains_key.ensures ∙ c.if-contains_key.false in
    let updates = subst (λ (m : Marked). hash.Updates nat_eq m c.insert.new.self mark (Some (c.args.text, c.args.place))) c.deref_mut.ensures.value c.in_ok-insert-in-Some.ensures.updates in
    let some : 0 < length index.few.items → IsSome c.pop.result = λ below. c.pop.ensures.variant.1 (omega (arith, below, index.few.ok.0)) in
    marked_moved index c.in-Some.marked (with_value c.in-Some.marked c.insert.new.self) c.pop.new.self c.pop.result mark c.args.text c.args.place held c.mark_of-mark.ensures free c.requires
    updates c.pop.ensures.items some
