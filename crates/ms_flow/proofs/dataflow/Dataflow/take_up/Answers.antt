use Rattle.std.proofs.Common.{◌≡◌, ℕ, ◌↔◌, List, length, get_or, sym, subst, arith, Contains}
use Rattle.std.specs.Vec.{with_items}
use Rattle.std.proofs.lemmas.List.{with_items_is}
use Rattle.ms_flow.specs.Search.{Has, Comes}
use Rattle.ms_flow.proofs.Answered.{comes_graph}
use Rattle.ms_flow.proofs.dataflow.Dataflow.take_up.Goals as goal

pub returns-clause-tells : goal.returns-clause-tells
returns-clause-tells c b i below =
    let kills = c.tell.new.kills in
    let kills_size : length kills ≡ c.args.self.now.kills.len = omega (arith, c.deref_mut.ensures.len, c.tell.auto.kills) in
    subst (λ (ks : List ℕ). Has (get_or ks b 0) i ↔ Contains c.args.definitions.now (b, get_or c.args.values.now i 0)) (sym (with_items_is c.args.self.now.kills kills kills_size)) (c.tell.ensures b i below)

pub returns-clause-comes : goal.returns-clause-comes
returns-clause-comes c =
    let held = c.args.self.now.arriving in
    let words = c.spread.new.words in
    let words_size : length words ≡ held.len = omega (arith, c.deref_mut-2.ensures.len, c.spread.auto.words) in
    comes_graph c.args.g.now _ c.deref.result.now (with_items held words).items c.deref.ensures.value
    (λ b i below. subst (λ (ws : List ℕ). Has (get_or ws b 0) i ↔ Comes c.args.g.now c.deref.result.now i b) (sym (with_items_is held words words_size)) (c.spread.ensures b i below))
