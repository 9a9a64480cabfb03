use Rattle.std.proofs.Common.{ℕ, ◌<◌, false, [], ◌∷◌, ◌++◌, below_more, length, sym, ◌∙◌, arith, Contains}
use Rattle.std.proofs.lemmas.List.{get_or_read}
use Rattle.std.proofs.lemmas.List.Elements.{All-push, Contains-append_left, Contains-push}
use Rattle.ms_flow.proofs.orders.add_others.Goals as goal
use Rattle.ms_flow.proofs.orders.add_others.Goals.{then-not-index+in_ok-push, else-not-index}

pub loop-block-preserved : goal.loop-block-preserved
loop-block-preserved c =
    let items = c.loop-block.order.items in
    let block = c.loop-block.block in
    elim c.if-not-index.branch [
      | then-not-index+in_ok-push w ↦ rw (w.order-is, w.in_ok-push.ensures.items) record {
        blocks = All-push (λ (b : ℕ). b < c.args.len) items block c.loop-block.invariant.blocks c.loop-block-test.true;
        flags = λ b h. Contains-append_left items (block ∷ []) b (c.loop-block.invariant.flags b h);
        all = below_more (Contains (items ++ block ∷ [])) block (λ b h. Contains-append_left items (block ∷ []) b (c.loop-block.invariant.all b h)) (Contains-push items block);
      }
      | else-not-index w ↦ rw w.order-is record {
        blocks = c.loop-block.invariant.blocks;
        flags = c.loop-block.invariant.flags;
        all = below_more (Contains items) block c.loop-block.invariant.all (c.loop-block.invariant.flags block
            (let stands = c.in_ok-stands.stands in
            let in_stands : block < length stands.items = omega (arith, stands.ok.0, c.in_ok-stands.ensures.len) in
            sym (get_or_read stands.items block _ in_stands c.index.ensures false) ∙ w.if-not-index.false));
      }
    ]
