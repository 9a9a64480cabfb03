use Rattle.std.proofs.Common.{arith}
use Rattle.std.proofs.lemmas.List.Sorted.{Contains-permutation, IsPermutation-sym}
use Rattle.ms_flow.proofs.Members.{blocks_more, within}
use Rattle.ms_flow.proofs.definitions.definitions.Goals as goal

pub loop-block-preserved : goal.loop-block-preserved
loop-block-preserved c =
    blocks_more c.args.g.now.defs c.loop-block.pairs.items c.add_definitions.new.pairs.items c.loop-block.block c.loop-block.invariant
    (rw c.definitions.ensures at c.in_ok-add_definitions.ensures)

pub returns : goal.returns
returns c b v =
    let pairs = c.loop-block.pairs.items in
    let sorted = c.sort.new.self.items in
    let perm = c.in_ok-sort.ensures.permutation in
    let h = c.loop-block.invariant b v in (
      λ p. (h.0 (Contains-permutation sorted pairs (b, v) (IsPermutation-sym pairs sorted perm) p)).1,
      λ p. let below = within c.args.g.now.defs b v p in Contains-permutation pairs sorted (b, v) perm (h.1 (omega arith, p)),
    )
