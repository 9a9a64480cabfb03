use Rattle.std.proofs.Common.{◌≡◌, ◌++◌, ℕ, List, [], ◌∷◌, min, if◌then◌else◌, ap, subst, ◌∙◌, arith}
use Rattle.ms_ir.specs.Areas.{Heap}
use Rattle.ms_runs.specs.Memory.{fits, is_good, next_base}
use Rattle.ms_runs.specs.Origins.{poison}
use Rattle.ms_trail_moves.specs.Written.{Written, Copied, made}
use Rattle.ms_trail_moves.specs.Events.{memory_moves}
use Rattle.ms_trail_bytes.specs.Logs.{IsLog}
use Rattle.ms_trail_bytes.proofs.Filling.{good_poison}
use Rattle.ms_trail_bytes.proofs.Unsetting.{poison_same, poisoned_as, both_told}
use Rattle.ms_trail_bytes.proofs.unsets.shade_moved.Goals as goal
use Rattle.std.proofs.lemmas.Result.{on_ok_weaker}

pub tell_block-requires-clause-low : goal.tell_block-requires-clause-low
tell_block-requires-clause-low c = λ some. omega (arith, c.requires.low (omega (arith, some, c.min.ensures)), c.min.ensures)

pub tell_block-requires-clause-few : goal.tell_block-requires-clause-few
tell_block-requires-clause-few c = omega (arith, c.requires.few, c.requires.small, c.min.ensures)

pub tell_made-requires : goal.tell_made-requires
tell_made-requires c = record { few = omega (arith, c.requires.few, c.requires.small, c.tell_block.ensures.count, c.min.ensures) }

pub returns-clause-moved : goal.returns-clause-moved
returns-clause-moved c = λ beside meant before moves place good shows whole is.
    let a = c.args in
    let after = poison a.given a.old a.n 0 meant in
    let there = c.poison.ensures.poisoned beside meant shows in
    let whole_there = good_poison a.given a.old a.n meant whole in
    let kept : c.min.result ≡ min a.old a.n = c.min.ensures in
    let come : List Written = if fits Heap a.n before then Copied (next_base Heap before) (min a.old a.n) a.block ∷ [] else [] in
    let first = c.in_ok-tell_block.ensures.told beside after before a.n moves place (λ f. poison_same a.given a.old a.n meant a.given c.min.result ∙ ap (is_good meant a.given) kept ∙ good f) there whole_there is in
    let told : IsLog c.tell_block.new.log (moves ++ memory_moves a.stamp.event a.stamp.site after.shadow come) =
    subst (λ (k : ℕ). IsLog c.tell_block.new.log (moves ++ memory_moves a.stamp.event a.stamp.site after.shadow (if fits Heap a.n before then Copied (next_base Heap before) k a.block ∷ [] else []))) kept first
    in
    on_ok_weaker c.tell_made.result
    (λ h. (poisoned_as beside meant a.given a.old a.n c.poison.new.self there, both_told c.tell_made.new.log moves a.stamp.event a.stamp.site after.shadow come (made after a.given a.old a.n a.root) h))
    (c.tell_made.ensures.told beside after (moves ++ memory_moves a.stamp.event a.stamp.site after.shadow come) there whole_there told)

pub returns-clause-count : goal.returns-clause-count
returns-clause-count c = omega (arith, c.requires.small, c.tell_made.ensures.count, c.tell_block.ensures.count, c.min.ensures)
