use Rattle.std.proofs.Common.{◌≡◌, ◌<◌, ◌++◌, ◌∷◌, [], length, get_or, arith, ◌∙◌}
use Rattle.std.specs.Prelude.{slice_set}
use Rattle.std.proofs.lemmas.List.{take_all, length-set}
use Rattle.ms_elide.proofs.UserRows.{added_more}
use Rattle.ms_elide.proofs.users.Users.add_all.Goals as goal

pub loop-item-preserved : goal.loop-item-preserved
loop-item-preserved c =
    let items = c.args.items.now in
    let k = c.loop-item.item-index in
    let rows = c.loop-item.self in
    let item = get_or items k 0 in
    let inside : item < length rows = omega (arith, c.requires k 0 c.loop-item-test.true) in
    let len : length (slice_set rows item (get_or rows item [] ++ c.args.user ∷ [])) ≡ length rows = length-set rows item (get_or rows item [] ++ c.args.user ∷ []) in
    rw c.in_ok-add.ensures record {
      len = len ∙ c.loop-item.invariant.len;
      users = added_more c.args.self.now rows c.args.user items k c.loop-item-test.true inside c.loop-item.invariant.users;
    }

pub returns-clause-users : goal.returns-clause-users
returns-clause-users c = rw (take_all c.loop-item.item-index c.args.items.now c.loop-item-test.false) at c.loop-item.invariant.users
