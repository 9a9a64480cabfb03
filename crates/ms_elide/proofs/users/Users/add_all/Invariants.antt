use Rattle.std.proofs.Common.{◌≡◌, take, length}
use Rattle.ms_elide.proofs.UserRows.{Added}
use Rattle.ms_elide.proofs.users.Users.add_all.Given as goal

abbrev pub invariant-loop-item : goal.invariant-loop-item
invariant-loop-item l = record {
  len : length l.self ≡ length l.initial.self;
  users : Added l.initial.self l.self l.user (take l.item-index l.items);
}
