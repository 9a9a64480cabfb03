use Rattle.std.proofs.Common.{◌≡◌, length}
use Rattle.ms_elide.proofs.UserRows.{AreFirst}
use Rattle.ms_elide.proofs.users.Users.of.Given as goal

abbrev pub invariant-loop-user : goal.invariant-loop-user
invariant-loop-user l = record {
  len : length l.users ≡ length l.needs;
  first : AreFirst l.needs l.users l.user;
}
