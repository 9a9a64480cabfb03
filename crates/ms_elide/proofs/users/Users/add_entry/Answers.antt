use Rattle.ms_elide.proofs.users.Users.add_entry.Goals as goal

pub returns-in-Some-clause-users : goal.returns-in-Some-clause-users
returns-in-Some-clause-users c = rw c.in-Some.is (rw c.as_slice.ensures at c.add_all.ensures.users)
