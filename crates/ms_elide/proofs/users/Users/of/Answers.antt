use Rattle.std.proofs.Common.{◌≡◌, ℕ, List, get_or, arith, ◌∙◌, subst, Contains}
use Rattle.std.specs.Prelude.{Option, None}
use Rattle.std.proofs.lemmas.List.{get_or_read}
use Rattle.std.proofs.lemmas.List.Elements.{Contains-get_or}
use Rattle.ms_elide.specs.SelfSupport.{listed, Needs}
use Rattle.ms_elide.proofs.UserRows.{Added, first_more, first_all}
use Rattle.ms_elide.proofs.users.Users.of.Goals as goal

pub add_entry-requires : goal.add_entry-requires
add_entry-requires c =
    let entries = c.args.needs.now in
    let entry = c.index-needs-user.result in
    let n = c.loop-user.user in
    let is : entry ≡ get_or entries n None = get_or_read entries n entry c.loop-user-test.true c.index-needs-user.is None in
    λ k d lt.
    let P : Option (List ℕ) → Type 0 = λ o. Contains (listed o) (get_or (listed entry) k d) in
    let among : Needs entries n (get_or (listed entry) k d) = subst P is (Contains-get_or (listed entry) k d lt) in
    let inside = c.requires n (get_or (listed entry) k d) among in
    omega arith

pub loop-user-preserved : goal.loop-user-preserved
loop-user-preserved c =
    let entries = c.args.needs.now in
    let entry = c.index-needs-user.result in
    let n = c.loop-user.user in
    let is : entry ≡ get_or entries n None = get_or_read entries n entry c.loop-user-test.true c.index-needs-user.is None in
    let P : Option (List ℕ) → Type 0 = λ o. Added c.loop-user.users c.add_entry.new.self n (listed o) in
    record {
      len = c.in_ok-add_entry.ensures.len ∙ c.loop-user.invariant.len;
      first = first_more entries c.loop-user.users c.add_entry.new.self n c.loop-user.invariant.first (subst P is c.in_ok-add_entry.ensures.users);
    }

pub returns-clause-users : goal.returns-clause-users
returns-clause-users c = first_all c.args.needs.now c.loop-user.users c.loop-user.user c.loop-user-test.false c.loop-user.invariant.first
