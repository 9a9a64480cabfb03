use Rattle.std.proofs.Common.{rules, ◌≡◌, ◌↔◌, [], ℕ, length, get_or, arith, ap, sym, ◌∙◌, Contains, subst, List, Bool}
use Rattle.std.proofs.lemmas.List.{with_items_is, nil_from_length}
use Rattle.std.proofs.lemmas.List.Elements.{Contains-push, Contains-get_or}
use Rattle.ms_elide.specs.SelfSupport.{Needs}
use Rattle.ms_elide.specs.Removal.{IsState, IsRemoved}
use Rattle.ms_elide.proofs.RemovalLists.{within}
use Rattle.ms_elide.proofs.RemovalSteps.{AreBarred, state_first, state_next, state_last}
use Rattle.ms_elide.proofs.removal.settle.Goals as goal

pub loop-item-init : goal.loop-item-init
loop-item-init c =
    let P : List Bool → Type 0 = λ l. AreBarred l c.in_ok-removed.removed.items in
    state_first c.args.needs.now c.in_ok-members.members.items c.in_ok-removed.removed.items c.requires.within c.in_ok-members.ensures (subst P c.deref.ensures.value c.in_ok-removed.ensures)

pub at-requires : goal.at-requires
at-requires c =
    let P : List ℕ → Type 0 = λ l. Contains l c.in-Some.item in
    let among : Contains c.loop-item.removed.items c.in-Some.item = subst P (sym c.in-Some.ensures.items) (Contains-push c.pop.new.self.items c.in-Some.item) in
    let small = c.loop-item.invariant.within c.in-Some.item among in
    omega arith

pub remove-requires : goal.remove-requires
remove-requires c =
    let users = c.at.result.now in
    let s = c.args.needs.now in
    let item = c.in-Some.item in
    let same : length c.deref_mut.result.now ≡ length s = ap length c.deref_mut.ensures.value ∙ c.loop-item.invariant.len in
    let at : users ≡ get_or c.args.users.now item [] = c.at.ensures in
    λ k d lt.
    let P : List ℕ → Type 0 = λ l. Contains l (get_or users k d) in
    let small = within s (get_or users k d) item ((c.requires.users item (get_or users k d)).0 (subst P at (Contains-get_or users k d lt))) in
    omega arith

pub loop-item-preserved : goal.loop-item-preserved
loop-item-preserved c =
    let s = c.args.needs.now in
    let item = c.in-Some.item in
    let members = c.loop-item.members in
    let members' = c.remove.new.members in
    let users = c.at.result.now in
    let rest = c.pop.new.self.items in
    let r : IsRemoved users c.deref_mut.result.now rest members' c.remove.new.removed.items = c.in_ok-remove.ensures in
    let size : length members' ≡ members.len = omega (arith, c.deref_mut.ensures.len, r.len) in
    let P : List ℕ → Type 0 = λ l. IsState s members.items l in
    let Q : List Bool → Type 0 = λ l. IsRemoved users l rest members' c.remove.new.removed.items in
    let R : List ℕ → Type 0 = λ l. (user : ℕ) → Contains l user ↔ Needs s user item in
    let are : R users = subst R (sym c.at.ensures) (c.requires.users item) in
    rw (with_items_is members members' size)
    (state_next s members.items rest item users members' c.remove.new.removed.items are (subst P c.in-Some.ensures.items c.loop-item.invariant) (subst Q c.deref_mut.ensures.value r))

pub returns-clause-exact : goal.returns-clause-exact
returns-clause-exact c =
    let empty : c.loop-item.removed.items ≡ [] = nil_from_length _ (search rules) in
    let now : c.from_vec.result ≡ c.loop-item.members.items = c.from_vec.ensures in
    rw now (state_last c.args.needs.now c.loop-item.members.items c.loop-item.removed.items empty c.loop-item.invariant)
