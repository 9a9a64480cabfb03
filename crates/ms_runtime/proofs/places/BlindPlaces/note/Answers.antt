use Rattle.std.proofs.Common.{◌≤◌, ◌∙◌, Bool, true≢false, if◌then◌else◌, ⊎_elim, sym, subst}
use Rattle.std.proofs.lemmas.Bool.{lt-ltb, le-ltb}
use Rattle.ms_runs.specs.Calls.{counted_at}
use Rattle.ms_runtime.specs.Places.{Placed}
use Rattle.ms_runtime.proofs.places.BlindPlaces.note.Goals as goal

pub add-requires : goal.add-requires
add-requires c = c.requires c.if-wanted.true

pub returns-in_ok-add : goal.returns-in_ok-add
returns-in_ok-add c = λ wanted places held.
    subst (λ (b : Bool). Placed (if b then counted_at c.args.site places else places) c.add.new.self) (sym (lt-ltb c.args.before c.args.now c.if-before-now.true)) (c.in_ok-add.ensures places held)

pub returns-else-wanted : goal.returns-else-wanted
returns-else-wanted c = λ wanted places held.
    let le : c.args.now ≤ c.args.before = ⊎_elim (λ both. both.1) (λ no. absurd (true≢false (sym wanted ∙ no))) c.else-wanted.either in
    subst (λ (b : Bool). Placed (if b then counted_at c.args.site places else places) c.args.self.now) (sym (le-ltb c.args.before c.args.now le)) held
