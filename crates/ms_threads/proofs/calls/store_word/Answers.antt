use Rattle.std.proofs.Common.{◌≡◌, Bool, true, false, ◌||◌, eqb, if◌then◌else◌, ap, sym, subst, ◌∙◌}
use Rattle.std.proofs.lemmas.Bool.{ne_eqb}
use Rattle.std.specs.Prelude.{MatchBool}
use Rattle.ms_runs.specs.World.{World}
use Rattle.ms_runs.specs.Memory.{is_good, store_number}
use Rattle.ms_host.specs.State.{WorldState, Beside}
use Rattle.ms_host.specs.Shows.{Shows}
use Rattle.ms_threads.proofs.calls.store_word.Goals as goal

far_word : (b far good : Bool) (w : WorldState) (beside : Beside) (world after : World) → far ≡ false → MatchBool b ((good ≡ true) × Shows w beside after) ((good ≡ false) × Shows w beside world)
    → MatchBool b (((far || good) ≡ true) × Shows w beside (if far then world else after)) ((far ≡ false) × (good ≡ false) × Shows w beside world)
far_word true far good w beside world after e h = (ap (λ (x : Bool). x || good) e ∙ h.0, subst (λ (x : Bool). Shows w beside (if x then world else after)) (sym e) h.1)
far_word false far good w beside world after e h = (e, h.0, h.1)

pub returns-clause-stored : goal.returns-clause-stored
returns-clause-stored c = λ beside meant shows.
    far_word c.store.result (eqb c.args.r 0) (is_good meant c.args.r 8) c.store.new.self beside meant (store_number c.args.r 8 c.args.word meant) (ne_eqb c.args.r 0 c.if-r-eq0.false) (c.store.ensures.stored beside meant shows)
