use Rattle.std.proofs.Common.{◌≡◌, ℕ, ◌+◌, ◌-◌, ◌<◌, ◌≤◌, true, false, refl, List, length, get_or, take, drop, sym, subst, arith, All, Contains}
use Rattle.std.proofs.lemmas.List.{get_or_default, take_rest, length-drop}
use Rattle.std.proofs.lemmas.List.Elements.{All-take, All-drop}
use Rattle.ms_flow.specs.Search.{IsUndefined, use_at}
use Rattle.ms_flow.proofs.Answered.{leaves_is, tells_graph, judged_same, right_same, Answers, batch_marked, batch_right, batch_values}
use Rattle.ms_flow.proofs.dataflow.ask_in.Goals as goal

pub judge-requires-clause-places : goal.judge-requires-clause-places
judge-requires-clause-places c =
    let P : ℕ × ℕ → Type 0 = λ q. q.1 < length c.args.uses.now in
    let from = c.loop-from.from in
    All-take P (from + c.in_ok-values.count - from) (drop from c.args.questions.now) (All-drop P from c.args.questions.now c.requires.places)

pub judge-requires-clause-values : goal.judge-requires-clause-values
judge-requires-clause-values c =
    let P : List ℕ → Type 0 = λ l. All (λ q. Contains l (use_at c.args.uses.now q.1).value) (take (c.loop-from.from + c.in_ok-values.count - c.loop-from.from) (drop c.loop-from.from c.args.questions.now)) in
    subst P (sym c.deref-in-loop-from.ensures.value)
    (batch_values c.args.uses.now c.in_ok-values.values.items c.args.questions.now c.loop-from.from c.in_ok-values.count c.requires.values
    (rw (take_rest c.args.questions.now c.loop-from.from) at c.in_ok-values.ensures.values))

pub loop-from-preserved : goal.loop-from-preserved
loop-from-preserved c =
    let g = c.args.g.now in
    let uses = c.args.uses.now in
    let qs = c.args.questions.now in
    let from = c.loop-from.from in
    let count = c.in_ok-values.count in
    let h = c.loop-from.invariant in
    let values = c.in_ok-values.values.items in
    let kills = c.take_up.new.self.kills.items in
    let words = c.take_up.new.self.arriving.items in
    let few : length values ≤ 64 = omega (arith, c.in_ok-values.ensures.few, c.in_ok-values.values.ok.0) in
    let tells = tells_graph g values c.deref.result.now kills c.args.definitions.now c.deref.ensures.value c.requires.definitions c.take_up.ensures.tells in
    let answers : Answers g values kills words = λ u i at. leaves_is g values kills words u i few tells c.take_up.ensures.comes at in
    let v = c.deref-in-loop-from.ensures.value in
    let counted : count ≤ length (drop from qs) = rw (take_rest qs from) at c.in_ok-values.ensures.count in
    let within : from + count ≤ length qs = omega (arith, counted, length-drop from qs, c.loop-from-test.true) in
    record {
      within = within;
      kills = c.take_up.ensures.kills;
      words = c.take_up.ensures.words;
      queued = c.take_up.ensures.queued;
      marked = batch_marked g uses values kills words c.loop-from.undefined c.judge.new.undefined qs from count within answers h.marked c.judge.ensures.kept
          (judged_same uses values c.deref-in-loop-from.result.now kills kills words words c.judge.new.undefined _ v refl refl c.judge.ensures.marked);
      right = batch_right g uses values kills words c.args.undefined.now c.loop-from.undefined c.judge.new.undefined answers h.right
          (λ n on. right_same uses values c.deref-in-loop-from.result.now kills kills words words c.loop-from.undefined n v refl refl (c.judge.ensures.right n on));
    }

pub returns-clause-marked : goal.returns-clause-marked
returns-clause-marked c k d lt =
    let P : ℕ × ℕ → Type 0 = λ q. IsUndefined c.args.g.now (use_at c.args.uses.now q.1) → get_or c.loop-from.undefined q.1 false ≡ true in
    subst P (get_or_default c.args.questions.now k (0, 0) d lt) (c.loop-from.invariant.marked k (omega arith))
