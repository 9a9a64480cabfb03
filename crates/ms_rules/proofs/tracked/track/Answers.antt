use Rattle.std.proofs.Common.{◌≡◌, ◌+◌, map, length, refl, sym, subst, ap, ◌∙◌, arith}
use Rattle.std.proofs.lemmas.List.{length-map}
use Rattle.ms_ir.specs.Instructions.{operands, count_undefs}
use Rattle.ms_pass_tasks.specs.Environments.{tracked}
use Rattle.ms_rules_builder.specs.Steps.{tracked_of}
use Rattle.ms_rules.specs.Scopes.{env_of}
use Rattle.ms_rules.proofs.Operands.{Tracks, tracks_none, tracks_more, tracks_all}
use Rattle.ms_rules.proofs.tracked.track.Goals as goal

pub push_operand-requires-clause-roots : goal.push_operand-requires-clause-roots
push_operand-requires-clause-roots c =
    let v = c.loop-place.tracking.operands in
    let few = c.loop-place.invariant.tracks.few in
    let many : length v.items ≡ c.loop-place.place = sym (length-map v.items tracked_of) ∙ c.loop-place.invariant.tracks.many in
    omega arith

pub loop-place-init : goal.loop-place-init
loop-place-init c =
    let env = env_of c.args.scope.now in
    record {
      tracks = subst (λ ts. Tracks env c.args.roots_before (operands c.args.op.now) 0 ts c.args.roots_before) (sym (ap (map tracked_of) c.new.ensures.items)) (tracks_none env c.args.roots_before (operands c.args.op.now));
      before = refl;
    }

pub loop-place-preserved : goal.loop-place-preserved
loop-place-preserved c =
    let e = c.in_ok-push_operand.ensures in
    record {
      tracks = tracks_more (env_of c.args.scope.now) c.args.roots_before (operands c.args.op.now) c.loop-place.place _ _ _ _ (omega arith) e.are e.after c.loop-place.invariant.tracks;
      before = e.before ∙ c.loop-place.invariant.before;
    }

pub returns : goal.returns
returns c =
    let t = c.loop-place.tracking in
    let env = env_of c.args.scope.now in
    let all = tracks_all env c.args.roots_before (operands c.args.op.now) c.loop-place.place (map tracked_of t.operands.items) t.after (omega arith) c.loop-place.invariant.tracks in
    let before = c.loop-place.invariant.before in
    record {
      is = record { are = all.0 ∙ ap (λ n. tracked env n (operands c.args.op.now)) (sym before); after = all.1 ∙ ap (λ n. n + count_undefs (operands c.args.op.now)) (sym before) };
      before = before;
    }
