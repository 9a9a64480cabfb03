use Rattle.std.proofs.Common.{None, Some, subst}
use Rattle.ms_printf.specs.Walks.{rest_shown, GoesOn}
use Rattle.ms_printf.proofs.Sums.{begun, more, finished}
use Rattle.ms_printf.proofs.printing.measured.Goals as goal

pub parts-init : goal.parts-init
parts-init c = record {
  walk = c.requires;
  so_far = λ beside meant shows. begun (rest_shown meant c.args.types.now c.args.words.now c.args.format);
}

pub parts-preserved-in-Some : goal.parts-preserved-in-Some
parts-preserved-in-Some c = record {
  walk = c.step.ensures.walk;
  so_far = λ beside meant shows.
      let goes : GoesOn meant c.args.types.now c.args.words.now c.parts.walk c.step.new.self (Some c.in-Some.part) = subst (GoesOn meant c.args.types.now c.args.words.now c.parts.walk c.step.new.self) c.in-Some.is (c.in_ok-part.ensures.shown beside meant shows) in
      more meant c.parts.sum c.joined-sum.result c.in-Some.part (rest_shown meant c.args.types.now c.args.words.now c.parts.walk) (rest_shown meant c.args.types.now c.args.words.now c.step.new.self)
      (rest_shown meant c.args.types.now c.args.words.now c.args.format) (c.parts.invariant.so_far beside meant shows) goes (c.joined-sum.ensures meant);
}

pub parts-preserved : goal.parts-preserved
parts-preserved c = record {
  walk = c.step.ensures.walk;
  so_far = λ beside meant shows.
      let goes : GoesOn meant c.args.types.now c.args.words.now c.parts.walk c.step.new.self (Some c.in-Some.part) = subst (GoesOn meant c.args.types.now c.args.words.now c.parts.walk c.step.new.self) c.in-Some.is (c.in_ok-part.ensures.shown beside meant shows) in
      more meant c.parts.sum c.joined-sum.result c.in-Some.part (rest_shown meant c.args.types.now c.args.words.now c.parts.walk) (rest_shown meant c.args.types.now c.args.words.now c.step.new.self)
      (rest_shown meant c.args.types.now c.args.words.now c.args.format) (c.parts.invariant.so_far beside meant shows) goes (c.joined-sum.ensures meant);
}

pub returns : goal.returns
returns c beside meant shows =
    finished c.parts.sum (rest_shown meant c.args.types.now c.args.words.now c.parts.walk) (rest_shown meant c.args.types.now c.args.words.now c.args.format) (c.parts.invariant.so_far beside meant shows)
    (subst (GoesOn meant c.args.types.now c.args.words.now c.parts.walk c.step.new.self) c.in_default.is (c.in_ok-part.ensures.shown beside meant shows))
