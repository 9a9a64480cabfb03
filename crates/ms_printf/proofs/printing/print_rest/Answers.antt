use Rattle.std.proofs.Common.{◌≡◌, ◌∙◌, ◌++◌, None, Some, Ok, refl, sym, subst}
use Rattle.ms_planes.specs.Memory.{Memory}
use Rattle.ms_runs.specs.World.{World}
use Rattle.ms_host.proofs.Changes.{keeps-both}
use Rattle.ms_printf.specs.Walks.{rest_shown, GoesOn, IsWalk}
use Rattle.ms_printf.proofs.Output.{PrintedSoFar, nothing_printed, more_printed, all_done}
use Rattle.ms_printf.proofs.printing.print_rest.Goals as goal

pub parts-init : goal.parts-init
parts-init c = record {
  walk = c.requires;
  printed = λ beside meant bytes shows e. nothing_printed c.args.world.now beside meant bytes (rest_shown meant c.args.types.now c.args.words.now c.args.format) shows e;
  keeps = record { input = refl; fill = refl; slots = refl };
  made = refl;
}

pub parts-preserved-in_ok-print_part : goal.parts-preserved-in_ok-print_part
parts-preserved-in_ok-print_part c = record {
  walk = subst (λ (m : Memory). IsWalk m.table c.step.new.self) (sym c.print_part.ensures.planes) c.step.ensures.walk;
  printed = λ beside meant bytes shows e.
      let h : PrintedSoFar c.parts.world beside meant bytes (rest_shown meant c.args.types.now c.args.words.now c.parts.walk) = c.parts.invariant.printed beside meant bytes shows e in
      let after : World = record meant { output = meant.output ++ h.done } in
      let goes : GoesOn after c.args.types.now c.args.words.now c.parts.walk c.step.new.self (Some c.in-Some.part) = subst (GoesOn after c.args.types.now c.args.words.now c.parts.walk c.step.new.self) c.in-Some.is (c.in_ok-part.ensures.shown beside after h.shows) in
      more_printed c.parts.world c.print_part.new.world beside meant bytes (rest_shown meant c.args.types.now c.args.words.now c.parts.walk) (rest_shown meant c.args.types.now c.args.words.now c.step.new.self) c.in-Some.part h goes
      (λ bs is. c.in_ok-print_part.ensures.printed beside after bs h.shows is);
  keeps = keeps-both c.args.world.now c.parts.world c.print_part.new.world c.parts.invariant.keeps c.print_part.ensures.keeps;
  made = c.print_part.ensures.made ∙ c.parts.invariant.made;
}

pub parts-preserved : goal.parts-preserved
parts-preserved c = record {
  walk = subst (λ (m : Memory). IsWalk m.table c.step.new.self) (sym c.print_part.ensures.planes) c.step.ensures.walk;
  printed = λ beside meant bytes shows e.
      let h : PrintedSoFar c.parts.world beside meant bytes (rest_shown meant c.args.types.now c.args.words.now c.parts.walk) = c.parts.invariant.printed beside meant bytes shows e in
      let after : World = record meant { output = meant.output ++ h.done } in
      let goes : GoesOn after c.args.types.now c.args.words.now c.parts.walk c.step.new.self (Some c.in-Some.part) = subst (GoesOn after c.args.types.now c.args.words.now c.parts.walk c.step.new.self) c.in-Some.is (c.in_ok-part.ensures.shown beside after h.shows) in
      more_printed c.parts.world c.print_part.new.world beside meant bytes (rest_shown meant c.args.types.now c.args.words.now c.parts.walk) (rest_shown meant c.args.types.now c.args.words.now c.step.new.self) c.in-Some.part h goes
      (λ bs is. c.in_ok-print_part.ensures.printed beside after bs h.shows is);
  keeps = keeps-both c.args.world.now c.parts.world c.print_part.new.world c.parts.invariant.keeps c.print_part.ensures.keeps;
  made = c.print_part.ensures.made ∙ c.parts.invariant.made;
}

pub returns-clause-printed : goal.returns-clause-printed
returns-clause-printed c beside meant bytes shows e =
    let h : PrintedSoFar c.parts.world beside meant bytes (rest_shown meant c.args.types.now c.args.words.now c.parts.walk) = c.parts.invariant.printed beside meant bytes shows e in
    let after : World = record meant { output = meant.output ++ h.done } in
    all_done c.parts.world beside meant bytes (rest_shown meant c.args.types.now c.args.words.now c.parts.walk) h
    (subst (GoesOn after c.args.types.now c.args.words.now c.parts.walk c.step.new.self) c.in_default.is (c.in_ok-part.ensures.shown beside after h.shows))
