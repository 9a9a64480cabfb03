use Rattle.std.proofs.Common.{◌≡◌, ◌<◌, ◌≤◌, ◌+◌, ◌-◌, ◌∙◌, ℕ, List, true, Some, option_map, drop, subst, arith}
use Rattle.ms_bits.specs.Maps.{bytes_at}
use Rattle.ms_ir.specs.declared.syntax.Ty.{Ty}
use Rattle.ms_runs.specs.Formats.{takes_argument, cut_of, with_piece}
use Rattle.ms_printf.specs.declared.parts.FormatPart.{FormatPart}
use Rattle.ms_printf.specs.Walks.{given, shown_of, piece_of, BeginsWith, FitsRest, IsPart}
use Rattle.ms_printf.proofs.Steps.{bad_step, plain_step, directive_step, walk_after}
use Rattle.ms_printf.proofs.walks.Walk.step.Goals as goal

pub returns-in_default-clause-shown : goal.returns-in_default-clause-shown
returns-in_default-clause-shown c beside meant shows =
    bad_step meant c.args.self.now.addr c.args.self.now.left (drop c.args.self.now.next c.args.types.now) (drop c.args.self.now.next c.args.words.now) (c.in_default.ensures.value beside meant shows)

pub returns-in_err-directive_shown-in-Directive-clause-walk : goal.returns-in_err-directive_shown-in-Directive-clause-walk
returns-in_err-directive_shown-in-Directive-clause-walk c =
    let fits : (0 < c.in-Some.len) × (c.in-Some.len ≤ c.args.self.now.left) × IsPart c.args.world.now.planes.table c.in-Some.part = subst (FitsRest c.args.world.now.planes.table c.args.self.now.left) c.in-Some.is c.part_at.ensures.fits in
    walk_after c.args.world.now.planes.table c.args.self.now c.in-Some.len (c.args.self.now.next + 1) c.requires fits.0 fits.1 (omega arith)

pub returns-in_ok-directive_shown-in-Directive-clause-walk : goal.returns-in_ok-directive_shown-in-Directive-clause-walk
returns-in_ok-directive_shown-in-Directive-clause-walk c =
    let fits : (0 < c.in-Some.len) × (c.in-Some.len ≤ c.args.self.now.left) × IsPart c.args.world.now.planes.table c.in-Some.part = subst (FitsRest c.args.world.now.planes.table c.args.self.now.left) c.in-Some.is c.part_at.ensures.fits in
    walk_after c.args.world.now.planes.table c.args.self.now c.in-Some.len (c.args.self.now.next + 1) c.requires fits.0 fits.1 (omega arith)

pub returns-in-Plain-clause-walk : goal.returns-in-Plain-clause-walk
returns-in-Plain-clause-walk c =
    let fits : (0 < c.in-Some.len) × (c.in-Some.len ≤ c.args.self.now.left) × IsPart c.args.world.now.planes.table c.in-Some.part = subst (FitsRest c.args.world.now.planes.table c.args.self.now.left) c.in-Some.is c.part_at.ensures.fits in
    walk_after c.args.world.now.planes.table c.args.self.now c.in-Some.len c.args.self.now.next c.requires fits.0 fits.1 (omega arith)

pub returns-in-Plain-clause-shown : goal.returns-in-Plain-clause-shown
returns-in-Plain-clause-shown c beside meant shows =
    let begins : BeginsWith meant c.args.self.now.addr c.args.self.now.left (Some (c.in-Some.part, c.in-Some.len)) = subst (BeginsWith meant c.args.self.now.addr c.args.self.now.left) c.in-Some.is (c.part_at.ensures.value beside meant shows) in
    plain_step meant c.args.self.now.addr c.args.self.now.left c.in-Some.len (bytes_at meant.bytes c.in-Plain.addr c.in-Plain.len) (drop c.args.self.now.next c.args.types.now) (drop c.args.self.now.next c.args.words.now)
    (subst (λ (p : FormatPart). cut_of (bytes_at meant.bytes c.args.self.now.addr c.args.self.now.left) ≡ with_piece (piece_of meant p) (cut_of (bytes_at meant.bytes (c.args.self.now.addr + c.in-Some.len) (c.args.self.now.left - c.in-Some.len)))) c.in-Plain.is begins)

pub returns-in_ok-directive_shown-in-Directive-clause-shown : goal.returns-in_ok-directive_shown-in-Directive-clause-shown
returns-in_ok-directive_shown-in-Directive-clause-shown c beside meant shows =
    let fits : (0 < c.in-Some.len) × (c.in-Some.len ≤ c.args.self.now.left) × IsPart c.args.world.now.planes.table c.in-Some.part = subst (FitsRest c.args.world.now.planes.table c.args.self.now.left) c.in-Some.is c.part_at.ensures.fits in
    let takes : takes_argument c.in-Directive.piece ≡ true = subst (IsPart c.args.world.now.planes.table) c.in-Directive.is fits.2 in
    let begins : BeginsWith meant c.args.self.now.addr c.args.self.now.left (Some (c.in-Some.part, c.in-Some.len)) = subst (BeginsWith meant c.args.self.now.addr c.args.self.now.left) c.in-Some.is (c.part_at.ensures.value beside meant shows) in
    directive_step meant c.args.self.now.addr c.args.self.now.left c.in-Some.len c.args.self.now.next c.in-Directive.piece (option_map {U = Ty × ℕ} given c.argument_at-argument.result)
    (shown_of meant c.in_ok-directive_shown-in-Directive.field-0) c.args.types.now c.args.words.now takes
    (subst (λ (p : FormatPart). cut_of (bytes_at meant.bytes c.args.self.now.addr c.args.self.now.left) ≡ with_piece (piece_of meant p) (cut_of (bytes_at meant.bytes (c.args.self.now.addr + c.in-Some.len) (c.args.self.now.left - c.in-Some.len)))) c.in-Directive.is begins)
    c.argument_at-argument.ensures (c.in_ok-directive_shown-in-Directive.ensures.value beside meant shows)
