use Rattle.std.proofs.Common.{◌≡◌, ◌∙◌, ℕ, List, Ok, Err, Result, drop, sym, ap, subst, true, false, arith}
use Rattle.ms_bits.specs.declared.traps.Trap.{Trap}
use Rattle.ms_bits.specs.declared.traps.Trap.TheVariants as trap
use Rattle.ms_bits.specs.Maps.{bytes_at}
use Rattle.ms_runs.specs.declared.runs.End.TheVariants as «end»
use Rattle.ms_runs.specs.Externals.{cut_shown, formatted, prints}
use Rattle.ms_host.specs.declared.calls.Answer.{Answer}
use Rattle.ms_host.specs.declared.calls.Answer.TheVariants as answer
use Rattle.ms_host.specs.Answers.{Answered}
use Rattle.ms_host.proofs.Effects.{no-room}
use Rattle.ms_printf.specs.declared.shown.FormatFault.{FormatFault}
use Rattle.ms_printf.specs.Walks.{trap_of, Measures}
use Rattle.ms_printf.proofs.Output.{no_format, has_format, faulted, too_many, fits}
use Rattle.ms_printf.proofs.answering.answer_call.Goals as goal

pub returns-in_default-clause-answered : goal.returns-in_default-clause-answered
returns-in_default-clause-answered c beside meant shows =
    subst (λ (a : Answer). Answered beside (prints c.args.site (formatted meant c.args.types.now c.args.words.now) meant) a c.args.world.now) (sym c.ended.ensures)
    (faulted beside meant c.args.site c.args.world.now (formatted meant c.args.types.now c.args.words.now) trap.BadAddress
    (no_format meant c.args.types.now c.args.words.now c.first_word-addr.result c.first_word-addr.ensures (c.in_default.ensures.string beside meant shows)) shows)

pub returns-in-Err-clause-answered : goal.returns-in-Err-clause-answered
returns-in-Err-clause-answered c beside meant shows =
    let rest : Result (List ℕ) Trap = cut_shown meant (bytes_at meant.bytes c.first_word-addr.result c.in-Some.left) (drop 1 c.args.types.now) (drop 1 c.args.words.now) in
    let is : formatted meant c.args.types.now c.args.words.now ≡ rest = has_format meant c.args.types.now c.args.words.now c.first_word-addr.result c.in-Some.left c.first_word-addr.ensures (c.in-Some.ensures.string beside meant shows) in
    let bad : Measures (Err c.in-Err.fault) rest = subst (λ (s : Result ℕ FormatFault). Measures s rest) c.in-Err.is (c.in_ok-total.ensures beside meant shows) in
    subst (λ (a : Answer). Answered beside (prints c.args.site (formatted meant c.args.types.now c.args.words.now) meant) a c.args.world.now)
    (sym (c.ended-in-Err.ensures ∙ ap (λ (t : Trap). answer.Ended («end».Trap t c.args.site)) c.trap.ensures))
    (faulted beside meant c.args.site c.args.world.now (formatted meant c.args.types.now c.args.words.now) (trap_of c.in-Err.fault) (is ∙ bad) shows)

pub returns-then-not-has_room-clause-answered : goal.returns-then-not-has_room-clause-answered
returns-then-not-has_room-clause-answered c beside meant shows =
    let rest : Result (List ℕ) Trap = cut_shown meant (bytes_at meant.bytes c.first_word-addr.result c.in-Some.left) (drop 1 c.args.types.now) (drop 1 c.args.words.now) in
    let is : formatted meant c.args.types.now c.args.words.now ≡ rest = has_format meant c.args.types.now c.args.words.now c.first_word-addr.result c.in-Some.left c.first_word-addr.ensures (c.in-Some.ensures.string beside meant shows) in
    let no : c.has_room.result ≡ false = grind (arith, c.if-not-has_room.true) in
    let measured : Measures (Ok c.in-Ok.total) rest = subst (λ (s : Result ℕ FormatFault). Measures s rest) c.in-Ok.is (c.in_ok-total.ensures beside meant shows) in
    subst (λ (a : Answer). Answered beside (prints c.args.site (formatted meant c.args.types.now c.args.words.now) meant) a c.args.world.now) (sym c.ended-then-not-has_room.ensures)
    (too_many beside meant c.args.site c.in-Ok.total c.args.world.now (formatted meant c.args.types.now c.args.words.now) (subst (Measures (Ok c.in-Ok.total)) (sym is) measured)
    (no-room c.has_room.result _ no (c.has_room.ensures beside meant shows).1) shows)

pub returns-clause-answered : goal.returns-clause-answered
returns-clause-answered c beside meant shows =
    let rest : Result (List ℕ) Trap = cut_shown meant (bytes_at meant.bytes c.first_word-addr.result c.in-Some.left) (drop 1 c.args.types.now) (drop 1 c.args.words.now) in
    let is : formatted meant c.args.types.now c.args.words.now ≡ rest = has_format meant c.args.types.now c.args.words.now c.first_word-addr.result c.in-Some.left c.first_word-addr.ensures (c.in-Some.ensures.string beside meant shows) in
    let room : c.has_room.result ≡ true = grind (arith, c.if-not-has_room.false) in
    let measured : Measures (Ok c.in-Ok.total) rest = subst (λ (s : Result ℕ FormatFault). Measures s rest) c.in-Ok.is (c.in_ok-total.ensures beside meant shows) in
    fits beside meant c.args.site c.in-Ok.total c.print_rest.new.world (formatted meant c.args.types.now c.args.words.now) (subst (Measures (Ok c.in-Ok.total)) (sym is) measured)
    ((c.has_room.ensures beside meant shows).0 room)
    (λ bs e. c.in_ok-print_rest.ensures.printed beside meant bs shows (sym is ∙ e))
