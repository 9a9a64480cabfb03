use Rattle.std.proofs.Common.{◌∙◌, ◌%◌, ◌^◌, ◌<◌, ℕ, List, ap, refl, sym, subst, Some, None, get_or, IfOk}
use Rattle.ms_bits.specs.WordFunctions.{bits_of, word_answer}
use Rattle.ms_ir.specs.declared.calls.External.{External}
use Rattle.ms_runs.specs.Externals.{external as external_of, malloc, realloc, assumed, unknown_size}
use Rattle.ms_runs.specs.World.{Effect, gives}
use Rattle.ms_host.specs.declared.calls.Answer.TheVariants as answer
use Rattle.ms_host.specs.Answers.{Answered, strlen_of}
use Rattle.ms_host.proofs.Effects.{filled-by}
use Rattle.ms_host.proofs.worlds.World.answer_external.Goals as goal

pub returns-in-Malloc-clause-answered : goal.returns-in-Malloc-clause-answered
returns-in-Malloc-clause-answered c = λ given types beside world fill shows.
    let P : Effect → Type 0 = λ e. IfOk c.malloc.result (λ a. Answered beside e a c.malloc.new.self) in
    subst (λ (e : External). P (external_of given c.args.site e types c.args.args.now world)) (sym c.in-Malloc.is)
    (subst (λ (x : ℕ). P (malloc given.fill x world)) c.word-a.ensures
    (subst (λ (f : List ℕ). P (malloc f c.word-a.result world)) fill
    (c.malloc.ensures.answered beside world shows)))

pub returns-in-Realloc-clause-answered : goal.returns-in-Realloc-clause-answered
returns-in-Realloc-clause-answered c = λ given types beside world fill shows.
    let P : Effect → Type 0 = λ e. IfOk c.realloc.result (λ a. Answered beside e a c.realloc.new.self) in
    subst (λ (e : External). P (external_of given c.args.site e types c.args.args.now world)) (sym c.in-Realloc.is)
    (subst (λ (x : ℕ). P (realloc given.fill c.args.site x (get_or c.args.args.now 1 0) world)) c.word-a.ensures
    (subst (λ (x : ℕ). P (realloc given.fill c.args.site c.word-a.result x world)) c.word-b.ensures
    (subst (λ (f : List ℕ). P (realloc f c.args.site c.word-a.result c.word-b.result world)) fill
    (c.realloc.ensures.answered beside world shows))))

pub returns-in-Memset-clause-answered : goal.returns-in-Memset-clause-answered
returns-in-Memset-clause-answered c = λ given types beside world fill shows.
    subst (λ (e : External). Answered beside (external_of given c.args.site e types c.args.args.now world) c.filled.result c.filled.new.self) (sym c.in-Memset.is)
    (filled-by beside c.args.site c.word-a.result _ c.low_byte.result _ c.word-c.result _ (Some c.word-a.result) _ world c.filled.result c.filled.new.self c.word-a.ensures (c.low_byte.ensures ∙ ap (λ (x : ℕ). x % 256) c.word-b.ensures) c.word-c.ensures (ap Some c.word-a.ensures)
    (c.filled.ensures.answered beside world shows))

pub returns-in-LlvmMemset-clause-answered : goal.returns-in-LlvmMemset-clause-answered
returns-in-LlvmMemset-clause-answered c = λ given types beside world fill shows.
    subst (λ (e : External). Answered beside (external_of given c.args.site e types c.args.args.now world) c.filled-in-LlvmMemset.result c.filled-in-LlvmMemset.new.self) (sym c.in-LlvmMemset.is)
    (filled-by beside c.args.site c.word-a.result _ c.low_byte-in-LlvmMemset.result _ c.word-c.result _ None None world c.filled-in-LlvmMemset.result c.filled-in-LlvmMemset.new.self c.word-a.ensures (c.low_byte-in-LlvmMemset.ensures ∙ ap (λ (x : ℕ). x % 256) c.word-b.ensures) c.word-c.ensures refl
    (c.filled-in-LlvmMemset.ensures.answered beside world shows))

pub returns-in-Strlen-clause-answered : goal.returns-in-Strlen-clause-answered
returns-in-Strlen-clause-answered c = λ given types beside world fill shows.
    subst (λ (e : External). Answered beside (external_of given c.args.site e types c.args.args.now world) c.strlen.result c.args.self.now) (sym c.in-Strlen.is)
    (subst (λ (x : ℕ). Answered beside (strlen_of c.args.site x world) c.strlen.result c.args.self.now) c.word-a.ensures (c.strlen.ensures beside world shows))

pub returns-in-LlvmAssume-clause-answered : goal.returns-in-LlvmAssume-clause-answered
returns-in-LlvmAssume-clause-answered c = λ given types beside world fill shows.
    subst (λ (e : External). Answered beside (external_of given c.args.site e types c.args.args.now world) c.assumed.result c.args.self.now) (sym c.in-LlvmAssume.is)
    (subst (λ (x : ℕ). Answered beside (assumed c.args.site x world) c.assumed.result c.args.self.now) c.word-a.ensures (c.assumed.ensures beside world c.args.self.now shows))

pub returns-in-LlvmObjectSize-clause-answered : goal.returns-in-LlvmObjectSize-clause-answered
returns-in-LlvmObjectSize-clause-answered c = λ given types beside world fill shows.
    subst (λ (e : External). Answered beside (external_of given c.args.site e types c.args.args.now world) (answer.Resumed (Some c.unknown_size.result)) c.args.self.now) (sym c.in-LlvmObjectSize.is)
    (c.unknown_size.ensures ∙ ap unknown_size c.word-b.ensures, shows)

pub worded-requires : goal.worded-requires
worded-requires c = subst (λ (x : ℕ). x < 2 ^ bits_of c.in-Word.width) (sym c.word-a.ensures) (c.requires.word c.in-Word.function c.in-Word.width c.in-Word.is)

pub returns-in-Word-clause-answered : goal.returns-in-Word-clause-answered
returns-in-Word-clause-answered c = λ given types beside world fill shows.
    let args = c.args.args.now in
    let P : ℕ → ℕ → ℕ → Type 0 = λ x y z. Answered beside (gives c.args.site (word_answer c.in-Word.function (bits_of c.in-Word.width) x y z) world) c.worded.result c.args.self.now in
    subst (λ (e : External). Answered beside (external_of given c.args.site e types args world) c.worded.result c.args.self.now) (sym c.in-Word.is)
    (subst (λ (x : ℕ). P x (get_or args 1 0) (get_or args 2 0)) c.word-a.ensures
    (subst (λ (y : ℕ). P c.word-a.result y (get_or args 2 0)) c.word-b.ensures
    (subst (λ (z : ℕ). P c.word-a.result c.word-b.result z) c.word-c.ensures
    (c.worded.ensures beside world c.args.self.now shows))))
