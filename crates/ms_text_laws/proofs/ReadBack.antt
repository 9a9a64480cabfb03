-- What is written of a module is read as that module, and is written of no other.
use Rattle.std.proofs.Common.{◌≡◌, ℕ, ◌+◌, List, [], length, Result, Ok, sym, ap, ap₂, ◌∙◌, subst, arith}
use Rattle.ms_lex.specs.declared.kinds.Token.{Token}
use Rattle.ms_lex.specs.declared.errors.LexError.{LexError}
use Rattle.ms_lex.specs.Tokens.{tokens_of}
use Rattle.ms_lex.specs.Grammar.{done, run}
use Rattle.ms_lex.proofs.Exact.{complete}
use Rattle.ms_lex.proofs.Relations.{one_reading}
use Rattle.ms_ir.specs.declared.syntax.Module.{Module}
use Rattle.ms_ir.specs.declared.forms.Form.TheVariants.{Instrumented}
use Rattle.ms_text_grammar.specs.Lexemes.{end_of_text, lexemes_of}
use Rattle.ms_text_grammar.specs.Modules as modules
use Rattle.ms_text_grammar.specs.Texts.{ReadsUpTo, Reads, max_tokens}
use Rattle.ms_check_valid.specs.Formed.{Formed}
use Rattle.ms_text_grammar.specs.LayoutPieces.{tokens_in}
use Rattle.ms_text_grammar.specs.LayoutApart.{spans}
use Rattle.ms_text_grammar.specs.LayoutModules.{module_pieces, written}
use Rattle.ms_text_grammar.proofs.CutBack.{tokens_back, lexemes_back}
use Rattle.ms_text_grammar.proofs.WholeModules.{module_apart}
use Rattle.ms_text_laws.specs.Fits.{FitsForm, FitsText}
use Rattle.ms_text_laws.proofs.Limited.{Limits, standard, module_rule}
use Rattle.ms_text_laws.proofs.Standard.{same_rule}
use Rattle.ms_text_laws.proofs.Fits.{module_fits}
use Rattle.ms_text_laws.proofs.StandardLimits.{fits_within, uniform, large_enough}
use Rattle.ms_text_laws.proofs.Modules.{module_taken}

reads_back : (m : Module) → Formed m → FitsForm m → ReadsUpTo (modules.module_rule Instrumented) (tokens_in (module_pieces m)) m []
reads_back m formed h =
    subst (λ g. ReadsUpTo g (tokens_in (module_pieces m)) m []) same_rule
    (module_taken standard m (module_fits standard m formed (fits_within m formed h))).reads

pub runs_back : (m : Module) → Formed m → FitsForm m → run end_of_text (modules.module_rule Instrumented) (tokens_in (module_pieces m)) ≡ done m []
runs_back m formed h = complete end_of_text (modules.module_rule Instrumented) (tokens_in (module_pieces m)) m [] (reads_back m formed h)

pub text_back : (m : Module) → Formed m → FitsText m → Reads Instrumented (written m) m
unfolding written
text_back m formed h =
    let apart = module_apart m in (
      spans 0 (module_pieces m),
      record { short = h.short; cut = tokens_back (module_pieces m) (max_tokens Instrumented) apart h.few_tokens },
      subst (λ ts. ReadsUpTo (modules.module_rule Instrumented) ts m []) (sym (lexemes_back (module_pieces m) apart)) (reads_back m formed h.form),
    )

-- ---- no two modules are written as one text

pub same_module : (m n : Module) → Formed m → Formed n → tokens_in (module_pieces m) ≡ tokens_in (module_pieces n) → m ≡ n
same_module m n p q e =
    let a = large_enough m in
    let b = large_enough n in
    let limits : Limits = uniform (a.least + b.least) in
    let first = module_taken limits m (module_fits limits m p (a.within (a.least + b.least) (omega arith))) in
    let second = module_taken limits n (module_fits limits n q (b.within (a.least + b.least) (omega arith))) in
    (one_reading end_of_text (module_rule limits) (tokens_in (module_pieces m)) m n [] [] first.reads (subst (λ ts. ReadsUpTo (module_rule limits) ts n []) (sym e) second.reads)).0

same_ok : (r s : Result (List Token) LexError) (ts us : List Token) → r ≡ s → r ≡ Ok ts → s ≡ Ok us → ts ≡ us
same_ok r s ts us e p q = cc

same_tokens : (m n : Module) → written m ≡ written n → tokens_in (module_pieces m) ≡ tokens_in (module_pieces n)
unfolding written
same_tokens m n e =
    let limit : ℕ = length (module_pieces m) + length (module_pieces n) in
    let first = tokens_back (module_pieces m) limit (module_apart m) (omega arith) in
    let second = tokens_back (module_pieces n) limit (module_apart n) (omega arith) in
    let cut : spans 0 (module_pieces m) ≡ spans 0 (module_pieces n) = same_ok (tokens_of (written m) limit) (tokens_of (written n) limit) _ _ (ap (λ text. tokens_of text limit) e) first second in
    sym (lexemes_back (module_pieces m) (module_apart m)) ∙ ap₂ lexemes_of e cut ∙ lexemes_back (module_pieces n) (module_apart n)

pub same_text : (m n : Module) → Formed m → Formed n → written m ≡ written n → m ≡ n
same_text m n p q e = same_module m n p q (same_tokens m n e)
