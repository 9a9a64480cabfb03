-- What a written text comes to whatever its size: the module that was written, or a refusal that names a limit.
use Rattle.std.proofs.Common.{◌≡◌, ◌⊎◌, inl, inr, ℕ, ◌+◌, ◌^◌, Bool, true, false, cond, List, [], length, Result, Ok, Err, refl, ap, ◌∙◌, subst, arith}
use Rattle.std.specs.Prelude.{nat_lt}
use Rattle.ms_lex.specs.declared.errors.LexError.{LexError}
use Rattle.ms_lex.specs.declared.errors.LexError.TheVariants.{TooManyTokens}
use Rattle.ms_lex.specs.declared.kinds.Token.{Token}
use Rattle.ms_lex.specs.Tokens.{cut_of, tokens_of, unless_stopped}
use Rattle.ms_lex.specs.Grammar.{Outcome, done, fails, run}
use Rattle.ms_lex.proofs.Exact.{complete, stop_complete}
use Rattle.ms_ir.specs.declared.forms.Form.TheVariants.{Instrumented}
use Rattle.ms_ir.specs.declared.syntax.Module.{Module}
use Rattle.ms_text_grammar.specs.declared.refusals.Cause.{Cause}
use Rattle.ms_text_grammar.specs.Lexemes.{Lexeme, end_of_text, lexemes_of}
use Rattle.ms_text_grammar.specs.Modules as modules
use Rattle.ms_text_grammar.specs.Texts.{Reads, ReadsUpTo, Stops, StopsAt, max_tokens}
use Rattle.ms_check_valid.specs.Formed.{Formed}
use Rattle.ms_text_grammar.specs.LayoutApart.{spans}
use Rattle.ms_text_grammar.specs.LayoutModules.{module_pieces, written}
use Rattle.ms_text_grammar.specs.LayoutPieces.{tokens_in}
use Rattle.ms_text_grammar.proofs.CutBack.{tokens_back, lexemes_back}
use Rattle.ms_text_grammar.proofs.WholeModules.{module_apart}
use Rattle.ms_text_laws.specs.Fits.{NamesLimit}
use Rattle.ms_text_laws.proofs.Agreeing.{Agrees}
use Rattle.ms_text_laws.proofs.LargerBodies.{module_looser}
use Rattle.ms_text_laws.proofs.LargerLimits.{NoMore}
use Rattle.ms_text_laws.proofs.Limited.{Limits, standard, module_rule}
use Rattle.ms_text_laws.proofs.Fits.{module_fits}
use Rattle.ms_text_laws.proofs.Modules.{module_taken}
use Rattle.ms_text_laws.proofs.Standard.{same_rule}
use Rattle.ms_text_laws.proofs.StandardLimits.{uniform, large_enough}

-- ---- its tokens

-- with fewer tokens allowed a text has the same tokens, or too many
cut_or_many : (b d : Bool) (v : Result (List Token) LexError) (ts : List Token) → cond b (Err TooManyTokens) v ≡ Ok ts → (cond d (Err TooManyTokens) v ≡ Ok ts) ⊎ (cond d (Err TooManyTokens) v ≡ Err TooManyTokens)
cut_or_many true d v ts h = absurd cc
cut_or_many false true v ts h = inr refl
cut_or_many false false v ts h = inl h

tokens_or_many : (m : Module) → (tokens_of (written m) (max_tokens Instrumented) ≡ Ok (spans 0 (module_pieces m))) ⊎ (tokens_of (written m) (max_tokens Instrumented) ≡ Err TooManyTokens)
unfolding written tokens_of
tokens_or_many m =
    cut_or_many (nat_lt (length (module_pieces m)) (length (cut_of (written m)).tokens)) (nat_lt (max_tokens Instrumented) (length (cut_of (written m)).tokens))
    (unless_stopped (written m) (cut_of (written m)).tokens (cut_of (written m)).stop) (spans 0 (module_pieces m))
    (tokens_back (module_pieces m) (length (module_pieces m)) (module_apart m) (omega arith))

-- a text of too many tokens has no other fault
pub written_cut : (m : Module) (e : LexError) → tokens_of (written m) (max_tokens Instrumented) ≡ Err e → e ≡ TooManyTokens
written_cut m e h = by_cut (tokens_of (written m) (max_tokens Instrumented)) h (tokens_or_many m)
  where
    by_cut : (o : Result (List Token) LexError) → o ≡ Err e → (o ≡ Ok (spans 0 (module_pieces m))) ⊎ (o ≡ Err TooManyTokens) → e ≡ TooManyTokens
    by_cut o h (inl good) = absurd cc
    by_cut o h (inr many) = cc

own_lexemes : (m : Module) → lexemes_of (written m) (spans 0 (module_pieces m)) ≡ tokens_in (module_pieces m)
unfolding written
own_lexemes m = lexemes_back (module_pieces m) (module_apart m)

module _ (m : Module) (formed : Formed m) where
  -- limits that are large enough for it, and no less than the usual ones
  enough : ℕ
  enough = (large_enough m).least + 2 ^ 32

  large : Limits
  large = uniform enough

  no_more : NoMore standard large
  unfolding large enough
  no_more = record {
    names = omega arith;
    depth = omega arith;
    indices = omega arith;
    parameters = omega arith;
    instructions = omega arith;
    functions = omega arith;
    globals = omega arith;
    numbers = omega arith;
  }

  large_done : run end_of_text (module_rule large) (tokens_in (module_pieces m)) ≡ done m []
  unfolding large enough
  large_done = complete end_of_text (module_rule large) (tokens_in (module_pieces m)) m [] (module_taken large m (module_fits large m formed ((large_enough m).within enough (omega arith)))).reads

  -- its lexemes are read as the module, or refused for a limit
  comes_to : Agrees (run end_of_text (modules.module_rule Instrumented) (tokens_in (module_pieces m))) (done m [])
  comes_to =
      subst (λ g. Agrees (run end_of_text g (tokens_in (module_pieces m))) (done m [])) same_rule
      (subst (Agrees (run end_of_text (module_rule standard) (tokens_in (module_pieces m)))) large_done ((module_looser standard large no_more).each (tokens_in (module_pieces m))))

  -- the lexemes of any tokens that it has
  these_lexemes : (ts : List Token) → tokens_of (written m) (max_tokens Instrumented) ≡ Ok ts → lexemes_of (written m) ts ≡ tokens_in (module_pieces m)
  these_lexemes ts h = by_cut (tokens_of (written m) (max_tokens Instrumented)) h (tokens_or_many m)
    where
      by_cut : (o : Result (List Token) LexError) → o ≡ Ok ts → (o ≡ Ok (spans 0 (module_pieces m))) ⊎ (o ≡ Err TooManyTokens) → lexemes_of (written m) ts ≡ tokens_in (module_pieces m)
      by_cut o h (inl good) = let same : ts ≡ spans 0 (module_pieces m) = cc in ap (lexemes_of (written m)) same ∙ own_lexemes m
      by_cut o h (inr many) = absurd cc

  done_as : (o : Outcome Lexeme Cause Module) (k : Module) → o ≡ done k [] → Agrees o (done m []) → k ≡ m
  done_as o k h (inl good) = cc
  done_as o k h (inr (e, rest, limit, bad)) = absurd cc

  fails_as : (o : Outcome Lexeme Cause Module) (e : Cause) (rest : List Lexeme) → o ≡ fails e rest → Agrees o (done m []) → NamesLimit e
  fails_as o e rest h (inl good) = absurd cc
  fails_as o e rest h (inr (d, more, limit, bad)) = let same : d ≡ e = cc in subst NamesLimit same limit

  -- it reads as no other module
  pub written_reads : (k : Module) → Reads Instrumented (written m) k → k ≡ m
  written_reads k (ts, has, reads) =
      done_as (run end_of_text (modules.module_rule Instrumented) (tokens_in (module_pieces m))) k
      (complete end_of_text (modules.module_rule Instrumented) (tokens_in (module_pieces m)) k [] (subst (λ xs. ReadsUpTo (modules.module_rule Instrumented) xs k []) (these_lexemes ts has.cut) reads)) comes_to

  -- where it stops, it is for a limit
  pub written_stops : (k : ℕ) (e : Cause) → Stops Instrumented (written m) k e → NamesLimit e
  written_stops k e (ts, has, (rest, at, stops)) =
      fails_as (run end_of_text (modules.module_rule Instrumented) (tokens_in (module_pieces m))) e rest
      (stop_complete end_of_text (modules.module_rule Instrumented) (tokens_in (module_pieces m)) e rest (subst (λ xs. StopsAt (modules.module_rule Instrumented) xs e rest) (these_lexemes ts has.cut) stops)) comes_to
