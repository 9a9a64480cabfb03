-- A module that is read has few operands: one for each token at most.
use Rattle.std.proofs.Common.{◌≡◌, ◌≤◌, ◌<◌, ◌^◌, ℕ, ◌+◌, Bool, true, false, cond, ltb, List, [], ◌∷◌, ◌++◌, length, Option, Some, None, Ok, Err, refl, ap, arith, lit≤}
use Rattle.std.proofs.lemmas.Bool.{ltb-false}
use Rattle.std.proofs.lemmas.List.{length-map}
use Rattle.ms_lex.specs.declared.errors.LexError.TheVariants.{TooManyTokens}
use Rattle.ms_lex.specs.declared.kinds.Token.{Token}
use Rattle.ms_lex.specs.Tokens.{Text, cut_of, unless_stopped, tokens_of}
use Rattle.ms_ir.specs.Instructions.{over_insts, over_blocks, over_funcs}
use Rattle.ms_ir.specs.declared.syntax.Inst.{Inst}
use Rattle.ms_ir.specs.declared.syntax.Block.{Block}
use Rattle.ms_ir.specs.declared.syntax.Func.{Func}
use Rattle.ms_ir.specs.declared.syntax.Module.{Module}
use Rattle.ms_ir.specs.declared.forms.Form.{Form}
use Rattle.ms_ir.specs.declared.forms.Form.TheVariants.{Plain, Instrumented}
use Rattle.ms_text_grammar.specs.declared.states.ModuleSoFar.{ModuleSoFar}
use Rattle.ms_text_grammar.specs.declared.symbols.Symbol.{Symbol}
use Rattle.ms_text_grammar.specs.declared.symbols.Symbol.TheVariants as s
use Rattle.ms_text_grammar.specs.Lexemes.{Lexeme, lexeme_of, lexemes_of}
use Rattle.ms_text_grammar.specs.Steps.{word}
use Rattle.ms_text_grammar.specs.Names.{global}
use Rattle.ms_text_grammar.specs.Types.{result_type}
use Rattle.ms_text_grammar.specs.Bodies.{max_instructions}
use Rattle.ms_text_grammar.specs.Bounds.{instructions_among, WithinLimits}
use Rattle.ms_text_grammar.specs.Functions.{parameters, linkage, function_tail, body_after, function}
use Rattle.ms_text_grammar.specs.Modules.{entity_begins, entity, entity_by, no_parts, module_rule}
use Rattle.ms_text_grammar.specs.Texts.{HasTokens, Reads, ReadsUpTo, max_tokens}
use Rattle.ms_text_grammar.proofs.Bounds.{module_within}
use Rattle.ms_check_valid.specs.Formed.{count_written}
use Rattle.ms_text_laws.proofs.Fits.{counted_blocks}
use Rattle.ms_text_laws.proofs.CountedTurns.{left, turns_fall}
use Rattle.ms_text_laws.proofs.CountedOps.{count_operands}
use Rattle.ms_text_laws.proofs.CountedBodies.{blocks_fall}

-- ---- functions

function_falls : (form : Form) (before : ℕ) (ts : List Lexeme) (f : Func) (rest : List Lexeme)
    → ReadsUpTo (function form before) ts f rest → over_blocks count_operands f.blocks + length rest ≤ length ts
unfolding function
function_falls form before ts f rest h =
    let resulting = h.3 in
    let named = resulting.3 in
    let opened = named.3 in
    let with_parameters = opened.3 in
    let with_tail = with_parameters.3 in
    let braced = with_tail.3 in
    let body = braced.3 in
    let linkage_left = left (linkage form) ts h.0 h.1 h.2 in
    let result_left = left result_type h.1 resulting.0 resulting.1 resulting.2 in
    let name_left = left (global form) resulting.1 named.0 named.1 named.2 in
    let paren_left = left (word s.OpenParen) named.1 opened.0 opened.1 opened.2 in
    let parameters_left = left (parameters form false) opened.1 with_parameters.0 with_parameters.1 with_parameters.2 in
    let tail_left = left (function_tail form) with_parameters.1 with_tail.0 with_tail.1 with_tail.2 in
    let brace_left = left (word s.OpenBrace) with_tail.1 braced.0 braced.1 braced.2 in
    let all = blocks_fall form (body_after with_parameters.0 before) braced.1 body.0 body.1 body.2 in
    let same = ap (λ g. over_blocks count_operands g.blocks) body.3.0 in
    let end = ap length body.3.1 in
    omega (arith, linkage_left, result_left, name_left, paren_left, parameters_left, tail_left, brace_left, all, same, end)

-- ---- modules

funcs_more : (fs : List Func) (f : Func) → over_funcs count_operands (fs ++ f ∷ []) ≡ over_funcs count_operands fs + over_blocks count_operands f.blocks
funcs_more [] f = omega arith
funcs_more (g ∷ fs) f = let rest = funcs_more fs f in omega (arith, rest)

-- the operands of the functions so far
abbrev operands_of : ModuleSoFar → ℕ
operands_of p = over_funcs count_operands p.«module».funcs

module _ (form : Form) (p : ModuleSoFar) (t : Lexeme) (ts : List Lexeme) (v : ModuleSoFar) (rest : List Lexeme) where
  abbrev Falls : Type 0
  Falls = operands_of v + length rest ≤ operands_of p + length (t ∷ ts)

  stays : length rest ≤ length ts → operands_of v ≡ operands_of p → Falls
  stays fewer same = omega (arith, fewer, same)

  entity_falls_by : (x : Symbol) → ReadsUpTo (entity_by form p x t) ts v rest → Falls
  entity_falls_by s.Local h = stays (left (entity_by form p s.Local t) ts v rest h) (ap operands_of h.3.0)
  entity_falls_by s.NumberedLocal h = stays (left (entity_by form p s.NumberedLocal t) ts v rest h) (ap operands_of h.3.0)
  entity_falls_by s.Global h = stays (left (entity_by form p s.Global t) ts v rest h) (ap operands_of h.3.0)
  entity_falls_by s.Declare h = stays (left (entity_by form p s.Declare t) ts v rest h) (ap operands_of h.3.0)
  entity_falls_by s.Define h =
      let all = function_falls form p.count ts h.0 h.1 h.2 in
      let more = funcs_more p.«module».funcs h.0 in
      let same = ap operands_of h.3.0 in
      let end = ap length h.3.1 in
      omega (arith, all, more, same, end)
  entity_falls_by x h = stays (left (entity_by form p x t) ts v rest h) (ap operands_of h.3.0)

  entity_falls : ReadsUpTo (entity form p t) ts v rest → Falls
  unfolding entity
  entity_falls h = entity_falls_by t.symbol h

module_falls : (form : Form) (ts : List Lexeme) (m : Module) (rest : List Lexeme) → ReadsUpTo (module_rule form) ts m rest → over_funcs count_operands m.funcs ≤ length ts
unfolding module_rule
module_falls form ts m rest h =
    let entities = turns_fall (entity_begins form) (λ p t. ReadsUpTo (entity form p t)) (λ p us. operands_of p + length us) (entity_falls form) h.2.0 no_parts ts h.0 h.1 h.2.1 in
    let same = ap (λ n. over_funcs count_operands n.funcs) h.3.3.0 in
    omega (arith, entities, same)

-- ---- texts

not_more : (limit : ℕ) (text : Text) (ts : List Token) (stop : Option ℕ) (found : List Token) (b : Bool) → ltb limit (length ts) ≡ b
    → cond b (Err TooManyTokens) (unless_stopped text ts stop) ≡ Ok found → length found ≤ limit
not_more limit text ts stop found true e h = absurd cc
not_more limit text ts None found false e h =
    let same : ts ≡ found = cc in
    let most = ltb-false limit (length ts) e in
    omega (arith, ap length same)
not_more limit text ts (Some place) found false e h = absurd cc

few_tokens : (form : Form) (text : Text) (tokens : List Token) → HasTokens form text tokens → length tokens ≤ max_tokens form
unfolding tokens_of
few_tokens form text tokens has =
    not_more (max_tokens form) text (cut_of text).tokens (cut_of text).stop tokens (ltb (max_tokens form) (length (cut_of text).tokens)) refl has.cut

pub few_operands : (form : Form) (text : Text) (m : Module) → Reads form text m → over_funcs count_operands m.funcs ≤ max_tokens form
few_operands form text m h =
    let all = module_falls form (lexemes_of text h.0) m [] h.2 in
    let same = length-map h.0 (lexeme_of text) in
    let few = few_tokens form text h.0 h.1 in
    omega (arith, all, same, few)

-- ---- instructions and their operands together

written_insts : (insts : List Inst) → over_insts count_written insts ≡ over_insts (λ inst. 1) insts + over_insts count_operands insts
written_insts [] = refl
written_insts (inst ∷ insts) = let rest = written_insts insts in omega (arith, rest)

written_blocks : (bs : List Block) → over_blocks count_written bs ≡ over_blocks (λ inst. 1) bs + over_blocks count_operands bs
written_blocks [] = refl
written_blocks (b ∷ bs) = let first = written_insts b.insts in let rest = written_blocks bs in omega (arith, first, rest)

written_funcs : (fs : List Func) → over_funcs count_written fs ≡ over_funcs (λ inst. 1) fs + over_funcs count_operands fs
written_funcs [] = refl
written_funcs (f ∷ fs) = let first = written_blocks f.blocks in let rest = written_funcs fs in omega (arith, first, rest)

pub counted_funcs : (fs : List Func) → over_funcs (λ inst. 1) fs ≡ instructions_among fs
counted_funcs [] = refl
counted_funcs (f ∷ fs) = let first = counted_blocks f.blocks in let rest = counted_funcs fs in omega (arith, first, rest)

most_tokens : (form : Form) → max_tokens form ≤ 2 ^ 25
unfolding max_tokens
most_tokens Plain = lit≤ tt
most_tokens Instrumented = lit≤ tt

most_instructions : (form : Form) → max_instructions form ≤ 2 ^ 22
unfolding max_instructions
most_instructions Plain = lit≤ tt
most_instructions Instrumented = lit≤ tt

pub few_written : (form : Form) (text : Text) (m : Module) → Reads form text m → over_funcs count_written m.funcs < 2 ^ 30
few_written form text m h =
    let all = written_funcs m.funcs in
    let operands = few_operands form text m h in
    let tokens = most_tokens form in
    let insts = counted_funcs m.funcs in
    let bounds : WithinLimits form m = module_within form text m h in
    let few = bounds.instructions in
    let most = most_instructions form in
    omega (arith, all, operands, tokens, insts, few, most)
