-- The operands of the instructions of a body: one for each token at most.
use Rattle.std.proofs.Common.{◌≡◌, ◌≤◌, ℕ, ◌+◌, Bool, true, false, cond, List, [], ◌∷◌, ◌++◌, length, Option, Some, None, ap, arith}
use Rattle.ms_bits.specs.declared.operations.BinOp.{BinOp}
use Rattle.ms_bits.specs.declared.operations.CastOp.{CastOp}
use Rattle.ms_lex.specs.Grammar.{give, one, ◌>>=◌, ◌>>◌}
use Rattle.ms_ir.specs.Instructions.{over_insts, over_blocks}
use Rattle.ms_ir.specs.declared.syntax.Block.{Block}
use Rattle.ms_ir.specs.declared.syntax.Inst.{Inst}
use Rattle.ms_ir.specs.declared.syntax.Name.{Name}
use Rattle.ms_ir.specs.declared.syntax.Op.{Op}
use Rattle.ms_ir.specs.declared.forms.Form.{Form}
use Rattle.ms_text_grammar.specs.declared.states.BodySoFar.{BodySoFar}
use Rattle.ms_text_grammar.specs.declared.symbols.Symbol.{Symbol}
use Rattle.ms_text_grammar.specs.declared.symbols.Symbol.TheVariants as s
use Rattle.ms_text_grammar.specs.Lexemes.{Lexeme}
use Rattle.ms_text_grammar.specs.Steps.{Rule, refuse, word, binary_op, cast_op}
use Rattle.ms_text_grammar.specs.Insts.{Marked, with_suffixes, gep_rule, alloca_rule, call_rule, phi_rule}
use Rattle.ms_text_grammar.specs.Bodies.{is_open, opened, opened_by, name_or, line_begins, with_value, with_effect, with_end, with_call, is_void_call}
use Rattle.ms_text_grammar.specs.Lines.{value_line, marked_line, phi_line, call_line, effect_line, end_line, instruction_by, operation_by, instruction, value_word_of, named_line, record_line, line_by, line, is_whole, blocks}
use Rattle.ms_text_grammar.specs.Texts.{ReadsUpTo}
use Rattle.ms_text_grammar.proofs.Bounds.{no_value, record_line_is}
use Rattle.ms_text_laws.proofs.CountedTurns.{left, turns_fall}
use Rattle.ms_text_laws.proofs.CountedOps.{arity, count_operands, Few, binary_few, compare_few, cast_few, select_few, freeze_few, load_few, store_few, branch_few, switch_few, ret_few, unreachable_few, Counted, suffixed, gep_counted, alloca_counted, call_counted, phi_counted}

insts_more : (xs : List Inst) (x : Inst) → over_insts count_operands (xs ++ x ∷ []) ≡ over_insts count_operands xs + count_operands x
insts_more [] x = omega arith
insts_more (y ∷ xs) x = let rest = insts_more xs x in omega (arith, rest)

blocks_more : (bs : List Block) (b : Block) → over_blocks count_operands (bs ++ b ∷ []) ≡ over_blocks count_operands bs + over_insts count_operands b.insts
blocks_more [] b = omega arith
blocks_more (c ∷ bs) b = let rest = blocks_more bs b in omega (arith, rest)

-- the operands in a body so far
abbrev pub operands_in : BodySoFar → ℕ
operands_in b = over_blocks count_operands b.blocks + over_insts count_operands b.insts

-- ---- one instruction more

module _ (a : BodySoFar) where
  -- what takes an operation into the body
  abbrev Adds : (Marked → BodySoFar) → Type 0
  Adds add = (m : Marked) → operands_in (add m) ≡ operands_in a + arity m.0

  value_adds : (result : Option Name) (phis : Bool) → Adds (with_value a result phis)
  value_adds result phis m =
      let more = insts_more a.insts (record { op = m.0; result = Some (name_or result a.next); marked = m.1 }) in
      omega (arith, more)

  effect_adds : Adds (with_effect a)
  effect_adds m =
      let more = insts_more a.insts (record { op = m.0; result = None; marked = m.1 }) in
      omega (arith, more)

  end_adds : Adds (with_end a)
  end_adds m =
      let last : Inst = record { op = m.0; result = None; marked = m.1 } in
      let more = insts_more a.insts last in
      let all = blocks_more a.blocks (record { name = name_or a.name 0; insts = a.insts ++ last ∷ [] }) in
      omega (arith, more, all)

  call_adds_by : (void : Bool) (result : Option Name) (m : Marked) → operands_in (cond void (with_effect a m) (with_value a result false m)) ≡ operands_in a + arity m.0
  call_adds_by true result m = effect_adds m
  call_adds_by false result m = value_adds result false m

  call_adds : (result : Option Name) → Adds (with_call a result)
  call_adds result m = call_adds_by (is_void_call m.0) result m

  -- ---- one line

  module _ (form : Form) (ts : List Lexeme) (v : BodySoFar) (rest : List Lexeme) where
    abbrev Grown : Type 0
    Grown = operands_in v + length rest ≤ operands_in a + 1 + length ts

    grown : (add : Marked → BodySoFar) → Adds add → (rule : Rule Marked) → Counted rule → ReadsUpTo (rule >>= λ m. give (add m)) ts v rest → Grown
    grown add adds rule counted h =
        let few = counted ts h.0 h.1 h.2 in
        let more = adds h.0 in
        let same = ap operands_in h.3.0 in
        let fewer = left (give (add h.0)) h.1 v rest h.3 in
        omega (arith, few, more, same, fewer)

    value_line_grown : (result : Option Name) (rule : Rule Op) → Few rule → ReadsUpTo (value_line form a result rule) ts v rest → Grown
    unfolding value_line
    value_line_grown result rule few h = grown (with_value a result false) (value_adds result false) (with_suffixes form rule) (suffixed form rule few) h

    marked_line_grown : (result : Option Name) (rule : Rule Marked) → Counted rule → ReadsUpTo (marked_line a result rule) ts v rest → Grown
    unfolding marked_line
    marked_line_grown result rule counted h = grown (with_value a result false) (value_adds result false) rule counted h

    phi_line_grown : (result : Option Name) → ReadsUpTo (phi_line form a result) ts v rest → Grown
    unfolding phi_line
    phi_line_grown result h = grown (with_value a result true) (value_adds result true) (phi_rule form) (phi_counted form) h

    call_line_grown : (result : Option Name) (first : Symbol) → ReadsUpTo (call_line form a result first) ts v rest → Grown
    unfolding call_line
    call_line_grown result first h = grown (with_call a result) (call_adds result) (call_rule form (is_open result) first) (call_counted form (is_open result) first) h

    effect_line_grown : (rule : Rule Op) → Few rule → ReadsUpTo (effect_line form a rule) ts v rest → Grown
    unfolding effect_line
    effect_line_grown rule few h = grown (with_effect a) effect_adds (with_suffixes form rule) (suffixed form rule few) h

    end_line_grown : (rule : Rule Op) → Few rule → ReadsUpTo (end_line form a rule) ts v rest → Grown
    unfolding end_line
    end_line_grown rule few h = grown (with_end a) end_adds (with_suffixes form rule) (suffixed form rule few) h

    by_word : (result : Option Name) (x : Symbol) → ReadsUpTo (instruction_by form a result x) ts v rest → Grown
    by_word result s.Phi h = phi_line_grown result h
    by_word result s.Icmp h = value_line_grown result _ (compare_few form) h
    by_word result s.Select h = value_line_grown result _ (select_few form) h
    by_word result s.Freeze h = value_line_grown result _ (freeze_few form) h
    by_word result s.Alloca h = marked_line_grown result (alloca_rule form) (alloca_counted form) h
    by_word result s.Load h = value_line_grown result _ (load_few form) h
    by_word result s.Store h = effect_line_grown _ (store_few form) h
    by_word result s.GetElementPtr h = marked_line_grown result (gep_rule form) (gep_counted form) h
    by_word result s.Tail h = call_line_grown result _ h
    by_word result s.MustTail h = call_line_grown result _ h
    by_word result s.NoTail h = call_line_grown result _ h
    by_word result s.Call h = call_line_grown result _ h
    by_word result s.Br h = end_line_grown _ (branch_few form) h
    by_word result s.Switch h = end_line_grown _ (switch_few form) h
    by_word result s.Ret h = end_line_grown _ (ret_few form) h
    by_word result s.Unreachable h = end_line_grown _ unreachable_few h
    by_word result x h = absurd (no_value _ v h.0)

    by_operation : (result : Option Name) (x : Symbol) (b : Option BinOp) (c : Option CastOp) → ReadsUpTo (operation_by form a result x b c) ts v rest → Grown
    by_operation result x (Some b) c h = value_line_grown result _ (binary_few form b) h
    by_operation result x None (Some c) h = value_line_grown result _ (cast_few form c) h
    by_operation result x None None h = by_word result x h

    instruction_grown : (result : Option Name) (x : Symbol) → ReadsUpTo (instruction form a result x) ts v rest → Grown
    unfolding instruction
    instruction_grown result x h = by_operation result x (binary_op x) (cast_op x) h

named_line_grown : (form : Form) (a : BodySoFar) (n : Name) (ts : List Lexeme) (v : BodySoFar) (rest : List Lexeme) → ReadsUpTo (named_line form a n) ts v rest → operands_in v + length rest ≤ operands_in a + 1 + length ts
unfolding named_line
named_line_grown form a n ts v rest h =
    let equals = left (word s.Equals) ts h.0 h.1 h.2 in
    let symbol = left (one (value_word_of a.phis)) h.1 h.3.0 h.3.1 h.3.2 in
    let after = instruction_grown a form h.3.1 v rest (Some n) h.3.0 h.3.3 in
    omega (arith, equals, symbol, after)

-- ---- a line and its first token

opened_less_by : (b : BodySoFar) (n : Option Name) → operands_in (opened_by n b) ≤ operands_in b
opened_less_by b (Some n) = omega arith
opened_less_by b None = omega arith

opened_less : (b : BodySoFar) → operands_in (opened b) ≤ operands_in b
unfolding opened
opened_less b = opened_less_by b b.name

module _ (form : Form) (b : BodySoFar) (t : Lexeme) (ts : List Lexeme) (v : BodySoFar) (rest : List Lexeme) where
  abbrev Falls : Type 0
  Falls = operands_in v + length rest ≤ operands_in b + length (t ∷ ts)

  stays : length rest ≤ length ts → operands_in v ≤ operands_in b → Falls
  stays fewer same = omega (arith, fewer, same)

  after_first : length rest ≤ length ts → operands_in v + length rest ≤ operands_in (opened b) + 1 + length ts → Falls
  after_first fewer more =
      let less = opened_less b in
      omega (arith, fewer, more, less)

  line_falls_by : (x : Symbol) → ReadsUpTo (line_by form b x t) ts v rest → Falls
  line_falls_by s.Label h = let same = ap operands_in h.0 in stays (left (line_by form b s.Label t) ts v rest h) (omega (arith, same))
  line_falls_by s.NumberedLabel h = let same = ap operands_in h.0 in stays (left (line_by form b s.NumberedLabel t) ts v rest h) (omega (arith, same))
  line_falls_by s.DebugGroup h =
      let same = ap operands_in (record_line_is form (opened b) ts v rest h) in
      let less = opened_less b in
      stays (left (record_line form (opened b)) ts v rest h) (omega (arith, same, less))
  line_falls_by s.Local h = after_first (left (line_by form b s.Local t) ts v rest h) (named_line_grown form (opened b) _ ts v rest h)
  line_falls_by s.NumberedLocal h = after_first (left (line_by form b s.NumberedLocal t) ts v rest h) (named_line_grown form (opened b) _ ts v rest h)
  line_falls_by x h = after_first (left (instruction form (opened b) None x) ts v rest h) (instruction_grown (opened b) form ts v rest None x h)

  line_falls : ReadsUpTo (line form b t) ts v rest → Falls
  unfolding line
  line_falls h = line_falls_by t.symbol h

-- ---- bodies

blocks_end : (whole : Bool) (body : BodySoFar) (ts : List Lexeme) (v : List Block) (rest : List Lexeme)
    → ReadsUpTo (cond whole (word s.CloseBrace >> give body.blocks) refuse) ts v rest → (over_blocks count_operands v ≤ operands_in body) × (length rest ≤ length ts)
blocks_end true body ts v rest h =
    let same = ap (over_blocks count_operands) h.3.0 in
    (omega (arith, same), left (word s.CloseBrace >> give body.blocks) ts v rest h)
blocks_end false body ts v rest h = absurd (no_value _ v h.0)

pub blocks_fall : (form : Form) (start : BodySoFar) (ts : List Lexeme) (v : List Block) (rest : List Lexeme)
    → ReadsUpTo (blocks form start) ts v rest → over_blocks count_operands v + length rest ≤ operands_in start + length ts
unfolding blocks
blocks_fall form start ts v rest h =
    let lines = turns_fall (line_begins form) (λ b t. ReadsUpTo (line form b t)) (λ b us. operands_in b + length us) (line_falls form) h.2.0 start ts h.0 h.1 h.2.1 in
    let end = blocks_end (is_whole h.0) h.0 h.1 v rest h.3 in
    omega (arith, lines, end.0, end.1)
