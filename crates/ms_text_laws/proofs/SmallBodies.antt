-- Bodies that are read keep the limits, line by line.
use Rattle.std.proofs.Common.{◌≡◌, ℕ, Bool, true, false, cond, ◌&&◌, [], ◌∷◌, ◌++◌, Option, Some, None, Ok, refl, sym, subst}
use Rattle.std.specs.List.{list_all}
use Rattle.std.proofs.lemmas.Bool.{and_from}
use Rattle.ms_bits.specs.declared.operations.BinOp.{BinOp}
use Rattle.ms_bits.specs.declared.operations.CastOp.{CastOp}
use Rattle.ms_lex.specs.Grammar.{give}
use Rattle.ms_ir.specs.declared.syntax.Block.{Block}
use Rattle.ms_ir.specs.declared.syntax.Inst.{Inst}
use Rattle.ms_ir.specs.declared.syntax.Name.{Name}
use Rattle.ms_ir.specs.declared.syntax.Name.TheVariants as name
use Rattle.ms_ir.specs.declared.syntax.Op.{Op}
use Rattle.ms_ir.specs.declared.syntax.Op.TheVariants as op
use Rattle.ms_ir.specs.declared.forms.Form.{Form}
use Rattle.ms_text_grammar.specs.declared.states.BodySoFar.{BodySoFar}
use Rattle.ms_text_grammar.specs.declared.symbols.Symbol.{Symbol}
use Rattle.ms_text_grammar.specs.declared.symbols.Symbol.TheVariants as s
use Rattle.ms_text_grammar.specs.Lexemes.{Lexeme, name_in}
use Rattle.ms_text_grammar.specs.Steps.{Rule, Verdict, binary_op, cast_op}
use Rattle.ms_text_grammar.specs.Names.{reserved_local, name_fits}
use Rattle.ms_text_grammar.specs.Insts.{Marked, binary_rule, compare_rule, cast_rule, select_rule, freeze_rule, load_rule, store_rule, gep_rule, alloca_rule, branch_rule, switch_rule, ret_rule}
use Rattle.ms_text_grammar.specs.Bodies.{is_open, opened, opened_as, opened_by, name_or, numbers_left, line_begins, line_begins_by, with_value, with_effect, with_end, is_void_call}
use Rattle.ms_text_grammar.specs.Lines.{value_line, marked_line, phi_line, call_line, effect_line, end_line, instruction_by, operation_by, instruction, named_line, record_line, line_by, line, is_whole, blocks}
use Rattle.ms_text_laws.proofs.Sound.{all_pushed, if_good, if_else}
use Rattle.ms_text_laws.proofs.Brings.{Brings, given, chained, after, either, refused, looped}
use Rattle.ms_text_laws.proofs.SmallNames.{is_small_name, number_small, local_small}
use Rattle.ms_text_laws.proofs.SmallOps.{HasSmallParts, is_small_op, op_is_small}
use Rattle.ms_text_laws.proofs.SmallRules.{may_have, IsSmallMarked, suffixed, binary_read, compare_read, cast_read, select_read, freeze_read, load_read, store_read, gep_read, alloca_read, call_read, phi_read, branch_read, switch_read, ret_read, unreachable_read}

-- a name, if there is one
abbrev pub is_small_result : Form → Option Name → Bool
is_small_result form None = true
is_small_result form (Some x) = is_small_name form x

abbrev pub is_small_inst : Form → Inst → Bool
is_small_inst form inst = is_small_op form inst.op && is_small_result form inst.result && may_have form inst.marked

abbrev pub is_small_block : Form → Block → Bool
is_small_block form b = is_small_name form b.name && list_all (is_small_inst form) b.insts

-- what the lines so far keep
record Kept (form : Form) (b : BodySoFar) : Type 0 where
  blocks : list_all (is_small_block form) b.blocks ≡ true
  named : is_small_result form b.name ≡ true
  insts : list_all (is_small_inst form) b.insts ≡ true

inst_small : (form : Form) (m : Marked) (result : Option Name) → IsSmallMarked form m → is_small_result form result ≡ true → is_small_inst form (record { op = m.0; result = result; marked = m.1 }) ≡ true
inst_small form m result h n =
    and_from (is_small_op form m.0 && is_small_result form result) (may_have form m.1) (and_from (is_small_op form m.0) (is_small_result form result) (op_is_small form m.0 h.0) n) h.1

named_or : (form : Form) (result : Option Name) (number : ℕ) → is_small_result form result ≡ true → is_small_name form (name_or result number) ≡ true
named_or form None number h = number_small form number
named_or form (Some x) number h = h

-- ---- one instruction more

module _ (form : Form) (a : BodySoFar) (k : Kept form a) where
  value_kept : (result : Option Name) (phis : Bool) (m : Marked) → is_small_result form result ≡ true → IsSmallMarked form m → Kept form (with_value a result phis m)
  value_kept result phis m n h = record {
    blocks = k.blocks;
    named = k.named;
    insts = all_pushed (is_small_inst form) a.insts _ k.insts (inst_small form m (Some (name_or result a.next)) h (named_or form result a.next n));
  }

  effect_kept : (m : Marked) → IsSmallMarked form m → Kept form (with_effect a m)
  effect_kept m h = record { blocks = k.blocks; named = k.named; insts = all_pushed (is_small_inst form) a.insts _ k.insts (inst_small form m None h refl) }

  end_kept : (m : Marked) → IsSmallMarked form m → Kept form (with_end a m)
  end_kept m h =
      let last : Inst = record { op = m.0; result = None; marked = m.1 } in
      let insts = all_pushed (is_small_inst form) a.insts last k.insts (inst_small form m None h refl) in
      let block : Block = record { name = name_or a.name 0; insts = a.insts ++ last ∷ [] } in
      record {
        blocks = all_pushed (is_small_block form) a.blocks block k.blocks (and_from (is_small_name form (name_or a.name 0)) (list_all (is_small_inst form) (a.insts ++ last ∷ [])) (named_or form a.name 0 k.named) insts);
        named = refl;
        insts = refl;
      }

  call_kept_by : (void : Bool) (result : Option Name) (m : Marked) → is_small_result form result ≡ true → IsSmallMarked form m → Kept form (cond void (with_effect a m) (with_value a result false m))
  call_kept_by true result m n h = effect_kept m h
  call_kept_by false result m n h = value_kept result false m n h

  -- ---- one line

  value_line_read : (result : Option Name) (rule : Rule Op) → is_small_result form result ≡ true → Brings rule (HasSmallParts form) → Brings (value_line form a result rule) (Kept form)
  unfolding value_line
  value_line_read result rule n each = chained (suffixed form rule each) (λ m h. given (value_kept result false m n h))

  marked_line_read : (result : Option Name) (rule : Rule Marked) → is_small_result form result ≡ true → Brings rule (IsSmallMarked form) → Brings (marked_line a result rule) (Kept form)
  unfolding marked_line
  marked_line_read result rule n each = chained each (λ m h. given (value_kept result false m n h))

  phi_line_read : (result : Option Name) → is_small_result form result ≡ true → Brings (phi_line form a result) (Kept form)
  unfolding phi_line
  phi_line_read result n = chained (phi_read form) (λ m h. given (value_kept result true m n h))

  call_line_read : (result : Option Name) (first : Symbol) → is_small_result form result ≡ true → Brings (call_line form a result first) (Kept form)
  unfolding call_line
  call_line_read result first n = chained (call_read form (is_open result) first) (λ m h. given (call_kept_by (is_void_call m.0) result m n h))

  effect_line_read : (rule : Rule Op) → Brings rule (HasSmallParts form) → Brings (effect_line form a rule) (Kept form)
  unfolding effect_line
  effect_line_read rule each = chained (suffixed form rule each) (λ m h. given (effect_kept m h))

  end_line_read : (rule : Rule Op) → Brings rule (HasSmallParts form) → Brings (end_line form a rule) (Kept form)
  unfolding end_line
  end_line_read rule each = chained (suffixed form rule each) (λ m h. given (end_kept m h))

  by_word : (result : Option Name) (x : Symbol) → is_small_result form result ≡ true → Brings (instruction_by form a result x) (Kept form)
  by_word result s.Phi n = phi_line_read result n
  by_word result s.Icmp n = value_line_read result (compare_rule form) n (compare_read form)
  by_word result s.Select n = value_line_read result (select_rule form) n (select_read form)
  by_word result s.Freeze n = value_line_read result (freeze_rule form) n (freeze_read form)
  by_word result s.Alloca n = marked_line_read result (alloca_rule form) n (alloca_read form)
  by_word result s.Load n = value_line_read result (load_rule form) n (load_read form)
  by_word result s.Store n = effect_line_read (store_rule form) (store_read form)
  by_word result s.GetElementPtr n = marked_line_read result (gep_rule form) n (gep_read form)
  by_word result s.Tail n = call_line_read result s.Tail n
  by_word result s.MustTail n = call_line_read result s.MustTail n
  by_word result s.NoTail n = call_line_read result s.NoTail n
  by_word result s.Call n = call_line_read result s.Call n
  by_word result s.Br n = end_line_read (branch_rule form) (branch_read form)
  by_word result s.Switch n = end_line_read (switch_rule form) (switch_read form)
  by_word result s.Ret n = end_line_read (ret_rule form) (ret_read form)
  by_word result s.Unreachable n = end_line_read (give op.Unreachable) (unreachable_read form)
  by_word result x n = refused

  by_operation : (result : Option Name) (x : Symbol) (b : Option BinOp) (c : Option CastOp) → is_small_result form result ≡ true → Brings (operation_by form a result x b c) (Kept form)
  by_operation result x (Some b) c n = value_line_read result (binary_rule form b) n (binary_read form b)
  by_operation result x None (Some c) n = value_line_read result (cast_rule form c) n (cast_read form c)
  by_operation result x None None n = by_word result x n

  instruction_read : (result : Option Name) (x : Symbol) → is_small_result form result ≡ true → Brings (instruction form a result x) (Kept form)
  unfolding instruction
  instruction_read result x n = by_operation result x (binary_op x) (cast_op x) n

  named_line_read : (n : Name) → is_small_name form n ≡ true → Brings (named_line form a n) (Kept form)
  unfolding named_line
  named_line_read n h = after (λ equals. after (λ x. instruction_read (Some n) x h))

  record_line_read : Brings (record_line form a) (Kept form)
  unfolding record_line
  record_line_read = after (λ paren. after (λ over. given k))

-- ---- a line and its first token

unless_stops : (b : Bool) (v : Verdict Bool) → cond b (Ok false) v ≡ Ok true → v ≡ Ok true
unless_stops true v h = absurd cc
unless_stops false v h = h

opens_kept : (form : Form) (b : BodySoFar) (n : Name) (numbers : ℕ) → is_small_name form n ≡ true → Kept form b → Kept form (opened_as b n numbers)
opens_kept form b n numbers h k = record { blocks = k.blocks; named = h; insts = refl }

opened_kept_by : (form : Form) (b : BodySoFar) (n : Option Name) → Kept form b → Kept form (opened_by n b)
opened_kept_by form b (Some n) k = k
opened_kept_by form b None k = opens_kept form b (name.Number b.next) 1 (number_small form b.next) k

opened_kept : (form : Form) (b : BodySoFar) → Kept form b → Kept form (opened b)
unfolding opened
opened_kept form b k = opened_kept_by form b b.name k

module _ (form : Form) (b : BodySoFar) (k : Kept form b) (t : Lexeme) where
  line_by_read : (x : Symbol) → line_begins_by form b x t ≡ Ok true → Brings (line_by form b x t) (Kept form)
  line_by_read s.Label g =
      let closed = unless_stops (is_open b.name) _ g in
      let free = if_else (reserved_local form (name_in t)) _ _ true closed in
      let fits = if_good (name_fits (name_in t)) _ _ true free.1 in
      given (opens_kept form b (name.Text (name_in t)) 0 (local_small form (name_in t) free.0 fits.0) k)
  line_by_read s.NumberedLabel g = given (opens_kept form b (name.Number b.next) 1 (number_small form b.next) k)
  line_by_read s.DebugGroup g = record_line_read form (opened b) (opened_kept form b k)
  line_by_read s.Local g =
      let free = if_else (reserved_local form (name_in t)) _ _ true g in
      let room = if_good _ _ _ true free.1 in
      let fits = if_good (name_fits (name_in t)) _ _ true room.1 in
      named_line_read form (opened b) (opened_kept form b k) (name.Text (name_in t)) (local_small form (name_in t) free.0 fits.0)
  line_by_read s.NumberedLocal g = named_line_read form (opened b) (opened_kept form b k) (name.Number (opened b).next) (number_small form (opened b).next)
  line_by_read x g = instruction_read form (opened b) (opened_kept form b k) None x refl

  line_read : line_begins form b t ≡ Ok true → Brings (line form b t) (Kept form)
  unfolding line_begins line
  line_read g = line_by_read t.symbol (if_good (numbers_left b.next) _ _ true g).1

-- ---- all blocks

-- before the first line
abbrev IsEmpty : BodySoFar → Type 0
IsEmpty b = (b.blocks ≡ []) × (b.name ≡ None) × (b.insts ≡ [])

empty_kept : (form : Form) (b : BodySoFar) → IsEmpty b → Kept form b
empty_kept form b e = record {
  blocks = subst (λ xs. list_all (is_small_block form) xs ≡ true) (sym e.0) refl;
  named = subst (λ n. is_small_result form n ≡ true) (sym e.1) refl;
  insts = subst (λ xs. list_all (is_small_inst form) xs ≡ true) (sym e.2) refl;
}

pub blocks_read : (form : Form) (start : BodySoFar) → start.blocks ≡ [] → start.name ≡ None → start.insts ≡ [] → Brings (blocks form start) (λ bs. list_all (is_small_block form) bs ≡ true)
unfolding blocks
blocks_read form start none closed empty =
    chained {P = Kept form} (looped (empty_kept form start (none, closed, empty)) (λ b t k e. line_read form b k t e))
    (λ body k. either (is_whole body) (after (λ word. given k.blocks)) refused)
