-- What the body of a function keeps, line by line: each block is formed, and the numbers are successive.
use Rattle.std.proofs.Common.{◌≡◌, ◌≤◌, ◌<◌, ℕ, ◌+◌, ◌-◌, ◌^◌, Bool, true, false, cond, not, ◌&&◌, nat_eq, nat_lt, ◌==◌, List, [], ◌∷◌, ◌++◌, length, flat_map, filter_map, Option, Some, None, is_some, is_none, Ok, Err, refl, ◌∙◌, sym, subst, ap, append_assoc, arith, eq-eqb}
use Rattle.std.specs.List.{list_all}
use Rattle.std.proofs.lemmas.Bool.{ltb-true, lt-ltb, and_parts, and_from}
use Rattle.std.proofs.lemmas.List.{flat_map_more}
use Rattle.std.proofs.lemmas.List.Elements.{filter_map-append}
use Rattle.ms_ir.specs.Instructions.{is_phi}
use Rattle.ms_bits.specs.declared.operations.BinOp.{BinOp}
use Rattle.ms_bits.specs.declared.operations.CastOp.{CastOp}
use Rattle.ms_lex.specs.Tokens.{Text}
use Rattle.ms_lex.specs.Grammar.{head, give, one}
use Rattle.ms_ir.specs.declared.syntax.Block.{Block}
use Rattle.ms_ir.specs.declared.syntax.Inst.{Inst}
use Rattle.ms_ir.specs.declared.syntax.Name.{Name}
use Rattle.ms_ir.specs.declared.syntax.Name.TheVariants as name
use Rattle.ms_ir.specs.declared.syntax.Op.{Op}
use Rattle.ms_ir.specs.declared.syntax.Op.TheVariants as op
use Rattle.ms_ir.specs.declared.syntax.Ty.{Ty}
use Rattle.ms_ir.specs.declared.forms.Form.{Form}
use Rattle.ms_text_grammar.specs.declared.refusals.Limit.TheVariants as limit
use Rattle.ms_text_grammar.specs.declared.refusals.Cause.TheVariants as r
use Rattle.ms_text_grammar.specs.declared.states.BodySoFar.{BodySoFar}
use Rattle.ms_text_grammar.specs.declared.symbols.Symbol.{Symbol}
use Rattle.ms_text_grammar.specs.declared.symbols.Symbol.TheVariants as s
use Rattle.ms_text_grammar.specs.Lexemes.{Lexeme, end_of_text, name_in}
use Rattle.ms_text_grammar.specs.Steps.{Rule, Verdict, word, binary_op, cast_op}
use Rattle.ms_text_grammar.specs.Names.{reserved_local, name_fits, text_name}
use Rattle.ms_text_grammar.specs.Insts.{Marked, binary_rule, compare_rule, cast_rule, select_rule, freeze_rule, load_rule, store_rule, gep_rule, alloca_rule, branch_rule, switch_rule, ret_rule}
use Rattle.ms_text_grammar.specs.Bodies.{is_open, opened, opened_as, opened_by, name_or, numbers_of, numbers_left, line_begins, line_begins_by, with_value, with_effect, with_end, is_void_call}
use Rattle.ms_text_grammar.specs.Lines.{value_line, marked_line, phi_line, call_line, effect_line, end_line, instruction_by, operation_by, instruction, gives_value, value_word_of, named_line, line_by, line, is_whole, blocks}
use Rattle.ms_text_grammar.specs.Texts.{ReadsUpTo}
use Rattle.ms_text_grammar.proofs.Bounds.{record_line_is, blocks_end}
use Rattle.ms_check_valid.specs.FormedNames.{are_bytes, is_local_name, name_number, count_up}
use Rattle.ms_check_valid.specs.FormedCode.{op_formed, name_formed, inst_formed, is_terminator, ends_well, is_body}
use Rattle.ms_check_valid.specs.Formed.{block_formed}
use Rattle.ms_ir.specs.Locals.{results, block_locals}
use Rattle.ms_ir.specs.Written.{result_type}
use Rattle.ms_text_laws.proofs.Sound.{IsSound, AllSound, sound_rest, loop_keeps, all_pushed, no_value, same_value, if_good, if_else}
use Rattle.ms_text_laws.proofs.Names.{local_name_formed}
use Rattle.ms_text_laws.proofs.Operations.{GivesValue, HasEffect, Ends, binary_read, cast_read, compare_read, select_read, freeze_read, load_read, store_read, alloca_read, gep_read, phi_read, call_read, branch_read, switch_read, ret_read, unreachable, suffixed}
use Rattle.ms_text_laws.proofs.Bodies.{end_is_no_phi}

-- ---- verdicts

unless_stops : (b : Bool) (v : Verdict Bool) → cond b (Ok false) v ≡ Ok true → (b ≡ false) × (v ≡ Ok true)
unless_stops true v h = absurd cc
unless_stops false v h = (refl, h)

if_goes : (b : Bool) (v : Verdict Bool) → cond b v (Ok false) ≡ Ok true → (b ≡ true) × (v ≡ Ok true)
if_goes true v h = (refl, h)
if_goes false v h = absurd cc

-- ---- numbers

-- the numbers among the names are k and those after it, as they stand, and e is the next one
abbrev pub CountsTo : ℕ → List Name → ℕ → Type 0
CountsTo k [] e = e ≡ k
CountsTo k (name.Number n ∷ names) e = (n ≡ k) × CountsTo (k + 1) names e
CountsTo k (name.Text x ∷ names) e = CountsTo k names e

pub counts_on : (k : ℕ) (xs ys : List Name) (m e : ℕ) → CountsTo k xs m → CountsTo m ys e → CountsTo k (xs ++ ys) e
counts_on k [] ys m e h i = subst (λ j. CountsTo j ys e) h i
counts_on k (name.Number n ∷ xs) ys m e h i = (h.0, counts_on (k + 1) xs ys m e h.1 i)
counts_on k (name.Text x ∷ xs) ys m e h i = counts_on k xs ys m e h i

pub counted : (k : ℕ) (names : List Name) (e : ℕ) → CountsTo k names e → count_up k (filter_map name_number names) ≡ true
counted k [] e h = refl
counted k (name.Number n ∷ names) e h = and_from (nat_eq n k) (count_up (k + 1) (filter_map name_number names)) (eq-eqb n k h.0) (counted (k + 1) names e h.1)
counted k (name.Text x ∷ names) e h = counted k names e h

counts_block : (k : ℕ) (bs : List Block) (b : Block) (m e : ℕ) → CountsTo k (flat_map block_locals bs) m → CountsTo m (block_locals b) e → CountsTo k (flat_map block_locals (bs ++ b ∷ [])) e
counts_block k bs b m e h i = subst (λ names. CountsTo k names e) (flat_map_more block_locals [] bs b) (counts_on k (flat_map block_locals bs) (block_locals b) m e h i)

counts_result : (k : ℕ) (n : Name) (insts : List Inst) (i : Inst) (m e : ℕ) → CountsTo k (n ∷ results insts) m → CountsTo m (results (i ∷ [])) e → CountsTo k (n ∷ results (insts ++ i ∷ [])) e
counts_result k n insts i m e h g =
    subst (λ names. CountsTo k (n ∷ names) e) (sym (filter_map-append (λ (x : Inst). x.result) insts (i ∷ []))) (counts_on k (n ∷ results insts) (results (i ∷ [])) m e h g)

-- a name that may come next, and how many numbers it takes
pub record IsNext (next : ℕ) (n : Name) (numbers : ℕ) : Type 0 where
  pub local : is_local_name n ≡ true
  pub counts : CountsTo next (n ∷ []) (next + numbers)

pub next_number : (next : ℕ) → next < 2 ^ 32 → IsNext next (name.Number next) 1
next_number next few = record { local = lt-ltb next (2 ^ 32) few; counts = (refl, refl) }

pub text_is_local : (form : Form) (t : Text) → are_bytes t ≡ true → reserved_local form t ≡ false → name_fits t ≡ true → is_local_name (name.Text t) ≡ true
text_is_local form t bytes free fits =
    local_name_formed form t (name.Text t) bytes (ap (λ b. text_name b t) free ∙ ap (λ b. cond b (Ok (name.Text t)) (Err (r.Limit limit.Name))) fits)

next_text : (form : Form) (t : Text) (next : ℕ) → are_bytes t ≡ true → reserved_local form t ≡ false → name_fits t ≡ true → IsNext next (name.Text t) 0
next_text form t next bytes free fits = record { local = text_is_local form t bytes free fits; counts = omega arith }

-- ---- the order of instructions

-- what may follow these instructions of a block so that it ends well: phis too, or none any more
abbrev Leads : Bool → List Inst → Type 0
Leads true insts = (more : List Inst) → is_body more ≡ true → is_body (insts ++ more) ≡ true
Leads false insts = (more : List Inst) → ends_well more ≡ true → is_body (insts ++ more) ≡ true

phi_leads : (insts : List Inst) (i : Inst) → is_phi i.op ≡ true → Leads true insts → Leads true (insts ++ i ∷ [])
phi_leads insts i e h = λ more g. ap is_body (append_assoc insts (i ∷ []) more) ∙ h (i ∷ more) (ap (λ b. cond b (is_body more) (ends_well (i ∷ more))) e ∙ g)

ends_after : (phis : Bool) (insts : List Inst) (i : Inst) (more : List Inst) → is_phi i.op ≡ false → ends_well (i ∷ more) ≡ true → Leads phis insts → is_body (insts ++ i ∷ more) ≡ true
ends_after true insts i more plain e h = h (i ∷ more) (ap (λ b. cond b (is_body more) (ends_well (i ∷ more))) plain ∙ e)
ends_after false insts i more plain e h = h (i ∷ more) e

goes_on : (i : Inst) (more : List Inst) → is_terminator i.op ≡ false → is_phi i.op ≡ false → ends_well more ≡ true → ends_well (i ∷ more) ≡ true
goes_on i [] on plain h = absurd cc
goes_on i (next ∷ rest) on plain h =
    and_from (not (is_terminator i.op) && not (is_phi i.op)) (ends_well (next ∷ rest)) (and_from (not (is_terminator i.op)) (not (is_phi i.op)) (ap not on) (ap not plain)) h

plain_leads : (phis : Bool) (insts : List Inst) (i : Inst) → is_terminator i.op ≡ false → is_phi i.op ≡ false → Leads phis insts → Leads false (insts ++ i ∷ [])
plain_leads phis insts i on plain h = λ more g. ap is_body (append_assoc insts (i ∷ []) more) ∙ ends_after phis insts i more plain (goes_on i more on plain g) h

-- ---- one instruction

name_is : (t : Option Ty) (n : Name) → is_some t ≡ true → is_local_name n ≡ true → name_formed t (Some n) ≡ true
name_is None n some local = absurd cc
name_is (Some t) n some local = local

no_name : (t : Option Ty) → t ≡ None → name_formed t None ≡ true
no_name t e = ap (λ u. name_formed u None) e

is_none_of : (t : Option Ty) → is_none t ≡ true → t ≡ None
is_none_of None h = refl
is_none_of (Some t) h = absurd cc

is_some_of : (t : Option Ty) → is_none t ≡ false → is_some t ≡ true
is_some_of None h = absurd cc
is_some_of (Some t) h = refl

abbrev value_inst : BodySoFar → Option Name → Marked → Inst
value_inst a result m = record { op = m.0; result = Some (name_or result a.next); marked = m.1 }

abbrev effect_inst : Marked → Inst
effect_inst m = record { op = m.0; result = None; marked = m.1 }

-- ---- what the lines so far keep

-- an open block, after names up to the number `mid`
record IsOpened (mid : ℕ) (n : Name) (insts : List Inst) (next : ℕ) (phis : Bool) : Type 0 where
  local : is_local_name n ≡ true
  formed : list_all inst_formed insts ≡ true
  leads : Leads phis insts
  counts : CountsTo mid (n ∷ results insts) next

abbrev Stands : ℕ → Option Name → List Inst → ℕ → Bool → Type 0
Stands mid None insts next phis = next ≡ mid
Stands mid (Some n) insts next phis = IsOpened mid n insts next phis

-- after parameters that took so many numbers
pub record Kept (from : ℕ) (b : BodySoFar) : Type 0 where
  blocks : list_all block_formed b.blocks ≡ true
  mid : ℕ
  counts : CountsTo from (flat_map block_locals b.blocks) mid
  stands : Stands mid b.name b.insts b.next b.phis

more_stands : (mid : ℕ) (n : Option Name) (insts : List Inst) (next : ℕ) (phis : Bool) (i : Inst) (following : ℕ) (after : Bool) → is_open n ≡ true → inst_formed i ≡ true
    → (Leads phis insts → Leads after (insts ++ i ∷ [])) → CountsTo next (results (i ∷ [])) following → Stands mid n insts next phis → Stands mid n (insts ++ i ∷ []) following after
more_stands mid None insts next phis i following after o f l c h = absurd cc
more_stands mid (Some n) insts next phis i following after o f l c h =
    record { local = h.local; formed = all_pushed inst_formed insts i h.formed f; leads = l h.leads; counts = counts_result mid n insts i next following h.counts c }

abbrev ended : Option Name → List Inst → Inst → Block
ended n insts i = record { name = name_or n 0; insts = insts ++ i ∷ [] }

end_stands : (mid : ℕ) (n : Option Name) (insts : List Inst) (next : ℕ) (phis : Bool) (i : Inst) → is_open n ≡ true → inst_formed i ≡ true → is_terminator i.op ≡ true → CountsTo next (results (i ∷ [])) next
    → Stands mid n insts next phis → (block_formed (ended n insts i) ≡ true) × CountsTo mid (block_locals (ended n insts i)) next
end_stands mid None insts next phis i o f e c h = absurd cc
end_stands mid (Some n) insts next phis i o f e c h = (
  and_from (is_local_name n && is_body (insts ++ i ∷ [])) (list_all inst_formed (insts ++ i ∷ []))
      (and_from (is_local_name n) (is_body (insts ++ i ∷ [])) h.local (ends_after phis insts i [] (end_is_no_phi i.op e) e h.leads)) (all_pushed inst_formed insts i h.formed f),
  counts_result mid n insts i next next h.counts c,
)

-- a phi stands only where phis may
abbrev phi_fits : Bool → Symbol → Bool
phi_fits phis s.Phi = phis
phi_fits phis x = true

value_fits : (phis : Bool) (x : Symbol) → gives_value phis x ≡ true → phi_fits phis x ≡ true
value_fits phis s.Phi h = h
value_fits phis x h = refl

module _ (from : ℕ) (a : BodySoFar) (o : is_open a.name ≡ true) (k : Kept from a) where
  value_kept : (result : Option Name) (phis : Bool) (m : Marked) → IsNext a.next (name_or result a.next) (numbers_of result) → op_formed m.0 ≡ true → is_some (result_type m.0) ≡ true
      → (Leads a.phis a.insts → Leads phis (a.insts ++ value_inst a result m ∷ [])) → Kept from (with_value a result phis m)
  value_kept result phis m n f some leads = record {
    blocks = k.blocks;
    mid = k.mid;
    counts = k.counts;
    stands = more_stands k.mid a.name a.insts a.next a.phis (value_inst a result m) (a.next + numbers_of result) phis o
        (and_from (op_formed m.0) (name_formed (result_type m.0) (Some (name_or result a.next))) f (name_is (result_type m.0) (name_or result a.next) some n.local)) leads n.counts k.stands;
  }

  effect_kept : (m : Marked) → op_formed m.0 ≡ true → result_type m.0 ≡ None → is_terminator m.0 ≡ false → is_phi m.0 ≡ false → Kept from (with_effect a m)
  effect_kept m f none on plain = record {
    blocks = k.blocks;
    mid = k.mid;
    counts = k.counts;
    stands = more_stands k.mid a.name a.insts a.next a.phis (effect_inst m) a.next false o (and_from (op_formed m.0) (name_formed (result_type m.0) None) f (no_name (result_type m.0) none))
        (plain_leads a.phis a.insts (effect_inst m) on plain) refl k.stands;
  }

  end_kept : (m : Marked) → Ends m.0 → Kept from (with_end a m)
  end_kept m e =
      let block : Block = ended a.name a.insts (effect_inst m) in
      let whole = end_stands k.mid a.name a.insts a.next a.phis (effect_inst m) o (and_from (op_formed m.0) (name_formed (result_type m.0) None) e.0 (no_name (result_type m.0) e.1)) e.2 refl k.stands in
      record { blocks = all_pushed block_formed a.blocks block k.blocks whole.0; mid = a.next; counts = counts_block from a.blocks block k.mid a.next k.counts whole.1; stands = refl }

  call_kept_by : (void : Bool) (result : Option Name) (m : Marked) → IsNext a.next (name_or result a.next) (numbers_of result) → op_formed m.0 ≡ true → is_none (result_type m.0) ≡ void → is_terminator m.0 ≡ false → is_phi m.0 ≡ false
      → Kept from (cond void (with_effect a m) (with_value a result false m))
  call_kept_by true result m n f none on plain = effect_kept m f (is_none_of (result_type m.0) none) on plain
  call_kept_by false result m n f none on plain = value_kept result false m n f (is_some_of (result_type m.0) none) (plain_leads a.phis a.insts (value_inst a result m) on plain)

  -- ---- one line

  module _ (form : Form) (ts : List Lexeme) (all : AllSound ts) (v : BodySoFar) (rest : List Lexeme) where
    value_line_kept : (result : Option Name) (rule : Rule Op) → ((us : List Lexeme) (x : Op) (others : List Lexeme) → AllSound us → ReadsUpTo rule us x others → GivesValue x)
        → IsNext a.next (name_or result a.next) (numbers_of result) → ReadsUpTo (value_line form a result rule) ts v rest → Kept from v
    unfolding value_line
    value_line_kept result rule each n h =
        let good : GivesValue h.0.0 = suffixed GivesValue form rule each ts h.0 h.1 all h.2 in
        subst (Kept from) (sym h.3.0) (value_kept result false h.0 n good.0 good.1 (plain_leads a.phis a.insts (value_inst a result h.0) good.2 good.3))

    marked_line_kept : (result : Option Name) (rule : Rule Marked) → ((us : List Lexeme) (m : Marked) (others : List Lexeme) → AllSound us → ReadsUpTo rule us m others → GivesValue m.0)
        → IsNext a.next (name_or result a.next) (numbers_of result) → ReadsUpTo (marked_line a result rule) ts v rest → Kept from v
    unfolding marked_line
    marked_line_kept result rule each n h =
        let good : GivesValue h.0.0 = each ts h.0 h.1 all h.2 in
        subst (Kept from) (sym h.3.0) (value_kept result false h.0 n good.0 good.1 (plain_leads a.phis a.insts (value_inst a result h.0) good.2 good.3))

    phi_line_kept : (result : Option Name) → a.phis ≡ true → IsNext a.next (name_or result a.next) (numbers_of result) → ReadsUpTo (phi_line form a result) ts v rest → Kept from v
    unfolding phi_line
    phi_line_kept result first n h =
        let good = phi_read form ts h.0 h.1 all h.2 in
        subst (Kept from) (sym h.3.0) (value_kept result true h.0 n good.0 good.1 (λ l. phi_leads a.insts (value_inst a result h.0) good.2 (subst (λ b. Leads b a.insts) first l)))

    call_line_kept : (result : Option Name) (first : Symbol) → IsNext a.next (name_or result a.next) (numbers_of result) → ReadsUpTo (call_line form a result first) ts v rest → Kept from v
    unfolding call_line
    call_line_kept result first n h =
        let good = call_read form (is_open result) first ts h.0 h.1 all h.2 in
        subst (Kept from) (sym h.3.0) (call_kept_by (is_void_call h.0.0) result h.0 n good.0 (sym good.1) good.2 good.3)

    effect_line_kept : (rule : Rule Op) → ((us : List Lexeme) (x : Op) (others : List Lexeme) → AllSound us → ReadsUpTo rule us x others → HasEffect x) → ReadsUpTo (effect_line form a rule) ts v rest → Kept from v
    unfolding effect_line
    effect_line_kept rule each h =
        let good : HasEffect h.0.0 = suffixed HasEffect form rule each ts h.0 h.1 all h.2 in
        subst (Kept from) (sym h.3.0) (effect_kept h.0 good.0 good.1 good.2 good.3)

    end_line_kept : (rule : Rule Op) → ((us : List Lexeme) (x : Op) (others : List Lexeme) → AllSound us → ReadsUpTo rule us x others → Ends x) → ReadsUpTo (end_line form a rule) ts v rest → Kept from v
    unfolding end_line
    end_line_kept rule each h = subst (Kept from) (sym h.3.0) (end_kept h.0 (suffixed Ends form rule each ts h.0 h.1 all h.2))

    by_word : (result : Option Name) (x : Symbol) → phi_fits a.phis x ≡ true → IsNext a.next (name_or result a.next) (numbers_of result) → ReadsUpTo (instruction_by form a result x) ts v rest → Kept from v
    by_word result s.Phi p n h = phi_line_kept result p n h
    by_word result s.Icmp p n h = value_line_kept result (compare_rule form) (compare_read form) n h
    by_word result s.Select p n h = value_line_kept result (select_rule form) (select_read form) n h
    by_word result s.Freeze p n h = value_line_kept result (freeze_rule form) (freeze_read form) n h
    by_word result s.Alloca p n h = marked_line_kept result (alloca_rule form) (alloca_read form) n h
    by_word result s.Load p n h = value_line_kept result (load_rule form) (load_read form) n h
    by_word result s.Store p n h = effect_line_kept (store_rule form) (store_read form) h
    by_word result s.GetElementPtr p n h = marked_line_kept result (gep_rule form) (gep_read form) n h
    by_word result s.Tail p n h = call_line_kept result s.Tail n h
    by_word result s.MustTail p n h = call_line_kept result s.MustTail n h
    by_word result s.NoTail p n h = call_line_kept result s.NoTail n h
    by_word result s.Call p n h = call_line_kept result s.Call n h
    by_word result s.Br p n h = end_line_kept (branch_rule form) (branch_read form) h
    by_word result s.Switch p n h = end_line_kept (switch_rule form) (switch_read form) h
    by_word result s.Ret p n h = end_line_kept (ret_rule form) (ret_read form) h
    by_word result s.Unreachable p n h = end_line_kept (give op.Unreachable) (λ us x others sound e. subst Ends (sym e.0) unreachable) h
    by_word result x p n h = no_value _ v h.0

    by_operation : (result : Option Name) (x : Symbol) (b : Option BinOp) (c : Option CastOp) → phi_fits a.phis x ≡ true → IsNext a.next (name_or result a.next) (numbers_of result)
        → ReadsUpTo (operation_by form a result x b c) ts v rest → Kept from v
    by_operation result x (Some b) c p n h = value_line_kept result (binary_rule form b) (binary_read form b) n h
    by_operation result x None (Some c) p n h = value_line_kept result (cast_rule form c) (cast_read form c) n h
    by_operation result x None None p n h = by_word result x p n h

    instruction_kept : (result : Option Name) (x : Symbol) → phi_fits a.phis x ≡ true → IsNext a.next (name_or result a.next) (numbers_of result) → ReadsUpTo (instruction form a result x) ts v rest → Kept from v
    unfolding instruction
    instruction_kept result x p n h = by_operation result x (binary_op x) (cast_op x) p n h

  named_line_kept : (form : Form) (n : Name) (ts : List Lexeme) (all : AllSound ts) (v : BodySoFar) (rest : List Lexeme) → IsNext a.next n (numbers_of (Some n)) → ReadsUpTo (named_line form a n) ts v rest → Kept from v
  unfolding named_line
  named_line_kept form n ts all v rest next h =
      let first : Lexeme = head end_of_text h.1 in
      let words = if_good (gives_value a.phis first.symbol) (Ok first.symbol) _ h.3.0 h.3.2.0 in
      let fits = subst (λ x. gives_value a.phis x ≡ true) (same_value first.symbol h.3.0 words.1) words.0 in
      let later = sound_rest (one (value_word_of a.phis)) h.1 h.3.0 h.3.1 (sound_rest (word s.Equals) ts h.0 h.1 all h.2) h.3.2 in
      instruction_kept form h.3.1 later v rest (Some n) h.3.0 (value_fits a.phis h.3.0 fits) next h.3.3

-- ---- blocks that open

closed_next : (mid : ℕ) (n : Option Name) (insts : List Inst) (next : ℕ) (phis : Bool) → is_open n ≡ false → Stands mid n insts next phis → next ≡ mid
closed_next mid None insts next phis shut h = h
closed_next mid (Some n) insts next phis shut h = absurd cc

opens_kept : (from : ℕ) (b : BodySoFar) (n : Name) (numbers : ℕ) → is_open b.name ≡ false → IsNext b.next n numbers → Kept from b → Kept from (opened_as b n numbers)
opens_kept from b n numbers shut h k = record {
  blocks = k.blocks;
  mid = k.mid;
  counts = k.counts;
  stands = record { local = h.local; formed = refl; leads = λ more g. g; counts = subst (λ j. CountsTo j (n ∷ []) (b.next + numbers)) (closed_next k.mid b.name b.insts b.next b.phis shut k.stands) h.counts };
}

record IsReady (from : ℕ) (b a : BodySoFar) : Type 0 where
  kept : Kept from a
  is_open_here : is_open a.name ≡ true
  few : a.next ≤ b.next + 1

opened_ready_by : (from : ℕ) (b : BodySoFar) (n : Option Name) → b.name ≡ n → b.next < 2 ^ 32 → Kept from b → IsReady from b (opened_by n b)
opened_ready_by from b (Some n) e few k = record { kept = k; is_open_here = ap is_open e; few = omega arith }
opened_ready_by from b None e few k = record { kept = opens_kept from b (name.Number b.next) 1 (ap is_open e) (next_number b.next few) k; is_open_here = refl; few = omega arith }

opened_ready : (from : ℕ) (b : BodySoFar) → b.next < 2 ^ 32 → Kept from b → IsReady from b (opened b)
unfolding opened
opened_ready from b few k = opened_ready_by from b b.name refl few k

-- ---- what a line keeps

module _ (form : Form) (from : ℕ) (b : BodySoFar) (k : Kept from b) (left : b.next < 2 ^ 32 - 2) (t : Lexeme) (sound : IsSound t) (ts : List Lexeme) (all : AllSound ts) (v : BodySoFar) (rest : List Lexeme) where
  ready : IsReady from b (opened b)
  ready = opened_ready from b (omega arith) k

  number_here : IsNext (opened b).next (name.Number (opened b).next) 1
  number_here = next_number (opened b).next (let few = ready.few in omega arith)

  by_name : (n : Name) → IsNext (opened b).next n (numbers_of (Some n)) → ReadsUpTo (named_line form (opened b) n) ts v rest → Kept from v
  by_name n next h = named_line_kept from (opened b) ready.is_open_here ready.kept form n ts all v rest next h

  by_instruction : (x : Symbol) → phi_fits (opened b).phis x ≡ true → ReadsUpTo (instruction form (opened b) None x) ts v rest → Kept from v
  by_instruction x fits h = instruction_kept from (opened b) ready.is_open_here ready.kept form ts all v rest None x fits number_here h

  line_kept_by : (x : Symbol) → line_begins_by form b x t ≡ Ok true → ReadsUpTo (line_by form b x t) ts v rest → Kept from v
  line_kept_by s.Label g h =
      let closed = unless_stops (is_open b.name) _ g in
      let free = if_else (reserved_local form (name_in t)) _ _ true closed.1 in
      let fits = if_good (name_fits (name_in t)) _ _ true free.1 in
      subst (Kept from) (sym h.0) (opens_kept from b (name.Text (name_in t)) 0 closed.0 (next_text form (name_in t) b.next sound.bytes free.0 fits.0) k)
  line_kept_by s.NumberedLabel g h =
      subst (Kept from) (sym h.0) (opens_kept from b (name.Number b.next) 1 (unless_stops (is_open b.name) _ g).0 (next_number b.next (omega arith)) k)
  line_kept_by s.DebugGroup g h = subst (Kept from) (sym (record_line_is form (opened b) ts v rest h)) ready.kept
  line_kept_by s.Local g h =
      let free = if_else (reserved_local form (name_in t)) _ _ true g in
      let room = if_good _ _ _ true free.1 in
      let fits = if_good (name_fits (name_in t)) _ _ true room.1 in
      by_name (name.Text (name_in t)) (next_text form (name_in t) (opened b).next sound.bytes free.0 fits.0) h
  line_kept_by s.NumberedLocal g h = by_name (name.Number (opened b).next) number_here h
  line_kept_by s.Phi g h = by_instruction s.Phi (if_goes (opened b).phis _ g).0 h
  line_kept_by x g h = by_instruction x refl h

line_kept : (form : Form) (from : ℕ) (b : BodySoFar) (k : Kept from b) (t : Lexeme) (sound : IsSound t) (ts : List Lexeme) (all : AllSound ts) (v : BodySoFar) (rest : List Lexeme)
    → line_begins form b t ≡ Ok true → ReadsUpTo (line form b t) ts v rest → Kept from v
unfolding line_begins line
line_kept form from b k t sound ts all v rest g h =
    let left = if_good (numbers_left b.next) _ _ true g in
    line_kept_by form from b k (ltb-true b.next (2 ^ 32 - 2) left.0) t sound ts all v rest t.symbol left.1 h

-- ---- all blocks

-- what the blocks of a function keep after parameters that took so many numbers
pub record AreFormed (from : ℕ) (bs : List Block) : Type 0 where
  pub some : nat_lt 0 (length bs) ≡ true
  pub formed : list_all block_formed bs ≡ true
  pub last : ℕ
  pub counts : CountsTo from (flat_map block_locals bs) last

some_there : (bs : List Block) → not (length bs == 0) ≡ true → nat_lt 0 (length bs) ≡ true
some_there [] h = absurd cc
some_there (b ∷ bs) h = lt-ltb 0 (length (b ∷ bs)) (omega arith)

-- before the first line
pub none_kept : (from : ℕ) (b : BodySoFar) → b.blocks ≡ [] → b.name ≡ None → b.next ≡ from → Kept from b
none_kept from b no_blocks closed next = record {
  blocks = ap (list_all block_formed) no_blocks;
  mid = from;
  counts = subst (λ bs. CountsTo from (flat_map block_locals bs) from) (sym no_blocks) refl;
  stands = subst (λ n. Stands from n b.insts b.next b.phis) (sym closed) next;
}

pub blocks_formed : (form : Form) (from : ℕ) (start : BodySoFar) (ts : List Lexeme) (v : List Block) (rest : List Lexeme)
    → Kept from start → AllSound ts → ReadsUpTo (blocks form start) ts v rest → AreFormed from v
unfolding blocks
blocks_formed form from start ts v rest k all h =
    let body : BodySoFar = h.0 in
    let kept = loop_keeps (line_begins form) (line form) (Kept from) (λ b t us w others begins sound sounds g p. line_kept form from b p t sound us sounds w others begins g) start ts body h.1 all h.2 k in
    let end = blocks_end (is_whole body) body h.1 v rest h.3 in
    let whole = and_parts (not (is_open body.name)) (not (length body.blocks == 0)) end.0 in
    subst (AreFormed from) (sym end.1) (record { some = some_there body.blocks whole.1; formed = kept.blocks; last = kept.mid; counts = kept.counts })
