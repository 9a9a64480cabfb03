-- The lines of a body are read as what they were written of: instructions with their results.
use Rattle.std.proofs.Common.{◌≡◌, ℕ, ◌+◌, ◌<◌, ◌^◌, Bool, true, false, cond, List, [], ◌∷◌, ◌++◌, Option, Some, None, Ok, Err, refl, sym, ap, ◌∙◌, subst, append_assoc, eq-eqb}
use Rattle.std.specs.Prelude.{codes}
use Rattle.std.proofs.lemmas.Bool.{ltb-true, lt-ltb, and_parts}
use Rattle.ms_ir.specs.Instructions.{is_phi}
use Rattle.ms_bits.specs.declared.operations.BinOp.{BinOp}
use Rattle.ms_bits.specs.declared.operations.BinOp.TheVariants as binary
use Rattle.ms_bits.specs.declared.operations.CastOp.{CastOp}
use Rattle.ms_bits.specs.declared.operations.CastOp.TheVariants as cast
use Rattle.ms_lex.specs.Numbers as read
use Rattle.ms_lex.specs.Grammar.{head, loop}
use Rattle.ms_ir.specs.declared.syntax.Name.{Name}
use Rattle.ms_ir.specs.declared.syntax.Name.TheVariants.{Number, Text as Called}
use Rattle.ms_ir.specs.declared.syntax.Op.{Op}
use Rattle.ms_ir.specs.declared.syntax.Op.TheVariants as op
use Rattle.ms_ir.specs.declared.syntax.Inst.{Inst}
use Rattle.ms_ir.specs.declared.forms.Form.TheVariants.{Instrumented}
use Rattle.ms_text_grammar.specs.declared.refusals.Cause.TheVariants as r
use Rattle.ms_text_grammar.specs.declared.refusals.Limit.TheVariants as limit
use Rattle.ms_text_grammar.specs.declared.states.BodySoFar.{BodySoFar}
use Rattle.ms_text_grammar.specs.declared.symbols.Symbol.TheVariants as s
use Rattle.ms_text_grammar.specs.Lexemes.{Lexeme, end_of_text, same_symbol, symbol_of, name_in}
use Rattle.ms_text_grammar.specs.Steps.{word, refusal, binary_op, cast_op}
use Rattle.ms_text_grammar.specs.Bodies.{opened, numbers_of, name_or, unreserved}
use Rattle.ms_text_grammar.specs.Lines.{gives_value, value_word_of}
use Rattle.ms_check_valid.specs.FormedNames.{are_bytes, is_local_name}
use Rattle.ms_check_valid.specs.FormedCode.{name_formed, is_terminator}
use Rattle.ms_ir.specs.Written.{result_type}
use Rattle.ms_text_grammar.specs.LayoutPieces.{sign}
use Rattle.ms_text_grammar.specs.LayoutNames.{local_token}
use Rattle.ms_text_grammar.specs.LayoutInsts.{op_tokens, named_tokens, mark_tokens}
use Rattle.ms_text_laws.proofs.Limited.{Limits, counted, short, line_begins_by, line_begins, instruction, named_line, line_by, line}
use Rattle.ms_text_laws.proofs.Takes.{Takes, taken, chain, turned, word_taken, along}
use Rattle.ms_text_laws.proofs.Spelled.{is_below, local_number_symbol, local_text_symbol, local_number_in, local_text_in, local_unreserved}
use Rattle.ms_text_laws.proofs.Flags.{binary_symbol, cast_symbol, Fresh, IsFresh}
use Rattle.ms_text_laws.proofs.Ops.{op_head, op_symbol, head_symbol, op_tail, op_split, next_body, OpFits, op_taken}

-- ---- results

-- the number that is next after a result
abbrev pub next_of : ℕ → Option Name → ℕ
next_of k None = k
next_of k (Some x) = k + numbers_of (Some x)

-- a result's number is the next one
abbrev pub IsNext : ℕ → Option Name → Type 0
IsNext k None = Unit {0}
IsNext k (Some (Number n)) = n ≡ k
IsNext k (Some (Called x)) = Unit {0}

-- a result's name is short
abbrev pub is_short_result : ℕ → Option Name → Bool
is_short_result most None = true
is_short_result most (Some x) = is_below most x

-- ---- what an instruction adds

abbrev pub inst_of : Op → Option Name → Bool → Inst
inst_of o result marked = record { op = o; result = result; marked = marked }

abbrev Grows : BodySoFar → Op → Option Name → Bool → Type 0
Grows b o result marked = next_body b result o marked ≡ record b { insts = b.insts ++ inst_of o result marked ∷ []; next = next_of b.next result; count = b.count + 1; phis = is_phi o }

pub grown : (b : BodySoFar) (o : Op) (result : Option Name) (marked : Bool) → name_formed (result_type o) result ≡ true → is_terminator o ≡ false → Grows b o result marked
grown b (op.Binary o flags t x y) (Some n) marked h e = refl
grown b (op.Binary o flags t x y) None marked h e = absurd cc
grown b (op.Icmp p flags t x y) (Some n) marked h e = refl
grown b (op.Icmp p flags t x y) None marked h e = absurd cc
grown b (op.Cast o flags from x to) (Some n) marked h e = refl
grown b (op.Cast o flags from x to) None marked h e = absurd cc
grown b (op.Select c t x y) (Some n) marked h e = refl
grown b (op.Select c t x y) None marked h e = absurd cc
grown b (op.Freeze t x) (Some n) marked h e = refl
grown b (op.Freeze t x) None marked h e = absurd cc
grown b (op.Phi t edges) (Some n) marked h e = refl
grown b (op.Phi t edges) None marked h e = absurd cc
grown b (op.Alloca t u count) (Some n) marked h e = refl
grown b (op.Alloca t u count) None marked h e = absurd cc
grown b (op.Load t x) (Some n) marked h e = refl
grown b (op.Load t x) None marked h e = absurd cc
grown b (op.Store t v x) (Some n) marked h e = absurd cc
grown b (op.Store t v x) None marked h e = refl
grown b (op.Gep t base indices) (Some n) marked h e = refl
grown b (op.Gep t base indices) None marked h e = absurd cc
grown b (op.Call None x args) (Some n) marked h e = absurd cc
grown b (op.Call None x args) None marked h e = refl
grown b (op.Call (Some t) x args) (Some n) marked h e = refl
grown b (op.Call (Some t) x args) None marked h e = absurd cc
grown b (op.Br to) result marked h e = absurd cc
grown b (op.CondBr c to other) result marked h e = absurd cc
grown b (op.Switch t v other cases) result marked h e = absurd cc
grown b (op.Ret value) result marked h e = absurd cc
grown b op.Unreachable result marked h e = absurd cc

abbrev Finishes : BodySoFar → Op → Option Name → Bool → Type 0
Finishes b o result marked =
    next_body b result o marked
    ≡ record b { blocks = b.blocks ++ record { name = name_or b.name 0; insts = b.insts ++ inst_of o result marked ∷ [] } ∷ []; name = None; insts = []; count = b.count + 1; phis = false }

pub finished : (b : BodySoFar) (o : Op) (result : Option Name) (marked : Bool) → name_formed (result_type o) result ≡ true → is_terminator o ≡ true → Finishes b o result marked × (next_of b.next result ≡ b.next)
finished b (op.Br to) None marked h e = (refl, refl)
finished b (op.Br to) (Some x) marked h e = absurd cc
finished b (op.CondBr c to other) None marked h e = (refl, refl)
finished b (op.CondBr c to other) (Some x) marked h e = absurd cc
finished b (op.Switch t v other cases) None marked h e = (refl, refl)
finished b (op.Switch t v other cases) (Some x) marked h e = absurd cc
finished b (op.Ret value) None marked h e = (refl, refl)
finished b (op.Ret value) (Some x) marked h e = absurd cc
finished b op.Unreachable None marked h e = (refl, refl)
finished b op.Unreachable (Some x) marked h e = absurd cc
finished b o result marked h e = absurd cc

-- ---- the first token of a line

fresh_local : (x : Name) → Fresh (local_token x).symbol
unfolding same_symbol
fresh_local (Number n) = rw (local_number_symbol n) (record { comma = refl; paren = refl; bracket = refl; attribute = refl })
fresh_local (Called x) = rw (local_text_symbol x) (record { comma = refl; paren = refl; bracket = refl; attribute = refl })

fresh_op : (o : Op) → name_formed (result_type o) None ≡ true → Fresh (op_symbol o)
unfolding same_symbol
fresh_op (op.Store t v x) h = record { comma = refl; paren = refl; bracket = refl; attribute = refl }
fresh_op (op.Call ret x args) h = record { comma = refl; paren = refl; bracket = refl; attribute = refl }
fresh_op (op.Br to) h = record { comma = refl; paren = refl; bracket = refl; attribute = refl }
fresh_op (op.CondBr c to other) h = record { comma = refl; paren = refl; bracket = refl; attribute = refl }
fresh_op (op.Switch t v other cases) h = record { comma = refl; paren = refl; bracket = refl; attribute = refl }
fresh_op (op.Ret value) h = record { comma = refl; paren = refl; bracket = refl; attribute = refl }
fresh_op op.Unreachable h = record { comma = refl; paren = refl; bracket = refl; attribute = refl }
fresh_op o h = absurd cc

-- the tokens of an instruction's line
abbrev pub tokens_of : Bool → Op → Option Name → Bool → List Lexeme
tokens_of dotted o result marked = named_tokens result ++ (op_tokens dotted o ++ mark_tokens marked)

op_line : (dotted : Bool) (o : Op) (marked : Bool) (rest : List Lexeme) → (op_tokens dotted o ++ mark_tokens marked) ++ rest ≡ op_head o ∷ (op_tail dotted o ++ (mark_tokens marked ++ rest))
op_line dotted o marked rest = ap (λ ys. (ys ++ mark_tokens marked) ++ rest) (op_split dotted o) ∙ ap (λ ys. op_head o ∷ ys) (append_assoc (op_tail dotted o) (mark_tokens marked) rest)

pub inst_fresh : (dotted : Bool) (o : Op) (result : Option Name) (marked : Bool) (rest : List Lexeme) → name_formed (result_type o) result ≡ true → IsFresh (tokens_of dotted o result marked ++ rest)
inst_fresh dotted o (Some x) marked rest h = fresh_local x
inst_fresh dotted o None marked rest h =
    subst (λ ts. Fresh (head end_of_text ts).symbol) (sym (op_line dotted o marked rest)) (subst Fresh (sym (head_symbol o)) (fresh_op o h))

-- ---- words after a result's name

binary_gives : (phis : Bool) (o : BinOp) → gives_value phis (binary_symbol o) ≡ true
unfolding binary_op
binary_gives phis binary.Add = refl
binary_gives phis binary.Sub = refl
binary_gives phis binary.Mul = refl
binary_gives phis binary.Udiv = refl
binary_gives phis binary.Sdiv = refl
binary_gives phis binary.Urem = refl
binary_gives phis binary.Srem = refl
binary_gives phis binary.Shl = refl
binary_gives phis binary.Lshr = refl
binary_gives phis binary.Ashr = refl
binary_gives phis binary.And = refl
binary_gives phis binary.Or = refl
binary_gives phis binary.Xor = refl

cast_gives : (phis : Bool) (o : CastOp) → gives_value phis (cast_symbol o) ≡ true
unfolding binary_op cast_op
cast_gives phis cast.Trunc = refl
cast_gives phis cast.Zext = refl
cast_gives phis cast.Sext = refl
cast_gives phis cast.PtrToInt = refl
cast_gives phis cast.IntToPtr = refl
cast_gives phis cast.Bitcast = refl

gives_good : (phis : Bool) (o : Op) (x : Name) → name_formed (result_type o) (Some x) ≡ true → (is_phi o ≡ true → phis ≡ true) → gives_value phis (op_symbol o) ≡ true
gives_good phis (op.Binary o flags t a b) x h p = binary_gives phis o
gives_good phis (op.Cast o flags from a to) x h p = cast_gives phis o
gives_good phis (op.Phi t edges) x h p = p refl
gives_good phis (op.Icmp q flags t a b) x h p = refl
gives_good phis (op.Select c t a b) x h p = refl
gives_good phis (op.Freeze t a) x h p = refl
gives_good phis (op.Alloca t u count) x h p = refl
gives_good phis (op.Load t a) x h p = refl
gives_good phis (op.Gep t base indices) x h p = refl
gives_good phis (op.Call ret callee args) x h p = refl
gives_good phis o x h p = absurd cc

module _ (limits : Limits) (some : 0 < limits.indices) (dotted : Bool) where
  abbrev pub Loop : BodySoFar → List Lexeme → BodySoFar → List Lexeme → Type 0
  Loop b ts v rest = Takes (loop (line_begins limits) (line limits) b) ts v rest

  -- ---- unnamed lines

  unnamed_line : (b : BodySoFar) (o : Op) (t : Lexeme) {ts rest : List Lexeme} {v : BodySoFar} → name_formed (result_type o) None ≡ true → Takes (instruction limits (opened b) None (op_symbol o)) ts v rest → Takes (line_by limits b (op_symbol o) t) ts v rest
  unnamed_line b (op.Store x v a) t h p = p
  unnamed_line b (op.Call ret x args) t h p = p
  unnamed_line b (op.Br to) t h p = p
  unnamed_line b (op.CondBr c to other) t h p = p
  unnamed_line b (op.Switch x v other cases) t h p = p
  unnamed_line b (op.Ret value) t h p = p
  unnamed_line b op.Unreachable t h p = p
  unnamed_line b o t h p = absurd cc

  room_good : (b : BodySoFar) → b.count < limits.instructions → counted limits b (Ok true) ≡ Ok true
  room_good b h = ap (λ c. cond c (Ok true) (Err (r.Limit limit.Instructions))) (lt-ltb b.count limits.instructions h)

  unnamed_room : (b : BodySoFar) (o : Op) (t : Lexeme) → name_formed (result_type o) None ≡ true → b.count < limits.instructions → line_begins_by limits b (op_symbol o) t ≡ Ok true
  unnamed_room b (op.Store x v a) t h few = room_good b few
  unnamed_room b (op.Call ret x args) t h few = room_good b few
  unnamed_room b (op.Br to) t h few = room_good b few
  unnamed_room b (op.CondBr c to other) t h few = room_good b few
  unnamed_room b (op.Switch x v other cases) t h few = room_good b few
  unnamed_room b (op.Ret value) t h few = room_good b few
  unnamed_room b op.Unreachable t h few = room_good b few
  unnamed_room b o t h few = absurd cc

  pub begins_good : (b : BodySoFar) (t : Lexeme) → b.next < limits.numbers → line_begins_by limits b t.symbol t ≡ Ok true → line_begins limits b t ≡ Ok true
  unfolding line_begins
  begins_good b t h p = ap (λ c. cond c (line_begins_by limits b t.symbol t) (Err r.Numbering)) (lt-ltb b.next limits.numbers h) ∙ p

  -- ---- named lines

  equals_taken : {ts : List Lexeme} → Takes (word s.Equals) (sign (codes "=") ∷ ts) tt ts
  unfolding same_symbol symbol_of
  equals_taken = word_taken s.Equals refl refl

  value_word : (phis : Bool) (o : Op) (x : Name) → name_formed (result_type o) (Some x) ≡ true → (is_phi o ≡ true → phis ≡ true) → value_word_of phis (op_head o) ≡ Ok (op_symbol o)
  value_word phis o x h p =
      ap (λ y. cond (gives_value phis y) (Ok y) (Err (refusal (op_head o)))) (head_symbol o)
      ∙ ap (λ c. cond c (Ok (op_symbol o)) (Err (refusal (op_head o)))) (gives_good phis o x h p)

  named_taken : (b : BodySoFar) (o : Op) (x : Name) (marked : Bool) (rest : List Lexeme) → OpFits limits o → name_formed (result_type o) (Some x) ≡ true → (is_phi o ≡ true → b.phis ≡ true) → IsFresh rest
      → Takes (named_line limits b x) (sign (codes "=") ∷ ((op_tokens dotted o ++ mark_tokens marked) ++ rest)) (next_body b (Some x) o marked) rest
  unfolding named_line
  named_taken b o x marked rest h n p fresh =
      along (ap (λ ys. sign (codes "=") ∷ ys) (op_line dotted o marked rest))
      (chain equals_taken (chain (taken (value_word b.phis o x n p)) (op_taken limits b (Some x) marked rest fresh dotted o some h n)))

  -- ---- lines

  -- the result of an instruction as it may stand
  abbrev pub ResultFits : ℕ → Option Name → Type 0
  ResultFits next result = IsNext next result × (is_short_result limits.names result ≡ true)

  formed_local : (o : Op) (x : Name) → name_formed (result_type o) (Some x) ≡ true → is_local_name x ≡ true
  formed_local o x h = elim (result_type o) as (λ t. name_formed t (Some x) ≡ true → is_local_name x ≡ true) [
    | None ↦ λ p. absurd cc
    | Some t ↦ λ p. p
  ] h

  pub line_taken : (b : BodySoFar) (o : Op) (result : Option Name) (marked : Bool) (rest : List Lexeme) {v : BodySoFar} {end : List Lexeme} → b.next < limits.numbers → b.count < limits.instructions → OpFits limits o
      → name_formed (result_type o) result ≡ true → ResultFits (opened b).next result → (is_phi o ≡ true → (opened b).phis ≡ true) → IsFresh rest
      → Loop (next_body (opened b) result o marked) rest v end → Loop b (tokens_of dotted o result marked ++ rest) v end
  unfolding line
  line_taken b o None marked rest numbers room h n fits p fresh then =
      along (op_line dotted o marked rest)
      (turned (begins_good b (op_head o) numbers (ap (λ y. line_begins_by limits b y (op_head o)) (head_symbol o) ∙ unnamed_room b o (op_head o) n room))
      (subst (λ y. Takes (line_by limits b y (op_head o)) (op_tail dotted o ++ (mark_tokens marked ++ rest)) (next_body (opened b) None o marked) rest) (sym (head_symbol o))
      (unnamed_line b o (op_head o) n (op_taken limits (opened b) None marked rest fresh dotted o some h n)))
      then)
  line_taken b o (Some (Number k)) marked rest numbers room h n fits p fresh then =
      let t : Lexeme = local_token (Number k) in
      let small : k < 2 ^ 32 = ltb-true k (2 ^ 32) (formed_local o (Number k) n) in
      let spelt : read.decimal (name_in t) ≡ (opened b).next = local_number_in k small ∙ fits.0 in
      let begins : line_begins_by limits b t.symbol t ≡ Ok true =
      ap (λ y. line_begins_by limits b y t) (local_number_symbol k)
      ∙ ap (λ c. cond c (counted limits b (Ok true)) (Err r.Numbering)) (eq-eqb (read.decimal (name_in t)) (opened b).next spelt)
      ∙ room_good b room in
      let named = subst (λ j. Takes (named_line limits (opened b) (Number j)) (sign (codes "=") ∷ ((op_tokens dotted o ++ mark_tokens marked) ++ rest)) (next_body (opened b) (Some (Number k)) o marked) rest) fits.0
      (named_taken (opened b) o (Number k) marked rest h n p fresh) in
      turned (begins_good b t numbers begins)
      (subst (λ y. Takes (line_by limits b y t) (sign (codes "=") ∷ ((op_tokens dotted o ++ mark_tokens marked) ++ rest)) (next_body (opened b) (Some (Number k)) o marked) rest) (sym (local_number_symbol k)) named)
      then
  line_taken b o (Some (Called x)) marked rest numbers room h n fits p fresh then =
      let t : Lexeme = local_token (Called x) in
      let local = formed_local o (Called x) n in
      let spelt : name_in t ≡ x = local_text_in x (and_parts (are_bytes x) _ local).0 in
      let begins : line_begins_by limits b t.symbol t ≡ Ok true =
      ap (λ y. line_begins_by limits b y t) (local_text_symbol x)
      ∙ ap (λ text. unreserved Instrumented text (counted limits b (short limits text))) spelt
      ∙ ap (λ c. cond c (Err r.Reserved) (counted limits b (short limits x))) (local_unreserved x local)
      ∙ ap (λ c. counted limits b (cond c (Ok true) (Err (r.Limit limit.Name)))) fits.1
      ∙ room_good b room in
      let named = subst (λ text. Takes (named_line limits (opened b) (Called text)) (sign (codes "=") ∷ ((op_tokens dotted o ++ mark_tokens marked) ++ rest)) (next_body (opened b) (Some (Called x)) o marked) rest) (sym spelt)
      (named_taken (opened b) o (Called x) marked rest h n p fresh) in
      turned (begins_good b t numbers begins)
      (subst (λ y. Takes (line_by limits b y t) (sign (codes "=") ∷ ((op_tokens dotted o ++ mark_tokens marked) ++ rest)) (next_body (opened b) (Some (Called x)) o marked) rest) (sym (local_text_symbol x)) named)
      then
