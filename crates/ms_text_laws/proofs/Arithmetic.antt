-- Arithmetic, casts, comparisons and choices are read as operations that give a value.
use Rattle.std.proofs.Common.{◌≡◌, Bool, true, not, ◌&&◌, ◌||◌, List, [], ◌∷◌, refl, subst}
use Rattle.std.proofs.lemmas.Bool.{and_from}
use Rattle.ms_bits.specs.declared.operations.BinOp.{BinOp}
use Rattle.ms_bits.specs.declared.operations.BinOp.TheVariants as binary
use Rattle.ms_bits.specs.declared.operations.CastOp.{CastOp}
use Rattle.ms_bits.specs.declared.operations.CastOp.TheVariants as cast
use Rattle.ms_bits.specs.declared.operations.Flags.{Flags}
use Rattle.ms_ir.specs.declared.syntax.Ty.{Int}
use Rattle.ms_ir.specs.declared.syntax.Op.{Op}
use Rattle.ms_ir.specs.declared.syntax.Op.TheVariants as op
use Rattle.ms_bits.specs.NoFlags.{no_flags}
use Rattle.ms_ir.specs.declared.forms.Form.{Form}
use Rattle.ms_text_grammar.specs.declared.symbols.Symbol.{Symbol}
use Rattle.ms_text_grammar.specs.declared.symbols.Symbol.TheVariants as s
use Rattle.ms_text_grammar.specs.Lexemes.{Lexeme, same_symbol}
use Rattle.ms_text_grammar.specs.Insts.{is_set, with_flag, flags_of, binary_carries, cast_carries, compare_carries, binary_rule, compare_rule, cast_rule, select_rule, freeze_rule}
use Rattle.ms_text_grammar.specs.Texts.{ReadsUpTo}
use Rattle.ms_check_valid.specs.FormedCode.{is_width, is_value_type, are_among, binary_flags, cast_flags}
use Rattle.ms_text_laws.proofs.Sound.{AllSound}
use Rattle.ms_text_laws.proofs.FormedTypes.{value_is_type}
use Rattle.ms_text_laws.proofs.Yields.{Yields, given, chained, after, looped, begun}
use Rattle.ms_text_laws.proofs.Parts.{GivesValue, op_is, operand_more, one_operand, two_operands, int_type_read, value_type_read, value_read}

-- ---- flags

-- the flags that may be read
abbrev carried : (Symbol → Bool) → Flags
carried carries = record { nuw = carries s.Nuw; nsw = carries s.Nsw; exact = carries s.Exact; disjoint = carries s.Disjoint; nneg = carries s.Nneg; samesign = carries s.SameSign }

-- each flag that is set is among these
abbrev Among : Flags → Flags → Type 0
Among a b =
    ((not a.nuw || b.nuw) ≡ true) × ((not a.nsw || b.nsw) ≡ true) × ((not a.exact || b.exact) ≡ true)
    × ((not a.disjoint || b.disjoint) ≡ true) × ((not a.nneg || b.nneg) ≡ true) × ((not a.samesign || b.samesign) ≡ true)

all_among : (a b : Flags) → Among a b → are_among a b ≡ true
all_among a b h =
    and_from _ (not a.samesign || b.samesign)
    (and_from _ (not a.nneg || b.nneg)
    (and_from _ (not a.disjoint || b.disjoint)
    (and_from _ (not a.exact || b.exact)
    (and_from (not a.nuw || b.nuw) (not a.nsw || b.nsw) h.0 h.1) h.2) h.3) h.4) h.5

one_more : (carries : Symbol → Bool) (x : Symbol) (flags : Flags) → carries x ≡ true → Among flags (carried carries) → Among (with_flag flags x) (carried carries)
one_more carries s.Nuw flags e h = (e, h.1, h.2, h.3, h.4, h.5)
one_more carries s.Nsw flags e h = (h.0, e, h.2, h.3, h.4, h.5)
one_more carries s.Exact flags e h = (h.0, h.1, e, h.3, h.4, h.5)
one_more carries s.Disjoint flags e h = (h.0, h.1, h.2, e, h.4, h.5)
one_more carries s.Nneg flags e h = (h.0, h.1, h.2, h.3, e, h.5)
one_more carries s.SameSign flags e h = (h.0, h.1, h.2, h.3, h.4, e)
one_more carries x flags e h = h

some_among : (carries : Symbol → Bool) → Yields (flags_of carries) (λ flags. Among flags (carried carries))
unfolding flags_of
some_among carries =
    looped (refl, refl, refl, refl, refl, refl)
    (λ flags t sound h e. given (one_more carries t.symbol flags (begun (carries t.symbol) (not (is_set flags t.symbol)) e) h))

flags_read : (carries : Symbol → Bool) (all : Flags) → carried carries ≡ all → Yields (flags_of carries) (λ flags. are_among flags all ≡ true)
flags_read carries all e =
    record { each = λ ts v rest sound h. subst (λ f. are_among v f ≡ true) e (all_among v (carried carries) ((some_among carries).each ts v rest sound h)) }

-- the flags that an operation may carry are those that may be read after it
binary_carried : (o : BinOp) → carried (binary_carries o) ≡ binary_flags o
unfolding binary_carries same_symbol
binary_carried binary.Add = refl
binary_carried binary.Sub = refl
binary_carried binary.Mul = refl
binary_carried binary.Udiv = refl
binary_carried binary.Sdiv = refl
binary_carried binary.Urem = refl
binary_carried binary.Srem = refl
binary_carried binary.Shl = refl
binary_carried binary.Lshr = refl
binary_carried binary.Ashr = refl
binary_carried binary.And = refl
binary_carried binary.Or = refl
binary_carried binary.Xor = refl

cast_carried : (o : CastOp) → carried (cast_carries o) ≡ cast_flags o
unfolding cast_carries same_symbol
cast_carried cast.Trunc = refl
cast_carried cast.Zext = refl
cast_carried cast.Sext = refl
cast_carried cast.PtrToInt = refl
cast_carried cast.IntToPtr = refl
cast_carried cast.Bitcast = refl

compare_carried : carried compare_carries ≡ record no_flags { samesign = true }
unfolding same_symbol
compare_carried = refl

-- ---- operations

binary_yields : (form : Form) (o : BinOp) → Yields (binary_rule form o) GivesValue
unfolding binary_rule
binary_yields form o =
    chained (flags_read (binary_carries o) (binary_flags o) (binary_carried o)) (λ flags f. chained int_type_read (λ width w.
    chained (value_read form (Int width) w) (λ a p. after (λ comma. chained (value_read form (Int width) w) (λ b q.
    given (op_is (op.Binary o flags (Int width) a b) (and_from (is_width width) (are_among flags (binary_flags o)) w f) (two_operands (Int width) (Int width) a b p q) refl, refl, refl, refl))))))

pub binary_read : (form : Form) (o : BinOp) (ts : List Lexeme) (v : Op) (rest : List Lexeme) → AllSound ts → ReadsUpTo (binary_rule form o) ts v rest → GivesValue v
binary_read form o = (binary_yields form o).each

cast_yields : (form : Form) (o : CastOp) → Yields (cast_rule form o) GivesValue
unfolding cast_rule
cast_yields form o =
    chained (flags_read (cast_carries o) (cast_flags o) (cast_carried o)) (λ flags f. chained value_type_read (λ from t.
    chained (value_read form from (value_is_type from t)) (λ a p. after (λ word. chained value_type_read (λ to u.
    let types = and_from (is_value_type from) (is_value_type to) t u in
    let shape = and_from (is_value_type from && is_value_type to) (are_among flags (cast_flags o)) types f in
    given (op_is (op.Cast o flags from a to) shape (one_operand from a p) refl, refl, refl, refl))))))

pub cast_read : (form : Form) (o : CastOp) (ts : List Lexeme) (v : Op) (rest : List Lexeme) → AllSound ts → ReadsUpTo (cast_rule form o) ts v rest → GivesValue v
cast_read form o = (cast_yields form o).each

compare_yields : (form : Form) → Yields (compare_rule form) GivesValue
unfolding compare_rule
compare_yields form =
    chained (flags_read compare_carries (record no_flags { samesign = true }) compare_carried) (λ flags f. after (λ predicate. chained value_type_read (λ t w.
    chained (value_read form t (value_is_type t w)) (λ a p. after (λ comma. chained (value_read form t (value_is_type t w)) (λ b q.
    given (op_is (op.Icmp predicate flags t a b) (and_from (is_value_type t) (are_among flags (record no_flags { samesign = true })) w f) (two_operands t t a b p q) refl, refl, refl, refl)))))))

pub compare_read : (form : Form) (ts : List Lexeme) (v : Op) (rest : List Lexeme) → AllSound ts → ReadsUpTo (compare_rule form) ts v rest → GivesValue v
compare_read form = (compare_yields form).each

select_yields : (form : Form) → Yields (select_rule form) GivesValue
unfolding select_rule
select_yields form =
    after (λ bit. chained (value_read form (Int 1) refl) (λ c r. after (λ comma. chained value_type_read (λ t w.
    chained (value_read form t (value_is_type t w)) (λ a p. after (λ again. after (λ same. chained (value_read form t (value_is_type t w)) (λ b q.
    given (op_is (op.Select c t a b) w (operand_more (Int 1) c ((t, a) ∷ (t, b) ∷ []) r (two_operands t t a b p q)) refl, refl, refl, refl)))))))))

pub select_read : (form : Form) (ts : List Lexeme) (v : Op) (rest : List Lexeme) → AllSound ts → ReadsUpTo (select_rule form) ts v rest → GivesValue v
select_read form = (select_yields form).each

freeze_yields : (form : Form) → Yields (freeze_rule form) GivesValue
unfolding freeze_rule
freeze_yields form =
    chained value_type_read (λ t w. chained (value_read form t (value_is_type t w)) (λ a p. given (op_is (op.Freeze t a) w (one_operand t a p) refl, refl, refl, refl)))

pub freeze_read : (form : Form) (ts : List Lexeme) (v : Op) (rest : List Lexeme) → AllSound ts → ReadsUpTo (freeze_rule form) ts v rest → GivesValue v
freeze_read form = (freeze_yields form).each
