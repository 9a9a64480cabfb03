-- Flags, marks and words of operations are read as what they were written of.
use Rattle.std.proofs.Common.{◌≡◌, Bool, true, false, not, ◌&&◌, ◌||◌, cond, List, ◌∷◌, ◌++◌, Some, Ok, refl, sym, ap, ◌∙◌, append_assoc}
use Rattle.std.specs.Prelude.{codes}
use Rattle.std.proofs.lemmas.Bool.{and_from, and_parts}
use Rattle.ms_bits.specs.declared.operations.BinOp.{BinOp}
use Rattle.ms_bits.specs.declared.operations.BinOp.TheVariants as binary
use Rattle.ms_bits.specs.declared.operations.CastOp.{CastOp}
use Rattle.ms_bits.specs.declared.operations.CastOp.TheVariants as cast
use Rattle.ms_bits.specs.declared.operations.Pred.{Pred}
use Rattle.ms_bits.specs.declared.operations.Pred.TheVariants as predicate
use Rattle.ms_bits.specs.declared.operations.Flags.{Flags}
use Rattle.ms_lex.specs.Tokens.{Text}
use Rattle.ms_lex.specs.Grammar.{head, give, loop}
use Rattle.ms_bits.specs.NoFlags.{no_flags}
use Rattle.ms_ir.specs.declared.forms.Form.TheVariants.{Instrumented}
use Rattle.ms_text_grammar.specs.declared.symbols.Symbol.{Symbol}
use Rattle.ms_text_grammar.specs.declared.symbols.Symbol.TheVariants as s
use Rattle.ms_text_grammar.specs.Lexemes.{Lexeme, end_of_text, same_symbol, symbol_of, word_symbol}
use Rattle.ms_text_grammar.specs.Skipped.{is_attribute, meta, in_parens, attached, suffix, suffixes, suffixes_from}
use Rattle.ms_text_grammar.specs.Insts.{is_set, with_flag, flag_begins, flags_of, binary_carries, cast_carries, compare_carries, predicate_by, predicate_word, known}
use Rattle.ms_check_valid.specs.FormedCode.{are_among, binary_flags, cast_flags}
use Rattle.ms_text_grammar.specs.LayoutPieces.{word as word_token, meta as meta_token}
use Rattle.ms_text_grammar.specs.LayoutInsts.{binary_word, cast_word, predicate_text, flag_token, flag_tokens, mark_tokens}
use Rattle.ms_text_laws.proofs.Takes.{Takes, given, taken, seen, chain, turned, ended, by_symbol}
use Rattle.ms_text_laws.proofs.Listed.{comma_is}

-- ---- flags

-- the flags that may be read
abbrev pub carried : (Symbol → Bool) → Flags
carried carries = record { nuw = carries s.Nuw; nsw = carries s.Nsw; exact = carries s.Exact; disjoint = carries s.Disjoint; nneg = carries s.Nneg; samesign = carries s.SameSign }

along_implied : (a b c : Bool) → (not a || b) ≡ true → (not b || c) ≡ true → (not a || c) ≡ true
along_implied false b c p q = refl
along_implied true true c p q = q
along_implied true false c p q = absurd cc

abbrev pub Among : Flags → Flags → Type 0
Among a b =
    ((not a.nuw || b.nuw) ≡ true) × ((not a.nsw || b.nsw) ≡ true) × ((not a.exact || b.exact) ≡ true)
    × ((not a.disjoint || b.disjoint) ≡ true) × ((not a.nneg || b.nneg) ≡ true) × ((not a.samesign || b.samesign) ≡ true)

among_parts : (a b : Flags) → are_among a b ≡ true → Among a b
among_parts a b h =
    let e = and_parts _ (not a.samesign || b.samesign) h in
    let d = and_parts _ (not a.nneg || b.nneg) e.0 in
    let c = and_parts _ (not a.disjoint || b.disjoint) d.0 in
    let x = and_parts _ (not a.exact || b.exact) c.0 in
    let w = and_parts (not a.nuw || b.nuw) (not a.nsw || b.nsw) x.0 in
    (w.0, w.1, x.1, c.1, d.1, e.1)

pub among_among : (a b c : Flags) → are_among a b ≡ true → are_among b c ≡ true → Among a c
among_among a b c p q =
    let f = among_parts a b p in
    let g = among_parts b c q in (
      along_implied a.nuw b.nuw c.nuw f.0 g.0,
      along_implied a.nsw b.nsw c.nsw f.1 g.1,
      along_implied a.exact b.exact c.exact f.2 g.2,
      along_implied a.disjoint b.disjoint c.disjoint f.3 g.3,
      along_implied a.nneg b.nneg c.nneg f.4 g.4,
      along_implied a.samesign b.samesign c.samesign f.5 g.5,
    )

module _ (carries : Symbol → Bool) where
  abbrev From : Flags → List Lexeme → Flags → List Lexeme → Type 0
  From start ts flags rest = Takes (loop (flag_begins carries) (λ flags t. give (with_flag flags t.symbol)) start) ts flags rest

  -- a flag that is written where it is set
  step : (x : Symbol) (text : Text) (set : Bool) (start : Flags) (ts : List Lexeme) (flags : Flags) (rest : List Lexeme)
      → (word_token text).symbol ≡ x → (not set || carries x) ≡ true → is_set start x ≡ false
      → From (cond set (with_flag start x) start) ts flags rest → From start (flag_token set text ++ ts) flags rest
  step x text false start ts flags rest e may unset p = p
  step x text true start ts flags rest e may unset p =
      let begins : (carries (word_token text).symbol && not (is_set start (word_token text).symbol)) ≡ true = ap (λ y. carries y && not (is_set start y)) e ∙ and_from (carries x) (not (is_set start x)) may (ap not unset) in
      turned (ap Ok begins) given (rw e p)

  -- the state after a flag
  set_nuw : (b : Bool) → cond b (with_flag no_flags s.Nuw) no_flags ≡ record no_flags { nuw = b }
  set_nuw true = refl
  set_nuw false = refl

  set_nsw : (a b : Bool) → cond b (record no_flags { nuw = a; nsw = true }) (record no_flags { nuw = a }) ≡ record no_flags { nuw = a; nsw = b }
  set_nsw a true = refl
  set_nsw a false = refl

  set_exact : (a b c : Bool) → cond c (record no_flags { nuw = a; nsw = b; exact = true }) (record no_flags { nuw = a; nsw = b }) ≡ record no_flags { nuw = a; nsw = b; exact = c }
  set_exact a b true = refl
  set_exact a b false = refl

  set_disjoint : (a b c d : Bool) → cond d (record no_flags { nuw = a; nsw = b; exact = c; disjoint = true }) (record no_flags { nuw = a; nsw = b; exact = c }) ≡ record no_flags { nuw = a; nsw = b; exact = c; disjoint = d }
  set_disjoint a b c true = refl
  set_disjoint a b c false = refl

  set_nneg : (a b c d e : Bool) → cond e (record no_flags { nuw = a; nsw = b; exact = c; disjoint = d; nneg = true }) (record no_flags { nuw = a; nsw = b; exact = c; disjoint = d })
      ≡ record no_flags { nuw = a; nsw = b; exact = c; disjoint = d; nneg = e }
  set_nneg a b c d true = refl
  set_nneg a b c d false = refl

  set_samesign : (flags : Flags) (f : Bool) → flags.samesign ≡ f → cond f (record flags { samesign = true }) (record flags { samesign = false }) ≡ flags
  set_samesign flags true h = ap (λ b. record flags { samesign = b }) (sym h)
  set_samesign flags false h = ap (λ b. record flags { samesign = b }) (sym h)

  pub flags_taken : (flags : Flags) (rest : List Lexeme) → Among flags (carried carries) → carries (head end_of_text rest).symbol ≡ false → Takes (flags_of carries) (flag_tokens flags ++ rest) flags rest
  unfolding flags_of flag_tokens symbol_of word_symbol
  flags_taken flags rest h last =
      let a = flag_token flags.nuw (codes "nuw") in
      let b = flag_token flags.nsw (codes "nsw") in
      let c = flag_token flags.exact (codes "exact") in
      let d = flag_token flags.disjoint (codes "disjoint") in
      let e = flag_token flags.nneg (codes "nneg") in
      let f = flag_token flags.samesign (codes "samesign") in
      let no_more : (carries (head end_of_text rest).symbol && not (is_set flags (head end_of_text rest).symbol)) ≡ false = ap (λ t. t && not (is_set flags (head end_of_text rest).symbol)) last in
      let done : From flags rest flags rest = ended (ap Ok no_more) in
      rw (append_assoc a (b ++ (c ++ (d ++ (e ++ f)))) rest, append_assoc b (c ++ (d ++ (e ++ f))) rest, append_assoc c (d ++ (e ++ f)) rest, append_assoc d (e ++ f) rest, append_assoc e f rest)
      (step s.Nuw (codes "nuw") flags.nuw no_flags _ flags rest refl h.0 refl (rw (set_nuw flags.nuw)
      (step s.Nsw (codes "nsw") flags.nsw (record no_flags { nuw = flags.nuw }) _ flags rest refl h.1 refl (rw (set_nsw flags.nuw flags.nsw)
      (step s.Exact (codes "exact") flags.exact (record no_flags { nuw = flags.nuw; nsw = flags.nsw }) _ flags rest refl h.2 refl (rw (set_exact flags.nuw flags.nsw flags.exact)
      (step s.Disjoint (codes "disjoint") flags.disjoint (record no_flags { nuw = flags.nuw; nsw = flags.nsw; exact = flags.exact }) _ flags rest refl h.3 refl (rw (set_disjoint flags.nuw flags.nsw flags.exact flags.disjoint)
      (step s.Nneg (codes "nneg") flags.nneg (record no_flags { nuw = flags.nuw; nsw = flags.nsw; exact = flags.exact; disjoint = flags.disjoint }) _ flags rest refl h.4 refl (rw (set_nneg flags.nuw flags.nsw flags.exact flags.disjoint flags.nneg)
      (step s.SameSign (codes "samesign") flags.samesign (record flags { samesign = false }) rest flags rest refl h.5 refl (rw (set_samesign flags flags.samesign refl) done))))))))))))

-- the flags of a binary operation are carried by it
pub binary_among : (o : BinOp) → are_among (binary_flags o) (carried (binary_carries o)) ≡ true
unfolding binary_carries same_symbol
binary_among binary.Add = refl
binary_among binary.Sub = refl
binary_among binary.Mul = refl
binary_among binary.Udiv = refl
binary_among binary.Sdiv = refl
binary_among binary.Urem = refl
binary_among binary.Srem = refl
binary_among binary.Shl = refl
binary_among binary.Lshr = refl
binary_among binary.Ashr = refl
binary_among binary.And = refl
binary_among binary.Or = refl
binary_among binary.Xor = refl

pub cast_among : (o : CastOp) → are_among (cast_flags o) (carried (cast_carries o)) ≡ true
unfolding cast_carries same_symbol
cast_among cast.Trunc = refl
cast_among cast.Zext = refl
cast_among cast.Sext = refl
cast_among cast.PtrToInt = refl
cast_among cast.IntToPtr = refl
cast_among cast.Bitcast = refl

pub compare_among : are_among (record no_flags { samesign = true }) (carried compare_carries) ≡ true
unfolding same_symbol
compare_among = refl

-- types carry no flag
pub binary_type : (o : BinOp) → (binary_carries o s.IntType ≡ false) × (binary_carries o s.PtrType ≡ false)
unfolding binary_carries same_symbol
binary_type binary.Add = (refl, refl)
binary_type binary.Sub = (refl, refl)
binary_type binary.Mul = (refl, refl)
binary_type binary.Udiv = (refl, refl)
binary_type binary.Sdiv = (refl, refl)
binary_type binary.Urem = (refl, refl)
binary_type binary.Srem = (refl, refl)
binary_type binary.Shl = (refl, refl)
binary_type binary.Lshr = (refl, refl)
binary_type binary.Ashr = (refl, refl)
binary_type binary.And = (refl, refl)
binary_type binary.Or = (refl, refl)
binary_type binary.Xor = (refl, refl)

pub cast_type : (o : CastOp) → (cast_carries o s.IntType ≡ false) × (cast_carries o s.PtrType ≡ false)
unfolding cast_carries same_symbol
cast_type cast.Trunc = (refl, refl)
cast_type cast.Zext = (refl, refl)
cast_type cast.Sext = (refl, refl)
cast_type cast.PtrToInt = (refl, refl)
cast_type cast.IntToPtr = (refl, refl)
cast_type cast.Bitcast = (refl, refl)

-- ---- predicates

abbrev PredicateWord : Pred → Type 0
PredicateWord p = (predicate_by (word_token (predicate_text p)).symbol ≡ Some p) × (compare_carries (word_token (predicate_text p)).symbol ≡ false)

pub predicate_is : (p : Pred) → PredicateWord p
unfolding predicate_by predicate_text symbol_of word_symbol same_symbol
predicate_is predicate.Eq = (refl, refl)
predicate_is predicate.Ne = (refl, refl)
predicate_is predicate.Ugt = (refl, refl)
predicate_is predicate.Uge = (refl, refl)
predicate_is predicate.Ult = (refl, refl)
predicate_is predicate.Ule = (refl, refl)
predicate_is predicate.Sgt = (refl, refl)
predicate_is predicate.Sge = (refl, refl)
predicate_is predicate.Slt = (refl, refl)
predicate_is predicate.Sle = (refl, refl)

pub predicate_taken : (p : Pred) (ts : List Lexeme) → Takes predicate_word (word_token (predicate_text p) ∷ ts) p ts
unfolding predicate_word
predicate_taken p ts = taken (ap (λ o. known o (word_token (predicate_text p))) (predicate_is p).0)

-- ---- words of operations

abbrev pub binary_symbol : BinOp → Symbol
binary_symbol binary.Add = s.Add
binary_symbol binary.Sub = s.Sub
binary_symbol binary.Mul = s.Mul
binary_symbol binary.Udiv = s.Udiv
binary_symbol binary.Sdiv = s.Sdiv
binary_symbol binary.Urem = s.Urem
binary_symbol binary.Srem = s.Srem
binary_symbol binary.Shl = s.Shl
binary_symbol binary.Lshr = s.Lshr
binary_symbol binary.Ashr = s.Ashr
binary_symbol binary.And = s.And
binary_symbol binary.Or = s.Or
binary_symbol binary.Xor = s.Xor

abbrev pub cast_symbol : CastOp → Symbol
cast_symbol cast.Trunc = s.Trunc
cast_symbol cast.Zext = s.Zext
cast_symbol cast.Sext = s.Sext
cast_symbol cast.PtrToInt = s.PtrToInt
cast_symbol cast.IntToPtr = s.IntToPtr
cast_symbol cast.Bitcast = s.Bitcast

pub binary_word_symbol : (o : BinOp) → (word_token (binary_word o)).symbol ≡ binary_symbol o
unfolding binary_word symbol_of word_symbol
binary_word_symbol binary.Add = refl
binary_word_symbol binary.Sub = refl
binary_word_symbol binary.Mul = refl
binary_word_symbol binary.Udiv = refl
binary_word_symbol binary.Sdiv = refl
binary_word_symbol binary.Urem = refl
binary_word_symbol binary.Srem = refl
binary_word_symbol binary.Shl = refl
binary_word_symbol binary.Lshr = refl
binary_word_symbol binary.Ashr = refl
binary_word_symbol binary.And = refl
binary_word_symbol binary.Or = refl
binary_word_symbol binary.Xor = refl

pub cast_word_symbol : (o : CastOp) → (word_token (cast_word o)).symbol ≡ cast_symbol o
unfolding cast_word symbol_of word_symbol
cast_word_symbol cast.Trunc = refl
cast_word_symbol cast.Zext = refl
cast_word_symbol cast.Sext = refl
cast_word_symbol cast.PtrToInt = refl
cast_word_symbol cast.IntToPtr = refl
cast_word_symbol cast.Bitcast = refl

-- ---- marks

-- a token with which a line begins, or the end of a body: nothing that goes on with an instruction
pub record Fresh (x : Symbol) : Type 0 where
  pub comma : same_symbol x s.Comma ≡ false
  pub paren : same_symbol x s.OpenParen ≡ false
  pub bracket : same_symbol x s.OpenBracket ≡ false
  pub attribute : is_attribute x ≡ false

abbrev pub IsFresh : List Lexeme → Type 0
IsFresh rest = Fresh (head end_of_text rest).symbol

pub no_mark : (rest : List Lexeme) (marked : Bool) → IsFresh rest → Takes (suffixes Instrumented marked) rest marked rest
unfolding suffixes
no_mark rest marked h = ended (ap Ok h.comma)

pub mark_symbol : (meta_token (codes "!nosanitize")).symbol ≡ s.NoSanitize
unfolding symbol_of
mark_symbol = refl

node_symbol : (meta_token (codes "!0")).symbol ≡ s.Meta
unfolding symbol_of
node_symbol = refl

-- the mark after its comma
pub mark_taken : (rest : List Lexeme) → IsFresh rest → Takes (suffix Instrumented false) (meta_token (codes "!nosanitize") ∷ meta_token (codes "!0") ∷ rest) true rest
unfolding suffix attached meta in_parens symbol_of same_symbol
mark_taken rest h =
    by_symbol s.NoSanitize mark_symbol
    (chain (taken refl) (by_symbol s.Meta node_symbol (chain (taken refl) (chain (chain (seen (ap Ok h.paren)) given) given))))

pub marked_taken : (marked : Bool) (rest : List Lexeme) → IsFresh rest → Takes (suffixes_from Instrumented false) (mark_tokens marked ++ rest) marked rest
unfolding suffixes_from suffixes
marked_taken false rest h = chain given (no_mark rest false h)
marked_taken true rest h = chain given (turned (ap Ok comma_is) (mark_taken rest h) (no_mark rest true h))

pub ended_taken : (rest : List Lexeme) → IsFresh rest → Takes (suffixes_from Instrumented true) (meta_token (codes "!nosanitize") ∷ meta_token (codes "!0") ∷ rest) true rest
unfolding suffixes_from
ended_taken rest h = chain (mark_taken rest h) (no_mark rest true h)
