-- The bodies of functions are read as what they were written of.
use Rattle.std.proofs.Common.{◌≡◌, ℕ, ◌+◌, ◌≤◌, ◌<◌, ◌^◌, Bool, true, false, not, ◌&&◌, cond, List, [], ◌∷◌, ◌++◌, map, length, flat_map, Option, Some, None, Ok, Err, refl, sym, ap, ◌∙◌, subst, append_assoc, append-nil, arith, eq-eqb, ne_eqb}
use Rattle.std.specs.Prelude.{codes, ◌==◌}
use Rattle.std.proofs.lemmas.Bool.{ltb-true, lt-ltb, and_parts}
use Rattle.ms_ir.specs.Instructions.{is_phi}
use Rattle.ms_lex.specs.Numbers as read
use Rattle.ms_lex.specs.Grammar.{head}
use Rattle.ms_ir.specs.declared.syntax.Name.{Name}
use Rattle.ms_ir.specs.declared.syntax.Name.TheVariants.{Number, Text as Called}
use Rattle.ms_ir.specs.declared.syntax.Op.{Op}
use Rattle.ms_ir.specs.declared.syntax.Op.TheVariants as op
use Rattle.ms_ir.specs.declared.syntax.Inst.{Inst}
use Rattle.ms_ir.specs.declared.syntax.Block.{Block}
use Rattle.ms_ir.specs.declared.forms.Form.TheVariants.{Instrumented}
use Rattle.ms_text_grammar.specs.declared.refusals.Cause.TheVariants as r
use Rattle.ms_text_grammar.specs.declared.refusals.Limit.TheVariants as limit
use Rattle.ms_text_grammar.specs.declared.states.BodySoFar.{BodySoFar}
use Rattle.ms_text_grammar.specs.declared.symbols.Symbol.TheVariants as s
use Rattle.ms_text_grammar.specs.Lexemes.{Lexeme, end_of_text, same_symbol, symbol_of, name_in}
use Rattle.ms_text_grammar.specs.Steps.{word, binary_op, cast_op}
use Rattle.ms_text_grammar.specs.Bodies.{is_open, opened_by, opened_as, opened, numbered, unreserved}
use Rattle.ms_text_grammar.specs.Lines.{is_whole}
use Rattle.ms_text_grammar.specs.Modules.{instructions_of}
use Rattle.ms_check_valid.specs.FormedNames.{are_bytes, is_local_name}
use Rattle.ms_check_valid.specs.FormedCode.{name_formed, is_terminator, ends_well, is_body}
use Rattle.ms_ir.specs.Written.{result_type}
use Rattle.ms_text_grammar.specs.LayoutPieces.{Line, sign}
use Rattle.ms_text_grammar.specs.LayoutNames.{label_token}
use Rattle.ms_text_grammar.specs.LayoutInsts.{inst_tokens, inst_line}
use Rattle.ms_text_grammar.specs.LayoutModules.{entry_label, body_lines, block_lines, blocks_lines}
use Rattle.ms_text_grammar.proofs.WholeKinds.{not_true}
use Rattle.ms_text_laws.proofs.Limited.{Limits, short, line_begins_by, line_begins, line_by, line, blocks}
use Rattle.ms_text_laws.proofs.Takes.{Takes, given, chain, turned, ended, chosen, word_taken, along}
use Rattle.ms_text_laws.proofs.Spelled.{is_below, label_number_symbol, label_text_symbol, label_number_in, label_text_in, local_unreserved}
use Rattle.ms_text_laws.proofs.Flags.{Fresh, IsFresh}
use Rattle.ms_text_laws.proofs.Types.{valued}
use Rattle.ms_text_laws.proofs.Ops.{next_body, OpFits}
use Rattle.ms_text_laws.proofs.Lines.{next_of, IsNext, is_short_result, grown, finished, tokens_of, inst_fresh, Loop, begins_good, ResultFits, line_taken}

-- ---- tokens of lines

abbrev pub line_tokens : List Line → List Lexeme
line_tokens [] = []
line_tokens (l ∷ lines) = l.tokens ++ line_tokens lines

pub line_tokens-append : (a b : List Line) → line_tokens (a ++ b) ≡ line_tokens a ++ line_tokens b
line_tokens-append [] b = refl
line_tokens-append (l ∷ a) b = ap (λ ys. l.tokens ++ ys) (line_tokens-append a b) ∙ sym (append_assoc l.tokens (line_tokens a) (line_tokens b))

-- ---- the order of instructions

-- instructions that may follow: phis too, or no phis any more
abbrev Order : Bool → List Inst → Type 0
Order true insts = is_body insts ≡ true
Order false insts = ends_well insts ≡ true

phi_goes_on : (o : Op) → is_phi o ≡ true → is_terminator o ≡ false
phi_goes_on (op.Phi t edges) h = refl
phi_goes_on o h = absurd cc

-- an instruction that isn't the last
record Goes (phis : Bool) (o : Op) (rest : List Inst) : Type 0 where
  phi : is_phi o ≡ true → phis ≡ true
  more : is_terminator o ≡ false
  after : Order (is_phi o) rest

plain_goes : (phis : Bool) (inst next : Inst) (rest : List Inst) → ends_well (inst ∷ next ∷ rest) ≡ true → Goes phis inst.op (next ∷ rest)
plain_goes phis inst next rest h =
    let parts = and_parts (not (is_terminator inst.op) && not (is_phi inst.op)) (ends_well (next ∷ rest)) h in
    let tests = and_parts (not (is_terminator inst.op)) (not (is_phi inst.op)) parts.0 in
    let plain : is_phi inst.op ≡ false = not_true (is_phi inst.op) tests.1 in
    record { phi = λ e. absurd cc; more = not_true (is_terminator inst.op) tests.0; after = subst (λ b. Order b (next ∷ rest)) (sym plain) parts.1 }

goes : (phis : Bool) (inst next : Inst) (rest : List Inst) → Order phis (inst ∷ next ∷ rest) → Goes phis inst.op (next ∷ rest)
goes false inst next rest h = plain_goes false inst next rest h
goes true inst next rest h = elim (is_phi inst.op) as (λ b. is_phi inst.op ≡ b → cond b (is_body (next ∷ rest)) (ends_well (inst ∷ next ∷ rest)) ≡ true → Goes true inst.op (next ∷ rest)) [
  | true ↦ λ e p. record { phi = λ q. refl; more = phi_goes_on inst.op e; after = subst (λ b. Order b (next ∷ rest)) (sym e) p }
  | false ↦ λ e p. plain_goes true inst next rest p
] refl h

last_ends : (phis : Bool) (inst : Inst) → Order phis (inst ∷ []) → is_terminator inst.op ≡ true
last_ends false inst h = h
last_ends true inst h = elim (is_phi inst.op) as (λ b. cond b false (is_terminator inst.op) ≡ true → is_terminator inst.op ≡ true) [
  | true ↦ λ p. absurd cc
  | false ↦ λ p. p
] h

pub end_is_no_phi : (o : Op) → is_terminator o ≡ true → is_phi o ≡ false
end_is_no_phi (op.Phi t edges) h = absurd cc
end_is_no_phi o h = refl

-- ---- numbers

-- the results are numbered from k on
abbrev pub AreNext : ℕ → List Inst → Type 0
AreNext k [] = Unit {0}
AreNext k (inst ∷ rest) = IsNext k inst.result × AreNext (next_of k inst.result) rest

-- the number after them
abbrev pub next_after : ℕ → List Inst → ℕ
next_after k [] = k
next_after k (inst ∷ rest) = next_after (next_of k inst.result) rest

-- the number after a block's name
abbrev pub next_name : ℕ → Name → ℕ
next_name k (Number n) = k + 1
next_name k (Called x) = k + 0

abbrev pub IsNextName : ℕ → Name → Type 0
IsNextName k (Number n) = n ≡ k
IsNextName k (Called x) = Unit {0}

next_few : (k : ℕ) (x : Option Name) → (k ≤ next_of k x) × (next_of k x ≤ k + 1)
next_few k None = (omega arith, omega arith)
next_few k (Some (Number n)) = (omega arith, omega arith)
next_few k (Some (Called x)) = (omega arith, omega arith)

-- ---- states

record IsOpen (b : BodySoFar) (found : List Block) (n : Name) (insts : List Inst) (next count : ℕ) (phis : Bool) : Type 0 where
  blocks : b.blocks ≡ found
  name : b.name ≡ Some n
  insts_are : b.insts ≡ insts
  next_is : b.next ≡ next
  count_is : b.count ≡ count
  phis_are : b.phis ≡ phis

pub record IsClosed (b : BodySoFar) (found : List Block) (next count : ℕ) : Type 0 where
  pub blocks : b.blocks ≡ found
  pub name : b.name ≡ None
  pub next_is : b.next ≡ next
  pub count_is : b.count ≡ count

open_opened : (b : BodySoFar) (n : Name) → b.name ≡ Some n → opened b ≡ b
unfolding opened
open_opened b n e = ap (λ x. opened_by x b) e

-- ---- instructions

-- an instruction as it may stand, within the limits
pub record InstFits (limits : Limits) (inst : Inst) : Type 0 where
  pub op_fits : OpFits limits inst.op
  pub named : name_formed (result_type inst.op) inst.result ≡ true
  pub short_name : is_short_result limits.names inst.result ≡ true

abbrev pub InstsFit : Limits → List Inst → Type 0
InstsFit limits [] = Unit {0}
InstsFit limits (inst ∷ rest) = InstFits limits inst × InstsFit limits rest

-- a block as it may stand, within the limits
pub record BlockFits (limits : Limits) (b : Block) : Type 0 where
  pub local : is_local_name b.name ≡ true
  pub short_name : is_below limits.names b.name ≡ true
  pub order : is_body b.insts ≡ true
  pub insts : InstsFit limits b.insts

abbrev pub BlocksFit : Limits → List Block → Type 0
BlocksFit limits [] = Unit {0}
BlocksFit limits (b ∷ bs) = BlockFits limits b × BlocksFit limits bs

-- the names of blocks and results are numbered from k on
abbrev pub AreNextBlocks : ℕ → List Block → Type 0
AreNextBlocks k [] = Unit {0}
AreNextBlocks k (b ∷ bs) = IsNextName k b.name × AreNext (next_name k b.name) b.insts × AreNextBlocks (next_after (next_name k b.name) b.insts) bs

abbrev pub next_blocks : ℕ → List Block → ℕ
next_blocks k [] = k
next_blocks k (b ∷ bs) = next_blocks (next_after (next_name k b.name) b.insts) bs

-- how many names of blocks and instructions there are
abbrev pub lines_in : List Block → ℕ
lines_in [] = 0
lines_in (b ∷ bs) = (1 + length b.insts) + lines_in bs

after_few : (k : ℕ) (insts : List Inst) → next_after k insts ≤ k + length insts
after_few k [] = omega arith
after_few k (inst ∷ insts) = let rest = after_few (next_of k inst.result) insts in let one = next_few k inst.result in omega (arith, rest, one)

name_few : (k : ℕ) (x : Name) → (k ≤ next_name k x) × (next_name k x ≤ k + 1)
name_few k (Number n) = (omega arith, omega arith)
name_few k (Called x) = (omega arith, omega arith)

module _ (limits : Limits) (some : 0 < limits.indices) (dotted : Bool) where
  abbrev Reads : BodySoFar → List Lexeme → BodySoFar → List Lexeme → Type 0
  Reads b ts v rest = Loop limits some dotted b ts v rest

  abbrev body_tokens : List Inst → List Lexeme
  body_tokens insts = line_tokens (map (inst_line dotted) insts)

  open_after : (b : BodySoFar) (inst : Inst) (found : List Block) (n : Name) (insts : List Inst) (next count : ℕ) (phis : Bool) → IsOpen b found n insts next count phis → InstFits limits inst → is_terminator inst.op ≡ false
      → IsOpen (next_body b inst.result inst.op inst.marked) found n (insts ++ inst ∷ []) (next_of next inst.result) (count + 1) (is_phi inst.op)
  open_after b inst found n insts next count phis h fits e =
      rw (grown b inst.op inst.result inst.marked fits.named e)
      (record { blocks = h.blocks; name = h.name; insts_are = ap (λ xs. xs ++ inst ∷ []) h.insts_are; next_is = ap (λ k. next_of k inst.result) h.next_is; count_is = ap (λ k. k + 1) h.count_is; phis_are = refl })

  closed_after : (b : BodySoFar) (inst : Inst) (found : List Block) (n : Name) (insts : List Inst) (next count : ℕ) (phis : Bool) → IsOpen b found n insts next count phis → InstFits limits inst → is_terminator inst.op ≡ true
      → IsClosed (next_body b inst.result inst.op inst.marked) (found ++ record { name = n; insts = insts ++ inst ∷ [] } ∷ []) (next_of next inst.result) (count + 1)
  closed_after b inst found n insts next count phis h fits e =
      let f = finished b inst.op inst.result inst.marked fits.named e in
      rw f.0 (record {
        blocks = rw (h.blocks, h.name, h.insts_are) refl;
        name = refl;
        next_is = sym f.1 ∙ ap (λ k. next_of k inst.result) h.next_is;
        count_is = ap (λ k. k + 1) h.count_is;
      })

  no_phi : (o : Op) → is_terminator o ≡ true → is_phi o ≡ true → ⊥
  no_phi o e p = let f = end_is_no_phi o e in absurd cc

  closed_same : (d : BodySoFar) (found : List Block) (n : Name) (before : List Inst) (inst : Inst) (more : List Inst) (next count : ℕ)
      → IsClosed d (found ++ record { name = n; insts = (before ++ inst ∷ []) ++ more } ∷ []) next (count + 1 + length more) → IsClosed d (found ++ record { name = n; insts = before ++ inst ∷ more } ∷ []) next (count + length (inst ∷ more))
  closed_same d found n before inst more next count k = record {
    blocks = k.blocks ∙ ap (λ xs. found ++ record { name = n; insts = xs } ∷ []) (append_assoc before (inst ∷ []) more);
    name = k.name;
    next_is = k.next_is;
    count_is = k.count_is ∙ omega arith;
  }

  -- What is to be shown of a state and the tokens in front of it. It passes from what is after some tokens to what is in front of them.
  module _ (Shown : BodySoFar → List Lexeme → Type 0) (pass : (b c : BodySoFar) (ts us : List Lexeme) → ((v : BodySoFar) (end : List Lexeme) → Reads c us v end → Reads b ts v end) → Shown c us → Shown b ts) where
    -- the instructions of an open block, up to its end
    insts_taken : (inst : Inst) (more : List Inst) (b : BodySoFar) (found : List Block) (n : Name) (before : List Inst) (next count : ℕ) (phis : Bool) (after : List Lexeme)
        → IsOpen (opened b) found n before next count phis → b.next ≤ next → b.count ≡ count → Order phis (inst ∷ more) → InstsFit limits (inst ∷ more) → AreNext next (inst ∷ more)
        → next + length (inst ∷ more) < limits.numbers → count + length (inst ∷ more) ≤ limits.instructions → IsFresh after
        → ((c : BodySoFar) → IsClosed c (found ++ record { name = n; insts = before ++ inst ∷ more } ∷ []) (next_after next (inst ∷ more)) (count + length (inst ∷ more)) → Shown c after)
        → Shown b (body_tokens (inst ∷ more) ++ after)
    unfolding inst_tokens
    insts_taken inst [] b found n before next count phis after h low same order fits numbers few room fresh then =
        let last = last_ends phis inst order in
        pass b (next_body (opened b) inst.result inst.op inst.marked) _ after
        (λ v end p. along (ap (λ ys. ys ++ after) (append-nil (tokens_of dotted inst.op inst.result inst.marked)))
        (line_taken limits some dotted b inst.op inst.result inst.marked after (omega (arith, low, few)) (omega (arith, same, room)) fits.0.op_fits fits.0.named
        (subst (λ k. ResultFits limits some dotted k inst.result) (sym h.next_is) (numbers.0, fits.0.short_name)) (λ q. absurd (no_phi inst.op last q)) fresh p))
        (then (next_body (opened b) inst.result inst.op inst.marked) (closed_after (opened b) inst found n before next count phis h fits.0 last))
    insts_taken inst (second ∷ more) b found n before next count phis after h low same order fits numbers few room fresh then =
        let step = goes phis inst second more order in
        let c : BodySoFar = next_body (opened b) inst.result inst.op inst.marked in
        let o = open_after (opened b) inst found n before next count phis h fits.0 step.more in
        let still : opened c ≡ c = open_opened c n o.name in
        let bounds = next_few next inst.result in
        let later : List Lexeme = body_tokens (second ∷ more) ++ after in
        pass b c _ later
        (λ v end p. along (append_assoc (tokens_of dotted inst.op inst.result inst.marked) (body_tokens (second ∷ more)) after)
        (line_taken limits some dotted b inst.op inst.result inst.marked later (omega (arith, low, few)) (omega (arith, same, room)) fits.0.op_fits fits.0.named
        (subst (λ k. ResultFits limits some dotted k inst.result) (sym h.next_is) (numbers.0, fits.0.short_name)) (λ q. h.phis_are ∙ step.phi q)
        (subst (λ ts. Fresh (head end_of_text ts).symbol) (sym (append_assoc (tokens_of dotted second.op second.result second.marked) (body_tokens more) after)) (inst_fresh dotted second.op second.result second.marked (body_tokens more ++ after) fits.1.0.named)) p))
        (insts_taken second more c found n (before ++ inst ∷ []) (next_of next inst.result) (count + 1) (is_phi inst.op) after
        (subst (λ d. IsOpen d found n (before ++ inst ∷ []) (next_of next inst.result) (count + 1) (is_phi inst.op)) (sym still) o)
        (omega (arith, o.next_is)) o.count_is step.after fits.1 numbers.1 (omega (arith, few, bounds)) (omega (arith, room)) fresh
        (λ d k. then d (closed_same d found n before inst (second ∷ more) (next_after next (inst ∷ second ∷ more)) count k)))

    -- the label of a block
    label_taken : (x : Name) (c : BodySoFar) (found : List Block) (k count : ℕ) (rest : List Lexeme) → IsClosed c found k count → is_local_name x ≡ true → is_below limits.names x ≡ true → IsNextName k x → k < limits.numbers
        → ((b : BodySoFar) → IsOpen b found x [] (next_name k x) count true → Shown b rest) → Shown c (label_token x ∷ rest)
    unfolding line_begins line
    label_taken (Number n) c found k count rest h local few number low then =
        let t : Lexeme = label_token (Number n) in
        let next : c.next ≡ n = h.next_is ∙ sym number in
        let small : n < 2 ^ 32 = ltb-true n (2 ^ 32) local in
        let begins : line_begins_by limits c t.symbol t ≡ Ok true =
        ap (λ y. line_begins_by limits c y t) (label_number_symbol n)
        ∙ ap (λ o. cond (is_open o) (Ok false) (numbered c.next (name_in t) (Ok true))) h.name
        ∙ ap (λ b. cond b (Ok true) (Err r.Numbering)) (eq-eqb (read.decimal (name_in t)) c.next (label_number_in n small ∙ sym next)) in
        pass c (opened_as c (Number c.next) 1) _ rest
        (λ v end p. turned (begins_good limits some dotted c t (omega (arith, low, h.next_is)) begins)
        (subst (λ y. Takes (line_by limits c y t) rest (opened_as c (Number c.next) 1) rest) (sym (label_number_symbol n)) given) p)
        (then (opened_as c (Number c.next) 1)
        (record { blocks = h.blocks; name = ap (λ k. Some (Number k)) next; insts_are = refl; next_is = ap (λ k. k + 1) h.next_is; count_is = h.count_is; phis_are = refl }))
    label_taken (Called x) c found k count rest h local few number low then =
        let t : Lexeme = label_token (Called x) in
        let spelt : name_in t ≡ x = label_text_in x (and_parts (are_bytes x) _ local).0 in
        let begins : line_begins_by limits c t.symbol t ≡ Ok true =
        ap (λ y. line_begins_by limits c y t) (label_text_symbol x)
        ∙ ap (λ o. cond (is_open o) (Ok false) (unreserved Instrumented (name_in t) (short limits (name_in t)))) h.name
        ∙ ap (λ text. unreserved Instrumented text (short limits text)) spelt
        ∙ ap (λ b. cond b (Err r.Reserved) (short limits x)) (local_unreserved x local)
        ∙ ap (λ b. cond b (Ok true) (Err (r.Limit limit.Name))) few in
        pass c (opened_as c (Called (name_in t)) 0) _ rest
        (λ v end p. turned (begins_good limits some dotted c t (omega (arith, low, h.next_is)) begins)
        (subst (λ y. Takes (line_by limits c y t) rest (opened_as c (Called (name_in t)) 0) rest) (sym (label_text_symbol x)) given) p)
        (then (opened_as c (Called (name_in t)) 0)
        (record { blocks = h.blocks; name = ap (λ text. Some (Called text)) spelt; insts_are = refl; next_is = ap (λ k. k + 0) h.next_is; count_is = h.count_is; phis_are = refl }))

    -- all instructions of a block
    all_taken : (insts : List Inst) (b : BodySoFar) (found : List Block) (n : Name) (next count : ℕ) (after : List Lexeme) → IsOpen (opened b) found n [] next count true → b.next ≤ next → b.count ≡ count
        → is_body insts ≡ true → InstsFit limits insts → AreNext next insts → next + length insts < limits.numbers → count + length insts ≤ limits.instructions → IsFresh after
        → ((c : BodySoFar) → IsClosed c (found ++ record { name = n; insts = insts } ∷ []) (next_after next insts) (count + length insts) → Shown c after)
        → Shown b (body_tokens insts ++ after)
    all_taken [] b found n next count after h low same order fits numbers few room fresh then = absurd cc
    all_taken (inst ∷ more) b found n next count after h low same order fits numbers few room fresh then =
        insts_taken inst more b found n [] next count true after h low same order fits numbers few room fresh then

    already_open : (b : BodySoFar) (found : List Block) (n : Name) (next count : ℕ) → IsOpen b found n [] next count true → IsOpen (opened b) found n [] next count true
    already_open b found n next count h = subst (λ d. IsOpen d found n [] next count true) (sym (open_opened b n h.name)) h

    -- a block after its label
    block_taken : (b : Block) (c : BodySoFar) (found : List Block) (k count : ℕ) (after : List Lexeme) → IsClosed c found k count → BlockFits limits b → IsNextName k b.name → AreNext (next_name k b.name) b.insts
        → k + (1 + length b.insts) < limits.numbers → count + length b.insts ≤ limits.instructions → IsFresh after
        → ((d : BodySoFar) → IsClosed d (found ++ b ∷ []) (next_after (next_name k b.name) b.insts) (count + length b.insts) → Shown d after)
        → Shown c (label_token b.name ∷ (body_tokens b.insts ++ after))
    block_taken b c found k count after h fits name numbers few room fresh then =
        let bounds = name_few k b.name in
        label_taken b.name c found k count (body_tokens b.insts ++ after) h fits.local fits.short_name name (omega (arith, few))
        (λ o opens. all_taken b.insts o found b.name (next_name k b.name) count after (already_open o found b.name (next_name k b.name) count opens) (omega (arith, opens.next_is)) opens.count_is
        fits.order fits.insts numbers (omega (arith, few, bounds)) room fresh then)

    label_fresh : (x : Name) (ts : List Lexeme) → IsFresh (label_token x ∷ ts)
    unfolding same_symbol
    label_fresh (Number n) ts = rw (label_number_symbol n) (record { comma = refl; paren = refl; bracket = refl; attribute = refl })
    label_fresh (Called x) ts = rw (label_text_symbol x) (record { comma = refl; paren = refl; bracket = refl; attribute = refl })

    abbrev rest_tokens : List Block → List Lexeme
    rest_tokens bs = line_tokens (flat_map (block_lines dotted) bs)

    block_tokens : (b : Block) (bs : List Block) (after : List Lexeme) → rest_tokens (b ∷ bs) ++ after ≡ label_token b.name ∷ (body_tokens b.insts ++ (rest_tokens bs ++ after))
    unfolding block_lines
    block_tokens b bs after =
        ap (λ ys. label_token b.name ∷ (ys ++ after)) (line_tokens-append (body_lines dotted b) (flat_map (block_lines dotted) bs))
        ∙ ap (λ ys. label_token b.name ∷ ys) (append_assoc (body_tokens b.insts) (rest_tokens bs) after)

    rest_fresh : (bs : List Block) (after : List Lexeme) → IsFresh after → IsFresh (rest_tokens bs ++ after)
    rest_fresh [] after h = h
    rest_fresh (b ∷ bs) after h = subst (λ ts. Fresh (head end_of_text ts).symbol) (sym (block_tokens b bs after)) (label_fresh b.name (body_tokens b.insts ++ (rest_tokens bs ++ after)))

    -- the blocks after the first
    rest_taken : (bs : List Block) (c : BodySoFar) (found : List Block) (k count : ℕ) (after : List Lexeme) → IsClosed c found k count → BlocksFit limits bs → AreNextBlocks k bs → k + lines_in bs < limits.numbers
        → count + instructions_of bs ≤ limits.instructions → IsFresh after
        → ((d : BodySoFar) → IsClosed d (found ++ bs) (next_blocks k bs) (count + instructions_of bs) → Shown d after)
        → Shown c (rest_tokens bs ++ after)
    rest_taken [] c found k count after h fits numbers few room fresh then = then c (record { blocks = h.blocks ∙ sym (append-nil found); name = h.name; next_is = h.next_is; count_is = h.count_is ∙ omega arith })
    rest_taken (b ∷ bs) c found k count after h fits numbers few room fresh then =
        let size = after_few (next_name k b.name) b.insts in
        let bounds = name_few k b.name in
        let next : ℕ = next_after (next_name k b.name) b.insts in
        subst (Shown c) (sym (block_tokens b bs after))
        (block_taken b c found k count (rest_tokens bs ++ after) h fits.0 numbers.0 numbers.1 (omega (arith, few)) (omega (arith, room)) (rest_fresh bs after fresh)
        (λ d closes. rest_taken bs d (found ++ b ∷ []) next (count + length b.insts) after closes fits.1 numbers.2 (omega (arith, few, size, bounds)) (omega (arith, room)) fresh
        (λ e ends. then e (record { blocks = ends.blocks ∙ append_assoc found (b ∷ []) bs; name = ends.name; next_is = ends.next_is; count_is = ends.count_is ∙ omega arith }))))

    entry_opened : (c : BodySoFar) (k count n : ℕ) → IsClosed c [] k count → n ≡ k → IsOpen (opened c) [] (Number n) [] (k + 1) count true
    unfolding opened
    entry_opened c k count n h e =
        subst (λ x. IsOpen (opened_by x c) [] (Number n) [] (k + 1) count true) (sym h.name)
        (record { blocks = h.blocks; name = ap (λ j. Some (Number j)) (h.next_is ∙ sym e); insts_are = refl; next_is = ap (λ j. j + 1) h.next_is; count_is = h.count_is; phis_are = refl })

    -- the first block, whose label is missing where its name is a number
    entry_taken : (x : Name) (insts : List Inst) (c : BodySoFar) (k count : ℕ) (after : List Lexeme) → IsClosed c [] k count → BlockFits limits (record { name = x; insts = insts }) → IsNextName k x → AreNext (next_name k x) insts
        → k + (1 + length insts) < limits.numbers → count + length insts ≤ limits.instructions → IsFresh after
        → ((d : BodySoFar) → IsClosed d (record { name = x; insts = insts } ∷ []) (next_after (next_name k x) insts) (count + length insts) → Shown d after)
        → Shown c (line_tokens (entry_label x) ++ (body_tokens insts ++ after))
    entry_taken (Number n) insts c k count after h fits name numbers few room fresh then =
        all_taken insts c [] (Number n) (k + 1) count after (entry_opened c k count n h name) (omega (arith, h.next_is)) h.count_is fits.order fits.insts numbers (omega (arith, few)) room fresh then
    entry_taken (Called x) insts c k count after h fits name numbers few room fresh then =
        block_taken (record { name = Called x; insts = insts }) c [] k count after h fits name numbers few room fresh then

    all_tokens : (b : Block) (bs : List Block) (after : List Lexeme) → line_tokens (blocks_lines dotted (b ∷ bs)) ++ after ≡ line_tokens (entry_label b.name) ++ (body_tokens b.insts ++ (rest_tokens bs ++ after))
    all_tokens b bs after =
        ap (λ ys. ys ++ after) (line_tokens-append (entry_label b.name) (body_lines dotted b ++ flat_map (block_lines dotted) bs) ∙ ap (λ ys. line_tokens (entry_label b.name) ++ ys) (line_tokens-append (body_lines dotted b) (flat_map (block_lines dotted) bs)))
        ∙ append_assoc (line_tokens (entry_label b.name)) (body_tokens b.insts ++ rest_tokens bs) after ∙ ap (λ ys. line_tokens (entry_label b.name) ++ ys) (append_assoc (body_tokens b.insts) (rest_tokens bs) after)

    -- the blocks of a function, at least one
    blocks_taken : (b : Block) (bs : List Block) (c : BodySoFar) (k count : ℕ) (after : List Lexeme) → IsClosed c [] k count → BlocksFit limits (b ∷ bs) → AreNextBlocks k (b ∷ bs) → k + lines_in (b ∷ bs) < limits.numbers
        → count + instructions_of (b ∷ bs) ≤ limits.instructions → IsFresh after
        → ((d : BodySoFar) → IsClosed d (b ∷ bs) (next_blocks k (b ∷ bs)) (count + instructions_of (b ∷ bs)) → Shown d after)
        → Shown c (line_tokens (blocks_lines dotted (b ∷ bs)) ++ after)
    blocks_taken b bs c k count after h fits numbers few room fresh then =
        let size = after_few (next_name k b.name) b.insts in
        let bounds = name_few k b.name in
        let next : ℕ = next_after (next_name k b.name) b.insts in
        subst (Shown c) (sym (all_tokens b bs after))
        (entry_taken b.name b.insts c k count (rest_tokens bs ++ after) h fits.0 numbers.0 numbers.1 (omega (arith, few)) (omega (arith, room)) (rest_fresh bs after fresh)
        (λ d closes. rest_taken bs d (b ∷ []) next (count + length b.insts) after closes fits.1 numbers.2 (omega (arith, few, size, bounds)) (omega (arith, room)) fresh
        (λ e ends. then e (record { blocks = ends.blocks; name = ends.name; next_is = ends.next_is; count_is = ends.count_is ∙ omega arith }))))

  -- ---- the blocks of a function, up to and with `}`

  abbrev Final : List Block → ℕ → ℕ → List Lexeme → BodySoFar → List Lexeme → Type 0
  Final bs next count end b ts = (d : BodySoFar) × IsClosed d bs next count × Reads b ts d end

  brace_symbol : (sign (codes "}")).symbol ≡ s.CloseBrace
  unfolding symbol_of
  brace_symbol = refl

  brace_fresh : (rest : List Lexeme) → IsFresh (sign (codes "}") ∷ rest)
  unfolding same_symbol symbol_of
  brace_fresh rest = record { comma = refl; paren = refl; bracket = refl; attribute = refl }

  brace_taken : {ts : List Lexeme} → Takes (word s.CloseBrace) (sign (codes "}") ∷ ts) tt ts
  unfolding same_symbol
  brace_taken = word_taken s.CloseBrace refl brace_symbol

  body_ends : (d : BodySoFar) (rest : List Lexeme) → d.next < limits.numbers → Reads d (sign (codes "}") ∷ rest) d (sign (codes "}") ∷ rest)
  unfolding line_begins symbol_of binary_op cast_op
  body_ends d rest few = ended (ap (λ b. cond b (Ok false) (Err r.Numbering)) (lt-ltb d.next limits.numbers few))

  blocks_few : (k : ℕ) (bs : List Block) → next_blocks k bs ≤ k + lines_in bs
  blocks_few k [] = omega arith
  blocks_few k (b ∷ bs) =
      let rest = blocks_few (next_after (next_name k b.name) b.insts) bs in
      let size = after_few (next_name k b.name) b.insts in
      let bounds = name_few k b.name in
      omega (arith, rest, size, bounds)

  whole : (d : BodySoFar) (b : Block) (bs : List Block) (next count : ℕ) → IsClosed d (b ∷ bs) next count → is_whole d ≡ true
  whole d b bs next count h = ap (λ x. not (is_open x) && not (length d.blocks == 0)) h.name ∙ ap (λ xs. not (length xs == 0)) h.blocks ∙ ap not (ne_eqb (length (b ∷ bs)) 0 (λ e. absurd (omega (arith, e))))

  pub body_taken : (b : Block) (bs : List Block) (c : BodySoFar) (k count : ℕ) (rest : List Lexeme) → IsClosed c [] k count → BlocksFit limits (b ∷ bs) → AreNextBlocks k (b ∷ bs) → k + lines_in (b ∷ bs) < limits.numbers
      → count + instructions_of (b ∷ bs) ≤ limits.instructions → Takes (blocks limits c) (line_tokens (blocks_lines dotted (b ∷ bs)) ++ sign (codes "}") ∷ rest) (b ∷ bs) rest
  unfolding blocks
  body_taken b bs c k count rest h fits numbers few room =
      let next : ℕ = next_blocks k (b ∷ bs) in
      let total : ℕ = count + instructions_of (b ∷ bs) in
      let end : List Lexeme = sign (codes "}") ∷ rest in
      let most = blocks_few k (b ∷ bs) in
      let read = blocks_taken (Final (b ∷ bs) next total end) (λ x y ts us f p. (p.0, p.1, f p.0 end p.2)) b bs c k count end h fits numbers few room (brace_fresh rest)
      (λ d closes. (d, closes, body_ends d rest (omega (arith, few, most, closes.next_is)))) in
      chain read.2 (chosen (is_whole read.0) _ _ (whole read.0 b bs next total read.1) (chain brace_taken (valued read.1.blocks given)))
