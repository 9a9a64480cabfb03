-- The marks of instructions are the module's instructions, one by one.
use Rattle.std.proofs.Common.{◌≡◌, ◌≤◌, ℕ, zero, suc, ◌-◌, Bool, true, false, cond, List, [], ◌∷◌, ◌++◌, length, drop, Option, Some, None, Result, Ok, Err, refl, sym, subst, ap, ◌∙◌, append_assoc, length-append, arith}
use Rattle.std.specs.Prelude.{flat_map}
use Rattle.std.specs.List.{AllZip}
use Rattle.std.proofs.lemmas.List.{append-nil, length-map}
use Rattle.std.proofs.lemmas.List.Elements.{filter-append}
use Rattle.std.proofs.lemmas.Grind.{flat_map-append}
use Rattle.ms_bits.specs.declared.operations.BinOp.{BinOp}
use Rattle.ms_bits.specs.declared.operations.CastOp.{CastOp}
use Rattle.ms_lex.specs.declared.kinds.Token.{Token}
use Rattle.ms_lex.specs.Tokens.{Text}
use Rattle.ms_lex.specs.Grammar.{Ends, Turns, loop, tail}
use Rattle.ms_lex.proofs.Relations.{one_reading}
use Rattle.ms_ir.specs.declared.syntax.Name.{Name}
use Rattle.ms_ir.specs.declared.syntax.Name.TheVariants as name
use Rattle.ms_ir.specs.declared.syntax.Op.{Op}
use Rattle.ms_ir.specs.declared.syntax.Inst.{Inst}
use Rattle.ms_ir.specs.declared.syntax.Block.{Block}
use Rattle.ms_ir.specs.declared.syntax.Func.{Func}
use Rattle.ms_ir.specs.declared.syntax.Module.{Module}
use Rattle.ms_ir.specs.declared.forms.Form.{Form}
use Rattle.ms_ir.specs.Locals.{func_insts}
use Rattle.ms_text_grammar.specs.declared.refusals.Cause.{Cause}
use Rattle.ms_text_grammar.specs.declared.symbols.Symbol.{Symbol}
use Rattle.ms_text_grammar.specs.declared.symbols.Symbol.TheVariants as s
use Rattle.ms_text_grammar.specs.declared.states.BodySoFar.{BodySoFar}
use Rattle.ms_text_grammar.specs.declared.states.ModuleSoFar.{ModuleSoFar}
use Rattle.ms_text_grammar.specs.Lexemes.{Lexeme, end_of_text, lexeme_of, lexemes_of}
use Rattle.ms_text_grammar.specs.Steps.{Rule, binary_op, cast_op}
use Rattle.ms_text_grammar.specs.Insts.{Marked}
use Rattle.ms_text_grammar.specs.Bodies.{is_open, opened, opened_as, opened_by, line_begins, max_instructions, name_or, with_value, with_effect, with_end, with_call, is_void_call}
use Rattle.ms_text_grammar.specs.Bounds.{instructions_among}
use Rattle.ms_text_grammar.specs.Functions.{body_after, function}
use Rattle.ms_text_grammar.specs.Lines.{value_line, marked_line, phi_line, call_line, effect_line, end_line, instruction_by, operation_by, instruction, named_line, blocks, is_whole, line, line_by}
use Rattle.ms_text_grammar.specs.Modules.{entity, entity_begins, entity_by, instructions_of, module_rule, no_parts}
use Rattle.ms_text_grammar.specs.Texts.{HasTokens, Reads, ReadsUpTo}
use Rattle.ms_text_grammar.proofs.Bounds.{Kept, KeptParts, record_line_is, line_kept, turns_kept, blocks_end, not_open, few_here, entity_kept}
use Rattle.ms_text_grammar.proofs.Readings.{same_tokens}
use Rattle.ms_read_cursor.specs.Reading.{front}
use Rattle.ms_read_body.specs.Headed.{heading}
use Rattle.ms_read_body.proofs.Suffixes.{IsEnd, reads_end, by_length}
use Rattle.ms_where_places.specs.declared.marks.MarkKind.TheVariants as k
use Rattle.ms_where_places.specs.declared.marks.Mark.{Mark}
use Rattle.ms_where_places.proofs.Headings.{headed}
use Rattle.ms_where_places.specs.Turns.{Passes}
use Rattle.ms_where_places.specs.Marks.{AreMarks, EntitiesPass, EntityBrings, HasInner, HasLines, LineBrings, LinesPass, entity_kind, line_kind, marks_of}
use Rattle.ms_where_places.specs.Instructions.{is_instruction, instruction_marks, instructions_in, module_insts, body_insts, IsLineOf}

-- turns that bring something are turns
module _ {T R S P : Type 0} (begins : S → T → Result Bool R) (TurnReads : S → T → List T → S → List T → Type 0) (Brings : S → List T → List T → List P → Type 0) where
  are_turns : (n : ℕ) (s : S) (ts : List T) (v : S) (rest : List T) (found : List P) → Passes begins TurnReads Brings n s ts v rest found → Ends begins v rest → Turns begins TurnReads n s ts v rest
  are_turns zero s ts v rest found h e = (subst (Ends begins s) h.1 (subst (λ w. Ends begins w rest) h.0 e), h.0, h.1)
  are_turns (suc n) s [] v rest found h e = absurd h
  are_turns (suc n) s (t ∷ ts) v rest found h e = (h.0, h.1, h.2, h.3, are_turns n h.1 h.2 v rest h.6 h.7 e)

-- ---- lists

none_of : {A : Type 0} (xs : List A) → length xs ≡ 0 → xs ≡ []
none_of [] e = refl
none_of (x ∷ xs) e = absurd (omega (arith, e))

-- the end of an end is an end of the whole
inside_end : {T : Type 0} (all ts rest : List T) → IsEnd ts all → IsEnd rest ts → IsEnd rest all
inside_end all ts rest p q = (p.0 ++ q.0, p.1 ∙ ap (λ l. p.0 ++ l) q.1 ∙ sym (append_assoc p.0 q.0 rest))

-- the first of these tokens, and those that a piece of the grammar left of the others, are ends of the same list
later : {T : Type 0} (all : List T) (t : T) (ts rest : List T) → IsEnd (t ∷ ts) all → IsEnd rest ts → IsEnd rest all
later all t ts rest p q = inside_end all (t ∷ ts) rest p (t ∷ q.0, ap (λ l. t ∷ l) q.1)

module _ {X Y : Type 0} (R : X → Y → Type 0) where
  both_zip : (xs us : List X) (ys vs : List Y) → AllZip R xs ys → AllZip R us vs → AllZip R (xs ++ us) (ys ++ vs)
  both_zip [] us [] vs h i = i
  both_zip [] us (y ∷ ys) vs h i = absurd h
  both_zip (x ∷ xs) us [] vs h i = absurd h
  both_zip (x ∷ xs) us (y ∷ ys) vs h i = (h.0, both_zip xs us ys vs h.1 i)

  same_lengths : (xs : List X) (ys : List Y) → AllZip R xs ys → length xs ≡ length ys
  same_lengths [] [] h = refl
  same_lengths [] (y ∷ ys) h = absurd h
  same_lengths (x ∷ xs) [] h = absurd h
  same_lengths (x ∷ xs) (y ∷ ys) h = let rest = same_lengths xs ys h.1 in omega (arith, rest)

-- ---- what a line adds

-- a body has one instruction more than another
abbrev Adds : BodySoFar → BodySoFar → Type 0
Adds a b = (inst : Inst) × (body_insts b ≡ body_insts a ++ inst ∷ [])

module _ (a : BodySoFar) where
  pushed : (inst : Inst) → flat_map (λ block. block.insts) a.blocks ++ (a.insts ++ inst ∷ []) ≡ body_insts a ++ inst ∷ []
  pushed inst = sym (append_assoc (flat_map (λ block. block.insts) a.blocks) a.insts (inst ∷ []))

  value_adds : (result : Option Name) (phis : Bool) (m : Marked) → Adds a (with_value a result phis m)
  value_adds result phis m = let inst : Inst = record { op = m.0; result = Some (name_or result a.next); marked = m.1 } in (inst, pushed inst)

  effect_adds : (m : Marked) → Adds a (with_effect a m)
  effect_adds m = let inst : Inst = record { op = m.0; result = None; marked = m.1 } in (inst, pushed inst)

  end_adds : (m : Marked) → Adds a (with_end a m)
  end_adds m =
      let inst : Inst = record { op = m.0; result = None; marked = m.1 } in
      let last : Block = record { name = name_or a.name 0; insts = a.insts ++ inst ∷ [] } in
      let all = flat_map-append (λ (block : Block). block.insts) a.blocks (last ∷ []) in
      let one = append-nil (a.insts ++ inst ∷ []) in
      (inst, append-nil (flat_map (λ (block : Block). block.insts) (a.blocks ++ last ∷ [])) ∙ all ∙ ap (λ l. flat_map (λ (block : Block). block.insts) a.blocks ++ l) one ∙ pushed inst)

  call_adds_by : (b : Bool) (result : Option Name) (m : Marked) → Adds a (cond b (with_effect a m) (with_value a result false m))
  call_adds_by true result m = effect_adds m
  call_adds_by false result m = value_adds result false m

  call_adds : (result : Option Name) (m : Marked) → Adds a (with_call a result m)
  call_adds result m = call_adds_by (is_void_call m.0) result m

  module _ (form : Form) (ts : List Lexeme) (v : BodySoFar) (rest : List Lexeme) where
    value_line_adds : (result : Option Name) (rule : Rule Op) → ReadsUpTo (value_line form a result rule) ts v rest → Adds a v
    unfolding value_line
    value_line_adds result rule h = subst (Adds a) (sym h.3.0) (value_adds result false h.0)

    marked_line_adds : (result : Option Name) (rule : Rule Marked) → ReadsUpTo (marked_line a result rule) ts v rest → Adds a v
    unfolding marked_line
    marked_line_adds result rule h = subst (Adds a) (sym h.3.0) (value_adds result false h.0)

    phi_line_adds : (result : Option Name) → ReadsUpTo (phi_line form a result) ts v rest → Adds a v
    unfolding phi_line
    phi_line_adds result h = subst (Adds a) (sym h.3.0) (value_adds result true h.0)

    call_line_adds : (result : Option Name) (first : Symbol) → ReadsUpTo (call_line form a result first) ts v rest → Adds a v
    unfolding call_line
    call_line_adds result first h = subst (Adds a) (sym h.3.0) (call_adds result h.0)

    effect_line_adds : (rule : Rule Op) → ReadsUpTo (effect_line form a rule) ts v rest → Adds a v
    unfolding effect_line
    effect_line_adds rule h = subst (Adds a) (sym h.3.0) (effect_adds h.0)

    end_line_adds : (rule : Rule Op) → ReadsUpTo (end_line form a rule) ts v rest → Adds a v
    unfolding end_line
    end_line_adds rule h = subst (Adds a) (sym h.3.0) (end_adds h.0)

    no_value : (e : Cause) (b : BodySoFar) → ◌≡◌ {A = Result BodySoFar Cause} (Err e) (Ok b) → ⊥
    no_value e b h = cc

    by_word : (result : Option Name) (x : Symbol) → ReadsUpTo (instruction_by form a result x) ts v rest → Adds a v
    by_word result s.Phi h = phi_line_adds result h
    by_word result s.Icmp h = value_line_adds result _ h
    by_word result s.Select h = value_line_adds result _ h
    by_word result s.Freeze h = value_line_adds result _ h
    by_word result s.Alloca h = marked_line_adds result _ h
    by_word result s.Load h = value_line_adds result _ h
    by_word result s.Store h = effect_line_adds _ h
    by_word result s.GetElementPtr h = marked_line_adds result _ h
    by_word result s.Tail h = call_line_adds result _ h
    by_word result s.MustTail h = call_line_adds result _ h
    by_word result s.NoTail h = call_line_adds result _ h
    by_word result s.Call h = call_line_adds result _ h
    by_word result s.Br h = end_line_adds _ h
    by_word result s.Switch h = end_line_adds _ h
    by_word result s.Ret h = end_line_adds _ h
    by_word result s.Unreachable h = end_line_adds _ h
    by_word result x h = absurd (no_value _ v h.0)

    by_operation : (result : Option Name) (x : Symbol) (b : Option BinOp) (c : Option CastOp) → ReadsUpTo (operation_by form a result x b c) ts v rest → Adds a v
    by_operation result x (Some b) c h = value_line_adds result _ h
    by_operation result x None (Some c) h = value_line_adds result _ h
    by_operation result x None None h = by_word result x h

    instruction_adds : (result : Option Name) (x : Symbol) → ReadsUpTo (instruction form a result x) ts v rest → Adds a v
    unfolding instruction
    instruction_adds result x h = by_operation result x (binary_op x) (cast_op x) h

named_line_adds : (form : Form) (a : BodySoFar) (n : Name) (ts : List Lexeme) (v : BodySoFar) (rest : List Lexeme) → ReadsUpTo (named_line form a n) ts v rest → Adds a v
unfolding named_line
named_line_adds form a n ts v rest h = instruction_adds a form h.3.1 v rest (Some n) h.3.0 h.3.3

-- a block that begins where none is open takes no instruction away
begun : (b : BodySoFar) (n : Name) (k : ℕ) → length b.insts ≡ 0 → body_insts (opened_as b n k) ≡ body_insts b
begun b n k none = ap (λ l. flat_map (λ block. block.insts) b.blocks ++ l) (sym (none_of b.insts none))

open_same_by : (b : BodySoFar) (n : Option Name) → b.name ≡ n → (is_open b.name ≡ false → length b.insts ≡ 0) → body_insts (opened_by n b) ≡ body_insts b
open_same_by b (Some n) e closed = refl
open_same_by b None e closed = begun b (name.Number b.next) 1 (closed (ap is_open e))

open_same : (b : BodySoFar) → (is_open b.name ≡ false → length b.insts ≡ 0) → body_insts (opened b) ≡ body_insts b
unfolding opened
open_same b closed = open_same_by b b.name refl closed

-- ---- lines

module _ (form : Form) (all : List Lexeme) where
  -- The instructions that these marks are, where those of the reading grew from one list to another.
  abbrev Told : List Inst → List Inst → List Mark → Type 0
  Told old new found = (insts : List Inst) × (new ≡ old ++ insts) × AllZip (IsLineOf form all) (instruction_marks found) insts

  none_told : (old new : List Inst) (found : List Mark) → new ≡ old → instruction_marks found ≡ [] → Told old new found
  none_told old new found same none = ([], same ∙ sym (append-nil old), subst (λ l. AllZip (IsLineOf form all) l []) (sym none) tt)

  then_told : (old mid new : List Inst) (found here others : List Mark) → found ≡ here ++ others → Told old mid here → Told mid new others → Told old new found
  then_told old mid new found here others e a b =
      let marks = ap instruction_marks e ∙ filter-append (λ (mark : Mark). is_instruction mark.kind) here others in (
        a.0 ++ b.0,
        b.1 ∙ ap (λ l. l ++ b.0) a.1 ∙ append_assoc old a.0 b.0,
        subst (λ l. AllZip (IsLineOf form all) l (a.0 ++ b.0)) (sym marks) (both_zip (IsLineOf form all) (instruction_marks here) (instruction_marks others) a.0 b.0 a.2 b.2),
      )

  module _ (before : ℕ) (b : BodySoFar) (kept : Kept form before b) (t : Lexeme) (ts : List Lexeme) (at : IsEnd (t ∷ ts) all) (v : BodySoFar) (rest : List Lexeme) where
    abbrev first : ℕ
    first = length all - length (t ∷ ts)

    abbrev beyond : ℕ
    beyond = length all - length rest

    abbrev LineTold : Symbol → Type 0
    LineTold a = Told (body_insts b) (body_insts v) (marks_of (line_kind a) first beyond)

    line_of : (mark : Mark) → mark.first ≡ first → mark.after ≡ beyond → (inst : Inst) → body_insts v ≡ body_insts b ++ inst ∷ [] → ReadsUpTo (line form b t) ts v rest → IsLineOf form all mark inst
    line_of mark p q inst adds h =
        let end : IsEnd rest all = later all t ts rest at (reads_end end_of_text (line form b t) ts v rest h) in
        let begins : t ∷ ts ≡ drop mark.first all = by_length all (t ∷ ts) at ∙ ap (λ n. drop n all) (sym p) in
        let ends : rest ≡ drop mark.after all = by_length all rest end ∙ ap (λ n. drop n all) (sym q) in
        let from = subst (λ us. ReadsUpTo (line form b (front us)) (tail us) v rest) begins h in
        record { before = b; after = v; reads = subst (λ us. ReadsUpTo (line form b (front (drop mark.first all))) (tail (drop mark.first all)) v us) ends from; adds = adds }

    one_told : ReadsUpTo (line form b t) ts v rest → Adds (opened b) v → Told (body_insts b) (body_insts v) (record { kind = k.Instruction; first = first; after = beyond } ∷ [])
    one_told h a =
        let adds = a.1 ∙ ap (λ l. l ++ a.0 ∷ []) (open_same b kept.closed) in
        (a.0 ∷ [], adds, (line_of (record { kind = k.Instruction; first = first; after = beyond }) refl refl a.0 adds h, tt))

    -- a label stands where no block is open
    label_told : (n : Name) (numbers : ℕ) → Kept form before v → v ≡ opened_as b n numbers → Told (body_insts b) (body_insts v) []
    label_told n numbers after e =
        let whole = kept.all in
        let now = after.all in
        let count = ap (λ (c : BodySoFar). c.count) e in
        let ended = ap (λ (c : BodySoFar). instructions_of c.blocks) e in
        let empty = ap (λ (c : BodySoFar). length c.insts) e in
        none_told (body_insts b) (body_insts v) [] (ap body_insts e ∙ begun b n numbers (omega (arith, whole, now, count, ended, empty))) refl

    line_told_by : (a : Symbol) → Kept form before v → ReadsUpTo (line form b t) ts v rest → ReadsUpTo (line_by form b a t) ts v rest → LineTold a
    line_told_by s.Label after whole h = label_told _ 0 after h.0
    line_told_by s.NumberedLabel after whole h = label_told _ 1 after h.0
    line_told_by s.DebugGroup after whole h =
        none_told (body_insts b) (body_insts v) (record { kind = k.Record; first = first; after = beyond } ∷ []) (ap body_insts (record_line_is form (opened b) ts v rest h) ∙ open_same b kept.closed) refl
    line_told_by s.Local after whole h = one_told whole (named_line_adds form (opened b) _ ts v rest h)
    line_told_by s.NumberedLocal after whole h = one_told whole (named_line_adds form (opened b) _ ts v rest h)
    line_told_by a after whole h = one_told whole (instruction_adds (opened b) form ts v rest None a h)

    line_told : Kept form before v → ReadsUpTo (line form b t) ts v rest → LineTold t.symbol
    unfolding line
    line_told after h = line_told_by t.symbol after h h

  lines_told : (before n : ℕ) (b : BodySoFar) → Kept form before b → (ts : List Lexeme) → IsEnd ts all → (v : BodySoFar) (rest : List Lexeme) (found : List Mark)
      → LinesPass form (length all) n b ts v rest found → Told (body_insts b) (body_insts v) found
  lines_told before zero b kept ts at v rest found h = none_told (body_insts b) (body_insts v) found (ap body_insts h.0) (ap instruction_marks h.2)
  lines_told before (suc n) b kept [] at v rest found h = absurd h
  lines_told before (suc n) b kept (t ∷ ts) at v rest found h =
      let after = line_kept form before b kept t ts h.1 h.2 h.0 h.3 in
      let here = line_told before b kept t ts at h.1 h.2 after h.3 in
      let told = subst (Told (body_insts b) (body_insts h.1)) (sym h.5) here in
      let end = later all t ts h.2 at (reads_end end_of_text (line form b t) ts h.1 h.2 h.3) in
      then_told (body_insts b) (body_insts h.1) (body_insts v) found h.4 h.6 h.8 told (lines_told before n h.1 after h.2 end v rest h.6 h.7)

  -- ---- functions

  whole_body : (before : ℕ) (start : BodySoFar) (ts : List Lexeme) (v : List Block) (rest : List Lexeme) (last : BodySoFar) (left : List Lexeme) (n : ℕ)
      → Kept form before start → ReadsUpTo (blocks form start) ts v rest → Turns (line_begins form) (λ b t. ReadsUpTo (line form b t)) n start ts last left
      → body_insts last ≡ flat_map (λ block. block.insts) v
  unfolding blocks
  whole_body before start ts v rest last left n start_kept h turns =
      let body = h.0 in
      let kept = turns_kept (line_begins form) (λ b t. ReadsUpTo (line form b t)) (Kept form before)
      (λ b t us w others g r p. line_kept form before b p t us w others g r) h.2.0 start ts body h.1 h.2.1 start_kept in
      let finish = blocks_end (is_whole body) body h.1 v rest h.3 in
      let empty = none_of body.insts (kept.closed (not_open (is_open body.name) _ finish.0)) in
      let last_is = (one_reading end_of_text (loop (line_begins form) (line form) start) ts last body left h.1 (n, turns) h.2).0 in
      ap body_insts last_is ∙ ap (λ l. flat_map (λ block. block.insts) body.blocks ++ l) empty ∙ append-nil (flat_map (λ block. block.insts) body.blocks)
      ∙ ap (flat_map (λ (block : Block). block.insts)) (sym finish.1)

  function_told : (before : ℕ) (ts : List Lexeme) → IsEnd ts all → (f : Func) (rest : List Lexeme) (found : List Mark) → before ≤ max_instructions form
      → ReadsUpTo (function form before) ts f rest → HasLines form (length all) before ts found → Told [] (func_insts f) found
  function_told before ts at f rest found few h a =
      let read = headed form before ts f rest h in
      let start = body_after read.parameters before in
      let same = one_reading end_of_text (heading form before) ts start a.start read.inside a.inside read.head a.head in
      let kept : Kept form before start = record { all = omega arith; few = few; closed = λ e. refl } in
      let from = subst (λ b. LinesPass form (length all) a.lines b a.inside a.last a.rest found) (sym same.0) a.pass in
      let pass = subst (λ us. LinesPass form (length all) a.lines start us a.last a.rest found) (sym same.1) from in
      let turns = are_turns (line_begins form) (λ b t. ReadsUpTo (line form b t)) (LineBrings (length all)) a.lines start read.inside a.last a.rest found pass a.ends in
      let whole = whole_body before start read.inside read.all read.rest a.last a.rest a.lines kept read.body turns in
      let end = inside_end all ts read.inside at (reads_end end_of_text (heading form before) ts start read.inside read.head) in
      let told = lines_told before a.lines start kept read.inside end a.last a.rest found pass in
      subst (λ l. Told [] l found) (whole ∙ ap (flat_map (λ (block : Block). block.insts)) (sym read.blocks_are)) told

  -- ---- entities

  module _ (p : ModuleSoFar) (kept : KeptParts form p) (t : Lexeme) (ts : List Lexeme) (at : IsEnd (t ∷ ts) all) (v : ModuleSoFar) (rest : List Lexeme) (found lines : List Mark) (x y : ℕ) where
    abbrev EntityTold : Type 0
    EntityTold = Told (module_insts p.«module») (module_insts v.«module») found

    other_told : (a : Symbol) → found ≡ lines ++ marks_of (entity_kind a) x y → lines ≡ [] → instruction_marks (marks_of (entity_kind a) x y) ≡ [] → v.«module».funcs ≡ p.«module».funcs → EntityTold
    other_told a e l none same =
        none_told (module_insts p.«module») (module_insts v.«module») found (ap (flat_map func_insts) same)
        (ap instruction_marks e ∙ ap (λ l. instruction_marks (l ++ marks_of (entity_kind a) x y)) l ∙ none)

    entity_told_by : (a : Symbol) → ReadsUpTo (entity_by form p a t) ts v rest → HasInner a form (length all) p.count ts lines → found ≡ lines ++ marks_of (entity_kind a) x y → EntityTold
    entity_told_by s.SourceFilename h l e = other_told s.SourceFilename e l refl (ap (λ (q : ModuleSoFar). q.«module».funcs) h.3.0)
    entity_told_by s.Target h l e = other_told s.Target e l refl (ap (λ (q : ModuleSoFar). q.«module».funcs) h.3.0)
    entity_told_by s.Attributes h l e = other_told s.Attributes e l refl (ap (λ (q : ModuleSoFar). q.«module».funcs) h.3.0)
    entity_told_by s.Local h l e = other_told s.Local e l refl (ap (λ (q : ModuleSoFar). q.«module».funcs) h.3.0)
    entity_told_by s.NumberedLocal h l e = other_told s.NumberedLocal e l refl (ap (λ (q : ModuleSoFar). q.«module».funcs) h.3.0)
    entity_told_by s.Global h l e = other_told s.Global e l refl (ap (λ (q : ModuleSoFar). q.«module».funcs) h.3.0)
    entity_told_by s.Declare h l e = other_told s.Declare e l refl (ap (λ (q : ModuleSoFar). q.«module».funcs) h.3.0)
    entity_told_by s.Meta h l e = other_told s.Meta e l refl (ap (λ (q : ModuleSoFar). q.«module».funcs) h.3.0)
    entity_told_by s.Define h l e =
        let inside = function_told p.count ts (inside_end all (t ∷ ts) ts at (t ∷ [], refl)) h.0 h.1 lines (few_here form p kept) h.2 l in
        let old = module_insts p.«module» in
        let more = flat_map-append func_insts p.«module».funcs (h.0 ∷ []) ∙ ap (λ l. old ++ l) (append-nil (func_insts h.0)) in
        let now = ap (λ (q : ModuleSoFar). module_insts q.«module») h.3.0 ∙ more in
        let lines_told : Told old (module_insts v.«module») lines = (inside.0, now ∙ ap (λ l. old ++ l) inside.1, inside.2) in
        then_told old (module_insts v.«module») (module_insts v.«module») found lines (marks_of (entity_kind s.Define) x y) e lines_told
        (none_told (module_insts v.«module») (module_insts v.«module») (marks_of (entity_kind s.Define) x y) refl refl)
    entity_told_by a h l e = other_told a e l refl (ap (λ (q : ModuleSoFar). q.«module».funcs) h.3.0)

    entity_told : ReadsUpTo (entity form p t) ts v rest → HasInner t.symbol form (length all) p.count ts lines → found ≡ lines ++ marks_of (entity_kind t.symbol) x y → EntityTold
    unfolding entity
    entity_told h l e = entity_told_by t.symbol h l e

  entities_told : (n : ℕ) (p : ModuleSoFar) → KeptParts form p → (ts : List Lexeme) → IsEnd ts all → (v : ModuleSoFar) (rest : List Lexeme) (found : List Mark)
      → EntitiesPass form (length all) n p ts v rest found → Told (module_insts p.«module») (module_insts v.«module») found
  entities_told zero p kept ts at v rest found h =
      none_told (module_insts p.«module») (module_insts v.«module») found (ap (λ (q : ModuleSoFar). module_insts q.«module») h.0) (ap instruction_marks h.2)
  entities_told (suc n) p kept [] at v rest found h = absurd h
  entities_told (suc n) p kept (t ∷ ts) at v rest found h =
      let here = entity_told p kept t ts at h.1 h.2 h.4 h.5.lines (length all - length (t ∷ ts)) (length all - length h.2) h.3 h.5.inner h.5.whole in
      let end = later all t ts h.2 at (reads_end end_of_text (entity form p t) ts h.1 h.2 h.3) in
      then_told (module_insts p.«module») (module_insts h.1.«module») (module_insts v.«module») found h.4 h.6 h.8 here
      (entities_told n h.1 (entity_kept form p kept t ts h.1 h.2 h.0 h.3) h.2 end v rest h.6 h.7)

  module_told : (m : Module) (left : List Lexeme) (n : ℕ) (v : ModuleSoFar) (rest : List Lexeme) (found : List Mark) → ReadsUpTo (module_rule form) all m left
      → EntitiesPass form (length all) n no_parts all v rest found → Ends (entity_begins form) v rest → AllZip (IsLineOf form all) (instruction_marks found) (module_insts m)
  unfolding module_rule
  module_told m left n v rest found h pass e =
      let none : KeptParts form no_parts = record { all = refl; bounds = record { instructions = omega arith; functions = omega arith; globals = omega arith } } in
      let turns = are_turns (entity_begins form) (λ p t. ReadsUpTo (entity form p t)) (EntityBrings form (length all)) n no_parts all v rest found pass e in
      let same = (one_reading end_of_text (loop (entity_begins form) (entity form) no_parts) all v h.0 rest h.1 (n, turns) h.2).0 in
      let told = entities_told n no_parts none all ([], refl) v rest found pass in
      let module_is = ap (λ (q : ModuleSoFar). module_insts q.«module») same ∙ sym (ap module_insts h.3.3.0) in
      subst (AllZip (IsLineOf form all) (instruction_marks found)) (sym told.1 ∙ module_is) told.2

-- ---- texts

pub instructions_one_by_one : (text : Text) (form : Form) (m : Module) (tokens : List Token) (found : List Mark) → Reads form text m → HasTokens form text tokens
    → AreMarks form text tokens found → AllZip (IsLineOf form (lexemes_of text tokens)) (instruction_marks found) (module_insts m)
instructions_one_by_one text form m tokens found reads has a =
    let same = same_tokens form text tokens reads.0 has reads.1 in
    let read = subst (λ ts. ReadsUpTo (module_rule form) (lexemes_of text ts) m []) same reads.2 in
    let total = length-map tokens (lexeme_of text) in
    let pass = subst (λ n. EntitiesPass form n a.entities no_parts (lexemes_of text tokens) a.parts a.rest found) (sym total) a.pass in
    module_told form (lexemes_of text tokens) m [] a.entities a.parts a.rest found read pass a.ends

-- ---- how many

blocks_count : (bs : List Block) → length (flat_map (λ block. block.insts) bs) ≡ instructions_of bs
blocks_count [] = refl
blocks_count (b ∷ bs) = let rest = blocks_count bs in omega (arith, length-append b.insts (flat_map (λ block. block.insts) bs), rest)

functions_count : (fs : List Func) → length (flat_map func_insts fs) ≡ instructions_among fs
functions_count [] = refl
functions_count (f ∷ fs) = let rest = functions_count fs in omega (arith, length-append (func_insts f) (flat_map func_insts fs), blocks_count f.blocks, rest)

pub instructions_counted : (text : Text) (form : Form) (m : Module) (tokens : List Token) (found : List Mark) → Reads form text m → HasTokens form text tokens
    → AreMarks form text tokens found → instructions_in found ≡ instructions_among m.funcs
instructions_counted text form m tokens found reads has a =
    same_lengths (IsLineOf form (lexemes_of text tokens)) (instruction_marks found) (module_insts m) (instructions_one_by_one text form m tokens found reads has a) ∙ functions_count m.funcs
