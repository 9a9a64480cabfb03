-- Where a line begins, numbers are left, and there is room for its instruction.
use Rattle.std.proofs.Common.{◌≡◌, ◌<◌, ◌+◌, ◌-◌, ◌^◌, Bool, true, false, ltb, cond, Ok, Err, refl, arith}
use Rattle.std.proofs.lemmas.Bool.{ltb-true}
use Rattle.ms_ir.specs.declared.forms.Form.{Form}
use Rattle.ms_ir.specs.declared.forms.Form.TheVariants.{Plain, Instrumented}
use Rattle.ms_text_grammar.specs.declared.symbols.Symbol.{Symbol}
use Rattle.ms_text_grammar.specs.declared.symbols.Symbol.TheVariants as s
use Rattle.ms_text_grammar.specs.declared.refusals.Cause.{Cause}
use Rattle.ms_text_grammar.specs.declared.refusals.Cause.TheVariants as r
use Rattle.ms_text_grammar.specs.declared.refusals.Limit.TheVariants as limit
use Rattle.ms_text_grammar.specs.declared.states.BodySoFar.{BodySoFar}
use Rattle.ms_text_grammar.specs.Lexemes.{Lexeme, name_in}
use Rattle.ms_text_grammar.specs.Names.{reserved_local}
use Rattle.ms_text_grammar.specs.Steps.{Verdict}
use Rattle.ms_text_grammar.specs.Bodies.{opened, max_instructions, counted, short, numbers_left, begins_instruction, line_begins_by, line_begins}
use Rattle.ms_read_body.specs.Room.{HasRoom}

-- a verdict that a refusal could stand in the way of
kept : (b : Bool) (verdict : Verdict Bool) (e : Cause) → cond b verdict (Err e) ≡ Ok true → (b ≡ true) × (verdict ≡ Ok true)
kept true verdict e h = (refl, h)
kept false verdict e h = absurd cc

-- a verdict that comes after a refusal that doesn't stand
passed : (b : Bool) (verdict : Verdict Bool) (e : Cause) → cond b (Err e) verdict ≡ Ok true → verdict ≡ Ok true
passed true verdict e h = absurd cc
passed false verdict e h = h

chosen : (b : Bool) (verdict : Verdict Bool) → cond b verdict (Ok false) ≡ Ok true → verdict ≡ Ok true
chosen true verdict h = h
chosen false verdict h = absurd cc

few : (form : Form) → max_instructions form < 2 ^ 32
unfolding max_instructions
few Plain = omega arith
few Instrumented = omega arith

room : (form : Form) (body : BodySoFar) (verdict : Verdict Bool) → counted form body verdict ≡ Ok true → body.count + 1 < 2 ^ 32
room form body verdict h =
    let less = ltb-true body.count (max_instructions form) (kept (ltb body.count (max_instructions form)) verdict (r.Limit limit.Instructions) h).0 in
    let most = few form in
    omega arith

room_by : (form : Form) (body : BodySoFar) (x : Symbol) (t : Lexeme) → line_begins_by form body x t ≡ Ok true → HasRoom x body.count
room_by form body s.Label t h = tt
room_by form body s.NumberedLabel t h = tt
room_by form body s.DebugGroup t h = tt
room_by form body s.Local t h = room form body (short (name_in t)) (passed (reserved_local form (name_in t)) (counted form body (short (name_in t))) r.Reserved h)
room_by form body s.NumberedLocal t h = room form body (Ok true) (kept _ (counted form body (Ok true)) r.Numbering h).1
room_by form body s.Phi t h = room form body (Ok true) (chosen (opened body).phis (counted form body (Ok true)) h)
room_by form body x t h = room form body (Ok true) (chosen (begins_instruction x) (counted form body (Ok true)) h)

pub next_left : (form : Form) (body : BodySoFar) (t : Lexeme) → line_begins form body t ≡ Ok true → body.next + 2 < 2 ^ 32
unfolding line_begins
next_left form body t h =
    let less = ltb-true body.next (2 ^ 32 - 2) (kept (numbers_left body.next) (line_begins_by form body t.symbol t) r.Numbering h).0 in
    omega arith

pub room_left : (form : Form) (body : BodySoFar) (t : Lexeme) → line_begins form body t ≡ Ok true → HasRoom t.symbol body.count
unfolding line_begins
room_left form body t h = room_by form body t.symbol t (kept (numbers_left body.next) (line_begins_by form body t.symbol t) r.Numbering h).1
