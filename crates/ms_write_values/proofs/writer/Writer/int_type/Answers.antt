use Rattle.std.proofs.Common.{◌≡◌, ℕ, ◌∷◌, IfOk, decimal, sym, subst}
use Rattle.std.specs.Fmt.{digits}
use Rattle.ms_write_values.specs.Sheets.{put_text}
use Rattle.ms_write_values.proofs.writer.Writer.int_type.Goals as goal

pub returns-in-1 : goal.returns-in-1
unfolding digits
returns-in-1 c = subst (λ (width : ℕ). IfOk c.token.result (λ _. c.token.new.self ≡ put_text c.args.self.now (105 ∷ decimal width))) (sym c.in-1.is) c.token.ensures

pub returns-in-8 : goal.returns-in-8
unfolding digits
returns-in-8 c = subst (λ (width : ℕ). IfOk c.token-in-8.result (λ _. c.token-in-8.new.self ≡ put_text c.args.self.now (105 ∷ decimal width))) (sym c.in-8.is) c.token-in-8.ensures

pub returns-in-16 : goal.returns-in-16
unfolding digits
returns-in-16 c = subst (λ (width : ℕ). IfOk c.token-in-16.result (λ _. c.token-in-16.new.self ≡ put_text c.args.self.now (105 ∷ decimal width))) (sym c.in-16.is) c.token-in-16.ensures

pub returns-in-32 : goal.returns-in-32
unfolding digits
returns-in-32 c = subst (λ (width : ℕ). IfOk c.token-in-32.result (λ _. c.token-in-32.new.self ≡ put_text c.args.self.now (105 ∷ decimal width))) (sym c.in-32.is) c.token-in-32.ensures

pub returns-in-64 : goal.returns-in-64
unfolding digits
returns-in-64 c = subst (λ (width : ℕ). IfOk c.token-in-64.result (λ _. c.token-in-64.new.self ≡ put_text c.args.self.now (105 ∷ decimal width))) (sym c.in-64.is) c.token-in-64.ensures
