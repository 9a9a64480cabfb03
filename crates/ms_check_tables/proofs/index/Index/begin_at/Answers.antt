use Rattle.std.proofs.Common.{vec_len, sym, ◌∙◌, arith}
use Rattle.std.proofs.lemmas.Bool.{eqb-true}
use Rattle.std.proofs.lemmas.List.{nil_from_length}
use Rattle.ms_check_tables.proofs.Near.{first_free}
use Rattle.ms_check_tables.proofs.index.Index.begin_at.Goals as goal

pub returns-then-is_empty : goal.returns-then-is_empty
returns-then-is_empty c =
    let index = c.args.self.now in
    let none = eqb-true (vec_len index.near) 0 (sym c.is_empty.ensures ∙ c.if-is_empty.true) in
    first_free index c.args.number (nil_from_length index.near.items (omega (arith, none, index.near.ok.0)))
