-- The number of the next inserted result: instrumented code raises it by at most what is written in it.
use Rattle.std.proofs.Common.{ℕ, List, [], ◌∷◌, ◌++◌, arith}
use Rattle.ms_ir.specs.declared.syntax.Inst.{Inst}
use Rattle.ms_runs.specs.World.{Here}
use Rattle.ms_pass_tasks.specs.Environments.{Env, Given}
use Rattle.ms_pass_tasks.specs.PassLists.{emit_op, next_here, pass_insts}
use Rattle.ms_pass_form_laws.proofs.Costs.{written_append}
use Rattle.ms_rules.proofs.Growth.{Grows, none, round_grows}

module _ (given : Given) (env : Env) where
  pub insts_grow : (is : List Inst) (h : Here) (n : ℕ) → Grows n (pass_insts given env is h n).code (pass_insts given env is h n).next
  insts_grow [] h n = none n
  insts_grow (i ∷ is) h n =
      let x = emit_op given env h i n i.op in let y = pass_insts given env is (next_here given h i) x.next in
      let p = round_grows given env h i n i.op in let q = insts_grow is (next_here given h i) x.next in
      record {
        more = omega (arith, p.more, q.more);
        few = omega (arith, p.few, q.few, written_append x.before (i ∷ x.after), written_append x.before (i ∷ (x.after ++ y.code)), written_append x.after y.code);
      }
