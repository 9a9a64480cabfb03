-- InsertedCode that grows by an instruction between its lists.
use Rattle.std.specs.Prelude.{List, [], ◌∷◌, ◌++◌}
use Rattle.ms_ir.specs.declared.syntax.Inst.{Inst}
use Rattle.ms_runs.specs.World.{Here}
use Rattle.ms_pass_tasks.specs.Tasks.{InsertedCode}
use Rattle.ms_pass_tasks.specs.Environments.{Env, Given}
use Rattle.ms_pass_tasks.specs.PassLists.{emit_lists}

-- code with an instruction after it that stands between the lists that are inserted round it
abbrev pub with_inst : Given → Env → Here → Inst → InsertedCode → InsertedCode
with_inst given env h i c = let x = emit_lists given env h i c.next in record { code = c.code ++ (x.before ++ (i ∷ x.after)); next = x.next }

-- code with one instruction after it
abbrev pub with_one : InsertedCode → Inst → InsertedCode
with_one c i = record { code = c.code ++ i ∷ []; next = c.next }

-- code with instructions after it
abbrev pub with_insts : InsertedCode → List Inst → InsertedCode
with_insts c is = record { code = c.code ++ is; next = c.next }
