use Rattle.std.proofs.Common.{◌≡◌, not, None, Some, Option, option_map, is_some, refl, ap, ◌∙◌}
use Rattle.ms_threads.specs.declared.thread_table.Thread.{Thread as Guest}
use Rattle.ms_threads.specs.ThreadTables.{standing_of, thread_of}
use Rattle.ms_threads.proofs.Places.{stand_there}
use Rattle.ms_threads.proofs.Numbered.{goes_by}
use Rattle.ms_threads.proofs.Threading.{same_thread}
use Rattle.ms_threads.proofs.thread_table.ThreadTable.is_runnable.Goals as goal

there : (o : Option Guest) → is_some o ≡ is_some (option_map thread_of o)
there None = refl
there (Some t) = refl

pub returns-in-Some : goal.returns-in-Some
returns-in-Some c =
    let g = c.args.self.now in
    let p = c.index.result.now in
    goes_by g c.args.k (Some (standing_of p.fiber c.in-Some.call)) (not c.waits.result) c.if-has_ended.ensures
    (stand_there g.parked.items c.args.k p c.requires c.index.ensures ∙ ap (option_map (standing_of p.fiber)) c.in-Some.is) (ap not c.waits.ensures)

pub returns-in-None : goal.returns-in-None
returns-in-None c =
    let g = c.args.self.now in
    let p = c.index.result.now in
    goes_by g c.args.k None c.is_some.result c.if-has_ended.ensures (stand_there g.parked.items c.args.k p c.requires c.index.ensures ∙ ap (option_map (standing_of p.fiber)) c.in-None.is)
    (c.is_some.ensures ∙ ap is_some c.thread.ensures ∙ there _ ∙ ap is_some (same_thread c.args.k g.threads.items))
