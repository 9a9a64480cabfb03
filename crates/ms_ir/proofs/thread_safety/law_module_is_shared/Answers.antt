use denote.Exit.{yes}
use denote.Param.Send.{param_send, param_sync, arg_send, arg_sync}
use Rattle.ms_ir.proofs.Crosses.{Op-send, Op-sync, Inst-send, Inst-sync, Block-send, Block-sync, Func-send, Func-sync, Module-send, Module-sync}
use Rattle.ms_ir.proofs.thread_safety.law_module_is_shared.Goals as goal

pub law_shared-requires-5-send-T : goal.law_shared-requires-5-send-T
law_shared-requires-5-send-T c κs = param_send 0 _ (arg_send _ yes _ Op-send)

pub law_shared-requires-5-sync-T : goal.law_shared-requires-5-sync-T
law_shared-requires-5-sync-T c κs = param_sync 0 _ (arg_sync _ yes _ Op-sync)

pub law_shared-requires-6-send-T : goal.law_shared-requires-6-send-T
law_shared-requires-6-send-T c κs = param_send 0 _ (arg_send _ yes _ Inst-send)

pub law_shared-requires-6-sync-T : goal.law_shared-requires-6-sync-T
law_shared-requires-6-sync-T c κs = param_sync 0 _ (arg_sync _ yes _ Inst-sync)

pub law_shared-requires-7-send-T : goal.law_shared-requires-7-send-T
law_shared-requires-7-send-T c κs = param_send 0 _ (arg_send _ yes _ Block-send)

pub law_shared-requires-7-sync-T : goal.law_shared-requires-7-sync-T
law_shared-requires-7-sync-T c κs = param_sync 0 _ (arg_sync _ yes _ Block-sync)

pub law_shared-requires-8-send-T : goal.law_shared-requires-8-send-T
law_shared-requires-8-send-T c κs = param_send 0 _ (arg_send _ yes _ Func-send)

pub law_shared-requires-8-sync-T : goal.law_shared-requires-8-sync-T
law_shared-requires-8-sync-T c κs = param_sync 0 _ (arg_sync _ yes _ Func-sync)

pub law_shared-requires-11-send-T : goal.law_shared-requires-11-send-T
law_shared-requires-11-send-T c κs = param_send 0 _ (arg_send _ yes _ Module-send)

pub law_shared-requires-11-sync-T : goal.law_shared-requires-11-sync-T
law_shared-requires-11-sync-T c κs = param_sync 0 _ (arg_sync _ yes _ Module-sync)
