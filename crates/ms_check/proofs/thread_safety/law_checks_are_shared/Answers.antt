use denote.Exit.{yes}
use denote.Param.Send.{param_send, param_sync, arg_send, arg_sync}
use Rattle.ms_check.proofs.Crosses.{CheckedModule-send, CheckedModule-sync}
use Rattle.ms_check.proofs.thread_safety.law_checks_are_shared.Goals as goal

pub law_shared-requires-send-T : goal.law_shared-requires-send-T
law_shared-requires-send-T c κs = param_send 0 _ (arg_send _ yes _ CheckedModule-send)

pub law_shared-requires-sync-T : goal.law_shared-requires-sync-T
law_shared-requires-sync-T c κs = param_sync 0 _ (arg_sync _ yes _ CheckedModule-sync)
