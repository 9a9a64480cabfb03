-- The types of a module may cross threads, each from those that it is made of.
use denote.Param.Send.{IsSend, IsSync, sendable}
use denote.Param.SendFields.{declared_send, declared_sync, variants_send, variants_sync}
use denote.RattleType.{RattleType}
use Rattle.std.proofs.Crossing
use Rattle.ms_bits.specs.contracts.lists.List as list
use Rattle.ms_bits.proofs.operations.BinOp.TheSendSync as binops
use Rattle.ms_bits.proofs.operations.Pred.TheSendSync as preds
use Rattle.ms_bits.proofs.operations.CastOp.TheSendSync as casts
use Rattle.ms_bits.proofs.operations.Flags.TheSendSync as flags
use Rattle.ms_ir.proofs.syntax.Name.TheSendSync as names
use Rattle.ms_ir.proofs.syntax.Ty.TheLaws.TheKnot as tys
use Rattle.ms_ir.proofs.syntax.Init.TheLaws.TheKnot as inits
use Rattle.ms_ir.specs.contracts.syntax.Ty as ty
use Rattle.ms_ir.specs.contracts.syntax.Operand as operand
use Rattle.ms_ir.specs.contracts.syntax.Init as init
use Rattle.ms_ir.specs.contracts.syntax.GlobalVar as global
use Rattle.ms_ir.specs.contracts.syntax.Decl as decl
use Rattle.ms_ir.specs.contracts.syntax.Op as op
use Rattle.ms_ir.specs.contracts.syntax.Inst as inst
use Rattle.ms_ir.specs.contracts.syntax.Block as block
use Rattle.ms_ir.specs.contracts.syntax.Func as func
use Rattle.ms_ir.specs.contracts.syntax.Module as modules

pub List-send : (R : RattleType) → IsSend R → IsSend (list.the_row R)
List-send R s = search (Crossing.crosses, sendable) depth 60 fits 20000

pub List-sync : (R : RattleType) → IsSync R → IsSync (list.the_row R)
List-sync R s = search (Crossing.crosses, sendable) depth 60 fits 20000

pub Ty-send : IsSend ty.the_row
Ty-send = search (Crossing.crosses, tys.crosses, sendable) depth 60 fits 20000

pub Ty-sync : IsSync ty.the_row
Ty-sync = search (Crossing.crosses, tys.crosses, sendable) depth 60 fits 20000

-- a tuple for each variant, in their order
pub Operand-send : IsSend operand.the_row
Operand-send = variants_send operand.enum (
  (search sendable, tt),
  (
    tt,
    (
      tt,
      (
        tt,
        (
          (names.the_send, tt),
          (
            (names.the_send, tt),
            (
              (search (names.the_send, Crossing.crosses, sendable) depth 60 fits 20000, (search (List-send, Ty-send, Crossing.crosses, sendable) depth 60 fits 20000, tt)),
              tt,
            ),
          ),
        ),
      ),
    ),
  ),
)

-- a tuple for each variant, in their order
pub Operand-sync : IsSync operand.the_row
Operand-sync = variants_sync operand.enum (
  (search sendable, tt),
  (
    tt,
    (
      tt,
      (
        tt,
        (
          (names.the_sync, tt),
          (
            (names.the_sync, tt),
            (
              (search (names.the_sync, Crossing.crosses, sendable) depth 60 fits 20000, (search (List-sync, Ty-sync, Crossing.crosses, sendable) depth 60 fits 20000, tt)),
              tt,
            ),
          ),
        ),
      ),
    ),
  ),
)

-- a tuple for each variant, in their order
pub Op-send : IsSend op.the_row
Op-send = variants_send op.enum (
  (binops.the_send, (flags.the_send, (Ty-send, (Operand-send, (Operand-send, tt))))),
  (
    (preds.the_send, (flags.the_send, (Ty-send, (Operand-send, (Operand-send, tt))))),
    (
      (casts.the_send, (flags.the_send, (Ty-send, (Operand-send, (Ty-send, tt))))),
      (
        (Operand-send, (Ty-send, (Operand-send, (Operand-send, tt)))),
        (
          (Ty-send, (Operand-send, tt)),
          (
            (Ty-send, (search (List-send, Operand-send, names.the_send, Crossing.crosses, sendable) depth 60 fits 20000, tt)),
            (
              (Ty-send, (Ty-send, (Operand-send, tt))),
              (
                (Ty-send, (Operand-send, tt)),
                (
                  (Ty-send, (Operand-send, (Operand-send, tt))),
                  (
                    (Ty-send, (Operand-send, (search (List-send, Operand-send, Ty-send, Crossing.crosses, sendable) depth 60 fits 20000, tt))),
                    (
                      (search (Ty-send, Crossing.crosses, sendable) depth 60 fits 20000, (names.the_send, (search (List-send, Operand-send, Ty-send, Crossing.crosses, sendable) depth 60 fits 20000, tt))),
                      (
                        (names.the_send, tt),
                        (
                          (Operand-send, (names.the_send, (names.the_send, tt))),
                          (
                            (Ty-send, (Operand-send, (names.the_send, (search (List-send, names.the_send, Crossing.crosses, sendable) depth 60 fits 20000, tt)))),
                            (
                              (search (Operand-send, Ty-send, Crossing.crosses, sendable) depth 60 fits 20000, tt),
                              (
                                tt,
                                tt,
                              ),
                            ),
                          ),
                        ),
                      ),
                    ),
                  ),
                ),
              ),
            ),
          ),
        ),
      ),
    ),
  ),
)

pub Inst-send : IsSend inst.the_row
Inst-send = declared_send inst.the_type (Op-send, (search (names.the_send, Crossing.crosses, sendable) depth 60 fits 20000, (search sendable, tt)))

pub Block-send : IsSend block.the_row
Block-send = declared_send block.the_type (names.the_send, (List-send _ Inst-send, tt))

pub Func-send : IsSend func.the_row
Func-send = declared_send func.the_type (names.the_send, (search (Ty-send, Crossing.crosses, sendable) depth 60 fits 20000, (search (List-send, Ty-send, names.the_send, Crossing.crosses, sendable) depth 60 fits 20000, (List-send _ Block-send, tt))))

pub Init-send : IsSend init.the_row
Init-send = search (Ty-send, List-send, Crossing.crosses, inits.crosses, sendable) depth 60 fits 20000

pub GlobalVar-send : IsSend global.the_row
GlobalVar-send = declared_send global.the_type (names.the_send, (search sendable, (Ty-send, (Init-send, tt))))

pub Decl-send : IsSend decl.the_row
Decl-send = declared_send decl.the_type (names.the_send, (search (Ty-send, Crossing.crosses, sendable) depth 60 fits 20000, (List-send _ Ty-send, tt)))

pub Module-send : IsSend modules.the_row
Module-send = declared_send modules.the_type (search (List-send, Ty-send, names.the_send, Crossing.crosses, sendable) depth 60 fits 20000, (List-send _ GlobalVar-send, (List-send _ Decl-send, (List-send _ Func-send, tt))))

-- a tuple for each variant, in their order
pub Op-sync : IsSync op.the_row
Op-sync = variants_sync op.enum (
  (binops.the_sync, (flags.the_sync, (Ty-sync, (Operand-sync, (Operand-sync, tt))))),
  (
    (preds.the_sync, (flags.the_sync, (Ty-sync, (Operand-sync, (Operand-sync, tt))))),
    (
      (casts.the_sync, (flags.the_sync, (Ty-sync, (Operand-sync, (Ty-sync, tt))))),
      (
        (Operand-sync, (Ty-sync, (Operand-sync, (Operand-sync, tt)))),
        (
          (Ty-sync, (Operand-sync, tt)),
          (
            (Ty-sync, (search (List-sync, Operand-sync, names.the_sync, Crossing.crosses, sendable) depth 60 fits 20000, tt)),
            (
              (Ty-sync, (Ty-sync, (Operand-sync, tt))),
              (
                (Ty-sync, (Operand-sync, tt)),
                (
                  (Ty-sync, (Operand-sync, (Operand-sync, tt))),
                  (
                    (Ty-sync, (Operand-sync, (search (List-sync, Operand-sync, Ty-sync, Crossing.crosses, sendable) depth 60 fits 20000, tt))),
                    (
                      (search (Ty-sync, Crossing.crosses, sendable) depth 60 fits 20000, (names.the_sync, (search (List-sync, Operand-sync, Ty-sync, Crossing.crosses, sendable) depth 60 fits 20000, tt))),
                      (
                        (names.the_sync, tt),
                        (
                          (Operand-sync, (names.the_sync, (names.the_sync, tt))),
                          (
                            (Ty-sync, (Operand-sync, (names.the_sync, (search (List-sync, names.the_sync, Crossing.crosses, sendable) depth 60 fits 20000, tt)))),
                            (
                              (search (Operand-sync, Ty-sync, Crossing.crosses, sendable) depth 60 fits 20000, tt),
                              (
                                tt,
                                tt,
                              ),
                            ),
                          ),
                        ),
                      ),
                    ),
                  ),
                ),
              ),
            ),
          ),
        ),
      ),
    ),
  ),
)

pub Inst-sync : IsSync inst.the_row
Inst-sync = declared_sync inst.the_type (Op-sync, (search (names.the_sync, Crossing.crosses, sendable) depth 60 fits 20000, (search sendable, tt)))

pub Block-sync : IsSync block.the_row
Block-sync = declared_sync block.the_type (names.the_sync, (List-sync _ Inst-sync, tt))

pub Func-sync : IsSync func.the_row
Func-sync = declared_sync func.the_type (names.the_sync, (search (Ty-sync, Crossing.crosses, sendable) depth 60 fits 20000, (search (List-sync, Ty-sync, names.the_sync, Crossing.crosses, sendable) depth 60 fits 20000, (List-sync _ Block-sync, tt))))

pub Init-sync : IsSync init.the_row
Init-sync = search (Ty-sync, List-sync, Crossing.crosses, inits.crosses, sendable) depth 60 fits 20000

pub GlobalVar-sync : IsSync global.the_row
GlobalVar-sync = declared_sync global.the_type (names.the_sync, (search sendable, (Ty-sync, (Init-sync, tt))))

pub Decl-sync : IsSync decl.the_row
Decl-sync = declared_sync decl.the_type (names.the_sync, (search (Ty-sync, Crossing.crosses, sendable) depth 60 fits 20000, (List-sync _ Ty-sync, tt)))

pub Module-sync : IsSync modules.the_row
Module-sync = declared_sync modules.the_type (search (List-sync, Ty-sync, names.the_sync, Crossing.crosses, sendable) depth 60 fits 20000, (List-sync _ GlobalVar-sync, (List-sync _ Decl-sync, (List-sync _ Func-sync, tt))))
