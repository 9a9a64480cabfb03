-- A checked module may cross threads, since a module and its code may.
use denote.Param.Send.{IsSend, IsSync, sendable, view_send, view_sync}
use denote.Param.SendFields.{declared_send, declared_sync, variants_send, variants_sync}
use Rattle.std.proofs.Crossing
use Rattle.ms_bits.proofs.operations.BinOp.TheSendSync as binops
use Rattle.ms_bits.proofs.operations.Pred.TheSendSync as preds
use Rattle.ms_bits.proofs.operations.CastOp.TheSendSync as casts
use Rattle.ms_bits.proofs.operations.Flags.TheSendSync as flags
use Rattle.ms_ir.proofs.calls.External.TheSendSync as externals
use Rattle.ms_ir.proofs.calls.RuntimeFn.TheSendSync as functions
use Rattle.ms_ir.proofs.Crosses.{List-send, List-sync, Ty-send, Ty-sync, Module-send, Module-sync}
use Rattle.ms_machine_code.specs.contracts.short.ValueBits as part
use Rattle.ms_machine_code.specs.contracts.short.ShortOp as form
use Rattle.ms_machine_code.specs.contracts.short.ShortInst as short
use Rattle.ms_machine_code.specs.contracts.code.WordSource as source
use Rattle.ms_machine_code.specs.contracts.code.PhiMove as move
use Rattle.ms_machine_code.specs.contracts.code.Edge as edge
use Rattle.ms_machine_code.specs.contracts.code.Stride as stride
use Rattle.ms_machine_code.specs.contracts.code.Code as code
use Rattle.ms_machine_code.specs.contracts.code.Site as site
use Rattle.ms_machine_code.specs.contracts.code.Routine as routine
use Rattle.ms_machine_code.specs.contracts.code.Program as program
use Rattle.ms_check.specs.contracts.checked.CheckedModule as checked

pub WordSource-send : IsSend source.the_row
WordSource-send = search (Crossing.crosses, sendable) depth 60 fits 20000

pub PhiMove-send : IsSend move.the_row
PhiMove-send = declared_send move.the_type (WordSource-send, (search sendable, tt))

pub Edge-send : IsSend edge.the_row
Edge-send = declared_send edge.the_type (search sendable, (List-send _ PhiMove-send, tt))

pub Stride-send : IsSend stride.the_row
Stride-send = declared_send stride.the_type (WordSource-send, (search sendable, (search sendable, tt)))

-- a tuple for each variant, in their order
pub Code-send : IsSend code.the_row
Code-send = variants_send code.enum (
  (binops.the_send, (flags.the_send, (search sendable, (WordSource-send, (WordSource-send, (search sendable, tt)))))),
  (
    (preds.the_send, (flags.the_send, (search sendable, (WordSource-send, (WordSource-send, (search sendable, tt)))))),
    (
      (casts.the_send, (flags.the_send, (search sendable, (WordSource-send, (search sendable, (search sendable, tt)))))),
      (
        (WordSource-send, (WordSource-send, (WordSource-send, (search sendable, tt)))),
        (
          (WordSource-send, (search sendable, tt)),
          (
            (search sendable, (WordSource-send, (search sendable, tt))),
            (
              (search sendable, (search sendable, (WordSource-send, (search sendable, tt)))),
              (
                (search sendable, (WordSource-send, (WordSource-send, tt))),
                (
                  (search sendable, (search sendable, (WordSource-send, (search sendable, tt)))),
                  (
                    (search sendable, (WordSource-send, (WordSource-send, tt))),
                    (
                      (WordSource-send, (search sendable, (List-send _ Stride-send, (search sendable, tt)))),
                      (
                        (Edge-send, tt),
                        (
                          (WordSource-send, (Edge-send, (Edge-send, tt))),
                          (
                            (WordSource-send, (search (List-send, Edge-send, Crossing.crosses, sendable) depth 60 fits 20000, (Edge-send, tt))),
                            (
                              (search sendable, (List-send _ WordSource-send, (search (Crossing.crosses, sendable) depth 60 fits 20000, tt))),
                              (
                                (externals.the_send, (List-send _ WordSource-send, (List-send _ Ty-send, (search (Crossing.crosses, sendable) depth 60 fits 20000, tt)))),
                                (
                                  (functions.the_send, (List-send _ WordSource-send, (search (Crossing.crosses, sendable) depth 60 fits 20000, tt))),
                                  (
                                    (WordSource-send, tt),
                                    (
                                      (WordSource-send, tt),
                                      (
                                        tt,
                                        (
                                          tt,
                                          tt,
                                        ),
                                      ),
                                    ),
                                  ),
                                ),
                              ),
                            ),
                          ),
                        ),
                      ),
                    ),
                  ),
                ),
              ),
            ),
          ),
        ),
      ),
    ),
  ),
)

pub Site-send : IsSend site.the_row
Site-send = declared_send site.the_type (search sendable, (search sendable, tt))

pub Routine-send : IsSend routine.the_row
Routine-send = declared_send routine.the_type (search sendable, (search sendable, (search sendable, tt)))

pub ValueBits-send : IsSend part.the_row
ValueBits-send = declared_send part.the_type (search sendable, (search sendable, tt))

-- a tuple for each variant, in their order
pub ShortOp-send : IsSend form.the_row
ShortOp-send = variants_send form.enum (
  tt,
  (
    (search sendable, tt),
    (
      (ValueBits-send, tt),
      (
        (ValueBits-send, (ValueBits-send, tt)),
        (
          (ValueBits-send, (ValueBits-send, tt)),
          (
            (ValueBits-send, (search sendable, tt)),
            (
              (ValueBits-send, (ValueBits-send, tt)),
              (
                (ValueBits-send, (search sendable, tt)),
                (
                  (search sendable, (ValueBits-send, (search sendable, tt))),
                  (
                    (ValueBits-send, (ValueBits-send, (search sendable, (flags.the_send, tt)))),
                    (
                      (ValueBits-send, (search sendable, (search sendable, (flags.the_send, tt)))),
                      (
                        (ValueBits-send, (ValueBits-send, (search sendable, (flags.the_send, tt)))),
                        (
                          (ValueBits-send, (search sendable, (search sendable, (flags.the_send, tt)))),
                          (
                            (ValueBits-send, (ValueBits-send, (search sendable, (flags.the_send, tt)))),
                            (
                              (ValueBits-send, (search sendable, (search sendable, (flags.the_send, tt)))),
                              (
                                (search sendable, (search sendable, tt)),
                                (
                                  (search sendable, (search sendable, (search sendable, (search sendable, tt)))),
                                  (
                                    (ValueBits-send, (search sendable, (search sendable, tt))),
                                    (
                                      (ValueBits-send, (ValueBits-send, tt)),
                                      (
                                        (ValueBits-send, (ValueBits-send, tt)),
                                        (
                                          (ValueBits-send, (search sendable, tt)),
                                          (
                                            (ValueBits-send, (search sendable, tt)),
                                            (
                                              (ValueBits-send, (ValueBits-send, tt)),
                                              (
                                                (ValueBits-send, (ValueBits-send, tt)),
                                                (
                                                  (ValueBits-send, (ValueBits-send, (search sendable, (search sendable, tt)))),
                                                  (
                                                    (ValueBits-send, (search sendable, (search sendable, (search sendable, tt)))),
                                                    (
                                                      (ValueBits-send, (ValueBits-send, (ValueBits-send, tt))),
                                                      (
                                                        (ValueBits-send, (search sendable, (ValueBits-send, tt))),
                                                        (
                                                          (ValueBits-send, (search sendable, (search sendable, tt))),
                                                          (
                                                            (ValueBits-send, tt),
                                                            (
                                                              (ValueBits-send, tt),
                                                              (
                                                                (search sendable, (search sendable, (WordSource-send, tt))),
                                                                (
                                                                  (search sendable, (WordSource-send, (WordSource-send, tt))),
                                                                  (
                                                                    (search sendable, (search sendable, (search sendable, tt))),
                                                                    (
                                                                      (search sendable, (search sendable, (WordSource-send, tt))),
                                                                      (
                                                                        (search sendable, (search sendable, (ValueBits-send, (search sendable, tt)))),
                                                                        (
                                                                          (search sendable, (search sendable, (search sendable, (search sendable, (search sendable, tt))))),
                                                                          (
                                                                            (search sendable, (search sendable, (search sendable, (search sendable, (search sendable, tt))))),
                                                                            (
                                                                              (search sendable, (search sendable, (ValueBits-send, (search sendable, (search sendable, tt))))),
                                                                              (
                                                                                (search sendable, (search sendable, (search sendable, (search sendable, tt)))),
                                                                                (
                                                                                  (search sendable, (search sendable, (search sendable, (search sendable, (search sendable, tt))))),
                                                                                  (
                                                                                    (search sendable, (search sendable, (search sendable, tt))),
                                                                                    (
                                                                                      (search sendable, (search sendable, (ValueBits-send, tt))),
                                                                                      (
                                                                                        (search sendable, (search sendable, (search sendable, tt))),
                                                                                        (
                                                                                          (search sendable, tt),
                                                                                          (
                                                                                            (ValueBits-send, (search sendable, (search sendable, tt))),
                                                                                            (
                                                                                              (search sendable, (ValueBits-send, (search sendable, (search sendable, (search sendable, tt))))),
                                                                                              (
                                                                                                (ValueBits-send, (search sendable, (search sendable, tt))),
                                                                                                tt,
                                                                                              ),
                                                                                            ),
                                                                                          ),
                                                                                        ),
                                                                                      ),
                                                                                    ),
                                                                                  ),
                                                                                ),
                                                                              ),
                                                                            ),
                                                                          ),
                                                                        ),
                                                                      ),
                                                                    ),
                                                                  ),
                                                                ),
                                                              ),
                                                            ),
                                                          ),
                                                        ),
                                                      ),
                                                    ),
                                                  ),
                                                ),
                                              ),
                                            ),
                                          ),
                                        ),
                                      ),
                                    ),
                                  ),
                                ),
                              ),
                            ),
                          ),
                        ),
                      ),
                    ),
                  ),
                ),
              ),
            ),
          ),
        ),
      ),
    ),
  ),
)

pub ShortInst-send : IsSend short.the_row
ShortInst-send = declared_send short.the_type (search sendable, (ShortOp-send, (search sendable, tt)))

pub Program-send : IsSend program.the_row
Program-send = declared_send program.the_type (List-send _ Code-send, (List-send _ Site-send, (List-send _ Routine-send, (search sendable, (search (List-send, sendable), (List-send _ ShortInst-send, tt))))))

pub WordSource-sync : IsSync source.the_row
WordSource-sync = search (Crossing.crosses, sendable) depth 60 fits 20000

pub PhiMove-sync : IsSync move.the_row
PhiMove-sync = declared_sync move.the_type (WordSource-sync, (search sendable, tt))

pub Edge-sync : IsSync edge.the_row
Edge-sync = declared_sync edge.the_type (search sendable, (List-sync _ PhiMove-sync, tt))

pub Stride-sync : IsSync stride.the_row
Stride-sync = declared_sync stride.the_type (WordSource-sync, (search sendable, (search sendable, tt)))

-- a tuple for each variant, in their order
pub Code-sync : IsSync code.the_row
Code-sync = variants_sync code.enum (
  (binops.the_sync, (flags.the_sync, (search sendable, (WordSource-sync, (WordSource-sync, (search sendable, tt)))))),
  (
    (preds.the_sync, (flags.the_sync, (search sendable, (WordSource-sync, (WordSource-sync, (search sendable, tt)))))),
    (
      (casts.the_sync, (flags.the_sync, (search sendable, (WordSource-sync, (search sendable, (search sendable, tt)))))),
      (
        (WordSource-sync, (WordSource-sync, (WordSource-sync, (search sendable, tt)))),
        (
          (WordSource-sync, (search sendable, tt)),
          (
            (search sendable, (WordSource-sync, (search sendable, tt))),
            (
              (search sendable, (search sendable, (WordSource-sync, (search sendable, tt)))),
              (
                (search sendable, (WordSource-sync, (WordSource-sync, tt))),
                (
                  (search sendable, (search sendable, (WordSource-sync, (search sendable, tt)))),
                  (
                    (search sendable, (WordSource-sync, (WordSource-sync, tt))),
                    (
                      (WordSource-sync, (search sendable, (List-sync _ Stride-sync, (search sendable, tt)))),
                      (
                        (Edge-sync, tt),
                        (
                          (WordSource-sync, (Edge-sync, (Edge-sync, tt))),
                          (
                            (WordSource-sync, (search (List-sync, Edge-sync, Crossing.crosses, sendable) depth 60 fits 20000, (Edge-sync, tt))),
                            (
                              (search sendable, (List-sync _ WordSource-sync, (search (Crossing.crosses, sendable) depth 60 fits 20000, tt))),
                              (
                                (externals.the_sync, (List-sync _ WordSource-sync, (List-sync _ Ty-sync, (search (Crossing.crosses, sendable) depth 60 fits 20000, tt)))),
                                (
                                  (functions.the_sync, (List-sync _ WordSource-sync, (search (Crossing.crosses, sendable) depth 60 fits 20000, tt))),
                                  (
                                    (WordSource-sync, tt),
                                    (
                                      (WordSource-sync, tt),
                                      (
                                        tt,
                                        (
                                          tt,
                                          tt,
                                        ),
                                      ),
                                    ),
                                  ),
                                ),
                              ),
                            ),
                          ),
                        ),
                      ),
                    ),
                  ),
                ),
              ),
            ),
          ),
        ),
      ),
    ),
  ),
)

pub Site-sync : IsSync site.the_row
Site-sync = declared_sync site.the_type (search sendable, (search sendable, tt))

pub Routine-sync : IsSync routine.the_row
Routine-sync = declared_sync routine.the_type (search sendable, (search sendable, (search sendable, tt)))

pub ValueBits-sync : IsSync part.the_row
ValueBits-sync = declared_sync part.the_type (search sendable, (search sendable, tt))

-- a tuple for each variant, in their order
pub ShortOp-sync : IsSync form.the_row
ShortOp-sync = variants_sync form.enum (
  tt,
  (
    (search sendable, tt),
    (
      (ValueBits-sync, tt),
      (
        (ValueBits-sync, (ValueBits-sync, tt)),
        (
          (ValueBits-sync, (ValueBits-sync, tt)),
          (
            (ValueBits-sync, (search sendable, tt)),
            (
              (ValueBits-sync, (ValueBits-sync, tt)),
              (
                (ValueBits-sync, (search sendable, tt)),
                (
                  (search sendable, (ValueBits-sync, (search sendable, tt))),
                  (
                    (ValueBits-sync, (ValueBits-sync, (search sendable, (flags.the_sync, tt)))),
                    (
                      (ValueBits-sync, (search sendable, (search sendable, (flags.the_sync, tt)))),
                      (
                        (ValueBits-sync, (ValueBits-sync, (search sendable, (flags.the_sync, tt)))),
                        (
                          (ValueBits-sync, (search sendable, (search sendable, (flags.the_sync, tt)))),
                          (
                            (ValueBits-sync, (ValueBits-sync, (search sendable, (flags.the_sync, tt)))),
                            (
                              (ValueBits-sync, (search sendable, (search sendable, (flags.the_sync, tt)))),
                              (
                                (search sendable, (search sendable, tt)),
                                (
                                  (search sendable, (search sendable, (search sendable, (search sendable, tt)))),
                                  (
                                    (ValueBits-sync, (search sendable, (search sendable, tt))),
                                    (
                                      (ValueBits-sync, (ValueBits-sync, tt)),
                                      (
                                        (ValueBits-sync, (ValueBits-sync, tt)),
                                        (
                                          (ValueBits-sync, (search sendable, tt)),
                                          (
                                            (ValueBits-sync, (search sendable, tt)),
                                            (
                                              (ValueBits-sync, (ValueBits-sync, tt)),
                                              (
                                                (ValueBits-sync, (ValueBits-sync, tt)),
                                                (
                                                  (ValueBits-sync, (ValueBits-sync, (search sendable, (search sendable, tt)))),
                                                  (
                                                    (ValueBits-sync, (search sendable, (search sendable, (search sendable, tt)))),
                                                    (
                                                      (ValueBits-sync, (ValueBits-sync, (ValueBits-sync, tt))),
                                                      (
                                                        (ValueBits-sync, (search sendable, (ValueBits-sync, tt))),
                                                        (
                                                          (ValueBits-sync, (search sendable, (search sendable, tt))),
                                                          (
                                                            (ValueBits-sync, tt),
                                                            (
                                                              (ValueBits-sync, tt),
                                                              (
                                                                (search sendable, (search sendable, (WordSource-sync, tt))),
                                                                (
                                                                  (search sendable, (WordSource-sync, (WordSource-sync, tt))),
                                                                  (
                                                                    (search sendable, (search sendable, (search sendable, tt))),
                                                                    (
                                                                      (search sendable, (search sendable, (WordSource-sync, tt))),
                                                                      (
                                                                        (search sendable, (search sendable, (ValueBits-sync, (search sendable, tt)))),
                                                                        (
                                                                          (search sendable, (search sendable, (search sendable, (search sendable, (search sendable, tt))))),
                                                                          (
                                                                            (search sendable, (search sendable, (search sendable, (search sendable, (search sendable, tt))))),
                                                                            (
                                                                              (search sendable, (search sendable, (ValueBits-sync, (search sendable, (search sendable, tt))))),
                                                                              (
                                                                                (search sendable, (search sendable, (search sendable, (search sendable, tt)))),
                                                                                (
                                                                                  (search sendable, (search sendable, (search sendable, (search sendable, (search sendable, tt))))),
                                                                                  (
                                                                                    (search sendable, (search sendable, (search sendable, tt))),
                                                                                    (
                                                                                      (search sendable, (search sendable, (ValueBits-sync, tt))),
                                                                                      (
                                                                                        (search sendable, (search sendable, (search sendable, tt))),
                                                                                        (
                                                                                          (search sendable, tt),
                                                                                          (
                                                                                            (ValueBits-sync, (search sendable, (search sendable, tt))),
                                                                                            (
                                                                                              (search sendable, (ValueBits-sync, (search sendable, (search sendable, (search sendable, tt))))),
                                                                                              (
                                                                                                (ValueBits-sync, (search sendable, (search sendable, tt))),
                                                                                                tt,
                                                                                              ),
                                                                                            ),
                                                                                          ),
                                                                                        ),
                                                                                      ),
                                                                                    ),
                                                                                  ),
                                                                                ),
                                                                              ),
                                                                            ),
                                                                          ),
                                                                        ),
                                                                      ),
                                                                    ),
                                                                  ),
                                                                ),
                                                              ),
                                                            ),
                                                          ),
                                                        ),
                                                      ),
                                                    ),
                                                  ),
                                                ),
                                              ),
                                            ),
                                          ),
                                        ),
                                      ),
                                    ),
                                  ),
                                ),
                              ),
                            ),
                          ),
                        ),
                      ),
                    ),
                  ),
                ),
              ),
            ),
          ),
        ),
      ),
    ),
  ),
)

pub ShortInst-sync : IsSync short.the_row
ShortInst-sync = declared_sync short.the_type (search sendable, (ShortOp-sync, (search sendable, tt)))

pub Program-sync : IsSync program.the_row
Program-sync = declared_sync program.the_type (List-sync _ Code-sync, (List-sync _ Site-sync, (List-sync _ Routine-sync, (search sendable, (search (List-sync, sendable), (List-sync _ ShortInst-sync, tt))))))

pub CheckedModule-send : IsSend checked.the_row
CheckedModule-send = view_send checked.TheInside.the_row _ _ _ _ (declared_send checked.TheInside.the_type (Module-send, (Program-send, tt)))

pub CheckedModule-sync : IsSync checked.the_row
CheckedModule-sync = view_sync checked.TheInside.the_row _ _ _ _ (declared_sync checked.TheInside.the_type (Module-sync, (Program-sync, tt)))
