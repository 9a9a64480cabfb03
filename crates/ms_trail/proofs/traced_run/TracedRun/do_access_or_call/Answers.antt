use Rattle.std.proofs.Common.{refl, sym, subst, arith}
use Rattle.ms_machine_frames.specs.Meaning.{IsJump}
use Rattle.ms_trail.proofs.Stopping.{stopped, sets_none}
use Rattle.ms_trail.proofs.traced_run.TracedRun.do_access_or_call.Goals as goal

pub call_external-requires-clause-is : goal.call_external-requires-clause-is
call_external-requires-clause-is c = (c.in-External.types, cc)

pub returns-in-LoadMarked-clause-went : goal.returns-in-LoadMarked-clause-went
returns-in-LoadMarked-clause-went c = λ u t o passes. stopped c.args.self.now.m.now u t c.args.self.now o c.args.code.now passes c.requires.ready.due _ c.in-LoadMarked.is tt

pub returns-in-StoreMarked-clause-went : goal.returns-in-StoreMarked-clause-went
returns-in-StoreMarked-clause-went c = λ u t o passes. stopped c.args.self.now.m.now u t c.args.self.now o c.args.code.now passes c.requires.ready.due _ c.in-StoreMarked.is tt

pub returns-in-Runtime-clause-went : goal.returns-in-Runtime-clause-went
returns-in-Runtime-clause-went c = λ u t o passes. stopped c.args.self.now.m.now u t c.args.self.now o c.args.code.now passes c.requires.ready.due _ c.in-Runtime.is tt

pub returns-in-Exit-clause-went : goal.returns-in-Exit-clause-went
returns-in-Exit-clause-went c = λ u t o passes. stopped c.args.self.now.m.now u t c.args.self.now o c.args.code.now passes c.requires.ready.due _ c.in-Exit.is tt

pub returns-in-Unreachable-clause-went : goal.returns-in-Unreachable-clause-went
returns-in-Unreachable-clause-went c = λ u t o passes. stopped c.args.self.now.m.now u t c.args.self.now o c.args.code.now passes c.requires.ready.due _ c.in-Unreachable.is tt

pub returns-in-Phi-clause-went : goal.returns-in-Phi-clause-went
returns-in-Phi-clause-went c = λ u t o passes. stopped c.args.self.now.m.now u t c.args.self.now o c.args.code.now passes c.requires.ready.due _ c.in-Phi.is tt

pub returns-in-Binary-clause-went : goal.returns-in-Binary-clause-went
returns-in-Binary-clause-went c = λ u t o passes. absurd (sets_none c.args.code.now _ _ c.requires.sets c.in-Binary.is refl)

pub returns-in-Icmp-clause-went : goal.returns-in-Icmp-clause-went
returns-in-Icmp-clause-went c = λ u t o passes. absurd (sets_none c.args.code.now _ _ c.requires.sets c.in-Icmp.is refl)

pub returns-in-Cast-clause-went : goal.returns-in-Cast-clause-went
returns-in-Cast-clause-went c = λ u t o passes. absurd (sets_none c.args.code.now _ _ c.requires.sets c.in-Cast.is refl)

pub returns-in-Select-clause-went : goal.returns-in-Select-clause-went
returns-in-Select-clause-went c = λ u t o passes. absurd (sets_none c.args.code.now _ _ c.requires.sets c.in-Select.is refl)

pub returns-in-Freeze-clause-went : goal.returns-in-Freeze-clause-went
returns-in-Freeze-clause-went c = λ u t o passes. absurd (sets_none c.args.code.now _ _ c.requires.sets c.in-Freeze.is refl)

pub returns-in-Gep-clause-went : goal.returns-in-Gep-clause-went
returns-in-Gep-clause-went c = λ u t o passes. absurd (sets_none c.args.code.now _ _ c.requires.sets c.in-Gep.is refl)

pub returns-in-Jump-clause-went : goal.returns-in-Jump-clause-went
returns-in-Jump-clause-went c = λ u t o passes. absurd (c.requires.stays (subst IsJump (sym c.in-Jump.is) tt))

pub returns-in-Branch-clause-went : goal.returns-in-Branch-clause-went
returns-in-Branch-clause-went c = λ u t o passes. absurd (c.requires.stays (subst IsJump (sym c.in-Branch.is) tt))

pub returns-in-Switch-clause-went : goal.returns-in-Switch-clause-went
returns-in-Switch-clause-went c = λ u t o passes. absurd (c.requires.stays (subst IsJump (sym c.in-Switch.is) tt))

pub returns-in-LoadMarked-clause-grew : goal.returns-in-LoadMarked-clause-grew
returns-in-LoadMarked-clause-grew c = record { count = omega arith; world = omega arith; calls = omega arith }

pub returns-in-StoreMarked-clause-grew : goal.returns-in-StoreMarked-clause-grew
returns-in-StoreMarked-clause-grew c = record { count = omega arith; world = omega arith; calls = omega arith }

pub returns-in-Runtime-clause-grew : goal.returns-in-Runtime-clause-grew
returns-in-Runtime-clause-grew c = record { count = omega arith; world = omega arith; calls = omega arith }

pub returns-in-Exit-clause-grew : goal.returns-in-Exit-clause-grew
returns-in-Exit-clause-grew c = record { count = omega arith; world = omega arith; calls = omega arith }

pub returns-in-Unreachable-clause-grew : goal.returns-in-Unreachable-clause-grew
returns-in-Unreachable-clause-grew c = record { count = omega arith; world = omega arith; calls = omega arith }

pub returns-in-Phi-clause-grew : goal.returns-in-Phi-clause-grew
returns-in-Phi-clause-grew c = record { count = omega arith; world = omega arith; calls = omega arith }

pub returns-in-Binary-clause-grew : goal.returns-in-Binary-clause-grew
returns-in-Binary-clause-grew c = record { count = omega arith; world = omega arith; calls = omega arith }

pub returns-in-Icmp-clause-grew : goal.returns-in-Icmp-clause-grew
returns-in-Icmp-clause-grew c = record { count = omega arith; world = omega arith; calls = omega arith }

pub returns-in-Cast-clause-grew : goal.returns-in-Cast-clause-grew
returns-in-Cast-clause-grew c = record { count = omega arith; world = omega arith; calls = omega arith }

pub returns-in-Select-clause-grew : goal.returns-in-Select-clause-grew
returns-in-Select-clause-grew c = record { count = omega arith; world = omega arith; calls = omega arith }

pub returns-in-Freeze-clause-grew : goal.returns-in-Freeze-clause-grew
returns-in-Freeze-clause-grew c = record { count = omega arith; world = omega arith; calls = omega arith }

pub returns-in-Gep-clause-grew : goal.returns-in-Gep-clause-grew
returns-in-Gep-clause-grew c = record { count = omega arith; world = omega arith; calls = omega arith }

pub returns-in-Jump-clause-grew : goal.returns-in-Jump-clause-grew
returns-in-Jump-clause-grew c = record { count = omega arith; world = omega arith; calls = omega arith }

pub returns-in-Branch-clause-grew : goal.returns-in-Branch-clause-grew
returns-in-Branch-clause-grew c = record { count = omega arith; world = omega arith; calls = omega arith }

pub returns-in-Switch-clause-grew : goal.returns-in-Switch-clause-grew
returns-in-Switch-clause-grew c = record { count = omega arith; world = omega arith; calls = omega arith }
