use Rattle.std.proofs.Common.{refl}
use Rattle.txn_machine.specs.Running.{lists_of}
use Rattle.txn_machine.proofs.Standings.{broken_stands, caused_past, few_lines, good_fine, step_stands}
use Rattle.txn_machine.proofs.Takings.{broken_taken, step_taken}
use Rattle.txn_machine.proofs.HeardLines.{broken_heard, step_heard}
use Rattle.txn_machine.proofs.OriginLines.{broken_arisen, step_arisen}
use Rattle.txn_machine.proofs.machine.Machine.step.Goals as goal

pub try_step-requires-clause-ordered : goal.try_step-requires-clause-ordered
try_step-requires-clause-ordered g c = (c.requires.stands.stands (record { whole = c.if-self.false })).ordered

pub try_step-requires-clause-ready : goal.try_step-requires-clause-ready
try_step-requires-clause-ready g c = (c.requires.stands.stands (record { whole = c.if-self.false })).able

pub try_step-requires-clause-room : goal.try_step-requires-clause-room
try_step-requires-clause-room g c = few_lines g.S.ClientSide.sight g.S.ClientSide.ready g.S.ClientSide.waits c.args.self.now c.requires.lines c.args.line c.requires.good (c.requires.stands.stands (record { whole = c.if-self.false }))

pub try_step-requires-clause-fine : goal.try_step-requires-clause-fine
try_step-requires-clause-fine g c = good_fine c.requires.lines c.args.line c.requires.good

pub try_step-requires-clause-past : goal.try_step-requires-clause-past
try_step-requires-clause-past g c = let s = c.requires.stands.stands (record { whole = c.if-self.false }) in caused_past (lists_of g.S.ClientSide.sight c.args.self.now) c.requires.lines s.caused s.told

pub returns-then-self-clause-stands : goal.returns-then-self-clause-stands
returns-then-self-clause-stands g c lines s good = broken_stands g.S.ClientSide.sight g.S.ClientSide.ready g.S.ClientSide.waits _ c.args.line lines c.if-self.true good

pub returns-in-Ok-clause-stands : goal.returns-in-Ok-clause-stands
returns-in-Ok-clause-stands g c lines s good = step_stands g.S.ClientSide.sight g.S.ClientSide.ready g.S.ClientSide.waits c.args.self.now _ c.args.line lines c.in-Ok.ensures.lists c.in-Ok.ensures.ready (c.in-Ok.ensures.kinds lines) good c.in-Ok.ensures.out (g.S.ClientSide.due _ c.in-Ok.ensures.ready) (record { whole = c.if-self.false }) s

pub returns-in-Err-clause-stands : goal.returns-in-Err-clause-stands
returns-in-Err-clause-stands g c lines s good = broken_stands g.S.ClientSide.sight g.S.ClientSide.ready g.S.ClientSide.waits _ c.args.line lines refl good

pub returns-then-self-clause-taken : goal.returns-then-self-clause-taken
returns-then-self-clause-taken g c lines s good taken = broken_taken g.S.ClientSide.account _ _ c.if-self.true

pub returns-in-Ok-clause-taken : goal.returns-in-Ok-clause-taken
returns-in-Ok-clause-taken g c lines s good taken = step_taken g.S.ClientSide.sight g.S.ClientSide.ready g.S.ClientSide.waits g.S.ClientSide.account c.args.self.now _ c.args.line lines c.in-Ok.ensures.lists c.in-Ok.ensures.credited good (record { whole = c.if-self.false }) s taken

pub returns-in-Err-clause-taken : goal.returns-in-Err-clause-taken
returns-in-Err-clause-taken g c lines s good taken = broken_taken g.S.ClientSide.account _ _ refl

pub returns-then-self-clause-heard : goal.returns-then-self-clause-heard
returns-then-self-clause-heard g c lines s good taken heard = broken_heard g.S.ClientSide.rests g.S.ClientSide.fails _ _ c.if-self.true

pub returns-in-Ok-clause-heard : goal.returns-in-Ok-clause-heard
returns-in-Ok-clause-heard g c lines s good taken heard = step_heard g.S.ClientSide.sight g.S.ClientSide.ready g.S.ClientSide.waits g.S.ClientSide.account g.S.ClientSide.fails g.S.ClientSide.rests c.args.self.now _ c.args.line lines c.in-Ok.ensures.lists c.in-Ok.ensures.rests g.S.ClientSide.rests_longer good (record { whole = c.if-self.false }) s taken heard

pub returns-in-Err-clause-heard : goal.returns-in-Err-clause-heard
returns-in-Err-clause-heard g c lines s good taken heard = broken_heard g.S.ClientSide.rests g.S.ClientSide.fails _ _ refl

pub returns-then-self-clause-arisen : goal.returns-then-self-clause-arisen
returns-then-self-clause-arisen g c lines s good arisen = broken_arisen g.S.ClientSide.arises g.S.ClientSide.holds _ _ c.if-self.true

pub returns-in-Ok-clause-arisen : goal.returns-in-Ok-clause-arisen
returns-in-Ok-clause-arisen g c lines s good arisen = step_arisen g.S.ClientSide.sight g.S.ClientSide.ready g.S.ClientSide.waits g.S.ClientSide.arises g.S.ClientSide.holds c.args.self.now _ c.args.line lines c.in-Ok.ensures.lists c.in-Ok.ensures.arises good (record { whole = c.if-self.false }) s arisen

pub returns-in-Err-clause-arisen : goal.returns-in-Err-clause-arisen
returns-in-Err-clause-arisen g c lines s good arisen = broken_arisen g.S.ClientSide.arises g.S.ClientSide.holds _ _ refl
