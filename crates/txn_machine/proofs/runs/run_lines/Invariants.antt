use Rattle.txn_machine.proofs.HeardLines.{HearsOn}
use Rattle.txn_machine.proofs.LineByLine.{RunsOn}
use Rattle.txn_machine.proofs.OriginLines.{ArisesOn}
use Rattle.txn_machine.proofs.Takings.{TakesOn}
use Rattle.txn_machine.proofs.runs.run_lines.Given as goal

abbrev pub invariant-loop-line : goal.invariant-loop-line
invariant-loop-line g l = record {
  runs : RunsOn g.S.ClientSide.sight g.S.ClientSide.ready g.S.ClientSide.waits l.machine l.fn.lines.items l.line-iterator.rest.items;
  takes : TakesOn g.S.ClientSide.sight g.S.ClientSide.ready g.S.ClientSide.waits g.S.ClientSide.account l.machine l.fn.lines.items l.line-iterator.rest.items;
  hears : HearsOn g.S.ClientSide.sight g.S.ClientSide.ready g.S.ClientSide.waits g.S.ClientSide.account g.S.ClientSide.fails g.S.ClientSide.rests l.machine l.fn.lines.items l.line-iterator.rest.items;
  arises : ArisesOn g.S.ClientSide.sight g.S.ClientSide.ready g.S.ClientSide.waits g.S.ClientSide.arises g.S.ClientSide.holds g.S.ClientSide.account l.machine l.fn.lines.items l.line-iterator.rest.items;
}
