use Rattle.std.proofs.Common.{[], sym, subst, arith}
use Rattle.txn_machine.specs.Lawful.{AllGood}
use Rattle.txn_machine.proofs.HeardLines.{hears_over, hears_stepped}
use Rattle.txn_machine.proofs.LineByLine.{can_step, run_over, run_stepped}
use Rattle.txn_machine.proofs.OriginLines.{arises_over, arises_stepped}
use Rattle.txn_machine.proofs.Takings.{takes_over, takes_stepped}
use Rattle.txn_machine.proofs.runs.run_lines.Goals as goal

pub loop-line-init : goal.loop-line-init
loop-line-init g c =
    let same = c.into_iter-line-iterator.ensures.into_iter_gives.0 in
    record {
      runs = record {
        done = [];
        memory = c.in_ok-machine.ensures.memory;
        stands = c.in_ok-machine.ensures.stands;
        good = subst (λ ls. AllGood [] ls) (sym same) c.requires.good;
        together = same;
      };
      takes = record {
        done = [];
        stands = c.in_ok-machine.ensures.stands;
        taken = c.in_ok-machine.ensures.taken;
        good = subst (λ ls. AllGood [] ls) (sym same) c.requires.good;
        together = same;
      };
      hears = record {
        done = [];
        stands = c.in_ok-machine.ensures.stands;
        taken = c.in_ok-machine.ensures.taken;
        heard = c.in_ok-machine.ensures.heard;
        good = subst (λ ls. AllGood [] ls) (sym same) c.requires.good;
        together = same;
      };
      arises = record {
        done = [];
        stands = c.in_ok-machine.ensures.stands;
        taken = c.in_ok-machine.ensures.taken;
        arisen = c.in_ok-machine.ensures.arisen;
        good = subst (λ ls. AllGood [] ls) (sym same) c.requires.good;
        together = same;
      };
    }

pub step-requires : goal.step-requires
step-requires g c = can_step g.S.ClientSide.sight g.S.ClientSide.ready g.S.ClientSide.waits c.loop-line.machine c.args.lines.items c.loop-line.line-iterator.rest.items c.next.new.self.rest.items c.in-Some.line c.loop-line.invariant.runs c.in-Some.ensures.steps.0

pub loop-line-preserved : goal.loop-line-preserved
loop-line-preserved g c = record {
  runs = run_stepped g.S.ClientSide.sight g.S.ClientSide.ready g.S.ClientSide.waits c.loop-line.machine c.step.new.self c.args.lines.items c.loop-line.line-iterator.rest.items c.next.new.self.rest.items c.in-Some.line c.loop-line.invariant.runs c.in-Some.ensures.steps.0 c.in_ok-step.ensures.memory.1 c.in_ok-step.ensures.stands;
  takes = takes_stepped g.S.ClientSide.sight g.S.ClientSide.ready g.S.ClientSide.waits g.S.ClientSide.account c.loop-line.machine c.step.new.self c.args.lines.items c.loop-line.line-iterator.rest.items c.next.new.self.rest.items c.in-Some.line c.loop-line.invariant.takes c.in-Some.ensures.steps.0 c.in_ok-step.ensures.stands c.in_ok-step.ensures.taken;
  hears = hears_stepped g.S.ClientSide.sight g.S.ClientSide.ready g.S.ClientSide.waits g.S.ClientSide.account g.S.ClientSide.fails g.S.ClientSide.rests c.loop-line.machine c.step.new.self c.args.lines.items c.loop-line.line-iterator.rest.items c.next.new.self.rest.items c.in-Some.line c.loop-line.invariant.hears
      c.in-Some.ensures.steps.0 c.in_ok-step.ensures.stands c.in_ok-step.ensures.taken c.in_ok-step.ensures.heard;
  arises = arises_stepped g.S.ClientSide.sight g.S.ClientSide.ready g.S.ClientSide.waits g.S.ClientSide.arises g.S.ClientSide.holds g.S.ClientSide.account c.loop-line.machine c.step.new.self c.args.lines.items c.loop-line.line-iterator.rest.items c.next.new.self.rest.items c.in-Some.line c.loop-line.invariant.arises c.in-Some.ensures.steps.0 c.in_ok-step.ensures.stands c.in_ok-step.ensures.taken c.in_ok-step.ensures.arisen;
}

pub report-requires : goal.report-requires
report-requires g c = c.loop-line.invariant.runs.memory

pub returns-clause-lawful : goal.returns-clause-lawful
returns-clause-lawful g c =
    let counted = c.loop-line.line-iterator.rest.ok.0 in
    let over = c.in-None.ensures.steps.0 in
    run_over g.S.ClientSide.sight g.S.ClientSide.ready g.S.ClientSide.waits c.loop-line.machine c.args.lines.items c.loop-line.line-iterator.rest.items c.report.result c.loop-line.invariant.runs (omega arith) c.report.ensures.folded c.report.ensures.noted c.report.ensures.told c.report.ensures.ends c.report.ensures.lives c.report.ensures.calls c.report.ensures.events c.report.ensures.times c.report.ensures.dues
    (takes_over g.S.ClientSide.sight g.S.ClientSide.ready g.S.ClientSide.waits g.S.ClientSide.account c.loop-line.machine c.args.lines.items c.loop-line.line-iterator.rest.items c.report.result c.loop-line.invariant.takes (omega arith) c.report.ensures.accounts)

pub returns-clause-causes : goal.returns-clause-causes
returns-clause-causes g c =
    let counted = c.loop-line.line-iterator.rest.ok.0 in
    let over = c.in-None.ensures.steps.0 in
    hears_over g.S.ClientSide.sight g.S.ClientSide.ready g.S.ClientSide.waits g.S.ClientSide.account g.S.ClientSide.fails g.S.ClientSide.rests c.loop-line.machine c.args.lines.items c.loop-line.line-iterator.rest.items c.report.result c.loop-line.invariant.hears (omega arith) c.report.ensures.causes

pub returns-clause-arisen : goal.returns-clause-arisen
returns-clause-arisen g c =
    let counted = c.loop-line.line-iterator.rest.ok.0 in
    let over = c.in-None.ensures.steps.0 in
    arises_over g.S.ClientSide.sight g.S.ClientSide.ready g.S.ClientSide.waits g.S.ClientSide.arises g.S.ClientSide.holds g.S.ClientSide.account c.loop-line.machine c.args.lines.items c.loop-line.line-iterator.rest.items c.report.result c.loop-line.invariant.arises (omega arith) c.report.ensures.arisen
