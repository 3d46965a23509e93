use Rattle.std.proofs.Common.{[]}
use Rattle.txn_commit.specs.Plans.{only_key}
use Rattle.txn_tso.specs.Calling.{members}
use Rattle.txn_clients.proofs.MovingRows.{job_heard, job_started, job_unmoved}
use Rattle.txn_clients.proofs.row.tell_job.Goals as goal

pub returns-in-Start-clause-posts : goal.returns-in-Start-clause-posts
returns-in-Start-clause-posts g c = let t = c.in_ok-start-in-Start.ensures.tells (only_key []) [] in record { sends = t.moves.sends; pushed = t.moves.pushed; numbered = t.moves.numbered }

pub returns-clause-posts : goal.returns-clause-posts
returns-clause-posts g c = let t = c.in_ok-tell-in-Heard.ensures.tells (only_key []) [] members in record { sends = t.moves.sends; pushed = t.moves.pushed; numbered = t.moves.numbered }

pub returns-in-Start-clause-moves : goal.returns-in-Start-clause-moves
returns-in-Start-clause-moves g c = job_started _ _ g.P.Plans.ways.costs.commits c.args.told c.args.job.now c.start.new.self c.args.out.now c.start.new.out c.in_ok-start-in-Start.field-0 c.in-Start.is c.in_ok-start-in-Start.ensures.tells

pub returns-in-Act-clause-moves : goal.returns-in-Act-clause-moves
returns-in-Act-clause-moves g c = job_unmoved _ _ c.args.told c.in-Act.field-0 c.args.job.now c.args.out.now c.in-Act.is

pub returns-clause-moves : goal.returns-clause-moves
returns-clause-moves g c = job_heard _ _ g.P.Plans.ways.costs.commits c.args.told c.in-Heard.arrival c.args.job.now c.tell.new.self c.args.out.now c.tell.new.out c.in_ok-tell-in-Heard.field-0 c.in-Heard.is c.in_ok-tell-in-Heard.ensures.tells
