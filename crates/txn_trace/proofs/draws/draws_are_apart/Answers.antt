use Rattle.txn_trace.proofs.Drawn.{answer_drawn, draw_given, draw_gives, draw_longer, draw_seen, draws_line, draws_place, place_drawn, seen_draw}
use Rattle.txn_trace.proofs.draws.draws_are_apart.Goals as goal

pub returns-clause-line : goal.returns-clause-line
returns-clause-line c = draws_line

pub returns-clause-place : goal.returns-clause-place
returns-clause-place c = draws_place

pub returns-clause-gives : goal.returns-clause-gives
returns-clause-gives c = draw_gives

pub returns-clause-given : goal.returns-clause-given
returns-clause-given c = draw_given

pub returns-clause-answered : goal.returns-clause-answered
returns-clause-answered c = answer_drawn

pub returns-clause-placed : goal.returns-clause-placed
returns-clause-placed c = place_drawn

pub returns-clause-grows : goal.returns-clause-grows
returns-clause-grows c = draw_longer

pub returns-clause-seen : goal.returns-clause-seen
returns-clause-seen c askers h n m = (draw_seen askers h n m, seen_draw askers h n m)
