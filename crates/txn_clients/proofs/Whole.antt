-- Whole steps of clients as a machine sees them, each in one record.
use Rattle.std.proofs.Common.{◌≡◌, ◌++◌, ℕ, zero, suc, Bool, true, false, List, [], ◌∷◌, get_or, set, not, Option, Some, None, refl, sym, ap, ◌∙◌, subst}
use Rattle.std.proofs.lemmas.List.{map-append}
use Rattle.std.proofs.lemmas.List.Elements.{All-nil}
use Rattle.std.specs.List.{All}
use Rattle.txn_kv.specs.declared.arrival.Arrival.{Arrival}
use Rattle.txn_kv.specs.declared.arrival.Arrival.TheVariants as arrivals
use Rattle.txn_kv.specs.declared.reply.Reply.{Reply}
use Rattle.txn_kv.specs.declared.request.Request.{Request}
use Rattle.txn_kv.specs.declared.request.Request.TheVariants.{Tso}
use Rattle.txn_kv.specs.declared.request.cluster.TsoRequest.{TsoRequest}
use Rattle.txn_kv.specs.declared.ticket.Ticket.{Ticket}
use Rattle.txn_history.specs.Arrivals.{MayArrive}
use Rattle.txn_history.specs.Event.{Event}
use Rattle.txn_history.specs.Event.Event.{Lost, Slept, Took}
use Rattle.txn_history.specs.Meaning.{IsLawful}
use Rattle.txn_commit.specs.Ways.{Ways}
use Rattle.txn_lines.specs.Deeds.{begins, begins_with}
use Rattle.txn_lines.specs.declared.act.Act.{Act}
use Rattle.txn_lines.specs.declared.client_act.ClientAct.{ClientAct}
use Rattle.txn_side.specs.Account.{AreClosed, AreKept, TakesIn}
use Rattle.txn_side.specs.Arising.{ArisesHearing, IsOutside}
use Rattle.txn_side.specs.Doubt.{itself}
use Rattle.txn_side.specs.Sight.{EndsAlone, Goes, GroupsGo, IsGiven, Names, NoneGiven, Sight, client_at, commits, crash, is_free, is_live, line_count, lives, opened, stand_at, with_stand, without}
use Rattle.txn_side.specs.Sight.Stand.{Asking, HasBegun, Idle}
use Rattle.txn_side.specs.Steps.{ArisesAfter, GivesTo, HearsOf, RestsAfter, StepsAsked, StepsUsed}
use Rattle.txn_side.specs.Trace.{BeginsAs, HearsOn, IsCalled, Trace, refused_as}
use Rattle.txn_side.specs.Waiting.{HearsReply, WaitsOn}
use Rattle.txn_side.specs.declared.coming.Coming.{Coming}
use Rattle.txn_side.specs.declared.coming.Coming.TheVariants as coming
use Rattle.txn_side.specs.declared.turn.Turn.{Turn}
use Rattle.txn_tso.specs.Calling.{members}
use Rattle.txn_clients.specs.Accounts.{account_at}
use Rattle.txn_clients.specs.Arising.{ArisenFrom, HoldsAt, LeadsGroup, LeadsSent, LeadsTold, StepsGroup, StepsTold, heard_by}
use Rattle.txn_clients.specs.Clients.{AreReady, HasOut, groups_of, nexts_of, rows_of, sight_of, stands_of}
use Rattle.txn_clients.specs.Closing.{ClosesIn}
use Rattle.txn_clients.specs.Failing.{CameIn, FailsFor, GroupCameIn, outbox_of, owing, owing_all, posting_in, refused_out}
use Rattle.txn_clients.specs.Going.{Advances, NamesIn, OfLine}
use Rattle.txn_clients.specs.Groups.{coming_as, over_by}
use Rattle.txn_clients.specs.Resting.{RestsIn, rests_when_longer}
use Rattle.txn_clients.specs.Rows.{Brings, stand_of}
use Rattle.txn_clients.specs.Tickets.{HasTold, HasToldGroup, IsForLine, IsOfLine, arrival_as}
use Rattle.txn_clients.specs.Turns.{CameGoes, CallSteps, GroupGoes, NextGoes, calling}
use Rattle.txn_clients.specs.Waiting.{AreRunning, GroupsBeside, HearsAt, IsReady, IsSound, Steps, book_at, pends, waits_of}
use Rattle.txn_clients.specs.declared.clients.Clients.{Clients}
use Rattle.txn_clients.specs.declared.place.Place.{Place}
use Rattle.txn_clients.specs.declared.row.Row.TheVariants as row
use Rattle.txn_clients.specs.declared.told.Told.TheVariants as tells
use Rattle.txn_clients.proofs.Accounting.{closed_kept, closed_so, closes_first, kept_rows, kept_same, nothing_closed}
use Rattle.txn_clients.proofs.Asking.{goes_whole}
use Rattle.txn_clients.proofs.Coming.{group_came, group_longer, loss_came, reply_came, rolls_untold}
use Rattle.txn_clients.proofs.Naming.{named_all, named_weaker}
use Rattle.txn_clients.proofs.Settling.{pends_none}
use Rattle.txn_clients.proofs.Shown.{arises_group, arises_lost, arises_replied, arises_sent, arises_slept, arises_still, passes_quietly}
use Rattle.txn_clients.proofs.Sides.{opened_lists, out_ticket, waits_asleep, waits_deaf, waits_end, waits_group, waits_none, waits_reply, waits_same}
use Rattle.txn_clients.proofs.Sights.{goes_quiet}
use Rattle.txn_clients.proofs.Stepped.{group_leads, told_steps}
use Rattle.txn_clients.proofs.Stepping.{group_steps, groups_beside, ready_of, rested, rests_on, rests_quiet, rests_still, whole_steps}
use Rattle.txn_clients.proofs.Tables.{sight_at}

pub arrives_so : (n : ℕ) (what : Coming) → MayArrive (arrival_as n what)
arrives_so n (coming.Reply o) = tt
arrives_so n coming.Lost = tt
arrives_so n coming.Slept = tt

-- A client that has crashed crashes no more.

crashed_again : (cs : List Bool) (c : ℕ) → not (get_or cs c true) ≡ false → cs ≡ set cs c true
crashed_again [] c e = refl
crashed_again (true ∷ cs) zero e = refl
crashed_again (false ∷ cs) zero e = absurd (cc)
crashed_again (x ∷ cs) (suc c) e = ap (λ ys. x ∷ ys) (crashed_again cs c e)

pub crash_gone : (s : Sight) (line : ℕ) → is_live s line ≡ false → s ≡ crash line s
crash_gone s line gone = ap (λ cs. record s { crashed = cs }) (by (client_at (stand_at s.stands line)) gone)
  where
    by : (o : Option ℕ) → lives s.crashed o ≡ false → s.crashed ≡ without o s.crashed
    by None e = refl
    by (Some c) e = crashed_again s.crashed c e

module _ {P : Type 0} (w : Ways P) where
  -- What comes for a line is told, and then the next group of its client goes out.

  abbrev CameSteps : Arrival → ℕ → ℕ → Clients P → Clients P → Turn → Type 0
  CameSteps a line client s t turn = (trace : Option Trace) → is_live (sight_of s) line ≡ true → client_at (stand_at (sight_of s).stands line) ≡ Some client → owing line (tells.Heard a) trace ≡ trace
      → CameIn (posting_in [] trace) (outbox_of line) a → IsSound w (posting_in [] trace) [] s → Steps w trace (HearsAt line (tells.Heard a)) turn.posted.items turn.ended.items s t

  pub record LineSteps (a : Arrival) (line client : ℕ) (s t : Clients P) (turn : Turn) : Type 0 where
    pub goes : Goes turn.posted.items turn.ended.items (sight_of s) (sight_of t)
    pub names : All (Names (OfLine line (Brings a))) turn.ended.items
    pub steps : CameSteps a line client s t turn
    pub ready : AreReady w (rows_of t)
    pub accounts : AreClosed (sight_of s) turn.ended.items (account_at (rows_of s)) (account_at (rows_of t))
    pub leads : StepsTold w (tells.Heard a) line client turn.posted.items turn.ended.items s t

  -- so does the request for timestamps of a client that is over, and then the next goes out

  abbrev OverSteps : ℕ → (Ticket → Request → Event) → Clients P → Clients P → Turn → Type 0
  OverSteps client came s t turn = (trace : Option Trace) → GroupCameIn trace (get_or (groups_of s) client None) came → IsSound w (posting_in [] (owing_all (refused_out came (get_or (groups_of s) client None)) trace)) [] s
      → Steps w trace (λ n a. ⊥) turn.posted.items turn.ended.items s t

  pub record GroupSteps (client : ℕ) (came : Ticket → Request → Event) (s t : Clients P) (turn : Turn) : Type 0 where
    pub goes : Goes turn.posted.items turn.ended.items (sight_of s) (sight_of t)
    pub steps : OverSteps client came s t turn
    pub groups : GroupsBeside client turn.posted.items (sight_of s) (sight_of t)
    pub ready : AreReady w (rows_of t)
    pub accounts : AreClosed (sight_of s) turn.ended.items (account_at (rows_of s)) (account_at (rows_of t))
    pub leads : StepsGroup w client came turn.posted.items turn.ended.items s t

  module _ (s m t : Clients P) (from via to : Turn) (client : ℕ) (none : from.posted.items ≡ []) (empty : from.ended.items ≡ []) (ready : IsReady w s)
      (first : Advances from via (sight_of s) (sight_of m)) (may : AreReady w (rows_of m)) (runs : AreRunning (rows_of s) → AreRunning (rows_of m))
      (next : Advances via to (sight_of m) (sight_of t)) (ended : to.ended ≡ via.ended) (rows : rows_of t ≡ rows_of m) (sends : NextGoes w client via to m t)
      (sent : LeadsSent w via.posted.items to.posted.items via.ended.items to.ended.items (heard_by m) m t) where
    over : to.ended.items ≡ via.ended.items
    over = ap (λ v. v.items) ended

    closes : AreClosed (sight_of s) via.ended.items (account_at (rows_of s)) (account_at (rows_of m)) → AreClosed (sight_of s) to.ended.items (account_at (rows_of s)) (account_at (rows_of t))
    closes h =
        closed_so (sight_of s) via.ended.items to.ended.items (account_at (rows_of s)) (account_at (rows_of t)) over
        (closed_kept (sight_of s) via.ended.items (account_at (rows_of s)) (account_at (rows_of m)) (account_at (rows_of t)) h (kept_rows (rows_of m) (rows_of t) rows))

    pub line_whole : (line : ℕ) (a : Arrival) → NamesIn (OfLine line (Brings a)) from via → CameGoes w a line from via s m → ClosesIn (sight_of s) (rows_of s) (rows_of m) from.ended.items via.ended.items
        → ((c : ℕ) → LeadsTold w (tells.Heard a) line c from.posted.items via.posted.items from.ended.items via.ended.items s m) → LineSteps a line client s t to
    line_whole line a names goes closed leads = record {
      goes = goes_whole from via to (sight_of s) (sight_of m) (sight_of t) none empty first next;
      names = named_all (OfLine line (Brings a)) from via to empty names ended;
      steps = λ trace live own unowed came sound.
          let went = goes trace client [] live own (subst (λ ps. CameIn (posting_in ps trace) (outbox_of line) a) (sym none) came)
          (subst (λ x. IsSound w (posting_in from.posted.items x) (pends line (tells.Heard a) []) s) (sym unowed)
          (subst (λ ps. IsSound w (posting_in ps trace) (pends line (tells.Heard a) []) s) (sym none) (pends_none w (posting_in [] trace) s line a sound))) in
          whole_steps w trace s m t client (HearsAt line (tells.Heard a)) from.posted.items via.posted.items to.posted.items from.ended.items via.ended.items to.ended.items empty over went (sends trace [] went.sound) rows (runs ready.running) (λ d apart. ready.quiet d);
      ready = subst (AreReady w) (sym rows) may;
      accounts = closes (closes_first (sight_of s) (rows_of s) (rows_of m) from.ended.items via.ended.items empty closed);
      leads = told_steps w (tells.Heard a) line client s m t from.posted.items via.posted.items to.posted.items from.ended.items via.ended.items to.ended.items none empty over (leads client) sent;
    }

    pub group_whole : (came : Ticket → Request → Event) → GroupGoes w client came from via s m → (from.posted.items ≡ [] → from.ended.items ≡ [] → AreClosed (sight_of s) via.ended.items (account_at (rows_of s)) (account_at (rows_of m)))
        → (from.posted.items ≡ [] → from.ended.items ≡ [] → LeadsGroup w client came from.posted.items via.posted.items from.ended.items via.ended.items s m) → GroupsGo to.posted.items (sight_of m) (sight_of t) → GroupSteps client came s t to
    group_whole came goes closed leads gone = record {
      goes = goes_whole from via to (sight_of s) (sight_of m) (sight_of t) none empty first next;
      steps = steps;
      groups = groups_beside w None s m t client from.posted.items via.posted.items to.posted.items from.ended.items via.ended.items (goes None tt ready.sound) gone;
      ready = subst (AreReady w) (sym rows) may;
      accounts = closes (closed none empty);
      leads = group_leads w client came s m t from.posted.items via.posted.items to.posted.items from.ended.items via.ended.items to.ended.items none empty over (leads none empty) sent;
    }
      where
        steps : OverSteps client came s t to
        steps trace come sound =
            let part = goes trace come (subst (λ ps. IsSound w (posting_in ps (owing_all (refused_out came (get_or (groups_of s) client None)) trace)) [] s) (sym none) sound) in
            group_steps w trace s m t client from.posted.items via.posted.items to.posted.items from.ended.items via.ended.items to.ended.items empty over part (sends trace [] part.sound) rows (runs ready.running) ready.quiet

  -- What comes for a ticket

  pub for_line : (s : Clients P) (client : ℕ) (u : Ticket) (what : Coming) → ((book_at s client).ticket ≡ Some u → ⊥) → IsForLine client u what s
  for_line s client u (coming.Reply o) other = other
  for_line s client u coming.Lost other = other
  for_line s client u coming.Slept other = tt

  module _ (s t : Clients P) (u : Ticket) (client : ℕ) (of : IsOfLine client u s) (ready : IsReady w s) (turn : Turn) where
    line_given : (what : Coming) → All (Names (OfLine u.line (Brings (arrival_as u.number what)))) turn.ended.items → All (Names (GivesTo (sight_of s) u what)) turn.ended.items
    line_given (coming.Reply o) names = named_weaker (OfLine u.line (Brings (arrivals.Reply u.number o))) (IsGiven (sight_of s) u o) (λ n v q. absurd q.1) turn.ended.items names
    line_given coming.Lost names = named_weaker (OfLine u.line (Brings (arrivals.Lost u.number))) NoneGiven (λ n v q. q.1) turn.ended.items names
    line_given coming.Slept names = named_weaker (OfLine u.line (Brings (arrivals.Slept u.number))) NoneGiven (λ n v q. q.1) turn.ended.items names

    unowed : (what : Coming) (trace : Option Trace) → owing u.line (tells.Heard (arrival_as u.number what)) trace ≡ trace
    unowed (coming.Reply o) trace = refl
    unowed coming.Lost trace = refl
    unowed coming.Slept trace = refl

    line_waits : (what : Coming) → IsForLine client u what s → Steps w None (HearsAt u.line (tells.Heard (arrival_as u.number what))) turn.posted.items turn.ended.items s t → GroupsGo turn.posted.items (sight_of s) (sight_of t)
        → WaitsOn (HearsOf u what) turn.posted.items (waits_of w s) (waits_of w t) (sight_of s) (sight_of t)
    line_waits (coming.Reply o) other g gone = waits_reply w s t u client (arrivals.Reply u.number o) turn.posted.items turn.ended.items refl of.own other ready g gone
    line_waits coming.Lost other g gone = waits_reply w s t u client (arrivals.Lost u.number) turn.posted.items turn.ended.items refl of.own other ready g gone
    line_waits coming.Slept other g gone = waits_end w s t u (arrivals.Slept u.number) turn.posted.items turn.ended.items refl g gone

    line_rests : (what : Coming) → CameSteps (arrival_as u.number what) u.line client s t turn → RestsAfter (FailsFor w) (RestsIn w s) (RestsIn w t) (sight_of s) u what turn
    line_rests (coming.Reply o) f = λ before h longer posted came was.
        rests_on w h s t _ turn.posted.items turn.ended.items (f (Some h) of.live of.own refl (reply_came before h s u o of.call posted came) (rested w s h posted (rests_when_longer w s before h longer was)))
    line_rests coming.Lost f = λ before h longer posted came was.
        rests_on w h s t _ turn.posted.items turn.ended.items (f (Some h) of.live of.own refl (loss_came before h s u of.call posted came) (rested w s h posted (rests_when_longer w s before h longer was)))
    line_rests coming.Slept f = λ h posted was. rests_on w h s t _ turn.posted.items turn.ended.items (f (Some h) of.live of.own refl tt (rested w s h posted was))

    line_arises : (what : Coming) → StepsTold w (tells.Heard (arrival_as u.number what)) u.line client turn.posted.items turn.ended.items s t
        → ArisesAfter (ArisenFrom w s) (ArisenFrom w t) (λ h x o. HoldsAt (rows_of s) h x o) (λ h x o. HoldsAt (rows_of t) h x o) (sight_of s) u what turn
    line_arises (coming.Reply o) f = λ h r may a. arises_replied w s t u client turn.posted.items turn.ended.items h of.call of.own o r f may a
    line_arises coming.Lost f = λ h r may a. arises_lost w s t u client turn.posted.items turn.ended.items h of.call of.own r f may a
    line_arises coming.Slept f = λ h a. arises_slept w s t u client turn.posted.items turn.ended.items h of.call of.own members f a

    pub told_line : (what : Coming) → IsForLine client u what s → LineSteps (arrival_as u.number what) u.line client s t turn → HasTold w u what s t turn
    told_line what other c =
        let steps = c.steps None of.live of.own (unowed what None) tt ready.sound in
        record {
          goes = c.goes;
          given = line_given what c.names;
          waits = λ live. line_waits what other steps c.goes.groups;
          ready = ready_of w s t _ turn.posted.items turn.ended.items ready c.ready steps;
          accounts = c.accounts;
          rests = line_rests what c.steps;
          arises = line_arises what c.leads;
        }

  -- for the request for timestamps of a client

  module _ (s t : Clients P) (client : ℕ) (came : Ticket → Request → Event) (turn : Turn) (ready : IsReady w s) (g : GroupSteps client came s t turn) (u : Ticket) (of : IsOfLine client u s) (out : HasOut (sight_of s) client u) where
    group_waits : WaitsOn (HearsReply u) turn.posted.items (waits_of w s) (waits_of w t) (sight_of s) (sight_of t)
    group_waits = waits_group w s t u client turn.posted.items turn.ended.items of.own (out_ticket s client u out) ready (g.steps None tt ready.sound) g.groups

    group_ready : IsReady w t
    group_ready = ready_of w s t _ turn.posted.items turn.ended.items ready g.ready (g.steps None tt ready.sound)

    group_rests : ((v : Ticket) (q r : TsoRequest) (lines : List ℕ) → refused_as (came v (Tso q)) lines ≡ refused_as (came v (Tso r)) lines) → HearsOn (FailsFor w) (RestsIn w s) (RestsIn w t) (sight_of s) u (came u) turn
    group_rests plain before h longer posted come was =
        let told = out_ticket s client u out in
        let owed = record h { owed = refused_out came (get_or (groups_of s) client None) ++ h.owed } in
        rests_on w h s t _ turn.posted.items turn.ended.items
        (g.steps (Some h) (group_came before h s client u came told come) (rested w s owed posted (rests_when_longer w s before owed (group_longer before h s client u came plain told longer come) was)))

    group_arises : ((r : Request) → IsOutside (came u r)) → ArisesHearing (ArisenFrom w s) (ArisenFrom w t) (λ h x o. HoldsAt (rows_of s) h x o) (λ h x o. HoldsAt (rows_of t) h x o) (sight_of s) (came u) turn
    group_arises outside h r may a = arises_group w s t u client came r turn.posted.items turn.ended.items h (outside r) out g.leads may a

  module _ (s t : Clients P) (client : ℕ) (turn : Turn) (ready : IsReady w s) where
    pub told_group : (o : Option Reply) → ((u : Ticket) → HasOut (sight_of s) client u → All (Names (GivesTo (sight_of s) u (coming_as o))) turn.ended.items) → GroupSteps client (over_by o) s t turn → HasToldGroup w client (coming_as o) s t turn
    told_group (Some o) given g u of out = record {
      goes = g.goes;
      given = given u out;
      waits = λ live. group_waits s t client (over_by (Some o)) turn ready g u of out;
      ready = group_ready s t client (over_by (Some o)) turn ready g u of out;
      accounts = g.accounts;
      rests = group_rests s t client (over_by (Some o)) turn ready g u of out (λ v q r lines. refl);
      arises = group_arises s t client (over_by (Some o)) turn ready g u of out (λ r. tt);
    }
    told_group None given g u of out = record {
      goes = g.goes;
      given = given u out;
      waits = λ live. group_waits s t client (over_by None) turn ready g u of out;
      ready = group_ready s t client (over_by None) turn ready g u of out;
      accounts = g.accounts;
      rests = group_rests s t client (over_by None) turn ready g u of out (λ v q r lines. refl);
      arises = group_arises s t client (over_by None) turn ready g u of out (λ r. tt);
    }

  -- for nobody: the ticket is that of a beat, or its client has crashed

  module _ (s : Clients P) (u : Ticket) (turn : Turn) (none : turn.posted.items ≡ []) (unended : turn.ended.items ≡ []) (ready : IsReady w s) where
    quiet_waits : (what : Coming) → u.beat ≡ true → WaitsOn (HearsOf u what) turn.posted.items (waits_of w s) (waits_of w s) (sight_of s) (sight_of s)
    quiet_waits (coming.Reply o) beat = waits_deaf w s u turn.posted.items beat
    quiet_waits coming.Lost beat = waits_deaf w s u turn.posted.items beat
    quiet_waits coming.Slept beat = waits_asleep w s u turn.posted.items beat

    quiet_rests : (what : Coming) → RestsAfter (FailsFor w) (RestsIn w s) (RestsIn w s) (sight_of s) u what turn
    quiet_rests (coming.Reply o) = λ before h longer posted came was. rests_quiet w h s turn.posted.items turn.ended.items none unended posted (rests_when_longer w s before h longer was)
    quiet_rests coming.Lost = λ before h longer posted came was. rests_quiet w h s turn.posted.items turn.ended.items none unended posted (rests_when_longer w s before h longer was)
    quiet_rests coming.Slept = λ h posted was. rests_quiet w h s turn.posted.items turn.ended.items none unended posted was

    quiet_arises : (what : Coming) → ArisesAfter (ArisenFrom w s) (ArisenFrom w s) (λ h x o. HoldsAt (rows_of s) h x o) (λ h x o. HoldsAt (rows_of s) h x o) (sight_of s) u what turn
    quiet_arises (coming.Reply o) = λ h r may a. passes_quietly w s turn.posted.items turn.ended.items (heard_by s) (Took u r o) h none unended tt may a
    quiet_arises coming.Lost = λ h r may a. passes_quietly w s turn.posted.items turn.ended.items (heard_by s) (Lost u r) h none unended tt may a
    quiet_arises coming.Slept = λ h a. passes_quietly w s turn.posted.items turn.ended.items (heard_by s) (Slept u) h none unended tt tt a

    pub told_nobody : (what : Coming) → (is_live (sight_of s) u.line ≡ true → u.beat ≡ true) → HasTold w u what s s turn
    told_nobody what deaf = record {
      goes = subst (λ ps. Goes ps turn.ended.items (sight_of s) (sight_of s)) (sym none) (subst (λ es. Goes [] es (sight_of s) (sight_of s)) (sym unended) (goes_quiet (sight_of s)));
      given = subst (All (Names (GivesTo (sight_of s) u what))) (sym unended) (All-nil (Names (GivesTo (sight_of s) u what)));
      waits = λ live. quiet_waits what (deaf live);
      ready = ready;
      accounts = closed_so (sight_of s) [] turn.ended.items (account_at (rows_of s)) (account_at (rows_of s)) unended (nothing_closed (sight_of s) (account_at (rows_of s)) (account_at (rows_of s)) (kept_same (account_at (rows_of s))));
      rests = quiet_rests what;
      arises = quiet_arises what;
    }

  -- The newest line asks something of a client, or of a transaction.

  abbrev pub HasAsked : ℕ → ClientAct → Clients P → Clients P → Option Turn → Type 0
  HasAsked x act s t = StepsAsked sight_of (IsReady w) (waits_of w) (λ y. account_at (rows_of y)) (FailsFor w) (RestsIn w) (ArisenFrom w) (λ y h n o. HoldsAt (rows_of y) h n o) x act s t

  abbrev pub HasUsed : ℕ → Act → Clients P → Clients P → Option Turn → Type 0
  HasUsed x act s t = StepsUsed sight_of (IsReady w) (waits_of w) (λ y. account_at (rows_of y)) (FailsFor w) (RestsIn w) (ArisenFrom w) (λ y h n o. HoldsAt (rows_of y) h n o) x act s t

  module _ (s t : Clients P) (turn : Turn) (ready : IsReady w s) (may : AreReady w (rows_of t)) (alone : EndsAlone (line_count (sight_of s)) turn.ended.items) (names : All (Names NoneGiven) turn.ended.items) where
    -- what it does without a trace, and with one that knows what it asks
    pub asked_whole : (x c : ℕ) (act : ClientAct) → client_at (stand_at (sight_of s).stands x) ≡ Some c → is_live (sight_of s) x ≡ true → Goes turn.posted.items turn.ended.items (with_stand (line_count (sight_of s)) (Asking c (begins act)) (sight_of s)) (sight_of t)
        → Steps w None (λ n a. ⊥) turn.posted.items turn.ended.items s t
        → ((h : Trace) → IsCalled h (line_count (sight_of s)) (line_count (sight_of s)) → BeginsAs h (line_count (sight_of s)) (begins_with act) → IsSound w (posting_in [] (Some h)) [] s → Steps w (Some h) (λ n a. ⊥) turn.posted.items turn.ended.items s t)
        → AreKept (account_at (rows_of s)) (account_at (rows_of t)) → LeadsSent w [] turn.posted.items [] turn.ended.items itself s t → HasAsked x act s t (Some turn)
    asked_whole x c act own live goes steps rests kept leads = record {
      goes = (c, own, live, goes, alone, names);
      waits = waits_none w s t turn.posted.items turn.ended.items steps goes.groups;
      ready = ready_of w s t _ turn.posted.items turn.ended.items ready may steps;
      accounts = kept;
      rests = λ h posted called begun was. rests_on w h s t _ turn.posted.items turn.ended.items (rests h called begun (rested w s h posted was));
      arises = λ h a. arises_sent w s t turn.posted.items turn.ended.items itself h leads a;
    }

    pub used_whole : (x c : ℕ) (act : Act) → stand_at (sight_of s).stands x ≡ HasBegun c 0 → is_free (sight_of s) x ≡ true → Goes turn.posted.items turn.ended.items (calling c x (commits act) (sight_of s)) (sight_of t) → CallSteps w act x s t turn
        → TakesIn act x (line_count (sight_of s)) (account_at (rows_of s)) (account_at (rows_of t)) turn.ended.items → LeadsSent w [] turn.posted.items [] turn.ended.items (λ n. record { at = x; commits = commits act }) s t → HasUsed x act s t (Some turn)
    used_whole x c act begun free goes steps takes leads =
        let quiet = steps None ready tt (tt, rolls_untold (line_count (sight_of s)) act) ready.sound in
        record {
          goes = (c, begun, free, goes, alone, names);
          waits = waits_none w s t turn.posted.items turn.ended.items quiet goes.groups;
          ready = ready_of w s t _ turn.posted.items turn.ended.items ready may quiet;
          accounts = takes;
          rests = λ h posted called refused rolls was. rests_on w h s t _ turn.posted.items turn.ended.items (steps (Some h) ready called (refused, rolls) (rested w s h posted was));
          arises = λ h a. arises_sent w s t turn.posted.items turn.ended.items (λ n. record { at = x; commits = commits act }) h leads a;
        }

  -- it may not

  pub asked_nobody : (s : Clients P) (x : ℕ) (act : ClientAct) → IsReady w s → is_live (sight_of s) x ≡ false → HasAsked x act s s None
  asked_nobody s x act ready gone = record {
    goes = (gone, refl);
    waits = waits_same w s;
    ready = ready;
    accounts = kept_same (account_at (rows_of s));
    rests = λ h posted called begun was. rests_still w h s s posted was;
    arises = λ h a. arises_still w s itself h a;
  }

  pub used_nobody : (s : Clients P) (x : ℕ) (act : Act) → IsReady w s → is_free (sight_of s) x ≡ false → HasUsed x act s s None
  used_nobody s x act ready taken = record {
    goes = (taken, refl);
    waits = waits_same w s;
    ready = ready;
    accounts = kept_same (account_at (rows_of s));
    rests = λ h posted called refused rolls was. rests_still w h s s posted was;
    arises = λ h a. arises_still w s (λ n. record { at = x; commits = commits act }) h a;
  }

  -- one line more
  pub opened_sight : (p : IsLawful w.plan) (s t : Clients P) (d : Place P) → d ≡ record { row = row.Plain; next = 1; next_ask = 1 } → t.places.items ≡ s.places.items ++ d ∷ [] → t.clients ≡ s.clients → sight_of t ≡ opened (sight_of s)
  opened_sight p s t d new items clients =
      let l = opened_lists w p s t d new items in
      sight_at s t (stands_of (rows_of s) ++ Idle ∷ []) (nexts_of s ++ 1 ∷ []) clients (ap stands_of l.0 ∙ map-append stand_of (rows_of s) (row.Plain ∷ [])) l.1
      ∙ ap (λ bs. record (sight_of s) { stands = stands_of (rows_of s) ++ Idle ∷ []; nexts = record { calls = nexts_of s ++ 1 ∷ []; beats = bs } }) (map-append (λ (n : ℕ). 1) (nexts_of s) (1 ∷ []))
