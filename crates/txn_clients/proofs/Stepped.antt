-- What clients can have arisen from, in whole steps.
use Rattle.std.proofs.Common.{◌≡◌, ◌≢◌, inl, inr, ℕ, ◌-◌, ◌<◌, Bool, List, [], ◌∷◌, length, set, sym, ap, ◌∙◌, subst, arith, length-set}
use Rattle.std.proofs.lemmas.List.Elements.{All-head, All-tail}
use Rattle.txn_kv.specs.declared.request.Request.{Request}
use Rattle.txn_kv.specs.declared.ticket.Ticket.{Ticket}
use Rattle.txn_history.specs.Among.{IsAmong}
use Rattle.txn_history.specs.Event.{Event}
use Rattle.txn_history.specs.Posted.{Within-refl}
use Rattle.txn_commit.specs.Ways.{Ways}
use Rattle.txn_client.specs.Calls.{IsAt}
use Rattle.txn_client.specs.declared.client_call.ClientCall.{ClientCall}
use Rattle.txn_client.specs.declared.client_call.Stage.TheVariants as stages
use Rattle.txn_tso.specs.Calling.{members}
use Rattle.txn_side.specs.Doubt.{CallOf, itself}
use Rattle.txn_side.specs.Arising.{answered_at}
use Rattle.txn_side.specs.Sight.{EndsAlone, client_at, stand_at, commits}
use Rattle.txn_side.specs.Sight.Stand.{Asking, Calling, HasBegun, Idle}
use Rattle.txn_lines.specs.declared.act.Act.{Act}
use Rattle.txn_side.specs.declared.turn.Ending.{Ending}
use Rattle.txn_side.specs.declared.turn.Posting.{Posting}
use Rattle.txn_clients.specs.Arising.{Anyhow, KeepRight, LeadsGroup, LeadsSent, LeadsTold, LeadsWith, StepsGroup, StepsTold, heard_by, AsksSo}
use Rattle.txn_clients.specs.Clients.{AreReady, nexts_of, row_at, rows_of, stands_of}
use Rattle.txn_clients.specs.Matching.{IsLine}
use Rattle.txn_clients.specs.Rows.{Pd, stand_of, with_waits}
use Rattle.txn_clients.specs.Waiting.{asks_of, posted_at, voice, voice_at}
use Rattle.txn_clients.specs.declared.clients.Clients.{Clients}
use Rattle.txn_clients.specs.declared.row.Row.{Row}
use Rattle.txn_clients.specs.declared.row.Row.TheVariants as row
use Rattle.txn_clients.specs.declared.told.Told.{Told}
use Rattle.txn_clients.specs.declared.told.Told.TheVariants as tells
use Rattle.txn_clients.proofs.Asking.{called_stand}
use Rattle.txn_clients.proofs.Chaining.{kept_then, leads_at, leads_from, leads_unended}
use Rattle.txn_clients.proofs.Ended.{IsUnended, arisen_set, rest_row, right_unended, right_waits, unended_replaced, waits_replaced}
use Rattle.txn_clients.proofs.Settling.{rests_when_free, row_within}
use Rattle.txn_clients.proofs.Stands.{or_other, stand_same}
use Rattle.txn_clients.proofs.Tables.{stand_of_line, stands_set}
use Rattle.txn_clients.proofs.Telling.{begun_line}

-- each that ended is of the one line
among_alone : (line : ℕ) (es : List Ending) (e : Ending) → EndsAlone line es → IsAmong es e → e.line ≡ line
among_alone line [] e alone i = absurd i
among_alone line (x ∷ es) e alone (inl same) = sym (ap (λ (y : Ending). y.line) same) ∙ All-head (λ (y : Ending). y.line ≡ line) x es alone
among_alone line (x ∷ es) e alone (inr i) = among_alone line es e (All-tail (λ (y : Ending). y.line ≡ line) x es alone) i

module _ {P : Type 0} where
  idle_unended : (r : Row P) → stand_of r ≡ Idle → IsUnended r
  idle_unended row.Plain e = tt
  idle_unended (row.Client c) e = absurd (cc)
  idle_unended (row.Asking c b call) e = tt
  idle_unended (row.Begun c t m) e = absurd (cc)
  idle_unended (row.Calling c x b) e = tt
  idle_unended (row.Past c) e = absurd (cc)
  idle_unended (row.Working c job) e = absurd (cc)

  pub line_unended : (rows : List (Row P)) (line : ℕ) → IsLine (stands_of rows) line → stand_at (stands_of rows) line ≡ Idle → IsUnended (row_at rows (line - 1))
  line_unended rows line is idle = idle_unended (row_at rows (line - 1)) (sym (stand_of_line rows line is.first) ∙ idle)

  module _ (w : Ways P) where
    -- a part, and then the group that goes out

    pub told_steps : (told : Told) (line client : ℕ) (s m t : Clients P) (ps qs rs : List Posting) (es fs gs : List Ending) → ps ≡ [] → es ≡ [] → gs ≡ fs → LeadsTold w told line client ps qs es fs s m → LeadsSent w qs rs fs gs (heard_by m) m t → StepsTold w told line client rs gs s t
    told_steps told line client s m t ps qs rs es fs gs none empty unended f g askers h r fits own can a =
        let first = subst (λ xs. LeadsTold w told line client xs qs [] fs s m) none (subst (λ xs. LeadsTold w told line client ps qs xs fs s m) empty f) askers [] h r fits own can a in
        let next = g askers first.later first.arisen in
        (next.0, leads_unended w askers next.0 [] [] [] qs rs [] fs gs (heard_by s) (heard_by m) s m t _ h Anyhow Anyhow unended first next.1)

    pub group_leads : (client : ℕ) (event : Ticket → Request → Event) (s m t : Clients P) (ps qs rs : List Posting) (es fs gs : List Ending) → ps ≡ [] → es ≡ [] → gs ≡ fs → LeadsGroup w client event ps qs es fs s m → LeadsSent w qs rs fs gs (heard_by m) m t → StepsGroup w client event rs gs s t
    group_leads client event s m t ps qs rs es fs gs none empty unended f g askers h u r out can a =
        let first = subst (λ xs. LeadsGroup w client event xs qs [] fs s m) none (subst (λ xs. LeadsGroup w client event ps qs xs fs s m) empty f) askers h u r out can a in
        let next = g askers first.later first.arisen in
        (next.0, leads_unended w askers next.0 [] [] [] qs rs [] fs gs (heard_by s) (heard_by m) s m t _ h Anyhow Anyhow unended first next.1)

    -- A call begins

    begins_with : (s m t : Clients P) (line : ℕ) (at : ℕ → CallOf) (shown h : List Event) (ps : List Posting) (es : List Ending) → heard_by m line ≡ at line → EndsAlone line es → KeepRight (rows_of s) (rows_of m) → LeadsWith w [] ps [] es (heard_by m) m t shown h → LeadsWith w [] ps [] es at s t shown h
    begins_with s m t line at shown h ps es heard alone kept f =
        let from = leads_from w f.0 [] [] ps [] es (heard_by m) s m t shown h h Anyhow Anyhow (Within-refl h) kept (λ later y. y) f.1 in (
          f.0,
          leads_at w f.0 [] [] ps [] es at (heard_by m) s t shown h Anyhow from (λ e i.
              let same = among_alone line from.ends.more e (subst (EndsAlone line) from.ends.ended alone) i in
              ap (heard_by m) same ∙ heard ∙ ap at (sym same)),
        )

    pub ask_leads : (s m t : Clients P) (line c : ℕ) (b : Bool) (call : ClientCall Pd P) (ps : List Posting) (es : List Ending) → IsLine (stands_of (rows_of s)) line → stand_at (stands_of (rows_of s)) line ≡ Idle → call.stage ≡ stages.Fresh
        → rows_of m ≡ set (rows_of s) (line - 1) (row.Asking c b call) → nexts_of m ≡ nexts_of s → asks_of m ≡ asks_of s → m.clients ≡ s.clients → EndsAlone line es → StepsTold w tells.Start line c ps es m t → LeadsSent w [] ps [] es itself s t
    ask_leads s m t line c b call ps es is idle fresh rows nexts asks clients alone f askers h a =
        begins_with s m t line itself _ h ps es (ap (answered_at line) stands) alone (subst (KeepRight (rows_of s)) (sym rows) (right_unended (rows_of s) (line - 1) (row.Asking c b call) within unended))
        (f askers h members tt (ap client_at stands) tt
        (arisen_set w s m askers [] h (line - 1) (row.Asking c b call) within rows nexts asks clients (unended_replaced w askers h (line - 1) (row_at (rows_of s) (line - 1)) (row.Asking c b call) unended (λ n y. absurd y)) (subst (λ g. IsAt g (posted_at (nexts_of s) (asks_of s) (voice (line - 1) (Asking c b))) h) (sym fresh) tt) a))
      where
        within : line - 1 < length (rows_of s)
        within = row_within (rows_of s) line is

        unended : IsUnended (row_at (rows_of s) (line - 1))
        unended = line_unended (rows_of s) line is idle

        stands : stand_at (stands_of (rows_of m)) line ≡ Asking c b
        stands = ap (λ rs. stand_at (stands_of rs) line) rows ∙ ap (λ ss. stand_at ss line) (stands_set (rows_of s) (line - 1) (row.Asking c b call)) ∙ stand_same (stands_of (rows_of s)) line (Asking c b) is

    pub call_leads : (s m n t : Clients P) (line x c : ℕ) (b : Bool) (act : Act) (ps : List Posting) (es : List Ending) → IsLine (stands_of (rows_of s)) line → stand_at (stands_of (rows_of s)) line ≡ Idle → stand_at (stands_of (rows_of s)) x ≡ HasBegun c 0 → AreReady w (rows_of s)
        → rows_of m ≡ set (rows_of s) (x - 1) (with_waits line (row_at (rows_of s) (x - 1))) → nexts_of m ≡ nexts_of s → asks_of m ≡ asks_of s → m.clients ≡ s.clients
        → rows_of n ≡ set (rows_of m) (line - 1) (row.Calling c x b) → nexts_of n ≡ nexts_of m → asks_of n ≡ asks_of m → n.clients ≡ m.clients → EndsAlone line es → b ≡ commits act → StepsTold w (tells.Act act) line c ps es n t → LeadsSent w [] ps [] es (λ i. record { at = x; commits = commits act }) s t
    call_leads s m n t line x c b act ps es is idle free ready rows_m nexts_m asks_m clients_m rows nexts asks clients alone kind f askers h a =
        begins_with s n t line (λ i. record { at = x; commits = commits act }) _ h ps es (ap (answered_at line) (stands ∙ ap (λ flag. Calling c x flag) kind)) alone
        (kept_then (rows_of s) (rows_of m) (rows_of n)
        (subst (KeepRight (rows_of s)) (sym rows_m) (right_waits (rows_of s) (x - 1) line within_x))
        (subst (KeepRight (rows_of m)) (sym rows) (right_unended (rows_of m) (line - 1) (row.Calling c x b) within_m unended)))
        (f askers h members (subst (AsksSo act) (sym stands) kind) (ap client_at stands) tt
        (arisen_set w m n askers [] h (line - 1) (row.Calling c x b) within_m rows nexts asks clients (unended_replaced w askers h (line - 1) (row_at (rows_of m) (line - 1)) (row.Calling c x b) unended (λ i y. absurd y)) tt
        (arisen_set w s m askers [] h (x - 1) (with_waits line mine) within_x rows_m nexts_m asks_m clients_m
        (waits_replaced w askers h (x - 1) line mine (a.draws.starts (x - 1)))
        (rest_row w line c 0 (rows_of s) (set (rows_of s) (x - 1) (with_waits line mine)) (posted_at (nexts_of s) (asks_of s) (voice_at (rows_of s) (x - 1))) (posted_at (nexts_of s) (asks_of s) (voice (x - 1) (stand_of (with_waits line mine)))) h mine begun (rests_when_free w c mine begun (ready.each (x - 1) row.Plain within_x)) (a.rows (x - 1))) a)))
      where
        mine : Row P
        mine = row_at (rows_of s) (x - 1)

        at : IsLine (stands_of (rows_of s)) x
        at = begun_line (stands_of (rows_of s)) x c 0 free

        begun : stand_of mine ≡ HasBegun c 0
        begun = sym (stand_of_line (rows_of s) x at.first) ∙ free

        far : x ≢ line
        far e = two (sym idle ∙ ap (stand_at (stands_of (rows_of s))) (sym e) ∙ free)
          where
            two : Idle ≡ HasBegun c 0 → ⊥
            two q = cc

        apart : line - 1 ≢ x - 1
        apart e = far (let one = is.first in let other = at.first in omega (arith, one, other, e))

        within_x : x - 1 < length (rows_of s)
        within_x = row_within (rows_of s) x at

        within_m : line - 1 < length (rows_of m)
        within_m = subst (λ i. line - 1 < i) (sym (ap length rows_m ∙ length-set (rows_of s) (x - 1) (with_waits line mine))) (row_within (rows_of s) line is)

        unended : IsUnended (row_at (rows_of m) (line - 1))
        unended = subst IsUnended (sym (ap (λ rs. row_at rs (line - 1)) rows_m ∙ or_other (rows_of s) (x - 1) (line - 1) (with_waits line mine) row.Plain apart)) (line_unended (rows_of s) line is idle)

        stands : stand_at (stands_of (rows_of n)) line ≡ Calling c x b
        stands = called_stand (rows_of s) (rows_of n) line x c b is (rows ∙ ap (λ rs. set rs (line - 1) (row.Calling c x b)) rows_m)
