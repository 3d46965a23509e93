-- Whole steps of the clients, by what a run shows.
use Rattle.std.proofs.Common.{◌≡◌, zero, suc, ℕ, false, List, [], ◌∷◌, get_or, Some, None, sym, ap, ◌∙◌, subst}
use Rattle.std.specs.List.{All}
use Rattle.std.proofs.lemmas.List.Elements.{All-nil}
use Rattle.txn_kv.specs.Timestamp.{version_of}
use Rattle.txn_kv.specs.declared.reply.Reply.{Reply}
use Rattle.txn_kv.specs.declared.request.Request.{Request}
use Rattle.txn_kv.specs.declared.ticket.Ticket.{Ticket}
use Rattle.txn_history.specs.Event.{Event}
use Rattle.txn_history.specs.Event.Event.{Lost, Slept, Took}
use Rattle.txn_history.specs.Plan.{Plan}
use Rattle.txn_history.specs.Posted.{Within}
use Rattle.txn_law.specs.Run.{IsPossible, IsRun}
use Rattle.txn_kv.specs.declared.arrival.Arrival.TheVariants as arrivals
use Rattle.txn_commit.specs.Ways.{Ways}
use Rattle.txn_commit.specs.Sending.{plan_of}
use Rattle.txn_report.specs.declared.outcome.Outcome.{Outcome}
use Rattle.txn_report.specs.declared.outcome.Outcome.TheVariants as outcomes
use Rattle.txn_report.specs.declared.outcome.Payload.TheVariants as payloads
use Rattle.txn_side.specs.Arising.{Arises, IsOutside, with_postings}
use Rattle.txn_side.specs.Doubt.{CallOf}
use Rattle.txn_side.specs.Saying.{SpeaksOf}
use Rattle.txn_side.specs.Sight.{client_at, stand_at}
use Rattle.txn_side.specs.declared.turn.Ending.{Ending}
use Rattle.txn_side.specs.declared.turn.Posting.{Posting}
use Rattle.txn_trace.specs.Seeing.{seen}
use Rattle.txn_trace.proofs.Seen.{committed_so, had_seen, seen_had, took_seen}
use Rattle.txn_clients.specs.Arising.{AreLawful, Arisen, ArisenFrom, HavePlans, HoldsAt, HoldsOf, IsCommittedSo, LeadsWith, StepsGroup, StepsTold, heard_by}
use Rattle.txn_clients.specs.Clients.{HasOut, rows_of, row_at, sight_of, stands_of}
use Rattle.txn_clients.specs.Growing.{plans_found, plans_in, some_run}
use Rattle.txn_clients.specs.Unmoved.{arises_when_longer, possible_unseen}
use Rattle.txn_clients.specs.declared.clients.Clients.{Clients}
use Rattle.txn_clients.specs.declared.row.Row.{Row}
use Rattle.txn_clients.specs.declared.row.Row.TheVariants as row
use Rattle.txn_clients.specs.declared.told.Told.TheVariants as tells
use Rattle.txn_clients.proofs.Doubting.{speaks_of}
use Rattle.txn_clients.proofs.Sides.{out_ticket}

-- What is right after a history is right after what is shown of it.

module _ {P : Type 0} (h : List Event) where
  committed_shown : (v : ℕ) (r : Row P) → IsCommittedSo h v r → IsCommittedSo (seen h) v r
  committed_shown v (row.Begun c t m) (parts, closed, wrote, x) = (parts, closed, wrote, committed_so (plan_of parts) h (seen h) (version_of t.start) v (took_seen h) x)
  committed_shown v row.Plain x = absurd x
  committed_shown v (row.Client c) x = absurd x
  committed_shown v (row.Asking c b call) x = absurd x
  committed_shown v (row.Calling c y b) x = absurd x
  committed_shown v (row.Past c) x = absurd x
  committed_shown v (row.Working c job) x = absurd x

  right_shown : (o : Outcome) (r : Row P) → HoldsOf h o r → HoldsOf (seen h) o r
  right_shown (outcomes.Ok payloads.Unit) r x = tt
  right_shown (outcomes.Ok (payloads.Number v)) r x = x
  right_shown (outcomes.Ok (payloads.Commit None)) r x = x
  right_shown (outcomes.Ok (payloads.Commit (Some v))) r x = committed_shown v r x
  right_shown (outcomes.Err e) r x = tt
  right_shown outcomes.Unfinished r x = tt
  right_shown outcomes.Done r x = tt
  right_shown outcomes.Skipped r x = tt

  holds_shown : (rows : List (Row P)) (x : ℕ) (o : Outcome) → HoldsAt rows h x o → HoldsAt rows (seen h) x o
  holds_shown rows zero o k = tt
  holds_shown rows (suc i) o k = right_shown o (row_at rows i) k

-- what is shown of a longer history is longer
within_shown : (h longer : List Event) → Within h longer → Within (seen h) (seen longer)
within_shown h longer within e i = let s = seen_had h e i in had_seen longer e s.1 (within e s.0)

all_as : {X : Type 0} {A B : X → Type 0} (xs : List X) → ((x : X) → A x → B x) → All A xs → All B xs
all_as {X} {A} {B} xs f a = λ k x e. f (get_or xs k x) (a k x e)

module _ {P : Type 0} (w : Ways P) where
  -- where a step leads on, the clients have arisen from what is shown then
  pub arises_by : (s t : Clients P) (posted : List Posting) (ended : List Ending) (at : ℕ → CallOf) (shown h before : List Event) → before ≡ seen h → AreLawful w → LeadsWith w [] posted [] ended at s t shown h
      → Arises (ArisenFrom w t) (λ h x o. HoldsAt (rows_of t) h x o) (λ x o. HoldsAt (rows_of s) before x o) at (with_postings posted shown) ended
  arises_by s t posted ended at shown h before is laws (askers, l) = record {
    now = (laws, askers, l.later, shows, l.arisen);
    kept = λ x o k. subst (λ g. HoldsAt (rows_of t) g x o) shows (still x o k);
    answers = subst (λ es. All (λ (e : Ending). HoldsAt (rows_of t) (with_postings posted shown) (at e.line).at e.outcome) es) (sym l.ends.ended)
        (all_as l.ends.more (λ e k. subst (λ g. HoldsAt (rows_of t) g (at e.line).at e.outcome) shows (holds_shown l.later (rows_of t) (at e.line).at e.outcome k)) l.ends.each);
    says = subst (λ es. All (λ (e : Ending). SpeaksOf (λ x o. HoldsAt (rows_of s) before x o) (with_postings posted shown) (at e.line) e.line e.outcome) es) (sym l.ends.ended)
        (all_as l.ends.more (λ e speaks. subst (λ g. SpeaksOf (λ x o. HoldsAt (rows_of s) before x o) g (at e.line) e.line e.outcome) shows (speaks_of plans l.later run (rows_of t) (λ x o. HoldsAt (rows_of s) before x o) (at e.line) e.line e.outcome have still speaks)) l.ends.says);
  }
    where
      shows : seen l.later ≡ with_postings posted shown
      shows = l.shows ∙ ap (λ ps. with_postings ps shown) (sym l.posted)

      still : (x : ℕ) (o : Outcome) → HoldsAt (rows_of s) before x o → HoldsAt (rows_of t) (seen l.later) x o
      still x o k = l.kept x o (seen h) (seen l.later) (within_shown h l.later l.within) (subst (λ g. HoldsAt (rows_of s) g x o) is k)

      plans : ℕ → Plan
      plans = plans_in (rows_of t)

      have : HavePlans plans (rows_of t)
      have = plans_found (rows_of t) l.arisen.apart

      run : IsRun plans l.later
      run = some_run w t askers [] l.later l.arisen

  -- Nothing happens to a client that is gone, or to nobody.

  pub passes_by : (s : Clients P) (at : ℕ → CallOf) (e : Event) (h : List Event) → IsOutside e → IsPossible h e → ArisenFrom w s h → Arises (ArisenFrom w s) (λ h x o. HoldsAt (rows_of s) h x o) (λ x o. HoldsAt (rows_of s) h x o) at (e ∷ h) []
  passes_by s at e h out may a = let r = arises_when_longer w s h e out may a in record { now = r.now; kept = r.kept; answers = All-nil _; says = All-nil _ }

  -- nobody hears of it, and nothing is posted
  pub passes_quietly : (s : Clients P) (posted : List Posting) (ended : List Ending) (at : ℕ → CallOf) (e : Event) (h : List Event) → posted ≡ [] → ended ≡ [] → IsOutside e → IsPossible h e → ArisenFrom w s h
      → Arises (ArisenFrom w s) (λ h x o. HoldsAt (rows_of s) h x o) (λ x o. HoldsAt (rows_of s) h x o) at (with_postings posted (e ∷ h)) ended
  passes_quietly s posted ended at e h none over out may a =
      subst (λ ps. Arises (ArisenFrom w s) (λ h x o. HoldsAt (rows_of s) h x o) (λ x o. HoldsAt (rows_of s) h x o) at (with_postings ps (e ∷ h)) ended) (sym none)
      (subst (λ es. Arises (ArisenFrom w s) (λ h x o. HoldsAt (rows_of s) h x o) (λ x o. HoldsAt (rows_of s) h x o) at (e ∷ h) es) (sym over) (passes_by s at e h out may a))

  -- nothing happens at all
  pub arises_still : (s : Clients P) (at : ℕ → CallOf) (h : List Event) → ArisenFrom w s h → Arises (ArisenFrom w s) (λ h x o. HoldsAt (rows_of s) h x o) (λ x o. HoldsAt (rows_of s) h x o) at h []
  arises_still s at h a = record { now = a; kept = λ x o k. k; answers = All-nil _; says = All-nil _ }

  -- the line calls
  pub arises_sent : (s t : Clients P) (posted : List Posting) (ended : List Ending) (at : ℕ → CallOf) (h : List Event)
      → ((askers : Ticket → List ℕ) (h : List Event) → Arisen w s askers [] h → LeadsWith w [] posted [] ended at s t (seen h) h) → ArisenFrom w s h
      → Arises (ArisenFrom w t) (λ h x o. HoldsAt (rows_of t) h x o) (λ x o. HoldsAt (rows_of s) h x o) at (with_postings posted h) ended
  arises_sent s t posted ended at h leads (laws, askers, g, shows, a) =
      subst (λ x. Arises (ArisenFrom w t) (λ h x o. HoldsAt (rows_of t) h x o) (λ y o. HoldsAt (rows_of s) h y o) at (with_postings posted x) ended) shows
      (arises_by s t posted ended at (seen g) g h (sym shows) laws (leads askers g a))

  -- Something comes for a line: for a request of its own, or a sleep,
  module _ (s t : Clients P) (u : Ticket) (client : ℕ) (posted : List Posting) (ended : List Ending) (h : List Event) (beat : u.beat ≡ false) (own : client_at (stand_at (stands_of (rows_of s)) u.line) ≡ Some client) where
    abbrev Next : List Event → Type 0
    Next shown = Arises (ArisenFrom w t) (λ h x o. HoldsAt (rows_of t) h x o) (λ x o. HoldsAt (rows_of s) h x o) (heard_by s) (with_postings posted shown) ended

    abbrev named : Ticket
    named = record { line = u.line; beat = false; number = u.number }

    is_named : named ≡ u
    is_named = λ i. record { line = u.line; beat = sym beat i; number = u.number }

    pub arises_replied : (x : Reply) (r : Request) → StepsTold w (tells.Heard (arrivals.Reply u.number x)) u.line client posted ended s t → IsPossible h (Took u r x) → ArisenFrom w s h → Next (Took u r x ∷ h)
    arises_replied x r steps may (laws, askers, g, shows, a) =
        subst (λ (v : Ticket). Next (Took v r x ∷ h)) is_named (subst (λ y. Next (Took named r x ∷ y)) shows
        (arises_by s t posted ended (heard_by s) (Took named r x ∷ seen g) g h (sym shows) laws (steps askers g r tt own (possible_unseen (Took named r x) g tt (subst (λ (v : Ticket). IsPossible (seen g) (Took v r x)) (sym is_named) (subst (λ y. IsPossible y (Took u r x)) (sym shows) may))) a)))

    pub arises_lost : (r : Request) → StepsTold w (tells.Heard (arrivals.Lost u.number)) u.line client posted ended s t → IsPossible h (Lost u r) → ArisenFrom w s h → Next (Lost u r ∷ h)
    arises_lost r steps may (laws, askers, g, shows, a) =
        subst (λ (v : Ticket). Next (Lost v r ∷ h)) is_named (subst (λ y. Next (Lost named r ∷ y)) shows
        (arises_by s t posted ended (heard_by s) (Lost named r ∷ seen g) g h (sym shows) laws (steps askers g r tt own (possible_unseen (Lost named r) g tt (subst (λ (v : Ticket). IsPossible (seen g) (Lost v r)) (sym is_named) (subst (λ y. IsPossible y (Lost u r)) (sym shows) may))) a)))

    pub arises_slept : (r : Request) → StepsTold w (tells.Heard (arrivals.Slept u.number)) u.line client posted ended s t → ArisenFrom w s h → Next (Slept u ∷ h)
    arises_slept r steps (laws, askers, g, shows, a) =
        subst (λ (v : Ticket). Next (Slept v ∷ h)) is_named (subst (λ y. Next (Slept named ∷ y)) shows
        (arises_by s t posted ended (heard_by s) (Slept named ∷ seen g) g h (sym shows) laws (steps askers g r tt own tt a)))

  -- or for its client's request for timestamps
  pub arises_group : (s t : Clients P) (u : Ticket) (client : ℕ) (event : Ticket → Request → Event) (r : Request) (posted : List Posting) (ended : List Ending) (h : List Event) → IsOutside (event u r) → HasOut (sight_of s) client u
      → StepsGroup w client event posted ended s t → IsPossible h (event u r) → ArisenFrom w s h
      → Arises (ArisenFrom w t) (λ h x o. HoldsAt (rows_of t) h x o) (λ x o. HoldsAt (rows_of s) h x o) (heard_by s) (with_postings posted (event u r ∷ h)) ended
  arises_group s t u client event r posted ended h out here steps may (laws, askers, g, shows, a) =
      subst (λ y. Arises (ArisenFrom w t) (λ h x o. HoldsAt (rows_of t) h x o) (λ x o. HoldsAt (rows_of s) h x o) (heard_by s) (with_postings posted (event u r ∷ y)) ended) shows
      (arises_by s t posted ended (heard_by s) (event u r ∷ seen g) g h (sym shows) laws (steps askers g u r (out_ticket s client u here) (possible_unseen (event u r) g out (subst (λ y. IsPossible y (event u r)) (sym shows) may)) a))
