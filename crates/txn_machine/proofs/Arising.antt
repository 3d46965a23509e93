-- The clients go on from each history that they can have arisen from, by what a line does and what they post then.
use Rattle.std.proofs.Common.{◌≡◌, ℕ, suc, ◌⊎◌, inl, inr, Bool, true, false, ◌&&◌, if◌then◌else◌, IfOk, List, [], ◌∷◌, Option, Some, None, Result, Ok, Err, length, is_some, nat_eq, slice_index_or, refl, sym, ap, ◌∙◌, subst, arith}
use Rattle.std.proofs.lemmas.Bool.Decides.{nat_tests}
use Rattle.std.specs.List.{All}
use Rattle.txn_lines.specs.declared.line.Line.{Line}
use Rattle.txn_lines.specs.Deeds.{deed_of}
use Rattle.txn_kv.specs.declared.memory.NoMemory.{NoMemory}
use Rattle.txn_kv.specs.declared.reply.Reply.{Reply}
use Rattle.txn_kv.specs.declared.request.Request.{Request}
use Rattle.txn_kv.specs.declared.ticket.Ticket.{Ticket}
use Rattle.txn_history.specs.Busy.{busy_reply}
use Rattle.txn_history.specs.Event.{Event, kept_reply}
use Rattle.txn_history.specs.Event.Event.{Clocked, Crashed, Led, Lost, Refused, Sent, Served, Slept, Split, Took}
use Rattle.txn_law.specs.Run.{IsPossible, IsRoomy, store_after}
use Rattle.txn_lines.specs.declared.deed.Deed.{Deed}
use Rattle.txn_lines.specs.declared.deed.Deed.TheVariants as deeds
use Rattle.txn_lines.specs.declared.happening.Happening.TheVariants as happenings
use Rattle.txn_model.specs.Regions.{can_lead, can_split}
use Rattle.txn_model.specs.Store.{Store}
use Rattle.txn_model.specs.Table.{table}
use Rattle.txn_post.specs.Mail.{Mail, as_sent, can_be_served, found_awaited, found_unserved, is_awaited, letter_at, only, place_of}
use Rattle.txn_report.specs.declared.outcome.Outcome.{Outcome}
use Rattle.txn_report.specs.declared.outcome.Outcome.TheVariants as outcomes
use Rattle.txn_report.specs.declared.outcome.Payload.TheVariants.{Number}
use Rattle.txn_side.specs.Arising.{Arises, ArisesAwake, ArisesHearing, ArisesOn, IsOutside, StillArises, answered_at, with_posting, with_postings}
use Rattle.txn_side.specs.Doubt.{CallOf, itself}
use Rattle.txn_side.specs.Saying.{SpeaksOf}
use Rattle.txn_side.specs.Sight.{Sight, is_live, stand_at}
use Rattle.txn_side.specs.declared.turn.Ending.{Ending}
use Rattle.txn_side.specs.declared.turn.Posting.{Posting}
use Rattle.txn_side.specs.declared.turn.Posting.TheVariants.{Send, Sleep}
use Rattle.txn_side.specs.declared.turn.Turn.{Turn}
use Rattle.txn_machine.specs.Arising.{Arisen, GoesIn, GoesOn, IsRight, Knows, RunsTo, Speaks, happens}
use Rattle.txn_machine.specs.Causes.{Role, role_for}
use Rattle.txn_machine.specs.Causes.Role.{AsksTime, MakesClient, NoCall, UsesTransaction}
use Rattle.txn_machine.specs.Lists.{Lists, all_ended, all_posted, ended_at, newest, opened, posted_at, reply_at, request_at, with_mail}
use Rattle.txn_machine.specs.Running.{closed, with_own}
use Rattle.txn_machine.specs.Script.{AllBefore, does, loses, outcome_of, refuses, refuses_it, serves, takes, takes_it, with_sends}
use Rattle.txn_machine.specs.Steps.{does_it, ended_in, found_out, posted_in, test_at}
use Rattle.txn_machine.specs.Told.{CanTell, OwnEnds, is_answer}
use Rattle.txn_machine.specs.declared.done.Done.{Done as Course}
use Rattle.txn_machine.proofs.Calms.{outcome_opened}
use Rattle.txn_machine.proofs.Courses.{only_there}
use Rattle.txn_machine.proofs.Fates.{sends_none}
use Rattle.txn_machine.proofs.Finds.{same_itself, sends_push}
use Rattle.txn_machine.proofs.Folds.{ended_mail}
use Rattle.txn_machine.proofs.Orders.{line_length}
use Rattle.txn_machine.proofs.Staying.{own_mail}
use Rattle.txn_machine.proofs.Timing.{told_either}

-- What a call says of what stood right before, it says too where less stood so.

speaks_before : (held later : ℕ → Outcome → Type 0) → ((x : ℕ) (o : Outcome) → held x o → later x o) → (h : List Event) (call : CallOf) (n : ℕ) (o : Outcome) → SpeaksOf later h call n o → SpeaksOf held h call n o
speaks_before held later kept h call n o speaks = λ other s began. speaks other s (kept call.at (outcomes.Ok (Number s)) began)

speaks_so : (held later : ℕ → Outcome → Type 0) → ((x : ℕ) (o : Outcome) → held x o → later x o) → (role : Role) (s : Sight) (h : List Event) (n : ℕ) (o : Outcome) → Speaks role s later h n o → Speaks role s held h n o
speaks_so held later kept MakesClient s h n o speaks = tt
speaks_so held later kept (AsksTime b k) s h n o speaks = tt
speaks_so held later kept (UsesTransaction b x) s h n o speaks = speaks_before held later kept h (record { at = x; commits = b }) n o speaks
speaks_so held later kept NoCall s h n o speaks = speaks_before held later kept h (answered_at n (stand_at s.stands n)) n o speaks

all_speak : (held later : ℕ → Outcome → Type 0) → ((x : ℕ) (o : Outcome) → held x o → later x o) → (role : Role) (s : Sight) (h : List Event) (es : List Ending) → All (λ (e : Ending). Speaks role s later h e.line e.outcome) es → All (λ (e : Ending). Speaks role s held h e.line e.outcome) es
all_speak held later kept role s h es speak = λ k d low. let e = slice_index_or es k d in speaks_so held later kept role s h e.line e.outcome (speak k d low)

-- Nothing has happened.
pub arises_same : (was : List Event → Type 0) (held : List Event → ℕ → Outcome → Type 0) → StillArises was was held held
arises_same was held h w = record { now = w; kept = λ x o k. k; answers = λ k d low. absurd (omega arith); says = λ k d low. absurd (omega arith) }

-- the clients did not do anything of their own
pub still_moved : {S : Type 0} (arises : S → List Event → Type 0) (holds : S → List Event → ℕ → Outcome → Type 0) (from to : S) → to ≡ from → StillArises (arises from) (arises to) (holds from) (holds to)
still_moved {S = S} arises holds from to same = subst (λ (s : S). StillArises (arises from) (arises s) (holds from) (holds s)) (sym same) (arises_same (arises from) (holds from))

module _ (was is : List Event → Type 0) (held holds : List Event → ℕ → Outcome → Type 0) (deed : Deed) (l : Lists) (done : Course) where
  -- Lines in which the clients do no more than to stay as they are, or to fall.

  -- the line does nothing, or what comes from outside
  abbrev Brings : (Ticket → Option Request) → List Event → Type 0
  Brings looks h = (happens looks deed l h ≡ h) ⊎ ((e : Event) × (happens looks deed l h ≡ e ∷ h) × IsOutside e × IsPossible h e)

  pub outside_to : done.turn.posted.items ≡ [] → done.turn.ended.items ≡ [] → StillArises was is held holds → ((h : List Event) (e : Event) → IsOutside e → IsPossible h e → is h → Arises is holds (holds h) itself (e ∷ h) [])
      → ((looks : Ticket → Option Request) (h : List Event) → Knows l looks h → Brings looks h) → RunsTo was is held holds deed l done
  outside_to posted ended still longer comes looks h knows w =
      subst (λ (ps : List Posting). GoesOn is holds (held h) (role_for deed) l.sight (with_postings ps (happens looks deed l h)) done.turn.ended.items) (sym posted)
      (subst (λ (es : List Ending). GoesOn is holds (held h) (role_for deed) l.sight (happens looks deed l h) es) (sym ended)
      (elim (comes looks h knows) [
        | inl same ↦ subst (λ fs. GoesOn is holds (held h) (role_for deed) l.sight fs []) (sym same) (let a = still h w in record { now = a.now; kept = a.kept; answers = λ k d low. absurd (omega arith); says = λ k d low. absurd (omega arith) })
        | inr e ↦ subst (λ fs. GoesOn is holds (held h) (role_for deed) l.sight fs []) (sym e.1)
            (let a = still h w in let b = longer h e.0 e.2 e.3 a.now in record { now = b.now; kept = λ x o k. b.kept x o (a.kept x o k); answers = λ k d low. absurd (omega arith); says = λ k d low. absurd (omega arith) })
      ]))

-- Calls.

module _ (was is : List Event → Type 0) (held holds : List Event → ℕ → Outcome → Type 0) (done : Course) where
  pub called_to : (at : ℕ → CallOf) (turn : Option Turn) → done.turn.posted.items ≡ posted_in turn → done.turn.ended.items ≡ ended_in turn → ArisesOn was is held holds at turn → (h : List Event) → was h → Arises is holds (held h) at (with_postings done.turn.posted.items h) done.turn.ended.items
  called_to at turn posted ended a h w =
      subst (λ (ps : List Posting). Arises is holds (held h) at (with_postings ps h) done.turn.ended.items) (sym posted)
      (subst (λ (es : List Ending). Arises is holds (held h) at (with_postings (posted_in turn) h) es) (sym ended) (by turn a))
    where
      by : (t : Option Turn) → ArisesOn was is held holds at t → Arises is holds (held h) at (with_postings (posted_in t) h) (ended_in t)
      by None b = b h w
      by (Some t) b = b h w

  pub connected_to : (l : Lists) → done.turn.posted.items ≡ [] → StillArises was is held holds → RunsTo was is held holds deeds.Connect l done
  connected_to l posted still looks h knows w =
      subst (λ (ps : List Posting). GoesOn is holds (held h) MakesClient l.sight (with_postings ps h) done.turn.ended.items) (sym posted)
      (let a = still h w in record { now = a.now; kept = a.kept; answers = λ k d low. tt; says = λ k d low. tt })

-- the clients hear of what comes of the request of a ticket, after a history from which they can have arisen too
pub record Comes (was : List Event → Type 0) (held : List Event → ℕ → Outcome → Type 0) (deed : Deed) (l : Lists) (event : Request → Event) (looks : Ticket → Option Request) (h : List Event) : Type 0 where
  pub request : Request
  pub past : List Event
  pub arisen : was past
  pub kept : (x : ℕ) (o : Outcome) → held h x o → held past x o
  pub possible : IsPossible past (event request)
  pub is : happens looks deed l h ≡ event request ∷ past

module _ (was is : List Event → Type 0) (held holds : List Event → ℕ → Outcome → Type 0) (deed : Deed) (l : Lists) where
  -- what the clients make of the one event by which a line is done
  came_so : (done : Course) (h : List Event) (looks : Ticket → Option Request) (e : Event) (past : List Event) → role_for deed ≡ NoCall → happens looks deed l h ≡ e ∷ past → ((x : ℕ) (o : Outcome) → held h x o → held past x o)
      → GoesOn is holds (held past) NoCall l.sight (with_postings done.turn.posted.items (e ∷ past)) done.turn.ended.items → GoesOn is holds (held h) (role_for deed) l.sight (with_postings done.turn.posted.items (happens looks deed l h)) done.turn.ended.items
  came_so done h looks e past role here kept z =
      subst (λ r. GoesOn is holds (held h) r l.sight (with_postings done.turn.posted.items (happens looks deed l h)) done.turn.ended.items) (sym role)
      (subst (λ fs. GoesOn is holds (held h) NoCall l.sight (with_postings done.turn.posted.items fs) done.turn.ended.items) (sym here)
      (record {
        now = z.now;
        kept = λ x o k. z.kept x o (kept x o k);
        answers = z.answers;
        says = all_speak (held h) (held past) kept NoCall l.sight (with_postings done.turn.posted.items (e ∷ past)) done.turn.ended.items z.says;
      }))

  pub hears_to : (event : Request → Event) (r : Result Course NoMemory) → role_for deed ≡ NoCall → ((looks : Ticket → Option Request) (h : List Event) → Knows l looks h → was h → Comes was held deed l event looks h)
      → IfOk r (λ done. ArisesHearing was is held holds l.sight event done.turn) → IfOk r (λ done. RunsTo was is held holds deed l done)
  hears_to event (Ok done) role comes a = λ looks h knows w.
      let b = comes looks h knows w in
      let z = a b.past b.request b.possible b.arisen in
      came_so done h looks (event b.request) b.past role b.is b.kept (record { now = z.now; kept = z.kept; answers = z.answers; says = z.says })
  hears_to event (Err e) role comes a = tt

  -- the same of a turn that the line came to
  pub heard_to : (event : Request → Event) (turn : Turn) (done : Course) → done.turn ≡ turn → role_for deed ≡ NoCall → ((looks : Ticket → Option Request) (h : List Event) → Knows l looks h → was h → Comes was held deed l event looks h)
      → ArisesHearing was is held holds l.sight event turn → RunsTo was is held holds deed l done
  heard_to event turn done same role comes a = hears_to event (Ok done) role comes (subst (λ (t : Turn). ArisesHearing was is held holds l.sight event t) (sym same) a)

  pub woken_to : (t : Ticket) (turn : Turn) (done : Course) → done.turn ≡ turn → role_for deed ≡ NoCall → ((looks : Ticket → Option Request) (h : List Event) → happens looks deed l h ≡ Slept t ∷ h)
      → ArisesAwake was is held holds l.sight t turn → RunsTo was is held holds deed l done
  woken_to t turn done same role here a looks h knows w =
      let z = subst (λ (x : Turn). ArisesAwake was is held holds l.sight t x) (sym same) a h w in
      came_so done h looks (Slept t) h role (here looks h) (λ x o k. k) (record { now = z.now; kept = z.kept; answers = z.answers; says = z.says })

-- What each line does.

-- the store of the history has room as well
room_after : (l : Lists) (looks : Ticket → Option Request) (h : List Event) → Knows l looks h → IsRoomy (store_after h)
room_after l looks h knows = subst (λ (s : Store). IsRoomy s) knows.store knows.room

-- a request that is out, and can be served, is found so
unserved_there : (l : Lists) (t : Ticket) (place : ℕ) → found_out l t ≡ Some place → can_be_served l.mail place ≡ true → found_unserved l.mail t ≡ Some place
unserved_there l t place found can = by (is_live l.sight t.line) found
  where
    by : (b : Bool) → (if b then found_awaited l.mail t else None) ≡ Some place → found_unserved l.mail t ≡ Some place
    by true e =
        ap (λ o. only (can_be_served l.mail) o) (only_there (is_awaited l.mail) (as_sent (place_of l.mail.tickets t)) place e).0
        ∙ ap (λ (b : Bool). if b then Some place else None) can
    by false e = absurd (cc)

module _ (l : Lists) (looks : Ticket → Option Request) (h : List Event) where
  abbrev Outside : Deed → Type 0
  Outside deed = (happens looks deed l h ≡ h) ⊎ ((e : Event) × (happens looks deed l h ≡ e ∷ h) × IsOutside e × IsPossible h e)

  pub serve_comes : (t : Ticket) → Knows l looks h → Outside (deeds.Happens (happenings.Serve t))
  serve_comes t knows = by (found_unserved l.mail t) refl (looks t) refl
    where
      by : (place : Option ℕ) → found_unserved l.mail t ≡ place → (o : Option Request) → looks t ≡ o → ((if test_at (λ k. true) place then serves t o h else h) ≡ h) ⊎ ((e : Event) × ((if test_at (λ k. true) place then serves t o h else h) ≡ e ∷ h) × IsOutside e × IsPossible h e)
      by None f o e = inl refl
      by (Some k) f None e = inl refl
      by (Some k) f (Some r) e = inr (Served t r (table (store_after h) r).reply, refl, tt, (knows.sent t r e, refl, knows.unserved t k f, room_after l looks h knows))

  pub split_comes : (key : List ℕ) → Outside (deeds.Happens (happenings.Split key))
  split_comes key = by (can_split l.store key)
    where
      by : (b : Bool) → ((if b then Split key ∷ h else h) ≡ h) ⊎ ((e : Event) × ((if b then Split key ∷ h else h) ≡ e ∷ h) × IsOutside e × IsPossible h e)
      by false = inl refl
      by true = inr (Split key, refl, tt, tt)

  pub lead_comes : (region store : ℕ) → Outside (deeds.Happens (happenings.Lead region store))
  lead_comes region store = by (can_lead l.store region store)
    where
      by : (b : Bool) → ((if b then Led region store ∷ h else h) ≡ h) ⊎ ((e : Event) × ((if b then Led region store ∷ h else h) ≡ e ∷ h) × IsOutside e × IsPossible h e)
      by false = inl refl
      by true = inr (Led region store, refl, tt, tt)

  pub clock_comes : (ms : ℕ) → Outside (deeds.Happens (happenings.Clock ms))
  clock_comes ms = inr (Clocked ms, refl, tt, tt)

  pub crash_comes : (client : ℕ) → Outside (deeds.Happens (happenings.Crash client))
  crash_comes client = by (is_live l.sight client)
    where
      by : (b : Bool) → ((if b then Crashed client ∷ h else h) ≡ h) ⊎ ((e : Event) × ((if b then Crashed client ∷ h else h) ≡ e ∷ h) × IsOutside e × IsPossible h e)
      by false = inl refl
      by true = inr (Crashed client, refl, tt, tt)

  -- an event that could do nothing
  pub missed : (deed : Deed) → does_it deed l ≡ false → Outside deed
  missed deed cannot = inl (ap (λ (b : Bool). if b then does looks deed h else h) cannot)

  module _ (was : List Event → Type 0) (held : List Event → ℕ → Outcome → Type 0) (knows : Knows l looks h) (w : was h) (t : Ticket) (place : ℕ) (found : found_out l t ≡ Some place) where
    pub answer_comes : (o : Reply) → (letter_at l.mail place).kept ≡ Some o → Comes was held (deeds.Happens (happenings.Answer t)) l (λ r. Took t r o) looks h
    answer_comes o kept =
        let k = knows.kept t place o found kept in
        record {
          request = request_at l place;
          past = h;
          arisen = w;
          kept = λ x o k. k;
          possible = inl k.1;
          is = ap (λ (z : Option ℕ). if test_at (λ j. is_some (letter_at l.mail j).kept) z then takes t (looks t) h else h) found
              ∙ ap (λ (z : Option Reply). if is_some z then takes t (looks t) h else h) kept
              ∙ ap (λ (z : Option Request). takes t z h) (knows.asked t place found)
              ∙ ap (λ (z : Option Reply). takes_it t (request_at l place) z h) k.0;
        }

    pub lose_comes : Comes was held (deeds.Happens (happenings.Lose t)) l (λ r. Lost t r) looks h
    lose_comes = record {
      request = request_at l place;
      past = h;
      arisen = w;
      kept = λ x o k. k;
      possible = knows.sent t (request_at l place) (knows.asked t place found);
      is = ap (λ (z : Option ℕ). if test_at (λ j. true) z then loses t (looks t) h else h) found ∙ ap (λ (z : Option Request). loses t z h) (knows.asked t place found);
    }

    module _ (longer : (h : List Event) (e : Event) → IsOutside e → IsPossible h e → was h → Arises was held (held h) itself (e ∷ h) []) (can : can_be_served l.mail place ≡ true) where
      pub deliver_comes : Comes was held (deeds.Happens (happenings.Deliver t)) l (λ r. Took t r (reply_at l place)) looks h
      deliver_comes =
          let r = request_at l place in
          let o = (table (store_after h) r).reply in
          let given : o ≡ reply_at l place = ap (λ (s : Store). (table s (request_at l place)).reply) (sym knows.store) in
          let here : kept_reply (Served t r o ∷ h) t ≡ Some (reply_at l place) = ap (λ (b : Bool). if b then Some o else kept_reply h t) (same_itself t) ∙ ap (λ z. Some z) given in
          let a = longer h (Served t r o) tt (knows.sent t r (knows.asked t place found), refl, knows.unserved t place (unserved_there l t place found can), room_after l looks h knows) w in
          record {
            request = r;
            past = Served t r o ∷ h;
            arisen = a.now;
            kept = a.kept;
            possible = inl (inl (ap (λ z. Served t r z) given));
            is = ap (λ (z : Option ℕ). if test_at (λ k. can_be_served l.mail k) z then takes t (looks t) (serves t (looks t) h) else h) found
                ∙ ap (λ (b : Bool). if b then takes t (looks t) (serves t (looks t) h) else h) can
                ∙ ap (λ (z : Option Request). takes t z (serves t z h)) (knows.asked t place found)
                ∙ ap (λ (z : Option Reply). takes_it t r z (Served t r o ∷ h)) here;
          }

      pub busy_comes : (o : Reply) → busy_reply (request_at l place) ≡ Some o → Comes was held (deeds.Happens (happenings.Busy t)) l (λ r. Took t r o) looks h
      busy_comes o busy =
          let r = request_at l place in
          let a = longer h (Refused t r o) tt (knows.sent t r (knows.asked t place found), busy, knows.unserved t place (unserved_there l t place found can)) w in
          record {
            request = r;
            past = Refused t r o ∷ h;
            arisen = a.now;
            kept = a.kept;
            possible = inr (inl refl);
            is = ap (λ (z : Option ℕ). if test_at (λ k. can_be_served l.mail k && is_some (busy_reply (request_at l k))) z then refuses t (looks t) h else h) found
                ∙ (λ i. if can i && is_some (busy i) then refuses t (looks t) h else h)
                ∙ ap (λ (z : Option Request). refuses t z h) (knows.asked t place found)
                ∙ ap (λ (z : Option Reply). refuses_it t r z h) busy;
          }

-- the reply that the clients hear is the one that the store gave
pub handled_arises : {S : Type 0} (sight : S → Sight) (arises : S → List Event → Type 0) (holds : S → List Event → ℕ → Outcome → Type 0) (from mid to : S) (u : Ticket) (reply given : Reply) (r : Result Course NoMemory) → mid ≡ from → reply ≡ given
    → IfOk r (λ done. ArisesHearing (arises mid) (arises to) (holds mid) (holds to) (sight mid) (λ q. Took u q reply) done.turn) → IfOk r (λ done. ArisesHearing (arises from) (arises to) (holds from) (holds to) (sight from) (λ q. Took u q given) done.turn)
handled_arises {S = S} sight arises holds from mid to u reply given r same is h =
    subst (λ (o : Reply). IfOk r (λ done. ArisesHearing (arises from) (arises to) (holds from) (holds to) (sight from) (λ q. Took u q o) done.turn)) is
    (subst (λ (s : S). IfOk r (λ done. ArisesHearing (arises s) (arises to) (holds s) (holds to) (sight s) (λ q. Took u q reply) done.turn)) same h)

-- By the lists that the step leaves.

-- what is posted in the step of line `at` is sent there
sends_posted : (at : ℕ) (ps : List Posting) (mail : Mail) (es : List Event) → with_sends (all_posted at ps mail).sent at es ≡ with_postings ps (with_sends mail.sent at es)
sends_posted at [] mail es = refl
sends_posted at (p ∷ ps) mail es = sends_posted at ps (posted_at at p mail) es ∙ ap (λ fs. with_postings ps fs) (one p)
  where
    one : (q : Posting) → with_sends (posted_at at q mail).sent at es ≡ with_posting q (with_sends mail.sent at es)
    one (Send t to r askers) =
        let now : nat_eq at at ≡ true = grind (arith, nat_tests) in
        sends_push mail.sent (record { ticket = t; at = at; to = to; request = r; askers = askers }) at es ∙ ap (λ (b : Bool). if b then Sent t r ∷ with_sends mail.sent at es else with_sends mail.sent at es) now
    one (Sleep t) = refl

-- what stands at a line was told in the step, or stood there before
ended_either : (Right : ℕ → Outcome → Type 0) (es : List Ending) (l : Lists) (n : ℕ) (o : Outcome) → All (λ (e : Ending). Right e.line e.outcome) es → outcome_of (all_ended es l).outcomes n ≡ o → (outcome_of l.outcomes n ≡ o) ⊎ Right n o
ended_either Right [] l n o all is = inl is
ended_either Right (e ∷ es) l n o all is = elim (ended_either Right es (ended_at e.line e.outcome l) n o (λ k d low. all (suc k) d (omega arith)) is) [
  | inl f ↦ elim (told_either l.outcomes e.line n e.outcome) [
    | inl was ↦ inl (sym was ∙ f)
    | inr told ↦ inr (subst (λ k. Right k o) told.0 (subst (λ p. Right e.line p) (sym told.1 ∙ f) (all 0 e (omega arith))))
  ]
  | inr now ↦ inr now
]

-- what comes in a line itself answers no call
own_before : (own : Option Outcome) (l : Lists) (n : ℕ) (o : Outcome) → OwnEnds own → is_answer o ≡ true → outcome_of (with_own own l).outcomes n ≡ o → outcome_of l.outcomes n ≡ o
own_before None l n o ends answers is = is
own_before (Some x) l n o ends answers is = elim (told_either l.outcomes (newest l) n x) [
  | inl was ↦ sym was ∙ is
  | inr told ↦ absurd (let a = sym answers ∙ sym (ap is_answer (sym told.1 ∙ is)) ∙ ends in cc)
]

own_newest : (own : Option Outcome) (l : Lists) → newest (with_own own l) ≡ newest l
own_newest None l = refl
own_newest (Some o) l = line_length l.outcomes (newest l) o

module _ (older l : Lists) (done : Course) (can : CanTell (opened older) done l) where
  abbrev own : Lists
  own = with_own done.outcome l

  abbrev mid : Lists
  mid = with_mail (all_posted (newest own) done.turn.posted.items own.mail) own

  abbrev n : ℕ
  n = newest (opened older)

  count : newest own ≡ n
  count = own_newest done.outcome l ∙ ap (λ os. length os) can.outcomes

  sends_now : (fs : List Event) → AllBefore n (opened older).mail.sent → with_sends (closed done l).mail.sent n fs ≡ with_postings done.turn.posted.items fs
  sends_now fs before =
      ap (λ (x : Mail). with_sends x.sent n fs) (ended_mail done.turn.ended.items mid)
      ∙ ap (λ k. with_sends (all_posted k done.turn.posted.items own.mail).sent n fs) count
      ∙ sends_posted n done.turn.posted.items own.mail fs
      ∙ ap (λ gs. with_postings done.turn.posted.items gs)
      (ap (λ (x : Mail). with_sends x.sent n fs) (own_mail done.outcome l) ∙ ap (λ ss. with_sends ss n fs) can.sent ∙ sends_none (opened older).mail.sent n fs before)

  -- what a line answers was told in the step, or before
  answer_either : (Right : ℕ → Outcome → Type 0) (k : ℕ) (o : Outcome) → is_answer o ≡ true → All (λ (e : Ending). Right e.line e.outcome) done.turn.ended.items → outcome_of (closed done l).outcomes k ≡ o → (outcome_of older.outcomes k ≡ o) ⊎ Right k o
  answer_either Right k o answers all is = elim (ended_either Right done.turn.ended.items mid k o all is) [
    | inl was ↦ inl (sym (outcome_opened older.outcomes k) ∙ ap (λ os. outcome_of os k) (sym can.outcomes) ∙ own_before done.outcome l k o can.own answers was)
    | inr now ↦ inr now
  ]

  arisen_closed : (was is : List Event → Type 0) (held holds : List Event → ℕ → Outcome → Type 0) (deed : Deed) → RunsTo was is held holds deed (opened older) done → Arisen was is held holds deed older (closed done l)
  arisen_closed was is held holds deed runs looks h knows w =
      let r = runs looks h knows w in
      let fs = with_postings done.turn.posted.items (happens looks deed (opened older) h) in
      subst (λ gs. GoesIn is holds (held h) (role_for deed) (opened older).sight gs older (closed done l)) (sym (sends_now (happens looks deed (opened older) h) knows.before)) (record {
        now = r.now;
        kept = r.kept;
        answers = λ k p is. answer_either (λ k o. IsRight (role_for deed) (opened older).sight (holds fs) k o) k (outcomes.Ok p) refl r.answers is;
        says = λ k o answers is. answer_either (λ k o. Speaks (role_for deed) (opened older).sight (held h) fs k o) k o answers r.says is;
      })

-- the parts of a step together
pub arisen_step : {S : Type 0} (arises : S → List Event → Type 0) (holds : S → List Event → ℕ → Outcome → Type 0) (line : Line) (deed : Deed) (older start l new : Lists) (done : Course) (from mid last to : S) → deed ≡ deed_of line → start ≡ opened older → new ≡ closed done l → CanTell start done l
    → StillArises (arises from) (arises mid) (holds from) (holds mid) → RunsTo (arises mid) (arises last) (holds mid) (holds last) deed start done → to ≡ last → Arisen (arises from) (arises to) (holds from) (holds to) (deed_of line) older new
arisen_step arises holds line deed older start l new done from mid last to is a b can still runs same =
    subst (λ d. Arisen (arises from) (arises to) (holds from) (holds to) d older new) is (subst (λ x. Arisen (arises from) (arises to) (holds from) (holds to) deed older x) (sym b) (subst (λ s. Arisen (arises from) (arises s) (holds from) (holds s) deed older (closed done l)) (sym same)
    (arisen_closed older l done (subst (λ x. CanTell x done l) a can) (arises from) (arises last) (holds from) (holds last) deed
    (λ looks h knows w.
    let s = still h w in
    let r = subst (λ x. RunsTo (arises mid) (arises last) (holds mid) (holds last) deed x done) a runs looks h knows s.now in
    record {
      now = r.now;
      kept = λ x o k. r.kept x o (s.kept x o k);
      answers = r.answers;
      says = all_speak (holds from h) (holds mid h) s.kept (role_for deed) (opened older).sight (with_postings done.turn.posted.items (happens looks deed (opened older) h)) done.turn.ended.items r.says;
    }))))
