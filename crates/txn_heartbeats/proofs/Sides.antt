-- Steps of clients and their heartbeats as a machine sees them.
use Rattle.std.proofs.Common.{◌≡◌, ℕ, ◌+◌, ◌-◌, ◌≤◌, Bool, true, false, List, [], ◌∷◌, ◌++◌, length, map, set, Option, Some, None, sym, ap, ◌∙◌, subst}
use Rattle.std.proofs.lemmas.List.{length-append, length-map, length-set, map-append}
use Rattle.std.proofs.lemmas.List.Elements.{All-nil}
use Rattle.std.specs.List.{All}
use Rattle.std.specs.Prelude.{OnOk, Ok, Err, Result}
use Rattle.txn_heartbeat.specs.Beats.{IsAlive}
use Rattle.txn_heartbeat.specs.Hosting.{StaysSo}
use Rattle.txn_heartbeat.specs.declared.heartbeat_job.HeartbeatJob.{HeartbeatJob}
use Rattle.txn_history.specs.Event.{Event}
use Rattle.txn_history.specs.Event.Event.{Lost, Sent, Slept, Took}
use Rattle.txn_history.specs.Meaning.{Meaning}
use Rattle.txn_kv.specs.declared.errors.Error.{Error}
use Rattle.txn_kv.specs.declared.request.Request.{Request}
use Rattle.txn_kv.specs.declared.ticket.Ticket.{Ticket}
use Rattle.txn_law.specs.Run.{IsPossible}
use Rattle.txn_report.specs.declared.outcome.Outcome.{Outcome}
use Rattle.txn_side.specs.Account.{Account}
use Rattle.txn_side.specs.Arising.{Arises, ArisesOn, IsBeat, IsOutside, answered_at, with_postings}
use Rattle.txn_side.specs.Doubt.{CallOf, itself}
use Rattle.txn_side.specs.Saying.{SpeaksOf}
use Rattle.txn_side.specs.Sight.{Acts, Asks, Goes, Sight, commits, is_live, line_count, opened, stand_at, with_stand}
use Rattle.txn_side.specs.Sight.Stand.{Asking, Calling, HasBegun, Idle}
use Rattle.txn_side.specs.Steps.{ArisesAfter}
use Rattle.txn_side.specs.Trace.{Trace, ended_in}
use Rattle.txn_side.specs.Waiting.{Awaited, posted_in}
use Rattle.txn_lines.specs.declared.act.Act.{Act}
use Rattle.txn_side.specs.declared.coming.Coming.{Coming}
use Rattle.txn_side.specs.declared.coming.Coming.TheVariants as coming
use Rattle.txn_side.specs.declared.turn.Ending.{Ending}
use Rattle.txn_side.specs.declared.turn.Posting.{Posting}
use Rattle.txn_side.specs.declared.turn.Turn.{Turn}
use Rattle.txn_heartbeats.specs.Beating.{AreBeats, AreFresh, IsLine, PostsBeats, with_beats}
use Rattle.txn_heartbeats.specs.Hearts.{ArisesIn, AreAlive, IsReady, IsUnbeaten, beats_of, jobs_of, outbox_at, sight_of}
use Rattle.txn_heartbeats.specs.Standing.{fresh_outside}
use Rattle.txn_heartbeats.specs.declared.heartbeats.Heartbeats.{Heartbeats}
use Rattle.txn_heartbeats.specs.declared.pulse.Pulse.{Pulse}
use Rattle.txn_heartbeats.proofs.Happening.{arises_then, beats_arise, fresh_calls}
use Rattle.txn_heartbeats.proofs.Living.{alive_opened, alive_set, alive_taken}
use Rattle.txn_heartbeats.proofs.Numbers.{AreCalls, unused_so}
use Rattle.txn_heartbeats.proofs.Seen.{acts_beside, acts_then_beats, goes_beating, goes_calls}

-- four facts of what went well give a fifth
pub ok_four : {T E A B C D F : Type 0} (r : Result T E) → (A → B → C → D → F) → OnOk r A → OnOk r B → OnOk r C → OnOk r D → OnOk r F
ok_four (Ok v) f a b c d = f a b c d
ok_four (Err e) f a b c d = tt

-- What the calls post

pub asks_calls : (begins : Bool) (client : ℕ) (s t : Sight) (turn : Option Turn) → IsUnbeaten s → IsUnbeaten t → Asks begins client s t turn → AreCalls (posted_in turn)
asks_calls begins client s t None u v a = tt
asks_calls begins client s t (Some turn) u v a = goes_calls (with_stand (line_count s) (Asking a.0 begins) s) t turn.posted.items turn.ended.items (unused_so s.nexts u) (unused_so t.nexts v) a.3

pub acts_calls : (act : Act) (x : ℕ) (s t : Sight) (turn : Option Turn) → IsUnbeaten s → IsUnbeaten t → Acts act x s t turn → AreCalls (posted_in turn)
acts_calls act x s t None u v a = tt
acts_calls act x s t (Some turn) u v a =
    goes_calls (with_stand (line_count s) (Calling a.0 x (commits act)) (with_stand x (HasBegun a.0 (line_count s)) s)) t turn.posted.items turn.ended.items (unused_so s.nexts u) (unused_so t.nexts v) a.3

-- They may be called

-- a line more has the numbers of a heartbeat
pub opened_beats : {S H : Type 0} (old new : Heartbeats S H) (p : Pulse H) → new.pulses.items ≡ old.pulses.items ++ p ∷ [] → p.next ≡ 1 → beats_of new ≡ beats_of old ++ 1 ∷ []
opened_beats {S} {H} old new p pushed next = ap (map (λ (q : Pulse H). q.next)) pushed ∙ map-append (λ (q : Pulse H). q.next) old.pulses.items (p ∷ []) ∙ ap (λ n. beats_of old ++ n ∷ []) next

module _ {S H A : Type 0} (ready : S → Type 0) (sight : S → Sight) (m : Meaning H (Result A Error)) where
  pub opened_ready : (old new : Heartbeats S H) (p : Pulse H) → new.pulses.items ≡ old.pulses.items ++ p ∷ [] → p.next ≡ 1 → p.job ≡ None → sight new.side ≡ opened (sight old.side) → ready new.side → IsUnbeaten (sight new.side) → IsReady ready sight m old → IsReady ready sight m new
  opened_ready old new p pushed next none seen side unbeaten r = record {
    side = side;
    unbeaten = unbeaten;
    even = ap length beats ∙ length-append (beats_of old) (1 ∷ []) ∙ ap (λ n. n + 1) r.even ∙ sym (length-append (sight old.side).stands (Idle ∷ [])) ∙ ap line_count (sym seen);
    alive = subst (λ bs. AreAlive m bs (jobs_of new)) (sym beats) (subst (AreAlive m (beats_of old ++ 1 ∷ [])) (sym jobs) (alive_opened m (beats_of old) (jobs_of old) long r.alive));
  }
    where
      beats : beats_of new ≡ beats_of old ++ 1 ∷ []
      beats = opened_beats old new p pushed next

      jobs : jobs_of new ≡ jobs_of old ++ None ∷ []
      jobs = ap (map (λ (q : Pulse H). q.job)) pushed ∙ map-append (λ (q : Pulse H). q.job) old.pulses.items (p ∷ []) ∙ ap (λ (o : Option (HeartbeatJob H)). jobs_of old ++ o ∷ []) none

      long : length (jobs_of old) ≡ length (beats_of old)
      long = length-map old.pulses.items (λ (q : Pulse H). q.job) ∙ sym (length-map old.pulses.items (λ (q : Pulse H). q.next))

  -- the heartbeat of a line has posted so much, and its job stands so
  pub beaten_ready : (old new : Heartbeats S H) (line next : ℕ) (job : HeartbeatJob H) → IsLine (beats_of old) line → beats_of new ≡ set (beats_of old) (line - 1) next → jobs_of new ≡ set (jobs_of old) (line - 1) (Some job)
      → sight new.side ≡ sight old.side → ready new.side → IsAlive m job (outbox_at line next) → IsReady ready sight m old → IsReady ready sight m new
  beaten_ready old new line next job own beats jobs seen side alive r = record {
    side = side;
    unbeaten = subst IsUnbeaten (sym seen) r.unbeaten;
    even = ap length beats ∙ length-set (beats_of old) (line - 1) next ∙ r.even ∙ ap line_count (sym seen);
    alive = subst (λ bs. AreAlive m bs (jobs_of new)) (sym beats) (subst (AreAlive m (set (beats_of old) (line - 1) next)) (sym jobs) (alive_set m (beats_of old) (jobs_of old) line next job own long r.alive alive));
  }
    where
      long : length (jobs_of old) ≡ length (beats_of old)
      long = length-map old.pulses.items (λ (q : Pulse H). q.job) ∙ sym (length-map old.pulses.items (λ (q : Pulse H). q.next))

  -- the job of a line's heartbeat was taken out
  pub taken_ready : (old new : Heartbeats S H) (line : ℕ) → IsLine (beats_of old) line → beats_of new ≡ beats_of old → jobs_of new ≡ set (jobs_of old) (line - 1) None → new.side ≡ old.side → IsReady ready sight m old → IsReady ready sight m new
  taken_ready old new line own beats jobs same r = record {
    side = subst ready (sym same) r.side;
    unbeaten = subst (λ s. IsUnbeaten (sight s)) (sym same) r.unbeaten;
    even = ap length beats ∙ r.even ∙ ap (λ s. line_count (sight s)) (sym same);
    alive = subst (λ bs. AreAlive m bs (jobs_of new)) (sym beats) (subst (AreAlive m (beats_of old)) (sym jobs) (alive_taken m (beats_of old) (jobs_of old) line own long r.alive));
  }
    where
      long : length (jobs_of old) ≡ length (beats_of old)
      long = length-map old.pulses.items (λ (q : Pulse H). q.job) ∙ sym (length-map old.pulses.items (λ (q : Pulse H). q.next))

-- What is seen

module _ {S H : Type 0} (sight : S → Sight) where
  -- a commit has started a heartbeat
  pub acts_started : (act : Act) (x line : ℕ) (old new : Heartbeats S H) (mid : S) (turn later : Turn) → line ≡ line_count (sight old.side) → 1 ≤ line_count (sight old.side) → IsUnbeaten (sight old.side) → IsUnbeaten (sight mid) → new.side ≡ mid → later.ended ≡ turn.ended
      → PostsBeats line (beats_of old) turn.posted.items later.posted.items (beats_of new) → Acts act x (sight old.side) (sight mid) (Some turn) → Acts act x (sight_of sight old) (sight_of sight new) (Some later)
  acts_started act x line old new mid turn later here one u v side ended p a =
      subst (λ (s : S). Acts act x (sight_of sight old) (with_beats (beats_of new) (sight s)) (Some later)) (sym side)
      (acts_then_beats act x (sight_of sight old) (sight mid) (beats_of old) (beats_of new) turn later p.posted one p.pushed ended (subst (λ n. AreBeats n (beats_of old) p.posted (beats_of new)) here p.beats)
      (acts_beside (beats_of old) act x (sight old.side) (sight mid) (Some turn) (unused_so (sight old.side).nexts u) (unused_so (sight mid).nexts v) a))

  -- what came was told to a heartbeat
  pub told_goes : (line : ℕ) (old new : Heartbeats S H) (turn : Turn) → sight new.side ≡ sight old.side → turn.ended.items ≡ [] → AreBeats line (beats_of old) turn.posted.items (beats_of new) → (is_live (sight old.side) line ≡ false → turn.posted.items ≡ [])
      → Goes turn.posted.items turn.ended.items (sight_of sight old) (sight_of sight new)
  told_goes line old new turn seen ended beats dead =
      subst (λ es. Goes turn.posted.items es (sight_of sight old) (sight_of sight new)) (sym ended)
      (subst (λ s. Goes turn.posted.items [] (sight_of sight old) (with_beats (beats_of new) s)) (sym seen) (goes_beating line (sight old.side) (beats_of old) (beats_of new) turn.posted.items beats dead))

-- What happened

module _ {S H : Type 0} (arises : S → List Event → Type 0) (holds : S → List Event → ℕ → Outcome → Type 0) (old new : Heartbeats S H) where
  -- calls alone have posted
  module _ (same : beats_of new ≡ beats_of old) where
    posted_beside : (held : ℕ → Outcome → Type 0) (at : ℕ → CallOf) (ps : List Posting) (es : List Ending) (h : List Event) → AreCalls ps → AreFresh (beats_of old) h → Arises (arises new.side) (holds new.side) held at (with_postings ps h) es
        → Arises (ArisesIn arises new) (holds new.side) held at (with_postings ps h) es
    posted_beside held at ps es h calls fresh r = record {
      now = record { side = r.now; fresh = fresh_calls (beats_of new) ps h calls (subst (λ bs. AreFresh bs h) (sym same) fresh) };
      kept = r.kept;
      answers = r.answers;
      says = r.says;
    }

    pub on_beside : (at : ℕ → CallOf) (turn : Option Turn) → AreCalls (posted_in turn) → ArisesOn (arises old.side) (arises new.side) (holds old.side) (holds new.side) at turn → ArisesOn (ArisesIn arises old) (ArisesIn arises new) (holds old.side) (holds new.side) at turn
    on_beside at turn calls on h a = posted_beside (holds old.side h) at (posted_in turn) (ended_in turn) h calls a.fresh (on h a.side)

    -- after this came for a call
    pub after_beside : (s : Sight) (t : Ticket) (what : Coming) (turn : Turn) → AreCalls turn.posted.items → ArisesAfter (arises old.side) (arises new.side) (holds old.side) (holds new.side) s t what turn
        → ArisesAfter (ArisesIn arises old) (ArisesIn arises new) (holds old.side) (holds new.side) (with_beats (beats_of old) s) t what turn
    after_beside s t what turn calls = by what
      where
        at : ℕ → CallOf
        at n = answered_at n (stand_at s.stands n)

        came : (h : List Event) (e : Event) → IsOutside e → AreFresh (beats_of old) h → Arises (arises new.side) (holds new.side) (holds old.side h) at (with_postings turn.posted.items (e ∷ h)) turn.ended.items
            → Arises (ArisesIn arises new) (holds new.side) (holds old.side h) at (with_postings turn.posted.items (e ∷ h)) turn.ended.items
        came h e outside fresh = posted_beside (holds old.side h) at turn.posted.items turn.ended.items (e ∷ h) calls (fresh_outside (beats_of old) h e outside fresh)

        by : (w : Coming) → ArisesAfter (arises old.side) (arises new.side) (holds old.side) (holds new.side) s t w turn → ArisesAfter (ArisesIn arises old) (ArisesIn arises new) (holds old.side) (holds new.side) (with_beats (beats_of old) s) t w turn
        by (coming.Reply o) after = λ h r may a. came h (Took t r o) tt a.fresh (after h r may a.side)
        by coming.Lost after = λ h r may a. came h (Lost t r) tt a.fresh (after h r may a.side)
        by coming.Slept after = λ h a. came h (Slept t) tt a.fresh (after h a.side)

  module _ (beating : (s : S) (h : List Event) (t : Ticket) (r : Request) → t.beat ≡ true → IsBeat r → IsPossible h (Sent t r) → arises s h → Arises (arises s) (holds s) (holds s h) itself (Sent t r ∷ h) []) where
    -- a heartbeat has started after what a call did
    pub on_started : (mid : S) (line : ℕ) (at : ℕ → CallOf) (turn later : Turn) → AreCalls turn.posted.items → new.side ≡ mid → later.ended ≡ turn.ended → PostsBeats line (beats_of old) turn.posted.items later.posted.items (beats_of new)
        → ArisesOn (arises old.side) (arises mid) (holds old.side) (holds mid) at (Some turn) → ArisesOn (ArisesIn arises old) (ArisesIn arises new) (holds old.side) (holds new.side) at (Some later)
    on_started mid line at turn later calls side ended p on h a =
        let first = on h a.side in
        let then = arises_then (arises mid) (holds mid) (beating mid) line (beats_of old) (beats_of new) turn.posted.items p.posted turn.ended.items (holds old.side h) at h p.beats (fresh_calls (beats_of old) turn.posted.items h calls a.fresh) first in
        subst (λ ps. Arises (ArisesIn arises new) (holds new.side) (holds old.side h) at (with_postings ps h) later.ended.items) (sym p.pushed)
        (subst (λ v. Arises (ArisesIn arises new) (holds new.side) (holds old.side h) at (with_postings (turn.posted.items ++ p.posted) h) v.items) (sym ended) (record {
          now = record { side = subst (λ s. arises s (with_postings (turn.posted.items ++ p.posted) h)) (sym side) then.now.0; fresh = then.now.1 };
          kept = λ x o k. subst (λ s. holds s (with_postings (turn.posted.items ++ p.posted) h) x o) (sym side) (then.kept x o k);
          answers = subst (λ s. All (λ e. holds s (with_postings (turn.posted.items ++ p.posted) h) (at e.line).at e.outcome) turn.ended.items) (sym side) then.answers;
          says = then.says;
        }))

    module _ (longer : (s : S) (h : List Event) (e : Event) → IsOutside e → IsPossible h e → arises s h → Arises (arises s) (holds s) (holds s h) itself (e ∷ h) []) where
      -- a heartbeat has heard of something
      module _ (sight : S → Sight) (waits : S → ℕ → Awaited → Type 0) (account : S → ℕ → Account) (rests : S → Trace → Type 0) (line : ℕ) (turn : Turn) (stays : StaysSo sight waits account rests arises holds old.side new.side)
          (ended : turn.ended.items ≡ []) (beats : AreBeats line (beats_of old) turn.posted.items (beats_of new)) where
        told_arises : (at : ℕ → CallOf) (h : List Event) (e : Event) → IsOutside e → IsPossible h e → ArisesIn arises old h → Arises (ArisesIn arises new) (holds new.side) (holds old.side h) at (with_postings turn.posted.items (e ∷ h)) turn.ended.items
        told_arises at h e outside may a =
            let heard = longer old.side h e outside may a.side in
            let lent = stays.arises_so (e ∷ h) heard.now in
            let more = beats_arise (arises new.side) (holds new.side) (beating new.side) line (beats_of old) (beats_of new) turn.posted.items (e ∷ h) beats lent.now (fresh_outside (beats_of old) h e outside a.fresh) in
            subst (Arises (ArisesIn arises new) (holds new.side) (holds old.side h) at (with_postings turn.posted.items (e ∷ h))) (sym ended) (record {
              now = record { side = more.now; fresh = more.fresh };
              kept = λ x o k. more.kept x o (lent.kept x o (heard.kept x o k));
              answers = All-nil _;
              says = All-nil (λ (d : Ending). SpeaksOf (holds old.side h) (with_postings turn.posted.items (e ∷ h)) (at d.line) d.line d.outcome);
            })

        pub told_after : (s : Sight) (t : Ticket) (what : Coming) → ArisesAfter (ArisesIn arises old) (ArisesIn arises new) (holds old.side) (holds new.side) s t what turn
        told_after s t (coming.Reply o) = λ h r may a. told_arises (λ n. answered_at n (stand_at s.stands n)) h (Took t r o) tt may a
        told_after s t coming.Lost = λ h r may a. told_arises (λ n. answered_at n (stand_at s.stands n)) h (Lost t r) tt may a
        told_after s t coming.Slept = λ h a. told_arises (λ n. answered_at n (stand_at s.stands n)) h (Slept t) tt tt a
