-- The calls of a beat's plan as calls of the job.
use Rattle.std.proofs.Common.{◌≡◌, ◌⊎◌, inl, inr, ℕ, ◌+◌, ◌-◌, Bool, true, false, List, [], ◌∷◌, ◌++◌, None, append-nil, append_assoc, refl, sym, ap, ◌∙◌, subst, arith}
use Rattle.std.proofs.lemmas.List.Elements.{All-append, All-cons, All-nil}
use Rattle.std.specs.List.{All}
use Rattle.std.specs.Prelude.{OnOk, Result, Ok, Err}
use Rattle.txn_kv.specs.Timestamp.{HasVersion, version_of}
use Rattle.txn_kv.specs.declared.errors.Error.{Error}
use Rattle.txn_kv.specs.declared.memory.NoMemory.{NoMemory}
use Rattle.txn_kv.specs.declared.outbox.Errand.TheVariants.{Send, Sleep, Ask}
use Rattle.txn_kv.specs.declared.request.Request.{Request}
use Rattle.txn_kv.specs.declared.request.Request.TheVariants.{Members, TxnHeartBeat}
use Rattle.txn_kv.specs.declared.request.commits.TxnHeartBeatRequest.{TxnHeartBeatRequest}
use Rattle.txn_core.specs.Status.{is_end}
use Rattle.txn_core.specs.declared.heartbeat.Heartbeat.{Heartbeat}
use Rattle.txn_core.specs.declared.status.Status.{Status}
use Rattle.txn_history.specs.Event.{Event, Has}
use Rattle.txn_history.specs.Event.Event.{Sent}
use Rattle.txn_history.specs.Meaning.{started, Goes, IsLawful, IsSent, Meaning, Tells, Told}
use Rattle.txn_history.specs.Phase.Awaited.{EndOf}
use Rattle.txn_history.specs.Plan.{Key}
use Rattle.txn_history.specs.Posted.{AreNumbered-append, Errand, Licensed, Posted, after, posting, ticket_of}
use Rattle.txn_history.specs.Turn.{IfKept, IfKept-all, IfKept-weaker, Turn}
use Rattle.txn_history.specs.Arrivals.{arrives, awaited_as, told_by}
use Rattle.txn_history.specs.Steps.{begins, Steps}
use Rattle.txn_kv.specs.declared.arrival.Arrival.{Arrival}
use Rattle.txn_kv.specs.declared.arrival.Arrival.TheVariants as arrivals
use Rattle.txn_heartbeat.specs.Beats.{beat_at, Beats, Ended, HasHeard, IsAlive, IsBeatOf, IsBeating, IsErrandOf, IsLookUp, IsPlanForBeats, IsSentAs, SendsBeat, StageLives, StaysAsleep, TellsBeat}
use Rattle.txn_heartbeat.specs.Beats.{GoesOn as JobGoesOn}
use Rattle.txn_heartbeat.specs.declared.heartbeat_job.HeartbeatJob.{HeartbeatJob}
use Rattle.txn_heartbeat.specs.declared.heartbeat_job.Stage.{Stage}
use Rattle.txn_heartbeat.specs.declared.heartbeat_job.Stage.TheVariants as stage
use Rattle.txn_heartbeat.proofs.Own.{IsOwn, own_after, own_heard, own_nothing, sent_or_not}

-- What is posted.

pub beats_nothing : (beat : Heartbeat) {from to : Posted} → to ≡ from → Beats beat from to
beats_nothing beat {from} e = record {
  sends = [];
  pushed = rw e (sym (append-nil from.sends));
  line = ap (λ (o : Posted). o.line) e;
  beat_is = ap (λ (o : Posted). o.beat) e;
  numbered = (ap (λ (o : Posted). o.next) e, ap (λ (o : Posted). o.next_ask) e);
  each = All-nil (IsErrandOf beat);
}

pub beats_then : (beat : Heartbeat) {from via to : Posted} → Beats beat from via → Beats beat via to → Beats beat from to
beats_then beat {from} s t = record {
  sends = s.sends ++ t.sends;
  pushed = t.pushed ∙ ap (λ x. x ++ t.sends) s.pushed ∙ append_assoc from.sends s.sends t.sends;
  line = t.line ∙ s.line;
  beat_is = t.beat_is ∙ s.beat_is;
  numbered = AreNumbered-append _ _ _ _ _ _ s.sends t.sends s.numbered t.numbered;
  each = All-append (IsErrandOf beat) s.sends t.sends s.each t.each;
}

each_of : (beat : Heartbeat) (may : List Event → Request → Type 0)
    → ((h : List Event) (r : Request) → may h r → IsBeatOf beat.primary (version_of beat.start) r ⊎ IsLookUp r)
    → (line : ℕ) (turned : Bool) (h : List Event) (rs : List Errand) → Licensed may line turned h rs → All (IsErrandOf beat) rs
each_of beat may w line turned h [] l = All-nil (IsErrandOf beat)
each_of beat may w line turned h (Send n to r ∷ rs) l = All-cons (IsErrandOf beat) (Send n to r) rs (w h r l.0) (each_of beat may w line turned (posting line turned (Send n to r) ∷ h) rs l.1)
each_of beat may w line turned h (Sleep n ms ∷ rs) l = All-cons (IsErrandOf beat) (Sleep n ms) rs tt (each_of beat may w line turned (posting line turned (Sleep n ms) ∷ h) rs l.1)
each_of beat may w line turned h (Ask n ∷ rs) l = All-cons (IsErrandOf beat) (Ask n) rs tt (each_of beat may w line turned (posting line turned (Ask n) ∷ h) rs l.1)

module _ {S A : Type 0} where
  -- what a call leaves: its errands, and a plan that lives on
  pub record LivesOn (m : Meaning S (Result A Error)) (beat : Heartbeat) (p : S) (from to : Posted) (turn : Turn (Result A Error)) : Type 0 where
    pub beats : Beats beat from to
    pub lives : IfKept turn (IsBeating m beat.primary (version_of beat.start) p to)

  -- a call that tells the plan something, which is known of its own history
  meant : (m : Meaning S (Result A Error)) (beat : Heartbeat) (told : Told) (p p' : S) (o o' : Posted) (turn : Turn (Result A Error))
      → ((h : List Event) → IsOwn o.line o.beat o.next h → IsOwn o.line o.beat o.next (told.hear h))
      → (b : IsBeating m beat.primary (version_of beat.start) p o) → told.known b.history
      → Tells m told p p' o o' turn → m.ready p' → LivesOn m beat p' o o' turn
  meant m beat told p p' o o' turn hears b known t ready = record {
    beats = record {
      sends = t.moves.sends;
      pushed = t.moves.pushed;
      line = t.moves.line;
      beat_is = t.moves.beat;
      numbered = t.moves.numbered;
      each = each_of beat (m.asks p) b.asks o.line o.beat (told.hear b.history) t.moves.sends (t.moves.licensed b.history (b.fits, known));
    };
    lives = IfKept-weaker turn (λ still. record {
      history = _;
      fits = still b.history (b.fits, known);
      alone = own.alone;
      below = λ t' r i l x. own.below t' r i (l ∙ t.moves.line) (x ∙ t.moves.beat);
      asks = λ h r a. b.asks h r (t.job.asked h r a);
      ready = ready;
    }) t.moves.still;
  }
    where
      own : IsOwn o.line o.beat o'.next (after o.line o.beat (told.hear b.history) t.moves.sends)
      own = own_after o.line o.beat o.next o.next_ask o'.next o'.next_ask t.moves.sends (told.hear b.history) t.moves.numbered (hears b.history (record { alone = b.alone; below = b.below }))

  -- a call that is not meant for it changes nothing
  unmeant : {C : Type 0} (m : Meaning S (Result A Error)) (beat : Heartbeat) (a : Type 0) (p p' : S) (o o' : Posted) (pd pd' : C) (turn : Turn (Result A Error))
      → IsBeating m beat.primary (version_of beat.start) p o → (a → ⊥)
      → Goes m.phase a p p' o o' pd pd' turn → LivesOn m beat p' o o' turn
  unmeant m beat a p p' o o' pd pd' turn b other g = record {
    beats = beats_nothing beat (g.outbox other);
    lives = IfKept-all turn (rw (g.state other, g.outbox other) b);
  }

  -- Either something is known of the request that was sent under the number, or the plan does not wait for it.
  known_or_not : (m : Meaning S (Result A Error)) → IsLawful m → (a : Arrival) (primary : Key) (start : ℕ) (p : S) (o : Posted) (b : IsBeating m primary start p o)
      → ((r : Request) × (told_by a o r).known b.history) ⊎ (m.waits p (awaited_as a) → ⊥)
  known_or_not m law (arrivals.Reply n x) primary start p o b = by (sent_or_not b.history (ticket_of o n))
    where
      by : ((r : Request) × Has b.history (Sent (ticket_of o n) r)) ⊎ ((r : Request) → Has b.history (Sent (ticket_of o n) r) → ⊥)
          → ((r : Request) × IsSent (ticket_of o n) r b.history) ⊎ (m.waits p (awaited_as (arrivals.Reply n x)) → ⊥)
      by (inl (r, i)) = inl (r, record { sent = i; alone = λ q j. b.alone (ticket_of o n) r q i j })
      by (inr never) = inr (λ w. let sent = law.posted p o b.history _ b.fits w in never sent.0 sent.1)
  known_or_not m law (arrivals.Lost n) primary start p o b = by (sent_or_not b.history (ticket_of o n))
    where
      by : ((r : Request) × Has b.history (Sent (ticket_of o n) r)) ⊎ ((r : Request) → Has b.history (Sent (ticket_of o n) r) → ⊥)
          → ((r : Request) × IsSent (ticket_of o n) r b.history) ⊎ (m.waits p (awaited_as (arrivals.Lost n)) → ⊥)
      by (inl (r, i)) = inl (r, record { sent = i; alone = λ q j. b.alone (ticket_of o n) r q i j })
      by (inr never) = inr (λ w. let sent = law.posted p o b.history _ b.fits w in never sent.0 sent.1)
  known_or_not m law (arrivals.Slept n) primary start p o b = inl (Members (record {}), tt)
  known_or_not m law (arrivals.Time n x) primary start p o b = inl (Members (record {}), tt)

  pub told_on : {C : Type 0} (m : Meaning S (Result A Error)) (beat : Heartbeat) (a : Arrival) (p p' : S) (o o' : Posted) (pd pd' : C) (turn : Turn (Result A Error))
      → IsLawful m → IsBeating m beat.primary (version_of beat.start) p o
      → {touches : Told → Posted → S → S → C → C → Type 0} → Steps m touches (arrives a o) p p' o o' pd pd' turn
      → LivesOn m beat p' o o' turn
  unfolding arrives
  told_on m beat a p p' o o' pd pd' turn law b s = by (known_or_not m law a beat.primary (version_of beat.start) p o b)
    where
      by : ((r : Request) × (told_by a o r).known b.history) ⊎ (m.waits p (awaited_as a) → ⊥) → LivesOn m beat p' o o' turn
      by (inl (r, known)) = meant m beat (told_by a o r) p p' o o' turn (λ h k. own_heard a o r o.line o.beat o.next h k) b known (s.tells r) s.ready
      by (inr other) = unmeant m beat (m.waits p (awaited_as a)) p p' o o' pd pd' turn b other s.goes

  -- a plan that is started
  pub started_on : {C : Type 0} (m : Meaning S (Result A Error)) (beat : Heartbeat) (now : ℕ) (p p' : S) (o o' : Posted) (pd pd' : C) (turn : Turn (Result A Error))
      → IsPlanForBeats m (beat_at beat now) p → {touches : Told → Posted → S → S → C → C → Type 0} → Steps m touches begins p p' o o' pd pd' turn → LivesOn m beat p' o o' turn
  unfolding begins
  started_on m beat now p p' o o' pd pd' turn is s = meant m beat started p p' o o' turn (λ h k. k) begun tt (s.tells (Members (record {}))) s.ready
    where
      sent : (r : Request) → IsSentAs (beat_at beat now) r ⊎ IsLookUp r → IsBeatOf beat.primary (version_of beat.start) r ⊎ IsLookUp r
      sent (TxnHeartBeat q) (inl i) = inl (
        ap (λ (x : TxnHeartBeatRequest). x.primary_lock) i,
        ap (λ (x : TxnHeartBeatRequest). x.start_version) i,
        (let same : q.advise_lock_ttl ≡ 20_000 + (now - beat.began) = ap (λ (x : TxnHeartBeatRequest). x.advise_lock_ttl) i in omega (arith, same)),
      )
      sent r (inl i) = absurd i
      sent r (inr l) = inr l

      nothing : IsOwn o.line o.beat o.next []
      nothing = own_nothing o.line o.beat o.next

      begun : IsBeating m beat.primary (version_of beat.start) p o
      begun = record {
        history = [];
        fits = is.unbegun.fits o [];
        alone = nothing.alone;
        below = nothing.below;
        asks = λ h r a. sent r (is.asks h r a);
        ready = is.ready;
      }

pub is_beat : (beat : Heartbeat) (now ttl : ℕ) (primary : Key) (request : TxnHeartBeatRequest) → request ≡ record { context = None; primary_lock = primary; start_version = version_of beat.start; advise_lock_ttl = ttl }
    → primary ≡ beat.primary → ttl ≡ 20_000 + (now - beat.began) → request ≡ beat_at beat now
is_beat beat now ttl primary request e f g = e ∙ rw (f, g) refl

-- The job.

pub alive_beating : {S A : Type 0} (m : Meaning S (Result A Error)) (job : HeartbeatJob S) (p : S) (o : Posted) → job.stage ≡ stage.Beating p → IsAlive m job o → IsBeating m job.heartbeat.primary (version_of job.heartbeat.start) p o
alive_beating m job p o e a = subst (λ g. StageLives m job.heartbeat.primary (version_of job.heartbeat.start) g o) e a.stage

-- and goes on after a call of its plan
pub alive_on : {S A : Type 0} (m : Meaning S (Result A Error)) (job : HeartbeatJob S) (beat : Heartbeat) (p : S) {from : Posted} (to : Posted) (turn : Turn (Result A Error)) → job.heartbeat ≡ beat → job.stage ≡ stage.Beating p → HasVersion beat.start → LivesOn m beat p from to turn → IfKept turn (IsAlive m job to)
alive_on m job beat p to turn same at version goes = IfKept-weaker turn (λ b. record { start = subst (λ (x : Heartbeat). HasVersion x.start) (sym same) version; stage = rw (at, same) b }) goes.lives

pub beats_on : {X : Type 0} (r : Result X NoMemory) (beat : Heartbeat) {from via : Posted} (to : Posted) → Beats beat from via → OnOk r (Beats beat via to) → OnOk r (Beats beat from to)
beats_on (Ok v) beat to s t = beats_then beat s t
beats_on (Err e) beat to s t = tt

pub sends_beat : {S A C X : Type 0} (m : Meaning S (Result A Error)) (now : ℕ) (old new : HeartbeatJob S) (fresh plan : S) (from via to : Posted) (pd pd' : C) (inner : Turn (Result A Error)) (r : Result X NoMemory) (turn : Turn (Result (Unit {0}) Error))
    → IsPlanForBeats m (beat_at old.heartbeat now) fresh → {touches : Told → Posted → S → S → C → C → Type 0} → Steps m touches begins fresh plan from via pd pd' inner → OnOk r (JobGoesOn inner (record old { stage = stage.Beating plan }) new via to turn)
    → OnOk r (SendsBeat m now old new from to turn)
unfolding begins
sends_beat m now old new fresh plan from via to pd pd' inner (Ok v) turn is s g = record { fresh = fresh; is = is; plan = plan; via = via; inner = inner; tells = s.tells (Members (record {})); goes = g }
sends_beat m now old new fresh plan from via to pd pd' inner (Err e) turn is s g = tt

pub tells_beat : {S A C X : Type 0} (m : Meaning S (Result A Error)) (arrival : Arrival) (p : S) (old new : HeartbeatJob S) (plan : S) (from via to : Posted) (pd pd' : C) (inner : Turn (Result A Error)) (r : Result X NoMemory) (turn : Turn (Result (Unit {0}) Error))
    → {touches : Told → Posted → S → S → C → C → Type 0} → Steps m touches (arrives arrival from) p plan from via pd pd' inner
    → OnOk r (JobGoesOn inner (record old { stage = stage.Beating plan }) new via to turn)
    → OnOk r (TellsBeat m arrival p old new from to turn)
unfolding arrives
tells_beat m arrival p old new plan from via to pd pd' inner (Ok v) turn s g = record { plan = plan; via = via; inner = inner; tells = s.tells; deaf = λ other. (s.goes.deaf other, s.goes.state other, s.goes.outbox other); goes = g }
tells_beat m arrival p old new plan from via to pd pd' inner (Err e) turn s g = tt

-- what is said of its plan is said of it under any name
pub of_its_plan : {S : Type 0} (P : S → Type 0) (g : Stage S) (p q : S) → g ≡ stage.Beating p → g ≡ stage.Beating q → P p → P q
of_its_plan P g p q e f h = subst P (same (sym e ∙ f)) h
  where
    same : stage.Beating p ≡ stage.Beating q → p ≡ q
    same d = cc

-- what each clause says of a job that was told of something, as one
pub has_heard : {S A X : Type 0} (m : Meaning S (Result A Error)) (arrival : Arrival) (status : Status) (now : ℕ) (old new : HeartbeatJob S) (from to : Posted) (turn : Turn (Result (Unit {0}) Error)) (r : Result X NoMemory)
    → ((n : ℕ) → old.stage ≡ stage.Sleeping n → (awaited_as arrival ≡ EndOf n → ⊥) → StaysAsleep old new from to turn)
    → ((n : ℕ) → old.stage ≡ stage.Sleeping n → awaited_as arrival ≡ EndOf n → is_end status ≡ true → Ended new from to turn)
    → ((n : ℕ) → old.stage ≡ stage.Sleeping n → awaited_as arrival ≡ EndOf n → is_end status ≡ false → OnOk r (SendsBeat m now old new from to turn))
    → ((p : S) → old.stage ≡ stage.Beating p → OnOk r (TellsBeat m arrival p old new from to turn))
    → (old.stage ≡ stage.Over → StaysAsleep old new from to turn)
    → OnOk r (HasHeard m arrival status now old new from to turn)
has_heard m arrival status now old new from to turn (Ok v) asleep ends wakes tells over = record { asleep = asleep; ends = ends; wakes = wakes; tells = tells; over = over }
has_heard m arrival status now old new from to turn (Err e) asleep ends wakes tells over = tt
