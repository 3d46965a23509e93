-- Where a commit or a rollback stands as its plans go on, and what it waits for.
use Rattle.std.proofs.Common.{◌≡◌, ◌≢◌, ◌⊎◌, inl, inr, ℕ, Bool, true, false, List, [], ◌∷◌, refl, sym, ap, subst, ◌∙◌, arith, drop, length}
use Rattle.std.specs.Prelude.{⊤, ◌<◌, ◌||◌, Result, cond, if◌then◌else◌, not}
use Rattle.std.proofs.Math.Seq.{drop-length}
use Rattle.std.specs.List.{list_any}
use Rattle.txn_kv.specs.Timestamp.{version_of}
use Rattle.txn_kv.specs.declared.errors.Error.{Error}
use Rattle.txn_kv.specs.declared.outbox.Errand.TheVariants.{Ask}
use Rattle.txn_kv.specs.declared.request.Request.{Request}
use Rattle.txn_kv.specs.declared.ticket.Ticket.{Ticket}
use Rattle.txn_kv.specs.declared.timestamp.Timestamp.{Timestamp}
use Rattle.txn_history.specs.Event.{Event, same_ticket}
use Rattle.txn_history.specs.Meaning.{Expects, Goes, IsLawful, IsUnbegun, Meaning, WasPosted}
use Rattle.txn_history.specs.Phase.{Awaited, IsPosted, IsRunning, Phase, phase_after, unheard}
use Rattle.txn_history.specs.Phase.Awaited.{TimeOf}
use Rattle.txn_history.specs.Phase.Phase.{Fresh, GivenUp, Over, Running}
use Rattle.txn_history.specs.Posted.{Posted, ticket_of}
use Rattle.txn_history.specs.Turn.{HasEnded, IfKept-all, IfKept-out, IfKept-stopped, Turn}
use Rattle.txn_history.specs.Turn.Turn.{Stopped, Waits, Ends}
use Rattle.txn_history.proofs.Arriving.{told_heard}
use Rattle.txn_history.proofs.Telling.{Expects-quiet, Expects-then, Goes-then}
use Rattle.txn_tso.specs.declared.stage.Stage.{Stage as Call_stage}
use Rattle.txn_tso.specs.declared.stage.Stage.TheVariants as tso
use Rattle.txn_commit.specs.Committing.{CommitterFits, IsAt}
use Rattle.txn_commit.specs.Following.{Commits, IsFollowed, KnowsCommits, awaits, heard, is_done, is_out, lost, or_ticket, sent, without}
use Rattle.txn_commit.specs.Going.{CommitterExpects, CommitterGoes, Opens, Relays, Resumes, Settles, stage_phase, stage_waits}
use Rattle.txn_commit.specs.Sending.{plan_of}
use Rattle.txn_plan.specs.Timing.{HasBegun, time_asked, time_asked-lawful}
use Rattle.txn_commit.specs.declared.commit_parts.CommitParts.{CommitParts}
use Rattle.txn_commit.specs.declared.committer.CommitterAnswer.{CommitterAnswer}
use Rattle.txn_commit.specs.declared.committer.CommitterCall.{CommitterCall}
use Rattle.txn_commit.specs.declared.committer.Stage.{Stage}
use Rattle.txn_commit.specs.declared.committer.Stage.TheVariants as stage
use Rattle.txn_plan.specs.declared.timestamp_call.TimestampCall.{TimestampCall}
use Rattle.txn_commit.specs.Ways.{Ways}
use Rattle.txn_commit.proofs.Sending.{settled_out, unsent_out}
use Rattle.txn_merge.specs.declared.retry_options.RetryOptions.{RetryOptions}
use Rattle.txn_history.specs.Arrivals.{awaited_as, told_by}
use Rattle.txn_plan.specs.LookUp.{call_phase}
use Rattle.txn_kv.specs.declared.arrival.Arrival.{Arrival}
use Rattle.txn_kv.specs.declared.arrival.Arrival.TheVariants as arrival

-- Turns and phases

-- what is not heard ends with no answer, and gives up only where the state had
unheard_gone : {V : Type 0} (p : Phase) (t : Turn V) → t ≡ Stopped → t ≡ unheard p → p ≡ GivenUp
unheard_gone Fresh t e f = let g = sym e ∙ f in cc
unheard_gone Running t e f = let g = sym e ∙ f in cc
unheard_gone Over t e f = let g = sym e ∙ f in cc
unheard_gone GivenUp t e f = refl

pub unheard_waits : {V : Type 0} (p : Phase) (t : Turn V) → t ≢ Stopped → t ≡ unheard p → t ≡ Waits
unheard_waits Fresh t n f = f
unheard_waits Running t n f = f
unheard_waits Over t n f = f
unheard_waits GivenUp t n f = absurd (n f)

unheard_both : {U V : Type 0} (p : Phase) (t : Turn U) (u : Turn V) → t ≡ Stopped → u ≡ Stopped → t ≡ unheard p → u ≡ unheard p
unheard_both p t u e f g = rw (unheard_gone p t e g) f

kept_after : {V : Type 0} (t : Turn V) → t ≢ Stopped → phase_after t ≢ GivenUp
kept_after Stopped n e = n refl
kept_after Waits n e = cc
kept_after (Ends v) n e = cc

ended_after : {V : Type 0} (t : Turn V) → HasEnded t → phase_after t ≡ Over
ended_after Stopped e = absurd e
ended_after Waits e = absurd e
ended_after (Ends v) e = refl

pub never_waits : {V : Type 0} {t : Turn V} {v : V} → t ≡ Ends v → t ≡ Waits → ⊥
never_waits e f = let g = sym e ∙ f in cc

never_runs : (p : Phase) → p ≡ Fresh → p ≡ Running → ⊥
never_runs p e f = let g = sym e ∙ f in cc

-- the call for a timestamp has not given up
pub asks_still : (t : TimestampCall) → t.call.stage ≢ tso.Stopped → time_asked.phase t ≢ GivenUp
asks_still t n = by t.call.stage n
  where
    by : (g : Call_stage) → g ≢ tso.Stopped → call_phase g ≢ GivenUp
    by tso.Fresh n e = cc
    by (tso.Sent k) n e = cc
    by (tso.Asked k) n e = cc
    by (tso.Reconnecting k l) n e = cc
    by (tso.Resting k l) n e = cc
    by tso.Over n e = cc
    by tso.Stopped n e = n refl

-- What is heard

Expects-map : {was is heard was' is' heard' : Awaited → Type 0} {from to : Posted}
    → ((a : Awaited) → is' a → is a) → ((a : Awaited) → was a → was' a) → ((a : Awaited) → heard' a → heard a)
    → Expects was is heard from to → Expects was' is' heard' from to
Expects-map {was} {heard} {was'} {heard'} f g h x = record {
  sends = x.sends;
  pushed = x.pushed;
  only = λ a w. elim (x.only a (f a w)) as (λ y. (was' a × (heard' a → ⊥)) ⊎ IsPosted x.sends a) [ inl b ↦ inl (g a b.0, λ k. b.1 (h a k)) | inr p ↦ inr p ];
}

-- a ticket that is not out is not taken out
not_out : (t : Ticket) (ts : List Ticket) → list_any (λ u. same_ticket u t) ts ≡ false → without t ts ≡ ts
not_out t [] e = refl
not_out t (u ∷ us) e = by (same_ticket u t) (λ f. not_out t us f) e
  where
    by : (b : Bool) → (list_any (λ x. same_ticket x t) us ≡ false → without t us ≡ us) → (b || list_any (λ x. same_ticket x t) us) ≡ false → cond (not b) (u ∷ without t us) (without t us) ≡ u ∷ us
    by true more f = cc
    by false more f = ap (λ (x : List Ticket). u ∷ x) (more f)

lost_other : (t : Ticket) (c : Commits) → is_out t c ≡ false → lost t c ≡ c
lost_other t c e = by (is_out t c) e
  where
    by : (b : Bool) → b ≡ false → (if b then record c { out = without t c.out; lost = or_ticket c.lost t } else c) ≡ c
    by true f = cc
    by false f = refl

pub heard_other : (a : Arrival) (o : Posted) (c : Commits) → awaits a o c ≡ false → heard a o c ≡ c
heard_other (arrival.Reply n x) o c e = by (is_done c.timestamp x)
  where
    by : (b : Bool) → (if b then c else record c { out = without (ticket_of o n) c.out }) ≡ c
    by true = refl
    by false = ap (λ (ts : List Ticket). record c { out = ts }) (not_out _ c.out e)
heard_other (arrival.Lost n) o c e = lost_other _ c e
heard_other (arrival.Slept n) o c e = refl
heard_other (arrival.Time n x) o c e = refl

-- where none is out nothing is heard of one
none_awaits : (a : Arrival) (o : Posted) (c : Commits) → c.out ≡ [] → awaits a o c ≡ false
none_awaits (arrival.Reply n x) o c e = rw e refl
none_awaits (arrival.Lost n) o c e = rw e refl
none_awaits (arrival.Slept n) o c e = refl
none_awaits (arrival.Time n x) o c e = refl

followed_unheard : (a : Arrival) (o : Posted) (c d : Commits) → c.out ≡ [] → IsFollowed o c d → IsFollowed o (heard a o c) d
followed_unheard a o c d e i = subst (λ x. IsFollowed o x d) (sym (heard_other a o c (none_awaits a o c e))) i

-- where nothing is posted no Commit was sent
pub quiet_sent : (from to : Posted) (n : ℕ) (t : Timestamp) (c : Commits) → n ≡ length from.sends → to ≡ from → sent to.line to.beat (drop n to.sends) t c ≡ c
quiet_sent from to n t c e f = rw (f, e, drop-length from.sends) refl

-- Calls of a plan of Commits, and what is noted of them

pub relays_on : {S A C : Type 0} {m : Meaning S A} {meant : Type 0} {old new : S} {from to : Posted} {pd pd' : C} {turn : Turn A}
    → Goes m.phase meant old new from to pd pd' turn → Relays m meant old new from to pd pd' turn
relays_on {turn} g = record { deaf = g.deaf; state = g.state; outbox = g.outbox; client = g.client; next = λ this. IfKept-all turn (g.next this) }

pub relays_stops : {S A C : Type 0} {m : Meaning S A} {meant : Type 0} {old new : S} {from to : Posted} {pd pd' : C} {p turn : Turn A}
    → p ≡ Stopped → turn ≡ Stopped → Goes m.phase meant old new from to pd pd' p → Relays m meant old new from to pd pd' turn
relays_stops {turn} e f g = record {
  deaf = λ other. f ∙ sym e ∙ g.deaf other;
  state = g.state;
  outbox = g.outbox;
  client = g.client;
  next = λ this. IfKept-stopped turn _ f;
}

-- more is posted, where the plan was told of what it waited for
same_length : {n : ℕ} (from to : Posted) → n ≡ length from.sends → n < length to.sends → to ≡ from → ⊥
same_length {n} from to e l f = let g : length to.sends ≡ length from.sends = ap (λ (o : Posted). length o.sends) f in omega arith

pub relays_fails : {S A C : Type 0} {m : Meaning S A} {meant : Type 0} {old new : S} {from to : Posted} {pd pd' : C} {p turn : Turn A} {n : ℕ}
    → n ≡ length from.sends → n < length to.sends → turn ≡ Stopped → Goes m.phase meant old new from to pd pd' p → Relays m meant old new from to pd pd' turn
relays_fails {from} {to} {turn} e l f g = record {
  deaf = λ other. absurd (same_length from to e l (g.outbox other));
  state = g.state;
  outbox = g.outbox;
  client = g.client;
  next = λ this. IfKept-stopped turn _ f;
}

pub never_more : {S A C : Type 0} {phase : S → Phase} {meant : Type 0} {old new : S} {from to : Posted} {pd pd' : C} {p : Turn A} {n : ℕ}
    → n ≡ length from.sends → n < length to.sends → Goes phase meant old new from to pd pd' p → (meant → ⊥) → ⊥
never_more {from} {to} e l g other = same_length from to e l (g.outbox other)

pub never_gone : {S A C : Type 0} {phase : S → Phase} {meant : Type 0} {old new : S} {from to : Posted} {pd pd' : C} {p : Turn A}
    → p ≡ Stopped → phase old ≢ GivenUp → Goes phase meant old new from to pd pd' p → (meant → ⊥) → ⊥
never_gone {phase} {old} {p} e n g other = n (unheard_gone (phase old) p e (g.deaf other))

pub relays_goes : {S A C : Type 0} {m : Meaning S A} {meant : Type 0} {old new : S} {from to : Posted} {pd pd' : C} {turn : Turn A}
    → turn ≢ Stopped → Relays m meant old new from to pd pd' turn → Goes m.phase meant old new from to pd pd' turn
relays_goes {turn} kept r = record { deaf = r.deaf; state = r.state; outbox = r.outbox; client = r.client; next = λ this. IfKept-out turn kept (r.next this) }

pub relays_after : {S A C : Type 0} {m : Meaning S A} {meant : Type 0} {old new : S} {from to : Posted} {pd pd' : C} {turn : Turn A}
    → turn ≢ Stopped → Relays m meant old new from to pd pd' turn → meant → m.phase new ≡ phase_after turn
relays_after {turn} kept r this = IfKept-out turn kept (r.next this)

-- It waits on with its last plan, or is over with it.

pub settles_waits : {P E : Type 0} (call : CommitterCall P) (inner : Turn E) → inner ≡ Waits → Settles inner call call Waits
settles_waits call inner e = record { deaf = λ x. refl; state = λ x. refl; ended = λ x. absurd (subst HasEnded e x); over = λ x. absurd (subst HasEnded e x) }

pub settles_over : {P E : Type 0} (old new : CommitterCall P) (inner : Turn E) (v : E) (turn : Turn (Result CommitterAnswer Error)) (x : Result CommitterAnswer Error)
    → inner ≡ Ends v → new ≡ record old { stage = stage.Over; width = new.width } → turn ≡ Ends x → Settles inner old new turn
settles_over {P} old new inner v turn x e f g = record {
  deaf = λ y. absurd (let z = sym e ∙ y in cc);
  state = λ y. absurd (let z = sym e ∙ y in cc);
  ended = λ y. subst HasEnded (sym g) tt;
  over = λ y. ap (λ (c : CommitterCall P). c.stage) f;
}

module _ {P : Type 0} (w : Ways P) where
  -- It begins.

  opens_still : (new : CommitterCall P) (g : Stage P) (from to : Posted) (turn : Turn (Result CommitterAnswer Error)) {was is heard : Awaited → Type 0}
      → new.stage ≡ g → stage_phase w g ≡ phase_after turn → ((a : Awaited) → stage_waits w g a → ⊥)
      → Expects was is heard from to
      → Opens w new from to turn
  opens_still new g from to turn e f n x = record {
    next = ap (stage_phase w) e ∙ f;
    expects = record { sends = x.sends; pushed = x.pushed; only = λ a y. absurd (n a (subst (λ s. stage_waits w s a) e y)) };
  }

  nothing : {o : Posted} → Expects (λ a. ⊥) (λ a. ⊥) (λ a. ⊥) o o
  nothing = Expects-quiet (λ a x. absurd x)

  -- it has ended, or gives up, and waits for nothing
  pub opens_over : (old new : CommitterCall P) (o : Posted) (v : Result CommitterAnswer Error) (turn : Turn (Result CommitterAnswer Error))
      → new ≡ record old { stage = stage.Over; width = new.width } → turn ≡ Ends v → Opens w new o o turn
  opens_over old new o v turn e f = opens_still new stage.Over o o turn (ap (λ (c : CommitterCall P). c.stage) e) (sym (ap phase_after f)) (λ a x. x) nothing

  pub opens_stopped : (old new : CommitterCall P) (from to : Posted) (turn : Turn (Result CommitterAnswer Error))
      → new ≡ record old { stage = stage.Stopped; width = new.width } → turn ≡ Stopped → to ≡ from → Opens w new from to turn
  opens_stopped old new from to turn e f g = rw g (opens_still new stage.Stopped from from turn (ap (λ (c : CommitterCall P). c.stage) e) (sym (ap phase_after f)) (λ a x. x) nothing)

  pub opens_gives_up : (old new : CommitterCall P) (from to : Posted) (turn : Turn (Result CommitterAnswer Error)) {was is heard : Awaited → Type 0}
      → new ≡ record old { stage = stage.Stopped; width = new.width } → turn ≡ Stopped → Expects was is heard from to → Opens w new from to turn
  opens_gives_up old new from to turn e f x = opens_still new stage.Stopped from to turn (ap (λ (c : CommitterCall P). c.stage) e) (sym (ap phase_after f)) (λ a y. y) x

  begun_waits : (t : TimestampCall) (from to : Posted) (a : Awaited) → HasBegun t from to → time_asked.waits t a → a ≡ TimeOf from.next_ask
  begun_waits t from to a b x = rw b.0 at x

  pub opens_asks : (new : CommitterCall P) (t : TimestampCall) (from to : Posted)
      → new.stage ≡ stage.Asking t → HasBegun t from to → Opens w new from to Waits
  opens_asks new t from to e b = record {
    next = ap (stage_phase w) e ∙ rw b.0 refl;
    expects = record {
      sends = Ask from.next_ask ∷ [];
      pushed = ap (λ (o : Posted). o.sends) b.1;
      only = λ a x. inr (Ask from.next_ask, inl refl, sym (begun_waits t from to a b (subst (λ s. stage_waits w s a) e x)));
    };
  }

  -- It goes on after a plan.

  pub resumes_waits : {E C : Type 0} (call : CommitterCall P) (o : Posted) (pd : C) (inner : Turn E) → inner ≡ Waits → Resumes w inner call call o o pd pd Waits
  resumes_waits call o pd inner e = record {
    goes = record { deaf = λ x. refl; state = λ x. refl; outbox = λ x. refl; client = λ x. refl; next = λ x. absurd (subst HasEnded e x) };
    expects = Expects-quiet (λ a x. (x, λ y. y));
  }

  pub resumes_next : {E C : Type 0} (old new : CommitterCall P) (from to : Posted) (pd pd' : C) (inner : Turn E) (v : E) (turn : Turn (Result CommitterAnswer Error))
      → inner ≡ Ends v → Opens w new from to turn → Resumes w inner old new from to pd pd' turn
  resumes_next old new from to pd pd' inner v turn e x = record {
    goes = record { deaf = λ f. absurd (never f); state = λ f. absurd (never f); outbox = λ f. absurd (never f); client = λ f. absurd (never f); next = λ f. x.next };
    expects = Expects-map (λ a y. y) (λ a y. absurd y) (λ a y. y) x.expects;
  }
    where
      never : inner ≡ Waits → ⊥
      never f = let g = sym e ∙ f in cc

  pub resumes_over : {E C : Type 0} (old new : CommitterCall P) (o : Posted) (pd : C) (inner : Turn E) (v : E) (turn : Turn (Result CommitterAnswer Error)) (x : Result CommitterAnswer Error)
      → inner ≡ Ends v → new ≡ record old { stage = stage.Over; width = new.width } → turn ≡ Ends x → Resumes w inner old new o o pd pd turn
  resumes_over old new o pd inner v turn x e f g = resumes_next old new o o pd pd inner v turn e (opens_over old new o x turn f g)

  pub resumes_settled : {E C : Type 0} (old new : CommitterCall P) (o : Posted) (pd : C) (inner : Turn E) (turn : Turn (Result CommitterAnswer Error))
      → inner ≢ Stopped → Settles inner old new turn → Resumes w inner old new o o pd pd turn
  resumes_settled {E} old new o pd inner turn kept s = record {
    goes = record {
      deaf = s.deaf;
      state = s.state;
      outbox = λ e. refl;
      client = λ e. refl;
      next = λ e. ap (stage_phase w) (s.over e) ∙ sym (ended_after turn (s.ended e));
    };
    expects = Expects-quiet (λ a x. (by inner kept s.state s.over a x, λ y. y));
  }
    where
      by : (inner : Turn E) → inner ≢ Stopped → (inner ≡ Waits → new ≡ old) → (HasEnded inner → new.stage ≡ stage.Over) → (a : Awaited) → stage_waits w new.stage a → stage_waits w old.stage a
      by Stopped n same over a x = absurd (n refl)
      by Waits n same over a x = subst (λ (c : CommitterCall P). stage_waits w c.stage a) (same refl) x
      by (Ends v) n same over a x = absurd (subst (λ s. stage_waits w s a) (over tt) x)

  -- It hears nothing.

  pub goes_idle : {C : Type 0} (call : CommitterCall P) (g : Stage P) (a : Awaited) (o : Posted) (pd : C) (turn : Turn (Result CommitterAnswer Error))
      → call.stage ≡ g → ((x : Awaited) → stage_waits w g x → ⊥) → turn ≡ unheard (stage_phase w g)
      → CommitterGoes w (stage_waits w call.stage a) call call o o pd pd turn
  goes_idle call g a o pd turn e n t = record {
    deaf = λ other. t ∙ ap (λ x. unheard (stage_phase w x)) (sym e);
    state = λ other. refl;
    outbox = λ other. refl;
    client = λ other. refl;
    next = λ this. absurd (n a (subst (λ x. stage_waits w x a) e this));
  }

  pub expects_idle : (call : CommitterCall P) (g : Stage P) (heard : Awaited → Type 0) (o : Posted)
      → call.stage ≡ g → ((x : Awaited) → stage_waits w g x → ⊥) → CommitterExpects w heard call call o o
  expects_idle call g heard o e n = Expects-quiet (λ a x. absurd (n a (subst (λ y. stage_waits w y a) e x)))

  -- The plan of a stage goes on.

  module _ {S E : Type 0} (m : Meaning S E) (g : S → Stage P)
      (stands : (s : S) → stage_phase w (g s) ≡ m.phase s)
      (waits : (s : S) (a : Awaited) → stage_waits w (g s) a → m.waits s a) (waits' : (s : S) (a : Awaited) → m.waits s a → stage_waits w (g s) a) where
    meant_so : (call : CommitterCall P) (s : S) (a : Awaited) → call.stage ≡ g s → stage_waits w call.stage a → m.waits s a
    meant_so call s a e x = waits s a (subst (λ y. stage_waits w y a) e x)

    is_meant : (call : CommitterCall P) (s : S) (a : Awaited) → call.stage ≡ g s → m.waits s a → stage_waits w call.stage a
    is_meant call s a e x = subst (λ y. stage_waits w y a) (sym e) (waits' s a x)

    stands_so : (call : CommitterCall P) (s : S) → call.stage ≡ g s → stage_phase w call.stage ≡ m.phase s
    stands_so call s e = ap (stage_phase w) e ∙ stands s

    pub plan_goes : {C : Type 0} (call : CommitterCall P) (s s' : S) (a : Awaited) (o o' : Posted) (pd pd' : C) (turn : Turn E)
        → call.stage ≡ g s
        → Goes m.phase (m.waits s a) s s' o o' pd pd' turn
        → Goes (λ (c : CommitterCall P). stage_phase w c.stage) (stage_waits w call.stage a) call (record call { stage = g s' }) o o' pd pd' turn
    plan_goes call s s' a o o' pd pd' turn e t = record {
      deaf = λ other. t.deaf (λ x. other (is_meant call s a e x)) ∙ ap (λ x. unheard x) (sym (stands_so call s e));
      state = λ other. ap (λ (x : S). record call { stage = g x }) (t.state (λ x. other (is_meant call s a e x))) ∙ ap (λ (x : Stage P). record call { stage = x }) (sym e);
      outbox = λ other. t.outbox (λ x. other (is_meant call s a e x));
      client = λ other. t.client (λ x. other (is_meant call s a e x));
      next = λ this. stands s' ∙ t.next (meant_so call s a e this);
    }

    -- and then the whole
    pub goes_then : {C : Type 0} (call new : CommitterCall P) (s s' : S) (a : Awaited) (o via o' : Posted) (pd mid pd' : C) (p : Turn E) (turn : Turn (Result CommitterAnswer Error))
        → call.stage ≡ g s → p ≢ Stopped
        → Goes m.phase (m.waits s a) s s' o via pd mid p
        → Resumes w p (record call { stage = g s' }) new via o' mid pd' turn
        → CommitterGoes w (stage_waits w call.stage a) call new o o' pd pd' turn
    goes_then call new s s' a o via o' pd mid pd' p turn e kept t r = Goes-then p kept (plan_goes call s s' a o via pd mid p e t) r.goes

    -- the plan gives up, and the stage keeps it
    pub goes_stops : {C : Type 0} (call : CommitterCall P) (s s' : S) (a : Awaited) (o o' : Posted) (pd pd' : C) (p : Turn E) (turn : Turn (Result CommitterAnswer Error))
        → call.stage ≡ g s → p ≡ Stopped → turn ≡ Stopped
        → Goes m.phase (m.waits s a) s s' o o' pd pd' p
        → CommitterGoes w (stage_waits w call.stage a) call (record call { stage = g s' }) o o' pd pd' turn
    goes_stops call s s' a o o' pd pd' p turn e f h t = let x = plan_goes call s s' a o o' pd pd' p e t in record {
      deaf = λ other. unheard_both (stage_phase w call.stage) p turn f h (x.deaf other);
      state = x.state;
      outbox = x.outbox;
      client = x.client;
      next = λ this. x.next this ∙ ap phase_after f ∙ sym (ap phase_after h);
    }

    -- the call gives up, and its plan had not
    pub goes_gives_up : {C : Type 0} (call new : CommitterCall P) (s s' : S) (a : Awaited) (o o' : Posted) (pd pd' : C) (p : Turn E) (turn : Turn (Result CommitterAnswer Error))
        → call.stage ≡ g s → m.phase s ≢ GivenUp → p ≡ Stopped → turn ≡ Stopped
        → new ≡ record (record call { stage = g s' }) { stage = stage.Stopped; width = new.width }
        → ((m.waits s a → ⊥) → p ≡ unheard (m.phase s))
        → CommitterGoes w (stage_waits w call.stage a) call new o o' pd pd' turn
    goes_gives_up call new s s' a o o' pd pd' p turn e n f h i deaf = record {
      deaf = λ other. absurd (never other);
      state = λ other. absurd (never other);
      outbox = λ other. absurd (never other);
      client = λ other. absurd (never other);
      next = λ this. ap (λ (c : CommitterCall P). stage_phase w c.stage) i ∙ sym (ap phase_after h);
    }
      where
        never : (stage_waits w call.stage a → ⊥) → ⊥
        never other = n (unheard_gone (m.phase s) p f (deaf (λ x. other (is_meant call s a e x))))

    plan_expects : (call : CommitterCall P) (s s' : S) (a : Arrival) (r : Request) (o o' : Posted)
        → call.stage ≡ g s
        → Expects (m.waits s) (m.waits s') (told_by a o r).heard o o'
        → CommitterExpects w (λ x. x ≡ awaited_as a) call (record call { stage = g s' }) o o'
    plan_expects call s s' a r o o' e x = Expects-map (λ b y. waits s' b y) (λ b y. is_meant call s b e y) (λ b y. told_heard a o r b y) x

    pub expects_then : {C : Type 0} (call new : CommitterCall P) (s s' : S) (a : Arrival) (r : Request) (o via o' : Posted) (pd pd' : C) (p : Turn E) (turn : Turn (Result CommitterAnswer Error))
        → call.stage ≡ g s
        → Expects (m.waits s) (m.waits s') (told_by a o r).heard o via
        → Resumes w p (record call { stage = g s' }) new via o' pd pd' turn
        → CommitterExpects w (λ x. x ≡ awaited_as a) call new o o'
    expects_then call new s s' a r o via o' pd pd' p turn e x y = Expects-then (plan_expects call s s' a r o via e x) y.expects

    pub expects_stops : (call : CommitterCall P) (s s' : S) (a : Arrival) (r : Request) (o o' : Posted)
        → call.stage ≡ g s
        → Expects (m.waits s) (m.waits s') (told_by a o r).heard o o'
        → CommitterExpects w (λ x. x ≡ awaited_as a) call (record call { stage = g s' }) o o'
    expects_stops = plan_expects

    pub expects_gives_up : (call new : CommitterCall P) (s s' : S) (a : Arrival) (r : Request) (o o' : Posted)
        → call.stage ≡ g s
        → new ≡ record (record call { stage = g s' }) { stage = stage.Stopped; width = new.width }
        → Expects (m.waits s) (m.waits s') (told_by a o r).heard o o'
        → CommitterExpects w (λ x. x ≡ awaited_as a) call new o o'
    expects_gives_up call new s s' a r o o' e f x = record {
      sends = x.sends;
      pushed = x.pushed;
      only = λ b y. absurd (subst (λ (c : CommitterCall P). stage_waits w c.stage b) f y);
    }

    -- A plan that is not begun is started.

    begun : (mid : CommitterCall P) (s s' : S) (from via : Posted) {heard : Awaited → Type 0}
        → mid.stage ≡ g s' → IsLawful m → IsUnbegun m s
        → Expects (m.waits s) (m.waits s') heard from via
        → Expects (λ a. ⊥) (stage_waits w mid.stage) (λ a. ⊥) from via
    begun mid s s' from via e law u x = Expects-map (λ a y. meant_so mid s' a e y) (λ a y. never_runs (m.phase s) u.phase (law.runs s a y)) (λ a y. absurd y) x

    pub opens_then : {C : Type 0} (mid new : CommitterCall P) (s s' : S) (from via to : Posted) (pd pd' : C) (p : Turn E) (turn : Turn (Result CommitterAnswer Error)) {heard : Awaited → Type 0}
        → mid.stage ≡ g s' → p ≢ Stopped → IsLawful m → IsUnbegun m s → m.phase s' ≡ phase_after p
        → Expects (m.waits s) (m.waits s') heard from via
        → Resumes w p mid new via to pd pd' turn
        → Opens w new from to turn
    opens_then mid new s s' from via to pd pd' p turn e kept law u f x r = record {
      next = by p kept f r;
      expects = Expects-then (begun mid s s' from via e law u x) r.expects;
    }
      where
        by : (p : Turn E) → p ≢ Stopped → m.phase s' ≡ phase_after p → Resumes w p mid new via to pd pd' turn → stage_phase w new.stage ≡ phase_after turn
        by Stopped n f r = absurd (n refl)
        by Waits n f r = let x = r.goes in ap (λ (c : CommitterCall P). stage_phase w c.stage) (x.state refl) ∙ (stands_so mid s' e ∙ (f ∙ sym (ap phase_after (x.deaf refl))))
        by (Ends v) n f r = let x = r.goes in x.next tt

    pub opens_stops : (mid : CommitterCall P) (s s' : S) (from via : Posted) (p : Turn E) (turn : Turn (Result CommitterAnswer Error)) {heard : Awaited → Type 0}
        → mid.stage ≡ g s' → p ≡ Stopped → turn ≡ Stopped → IsLawful m → IsUnbegun m s → m.phase s' ≡ phase_after p
        → Expects (m.waits s) (m.waits s') heard from via
        → Opens w mid from via turn
    opens_stops mid s s' from via p turn e f h law u i x = record {
      next = stands_so mid s' e ∙ (i ∙ (ap phase_after f ∙ sym (ap phase_after h)));
      expects = begun mid s s' from via e law u x;
    }

-- while the call sends no Commit of the primary, none is out
abbrev pub IsElsewhere : {P : Type 0} → Stage P → Type 0
IsElsewhere (stage.Committing q t) = ⊥
IsElsewhere stage.Over = ⊥
IsElsewhere stage.Stopped = ⊥
IsElsewhere g = ⊤

module _ {P : Type 0} (w : Ways P) where
  out_at : (options : RetryOptions) (s : ℕ) (parts : CommitParts) (g : Stage P) (c : Commits) (o : Posted) (h : List Event)
      → IsElsewhere g → KnowsCommits (plan_of parts) s c h → IsAt w options s parts g c o h → c.out ≡ []
  out_at options s parts (stage.Prewriting x) c o h e k i = unsent_out (plan_of parts) s c h i.first k
  out_at options s parts (stage.Asking t) c o h e k i = unsent_out (plan_of parts) s c h i.first k
  out_at options s parts (stage.Committing q t) c o h e k i = absurd e
  out_at options s parts (stage.RollingBackPrimary x) c o h e k i = settled_out c i.settled
  out_at options s parts (stage.RollingBackOthers x) c o h e k i = settled_out c i.0.settled
  out_at options s parts stage.Over c o h e k i = absurd e
  out_at options s parts stage.Stopped c o h e k i = absurd e

  -- so it hears of none
  pub followed_elsewhere : (call : CommitterCall P) (g : Stage P) (a : Arrival) (c d : Commits) (o : Posted) (h : List Event)
      → call.stage ≡ g → IsElsewhere g → CommitterFits w call c o h → IsFollowed o c d → IsFollowed o (heard a o c) d
  followed_elsewhere call g a c d o h e i f k = followed_unheard a o c d (out_at call.retry_options (version_of call.start) call.parts call.stage c o h (subst IsElsewhere (sym e) i) f.knows f.at) k

-- A commit or a rollback waits for something exactly while it runs, and that was posted.
module _ {P : Type 0} (w : Ways P) (p : IsLawful w.plan) where
  pub stage_runs : (g : Stage P) (a : Awaited) → stage_waits w g a → stage_phase w g ≡ Running
  stage_runs (stage.Prewriting s) a x = p.runs s a x
  stage_runs (stage.Asking t) a x = time_asked-lawful.runs t a x
  stage_runs (stage.Committing s t) a x = p.runs s a x
  stage_runs (stage.RollingBackPrimary s) a x = p.runs s a x
  stage_runs (stage.RollingBackOthers s) a x = p.runs s a x
  stage_runs stage.Over a x = absurd x
  stage_runs stage.Stopped a x = absurd x

  pub call_waits : (call : CommitterCall P) (c : Commits) (o : Posted) (h : List Event) → CommitterFits w call c o h → stage_phase w call.stage ≡ Running → (a : Awaited) × stage_waits w call.stage a
  call_waits call c o h f e = by call.stage f.at e
    where
      by : (g : Stage P) → IsAt w call.retry_options (version_of call.start) call.parts g c o h → stage_phase w g ≡ Running → (a : Awaited) × stage_waits w g a
      by (stage.Prewriting s) i e = p.waits s o h i.now e
      by (stage.Asking t) i e = time_asked-lawful.waits t o h i.now e
      by (stage.Committing s t) i e = p.waits s o h i.now e
      by (stage.RollingBackPrimary s) i e = p.waits s o h i.now e
      by (stage.RollingBackOthers s) i e = p.waits s o h i.0.now e
      by stage.Over i e = absurd (subst IsRunning (sym e) tt)
      by stage.Stopped i e = absurd (subst IsRunning (sym e) tt)

  pub call_posted : (call : CommitterCall P) (c : Commits) (o : Posted) (h : List Event) (a : Awaited) → CommitterFits w call c o h → stage_waits w call.stage a → WasPosted o h a
  call_posted call c o h a f x = by call.stage f.at x
    where
      by : (g : Stage P) → IsAt w call.retry_options (version_of call.start) call.parts g c o h → stage_waits w g a → WasPosted o h a
      by (stage.Prewriting s) i x = p.posted s o h a i.now x
      by (stage.Asking t) i x = time_asked-lawful.posted t o h a i.now x
      by (stage.Committing s t) i x = p.posted s o h a i.now x
      by (stage.RollingBackPrimary s) i x = p.posted s o h a i.now x
      by (stage.RollingBackOthers s) i x = p.posted s o h a i.0.now x
      by stage.Over i x = absurd x
      by stage.Stopped i x = absurd x
