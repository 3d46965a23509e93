-- Where a transaction stands as its open call goes on, and what it waits for.
use Rattle.std.proofs.Common.{◌≡◌, ◌≢◌, inl, inr, true, false, List, [], ◌∷◌, Option, Some, None, refl, sym, ap, subst, ◌∙◌}
use Rattle.std.specs.Prelude.{Result, Ok, Err}
use Rattle.txn_kv.specs.Timestamp.{HasVersion}
use Rattle.txn_kv.specs.declared.errors.Error.{Error}
use Rattle.txn_kv.specs.declared.timestamp.Timestamp.{Timestamp}
use Rattle.txn_history.specs.Event.{Event}
use Rattle.txn_history.specs.Meaning.{Expects, Goes, IsLawful, Meaning, WasPosted}
use Rattle.txn_history.specs.Phase.{Awaited, IsRunning, Phase, phase_after, unheard}
use Rattle.txn_history.specs.Phase.Phase.{Fresh, GivenUp, Over, Running}
use Rattle.txn_history.specs.Plan.{Key}
use Rattle.txn_history.specs.Posted.{Posted}
use Rattle.txn_history.specs.Turn.{HasEnded, IfEnds, Turn}
use Rattle.txn_history.specs.Turn.Turn.{Stopped, Waits, Ends}
use Rattle.txn_history.proofs.Telling.{Expects-quiet}
use Rattle.txn_commit.specs.Ways.{Ways}
use Rattle.txn_commit.specs.Following.{Commits, awaits}
use Rattle.txn_commit.specs.Going.{CommitterExpects, CommitterGoes, stage_phase, stage_waits}
use Rattle.txn_commit.specs.Going.{Opens as CallOpens}
use Rattle.txn_commit.specs.declared.committer.CommitterAnswer.{CommitterAnswer}
use Rattle.txn_commit.specs.declared.committer.CommitterCall.{CommitterCall}
use Rattle.txn_commit.specs.declared.secondary_job.SecondaryJob.{SecondaryJob}
use Rattle.txn_commit.proofs.Going.{call_posted, call_waits, stage_runs, unheard_waits}
use Rattle.txn_merge.specs.declared.retry_options.RetryOptions.{RetryOptions}
use Rattle.txn_core.specs.Going.{HasFailed, IsAtWork, IsCommittedAt, IsJobFor, TransactionFits, TransactionReady, WorkReady}
use Rattle.txn_core.specs.Transaction.{Standing, has_given_up, is_open}
use Rattle.txn_core.specs.Waiting.{Follows, HandsOut, Opens, Rests, TransactionGoes, work_phase, work_waits}
use Rattle.txn_core.specs.declared.transaction.Work.{Work}
use Rattle.txn_core.specs.declared.transaction.Work.TheVariants.{Idle, Open, GaveUp}
use Rattle.txn_core.specs.declared.txn_answer.TxnAnswer.{TxnAnswer}
use Rattle.txn_core.specs.declared.txn_answer.TxnAnswer.TheVariants as answer
use Rattle.txn_kv.specs.declared.arrival.Arrival.{Arrival}

is_running : (p : Phase) → ((p ≡ Running → ⊥) → ⊥) → p ≡ Running
is_running Fresh n = absurd (n (λ (q : Fresh ≡ Running). cc))
is_running Running n = refl
is_running Over n = absurd (n (λ (q : Over ≡ Running). cc))
is_running GivenUp n = absurd (n (λ (q : GivenUp ≡ Running). cc))

-- a state that waited, and waits on, runs on
pub runs_still : {S A C : Type 0} (phase : S → Phase) {meant : Type 0} {old new : S} {from to : Posted} {pd pd' : C} {p : Turn A}
    → phase old ≡ Running → Goes phase meant old new from to pd pd' p → p ≡ Waits → phase new ≡ Running
runs_still phase {new = new} r g e = is_running (phase new) (λ n. n (ap phase (g.state (λ this. n (g.next this ∙ ap phase_after e))) ∙ r))

-- What it hands out

hands_job : {P B : Type 0} (m : Meaning P (Result B Error)) (options : RetryOptions) (start t : Timestamp) (keys : List Key) (job : Option (SecondaryJob P))
    → HasVersion start → HasVersion t → IsJobFor options start t keys job → HandsOut m (Ok (answer.Committed (Some t) job))
hands_job m options start t [] None u v j = (v, tt)
hands_job m options start t [] (Some job) u v j = absurd j
hands_job m options start t (k ∷ ks) None u v j = absurd j
hands_job m options start t (k ∷ ks) (Some job) u v j = (v, (rw j.own u, rw j.at v, rw j.stage tt))

pub hands_committed : {P B : Type 0} (m : Meaning P (Result B Error)) (options : RetryOptions) (start t : Timestamp) (keys : List Key) (turn : Turn (Result (TxnAnswer P) Error))
    → HasVersion start → HasVersion t → IsCommittedAt options start t keys turn → IfEnds turn (HandsOut m)
hands_committed m options start t keys turn u v (job, e, j) = rw e (hands_job m options start t keys job u v j)

pub hands_nothing : {P B : Type 0} (m : Meaning P (Result B Error)) (turn : Turn (Result (TxnAnswer P) Error)) → HasFailed turn → IfEnds turn (HandsOut m)
hands_nothing m Stopped f = tt
hands_nothing m Waits f = tt
hands_nothing m (Ends (Ok v)) f = absurd f
hands_nothing m (Ends (Err e)) f = tt

module _ {P : Type 0} (w : Ways P) where
  -- It rests.

  pub rests_idle : (new : Standing P) (turn : Turn (Result (TxnAnswer P) Error)) → new.work ≡ Idle → HasEnded turn → Rests w new turn
  rests_idle new turn e h = record { next = ap (work_phase w) e ∙ over turn h; silent = λ a x. subst (λ y. work_waits w y a) e x }
    where
      over : (turn : Turn (Result (TxnAnswer P) Error)) → HasEnded turn → Over ≡ phase_after turn
      over Stopped h = absurd h
      over Waits h = absurd h
      over (Ends v) h = refl

  pub rests_gone : (new : Standing P) (turn : Turn (Result (TxnAnswer P) Error)) → new.work ≡ GaveUp → turn ≡ Stopped → Rests w new turn
  rests_gone new turn e f = record { next = ap (work_phase w) e ∙ sym (ap phase_after f); silent = λ a x. subst (λ y. work_waits w y a) e x }

  pub follows_waits : (call : CommitterCall P) (inner : Turn (Result CommitterAnswer Error)) (old new : Standing P)
      → inner ≡ Waits → new ≡ record old { work = Open call } → Follows w call inner old new Waits
  follows_waits call inner old new e f = record { deaf = λ x. refl; state = λ x. f; ended = λ x. absurd (subst HasEnded e x) }

  pub follows_ends : (call : CommitterCall P) (inner : Turn (Result CommitterAnswer Error)) (v : Result CommitterAnswer Error) (old new : Standing P) (turn : Turn (Result (TxnAnswer P) Error))
      → inner ≡ Ends v → Rests w new turn → Follows w call inner old new turn
  follows_ends call inner v old new turn e r = record { deaf = λ x. absurd (never x); state = λ x. absurd (never x); ended = λ x. r }
    where
      never : inner ≡ Waits → ⊥
      never x = let g = sym e ∙ x in cc

  -- It begins a call.

  pub opens_rests : (new : Standing P) (o : Posted) (turn : Turn (Result (TxnAnswer P) Error)) → Rests w new turn → Opens w new o o turn
  opens_rests new o turn r = record { next = r.next; expects = Expects-quiet (λ a x. absurd (r.silent a x)) }

  -- what it waits for is what its open call does
  open_waits : (call : CommitterCall P) (inner : Turn (Result CommitterAnswer Error)) (mid new : Standing P) (turn : Turn (Result (TxnAnswer P) Error))
      → inner ≢ Stopped → Follows w call inner mid new turn → (a : Awaited) → work_waits w new.work a → stage_waits w call.stage a
  open_waits call Stopped mid new turn n f a x = absurd (n refl)
  open_waits call Waits mid new turn n f a x = subst (λ (t : Standing P). work_waits w t.work a) (f.state refl) x
  open_waits call (Ends v) mid new turn n f a x = let r = f.ended tt in absurd (r.silent a x)

  open_next : (call : CommitterCall P) (inner : Turn (Result CommitterAnswer Error)) (mid new : Standing P) (turn : Turn (Result (TxnAnswer P) Error))
      → inner ≢ Stopped → stage_phase w call.stage ≡ phase_after inner → Follows w call inner mid new turn → work_phase w new.work ≡ phase_after turn
  open_next call Stopped mid new turn n e f = absurd (n refl)
  open_next call Waits mid new turn n e f = ap (λ (t : Standing P). work_phase w t.work) (f.state refl) ∙ (e ∙ sym (ap phase_after (f.deaf refl)))
  open_next call (Ends v) mid new turn n e f = let r = f.ended tt in r.next

  pub opens_call : (call : CommitterCall P) (inner : Turn (Result CommitterAnswer Error)) (mid new : Standing P) (from to : Posted) (turn : Turn (Result (TxnAnswer P) Error))
      → inner ≢ Stopped → CallOpens w call from to inner → Follows w call inner mid new turn → Opens w new from to turn
  opens_call call inner mid new from to turn n c f = record {
    next = open_next call inner mid new turn n c.next f;
    expects = let x = c.expects in record { sends = x.sends; pushed = x.pushed; only = λ a y. x.only a (open_waits call inner mid new turn n f a y) };
  }

  pub opens_gone : (call : CommitterCall P) (inner : Turn (Result CommitterAnswer Error)) (new : Standing P) (from to : Posted) (turn : Turn (Result (TxnAnswer P) Error))
      → new.work ≡ GaveUp → turn ≡ Stopped → CallOpens w call from to inner → Opens w new from to turn
  opens_gone call inner new from to turn e f c = let r = rests_gone new turn e f in record {
    next = r.next;
    expects = let x = c.expects in record { sends = x.sends; pushed = x.pushed; only = λ a y. absurd (r.silent a y) };
  }

  pub call_runs : (call : CommitterCall P) (inner : Turn (Result CommitterAnswer Error)) (from to : Posted) → CallOpens w call from to inner → inner ≡ Waits → stage_phase w call.stage ≡ Running
  call_runs call inner from to c e = c.next ∙ ap phase_after e

  -- Its open call goes on.

  pub goes_call : {C : Type 0} (call call' : CommitterCall P) (old mid new : Standing P) (d : Commits) (meant : Type 0) (from to : Posted) (pd pd' : C)
      (inner : Turn (Result CommitterAnswer Error)) (turn : Turn (Result (TxnAnswer P) Error))
      → inner ≢ Stopped → stage_phase w call.stage ≡ Running → mid ≡ record old { commits = d }
      → CommitterGoes w meant call call' from to pd pd' inner
      → Follows w call' inner mid new turn
      → TransactionGoes w meant (record old { work = Open call; commits = new.commits }) new from to pd pd' turn
  goes_call call call' old mid new d meant from to pd pd' inner turn n r e g f = record {
    deaf = λ other. f.deaf (still other) ∙ sym (ap unheard r);
    state = λ other. same other ∙ ap (λ (x : Commits). record old { work = Open call; commits = x }) (sym (ap (λ (t : Standing P). t.commits) (same other)));
    outbox = g.outbox;
    client = g.client;
    next = λ this. open_next call' inner mid new turn n (g.next this) f;
  }
    where
      still : (meant → ⊥) → inner ≡ Waits
      still other = unheard_waits (stage_phase w call.stage) inner n (g.deaf other)

      same : (meant → ⊥) → new ≡ record old { work = Open call; commits = d }
      same other = f.state (still other) ∙ (ap (λ (x : CommitterCall P). record mid { work = Open x }) (g.state other) ∙ ap (λ (t : Standing P). record t { work = Open call }) e)

  pub goes_gone : {C : Type 0} (call call' : CommitterCall P) (old new : Standing P) (meant : Type 0) (from to : Posted) (pd pd' : C)
      (inner : Turn (Result CommitterAnswer Error)) (turn : Turn (Result (TxnAnswer P) Error))
      → inner ≡ Stopped → turn ≡ Stopped → stage_phase w call.stage ≡ Running → new.work ≡ GaveUp
      → CommitterGoes w meant call call' from to pd pd' inner
      → TransactionGoes w meant (record old { work = Open call; commits = new.commits }) new from to pd pd' turn
  goes_gone call call' old new meant from to pd pd' inner turn e h r i g = record {
    deaf = λ other. absurd (never other);
    state = λ other. absurd (never other);
    outbox = λ other. absurd (never other);
    client = λ other. absurd (never other);
    next = λ this. ap (work_phase w) i ∙ sym (ap phase_after h);
  }
    where
      never : (meant → ⊥) → ⊥
      never other = let x : inner ≡ Waits = g.deaf other ∙ ap unheard r in let y = sym e ∙ x in cc

  pub expects_call : (call call' : CommitterCall P) (mid new : Standing P) (heard : Awaited → Type 0) (from to : Posted)
      (inner : Turn (Result CommitterAnswer Error)) (turn : Turn (Result (TxnAnswer P) Error))
      → inner ≢ Stopped → Follows w call' inner mid new turn
      → CommitterExpects w heard call call' from to
      → Expects (stage_waits w call.stage) (work_waits w new.work) heard from to
  expects_call call call' mid new heard from to inner turn n f x = record { sends = x.sends; pushed = x.pushed; only = λ a y. x.only a (open_waits call' inner mid new turn n f a y) }

  pub expects_gone : (call call' : CommitterCall P) (new : Standing P) (heard : Awaited → Type 0) (from to : Posted)
      → new.work ≡ GaveUp
      → CommitterExpects w heard call call' from to
      → Expects (stage_waits w call.stage) (work_waits w new.work) heard from to
  expects_gone call call' new heard from to e x = record { sends = x.sends; pushed = x.pushed; only = λ a y. absurd (subst (λ z. work_waits w z a) e y) }

  -- It is told of something.

  pub goes_open : {C : Type 0} (a : Awaited) (call : CommitterCall P) (old mid new : Standing P) (from to : Posted) (pd pd' : C) (turn : Turn (Result (TxnAnswer P) Error))
      → old.work ≡ Open call → mid ≡ record old { work = GaveUp }
      → TransactionGoes w (stage_waits w call.stage a) (record mid { work = Open call; commits = new.commits }) new from to pd pd' turn
      → TransactionGoes w (work_waits w old.work a) (record old { commits = new.commits }) new from to pd pd' turn
  goes_open a call old mid new from to pd pd' turn i e g =
      let g' = subst (λ (x : Standing P). TransactionGoes w (stage_waits w call.stage a) (record x { work = Open call; commits = new.commits }) new from to pd pd' turn) e g in
      subst (λ (x : Work P). TransactionGoes w (work_waits w x a) (record old { work = x; commits = new.commits }) new from to pd pd' turn) (sym i) g'

  pub goes_still : {C : Type 0} (a : Awaited) (old new : Standing P) (g : Work P) (o : Posted) (pd : C) (turn : Turn (Result (TxnAnswer P) Error))
      → old.work ≡ g → ((x : Awaited) → work_waits w g x → ⊥) → new ≡ old → turn ≡ unheard (work_phase w g)
      → TransactionGoes w (work_waits w old.work a) (record old { commits = new.commits }) new o o pd pd turn
  goes_still a old new g o pd turn i n e t = record {
    deaf = λ other. t ∙ ap (λ x. unheard (work_phase w x)) (sym i);
    state = λ other. e ∙ ap (λ (x : Commits). record old { commits = x }) (sym (ap (λ (s : Standing P). s.commits) e));
    outbox = λ other. refl;
    client = λ other. refl;
    next = λ this. absurd (n a (subst (λ x. work_waits w x a) i this));
  }

  pub expects_still : (old new : Standing P) (heard : Awaited → Type 0) (g : Work P) (o : Posted)
      → new.work ≡ g → ((x : Awaited) → work_waits w g x → ⊥) → Expects (work_waits w old.work) (work_waits w new.work) heard o o
  expects_still old new heard g o i n = Expects-quiet (λ a x. absurd (n a (subst (λ y. work_waits w y a) i x)))

  pub expects_open : (call : CommitterCall P) (old : Standing P) {is heard : Awaited → Type 0} {from to : Posted}
      → old.work ≡ Open call → Expects (stage_waits w call.stage) is heard from to → Expects (work_waits w old.work) is heard from to
  expects_open call old i x = record {
    sends = x.sends;
    pushed = x.pushed;
    only = λ a y. elim (x.only a y) [ inl b ↦ inl (subst (λ z. work_waits w z a) (sym i) b.0, b.1) | inr p ↦ inr p ];
  }

  pub commits_open : (arrival : Arrival) (o : Posted) (a : Awaited) (call : CommitterCall P) (old mid new : Standing P)
      → old.work ≡ Open call → mid ≡ record old { work = GaveUp }
      → ((stage_waits w call.stage a → ⊥) → awaits arrival o mid.commits ≡ false → new.commits ≡ mid.commits)
      → (work_waits w old.work a → ⊥) → awaits arrival o old.commits ≡ false → new.commits ≡ old.commits
  commits_open arrival o a call old mid new i e f other out =
      let same : mid.commits ≡ old.commits = ap (λ (t : Standing P). t.commits) e in
      f (λ x. other (subst (λ z. work_waits w z a) (sym i) x)) (subst (λ c. awaits arrival o c ≡ false) (sym same) out) ∙ same

  -- what is ready runs while it is open
  pub busy_runs : (t : Standing P) → TransactionReady w t → is_open t.work ≡ true → work_phase w t.work ≡ Running
  busy_runs t r e = by t.work r.work e
    where
      by : (g : Work P) → WorkReady w t.start g → is_open g ≡ true → work_phase w g ≡ Running
      by Idle r e = absurd (cc)
      by (Open call) r e = r.2
      by GaveUp r e = absurd (cc)

pub gone_work : {P : Type 0} (w : Work P) → has_given_up w ≡ true → w ≡ GaveUp
gone_work Idle g = absurd (cc)
gone_work (Open call) g = absurd (cc)
gone_work GaveUp g = refl

-- It waits for something exactly while it runs, and that was posted.
module _ {P : Type 0} (w : Ways P) (p : IsLawful w.plan) where
  pub work_runs : (g : Work P) (a : Awaited) → work_waits w g a → work_phase w g ≡ Running
  work_runs Idle a x = absurd x
  work_runs (Open call) a x = stage_runs w p call.stage a x
  work_runs GaveUp a x = absurd x

  pub standing_waits : (t : Standing P) (o : Posted) (h : List Event) → TransactionFits w t o h → work_phase w t.work ≡ Running → (a : Awaited) × work_waits w t.work a
  standing_waits t o h f e = by t.work f.at e
    where
      by : (g : Work P) → IsAtWork w t.options.retry_options t.start t.status t.contents t.commits g o h → work_phase w g ≡ Running → (a : Awaited) × work_waits w g a
      by Idle i e = absurd (subst IsRunning (sym e) tt)
      by (Open call) i e = call_waits w p call t.commits o h i.fits e
      by GaveUp i e = absurd (subst IsRunning (sym e) tt)

  pub standing_posted : (t : Standing P) (o : Posted) (h : List Event) (a : Awaited) → TransactionFits w t o h → work_waits w t.work a → WasPosted o h a
  standing_posted t o h a f x = by t.work f.at x
    where
      by : (g : Work P) → IsAtWork w t.options.retry_options t.start t.status t.contents t.commits g o h → work_waits w g a → WasPosted o h a
      by Idle i x = absurd x
      by (Open call) i x = call_posted w p call t.commits o h a i.fits x
      by GaveUp i x = absurd x
