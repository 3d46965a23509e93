-- What others send and take changes nothing of what a transaction knows.
use Rattle.std.proofs.Common.{◌≡◌, ◌⊎◌, inl, inr, ℕ, true, false, List, [], ◌∷◌, ◌++◌, append_assoc, Some, refl, sym, ap, subst, ◌∙◌}
use Rattle.txn_kv.specs.Timestamp.{version_of}
use Rattle.txn_kv.specs.declared.request.commits.CommitRequest.{CommitRequest}
use Rattle.txn_kv.specs.declared.request.Request.TheVariants.{Commit}
use Rattle.txn_kv.specs.declared.ticket.Ticket.{Ticket}
use Rattle.txn_kv.specs.declared.timestamp.Timestamp.{Timestamp}
use Rattle.txn_history.specs.Event.{Event, Has}
use Rattle.txn_history.specs.Event.Event.{Sent}
use Rattle.txn_history.specs.Later.{IsLater, IsLater-ticket}
use Rattle.txn_history.specs.Licence.{WantedAfter, WasNamed}
use Rattle.txn_history.specs.Meaning.{IsLawful}
use Rattle.txn_history.specs.Plan.{Key, Plan}
use Rattle.txn_history.specs.Posted.{Posted, Within, ticket_of}
use Rattle.txn_buffer.specs.Contents.{Contents}
use Rattle.txn_commit.specs.Committing.{CommitterFits, IsAt, IsReady, IsRollingBack}
use Rattle.txn_commit.specs.Following.{Commits, CommitsPrimary, KnowsCommits}
use Rattle.txn_commit.specs.Parts.{parts_of}
use Rattle.txn_commit.specs.Sending.{plan_of}
use Rattle.txn_plan.specs.Timing.{time_asked-lawful}
use Rattle.txn_commit.specs.declared.commit_parts.CommitParts.{CommitParts}
use Rattle.txn_commit.specs.declared.committer.CommitterCall.{CommitterCall}
use Rattle.txn_commit.specs.declared.committer.Stage.{Stage}
use Rattle.txn_commit.specs.declared.committer.Stage.TheVariants as stage
use Rattle.txn_commit.specs.Ways.{Ways}
use Rattle.txn_commit.proofs.Sending.{acknowledged_longer, given_longer, rolled_longer}
use Rattle.txn_core.proofs.Going.{some_same, undone_longer}
use Rattle.txn_merge.specs.declared.retry_options.RetryOptions.{RetryOptions}
use Rattle.txn_core.specs.Going.{IsAtWork, KnowsParts, NamesReady, TransactionFits}
use Rattle.txn_core.specs.Others.{AddsNone, AddsNoPrimaryOf, AddsNothingOf, IsBeside, SendsNone}
use Rattle.txn_core.specs.Status.{allows_data}
use Rattle.txn_core.specs.Transaction.{Standing}
use Rattle.txn_core.specs.declared.status.Status.{Status}
use Rattle.txn_core.specs.declared.transaction.Work.{Work}
use Rattle.txn_core.specs.declared.transaction.Work.TheVariants.{Idle, Open, GaveUp}

-- newer events

pub newer_or_older : (newer h : List Event) (e : Event) → Has (newer ++ h) e → Has newer e ⊎ Has h e
newer_or_older [] h e i = inr i
newer_or_older (x ∷ newer) h e (inl f) = inl (inl f)
newer_or_older (x ∷ newer) h e (inr i) = elim (newer_or_older newer h e i) [ inl j ↦ inl (inr j) | inr j ↦ inr j ]

older : (newer h : List Event) → Within h (newer ++ h)
older [] h e i = i
older (x ∷ newer) h e i = inr (older newer h e i)

pub adds_within : (is : CommitRequest → Type 0) (h longer : List Event) → AddsNone is h longer → Within h longer
adds_within is h longer a = subst (λ (k : List Event). Within h k) (sym a.grown) (older a.newer h)

pub adds_same : (is : CommitRequest → Type 0) (h : List Event) → AddsNone is h h
adds_same is h = record { newer = []; grown = refl; none = λ t r i x. i }

none_appended : (is : CommitRequest → Type 0) (newer more : List Event) → SendsNone is newer → SendsNone is more → SendsNone is (more ++ newer)
none_appended is newer more n m t r i x = elim (newer_or_older more newer (Sent t (Commit r)) i) [ inl j ↦ m t r j x | inr j ↦ n t r j x ]

pub adds_further : (is : CommitRequest → Type 0) (a b c : List Event) → AddsNone is a b → AddsNone is b c → AddsNone is a c
adds_further is a b c n m = record {
  newer = m.newer ++ n.newer;
  grown = m.grown ∙ ap (λ (k : List Event). m.newer ++ k) n.grown ∙ sym (append_assoc m.newer n.newer a);
  none = none_appended is n.newer m.newer n.none m.none;
}

adds_fewer : (is fewer : CommitRequest → Type 0) (h longer : List Event) → ((r : CommitRequest) → fewer r → is r) → AddsNone is h longer → AddsNone fewer h longer
adds_fewer is fewer h longer w a = record { newer = a.newer; grown = a.grown; none = λ t r i x. a.none t r i (w r x) }

pub adds_one : (is : CommitRequest → Type 0) (e : Event) (h : List Event) → ((t : Ticket) (r : CommitRequest) → e ≡ Sent t (Commit r) → is r → ⊥) → AddsNone is h (e ∷ h)
adds_one is e h n = record { newer = e ∷ []; grown = refl; none = λ t r i x. elim i [ inl f ↦ n t r f x | inr j ↦ j ] }

pub adds_event : (s : ℕ) (e : Event) (h : List Event) → IsBeside s e → AddsNothingOf s h (e ∷ h)
adds_event s e h b = adds_one (λ r. r.start_version ≡ s) e h (λ t r f x. subst (λ (y : Event). IsBeside s y) f b x)

pub adds_no_primary : (plan : Plan) (s : ℕ) (h longer : List Event) → AddsNothingOf s h longer → AddsNoPrimaryOf plan s h longer
adds_no_primary plan s h longer a = adds_fewer (λ r. r.start_version ≡ s) (CommitsPrimary plan s) h longer (λ r x. x.start) a

-- what is known of Commits

sent_before : (is : CommitRequest → Type 0) (newer h : List Event) (t : Ticket) (r : CommitRequest) → SendsNone is newer → is r → Has (newer ++ h) (Sent t (Commit r)) → Has h (Sent t (Commit r))
sent_before is newer h t r n x i = elim (newer_or_older newer h (Sent t (Commit r)) i) [ inl j ↦ absurd (n t r j x) | inr j ↦ j ]

named_before : (plan : Plan) (s d : ℕ) (newer h : List Event) → SendsNone (CommitsPrimary plan s) newer → WasNamed plan (newer ++ h) s d → WasNamed plan h s d
named_before plan s d newer h n w = (w.0, w.1, sent_before (CommitsPrimary plan s) newer h w.0 w.1 n (record { start = w.3; primary = w.5 }) w.2, w.3, w.4, w.5)

knows_on : (plan : Plan) (s : ℕ) (c : Commits) (newer h : List Event) → SendsNone (CommitsPrimary plan s) newer → KnowsCommits plan s c h → KnowsCommits plan s c (newer ++ h)
knows_on plan s c newer h n k = record {
  named = λ d w. k.named d (named_before plan s d newer h n w);
  since = λ u f. let w = k.since u f in (w.0, w.1, older newer h _ w.2, w.3, w.4, w.5);
  waiting = λ u a. let w = k.waiting u a in (w.0, older newer h _ w.1, w.2);
  losing = λ u l. let w = k.losing u l in (w.0, older newer h _ w.1, w.2);
  all = λ u r g p. elim (k.all u r (sent_before (CommitsPrimary plan s) newer h u r n p g) p) [
    | inl w ↦ inl (w.0, older newer h _ w.1, w.2)
    | inr w ↦ inr w
  ];
}

wanted_on : (plan : Plan) (s : ℕ) (a : Ticket) (newer h : List Event) → WantedAfter plan h s a → WantedAfter plan (newer ++ h) s a
wanted_on plan s a [] h w = w
wanted_on plan s a (e ∷ newer) h w = inr (wanted_on plan s a newer h w)

ready_on : (plan : Plan) (s c : ℕ) (newer h : List Event) → IsReady plan s c h → IsReady plan s c (newer ++ h)
ready_on plan s c newer h r = record {
  keys = acknowledged_longer plan s h (newer ++ h) (older newer h) r.keys;
  ask = r.ask;
  given = r.given;
  wanted = wanted_on plan s r.ask newer h r.wanted;
  answered = older newer h _ r.answered;
  at = r.at;
}

names_on : (plan : Plan) (s : ℕ) (newer h : List Event) → SendsNone (CommitsPrimary plan s) newer → NamesReady plan s h → NamesReady plan s (newer ++ h)
names_on plan s newer h n k d w = ready_on plan s d newer h (k d (named_before plan s d newer h n w))

module _ {P : Type 0} (w : Ways P) (lawful : IsLawful w.plan) where
  -- an open call

  back_on : (options : RetryOptions) (s : ℕ) (parts : CommitParts) (keys : List Key) (k : P) (c : Commits) (o p : Posted) (newer h : List Event) → IsLater o p
      → IsRollingBack w.plan (w.unrolled options) s parts keys k c o h → IsRollingBack w.plan (w.unrolled options) s parts keys k c p (newer ++ h)
  back_on options s parts keys k c o p newer h l i = record {
    now = lawful.fits_longer k o p h (newer ++ h) l (older newer h) i.now;
    way = i.way;
    settled = i.settled;
    primary_first = λ x m. elim (i.primary_first x m) [ inl e ↦ inl e | inr r ↦ inr (rolled_longer (plan_of parts) s h (newer ++ h) (older newer h) r) ];
  }

  at_on : (options : RetryOptions) (s : ℕ) (parts : CommitParts) (g : Stage P) (c : Commits) (o p : Posted) (newer h : List Event) → IsLater o p
      → IsAt w options s parts g c o h → IsAt w options s parts g c p (newer ++ h)
  at_on options s parts (stage.Prewriting x) c o p newer h l i = record {
    now = lawful.fits_longer x o p h (newer ++ h) l (older newer h) i.now;
    whole = i.whole;
    is = i.is;
    way = i.way;
    given = given_longer s h (newer ++ h) (older newer h) i.given;
    first = i.first;
  }
  at_on options s parts (stage.Asking t) c o p newer h l i = record {
    keys = acknowledged_longer (plan_of parts) s h (newer ++ h) (older newer h) i.keys;
    given = given_longer s h (newer ++ h) (older newer h) i.given;
    first = i.first;
    now = time_asked-lawful.fits_longer t o p h (newer ++ h) l (older newer h) i.now;
    asked = λ n a. subst (λ (u : Ticket). WantedAfter (plan_of parts) (newer ++ h) s u) (sym (IsLater-ticket l n)) (wanted_on (plan_of parts) s (ticket_of o n) newer h (i.asked n a));
  }
  at_on options s parts (stage.Committing q t) c o p newer h l i = record {
    now = lawful.fits_longer q o p h (newer ++ h) l (older newer h) i.now;
    way = i.way;
    ready = ready_on (plan_of parts) s (version_of t) newer h i.ready;
    same = i.same;
  }
  at_on options s parts (stage.RollingBackPrimary k) c o p newer h l i = back_on options s parts (parts.primary ∷ []) k c o p newer h l i
  at_on options s parts (stage.RollingBackOthers k) c o p newer h l i = (back_on options s parts parts.secondaries k c o p newer h l i.0, rolled_longer (plan_of parts) s h (newer ++ h) (older newer h) i.1)
  at_on options s parts stage.Over c o p newer h l i = tt
  at_on options s parts stage.Stopped c o p newer h l i = tt

  call_on : (call : CommitterCall P) (c : Commits) (o p : Posted) (newer h : List Event) → IsLater o p
      → SendsNone (CommitsPrimary (plan_of call.parts) (version_of call.start)) newer
      → CommitterFits w call c o h → CommitterFits w call c p (newer ++ h)
  call_on call c o p newer h l n f = record {
    start = f.start;
    formed = f.formed;
    knows = knows_on (plan_of call.parts) (version_of call.start) c newer h n f.knows;
    at = at_on call.retry_options (version_of call.start) call.parts call.stage c o p newer h l f.at;
  }

  -- the transaction

  parts_on : (s : ℕ) (c : Commits) (parts : CommitParts) (newer h : List Event) → SendsNone (CommitsPrimary (plan_of parts) s) newer → KnowsParts s c h parts → KnowsParts s c (newer ++ h) parts
  parts_on s c parts newer h n k = record {
    formed = k.formed;
    knows = knows_on (plan_of parts) s c newer h n k.knows;
    ready = names_on (plan_of parts) s newer h n k.ready;
  }

  work_on : (options : RetryOptions) (start : Timestamp) (status : Status) (contents : Contents) (c : Commits) (work : Work P) (o p : Posted) (newer h : List Event) → IsLater o p
      → ((parts : CommitParts) → parts_of contents ≡ Some parts → SendsNone (CommitsPrimary (plan_of parts) (version_of start)) newer)
      → IsAtWork w options start status contents c work o h → IsAtWork w options start status contents c work p (newer ++ h)
  work_on options start status contents c Idle o p newer h l n f = record {
    of_parts = λ parts e. parts_on (version_of start) c parts newer h (n parts e) (f.of_parts parts e);
    empty = f.empty;
  }
  work_on options start status contents c (Open call) o p newer h l n u = record {
    own = u.own;
    retries = u.retries;
    started = u.started;
    back = u.back;
    whole = u.whole;
    ready = names_on (plan_of call.parts) (version_of call.start) newer h own u.ready;
    fits = call_on call c o p newer h l own u.fits;
  }
    where
      own : SendsNone (CommitsPrimary (plan_of call.parts) (version_of call.start)) newer
      own = subst (λ (x : Timestamp). SendsNone (CommitsPrimary (plan_of call.parts) (version_of x)) newer) (sym u.own) (n call.parts u.whole)
  work_on options start status contents c GaveUp o p newer h l n f = tt

  grown_fits : (t : Standing P) (o p : Posted) (newer h : List Event) → IsLater o p
      → (allows_data t.status ≡ true → SendsNone (λ r. r.start_version ≡ version_of t.start) newer)
      → ((parts : CommitParts) → parts_of t.contents ≡ Some parts → SendsNone (CommitsPrimary (plan_of parts) (version_of t.start)) newer)
      → TransactionFits w t o h → TransactionFits w t p (newer ++ h)
  grown_fits t o p newer h l unsent unnamed f = record {
    given = given_longer (version_of t.start) h (newer ++ h) (older newer h) f.given;
    unsent = λ a. let u = f.unsent a in record { none = u.none; never = λ q r i e. u.never q r (sent_before (λ (x : CommitRequest). x.start_version ≡ version_of t.start) newer h q r (unsent a) e i) e };
    settled = f.settled;
    undone = λ a. undone_longer (version_of t.start) t.contents h (newer ++ h) (older newer h) (f.undone a);
    at = work_on t.options.retry_options t.start t.status t.contents t.commits t.work o p newer h l unnamed f.at;
  }

  -- no Commit of its start is new
  pub others_fit : (t : Standing P) (o p : Posted) (h longer : List Event) → IsLater o p → AddsNothingOf (version_of t.start) h longer
      → TransactionFits w t o h → TransactionFits w t p longer
  others_fit t o p h longer l a f = subst (λ (k : List Event). TransactionFits w t p k) (sym a.grown)
      (grown_fits t o p a.newer h l (λ d. a.none) (λ parts e q r i x. a.none q r i x.start) f)

  -- no Commit of its start is new that names its primary, and it is no longer written
  pub others_fit_still : (t : Standing P) (parts : CommitParts) (o p : Posted) (h longer : List Event) → allows_data t.status ≡ false → parts_of t.contents ≡ Some parts
      → IsLater o p → AddsNoPrimaryOf (plan_of parts) (version_of t.start) h longer
      → TransactionFits w t o h → TransactionFits w t p longer
  others_fit_still t parts o p h longer d e l a f = subst (λ (k : List Event). TransactionFits w t p k) (sym a.grown)
      (grown_fits t o p a.newer h l (λ y. absurd (let g = sym d ∙ y in cc)) (λ more g. subst (λ (x : CommitParts). SendsNone (CommitsPrimary (plan_of x) (version_of t.start)) a.newer) (some_same e g) a.none) f)

-- between calls it waits for nothing of an outbox
pub idle_fits : {P : Type 0} (w : Ways P) (t : Standing P) (o p : Posted) (h : List Event) → t.work ≡ Idle → TransactionFits w t o h → TransactionFits w t p h
idle_fits w t o p h i f = record {
  given = f.given;
  unsent = f.unsent;
  settled = f.settled;
  undone = f.undone;
  at = subst (λ x. IsAtWork w t.options.retry_options t.start t.status t.contents t.commits x p h) (sym i) (subst (λ x. IsAtWork w t.options.retry_options t.start t.status t.contents t.commits x o h) i f.at);
}
